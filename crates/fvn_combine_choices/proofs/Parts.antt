-- The parts of a plan: each stands for the one constant that its solution has, or for a new variable.
use Rattle.std.proofs.Common.{◌≡◌, ℕ, ◌<◌, List, sym, ap, subst, ◌⊎◌, inl, inr, arith, Contains}
use Rattle.std.proofs.lemmas.Bool.{cases_eq}
use Rattle.std.proofs.lemmas.List.Elements.{All-contains}
use Rattle.fvn_base.specs.Decided.{Decided}
use Rattle.fvn_base.proofs.Decided.{some_or_none}
use Rattle.fvn_base.proofs.Membership.{contains_map, map_contains}
use Rattle.fvn_terms.specs.declared.plain.OpId.{OpId}
use Rattle.fvn_terms.specs.declared.declarations.Declarations.{Declarations}
use Rattle.fvn_lindio.specs.Systems.{IsMinimal, rows_of}
use Rattle.fvn_flat.specs.Bindings.{Bindings}
use Rattle.fvn_flat.specs.SolvedLists.{Part, Plan, component}
use Rattle.fvn_flat.specs.declared.solver.Pairs.{Pairs}
use Rattle.fvn_combine_nodes.specs.Table.{NodeTable}
use Rattle.fvn_combine_nodes.specs.States.{class_of}
use Rattle.fvn_combine_nodes.specs.declared.state.State.{State}
use Rattle.fvn_combine_systems.specs.NodeSystems.{IsNodeSystem}
use Rattle.fvn_combine_leaves.specs.Leaves.{IsSumOperator, Uses}
use Rattle.fvn_combine_choices.specs.Binding.{IsConstant}
use Rattle.fvn_combine_choices.specs.Choosing.{Systems, Choice, taken, IsAcceptable}
use Rattle.fvn_combine_choices.specs.Plans.{StandsFor, IsForSolution}
use Rattle.fvn_combine_choices.specs.Laws.{IsPlanned}
use Rattle.fvn_combine_choices.proofs.Planned.{column_below}
use Rattle.fvn_combine_choices.proofs.Columns.{column_listed, chosen_listed, some_above, one_of_sum}
use Rattle.fvn_combine_choices.proofs.Using.{uses_decided, solution_uses}
use Rattle.fvn_combine_choices.proofs.Bound.{bound_decided}

module _ {d : Declarations} {given : Pairs} {first : ℕ} {t : NodeTable} {s : State} {y : Systems} {c : Choice} {next : ℕ} {plan : Plan} {bindings : Bindings} (h : IsPlanned d given first t s y c next plan bindings) (f : OpId) (sum : IsSumOperator d t f) where
  acceptable : IsAcceptable d t (class_of s) y c f
  acceptable = h.possible.acceptable f sum

  is_system : IsNodeSystem t (class_of s) f (y.columns f) (y.system f)
  is_system = h.systems.is_system f sum

  -- how often class k has the part
  abbrev pub has : Part → ℕ → ℕ
  has p k = component (y.columns f) p.solution k

  -- the plan's columns are those of the system
  pub component_is : (p : Part) (k : ℕ) → component (plan.columns f) p.solution k ≡ has p k
  component_is p k = ap (λ l. component l p.solution k) (h.plan_by.columns f sum)

  pub part_taken : (p : Part) → Contains (plan.parts f) p → Contains (taken y c f) p.solution
  part_taken p m = subst (λ l. Contains l p.solution) (h.plan_by.solutions f sum) (contains_map (λ q. q.solution) (plan.parts f) p m)

  pub taken_part : (v : List ℕ) → Contains (taken y c f) v → (p : Part) × (Contains (plan.parts f) p × (p.solution ≡ v))
  taken_part v m = map_contains (λ q. q.solution) (plan.parts f) v (subst (λ l. Contains l v) (sym (h.plan_by.solutions f sum)) m)

  pub taken_minimal : (v : List ℕ) → Contains (taken y c f) v → IsMinimal (y.system f).columns (rows_of (y.system f)) v
  taken_minimal v m = h.systems.minimal f sum v (chosen_listed (c.number f) (y.basis f) v m)

  pub part_minimal : (p : Part) → Contains (plan.parts f) p → IsMinimal (y.system f).columns (rows_of (y.system f)) p.solution
  part_minimal p m = taken_minimal p.solution (part_taken p m)

  constant_decided : (k : ℕ) → Contains (y.columns f) k → Decided (IsConstant d t (class_of s) c.tag f k)
  constant_decided k m = elim (uses_decided d t (class_of s) f (y.columns f) (y.system f) is_system sum.associative k) [
    | inl u ↦ elim (bound_decided h.partition y c k (plan.form k) (h.plan_by.forms k (column_below h f k ((is_system.exact k).0 m))) f) [
      | inl b ↦ inr (λ is. is.not_bound b)
      | inr n ↦ inl record { used = u; not_bound = n }
    ]
    | inr n ↦ inr (λ is. n is.used)
  ]

  -- the part has a constant, and its name stands for it
  pub record HasConstant (p : Part) : Type 0 where
    pub number : ℕ
    pub constant : IsConstant d t (class_of s) c.tag f number
    pub some : 0 < has p number
    pub named : p.variable ≡ plan.name number

  -- the part has none, and a new variable stands for it
  pub record HasNone (p : Part) : Type 0 where
    pub none : (k : ℕ) → IsConstant d t (class_of s) c.tag f k → has p k ≡ 0
    pub new : IsForSolution d t first next f p.variable

  abbrev Touches : Part → ℕ → Type 0
  Touches p k = IsConstant d t (class_of s) c.tag f k × (0 < has p k)

  touches_decided : (p : Part) (k : ℕ) → Decided (Touches p k)
  touches_decided p k = elim (cases_eq (has p k) 0) [
    | inl z ↦ inr (λ w. let some = w.1 in omega (arith, z, some))
    | inr o ↦
        let some : 0 < has p k = omega (arith, o) in
        elim (constant_decided k (column_listed (y.columns f) p.solution k some)) [
          | inl is ↦ inl (is, some)
          | inr n ↦ inr (λ w. n w.0)
        ]
  ]

  pub part_stands : (p : Part) → Contains (plan.parts f) p → HasConstant p ⊎ HasNone p
  part_stands p m =
      let stands = All-contains (StandsFor d t (class_of s) y c first next plan f) (plan.parts f) p (h.plan_by.standing f sum) m in
      elim (some_or_none (Touches p) (touches_decided p) (y.columns f)) [
        | inl r ↦ inl record { number = r.0; constant = r.1.1.0; some = r.1.1.1; named = stands.constant r.0 r.1.1.0 r.1.1.1 }
        | inr n ↦ inr record { none = none_at n; new = stands.other (none_at n) }
      ]
    where
      none_at : ((k : ℕ) → Contains (y.columns f) k → Touches p k → ⊥) → (k : ℕ) → IsConstant d t (class_of s) c.tag f k → has p k ≡ 0
      none_at n k is = elim (cases_eq (has p k) 0) [
        | inl z ↦ z
        | inr o ↦
            let some : 0 < has p k = omega (arith, o) in
            absurd (n k (column_listed (y.columns f) p.solution k some) (is, some))
      ]

  -- a class that a part has is used
  pub part_uses : (p : Part) → Contains (plan.parts f) p → (k : ℕ) → 0 < has p k → Uses d t (class_of s) f k
  part_uses p m k some = solution_uses d t (class_of s) f (y.columns f) (y.system f) is_system sum.associative p.solution (part_minimal p m).solves k some

  -- a constant that a part has stands in it once
  pub constant_once : (p : Part) → Contains (plan.parts f) p → (k : ℕ) → IsConstant d t (class_of s) c.tag f k → 0 < has p k → has p k ≡ 1
  constant_once p m k is some =
      let all = acceptable.once k is in
      let one = one_of_sum (λ v. component (y.columns f) v k) (taken y c f) p.solution (part_taken p m) in
      omega (arith, all, one, some)

  -- and no other constant does
  pub constants_apart : (p : Part) → Contains (plan.parts f) p → (k l : ℕ) → IsConstant d t (class_of s) c.tag f k → IsConstant d t (class_of s) c.tag f l → 0 < has p k → 0 < has p l → k ≡ l
  constants_apart p m k l hk hl a b = acceptable.apart k l hk hl (record { solution = p.solution; among = part_taken p m; left = a; right = b })

  -- each constant has a part
  pub constant_part : (k : ℕ) → IsConstant d t (class_of s) c.tag f k → (p : Part) × (Contains (plan.parts f) p × (0 < has p k))
  constant_part k is =
      let all = acceptable.once k is in
      let r = some_above (λ v. component (y.columns f) v k) (taken y c f) (omega (arith, all)) in
      let q = taken_part r.0 r.1.0 in
      (q.0, (q.1.0, subst (λ v. 0 < component (y.columns f) v k) (sym q.1.1) r.1.1))

  -- a part that has a constant stands for it
  pub part_named : (p : Part) → Contains (plan.parts f) p → (k : ℕ) → IsConstant d t (class_of s) c.tag f k → 0 < has p k → p.variable ≡ plan.name k
  part_named p m k is some = (All-contains (StandsFor d t (class_of s) y c first next plan f) (plan.parts f) p (h.plan_by.standing f sum) m).constant k is some
