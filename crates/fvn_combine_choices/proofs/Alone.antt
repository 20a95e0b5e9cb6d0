-- A constant unfolds to a single summand.
use Rattle.std.proofs.Common.{◌≡◌, ◌≢◌, ℕ, ◌<◌, ◌≤◌, List, [], ◌∷◌, length, map, zero, suc, replicate, refl, sym, ap, ◌∙◌, subst, inl, inr, arith, Contains, Some}
use Rattle.std.specs.List.{AllByRecursion}
use Rattle.std.proofs.lemmas.Bool.{cases_lt}
use Rattle.std.proofs.lemmas.List.{length-map}
use Rattle.std.proofs.lemmas.List.Elements.{All-contains, Contains-append_left, Contains-append_right}
use Rattle.fvn_base.proofs.Membership.{contains_here, contains_cases, contains_none}
use Rattle.fvn_base.proofs.Options.{Some-injective}
use Rattle.fvn_terms.specs.declared.plain.Var.{Var}
use Rattle.fvn_terms.specs.declared.plain.OpId.{OpId}
use Rattle.fvn_terms.specs.declared.declarations.Declarations.{Declarations}
use Rattle.fvn_terms.specs.Signature.{axioms}
use Rattle.fvn_terms.specs.Equality.{IsAssociative, identity}
use Rattle.fvn_terms.specs.Substitution.{Occurs}
use Rattle.fvn_forms.specs.Flat.{FlatTerm, fvar, plain}
use Rattle.fvn_forms.specs.Canon.{parts, all_parts, empty_sum, sum, build, inst}
use Rattle.fvn_forms.specs.Settled.{IsPiece}
use Rattle.fvn_forms.proofs.InOrder.{length_sort}
use Rattle.fvn_flat.proofs.Occurrences.{OccursIn}
use Rattle.fvn_forms.proofs.Sums.{all_parts-pieces}
use Rattle.fvn_forms.proofs.Instances.{parts_inst_sum}
use Rattle.fvn_flat.specs.Bindings.{Bindings}
use Rattle.fvn_flat.specs.Problems.{variables_of}
use Rattle.fvn_flat.specs.Solving.{problem_of}
use Rattle.fvn_flat.specs.SolvedLists.{Form, unbound, as_member, as_sum, Part, Plan, IsClass, IsBinding, members, members_of, bound_as}
use Rattle.fvn_flat.specs.declared.solver.Pairs.{Pairs}
use Rattle.fvn_combine_nodes.specs.Table.{NodeTable, IsOver}
use Rattle.fvn_combine_nodes.specs.Laws.{class_at}
use Rattle.fvn_combine_nodes.specs.States.{class_of}
use Rattle.fvn_combine_nodes.specs.declared.state.State.{State}
use Rattle.fvn_combine_supports.specs.Laws.{CombinationsSolve}
use Rattle.fvn_combine_systems.specs.Laws.{CountsSolve}
use Rattle.fvn_combine_leaves.specs.Leaves.{IsSumOperator, IsSolid, IsShared}
use Rattle.fvn_combine_choices.specs.Binding.{IsBound, solid, alone, tagged, IsConstant}
use Rattle.fvn_combine_choices.specs.Choosing.{Systems, Choice, member_count}
use Rattle.fvn_combine_choices.specs.Plans.{IsForSolution, IsFormBy, unfolds_to}
use Rattle.fvn_combine_choices.specs.Laws.{IsPlanned}
use Rattle.fvn_combine_choices.proofs.Triangular.{IsUnbound, triangular_induction, unfolding_unbound, unfolding_settled}
use Rattle.fvn_combine_choices.proofs.Solids.{pair_of}
use Rattle.fvn_combine_choices.proofs.Planned.{has_sums, class_below, column_class, name_not_given, solution_no_name, solution_not_given, bound_operator}
use Rattle.fvn_combine_choices.proofs.Parts.{component_is, part_taken, part_stands}
use Rattle.fvn_combine_choices.proofs.Members.{times_in, each_member}
use Rattle.fvn_combine_choices.proofs.Standing.{length_sum, names_are}
use Rattle.fvn_combine_choices.proofs.Values.{value, value_sum, simple_built, members_or_identity, are_values}
use Rattle.fvn_combine_choices.proofs.Occurring.{occurs_sum}
use Rattle.fvn_combine_choices.proofs.Pieces.{long_piece, long_sum, simple_piece, constant_piece as other_piece}

module _ {d : Declarations} {given : Pairs} {first : ℕ} {t : NodeTable} {s : State} {y : Systems} {c : Choice} {next : ℕ} {plan : Plan} {bindings : Bindings} (h : IsPlanned d given first t s y c next plan bindings) where
  -- what stands for a solution is not bound
  pub solution_unbound : (f : OpId) (x : Var) → IsForSolution d t first next f x → IsUnbound bindings x
  solution_unbound f x new b m e = elim (All-contains (IsBinding d (problem_of given) (class_at t (class_of s)) plan) bindings b h.bindings_by.no_other m) [
    | inl r ↦ solution_no_name h f x new r.0 (class_below h r.0 r.1) (sym r.2 ∙ e)
    | inr r ↦ solution_not_given h f x new (subst (Contains (variables_of (problem_of given))) e r.0)
  ]

  unbound_piece : (f : OpId) (x : Var) → IsUnbound bindings x → IsPiece d f (unfolds_to d bindings x)
  unbound_piece f x u = subst (IsPiece d f) (sym (unfolding_unbound d bindings x u)) refl

  -- a variable that is not bound
  abbrev IsNewMember : FlatTerm → Type 0
  IsNewMember u = (x : Var) × ((u ≡ fvar x) × IsUnbound bindings x)

  -- x is no name of a constant that is not a single summand
  abbrev IsAlone : Var → Type 0
  IsAlone x = (f : OpId) (k : ℕ) → IsSumOperator d t f → IsConstant d t (class_of s) c.tag f k → x ≡ plan.name k → IsPiece d f (unfolds_to d bindings x)

  -- a constant over nothing is not the identity of its operator
  no_identity : (f : OpId) (k : ℕ) → IsConstant d t (class_of s) c.tag f k → (i : ℕ) (e : OpId) → class_of s i ≡ k → IsOver t.nodes i e [] → identity (axioms d f) ≡ Some e → ⊥
  no_identity f k is i e of over id =
      let has = has_sums h in
      let column = is.used.column in
      let u = has.all_units column.sum f e (column.left ∷ column.right ∷ []) column.listed column.over id in
      let p = u.1 in
      let m : Contains t.units p = (u.0, u.2, u.3) in
      let unit = has.units p m in
      let same = Some-injective (sym unit.1 ∙ ap (λ o. identity (axioms d o)) u.4 ∙ id) in
      let together = (h.partition.nodes i p.1 e e [] [] over (subst (λ o. IsOver t.nodes p.1 o []) same unit.2)).congruent refl refl in
      column.no_identity (u.0, p, u.2, u.3, (u.4, sym together ∙ of))

  -- where the variables in a sum are single summands, so are its members
  module _ (g : OpId) (sum_of : IsSumOperator d t g) where
    member_piece : (p : Part) → Contains (plan.parts g) p → IsAlone p.variable → IsPiece d g (unfolds_to d bindings p.variable)
    member_piece p m single = elim (part_stands h g sum_of p m) [
      | inl r ↦ single g r.number sum_of r.constant r.named
      | inr r ↦ unbound_piece g p.variable (solution_unbound g p.variable r.new)
    ]

    -- a sum of two or more has two or more summands
    long_value : (k : ℕ) → IsClass d (problem_of given) (class_at t (class_of s)) k → IsBound d t (class_of s) c.tag g k → AllByRecursion (IsPiece d g) (map (inst d (unfolds_to d bindings)) (members_of d (problem_of given) (class_at t (class_of s)) plan g k)) → 2 ≤ member_count y c g k → 2 ≤ length (parts d g (value h k))
    long_value k is bound pieces two =
        let U = unfolds_to d bindings in
        let l = members_of d (problem_of given) (class_at t (class_of s)) plan g k in
        let e = ap length (ap (parts d g) (value_sum h g k is bound) ∙ parts_inst_sum d U (unfolding_settled d bindings) g sum_of.associative l (members_or_identity h g k bound)) in
        let a = length_sort (all_parts d g (map (inst d U) l)) in
        let b = ap length (all_parts-pieces d g (map (inst d U) l) pieces) in
        let m = length-map l (inst d U) in
        let n = length_sum h g sum_of k in
        omega (arith, e, a, b, m, n, two)

  -- the variables of members stand in a sum
  module _ (g : OpId) (k : ℕ) where
    in_list : (l : List FlatTerm) (x : Var) → Contains l (fvar x) → OccursIn x l
    in_list [] x m = absurd (contains_none (fvar x) m)
    in_list (u ∷ l) x m = elim (contains_cases u l (fvar x) m) [
      | inl e ↦ inl (subst (λ w. Occurs x (plain w)) (sym e) refl)
      | inr r ↦ inr (in_list l x r)
    ]

    member_listed : (p : Part) (parts : List Part) → Contains parts p → 0 < times_in (plan.columns g) k p → Contains (members (plan.columns g) parts k) (fvar p.variable)
    member_listed p [] m some = absurd (contains_none p m)
    member_listed p (q ∷ parts) m some = elim (contains_cases q parts p m) [
      | inl e ↦ subst (λ q. Contains (members (plan.columns g) (q ∷ parts) k) (fvar p.variable)) (sym e) (Contains-append_left (replicate (times_in (plan.columns g) k p) (fvar p.variable)) (members (plan.columns g) parts k) (fvar p.variable) (copied (times_in (plan.columns g) k p) some))
      | inr r ↦ Contains-append_right (replicate (times_in (plan.columns g) k q) (fvar q.variable)) (members (plan.columns g) parts k) (fvar p.variable) (member_listed p parts r some)
    ]
      where
        copied : (n : ℕ) → 0 < n → Contains (replicate n (fvar p.variable)) (fvar p.variable)
        copied zero l = absurd (omega (arith, l))
        copied (suc n) l = contains_here (fvar p.variable) (replicate n (fvar p.variable))

    pub member_occurs : (p : Part) → Contains (plan.parts g) p → 0 < times_in (plan.columns g) k p → Occurs p.variable (plain (sum d g (members_of d (problem_of given) (class_at t (class_of s)) plan g k)))
    member_occurs p m some = occurs_sum p.variable d g (members_of d (problem_of given) (class_at t (class_of s)) plan g k) (in_list (members_of d (problem_of given) (class_at t (class_of s)) plan g k) p.variable (member_listed p (plan.parts g) m some))

  -- the instances of members
  pub each_instance : (P : FlatTerm → Type 0) (l : List FlatTerm) → AllByRecursion (λ u. P (inst d (unfolds_to d bindings) u)) l → AllByRecursion P (map (inst d (unfolds_to d bindings)) l)
  each_instance P [] all = tt
  each_instance P (u ∷ l) all = (all.0, each_instance P l all.1)

  module _ (solve : CountsSolve) (combine : CombinationsSolve) where
    -- a class that is bound to a sum of another operator
    module _ (f g : OpId) (other : f ≢ g) (k : ℕ) (is : IsClass d (problem_of given) (class_at t (class_of s)) k) (constant : IsConstant d t (class_of s) c.tag f k) where
      solid_piece : IsAssociative (axioms d g) → IsSolid d t (class_of s) g k → IsPiece d f (value h k)
      solid_piece assoc r =
          let two = (has_sums h).pairs r.member g r.arguments r.over assoc in
          let p = pair_of r.arguments two.0 in
          let at = ap (value h) (sym r.of) ∙ (are_values h solve combine).built r.member g r.arguments r.over ∙ ap (λ l. build d g (map (λ k. value h (class_of s k)) l)) p.are in
          long_piece d f g other (value h k)
          (subst (λ v. 2 ≤ length (parts d g v)) (sym at) (long_sum d g r.no_identity assoc (value h (class_of s p.left)) (value h (class_of s p.right)) (unfolding_settled d bindings (plan.name (class_of s p.left))) (unfolding_settled d bindings (plan.name (class_of s p.right)))))

      -- a shared class, whose tag is g
      shared_piece : IsShared d t (class_of s) k → (bound : IsBound d t (class_of s) c.tag g k) → ((x : Var) → Occurs x (plain (sum d g (members_of d (problem_of given) (class_at t (class_of s)) plan g k))) → IsAlone x) → IsPiece d f (value h k)
      shared_piece shared bound smaller =
          let sum_of = bound_operator h g k bound in
          elim (cases_lt (member_count y c g k) 2) [
            | inl few ↦ single sum_of few
            | inr two ↦
                long_piece d f g other (value h k)
                (
                long_value g sum_of k is bound
                (each_instance (IsPiece d g) (members_of d (problem_of given) (class_at t (class_of s)) plan g k)
                (each_member (λ u. IsPiece d g (inst d (unfolds_to d bindings) u)) (plan.columns g) (plan.parts g) k (λ p m some. member_piece g sum_of p m (smaller p.variable (member_occurs g k p m some)))))
                two
                )
          ]
        where
          -- where there is one member, it is new
          new_member : (sum_of : IsSumOperator d t g) → member_count y c g k < 2 → (p : Part) → Contains (plan.parts g) p → 0 < times_in (plan.columns g) k p → IsUnbound bindings p.variable
          new_member sum_of few p m some = elim (part_stands h g sum_of p m) [
            | inl r ↦
                let e = component_is h g sum_of p k in
                let two = (h.possible.acceptable g sum_of).no_alias k r.number shared bound r.constant (record { solution = p.solution; among = part_taken h g sum_of p m; left = omega (arith, e, some); right = r.some }) in
                absurd (omega (arith, two, few))
            | inr r ↦ solution_unbound g p.variable r.new
          ]

          single : IsSumOperator d t g → member_count y c g k < 2 → IsPiece d f (value h k)
          single sum_of few = go (members_of d (problem_of given) (class_at t (class_of s)) plan g k) refl (each_member IsNewMember (plan.columns g) (plan.parts g) k (λ p m some. (p.variable, (refl, new_member sum_of few p m some))))
            where
              -- a sum without members is g's identity, and it has some where that is f's
              empty : members_of d (problem_of given) (class_at t (class_of s)) plan g k ≡ [] → IsPiece d f (value h k)
              empty e =
                  let i = members_or_identity h g k bound e in
                  let at = value_sum h g k is bound ∙ ap (λ l. inst d (unfolds_to d bindings) (sum d g l)) e ∙ ap (λ o. inst d (unfolds_to d bindings) (empty_sum d g o)) i.1 in
                  subst (IsPiece d f) (sym at) (other_piece d f i.0 (λ own. none_empty own))
                where
                  none_empty : identity (axioms d f) ≡ Some (members_or_identity h g k bound e).0 → ⊥
                  none_empty own =
                      let i = members_or_identity h g k bound e in
                      let required = (h.possible.acceptable g sum_of).filled k (record { bound = bound; why = inr (record { twin = f; other = other; same = own ∙ sym i.1; uses = constant.used }) }) in
                      let n = length_sum h g sum_of k in
                      let z : length (members_of d (problem_of given) (class_at t (class_of s)) plan g k) ≡ 0 = ap length e in
                      omega (arith, n, z, required)

              go : (l : List FlatTerm) → members_of d (problem_of given) (class_at t (class_of s)) plan g k ≡ l → AllByRecursion IsNewMember l → IsPiece d f (value h k)
              go [] e all = empty e
              go (u ∷ []) e all =
                  let x = all.0.0 in
                  let at = value_sum h g k is bound ∙ ap (λ l. inst d (unfolds_to d bindings) (sum d g l)) e ∙ ap (inst d (unfolds_to d bindings)) all.0.1.0 in
                  subst (IsPiece d f) (sym at) (unbound_piece f x all.0.1.1)
              go (u ∷ w ∷ l) e all = absurd (let n = length_sum h g sum_of k in let z : length (members_of d (problem_of given) (class_at t (class_of s)) plan g k) ≡ length (u ∷ w ∷ l) = ap length e in omega (arith, n, z, few))

      sum_piece : IsBound d t (class_of s) c.tag g k → ((x : Var) → Occurs x (plain (sum d g (members_of d (problem_of given) (class_at t (class_of s)) plan g k))) → IsAlone x) → IsPiece d f (value h k)
      sum_piece (solid assoc r) smaller = solid_piece assoc r
      sum_piece (alone u soft only) smaller = absurd (other (only f constant.used))
      sum_piece (tagged u shared e) smaller = shared_piece shared (tagged u shared e) smaller

    bound_alone : (b : Var × FlatTerm) → Contains bindings b → ((x : Var) → Occurs x (plain b.1) → IsAlone x) → IsAlone b.0
    bound_alone b m smaller f k sum_of constant named =
        let is = column_class h f k constant.used.column in
        elim (All-contains (IsBinding d (problem_of given) (class_at t (class_of s)) plan) bindings b h.bindings_by.no_other m) [
          | inl r ↦
              let same = names_are h r.0 k r.1 is (sym r.2 ∙ named) in
              subst (λ x. IsPiece d f (unfolds_to d bindings x)) (sym named)
              (at (plan.form k) (h.plan_by.forms k (class_below h k is)) (subst (λ j. bound_as d (problem_of given) (class_at t (class_of s)) plan (plan.form j) j ≡ Some b.1) same r.3))
          | inr r ↦ absurd (name_not_given h k (class_below h k is) (subst (Contains (variables_of (problem_of given))) named r.0))
        ]
      where
        map_none : (ks : List ℕ) → map (λ k. value h (class_of s k)) ks ≡ [] → ks ≡ []
        map_none [] e = refl
        map_none (x ∷ xs) e = cc

        at : (form : Form) → IsFormBy d t (class_of s) y c k form → bound_as d (problem_of given) (class_at t (class_of s)) plan form k ≡ Some b.1 → IsPiece d f (value h k)
        at unbound by e = cc
        at (as_member v) by e =
            let n = by.1 in
            let built = ap (value h) (sym n.of) ∙ simple_built h by.0 n.operator n.arguments n.over n.simple in
            subst (IsPiece d f) (sym built)
            (simple_piece d f n.operator n.simple (map (λ k. value h (class_of s k)) n.arguments) (λ o id same none. no_identity f k constant by.0 o n.of (subst (λ ks. IsOver t.nodes by.0 o ks) (map_none n.arguments none) (subst (λ g. IsOver t.nodes by.0 g n.arguments) same n.over)) id))
        at (as_sum g) by e = sum_piece f g (λ same. constant.not_bound (subst (λ o. IsBound d t (class_of s) c.tag o k) (sym same) by)) k (column_class h f k constant.used.column) constant by (λ x o. smaller x (subst (λ w. Occurs x (plain w)) (Some-injective e) o))

    all_alone : (x : Var) → IsAlone x
    all_alone = triangular_induction bindings h.bindings_by.triangular IsAlone (λ x u f k sum_of constant named. unbound_piece f x u) bound_alone

    -- what stands for a solution is a single summand
    pub part_piece : (f : OpId) → IsSumOperator d t f → (p : Part) → Contains (plan.parts f) p → IsPiece d f (unfolds_to d bindings p.variable)
    part_piece f sum_of p m = member_piece f sum_of p m (all_alone p.variable)

    -- a constant is a single summand
    pub constant_piece : (f : OpId) (k : ℕ) → IsSumOperator d t f → IsConstant d t (class_of s) c.tag f k → IsPiece d f (value h k)
    constant_piece f k sum_of constant = all_alone (plan.name k) f k sum_of constant refl
