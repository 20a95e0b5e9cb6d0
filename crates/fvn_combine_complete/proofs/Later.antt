-- Values of all variables: of names of classes, of variables that stand for solutions, and of all others.
use Rattle.std.proofs.Common.{◌≡◌, ℕ, zero, suc, ◌+◌, ◌-◌, ◌<◌, ◌≤◌, true, List, [], ◌∷◌, length, refl, sym, ap, ◌∙◌, subst, inl, inr, arith, Contains, slice_get}
use Rattle.std.specs.List.{AllByRecursion}
use Rattle.std.proofs.lemmas.Bool.{cases_Bool, cases_lt, true≢false}
use Rattle.fvn_base.specs.Decided.{Decided}
use Rattle.fvn_base.proofs.Decided.{some_or_none, decided_by}
use Rattle.fvn_base.proofs.Membership.{contains_here, contains_later, filter_contains}
use Rattle.fvn_terms.specs.declared.plain.Var.{Var as Variable}
use Rattle.fvn_terms.specs.declared.plain.OpId.{OpId}
use Rattle.fvn_terms.specs.declared.declarations.Declarations.{Declarations}
use Rattle.fvn_terms.specs.Substitution.{Substitution, same_var}
use Rattle.fvn_terms.specs.Signature.{kind, IsSort, HasKind}
use Rattle.fvn_terms.specs.Unifiers.{Problem}
use Rattle.fvn_forms.specs.Flat.{FlatTerm, plain}
use Rattle.fvn_forms.specs.Canon.{same_op, sum, canon, empty_sum}
use Rattle.fvn_forms.specs.Settled.{Settled}
use Rattle.fvn_forms.specs.LeastSort.{IsFlatSubstitution}
use Rattle.fvn_forms.proofs.Build.{HasIdentity, sum_settled}
use Rattle.fvn_forms.proofs.Eval.{canon_settled}
use Rattle.fvn_forms.proofs.KindsOfSums.{sum_of_forms_of_kind}
use Rattle.fvn_forms.proofs.Sums.{same_op_is, same_op_itself}
use Rattle.fvn_forms.proofs.ToCanon.{canon_of_kind}
use Rattle.fvn_flat.specs.Problems.{variables_of}
use Rattle.fvn_flat.specs.SolvedLists.{Plan, Part}
use Rattle.fvn_flat.proofs.Binding.{same_var_is, same_var_itself}
use Rattle.fvn_combine_nodes.specs.Table.{NodeTable}
use Rattle.fvn_combine_nodes.specs.States.{class_of}
use Rattle.fvn_combine_nodes.specs.Unifiers.{value_at}
use Rattle.fvn_combine_nodes.specs.declared.state.State.{State}
use Rattle.fvn_combine_nodes.specs.declared.table.Node.{Node}
use Rattle.fvn_combine_nodes.specs.declared.table.Node.TheVariants.{Var, App}
use Rattle.fvn_combine_systems.specs.NodeSystems.{is_headed}
use Rattle.fvn_combine_leaves.specs.Leaves.{IsSumOperator}
use Rattle.fvn_combine_choices.specs.Choosing.{Systems, Choice}
use Rattle.fvn_combine_choices.specs.Plans.{IsForSolution}
use Rattle.fvn_combine_complete.proofs.Asked.{sum_told}
use Rattle.fvn_combine_complete.proofs.Entries.{paired}
use Rattle.fvn_combine_complete.proofs.Setting.{Setting, name_kinded, name_of_kind, names_apart, column_within}
use Rattle.fvn_combine_complete.proofs.Standing.{part_among, entry_alone, entry_named, entry_pieces, entry_settled, entry_kinded, entry_variable, entries_apart}

-- the operators that head nodes
abbrev heads_of : List Node → List OpId
heads_of [] = []
heads_of (Var x ∷ nodes) = heads_of nodes
heads_of (App f ks ∷ nodes) = f ∷ heads_of nodes

headed_listed : (f : OpId) (nodes : List Node) (i : ℕ) → is_headed f (slice_get nodes i) ≡ true → Contains (heads_of nodes) f
headed_listed f [] i e = absurd (true≢false (sym e))
headed_listed f (Var x ∷ nodes) zero e = absurd (true≢false (sym e))
headed_listed f (App o ks ∷ nodes) zero e = subst (Contains (o ∷ heads_of nodes)) (sym (same_op_is f o e)) (contains_here o (heads_of nodes))
headed_listed f (Var x ∷ nodes) (suc i) e = headed_listed f nodes i e
headed_listed f (App o ks ∷ nodes) (suc i) e = contains_later o (heads_of nodes) f (headed_listed f nodes i e)

module _ {d : Declarations} {problem : Problem} {t : NodeTable} {s : State} {y : Systems} {u : Substitution} {c : Choice} {first next : ℕ} {plan : Plan} (g : Setting d problem t s y u c first next plan) where
  abbrev class : ℕ → ℕ
  class = class_of s

  abbrev values : ℕ → FlatTerm
  values = value_at d u t.nodes

  -- x names the class of a node
  pub record IsNamed (x : Variable) : Type 0 where
    pub k : ℕ
    pub within : k < length t.nodes
    pub is : plan.name k ≡ x

  pub named_told : (x : Variable) → Decided (IsNamed x)
  named_told x = elim (cases_lt k (length t.nodes)) [
    | inl l ↦ elim (cases_Bool (same_var (plan.name k) x)) [
      | inl e ↦ inl (record { k = k; within = l; is = same_var_is (plan.name k) x e })
      | inr n ↦ inr (λ h. true≢false (sym (ap (same_var (plan.name k)) (sym (subst (λ m. plan.name m ≡ x) (number h) h.is)) ∙ same_var_itself (plan.name k)) ∙ n))
    ]
    | inr past ↦ inr (λ h. let n = number h in let l = h.within in omega (arith, past, n, l))
  ]
    where
      k : ℕ
      k = x.name - first

      number : (h : IsNamed x) → h.k ≡ k
      number h = let a = (g.plan_by.names h.k h.within).number.is in let e = ap (λ z. z.name) h.is in omega (arith, a, e)

  -- x stands for a part of an operator
  record IsStanding (f : OpId) (x : Variable) : Type 0 where
    sum_operator : IsSumOperator d t f
    entry : Part × List FlatTerm
    among : Contains (paired (plan.parts f) (g.obeying.pieces f)) entry
    is : entry.0.variable ≡ x

  standing_told : (f : OpId) (x : Variable) → Decided (IsStanding f x)
  standing_told f x = elim (sum_told d t f) [
    | inl sum_operator ↦ elim (some_or_none (λ e. e.0.variable ≡ x) same_told (paired (plan.parts f) (g.obeying.pieces f))) [
      | inl h ↦ inl (record { sum_operator = sum_operator; entry = h.0; among = h.1.0; is = h.1.1 })
      | inr n ↦ inr (λ h. n h.entry h.among h.is)
    ]
    | inr n ↦ inr (λ h. n h.sum_operator)
  ]
    where
      same_told : (e : Part × List FlatTerm) → Decided (e.0.variable ≡ x)
      same_told e = decided_by (same_var e.0.variable x) (same_var_is e.0.variable x) (λ is. ap (same_var e.0.variable) (sym is) ∙ same_var_itself e.0.variable)

  abbrev Standing : Variable → Type 0
  Standing x = (f : OpId) × IsStanding f x

  some_standing : (x : Variable) → Decided (Standing x)
  some_standing x = elim (some_or_none (λ f. IsStanding f x) (λ f. standing_told f x) (heads_of t.nodes)) [
    | inl h ↦ inl (h.0, h.1.1)
    | inr n ↦ inr (λ h. n h.0 (headed_listed h.0 t.nodes h.1.sum_operator.sum (filter_contains (λ i. is_headed h.0 (slice_get t.nodes i)) t.subterms h.1.sum_operator.sum h.1.sum_operator.listed).1) h.1)
  ]

  -- what stands for a part is new, unless it names a class
  new_standing : (f : OpId) (x : Variable) → IsStanding f x → (IsNamed x → ⊥) → IsForSolution d t first next f x
  new_standing f x h n = elim (entry_variable g f h.sum_operator h.entry h.among) [
    | inl k ↦ absurd (n (record { k = k.0; within = column_within g f k.0 k.1.constant.used; is = sym k.2 ∙ h.is }))
    | inr new ↦ subst (IsForSolution d t first next f) h.is new
  ]

  -- the value of a variable: of a name, that of its class; of what stands for a part, the sum of its pieces; of another, u's
  abbrev by_standing : (x : Variable) → Decided (Standing x) → FlatTerm
  by_standing x (inl h) = sum d h.0 h.1.entry.1
  by_standing x (inr n) = canon d (u x)

  abbrev by_name : (x : Variable) → Decided (IsNamed x) → FlatTerm
  by_name x (inl h) = values h.k
  by_name x (inr n) = by_standing x (some_standing x)

  pub later : Variable → FlatTerm
  later x = by_name x (named_told x)

  pub value_of_name : (k : ℕ) → k < length t.nodes → later (plan.name k) ≡ values k
  unfolding later
  value_of_name k l = go (named_told (plan.name k))
    where
      go : (o : Decided (IsNamed (plan.name k))) → by_name (plan.name k) o ≡ values k
      go (inl h) = ap values (names_apart g h.k k h.within l h.is)
      go (inr n) = absurd (n (record { k = k; within = l; is = refl }))

  -- the value of what stands for a part
  pub value_of_part : (f : OpId) (sum_operator : IsSumOperator d t f) (e : Part × List FlatTerm) → Contains (paired (plan.parts f) (g.obeying.pieces f)) e → later e.0.variable ≡ sum d f e.1
  unfolding later
  value_of_part f sum_operator e among = elim (entry_variable g f sum_operator e among) [
    | inl h ↦
        let l = column_within g f h.0 h.1.constant.used in
        ap later h.2 ∙ value_of_name h.0 l ∙ ap (sum d f) (sym (entry_alone g f sum_operator e among h.0 h.1.constant h.1.positive))
    | inr new ↦ by_cases new (named_told e.0.variable)
  ]
    where
      same_operator : (o : OpId) (h : IsStanding o e.0.variable) → first + length t.nodes ≤ e.0.variable.name → sum d o h.entry.1 ≡ sum d f e.1
      same_operator o h above = elim (cases_Bool (same_op f o)) [
        | inl same ↦ at o (same_op_is f o same) h
        | inr other ↦ absurd (g.plan_by.apart f o e.0 h.entry.0 (λ is. true≢false (sym (same_op_of is) ∙ other)) (part_among g f sum_operator e among) (part_among g o h.sum_operator h.entry h.among) above (sym h.is))
      ]
        where
          same_op_of : f ≡ o → same_op f o ≡ true
          same_op_of is = ap (same_op f) (sym is) ∙ same_op_itself f

          at : (o : OpId) → f ≡ o → (h : IsStanding o e.0.variable) → sum d o h.entry.1 ≡ sum d f e.1
          at o is = subst (λ o. (h : IsStanding o e.0.variable) → sum d o h.entry.1 ≡ sum d f e.1) is (λ h. ap (sum d f) (entries_apart g f sum_operator h.entry e h.among among h.is))

      standing : IsForSolution d t first next f e.0.variable → (o : Decided (Standing e.0.variable)) → by_standing e.0.variable o ≡ sum d f e.1
      standing new (inl h) = same_operator h.0 h.1 new.above
      standing new (inr n) = absurd (n (f, record { sum_operator = sum_operator; entry = e; among = among; is = refl }))

      by_cases : IsForSolution d t first next f e.0.variable → (o : Decided (IsNamed e.0.variable)) → by_name e.0.variable o ≡ sum d f e.1
      by_cases new (inl h) = absurd (let a = (g.plan_by.names h.k h.within).number.is in let n = ap (λ z. z.name) h.is in let l = h.within in let m = new.above in omega (arith, a, n, l, m))
      by_cases new (inr n) = standing new (some_standing e.0.variable)

  -- a variable of the problem keeps its value
  pub value_of_variable : (x : Variable) → Contains (variables_of problem) x → later x ≡ canon d (u x)
  unfolding later
  value_of_variable x among = go (named_told x)
    where
      standing : (IsNamed x → ⊥) → (o : Decided (Standing x)) → by_standing x o ≡ canon d (u x)
      standing n (inl h) = absurd (
          let new = new_standing h.0 x h.1 n in
          let old = g.after x among new.fresh in
          let above = new.above in
          omega (arith, old, above))
      standing n (inr m) = refl

      go : (o : Decided (IsNamed x)) → by_name x o ≡ canon d (u x)
      go (inl h) = absurd (
          let number = (g.plan_by.names h.k h.within).number in
          let old = g.after x among (ap (λ z. z.fresh) (sym h.is) ∙ number.fresh) in
          let a = number.is in
          let e = ap (λ z. z.name) h.is in
          omega (arith, old, a, e))
      go (inr n) = standing n (some_standing x)

  -- the values are settled and keep kinds
  pub later_flat : IsFlatSubstitution d later
  unfolding later
  later_flat = record { settled = λ x. settled_name x (named_told x); keeps_kinds = λ x i. kinded_name x i (named_told x) }
    where
      settled_standing : (x : Variable) (o : Decided (Standing x)) → Settled d (by_standing x o)
      settled_standing x (inl h) =
          sum_settled d h.0 h.1.sum_operator.associative h.1.entry.1 (entry_pieces g h.0 h.1.sum_operator h.1.entry h.1.among) (entry_settled g h.0 h.1.sum_operator h.1.entry h.1.among)
          (entry_named g h.0 h.1.sum_operator h.1.entry h.1.among)
      settled_standing x (inr n) = canon_settled d (u x)

      settled_name : (x : Variable) (o : Decided (IsNamed x)) → Settled d (by_name x o)
      settled_name x (inl h) = g.go_with.are.settled h.k
      settled_name x (inr n) = settled_standing x (some_standing x)

      kinded_standing : (x : Variable) → IsSort d x.sort → (IsNamed x → ⊥) → (o : Decided (Standing x)) → HasKind d (plain (by_standing x o)) (kind d x.sort)
      kinded_standing x i n (inl h) =
          let new = new_standing h.0 x h.1 n in
          let is : kind d new.rank.result ≡ kind d x.sort = sym (ap (kind d) new.sort ∙ g.good.kinded.own new.rank.result) in
          subst (HasKind d (plain (sum d h.0 h.1.entry.1))) is
          (of_pieces h.0 h.1.sum_operator new h.1.entry.1 (entry_named g h.0 h.1.sum_operator h.1.entry h.1.among) (entry_kinded g h.0 h.1.sum_operator h.1.entry h.1.among new.rank new.declared_so))
        where
          of_pieces : (f : OpId) → IsSumOperator d t f → (new : IsForSolution d t first next f x) → (l : List FlatTerm) → (l ≡ [] → HasIdentity d f) → AllByRecursion (λ q. HasKind d (plain q) (kind d new.rank.result)) l → HasKind d (plain (sum d f l)) (kind d new.rank.result)
          of_pieces f sum_operator new [] n h =
              let e = n refl in
              subst (λ o. HasKind d (plain (empty_sum d f o)) (kind d new.rank.result)) (sym e.1) (g.good.fits.identity f e.0 new.rank e.1 new.declared_so)
          of_pieces f sum_operator new (q ∷ qs) n h = sum_of_forms_of_kind d g.good.fits f sum_operator.associative (kind d new.rank.result) new.rank new.declared_so refl q qs h
      kinded_standing x i n (inr m) = canon_of_kind d g.good.fits (u x) (kind d x.sort) (g.unifier.0 x i)

      kinded_name : (x : Variable) → IsSort d x.sort → (o : Decided (IsNamed x)) → HasKind d (plain (by_name x o)) (kind d x.sort)
      kinded_name x i (inl h) = subst (λ z. HasKind d (plain (values h.k)) (kind d z.sort)) h.is (subst (HasKind d (plain (values h.k))) (sym (name_kinded g h.k h.within).1) (name_of_kind g h.k h.within))
      kinded_name x i (inr n) = kinded_standing x i n (some_standing x)
