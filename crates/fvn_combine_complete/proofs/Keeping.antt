-- What a variable of the problem unfolds to is of the variable's sort where the unifier's value is.
use Rattle.std.proofs.Common.{◌≡◌, ℕ, zero, suc, ◌<◌, List, [], ◌∷◌, length, refl, sym, ap, ◌∙◌, subst, inl, inr, arith, All, Contains, Some, None, slice_get}
use Rattle.std.proofs.lemmas.List.Elements.{All-weaker, All-contains}
use Rattle.fvn_base.specs.Decided.{Decided}
use Rattle.fvn_base.proofs.Decided.{some_or_none, decided_by}
use Rattle.fvn_base.proofs.Membership.{contains_here, contains_later}
use Rattle.fvn_base.proofs.Options.{Some-injective}
use Rattle.fvn_terms.specs.declared.plain.Var.{Var}
use Rattle.fvn_terms.specs.declared.plain.OpId.{OpId}
use Rattle.fvn_terms.specs.declared.plain.SortId.{SortId}
use Rattle.fvn_terms.specs.declared.declarations.Declarations.{Declarations}
use Rattle.fvn_terms.specs.Term.{var}
use Rattle.fvn_terms.specs.Substitution.{Substitution, same_var}
use Rattle.fvn_terms.specs.Signature.{kind, axioms, IsSort, IsTerm, AtOrBelow}
use Rattle.fvn_terms.specs.Equality.{identity}
use Rattle.fvn_terms.specs.Unifiers.{Problem}
use Rattle.fvn_forms.specs.Flat.{FlatTerm}
use Rattle.fvn_forms.specs.Canon.{sum}
use Rattle.fvn_forms.specs.LeastSort.{sort_in, least_sort, KeepsKindsOfVariables}
use Rattle.fvn_forms.proofs.LeastSort.{sort_in-kind, inst_lowers}
use Rattle.fvn_forms.proofs.SortOrder.{AtOrBelow-trans, AtOrBelow-from_same, AtOrBelow-one_kind, AtOrBelow-antisym}
use Rattle.fvn_flat.specs.Bindings.{Bindings}
use Rattle.fvn_flat.specs.Problems.{variables_of}
use Rattle.fvn_flat.specs.SolvedLists.{Plan, Part, Form, unbound, as_member, as_sum, members, IsSimple, IsBinding, bound_as, bound_to, over_classes}
use Rattle.fvn_flat.proofs.Binding.{same_var_is, same_var_itself}
use Rattle.fvn_combine_nodes.specs.Table.{NodeTable, IsOver, term_at}
use Rattle.fvn_combine_nodes.specs.States.{class_of}
use Rattle.fvn_combine_nodes.specs.Laws.{class_at}
use Rattle.fvn_combine_nodes.specs.Unifiers.{value_at}
use Rattle.fvn_combine_nodes.specs.declared.state.State.{State}
use Rattle.fvn_combine_nodes.specs.declared.table.Node.TheVariants.{Var as Variable}
use Rattle.fvn_combine_nodes.proofs.Nodes.{arguments_within}
use Rattle.fvn_combine_nodes.proofs.NodesOf.{node_of, variable_node, variable_place, own_class}
use Rattle.fvn_combine_nodes.proofs.Subterms.{node_kinded}
use Rattle.fvn_combine_leaves.specs.Leaves.{Uses}
use Rattle.fvn_combine_choices.specs.Binding.{IsBound, IsConstant}
use Rattle.fvn_combine_choices.specs.Choosing.{Systems, Choice}
use Rattle.fvn_combine_choices.specs.Plans.{IsForSolution, IsFormBy}
use Rattle.fvn_combine_complete.specs.Neutral.{Absorbs}
use Rattle.fvn_combine_complete.specs.Vanishing.{TakesIdentity}
use Rattle.fvn_combine_complete.proofs.ArgumentSorts.{IsArgumentSort, kind_absorbs}
use Rattle.fvn_combine_complete.proofs.Entries.{paired}
use Rattle.fvn_combine_complete.proofs.Later.{later, later_flat, IsNamed, named_told, value_of_name}
use Rattle.fvn_combine_complete.proofs.Rightly.{sum_operator, rank, rank_listed, bound_sum, sum_right, sum_sort_is, sum_keeps, member_keeps, IsOfClass, name_of_class, variable_of_class}
use Rattle.fvn_combine_complete.proofs.Setting.{Setting, class_within, column_within, column_name, name_kinded, names_apart}
use Rattle.fvn_combine_complete.proofs.Standing.{entry_vanishes, entry_variable}
use Rattle.fvn_combine_complete.proofs.Unfolding.{env, env_keeps, IsRight, KeepsSort}
use Rattle.fvn_combine_complete.proofs.Values.{bound_used}

slice_get_contains : (ks : List ℕ) (p j : ℕ) → slice_get ks p ≡ Some j → Contains ks j
slice_get_contains [] p j e = absurd (let n : None ≡ Some j = e in cc)
slice_get_contains (k ∷ ks) zero j e = subst (Contains (k ∷ ks)) (Some-injective e) (contains_here k ks)
slice_get_contains (k ∷ ks) (suc p) j e = contains_later k ks j (slice_get_contains ks p j e)

module _ {d : Declarations} {problem : Problem} {t : NodeTable} {s : State} {y : Systems} {u : Substitution} {c : Choice} {first next : ℕ} {plan : Plan} (g : Setting d problem t s y u c first next plan) where
  abbrev class : ℕ → ℕ
  class = class_of s

  abbrev values : ℕ → FlatTerm
  values = value_at d u t.nodes

  abbrev sorts : Var → SortId
  sorts = env d g.good (later g) (later_flat g)

  -- variables of the problem have sorts of the signature
  pub sorted : (x : Var) → Contains (variables_of problem) x → IsSort d x.sort
  sorted x among =
      let n = variable_node g.made g.table x among in
      (subst (IsTerm d) n.is (node_kinded d g.good.fits problem g.kinded t g.table n.number n.within)).1.0

  own_keeps : KeepsKindsOfVariables d (λ x. x.sort)
  own_keeps x i = refl

  sorts_keep : KeepsKindsOfVariables d sorts
  sorts_keep = env_keeps d g.good (later g) (later_flat g)

  -- whether x is a variable of the problem
  member_told : (x : Var) → Decided (Contains (variables_of problem) x)
  member_told x = elim (some_or_none (λ z. z ≡ x) (λ z. decided_by (same_var z x) (same_var_is z x) (λ e. ap (same_var z) (sym e) ∙ same_var_itself z)) (variables_of problem)) [
    | inl h ↦ inl (subst (Contains (variables_of problem)) h.1.1 h.1.0)
    | inr none ↦ inr (λ among. none x among refl)
  ]

  -- class k bound to a sum of f
  module _ (f : OpId) (k : ℕ) (bound : IsBound d t class c.tag f k) where
    uses : Uses d t class f k
    uses = bound_used d t g.made g.has s g.leaf g.told values g.go_with c.tag g.obeying.tags f k bound

    within : k < length t.nodes
    within = column_within g f k uses

    name_kind : (plan.name k).sort ≡ kind d (rank g f k uses).result
    name_kind = column_name g f k uses (rank g f k uses) (rank_listed g f k uses)

    name_sorted : IsSort d (plan.name k).sort
    name_sorted = (name_kinded g k within).0

    right : IsRight d g.good (later g) (later_flat g) (plan.name k, bound_sum g f k uses)
    right = sum_right g f k uses (plan.name k, bound_sum g f k uses) refl refl

    sum_kind : kind d (sort_in d sorts (bound_sum g f k uses)) ≡ kind d (plan.name k).sort
    sum_kind = sort_in-kind d g.good sorts sorts_keep (bound_sum g f k uses) right.settled (kind d (plan.name k).sort) (right.kinded name_sorted)

    -- the sum's sort over the values' sorts is not below the value's
    sum_above : AtOrBelow d (least_sort d (values k)) (sort_in d sorts (bound_sum g f k uses))
    sum_above =
        subst (λ v. AtOrBelow d (least_sort d v) (sort_in d sorts (bound_sum g f k uses))) (right.value ∙ value_of_name g k within)
        (inst_lowers d g.good (later g) (later_flat g) (λ z. z.sort) own_keeps (bound_sum g f k uses) right.settled (kind d (plan.name k).sort, right.kinded name_sorted))

    -- and not above a sort of the value that absorbs the identity that the class takes
    sum_to : (q : SortId) → ((unit : OpId) → TakesIdentity d t class f unit k → identity (axioms d f) ≡ Some unit → Absorbs d f unit q)
        → AtOrBelow d (least_sort d (values k)) q → AtOrBelow d (sort_in d sorts (bound_sum g f k uses)) q
    sum_to q absorbs below =
        sum_keeps g f k uses q of
        (λ e h p empty.
        let m = entry_vanishes g f (sum_operator g f k uses) e h empty in
        elim (m.each k p) [
          | inl neutral ↦ record { unit = neutral.unit; is_identity = neutral.is_identity; absorbs = neutral.absorbs q (record { rank = rank g f k uses; listed = rank_listed g f k uses; kind_is = of }) }
          | inr takes ↦ record { unit = m.unit; is_identity = m.is_identity; absorbs = absorbs m.unit takes m.is_identity }
        ])
        below
      where
        of : kind d q ≡ kind d (rank g f k uses).result
        of =
            sym (AtOrBelow-one_kind d g.good.kinded (AtOrBelow-trans d (AtOrBelow-from_same d (ap (least_sort d) (value_of_name g k within))) below))
            ∙ sorts_keep (plan.name k) name_sorted ∙ (name_kinded g k within).1 ∙ name_kind

  -- the sort of a class: of one that is bound to a sum, this sum's over the values' sorts, and else the value's, which z has
  abbrev level_by : Form → ℕ → Var → SortId
  level_by unbound k z = sorts z
  level_by (as_member v) k z = sorts z
  level_by (as_sum f) k z = sort_in d sorts (sum d f (members (plan.columns f) (plan.parts f) k))

  abbrev level : ℕ → Var → SortId
  level k z = level_by (plan.form k) k z

  level_keeps : (k : ℕ) (z : Var) → IsOfClass g k z → IsSort d z.sort → kind d (level k z) ≡ kind d z.sort
  level_keeps k z h i = go (plan.form k) (g.plan_by.forms k h.within)
    where
      go : (form : Form) → IsFormBy d t class y c k form → kind d (level_by form k z) ≡ kind d z.sort
      go unbound by = sorts_keep z i
      go (as_member v) by = sorts_keep z i
      go (as_sum f) by = sum_kind f k by ∙ (name_kinded g k h.within).1 ∙ h.kinded i

  level_above : (k : ℕ) (z : Var) → IsOfClass g k z → AtOrBelow d (sorts z) (level k z)
  level_above k z h = go (plan.form k) (g.plan_by.forms k h.within)
    where
      go : (form : Form) → IsFormBy d t class y c k form → AtOrBelow d (sorts z) (level_by form k z)
      go unbound by = AtOrBelow-from_same d refl
      go (as_member v) by = AtOrBelow-from_same d refl
      go (as_sum f) by = AtOrBelow-trans d (AtOrBelow-from_same d (ap (least_sort d) h.value)) (sum_above f k by)

  name_level : (k : ℕ) (z : Var) → IsOfClass g k z → level k (plan.name k) ≡ level k z
  name_level k z h = go (plan.form k)
    where
      same : sorts (plan.name k) ≡ sorts z
      same = ap (least_sort d) (value_of_name g k h.within ∙ sym h.value)

      go : (form : Form) → level_by form k (plan.name k) ≡ level_by form k z
      go unbound = same
      go (as_member v) = same
      go (as_sum f) = refl

  -- the sort q of the value absorbs the identity, wherever class k takes one
  abbrev AbsorbsTaken : ℕ → SortId → Type 0
  AbsorbsTaken k q = (f unit : OpId) → IsBound d t class c.tag f k → TakesIdentity d t class f unit k → identity (axioms d f) ≡ Some unit → Absorbs d f unit q

  level_to : (k : ℕ) (z : Var) → IsOfClass g k z → (q : SortId) → AbsorbsTaken k q → AtOrBelow d (sorts z) q → AtOrBelow d (level k z) q
  level_to k z h q absorbs below = go (plan.form k) (g.plan_by.forms k h.within)
    where
      go : (form : Form) → IsFormBy d t class y c k form → AtOrBelow d (level_by form k z) q
      go unbound by = below
      go (as_member v) by = below
      go (as_sum f) by = sum_to f k by q (λ unit. absorbs f unit by) (AtOrBelow-trans d (AtOrBelow-from_same d (sym (ap (least_sort d) h.value))) below)

  -- a constant has the sort of its value
  constant_level : (f : OpId) (k : ℕ) → k < length t.nodes → IsConstant d t class c.tag f k → level k (plan.name k) ≡ sorts (plan.name k)
  constant_level f k l constant =
      let h = name_of_class g k l in
      AtOrBelow-antisym d g.good.kinded g.good.acyclic
      (level_to k (plan.name k) h (sorts (plan.name k)) (λ o unit by takes is. absurd (constant.not_bound (subst (λ p. IsBound d t class c.tag p k) (sym (takes.alone f constant.used)) by))) (AtOrBelow-from_same d refl))
      (level_above k (plan.name k) h)

  abbrev by_variable : (z : Var) → Decided (Contains (variables_of problem) z) → SortId
  by_variable z (inl h) = level (class_at t class (var z)) z
  by_variable z (inr n) = sorts z

  abbrev by_name : (z : Var) → Decided (IsNamed g z) → SortId
  by_name z (inl h) = level h.k z
  by_name z (inr n) = by_variable z (member_told z)

  -- the sort of a variable: of the name of a class, and of a variable of the problem, that of the class, and else its value's
  upper : Var → SortId
  upper z = by_name z (named_told g z)

  upper_name : (k : ℕ) → k < length t.nodes → upper (plan.name k) ≡ level k (plan.name k)
  unfolding upper
  upper_name k l = go (named_told g (plan.name k))
    where
      go : (o : Decided (IsNamed g (plan.name k))) → by_name (plan.name k) o ≡ level k (plan.name k)
      go (inl h) = ap (λ j. level j (plan.name k)) (names_apart g h.k k h.within l h.is)
      go (inr n) = absurd (n (record { k = k; within = l; is = refl }))

  upper_variable : (z : Var) → Contains (variables_of problem) z → upper z ≡ level (class_at t class (var z)) z
  unfolding upper
  upper_variable z is_among = go (named_told g z)
    where
      by_member : (o : Decided (Contains (variables_of problem) z)) → by_variable z o ≡ level (class_at t class (var z)) z
      by_member (inl h) = refl
      by_member (inr n) = absurd (n is_among)

      go : (o : Decided (IsNamed g z)) → by_name z o ≡ level (class_at t class (var z)) z
      go (inl h) = absurd (
          let number = (g.plan_by.names h.k h.within).number in
          let old = g.after z is_among (ap (λ v. v.fresh) (sym h.is) ∙ number.fresh) in
          let a = number.is in
          let e = ap (λ v. v.name) h.is in
          omega (arith, old, a, e))
      go (inr n) = by_member (member_told z)

  upper_new : (f : OpId) (z : Var) → IsForSolution d t first next f z → upper z ≡ sorts z
  unfolding upper
  upper_new f z new = go (named_told g z)
    where
      by_member : (o : Decided (Contains (variables_of problem) z)) → by_variable z o ≡ sorts z
      by_member (inl h) = absurd (
          let old = g.after z h new.fresh in
          let above = new.above in
          omega (arith, old, above))
      by_member (inr n) = refl

      go : (o : Decided (IsNamed g z)) → by_name z o ≡ sorts z
      go (inl h) = absurd (let a = (g.plan_by.names h.k h.within).number.is in let n = ap (λ v. v.name) h.is in let l = h.within in let m = new.above in omega (arith, a, n, l, m))
      go (inr n) = by_member (member_told z)

  named_of_class : (z : Var) (h : IsNamed g z) → IsOfClass g h.k z
  named_of_class z h = subst (IsOfClass g h.k) h.is (name_of_class g h.k h.within)

  upper_keeps : KeepsKindsOfVariables d upper
  unfolding upper
  upper_keeps z i = go (named_told g z)
    where
      by_member : (o : Decided (Contains (variables_of problem) z)) → kind d (by_variable z o) ≡ kind d z.sort
      by_member (inl h) = level_keeps (class_at t class (var z)) z (variable_of_class g z h) i
      by_member (inr n) = sorts_keep z i

      go : (o : Decided (IsNamed g z)) → kind d (by_name z o) ≡ kind d z.sort
      go (inl h) = level_keeps h.k z (named_of_class z h) i
      go (inr n) = by_member (member_told z)

  upper_above : (z : Var) → IsSort d z.sort → AtOrBelow d (sorts z) (upper z)
  unfolding upper
  upper_above z i = go (named_told g z)
    where
      by_member : (o : Decided (Contains (variables_of problem) z)) → AtOrBelow d (sorts z) (by_variable z o)
      by_member (inl h) = level_above (class_at t class (var z)) z (variable_of_class g z h)
      by_member (inr n) = AtOrBelow-from_same d refl

      go : (o : Decided (IsNamed g z)) → AtOrBelow d (sorts z) (by_name z o)
      go (inl h) = level_above h.k z (named_of_class z h)
      go (inr n) = by_member (member_told z)

  -- a part of a sum has its value's sort
  entry_sort : (f : OpId) (k : ℕ) (u : Uses d t class f k) (e : Part × List FlatTerm) → Contains (paired (plan.parts f) (g.obeying.pieces f)) e → upper e.0.variable ≡ sorts e.0.variable
  entry_sort f k u e h = elim (entry_variable g f (sum_operator g f k u) e h) [
    | inl constant ↦
        let n = constant.0 in
        let l = column_within g f n constant.1.constant.used in
        subst (λ z. upper z ≡ sorts z) (sym constant.2) (upper_name n l ∙ constant_level f n l constant.1.constant)
    | inr new ↦ upper_new f e.0.variable new
  ]

  -- the name of an argument is below each sort of the argument that its value is below
  module _ (i : ℕ) (f : OpId) (ks : List ℕ) (over : IsOver t.nodes i f ks) (simple : IsSimple (axioms d f)) where
    argument_fits : (p j : ℕ) (a : SortId) → slice_get ks p ≡ Some j → IsArgumentSort d g.good f simple p a → AtOrBelow d (sorts (plan.name (class j))) a → AtOrBelow d (upper (plan.name (class j))) a
    argument_fits p j a at there below =
        subst (λ q. AtOrBelow d q a) (sym (upper_name (class j) l)) (level_to (class j) (plan.name (class j)) (name_of_class g (class j) l) a (absorbs there) below)
      where
        l : class j < length t.nodes
        l = class_within g j (All-contains (λ j. j < length t.nodes) ks j (arguments_within t.nodes g.made.ordered i f ks over) (slice_get_contains ks p j at))

        absorbs : IsArgumentSort d g.good f simple p a → AbsorbsTaken (class j) a
        absorbs (inr h) o unit by takes is = takes.arguments i p h.q j f ks over simple at refl h.placed h.rank h.listed a h.at
        absorbs (inl own) o unit by takes is =
            let u = uses o (class j) by in
            kind_absorbs d g.good o u.associative (rank g o (class j) u) (rank_listed g o (class j) u) unit is a own
            (sym (AtOrBelow-one_kind d g.good.kinded below) ∙ sorts_keep (plan.name (class j)) (name_sorted o (class j) by) ∙ (name_kinded g (class j) l).1 ∙ name_kind o (class j) by)

  -- what a class is bound to keeps to the sort of its name
  class_lowers : (k : ℕ) (v : FlatTerm) → k < length t.nodes → bound_to d problem (class_at t class) plan k ≡ Some v → AtOrBelow d (sort_in d upper v) (level k (plan.name k))
  class_lowers k v l is = go (plan.form k) (g.plan_by.forms k l) is
    where
      go : (form : Form) → IsFormBy d t class y c k form → bound_as d problem (class_at t class) plan form k ≡ Some v → AtOrBelow d (sort_in d upper v) (level_by form k (plan.name k))
      go unbound h is = cc
      go (as_member w) h is =
          let at = h.1 in
          member_keeps g h.0 at.operator at.arguments at.over at.simple upper upper_keeps (argument_fits h.0 at.operator at.arguments at.over at.simple)
          k v at.of (ap (over_classes d problem (class_at t class) plan) h.2 ∙ Some-injective is)
      go (as_sum f) h is =
          let u = uses f k h in
          AtOrBelow-from_same d (ap (sort_in d upper) (sym (Some-injective is)) ∙ sum_sort_is g f k u upper (entry_sort f k u))

  binding_lowers : (b : Var × FlatTerm) → IsBinding d problem (class_at t class) plan b → IsSort d b.0.sort → AtOrBelow d (sort_in d upper b.1) (upper b.0)
  binding_lowers b (inl h) i =
      let n = node_of g.made g.table h.1.0 h.1.1 in
      let of : class n.number ≡ h.0 = sym (own_class g.made g.table class n.number n.within) ∙ ap (class_at t class) n.is ∙ h.1.2 in
      let l : h.0 < length t.nodes = subst (λ k. k < length t.nodes) of (class_within g n.number n.within) in
      AtOrBelow-trans d (class_lowers h.0 b.1 l h.3) (AtOrBelow-from_same d (sym (upper_name h.0 l) ∙ ap upper (sym h.2)))
  binding_lowers b (inr h) i =
      let k = class_at t class (var b.0) in
      let of = variable_of_class g b.0 h.0 in
      AtOrBelow-from_same d (ap (sort_in d upper) h.2 ∙ upper_name k of.within ∙ name_level k b.0 of ∙ sym (upper_variable b.0 h.0))

  -- the bindings of the plan keep to the sorts to which the unifier keeps
  pub keeps_sorts : (bindings : Bindings) → All (IsBinding d problem (class_at t class) plan) bindings → (x : Var) → Contains (variables_of problem) x → KeepsSort d g.good (later g) (later_flat g) bindings x
  keeps_sorts bindings by x among below = (
    upper,
    record {
      keeps = upper_keeps;
      above = upper_above;
      lowers = All-weaker (IsBinding d problem (class_at t class) plan) (λ b. IsSort d b.0.sort → AtOrBelow d (sort_in d upper b.1) (upper b.0)) binding_lowers bindings by;
    },
    subst (λ q. AtOrBelow d q x.sort) (sym (upper_variable x among)) (level_to (class_at t class (var x)) x (variable_of_class g x among) x.sort absorbs below),
  )
    where
      place : (i : ℕ) × (i < length t.nodes) × (slice_get t.nodes i ≡ Some (Variable x)) × (term_at t.nodes i ≡ var x)
      place = variable_place g.made g.table x among

      of : class place.0 ≡ class_at t class (var x)
      of = sym (own_class g.made g.table class place.0 place.1) ∙ ap (class_at t class) place.3

      absorbs : AbsorbsTaken (class_at t class (var x)) x.sort
      absorbs f unit by takes is = takes.variables place.0 x place.2 of
