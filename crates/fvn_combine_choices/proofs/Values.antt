-- What the names of classes unfold to are values that go with the nodes.
use Rattle.std.proofs.Common.{◌≡◌, ℕ, ◌*◌, ◌<◌, List, [], ◌∷◌, length, map, get_or, sum_by, refl, sym, ap, ◌∙◌, subst, ◌⊎◌, inl, inr, arith, All, Some, slice_get}
use Rattle.std.specs.Prelude.{ℤ}
use Rattle.std.proofs.lemmas.List.{length-map}
use Rattle.std.proofs.lemmas.List.Elements.{All-head, All-tail, All-map, All-weaker}
use Rattle.std.proofs.lemmas.Option.{slice_get_within}
use Rattle.fvn_terms.specs.declared.plain.OpId.{OpId}
use Rattle.fvn_terms.specs.declared.plain.SortId.{SortId}
use Rattle.fvn_terms.specs.declared.declarations.Axioms.{Axioms}
use Rattle.fvn_terms.specs.declared.declarations.Axioms.TheVariants.{Free, Comm, AssocComm, AssocCommId}
use Rattle.fvn_terms.specs.declared.declarations.Declarations.{Declarations}
use Rattle.fvn_terms.specs.Term.{Term, app, pack}
use Rattle.fvn_terms.specs.Signature.{axioms, HasKind, HaveKinds}
use Rattle.fvn_terms.specs.Equality.{IsAssociative, IsCommutative, identity}
use Rattle.fvn_forms.specs.Flat.{FlatTerm}
use Rattle.fvn_forms.specs.InOrder.{count}
use Rattle.fvn_forms.specs.Canon.{parts, all_parts, sum, build, eval_all, inst}
use Rattle.fvn_forms.proofs.InOrder.{count_sort}
use Rattle.fvn_forms.proofs.Build.{HasIdentity, build_swap, parts_identity}
use Rattle.fvn_forms.proofs.Instances.{parts_inst_sum, eval_canon}
use Rattle.fvn_lindio.specs.Systems.{Solves, IsUnused, rows_of}
use Rattle.fvn_lindio.specs.Laws.{combination}
use Rattle.fvn_flat.specs.Bindings.{Bindings}
use Rattle.fvn_flat.specs.Partitions.{HasNoIdentity}
use Rattle.fvn_flat.specs.Solving.{problem_of}
use Rattle.fvn_flat.specs.SolvedLists.{Part, Plan, component, IsClass, IsSimple, names_of, over_classes, members_of, bound_as, bound_to}
use Rattle.fvn_flat.specs.declared.solver.Pairs.{Pairs}
use Rattle.fvn_combine_nodes.specs.Table.{NodeTable, IsOver, term_at}
use Rattle.fvn_combine_nodes.specs.Classes.{AreTogether, MeetEitherWay, AreAlike}
use Rattle.fvn_combine_nodes.specs.Laws.{class_at}
use Rattle.fvn_combine_nodes.specs.States.{class_of}
use Rattle.fvn_combine_nodes.specs.declared.state.State.{State}
use Rattle.fvn_combine_nodes.specs.declared.table.Node.{Node}
use Rattle.fvn_combine_nodes.specs.declared.table.Node.TheVariants.{App}
use Rattle.fvn_combine_nodes.proofs.Nodes.{term_at-over, arguments_within}
use Rattle.fvn_combine_nodes.proofs.NodesOf.{own_class}
use Rattle.fvn_combine_nodes.proofs.Lists.{all_from}
use Rattle.fvn_combine_supports.specs.Laws.{CombinationsSolve}
use Rattle.fvn_combine_systems.specs.NodeSystems.{IsNodeSystem}
use Rattle.fvn_combine_systems.specs.Values.{AreValues, AddsNothing, Counts}
use Rattle.fvn_combine_systems.specs.Laws.{CountsSolve}
use Rattle.fvn_combine_leaves.specs.Leaves.{IsSumOperator}
use Rattle.fvn_combine_choices.specs.Binding.{IsBound, IsConstant}
use Rattle.fvn_combine_choices.specs.Choosing.{Systems, Choice, taken}
use Rattle.fvn_combine_choices.specs.Plans.{IsSimpleAt, unfolds_to}
use Rattle.fvn_combine_choices.specs.Laws.{IsPlanned}
use Rattle.fvn_combine_choices.proofs.Triangular.{unfolding_bound, unfolding_settled}
use Rattle.fvn_combine_choices.proofs.Columns.{component_at, sum_by_map}
use Rattle.fvn_combine_supports.proofs.Combining.{get_or-combination}
use Rattle.fvn_combine_choices.proofs.Counts.{of_part, weighed, weighed_alike, weight_of_parts, weighed_same, count_members}
use Rattle.fvn_combine_choices.proofs.Members.{times_in}
use Rattle.fvn_combine_choices.proofs.Places.{sum_operator}
use Rattle.fvn_combine_choices.proofs.Solids.{pair_of}
use Rattle.fvn_combine_choices.proofs.Bound.{one_head, simple_bare, form_of_member, form_of_sum, bound_decided}
use Rattle.fvn_combine_choices.proofs.Using.{uses_or_unused}
use Rattle.fvn_combine_choices.proofs.Planned.{has_sums, is_class, class_below, column_class}
use Rattle.fvn_combine_choices.proofs.Parts.{component_is, part_minimal, part_named}
use Rattle.fvn_combine_choices.proofs.Standing.{some_members}
use Rattle.fvn_combine_choices.proofs.Kinding.{term_kinded, over_classes_is}

simple_of : (a : Axioms) → (IsAssociative a → ⊥) → IsSimple a
simple_of Free n = tt
simple_of Comm n = tt
simple_of AssocComm n = absurd (n tt)
simple_of (AssocCommId e) n = absurd (n tt)

two_kinds : (d : Declarations) (ts : List Term) (k q : SortId) → HaveKinds d (pack ts) (k ∷ q ∷ []) → length ts ≡ 2
two_kinds d [] k q h = absurd h
two_kinds d (t ∷ []) k q h = absurd h.1
two_kinds d (t ∷ u ∷ []) k q h = refl
two_kinds d (t ∷ u ∷ v ∷ vs) k q h = absurd h.1.1

map_class : (value : ℕ → FlatTerm) (class : ℕ → ℕ) (ks : List ℕ) → map (λ k. value (class k)) ks ≡ map value (map class ks)
map_class value class [] = refl
map_class value class (k ∷ ks) = ap (λ l. value (class k) ∷ l) (map_class value class ks)

module _ {d : Declarations} {given : Pairs} {first : ℕ} {t : NodeTable} {s : State} {y : Systems} {c : Choice} {next : ℕ} {plan : Plan} {bindings : Bindings} (h : IsPlanned d given first t s y c next plan bindings) where
  -- what each class unfolds to
  abbrev pub value : ℕ → FlatTerm
  value k = unfolds_to d bindings (plan.name k)

  -- the instance of what it is bound to
  pub value_bound : (k : ℕ) → IsClass d (problem_of given) (class_at t (class_of s)) k → (u : FlatTerm) → bound_to d (problem_of given) (class_at t (class_of s)) plan k ≡ Some u → value k ≡ inst d (unfolds_to d bindings) u
  value_bound k is u e = unfolding_bound d bindings h.bindings_by.triangular (plan.name k, u) (h.bindings_by.classes k u is e)

  -- the values of the classes of arguments
  eval_names : (ks : List ℕ) → All (λ k. k < length t.nodes) ks → eval_all d (unfolds_to d bindings) (names_of d (problem_of given) (class_at t (class_of s)) plan (pack (map (term_at t.nodes) ks))) ≡ map (λ k. value (class_of s k)) ks
  eval_names [] l = refl
  eval_names (k ∷ ks) l =
      let P = λ (k : ℕ). k < length t.nodes in
      ap (λ n. value n ∷ eval_all d (unfolds_to d bindings) (names_of d (problem_of given) (class_at t (class_of s)) plan (pack (map (term_at t.nodes) ks)))) (own_class h.well_made h.table (class_of s) k (All-head P k ks l))
      ∙ ap (λ l. value (class_of s k) ∷ l) (eval_names ks (All-tail P k ks l))

  -- what a free or commutative operator makes of the names of classes
  pub over_value : (i : ℕ) (f : OpId) (ks : List ℕ) → IsOver t.nodes i f ks → inst d (unfolds_to d bindings) (over_classes d (problem_of given) (class_at t (class_of s)) plan (term_at t.nodes i)) ≡ build d f (map (λ k. value (class_of s k)) ks)
  over_value i f ks over =
      let named = app f (names_of d (problem_of given) (class_at t (class_of s)) plan (pack (map (term_at t.nodes) ks))) in
      ap (inst d (unfolds_to d bindings)) (over_classes_is h i f ks over)
      ∙ sym (eval_canon d (unfolds_to d bindings) (unfolding_settled d bindings) named)
      ∙ ap (build d f) (eval_names ks (arguments_within t.nodes h.well_made.ordered i f ks over))

  class_at_node : (i : ℕ) (n : Node) → slice_get t.nodes i ≡ Some n → IsClass d (problem_of given) (class_at t (class_of s)) (class_of s i)
  class_at_node i n e = is_class h i (slice_get_within t.nodes i n e)

  -- a commutative operator stands over two
  pub commutative_pair : (i : ℕ) (f : OpId) (ks : List ℕ) → IsOver t.nodes i f ks → IsCommutative (axioms d f) → length ks ≡ 2
  commutative_pair i f ks over comm =
      let r = term_kinded h i (slice_get_within t.nodes i (App f ks) over) in
      let w = subst (λ u. HasKind d u r.0) (term_at-over t.nodes h.well_made.ordered i f ks over) r.1 in
      let q = h.good.fits.commutative f w.rank comm w.listed in
      sym (length-map ks (term_at t.nodes)) ∙ two_kinds d (map (term_at t.nodes) ks) q.0 q.0 (subst (HaveKinds d (pack (map (term_at t.nodes) ks))) q.1 w.args)

  -- the value of a node that a free or commutative operator heads
  pub simple_built : (i : ℕ) (f : OpId) (ks : List ℕ) → IsOver t.nodes i f ks → IsSimple (axioms d f) → value (class_of s i) ≡ build d f (map (λ k. value (class_of s k)) ks)
  simple_built i f ks over simple =
      let k = class_of s i in
      let is = class_at_node i (App f ks) over in
      let below = class_below h k is in
      let own : IsSimpleAt d t (class_of s) y c k i = record { operator = f; arguments = ks; over = over; simple = simple; of = refl } in
      let form = form_of_member h.partition y c k (plan.form k) (h.plan_by.forms k below) i own in
      let m = form.simple in
      let e = ap (λ g. bound_as d (problem_of given) (class_at t (class_of s)) plan g k) form.is in
      let at = value_bound k is (over_classes d (problem_of given) (class_at t (class_of s)) plan (term_at t.nodes form.node)) e ∙ over_value form.node m.operator m.arguments m.over in
      let same = one_head h.partition i form.node f m.operator ks m.arguments over m.over (sym m.of) (simple_bare (axioms d f) simple) (simple_bare (axioms d m.operator) m.simple) in
      at ∙ sym (alike form.node m.operator m.arguments m.over (sym m.of) same)
    where
      alike : (j : ℕ) (g : OpId) (ls : List ℕ) → IsOver t.nodes j g ls → class_of s i ≡ class_of s j → f ≡ g → build d f (map (λ k. value (class_of s k)) ks) ≡ build d g (map (λ k. value (class_of s k)) ls)
      alike j g ls there together one = go (axioms d f) refl
        where
          are : AreAlike d (λ a v. ⊥) (class_of s) f g ks ls
          are = (h.partition.nodes i j f g ks ls over there).alike together

          in_order : AreTogether (class_of s) ks ls → build d f (map (λ k. value (class_of s k)) ks) ≡ build d g (map (λ k. value (class_of s k)) ls)
          in_order e = ap (build d f) (map_class value (class_of s) ks ∙ ap (map value) e ∙ sym (map_class value (class_of s) ls)) ∙ ap (λ o. build d o (map (λ k. value (class_of s k)) ls)) one

          crossing : (a b v w : ℕ) → ks ≡ a ∷ b ∷ [] → ls ≡ v ∷ w ∷ [] → IsCommutative (axioms d f) → MeetEitherWay (class_of s) a b v w ⊎ ⊥ → build d f (map (λ k. value (class_of s k)) ks) ≡ build d g (map (λ k. value (class_of s k)) ls)
          crossing a b v w left right comm (inr n) = absurd n
          crossing a b v w left right comm (inl (inl r)) = in_order (ap (map (class_of s)) left ∙ ap (λ k. k ∷ class_of s b ∷ []) r.0 ∙ ap (λ k. class_of s v ∷ k ∷ []) r.1 ∙ sym (ap (map (class_of s)) right))
          crossing a b v w left right comm (inl (inr r)) =
              let V = λ (k : ℕ). value (class_of s k) in
              ap (λ l. build d f (map V l)) left
              ∙ ap (λ k. build d f (value k ∷ V b ∷ [])) r.0
              ∙ ap (λ k. build d f (V w ∷ value k ∷ [])) r.1
              ∙ build_swap d f comm (V w) (V v)
              ∙ sym (ap (λ l. build d f (map V l)) right)
              ∙ ap (λ o. build d o (map V ls)) one

          go : (a : Axioms) → axioms d f ≡ a → build d f (map (λ k. value (class_of s k)) ks) ≡ build d g (map (λ k. value (class_of s k)) ls)
          go Free e = in_order (are.free e one)
          go Comm e =
              let comm : IsCommutative (axioms d f) = subst IsCommutative (sym e) tt in
              let p = pair_of ks (commutative_pair i f ks over comm) in
              let q = pair_of ls (commutative_pair j g ls there (subst (λ o. IsCommutative (axioms d o)) one comm)) in
              crossing p.left p.right q.left q.right p.are q.are comm (are.commutative e one p.left p.right q.left q.right p.are q.are)
          go AssocComm e = absurd (subst IsSimple e simple)
          go (AssocCommId o) e = absurd (subst IsSimple e simple)

  -- the value of a class that is bound to a sum
  pub value_sum : (f : OpId) (k : ℕ) → IsClass d (problem_of given) (class_at t (class_of s)) k → IsBound d t (class_of s) c.tag f k → value k ≡ inst d (unfolds_to d bindings) (sum d f (members_of d (problem_of given) (class_at t (class_of s)) plan f k))
  value_sum f k is bound =
      let form = form_of_sum h.partition y c k (plan.form k) (h.plan_by.forms k (class_below h k is)) f bound in
      value_bound k is (sum d f (members_of d (problem_of given) (class_at t (class_of s)) plan f k)) (ap (λ g. bound_as d (problem_of given) (class_at t (class_of s)) plan g k) form)

  -- a sum has members, or its operator has an identity
  pub members_or_identity : (f : OpId) (k : ℕ) → IsBound d t (class_of s) c.tag f k → members_of d (problem_of given) (class_at t (class_of s)) plan f k ≡ [] → HasIdentity d f
  members_or_identity f k bound e = go (axioms d f) refl
    where
      go : (a : Axioms) → axioms d f ≡ a → HasIdentity d f
      go Free i = absurd (some_members h f k bound (subst HasNoIdentity (sym i) tt) e)
      go Comm i = absurd (some_members h f k bound (subst HasNoIdentity (sym i) tt) e)
      go AssocComm i = absurd (some_members h f k bound (subst HasNoIdentity (sym i) tt) e)
      go (AssocCommId o) i = (o, ap identity i)

  module _ (f : OpId) (sum_of : IsSumOperator d t f) (q : FlatTerm) where
    abbrev of : Part → ℕ
    of = of_part d f (unfolds_to d bindings) q

    -- how often q is a summand of the value of a class that is bound to a sum of f
    count_bound : (k : ℕ) → IsClass d (problem_of given) (class_at t (class_of s)) k → IsBound d t (class_of s) c.tag f k → count q (parts d f (value k)) ≡ weighed of (times_in (plan.columns f) k) (plan.parts f)
    count_bound k is bound =
        let l = members_of d (problem_of given) (class_at t (class_of s)) plan f k in
        ap (λ v. count q (parts d f v)) (value_sum f k is bound)
        ∙ ap (count q) (parts_inst_sum d (unfolds_to d bindings) (unfolding_settled d bindings) f sum_of.associative l (members_or_identity f k bound))
        ∙ count_sort q (all_parts d f (map (inst d (unfolds_to d bindings)) l))
        ∙ count_members d f (unfolds_to d bindings) q (plan.columns f) (plan.parts f) k

    -- and of a constant
    count_constant : (k : ℕ) → IsConstant d t (class_of s) c.tag f k → count q (parts d f (value k)) ≡ weighed of (times_in (plan.columns f) k) (plan.parts f)
    count_constant k is =
        let m = count q (parts d f (value k)) in
        let n : sum_by (times_in (plan.columns f) k) (plan.parts f) ≡ 1 =
        sym (sum_by_map (λ v. component (plan.columns f) v k) (λ p. p.solution) (plan.parts f))
        ∙ ap (sum_by (λ v. component (plan.columns f) v k)) (h.plan_by.solutions f sum_of)
        ∙ ap (λ l. sum_by (λ v. component l v k) (taken y c f)) (h.plan_by.columns f sum_of)
        ∙ (h.possible.acceptable f sum_of).once k is
        in
        let w = weighed_alike of (times_in (plan.columns f) k) m (plan.parts f) (λ p there some. ap (λ x. count q (parts d f (unfolds_to d bindings x))) (part_named h f sum_of p there k is (let e = component_is h f sum_of p k in omega (arith, e, some)))) in
        let one : m * 1 ≡ m = omega arith in
        sym (w ∙ ap (λ j. m * j) n ∙ one)

    abbrev rows : List (List ℤ)
    rows = rows_of (y.system f)

    -- the counts, as a combination of the solutions that are taken
    abbrev counted : List ℕ
    counted = combination (y.system f).columns (map of (plan.parts f)) (map (λ p. p.solution) (plan.parts f))

    is_system : IsNodeSystem t (class_of s) f (y.columns f) (y.system f)
    is_system = h.systems.is_system f sum_of

    solve_all : All (Solves (y.system f).columns rows) (map (λ p. p.solution) (plan.parts f))
    solve_all = All-map (Solves (y.system f).columns (rows_of (y.system f))) (λ p. p.solution) (plan.parts f) (all_from (λ p. Solves (y.system f).columns (rows_of (y.system f)) p.solution) (plan.parts f) (λ p m. (part_minimal h f sum_of p m).solves))

    counted_at : (j : ℕ) → j < length (y.columns f) → get_or counted j 0 ≡ weighed of (times_in (plan.columns f) (get_or (y.columns f) j 0)) (plan.parts f)
    counted_at j l =
        let sized = All-weaker (Solves (y.system f).columns (rows_of (y.system f))) (λ v. length v ≡ (y.system f).columns) (λ v r. r.sized) (map (λ p. p.solution) (plan.parts f)) solve_all in
        get_or-combination (y.system f).columns (map of (plan.parts f)) (map (λ p. p.solution) (plan.parts f)) sized j
        ∙ weight_of_parts of (plan.parts f) j
        ∙ weighed_same of (λ p. get_or p.solution j 0) (times_in (plan.columns f) (get_or (y.columns f) j 0)) (λ p. sym (component_at (y.columns f) p.solution is_system.distinct j l) ∙ sym (component_is h f sum_of p (get_or (y.columns f) j 0))) (plan.parts f)

    pub counts : CombinationsSolve → (x : List ℕ) × Counts d f value (y.columns f) rows q x × Solves (y.system f).columns rows x
    counts law =
        let solves = law (y.system f).columns (rows_of (y.system f)) (map of (plan.parts f)) (map (λ p. p.solution) (plan.parts f)) solve_all in
        (counted, record { sized = solves.sized ∙ is_system.wide; used = used_at; unused = solves.unused }, solves)
      where
        used_at : (j : ℕ) → j < length (y.columns f) → (IsUnused (rows_of (y.system f)) j → ⊥) → get_or counted j 0 ≡ count q (parts d f (value (get_or (y.columns f) j 0)))
        used_at j l n =
            let k = get_or (y.columns f) j 0 in
            elim (uses_or_unused d t (class_of s) f (y.columns f) (y.system f) is_system sum_of.associative j l) [
              | inl u ↦
                  let is = column_class h f k u.column in
                  elim (bound_decided h.partition y c k (plan.form k) (h.plan_by.forms k (class_below h k is)) f) [
                    | inl b ↦ counted_at j l ∙ sym (count_bound k is b)
                    | inr o ↦ counted_at j l ∙ sym (count_constant k (record { used = u; not_bound = o }))
                  ]
              | inr z ↦ absurd (n z)
            ]

  module _ (solve : CountsSolve) (combine : CombinationsSolve) where
    sum_built : (i : ℕ) (f : OpId) (ks : List ℕ) → IsOver t.nodes i f ks → IsAssociative (axioms d f) → value (class_of s i) ≡ build d f (map (λ k. value (class_of s k)) ks)
    sum_built i f ks over assoc =
        let has = has_sums h in
        let two = has.pairs i f ks over assoc in
        let p = pair_of ks two.0 in
        let sum_of = sum_operator h.well_made h.table f assoc i ks two.1 over in
        let add = (solve d t (class_of s) f assoc (y.columns f) (y.system f) (h.systems.is_system f sum_of) value (λ k. unfolding_settled d bindings (plan.name k)) (adds_nothing f)).1 (λ q. counts f sum_of q combine) in
        add i p.left p.right two.1 (subst (IsOver t.nodes i f) p.are over) ∙ ap (λ l. build d f (map (λ k. value (class_of s k)) l)) (sym p.are)
      where
        adds_nothing : (f : OpId) → AddsNothing d t (class_of s) f value
        adds_nothing f = all_from (λ p. p.0 ≡ f → parts d f (value (class_of s p.1)) ≡ []) t.units (λ p m same.
            let has = has_sums h in
            let u = has.units p m in
            let plain : IsAssociative (axioms d u.0) → ⊥ = λ a. (let n = (has.pairs p.1 u.0 [] u.2 a).0 in omega (arith, n)) in
            ap (parts d f) (simple_built p.1 u.0 [] u.2 (simple_of (axioms d u.0) plain)) ∙ parts_identity d f u.0 (ap (λ o. identity (axioms d o)) (sym same) ∙ u.1))

    built : (i : ℕ) (f : OpId) (ks : List ℕ) → IsOver t.nodes i f ks → value (class_of s i) ≡ build d f (map (λ k. value (class_of s k)) ks)
    built i f ks over = go (axioms d f) refl
      where
        go : (a : Axioms) → axioms d f ≡ a → value (class_of s i) ≡ build d f (map (λ k. value (class_of s k)) ks)
        go Free e = simple_built i f ks over (subst IsSimple (sym e) tt)
        go Comm e = simple_built i f ks over (subst IsSimple (sym e) tt)
        go AssocComm e = sum_built i f ks over (subst IsAssociative (sym e) tt)
        go (AssocCommId o) e = sum_built i f ks over (subst IsAssociative (sym e) tt)

    -- they are values that go with the nodes
    pub are_values : AreValues d t (class_of s) value
    are_values = record { settled = λ k. unfolding_settled d bindings (plan.name k); built = built }
