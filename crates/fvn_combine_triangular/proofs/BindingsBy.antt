-- The bindings of variables and of classes, in order, are those of the plan.
use Rattle.std.proofs.Common.{◌≡◌, ◌≢◌, ℕ, ◌-◌, ◌<◌, ◌≤◌, true, List, ◌++◌, length, get_or, map, slice_index_or, refl, sym, ap, ◌∙◌, subst, inl, inr, arith, AllPairs, Contains, Option, Some}
use Rattle.std.proofs.lemmas.Bool.{cases_lt}
use Rattle.std.proofs.lemmas.List.{get_or-map, length-append, get_or_append_left}
use Rattle.std.proofs.Math.Seq.{get_or-append_right}
use Rattle.std.proofs.lemmas.List.Elements.{All-append, Contains-get_or, Contains-append_left, Contains-append_right, Contains-append_cases}
use Rattle.std.proofs.lemmas.Option.{get_or_from_slice_get}
use Rattle.fvn_terms.specs.declared.plain.Var.{Var as Variable}
use Rattle.fvn_terms.specs.declared.plain.OpId.{OpId}
use Rattle.fvn_terms.specs.declared.declarations.Declarations.{Declarations}
use Rattle.fvn_terms.specs.Term.{var}
use Rattle.fvn_terms.specs.Substitution.{Occurs}
use Rattle.fvn_forms.specs.Flat.{FlatTerm, fvar, plain}
use Rattle.fvn_forms.specs.Canon.{sum}
use Rattle.fvn_lindio.specs.declared.system.Solution.{Solution}
use Rattle.fvn_flat.specs.Bindings.{Bindings}
use Rattle.fvn_flat.specs.Problems.{variables_of}
use Rattle.fvn_flat.specs.Solving.{problem_of}
use Rattle.fvn_flat.specs.SolvedLists.{Plan, members, members_of, IsTriangular, IsClass, bound_as, IsBinding}
use Rattle.fvn_flat.specs.declared.solver.Pairs.{Pairs}
use Rattle.fvn_combine_nodes.specs.Table.{NodeTable, term_at}
use Rattle.fvn_combine_nodes.specs.Laws.{class_at}
use Rattle.fvn_combine_nodes.specs.States.{class_of}
use Rattle.fvn_combine_nodes.specs.declared.state.State.{State}
use Rattle.fvn_combine_nodes.proofs.Nodes.{term_at-variable}
use Rattle.fvn_combine_leaves.specs.declared.reading.Sums.{Sums}
use Rattle.fvn_combine_leaves.specs.declared.reading.Reading.{Reading}
use Rattle.fvn_combine_choices.specs.Plans.{AreBindingsBy}
use Rattle.fvn_combine_admissible.specs.Listed.{tag_in}
use Rattle.fvn_combine_triangular.specs.declared.binders.Binder.{Binder}
use Rattle.fvn_combine_triangular.specs.declared.binders.Binder.TheVariants.{Nothing, Member, Sum}
use Rattle.fvn_combine_triangular.specs.declared.shares.Share.{Share}
use Rattle.fvn_combine_triangular.specs.inner.Ordering.{IsOrderOf}
use Rattle.fvn_combine_triangular.specs.inner.Planning.{name_in, IsBinderOf, form_of, plan_of, over_names, bound_by, AreClassesBelow, AreVariablesBelow}
use Rattle.fvn_combine_nodes.proofs.NodesOf.{node_of, is_node, node_variable, variable_place}
use Rattle.fvn_combine_nodes.proofs.Lists.{all_from}
use Rattle.fvn_combine_triangular.proofs.Classes.{class_within, class_itself}
use Rattle.fvn_combine_triangular.proofs.Forms.{over_classes_is, sum_at_place}
use Rattle.fvn_combine_triangular.proofs.Made.{IsMade, are_kinded, entry_within, columns_at, parts_at}
use Rattle.fvn_combine_triangular.proofs.Reaching.{reached_new, form_reaches}

abbrev NotItself : Variable × FlatTerm → Type 0
NotItself b = Occurs b.0 (plain b.1) → ⊥

abbrev NotLater : Variable × FlatTerm → Variable × FlatTerm → Type 0
NotLater a b = (a.0 ≢ b.0) × (Occurs a.0 (plain b.1) → ⊥)

-- pairs of a list after another
pairs_append : (R : Variable × FlatTerm → Variable × FlatTerm → Type 0) (xs ys : Bindings) → AllPairs R xs → AllPairs R ys → ((a b : Variable × FlatTerm) → Contains xs a → Contains ys b → R a b) → AllPairs R (xs ++ ys)
pairs_append R xs ys h g cross = λ i j o l n.
    let size = length-append xs ys in
    elim (cases_lt j (length xs)) [
      | inl below ↦
          let a = get_or_append_left xs ys o i (omega (arith, l, below)) in
          let b = get_or_append_left xs ys o j below in
          subst (λ x. R x (get_or (xs ++ ys) j o)) (sym a) (subst (R (get_or xs i o)) (sym b) (h i j o l below))
      | inr above ↦
          let within : j - length xs < length ys = omega (arith, n, size, above) in
          let b = get_or-append_right xs ys j o above in
          elim (cases_lt i (length xs)) [
            | inl under ↦
                let a = get_or_append_left xs ys o i under in
                subst (λ x. R x (get_or (xs ++ ys) j o)) (sym a) (subst (R (get_or xs i o)) (sym b) (cross (get_or xs i o) (get_or ys (j - length xs) o) (Contains-get_or xs i o under) (Contains-get_or ys (j - length xs) o within)))
            | inr over ↦
                let a = get_or-append_right xs ys i o over in
                subst (λ x. R x (get_or (xs ++ ys) j o)) (sym a) (subst (R (get_or ys (i - length xs) o)) (sym b) (g (i - length xs) (j - length xs) o (omega (arith, l, over)) within))
          ]
    ]

-- one list of bindings before another
triangular_append : (xs ys : Bindings) → IsTriangular xs → IsTriangular ys → ((a b : Variable × FlatTerm) → Contains xs a → Contains ys b → NotLater a b) → IsTriangular (xs ++ ys)
triangular_append xs ys h g cross = record {
  not_itself = All-append NotItself xs ys h.not_itself g.not_itself;
  not_later = pairs_append NotLater xs ys h.not_later g.not_later cross;
}

module _ {d : Declarations} {given : Pairs} {first : ℕ} {t : NodeTable} {s : State} {r : Reading} {bases : List (List Solution)} {tags : List (Option OpId)} {numbers : List ℕ} {names : List Variable} {binders : List Binder} {all : List (List Share)} (m : IsMade d given first t s r bases tags numbers names binders all) where
  -- what a class is bound to by its form is what the code makes
  bound_same : (k : ℕ) (b : Binder) → IsBinderOf d t (class_of s) (tag_in tags) r.sums k b → bound_as d (problem_of given) (class_at t (class_of s)) (plan_of t r names binders all) (form_of t r.sums b) k ≡ bound_by d t (class_of s) names r.sums all b k
  bound_same k Nothing h = refl
  bound_same k (Member i) (l, of, (f, ks, over, simple)) =
      ap Some (over_classes_is m.leaf.good.fits m.leaf.made (are_kinded m.leaf m.names_are) i f ks over (problem_of given) (m.leaf.partitions.same (class_of s)) (plan_of t r names binders all) refl
      ∙ ap (over_names d t (class_of s) names) (sym over))
  bound_same k (Sum i) (e, at, bound) =
      let none : OpId = record { 0 = 0 } in
      let plan = plan_of t r names binders all in
      let l = entry_within m.leaf i e at in
      let n = m.shares_are.as_many in
      let is : slice_index_or (map (λ (s : Sums). s.operator) r.sums) i none ≡ e.operator = get_or-map (λ (s : Sums). s.operator) r.sums i e none l ∙ ap (λ (s : Sums). s.operator) (get_or_from_slice_get r.sums i e e at) in
      ap Some
      (ap (λ f. sum d f (members_of d (problem_of given) (class_at t (class_of s)) plan f k)) is
      ∙ ap (λ cs. sum d e.operator (members cs (plan.parts e.operator) k)) (columns_at m.leaf i e at)
      ∙ ap (λ ps. sum d e.operator (members e.columns ps k)) (parts_at m.leaf i e at all n)
      ∙ sym (sum_at_place d r.sums all i k e at (omega (arith, l, n))))

  -- a class has a node
  class_node : (k : ℕ) → IsClass d (problem_of given) (class_at t (class_of s)) k → (i : ℕ) × (i < length t.nodes) × (class_of s i ≡ k)
  class_node k c =
      let n = node_of m.leaf.made m.leaf.ready.table c.0 c.1 in
      (n.number, n.within, sym (m.leaf.partitions.same (class_of s) n.number n.within) ∙ ap (class_at t (class_of s)) n.is ∙ c.2)

  node_class : (i : ℕ) → i < length t.nodes → IsClass d (problem_of given) (class_at t (class_of s)) (class_of s i)
  node_class i l = (term_at t.nodes i, is_node m.leaf.made m.leaf.ready.table i l, m.leaf.partitions.same (class_of s) i l)

  -- a new variable is none of the problem
  not_given : (x : Variable) → x.fresh ≡ true → first ≤ x.name → Contains (variables_of (problem_of given)) x → ⊥
  not_given x fresh l c = let n = m.leaf.ready.is_given.numbers x c fresh in omega (arith, l, n)

  name_not_given : (k : ℕ) → k < length t.nodes → Contains (variables_of (problem_of given)) (name_in names k) → ⊥
  name_not_given k l c =
      let n = m.names_are.each k l in
      not_given (name_in names k) n.fresh (let e = n.number in omega (arith, e)) c

  module _ (vars classes placed : Bindings) (v : AreVariablesBelow t (class_of s) names (length t.nodes) vars) (c : AreClassesBelow d t (class_of s) names r.sums all binders (length t.nodes) classes) (o : IsOrderOf classes placed) where
    abbrev plan : Plan
    plan = plan_of t r names binders all

    -- the binding of a class
    pub class_form : (b : Variable × FlatTerm) → Contains placed b → (k : ℕ) × (k < length t.nodes) × (class_of s k ≡ k) × (b.0 ≡ name_in names k) × (bound_by d t (class_of s) names r.sums all (slice_index_or binders k Nothing) k ≡ Some b.1)
    class_form b listed = c.from b ((o.1 b).0 listed)

    -- the binding of a variable
    pub variable_form : (b : Variable × FlatTerm) → Contains vars b → (i : ℕ) × (i < length t.nodes) × Contains (variables_of (problem_of given)) b.0 × (term_at t.nodes i ≡ var b.0) × (b.1 ≡ fvar (name_in names (class_of s i)))
    variable_form b listed =
        let f = v.from b listed in
        let given_so = node_variable m.leaf.made m.leaf.ready.table f.0 b.0 f.2 in
        (f.0, f.1, given_so, term_at-variable t.nodes f.0 b.0 f.2, f.3)

    class_bound : (k : ℕ) (u : FlatTerm) → IsClass d (problem_of given) (class_at t (class_of s)) k → bound_as d (problem_of given) (class_at t (class_of s)) plan (plan.form k) k ≡ Some u → Contains (vars ++ placed) (name_in names k, u)
    class_bound k u is e =
        let n = class_node k is in
        let within : k < length t.nodes = subst (λ k. k < length t.nodes) n.2 (class_within m.leaf.made m.leaf.ready.closed n.0 n.1) in
        let own : class_of s k ≡ k = subst (λ k. class_of s k ≡ k) n.2 (class_itself m.leaf.made m.leaf.ready.closed n.0 n.1) in
        let b = slice_index_or binders k Nothing in
        Contains-append_right vars placed (name_in names k, u) ((o.1 (name_in names k, u)).1 (c.every k u within own (sym (bound_same k b (m.binders_are.each k within)) ∙ e)))

    variable_bound : (x : Variable) → Contains (variables_of (problem_of given)) x → Contains (vars ++ placed) (x, fvar (name_in names (class_at t (class_of s) (var x))))
    variable_bound x given_so =
        let n = variable_place m.leaf.made m.leaf.ready.table x given_so in
        let same : class_of s n.0 ≡ class_at t (class_of s) (var x) = sym (m.leaf.partitions.same (class_of s) n.0 n.1) ∙ ap (class_at t (class_of s)) n.3 in
        Contains-append_left vars placed (x, fvar (name_in names (class_at t (class_of s) (var x)))) (subst (λ k. Contains vars (x, fvar (name_in names k))) same (v.every n.0 x n.1 n.2))

    is_binding : (b : Variable × FlatTerm) → Contains (vars ++ placed) b → IsBinding d (problem_of given) (class_at t (class_of s)) plan b
    is_binding b listed = elim (Contains-append_cases vars placed b listed) [
      | inl old ↦
          let f = variable_form b old in
          let same : class_of s f.0 ≡ class_at t (class_of s) (var b.0) = sym (m.leaf.partitions.same (class_of s) f.0 f.1) ∙ ap (class_at t (class_of s)) f.3 in
          let within = class_within m.leaf.made m.leaf.ready.closed f.0 f.1 in
          inr (f.2, λ e. name_not_given (class_of s f.0) within (subst (Contains (variables_of (problem_of given))) (sym (ap (name_in names) same ∙ e)) f.2), f.4 ∙ ap (λ k. fvar (name_in names k)) same)
      | inr new ↦
          let f = class_form b new in
          let b_is = slice_index_or binders f.0 Nothing in
          inl (f.0, subst (IsClass d (problem_of given) (class_at t (class_of s))) f.2 (node_class f.0 f.1), f.3, bound_same f.0 b_is (m.binders_are.each f.0 f.1) ∙ f.4)
    ]

    -- variables come before the names of classes
    variables_triangular : IsTriangular vars
    variables_triangular = record {
      not_itself = all_from NotItself vars (λ b listed same. name_of b b listed listed same);
      not_later = λ i j e l n. (v.distinct i j e l n, name_of (get_or vars i e) (get_or vars j e) (Contains-get_or vars i e (omega (arith, l, n))) (Contains-get_or vars j e n));
    }
      where
        name_of : (a b : Variable × FlatTerm) → Contains vars a → Contains vars b → Occurs a.0 (plain b.1) → ⊥
        name_of a b ca cb same =
            let f = variable_form a ca in
            let g = variable_form b cb in
            let is : a.0 ≡ name_in names (class_of s g.0) = subst (λ u. Occurs a.0 (plain u)) g.4 same in
            name_not_given (class_of s g.0) (class_within m.leaf.made m.leaf.ready.closed g.0 g.1) (subst (Contains (variables_of (problem_of given))) is f.2)

    variables_first : (a b : Variable × FlatTerm) → Contains vars a → Contains placed b → NotLater a b
    variables_first a b ca cb =
        let f = variable_form a ca in
        let g = class_form b cb in (
          λ same. name_not_given g.0 g.1 (subst (Contains (variables_of (problem_of given))) (same ∙ g.3) f.2),
          λ occurs.
              let n = reached_new m g.0 a.0 (form_reaches m g.0 (slice_index_or binders g.0 Nothing) (m.binders_are.each g.0 g.1) b.1 g.4 a.0 occurs) in
              not_given a.0 n.0 n.1 f.2,
        )

    pub bindings_by : AreBindingsBy d (problem_of given) (class_at t (class_of s)) plan (vars ++ placed)
    bindings_by = record {
      classes = class_bound;
      variables = λ x given_so other. variable_bound x given_so;
      no_other = all_from (IsBinding d (problem_of given) (class_at t (class_of s)) plan) (vars ++ placed) is_binding;
      triangular = triangular_append vars placed variables_triangular o.0 variables_first;
    }
