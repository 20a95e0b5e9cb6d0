-- What a unifier on kinds comes to with sorts is a unifier, and is drawn.
use Rattle.std.proofs.Common.{◌≡◌, ◌≤◌, ◌<◌, ℕ, true, List, [], ◌∷◌, ◌++◌, Option, Some, None, refl, sym, ap, ◌∙◌, subst, inl, inr}
use Rattle.std.specs.Prelude.{All, Contains}
use Rattle.std.specs.Option.{option_map, IsSome}
use Rattle.std.proofs.lemmas.List.Elements.{All-nil, All-cons, All-head, All-tail, All-weaker, All-contains_itself, Contains-append_left, Contains-append_right, Contains-append_cases}
use Rattle.fvn_base.specs.declared.limits.TheConstants.{NEXT_FRESH}
use Rattle.fvn_base.proofs.Membership.{contains_none}
use Rattle.fvn_terms.specs.declared.plain.Var.{Var}
use Rattle.fvn_terms.specs.declared.plain.SortId.{SortId}
use Rattle.fvn_terms.specs.declared.declarations.Declarations.{Declarations}
use Rattle.fvn_terms.specs.Term.{Term, var}
use Rattle.fvn_terms.specs.Signature.{kind, IsSort, same, HasKind, KeepsKinds}
use Rattle.fvn_terms.specs.Substitution.{Substitution, apply, followed_by, Occurs}
use Rattle.fvn_terms.specs.Equality.{BEqual}
use Rattle.fvn_terms.specs.Sorts.{HasSort, IsWellSorted}
use Rattle.fvn_terms.specs.Unifiers.{Problem, IsUnifier}
use Rattle.fvn_terms.proofs.Equal.{BEqual-refl, BEqual-sym, BEqual-trans, BEqual-apply}
use Rattle.fvn_terms.proofs.Substitutions.{apply-apply}
use Rattle.fvn_terms.proofs.Occurrences.{occurs_value, BEqual-occurs}
use Rattle.fvn_forms.specs.Flat.{FlatTerm, fvar, plain}
use Rattle.fvn_forms.specs.Canon.{canon, inst}
use Rattle.fvn_forms.proofs.ToCanon.{to_canon}
use Rattle.fvn_flat.specs.Bindings.{Bindings, bound, form_or, value, BindingsFit}
use Rattle.fvn_flat.specs.Problems.{variables, variables_of, IsProblem}
use Rattle.fvn_flat.specs.Solving.{substitution, problem_of, Binds, IsNumbered}
use Rattle.fvn_flat.specs.SolvedLists.{unfolded}
use Rattle.fvn_flat.specs.Drawn.{OccursInValues, IsMaximalWay, IsDrawn}
use Rattle.fvn_flat.specs.declared.solver.Pairs.{Pairs}
use Rattle.fvn_flat.proofs.Instances.{inst_equal}
use Rattle.fvn_flat.proofs.VariableLists.{variables_list, variables_occur}
use Rattle.fvn_refine.specs.Refinements.{Way, at_sort, IsAtSorts, AreBound, HaveKindsAsSorts, IsLargest, HaveTheirSorts}
use Rattle.fvn_refine.proofs.Refined.{occurring_sort, kinded_value, canon_value}
use Rattle.fvn_refine.proofs.AtSorts.{sorts_flat, value_at_sorts}
use Rattle.fvn_combine.specs.CombineDrawingOnKinds.{IsGivenOnKinds}
use Rattle.fvn_axunify.specs.inner.Asked.{IsAsked}
use Rattle.fvn_axunify.specs.inner.Members.{IsMember}
use Rattle.fvn_axunify.proofs.SameValues.{apply_equal}
use Rattle.fvn_axunify.proofs.WaysAlong.{maximal_along}

-- variables of problems have sorts of the signature
pub variable_sorts : (d : Declarations) (ps : Problem) → IsProblem d ps → (x : Var) → Contains (variables_of ps) x → IsSort d x.sort
variable_sorts d [] h x c = absurd (contains_none x c)
variable_sorts d (p ∷ ps) h x c =
    let own = All-head (λ p. (k : SortId) × HasKind d p.0 k × HasKind d p.1 k) p ps h in
    elim (Contains-append_cases (variables p.0 ++ variables p.1) (variables_of ps) x c) [
      | inl a ↦
          elim (Contains-append_cases (variables p.0) (variables p.1) x a) [
            | inl b ↦ occurring_sort d p.0 own.0 own.1 x (variables_occur x p.0 b)
            | inr b ↦ occurring_sort d p.1 own.0 own.2 x (variables_occur x p.1 b)
          ]
      | inr r ↦ variable_sorts d ps (All-tail (λ p. (k : SortId) × HasKind d p.0 k × HasKind d p.1 k) p ps h) x r
    ]

-- a variable with its parts
one_variable : (a b : Var) → a.name ≡ b.name → a.sort ≡ b.sort → a.fresh ≡ b.fresh → a ≡ b
one_variable a b n s f =
    ap (λ m. record { name = m; sort = a.sort; fresh = a.fresh }) n
    ∙ ap (λ q. record { name = b.name; sort = q; fresh = a.fresh }) s
    ∙ ap (λ r. record { name = b.name; sort = b.sort; fresh = r }) f

module _ (d : Declarations) (given : Pairs) (vars : List Var) (first size : ℕ) (asked : IsAsked d given vars first) (g : Bindings) (h : IsGivenOnKinds d given first size g) where
  sort_of : (x : Var) → Contains (variables_of (problem_of given)) x → IsSort d x.sort
  sort_of x c = variable_sorts d (problem_of given) asked.is_given.kinds x c

  -- each of the variables is bound
  pub are_bound : AreBound d vars g
  are_bound =
      All-weaker (Contains vars) (λ x. IsSort d x.sort × IsSome (bound g x))
      (λ x c. let p = (asked.variables x).0 c in (sort_of x p, subst IsSome (sym ((h.binds x).0 p).1) refl)) vars (All-contains_itself vars)

  -- and over variables with kinds as their sorts
  pub have_kinds : HaveKindsAsSorts d vars g
  have_kinds y o = (h.new o.0 y ((asked.variables o.0).0 o.1) o.2).is_kind

  module _ (way : Way) (largest : IsLargest d vars g way) (r : Bindings) (at : IsAtSorts d g way r) (fit : BindingsFit d r) (sorts : HaveTheirSorts d vars r) where
    abbrev put : Substitution
    put y = var (at_sort way y)

    put_keeps : KeepsKinds d put
    put_keeps = (sorts_flat d asked.good vars g h.fit are_bound way largest).keeps_kinds

    -- the values are those of g with sorts put
    value_near : (x : Var) → Contains (variables_of (problem_of given)) x → BEqual d (apply put (substitution g x)) (substitution r x)
    value_near x c =
        let i = (asked.variables x).1 c in
        subst (λ v. BEqual d (apply put (plain (value g x))) (plain v)) (sym (value_at_sorts d asked.good vars g h.fit are_bound way largest r at x i))
        (inst_equal d (λ y. fvar (at_sort way y)) asked.good (sorts_flat d asked.good vars g h.fit are_bound way largest) (value g x) (kind d x.sort, kinded_value d vars g h.fit are_bound x i))

    binds : Binds (problem_of given) r
    binds x = (λ c. let b = (h.binds x).0 c in (inst d (λ y. fvar (at_sort way y)) b.0, at x ∙ ap (option_map (inst d (λ y. fvar (at_sort way y)))) b.1), λ b. back (bound g x) refl b)
      where
        back : (o : Option FlatTerm) → bound g x ≡ o → ((t : FlatTerm) × (bound r x ≡ Some t)) → Contains (variables_of (problem_of given)) x
        back None e b =
            let none : Some b.0 ≡ None = sym b.1 ∙ at x ∙ ap (option_map (inst d (λ y. fvar (at_sort way y)))) e in cc
        back (Some u) e b = (h.binds x).1 (u, e)

    own_sort : (z : Var) → HasSort d (var z) z.sort
    own_sort z = record { form = var z; equal = BEqual-refl d (var z); gets = record { sort = z.sort; gets = refl; below = same } }

    well_sorted : IsWellSorted d (substitution r)
    well_sorted = (λ x i. fit.keeps_kinds x i, λ x. has x (bound r x) refl)
      where
        has : (x : Var) (o : Option FlatTerm) → bound r x ≡ o → HasSort d (substitution r x) x.sort
        has x None e = subst (λ o. HasSort d (plain (form_or x o)) x.sort) (sym e) (own_sort x)
        has x (Some t) e = sorts x ((asked.variables x).1 ((binds x).1 (t, e)))

    -- both sides of a pair are made equal
    abbrev Solved : Term × Term → Type 0
    Solved p = BEqual d (apply (substitution r) p.0) (apply (substitution r) p.1)

    side : (t : Term) → ((x : Var) → Occurs x t → Contains (variables_of (problem_of given)) x) → BEqual d (apply put (apply (substitution g) t)) (apply (substitution r) t)
    side t all =
        subst (λ v. BEqual d v (apply (substitution r) t)) (sym (apply-apply (substitution g) put t))
        (apply_equal d (followed_by (substitution g) put) (substitution r) t (λ x o. value_near x (all x o)))

    solves : (ps : Problem) → ((x : Var) → Contains (variables_of ps) x → Contains (variables_of (problem_of given)) x) →
        All (λ p. BEqual d (apply (substitution g) p.0) (apply (substitution g) p.1)) ps → All Solved ps
    solves [] all e = All-nil Solved
    solves (p ∷ ps) all e =
        let near = All-head (λ p. BEqual d (apply (substitution g) p.0) (apply (substitution g) p.1)) p ps e in
        All-cons Solved p ps
        (
        BEqual-trans d
        (BEqual-sym d (side p.0 (λ x o. all x (Contains-append_left (variables p.0 ++ variables p.1) (variables_of ps) x (Contains-append_left (variables p.0) (variables p.1) x (variables_list x p.0 o))))))
        (
        BEqual-trans d (BEqual-apply d put put_keeps near)
        (side p.1 (λ x o. all x (Contains-append_left (variables p.0 ++ variables p.1) (variables_of ps) x (Contains-append_right (variables p.0) (variables p.1) x (variables_list x p.1 o)))))
        )
        )
        (solves ps (λ x c. all x (Contains-append_right (variables p.0 ++ variables p.1) (variables_of ps) x c)) (All-tail (λ p. BEqual d (apply (substitution g) p.0) (apply (substitution g) p.1)) p ps e))

    unifier : IsUnifier d (problem_of given) (substitution r)
    unifier = (well_sorted, solves (problem_of given) (λ x c. c) h.unifies.1)

    numbered : IsNumbered first NEXT_FRESH (problem_of given) r
    numbered x y c o =
        let from = occurs_value y put (plain (value g x)) (BEqual-occurs y d (apply put (substitution g x)) (substitution r x) (value_near x c) o) in
        let new = h.new x from.0 c from.1.0 in
        subst (λ z. (z.fresh ≡ true) × (first ≤ z.name) × (z.name < NEXT_FRESH)) (sym from.1.1) (new.fresh, new.above, new.below)

    -- what g was unfolded from
    abbrev whole : Substitution
    whole = unfolded h.unfolded_from.list

    whole_near : (x : Var) → Contains (variables_of (problem_of given)) x → BEqual d (whole x) (substitution g x)
    whole_near x c =
        subst (λ v. BEqual d (whole x) (plain v)) (sym (h.unfolded_from.unfolds x c))
        (to_canon d asked.good.fits (whole x) (kind d x.sort) (h.unfolded_from.solved.1.unifies.0 x (sort_of x c)))

    form_is : (x : Var) → Contains (variables_of (problem_of given)) x → canon d (substitution g x) ≡ canon d (whole x)
    form_is x c = canon_value d vars g h.fit are_bound x ∙ h.unfolded_from.unfolds x c

    to_whole : (y : Var) → OccursInValues vars (substitution g) y → OccursInValues (variables_of (problem_of given)) whole y
    to_whole y o = let c = (asked.variables o.0).0 o.1 in (o.0, c, BEqual-occurs y d (whole o.0) (substitution g o.0) (whole_near o.0 c) o.2)

    from_whole : (y : Var) → OccursInValues (variables_of (problem_of given)) whole y → OccursInValues vars (substitution g) y
    from_whole y o = (o.0, (asked.variables o.0).1 o.1, BEqual-occurs y d (substitution g o.0) (whole o.0) (BEqual-sym d (whole_near o.0 o.1)) o.2)

    maximal : IsMaximalWay d (variables_of (problem_of given)) whole way
    maximal =
        maximal_along d vars (variables_of (problem_of given)) (substitution g) whole
        (record { variables = λ x c. (asked.variables x).1 c; forms = λ x c. form_is x c; there = to_whole; back = from_whole })
        (record { variables = λ x c. (asked.variables x).0 c; forms = λ x c. sym (form_is x ((asked.variables x).0 c)); there = from_whole; back = to_whole })
        way largest.maximal

    own_kind : (y : Var) → OccursInValues vars (substitution g) y → y.sort ≡ kind d (way y)
    own_kind y o = sym (have_kinds y o) ∙ sym (largest.maximal.is_way.kinds y o).1

    drawn : IsDrawn d (problem_of given) (substitution r)
    drawn = record {
      class = h.unfolded_from.class;
      partition = h.unfolded_from.partition;
      bindings = h.unfolded_from.list;
      solved = h.unfolded_from.solved;
      way = way;
      maximal = maximal;
      renaming = at_sort way;
      one_to_one = λ x y i j e.
          one_variable x y (ap (λ z. z.name) e)
          (own_kind x (from_whole x i) ∙ ap (λ z. kind d z.sort) e ∙ sym (own_kind y (from_whole y j)))
          (ap (λ z. z.fresh) e);
      sorted = λ y o. refl;
      equal = λ x c. BEqual-trans d (BEqual-sym d (value_near x c)) (BEqual-sym d (BEqual-apply d put put_keeps (whole_near x c)));
    }

    pub member : IsMember d given first r
    member = record { unifier = unifier; drawn = drawn; binds = binds; fit = fit; numbered = numbered }
