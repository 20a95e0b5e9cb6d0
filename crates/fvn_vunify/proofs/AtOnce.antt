-- What is promised of the answer for pairs whose sides have one normal form.
use Rattle.std.proofs.Common.{◌≡◌, ◌⊎◌, ◌+◌, ◌<◌, ◌≤◌, ℕ, List, [], ◌∷◌, map, length, get_or, drop, refl, sym, ap, ◌∙◌, subst, inl, inr, arith}
use Rattle.std.specs.Prelude.{All, Contains}
use Rattle.std.proofs.lemmas.List.{length-drop}
use Rattle.std.proofs.lemmas.List.Elements.{All-nil, All-cons, All-map, All-weaker, All-contains_itself}
use Rattle.fvn_base.proofs.Membership.{contains_cases, contains_none}
use Rattle.fvn_terms.specs.declared.plain.Var.{Var}
use Rattle.fvn_terms.specs.Term.{Term, var}
use Rattle.fvn_terms.specs.Substitution.{Substitution, apply}
use Rattle.fvn_terms.specs.Signature.{kind, IsSort, HasKind}
use Rattle.fvn_terms.specs.Places.{stop}
use Rattle.fvn_terms.specs.Equality.{BEqual}
use Rattle.fvn_terms.specs.Sorts.{HasSort, IsWellSorted}
use Rattle.fvn_terms.specs.Unifiers.{Solves, IsInstance}
use Rattle.fvn_terms.specs.Theory.{TEqual}
use Rattle.fvn_terms.specs.Rewriting.{IsIrreducible}
use Rattle.fvn_terms.specs.Variants.{OccursInSome}
use Rattle.fvn_terms.specs.Laws.{RewritingLaws, TheoryLaws}
use Rattle.fvn_forms.specs.Flat.{FlatTerm, plain}
use Rattle.fvn_flat.specs.Bindings.{Bindings, BindingsFit}
use Rattle.fvn_flat.specs.OneAnswer.{IsApartFor}
use Rattle.fvn_flat.specs.Problems.{variables_of, plain_pairs}
use Rattle.fvn_flat.specs.Solving.{FlatPairs, substitution}
use Rattle.fvn_cover.specs.declared.variant.Variant.{Variant}
use Rattle.fvn_exploring.specs.declared.ends.ExploreEnd.TheVariants.{Complete}
use Rattle.fvn_exploring.specs.Setting.{Setting}
use Rattle.fvn_vunify.specs.declared.solved.SolvedModulo.{SolvedModulo}
use Rattle.fvn_vunify.specs.Sides.{sides_in_turn, two_by_two}
use Rattle.fvn_vunify.specs.Solutions.{IsIrreducibleUnifier, AreAllIrreducibleUnifiers}
use Rattle.fvn_vunify.specs.Solved.{HasSmallValues}
use Rattle.fvn_vunify.specs.AtOnce.{HaveOneForm, IsSolvedAtOnce, IsSolvedAtOnceFor}
use Rattle.fvn_vunify.specs.inner.Names.{AreFreshNames}
use Rattle.fvn_vunify.specs.inner.Tests.{ArePassed, AllStay, AreTestsOfAll}
use Rattle.fvn_vunify.specs.inner.Attempts.{candidate_of}
use Rattle.fvn_vunify.specs.inner.OneForms.{HaveOneFormEach, IsAlone, variables_of_forms}
use Rattle.fvn_vunify.specs.declared.testing.Test.TheVariants.{Irreducible}
use Rattle.fvn_vunify.proofs.Apart.{next_two}
use Rattle.fvn_vunify.proofs.IrreducibleValues.{variables_sorted}
use Rattle.fvn_vunify.proofs.ListedForms.{occurring_listed}
use Rattle.fvn_vunify.proofs.NewNames.{name_of, named, name_sort, back_from, back_name, back_sort}
use Rattle.fvn_vunify.proofs.TwoByTwo.{variable_of_sides}

-- each two of the terms that are taken together have one normal form, where those that are left have
abbrev pub IsLeftAlike : Setting → List FlatTerm → ℕ → Type 0
IsLeftAlike g ts i = HaveOneFormEach g (drop i ts) → HaveOneFormEach g ts

module _ (g : Setting) (ts : List FlatTerm) (i : ℕ) where
  -- the next two have one
  pub alike_more : (a b : FlatTerm) → i + 1 < length ts → a ≡ get_or ts i a → b ≡ get_or ts (i + 1) b → HaveOneForm g a b → IsLeftAlike g ts i → IsLeftAlike g ts (i + 2)
  alike_more a b within is_a is_b one left rest = left (λ p m. go p (contains_cases (a, b) (two_by_two (drop (i + 2) ts)) p (subst (λ l. Contains l p) (next_two ts i a b within is_a is_b) m))) where
    go : (p : FlatTerm × FlatTerm) → ((a, b) ≡ p) ⊎ Contains (two_by_two (drop (i + 2) ts)) p → HaveOneForm g p.0 p.1
    go p (inl e) = subst (λ (q : FlatTerm × FlatTerm). HaveOneForm g q.0 q.1) e one
    go p (inr m) = rest p m

  -- no two are left
  pub alike_all : length ts ≤ i + 1 → IsLeftAlike g ts i → HaveOneFormEach g ts
  alike_all l left = left (λ p m. absurd (contains_none p (subst (λ l. Contains l p) (none (drop i ts) (let e = length-drop i ts in omega (arith, e, l))) m))) where
    none : (left : List FlatTerm) → length left ≤ 1 → two_by_two left ≡ []
    none [] n = refl
    none (t ∷ []) n = refl
    none (t ∷ u ∷ us) n = absurd (omega (arith, n))

-- the sides in turn, taken two by two, are the pairs
pairs_again : (pairs : FlatPairs) → two_by_two (sides_in_turn pairs) ≡ pairs
pairs_again [] = refl
pairs_again (p ∷ pairs) = ap (λ l. p ∷ l) (pairs_again pairs)

module _ (g : Setting) (rewriting : RewritingLaws g.declarations g.equations) (theory : TheoryLaws g.declarations g.equations) (terms : List FlatTerm)
    (names : Bindings) (next : ℕ) (fresh : AreFreshNames (candidate_of (variables_of_forms terms) []) names next) where
  abbrev vars : List Var
  vars = variables_of_forms terms

  abbrev v : Variant
  v = candidate_of vars []

  abbrev to : Var → Var
  to = name_of v names next fresh

  abbrev back : Var → Var
  back = back_from v names next fresh

  is_named : (x : Var) → substitution names x ≡ var (to x)
  is_named x = ap plain (named v names next fresh x)

  -- the renaming keeps sorts
  sorted : IsWellSorted g.declarations (substitution names)
  sorted = (
    (fresh.fits g.declarations).keeps_kinds,
    λ x. subst (λ t. HasSort g.declarations t x.sort) (sym (is_named x)) (subst (HasSort g.declarations (var (to x))) (name_sort v names next fresh x) ((variables_sorted g.declarations).1 (to x))),
  )

  -- every well-sorted substitution is an instance of it
  module _ (c : Substitution) (well : IsWellSorted g.declarations c) where
    after : Substitution
    after z = c (back z)

    after_sorted : IsWellSorted g.declarations after
    unfolding after
    after_sorted = (
      λ z i. subst (λ q. HasKind g.declarations (c (back z)) (kind g.declarations q)) (back_sort v names next fresh z) (well.0 (back z) (subst (IsSort g.declarations) (sym (back_sort v names next fresh z)) i)),
      λ z. subst (HasSort g.declarations (c (back z))) (back_sort v names next fresh z) (well.1 (back z)),
    )

    taken_back : (x : Var) → Contains vars x → BEqual g.declarations (c x) (apply after (substitution names x))
    unfolding after
    taken_back x m =
        let held : Contains fresh.vars x = fresh.held x (x, m, refl) in
        subst (λ t. BEqual g.declarations (c x) (apply after t)) (sym (is_named x)) (subst (BEqual g.declarations (c x)) (sym (ap c (back_name v names next fresh x held))) stop)

  module _ (each : HaveOneFormEach g terms) (passed : ArePassed g vars names) (stay : AllStay g names g.fixed) (pairs : FlatPairs) (is : terms ≡ sides_in_turn pairs) where
    abbrev Alike : FlatTerm × FlatTerm → Type 0
    Alike p = HaveOneForm g p.0 p.1

    alike : All Alike pairs
    alike = All-weaker (Contains pairs) Alike (λ p m. each p (subst (λ l. Contains l p) (sym (ap two_by_two is ∙ pairs_again pairs)) m)) pairs (All-contains_itself pairs)

    -- terms with one normal form are equal in the theory
    equal : (t u : FlatTerm) → HaveOneForm g t u → TEqual g.declarations g.equations (plain t) (plain u)
    equal t u h =
        let eq = theory.equivalence in
        eq.transitive (plain t) (plain h.form) (plain u)
        (rewriting.theory h.left.reached.count (plain t) (plain h.form) h.left.reached.reached.sequence)
        (eq.symmetric (plain u) (plain h.form) (rewriting.theory h.right.reached.count (plain u) (plain h.form) h.right.reached.reached.sequence))

    solves : (ps : FlatPairs) → All Alike ps → Solves (TEqual g.declarations g.equations) (plain_pairs ps) (substitution names)
    solves ps h = All-map (λ (q : Term × Term). TEqual g.declarations g.equations (apply (substitution names) q.0) (apply (substitution names) q.1)) (λ (p : FlatTerm × FlatTerm). (plain p.0, plain p.1)) ps
        (All-weaker Alike (λ p. TEqual g.declarations g.equations (apply (substitution names) (plain p.0)) (apply (substitution names) (plain p.1)))
        (λ p a. theory.substitution (substitution names) sorted (plain p.0) (plain p.1) (equal p.0 p.1 a)) ps h)

    in_vars : (x : Var) → Contains (variables_of (plain_pairs pairs)) x → Contains vars x
    in_vars x m = occurring_listed terms x (subst (λ l. OccursInSome x (map plain l)) (sym is) (variable_of_sides pairs x m))

    sound : IsIrreducibleUnifier g (plain_pairs pairs) (substitution names)
    sound = record {
      kept = record {
        unifier = (sorted, solves pairs alike);
        stay = All-weaker (Contains g.fixed) (λ t. IsIrreducible g.declarations g.equations (apply (substitution names) t)) stay g.fixed (All-contains_itself g.fixed);
      };
      values = λ x m. (passed x (in_vars x m)).irreducible;
    }

    general : (c : Substitution) → IsIrreducibleUnifier g (plain_pairs pairs) c → IsInstance g.declarations (variables_of (plain_pairs pairs)) c (substitution names)
    general c h = let well = h.kept.unifier.0 in record { after = after c well; well_sorted = after_sorted c well; equal = λ x m. taken_back c well x (in_vars x m) }

    alone_solved : (r : SolvedModulo) → r.unifiers ≡ names ∷ [] → r.end ≡ Complete → IsSolvedAtOnce g pairs r
    alone_solved r is_one end =
        let one : (P : Bindings → Type 0) → P names → All P r.unifiers = λ P h. subst (All P) (sym is_one) (All-cons P names [] h (All-nil P)) in
        let list_is : map substitution r.unifiers ≡ substitution names ∷ [] = ap (map substitution) is_one in
        record {
          alike = alike;
          one = ap length is_one;
          sound = one (λ s. IsIrreducibleUnifier g (plain_pairs pairs) (substitution s)) sound;
          fits = one (BindingsFit g.declarations) (fresh.fits g.declarations);
          small = one (HasSmallValues g (plain_pairs pairs)) (λ x m. (passed x (in_vars x m)).small);
          apart = subst (IsApartFor g.declarations (plain_pairs pairs)) (sym list_is) (λ i j d l m. absurd (omega (arith, l, m)));
          complete = subst (AreAllIrreducibleUnifiers g (plain_pairs pairs)) (sym list_is) (record {
            sound = All-cons (IsIrreducibleUnifier g (plain_pairs pairs)) (substitution names) [] sound (All-nil (IsIrreducibleUnifier g (plain_pairs pairs)));
            complete = λ c h. (0, substitution names, omega arith, refl, general c h);
          });
          end = end;
        }

-- one renaming solves all pairs with these sides
pub solved_at_once : (g : Setting) → RewritingLaws g.declarations g.equations → TheoryLaws g.declarations g.equations → (terms : List FlatTerm) → HaveOneFormEach g terms → (v : Variant) → v ≡ candidate_of (variables_of_forms terms) [] →
    (names : Bindings) (next : ℕ) → AreFreshNames v names next → (vars : List Var) → vars ≡ v.vars → AreTestsOfAll g vars names Irreducible → (r : SolvedModulo) → IsAlone names r → IsSolvedAtOnceFor g terms r
solved_at_once g rewriting theory terms each v v_is names next fresh vars vars_are tests r alone pairs is =
    let here = subst (λ w. AreFreshNames w names next) v_is fresh in
    let at : vars ≡ variables_of_forms terms = vars_are ∙ ap (λ (w : Variant). w.vars) v_is in
    alone_solved g rewriting theory terms names next here each (subst (λ l. ArePassed g l names) at tests.0) tests.1 pairs is r alone.unifiers alone.end
