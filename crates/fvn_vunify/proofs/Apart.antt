-- Terms of which two that are taken together never meet: they have no unifier, and nothing is found for them.
use Rattle.std.proofs.Common.{◌≡◌, ◌<◌, ◌+◌, ℕ, List, [], ◌∷◌, map, length, get_or, drop, refl, sym, ap, ◌∙◌, subst, arith}
use Rattle.std.specs.List.{All, Any, Contains}
use Rattle.std.proofs.lemmas.List.{drop_more}
use Rattle.std.proofs.lemmas.List.Elements.{All-nil, All-contains}
use Rattle.fvn_base.proofs.Membership.{contains_here, contains_later, contains_map}
use Rattle.fvn_terms.specs.declared.plain.Var.{Var}
use Rattle.fvn_terms.specs.declared.declarations.Declarations.{Declarations}
use Rattle.fvn_terms.specs.Term.{Term}
use Rattle.fvn_terms.specs.Substitution.{Substitution, apply}
use Rattle.fvn_terms.specs.Equality.{BEqual}
use Rattle.fvn_terms.specs.Unifiers.{Problem, IsUnifier}
use Rattle.fvn_forms.specs.Flat.{FlatTerm, plain}
use Rattle.fvn_forms.proofs.Eval.{canon_respects}
use Rattle.fvn_places.specs.Clashes.{NeverMeet}
use Rattle.fvn_cover.specs.declared.variant.Variant.{Variant}
use Rattle.fvn_exploring.specs.declared.ends.ExpandEnd.TheVariants.{Whole}
use Rattle.fvn_exploring.specs.Setting.{Setting}
use Rattle.fvn_vunify.specs.Sides.{two_by_two, problem_over}
use Rattle.fvn_vunify.specs.inner.Attempts.{SomeNeverMeet, IsCandidate, IsAttempt}

-- the next two of what is left
pub next_two : (ts : List FlatTerm) (i : ℕ) (a b : FlatTerm) → i + 1 < length ts → a ≡ get_or ts i a → b ≡ get_or ts (i + 1) b →
    two_by_two (drop i ts) ≡ (a, b) ∷ two_by_two (drop (i + 2) ts)
next_two ts i a b l is_a is_b =
    let further : i + 1 + 1 ≡ i + 2 = omega arith in
    ap two_by_two
    (
    drop_more ts i a (omega (arith, l))
    ∙ ap (λ t. t ∷ drop (i + 1) ts) (sym is_a)
    ∙ ap (λ l. a ∷ l) (drop_more ts (i + 1) b l)
    ∙ ap (λ t. a ∷ t ∷ drop (i + 1 + 1) ts) (sym is_b)
    ∙ ap (λ n. a ∷ b ∷ drop n ts) further
    )

-- what is left are some of all
abbrev pub AreLeft : List FlatTerm → ℕ → Type 0
AreLeft ts i = (p : FlatTerm × FlatTerm) → Contains (two_by_two (drop i ts)) p → Contains (two_by_two ts) p

module _ (ts : List FlatTerm) (i : ℕ) (a b : FlatTerm) (within : i + 1 < length ts) (is_a : a ≡ get_or ts i a) (is_b : b ≡ get_or ts (i + 1) b) (left : AreLeft ts i) where
  pub left_more : AreLeft ts (i + 2)
  left_more p m =
      left p (subst (λ l. Contains l p) (sym (next_two ts i a b within is_a is_b)) (contains_later (a, b) (two_by_two (drop (i + 2) ts)) p m))

  pub some_here : (d : Declarations) → NeverMeet d a b → SomeNeverMeet d ts
  some_here d never =
      let m = left (a, b) (subst (λ l. Contains l (a, b)) (sym (next_two ts i a b within is_a is_b)) (contains_here (a, b) (two_by_two (drop (i + 2) ts)))) in
      (m.0, (a, b), m.1, m.2, never)

-- so they have no unifier
never_unified : (d : Declarations) (ts : List FlatTerm) → SomeNeverMeet d ts → (s : Substitution) → IsUnifier d (problem_over ts) s → ⊥
never_unified d ts (k, p, l, e, never) s unifies =
    let q : Term × Term = (plain p.0, plain p.1) in
    let m : Contains (problem_over ts) q = contains_map (λ (p : FlatTerm × FlatTerm). (plain p.0, plain p.1)) (two_by_two ts) p (k, l, e) in
    let same : BEqual d (apply s (plain p.0)) (apply s (plain p.1)) = All-contains (λ (q : Term × Term). BEqual d (apply s q.0) (apply s q.1)) (problem_over ts) q unifies.1 m in
    never s s (canon_respects d same)

-- nothing is found for a variant with such terms
pub attempted_none : (g : Setting) (drawn : Problem → Substitution → Type 0) (vars : List Var) (v : Variant) → SomeNeverMeet g.declarations v.terms → (found : List Variant) → found ≡ [] → IsAttempt g drawn vars v found Whole
attempted_none g drawn vars v apart found none = subst (λ l. IsAttempt g drawn vars v l Whole) (sym none) record {
  candidates = All-nil (IsCandidate g vars v);
  whole = λ e c unifies values stay. absurd (never_unified g.declarations v.terms apart c unifies);
  cause = tt;
}
