-- The pairs of a problem in flat form, one after another.
use Rattle.std.proofs.Common.{◌≡◌, ℕ, ◌+◌, ◌<◌, List, [], ◌∷◌, ◌++◌, take, length, get_or, refl, sym, ap, ◌∙◌, subst}
use Rattle.std.specs.Prelude.{All}
use Rattle.std.proofs.lemmas.List.{take_more}
use Rattle.std.proofs.lemmas.List.Elements.{All-map, All-weaker}
use Rattle.fvn_terms.specs.declared.plain.Plain.{Plain}
use Rattle.fvn_terms.specs.declared.plain.SortId.{SortId}
use Rattle.fvn_terms.specs.declared.declarations.Declarations.{Declarations}
use Rattle.fvn_terms.specs.Term.{Term}
use Rattle.fvn_terms.specs.Plain.{term}
use Rattle.fvn_terms.specs.Signature.{HasKind, IsTerm}
use Rattle.fvn_forms.specs.Flat.{FlatTerm}
use Rattle.fvn_forms.specs.Canon.{canon}
use Rattle.fvn_flat.specs.Problems.{IsProblem, flat_pairs}
use Rattle.fvn_problems.specs.Problems.{AreOfOneKind}
use Rattle.fvn_cmd_unify.specs.Asked.{pairs_of}

module _ (d : Declarations) where
  abbrev IsPair : Term × Term → Type 0
  IsPair p = (k : SortId) × HasKind d p.0 k × HasKind d p.1 k

  pub pairs_of-problem : (pairs : List (Plain × Plain)) → All (AreOfOneKind d) pairs → IsProblem d (pairs_of pairs)
  pairs_of-problem pairs h = All-map IsPair (λ p. (term p.0, term p.1)) pairs (All-weaker (AreOfOneKind d) (λ p. IsPair (term p.0, term p.1)) (λ p k. (k.0, k.1.0, k.1.1)) pairs h)

  abbrev flat_of : List (Plain × Plain) → List (FlatTerm × FlatTerm)
  flat_of pairs = flat_pairs d (pairs_of pairs)

  abbrev flat : Plain × Plain → FlatTerm × FlatTerm
  flat p = (canon d (term p.0), canon d (term p.1))

  flat_of-push : (pairs : List (Plain × Plain)) (p : Plain × Plain) → flat_of (pairs ++ p ∷ []) ≡ flat_of pairs ++ flat p ∷ []
  flat_of-push [] p = refl
  flat_of-push (q ∷ pairs) p = ap (λ l. flat q ∷ l) (flat_of-push pairs p)

  -- one more pair
  module _ (pairs : List (Plain × Plain)) (i : ℕ) (p : Plain × Plain) (within : i < length pairs) (is : p ≡ get_or pairs i p) where
    one_kind : All (AreOfOneKind d) pairs → AreOfOneKind d p
    one_kind h = subst (AreOfOneKind d) (sym is) (h i p within)

    pub left-term : All (AreOfOneKind d) pairs → IsTerm d (term p.0)
    left-term h = let k = one_kind h in (k.0, k.1.0)

    pub right-term : All (AreOfOneKind d) pairs → IsTerm d (term p.1)
    right-term h = let k = one_kind h in (k.0, k.1.1)

    pub flat_of-more : (all after : List (FlatTerm × FlatTerm)) → all ≡ flat_of (take i pairs) → (a b : FlatTerm) → a ≡ canon d (term p.0) → b ≡ canon d (term p.1) → after ≡ all ++ (a, b) ∷ [] → after ≡ flat_of (take (i + 1) pairs)
    flat_of-more all after so_far a b left right e =
        let last : (a, b) ≡ flat p = λ k. (left k, right k) in
        e
        ∙ ap (λ l. l ++ (a, b) ∷ []) so_far
        ∙ ap (λ q. flat_of (take i pairs) ++ q ∷ []) last
        ∙ sym (flat_of-push (take i pairs) p)
        ∙ ap (λ q. flat_of (take i pairs ++ q ∷ [])) is
        ∙ ap flat_of (sym (take_more pairs i p within))
