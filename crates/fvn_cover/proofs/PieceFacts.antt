-- Marks of one piece after another.
use Rattle.std.proofs.Common.{◌≡◌, ℕ, ◌+◌, ◌<◌, Bool, List, [], ◌∷◌, ◌++◌, length, get_or, take, drop, sym, ap, ◌∙◌, subst}
use Rattle.std.specs.Prelude.{◌↔◌, All, IsTrue}
use Rattle.std.specs.List.{AllZip}
use Rattle.std.proofs.lemmas.List.{take_more}
use Rattle.std.proofs.lemmas.List.Elements.{All-drop, All-weaker}
use Rattle.fvn_terms.specs.declared.declarations.Declarations.{Declarations}
use Rattle.fvn_cover.specs.declared.variant.Variant.{Variant}
use Rattle.fvn_cover.specs.Covering.{AreAlike, IsFlatVariant}
use Rattle.fvn_cover.specs.Pruning.{IsCoveredBySome}
use Rattle.fvn_cover.specs.Marks.{AreComparable, AreMarks}

-- one list after the other
module _ {A B : Type 0} (R : A → B → Type 0) where
  joined : (xs us : List A) (ys vs : List B) → AllZip R xs ys → AllZip R us vs → AllZip R (xs ++ us) (ys ++ vs)
  joined [] us [] vs h k = k
  joined [] us (y ∷ ys) vs h k = absurd h
  joined (x ∷ xs) us [] vs h k = absurd h
  joined (x ∷ xs) us (y ∷ ys) vs h k = (h.0, joined xs us ys vs h.1 k)

-- of one list, and of the next
pub marks_joined : (d : Declarations) (kept front back : List Variant) (marks rest : List Bool) → AreMarks d kept front marks → AreMarks d kept back rest → AreMarks d kept (front ++ back) (marks ++ rest)
marks_joined d kept front back marks rest h k = joined (λ c b. IsTrue b ↔ IsCoveredBySome d kept c) front back marks rest h k

module _ (d : Declarations) (kept candidates : List Variant) where
  pub marks_more : (i : ℕ) (c : Variant) (marks : List Bool) (m : Bool) → i < length candidates → c ≡ get_or candidates i c → AreMarks d kept (take i candidates) marks → (IsTrue m ↔ IsCoveredBySome d kept c) → AreMarks d kept (take (i + 1) candidates) (marks ++ m ∷ [])
  marks_more i c marks m l e h k =
      subst (λ cs. AreMarks d kept cs (marks ++ m ∷ [])) (sym (take_more candidates i c l ∙ ap (λ z. take i candidates ++ z ∷ []) (sym e)))
      (joined (λ z b. IsTrue b ↔ IsCoveredBySome d kept z) (take i candidates) (c ∷ []) marks (m ∷ []) h (k, tt))

  pub comparable_back : (n : ℕ) (back : List Variant) → back ≡ drop n candidates → AreComparable d kept candidates → AreComparable d kept back
  comparable_back n back p h =
      subst (AreComparable d kept) (sym p)
      record { kept_flat = h.kept_flat; candidates_flat = All-drop (IsFlatVariant d) n candidates h.candidates_flat; alike = All-weaker (λ k. All (AreAlike k) candidates) (λ k. All (AreAlike k) (drop n candidates)) (λ k a. All-drop (AreAlike k) n candidates a) kept h.alike }
