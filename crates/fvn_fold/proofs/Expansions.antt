-- Expansions of one piece after another.
use Rattle.std.proofs.Common.{◌≡◌, ℕ, ◌+◌, ◌<◌, List, [], ◌∷◌, ◌++◌, length, get_or, take, drop, sym, ap, ◌∙◌, subst}
use Rattle.std.specs.List.{AllZip}
use Rattle.std.proofs.lemmas.List.{take_more}
use Rattle.std.proofs.lemmas.List.Elements.{All-drop}
use Rattle.fvn_base.specs.declared.limits.TheConstants.{EXPANDED_FRESH}
use Rattle.fvn_terms.specs.Substitution.{Substitution}
use Rattle.fvn_terms.specs.Unifiers.{Problem}
use Rattle.fvn_cover.specs.declared.variant.Variant.{Variant}
use Rattle.fvn_exploring.specs.declared.ends.Expansion.{Expansion}
use Rattle.fvn_exploring.specs.Setting.{Setting}
use Rattle.fvn_exploring.specs.Expansions.{IsExpandable, IsExpansionOf}
use Rattle.fvn_fold.specs.Levels.{AreExpandable, AreExpansions}

-- one list after the other
module _ {A B : Type 0} (R : A → B → Type 0) where
  pub zip_joined : (xs us : List A) (ys vs : List B) → AllZip R xs ys → AllZip R us vs → AllZip R (xs ++ us) (ys ++ vs)
  zip_joined [] us [] vs h k = k
  zip_joined [] us (y ∷ ys) vs h k = absurd h
  zip_joined (x ∷ xs) us [] vs h k = absurd h
  zip_joined (x ∷ xs) us (y ∷ ys) vs h k = (h.0, zip_joined xs us ys vs h.1 k)

module _ (g : Setting) (drawn : Problem → Substitution → Type 0) where
  pub expansions_joined : (front back : List Variant) (es rest : List Expansion) → AreExpansions g drawn front es → AreExpansions g drawn back rest → AreExpansions g drawn (front ++ back) (es ++ rest)
  expansions_joined front back es rest h k = zip_joined (IsExpansionOf g drawn) front back es rest h k

  pub expansions_more : (members : List Variant) (i : ℕ) (v : Variant) (es : List Expansion) (e : Expansion) → i < length members → v ≡ get_or members i v → AreExpansions g drawn (take i members) es → IsExpansionOf g drawn v e → AreExpansions g drawn (take (i + 1) members) (es ++ e ∷ [])
  expansions_more members i v es e l is h k =
      subst (λ ms. AreExpansions g drawn ms (es ++ e ∷ [])) (sym (take_more members i v l ∙ ap (λ z. take i members ++ z ∷ []) (sym is)))
      (zip_joined (IsExpansionOf g drawn) (take i members) (v ∷ []) es (e ∷ []) h (k, tt))

pub expandable_back : (g : Setting) (members : List Variant) (n : ℕ) (back : List Variant) → back ≡ drop n members → AreExpandable g members → AreExpandable g back
expandable_back g members n back e h = subst (AreExpandable g) (sym e) (All-drop (IsExpandable g EXPANDED_FRESH) n members h)
