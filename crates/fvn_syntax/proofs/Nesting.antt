-- Right-nested sums, made from the end.
use Rattle.std.proofs.Common.{◌≡◌, List, [], ◌∷◌, ◌++◌, refl, ap}
use Rattle.fvn_terms.specs.declared.plain.OpId.{OpId}
use Rattle.fvn_terms.specs.declared.plain.Plain.{Plain}
use Rattle.fvn_terms.specs.declared.plain.Plain.TheVariants.{App}
use Rattle.fvn_terms.specs.Plain.{terms}
use Rattle.fvn_syntax.specs.Resolve.{nested, nested_all}

abbrev pub pair : OpId → Plain → Plain → Plain
pair f t u = App f (terms (t ∷ u ∷ []))

nested-two : (f : OpId) (x : Plain) (ys : List Plain) (t u : Plain) → nested f x ((ys ++ (t ∷ [])) ++ (u ∷ [])) ≡ nested f x (ys ++ (pair f t u ∷ []))
nested-two f x [] t u = refl
nested-two f x (y ∷ ys) t u = ap (λ v. App f (terms (x ∷ v ∷ []))) (nested-two f y ys t u)

-- the last two terms may be one sum
pub nested_all-two : (f : OpId) (xs : List Plain) (t u : Plain) → nested_all f ((xs ++ (t ∷ [])) ++ (u ∷ [])) ≡ nested_all f (xs ++ (pair f t u ∷ []))
nested_all-two f [] t u = refl
nested_all-two f (x ∷ xs) t u = nested-two f x xs t u
