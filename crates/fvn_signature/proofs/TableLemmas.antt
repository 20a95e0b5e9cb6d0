-- What stands in a table of results.
use Rattle.std.proofs.Common.{◌≡◌, ℕ, ◌<◌, List, [], ◌∷◌, map, length, get_or, true, ltb, sym, ap, subst, ◌∙◌, arith}
use Rattle.std.proofs.lemmas.Bool.{ltb-true}
use Rattle.fvn_terms.specs.declared.plain.OpId.{OpId}
use Rattle.fvn_terms.specs.declared.plain.SortId.{SortId}
use Rattle.fvn_terms.specs.declared.declarations.Declarations.{Declarations}
use Rattle.fvn_forms.specs.SortOrder.{sort_number}
use Rattle.fvn_forms.specs.Ranks.{result}
use Rattle.fvn_signature.specs.FirstSorts.{first_sorts}
use Rattle.fvn_signature.specs.Drafts.{IsTable}
use Rattle.fvn_signature.proofs.FirstSorts.{map_sorts-at, map_sorts-length}

-- what a look-up finds, at the place and in the list that it was asked for
pub looked_up : {A : Type 0} (xs ys : List A) (i j : ℕ) (x : A) → xs ≡ ys → i ≡ j → true ≡ ltb i (length xs) → x ≡ get_or xs i x → (j < length ys) × (x ≡ get_or ys j x)
looked_up {A} xs ys i j x list place inside found = (
  subst (λ (l : List A). j < length l) list (subst (λ k. k < length xs) place (ltb-true i (length xs) (sym inside))),
  found ∙ ap (λ l. get_or l i x) list ∙ ap (λ k. get_or ys k x) place,
)

-- the j-th place of the i-th row has the result over the i-th and the j-th sort
pub table-at : (d : Declarations) (f : OpId) (n : ℕ) (rows : List (List SortId)) → IsTable d f n rows → (i j : ℕ) (row : List SortId) (s : SortId) → i < length rows → row ≡ get_or rows i row → j < length row → s ≡ get_or row j s → s ≡ result d f (sort_number i ∷ sort_number j ∷ [])
table-at d f n rows kept i j row s l r m h =
    let e = kept (omega (arith, l)) in
    let results : SortId → SortId → SortId = λ a b. result d f (a ∷ b ∷ []) in
    let long : length rows ≡ n = ap length e ∙ map_sorts-length (λ a. map (results a) (first_sorts n)) n in
    let within : i < n = omega arith in
    let is_row : row ≡ map (results (sort_number i)) (first_sorts n) = r ∙ ap (λ l. get_or l i row) e ∙ map_sorts-at (λ a. map (results a) (first_sorts n)) n i row within in
    let wide : length row ≡ n = ap length is_row ∙ map_sorts-length (results (sort_number i)) n in
    h ∙ ap (λ l. get_or l j s) is_row ∙ map_sorts-at (results (sort_number i)) n j s (omega arith)
