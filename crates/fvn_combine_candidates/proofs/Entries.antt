-- Places of lists.
use Rattle.std.proofs.Common.{◌≡◌, ℕ, zero, suc, ◌<◌, List, [], ◌∷◌, length, get_or, refl, sym, ap, ◌∙◌, subst, arith, All, Contains, Some}
use Rattle.std.specs.Prelude.{slice_get}
use Rattle.std.specs.List.{AllZip}
use Rattle.std.proofs.lemmas.List.Elements.{All-get_or}
use Rattle.std.proofs.lemmas.Option.{slice_get_within, slice_get-get_or, get_or_from_slice_get}

-- what stands at a place
pub entry_at : {A : Type 0} (xs : List A) (i : ℕ) → i < length xs → (x : A) × (slice_get xs i ≡ Some x)
entry_at [] i l = absurd (omega (arith, l))
entry_at (x ∷ xs) zero l = (x, refl)
entry_at (x ∷ xs) (suc i) l = entry_at xs i (omega (arith, l))

-- what is read at a place is what stands there
pub read_at : {A : Type 0} (xs : List A) (i : ℕ) (x : A) → i < length xs → x ≡ get_or xs i x → slice_get xs i ≡ Some x
read_at xs i x l is = slice_get-get_or xs i x l ∙ ap Some (sym is)

pub one_entry : {A : Type 0} (xs : List A) (i : ℕ) (x y : A) → slice_get xs i ≡ Some x → slice_get xs i ≡ Some y → x ≡ y
one_entry xs i x y p q = let e : Some x ≡ Some y = sym p ∙ q in cc

pub listed_at : {A : Type 0} (xs : List A) (i : ℕ) (x : A) → slice_get xs i ≡ Some x → Contains xs x
listed_at xs i x is = (i, slice_get_within xs i x is, get_or_from_slice_get xs i x x is)

pub placed_at : {A : Type 0} (xs : List A) (x : A) (c : Contains xs x) → slice_get xs c.0 ≡ Some x
placed_at xs x c = slice_get-get_or xs c.0 x c.1 ∙ ap Some c.2

-- lists that go together place by place
pub zip_at : {A : Type 0} (R : A → ℕ → Type 0) (xs : List A) (ys : List ℕ) → AllZip R xs ys → (i : ℕ) (x : A) → slice_get xs i ≡ Some x → R x (get_or ys i 0)
zip_at R [] ys all i x is = let l = slice_get_within [] i x is in absurd (omega (arith, l))
zip_at R (a ∷ xs) [] all i x is = absurd all
zip_at R (a ∷ xs) (b ∷ ys) all zero x is = let e : a ≡ x = cc in subst (λ w. R w b) e all.0
zip_at R (a ∷ xs) (b ∷ ys) all (suc i) x is = zip_at R xs ys all.1 i x is

pub zip_from : {A : Type 0} (R : A → ℕ → Type 0) (xs : List A) (ys : List ℕ) → length ys ≡ length xs → ((i : ℕ) (x : A) → slice_get xs i ≡ Some x → R x (get_or ys i 0)) → AllZip R xs ys
zip_from R [] [] l each = tt
zip_from R [] (b ∷ ys) l each = absurd (omega (arith, l))
zip_from R (a ∷ xs) [] l each = absurd (omega (arith, l))
zip_from R (a ∷ xs) (b ∷ ys) l each = (each 0 a refl, zip_from R xs ys (omega (arith, l)) (λ i x is. each (suc i) x is))

-- what all have, each has that is read
pub of_entry : {A : Type 0} (P : A → Type 0) (xs : List A) (i : ℕ) (x : A) → i < length xs → x ≡ get_or xs i x → All P xs → P x
of_entry P xs i x l is all = subst P (sym is) (All-get_or P xs i x l all)

-- the same of equal lists
pub within_other : {A : Type 0} (xs ys : List A) (i : ℕ) → xs ≡ ys → i < length xs → i < length ys
within_other xs ys i same l = subst (λ zs. i < length zs) same l

pub read_of_other : {A : Type 0} (xs ys : List A) (i : ℕ) (x : A) → xs ≡ ys → x ≡ get_or xs i x → x ≡ get_or ys i x
read_of_other xs ys i x same is = subst (λ zs. x ≡ get_or zs i x) same is
