-- What holds of each element of a list so far.
use Rattle.std.proofs.Common.{◌≡◌, ℕ, ◌+◌, ◌<◌, ◌≤◌, List, length, get_or, take, sym, subst, All}
use Rattle.std.proofs.lemmas.List.{take_all}
use Rattle.std.proofs.lemmas.List.Elements.{All-more}

-- one more element
pub more_of : {X : Type 0} (P : X → Type 0) (items xs : List X) → items ≡ xs → (i : ℕ) (d : X) → i < length items → All P (take i xs) → P (get_or items i d) → All P (take (i + 1) xs)
more_of P items xs e i d l h p = subst (λ ys. All P (take (i + 1) ys)) e (All-more P items i d l (subst (λ ys. All P (take i ys)) (sym e) h) p)

-- all elements
pub all_of : {X : Type 0} (P : X → Type 0) (items xs : List X) → items ≡ xs → (i : ℕ) → length items ≤ i → All P (take i xs) → All P xs
all_of P items xs e i l h = subst (All P) (take_all i xs (subst (λ ys. length ys ≤ i) e l)) h
