-- Steps of loops over lists.
use Rattle.std.proofs.Common.{◌≡◌, ℕ, ◌+◌, ◌<◌, ◌≤◌, List, length, get_or, take, subst}
use Rattle.std.specs.Prelude.{All}
use Rattle.std.proofs.lemmas.List.{take_all}
use Rattle.std.proofs.lemmas.List.Elements.{All-more}

module _ {A : Type 0} (P : A → Type 0) (xs : List A) (i : ℕ) where
  pub all_more : (x : A) → i < length xs → x ≡ get_or xs i x → All P (take i xs) → P x → All P (take (i + 1) xs)
  all_more x within is h p = All-more P xs i x within h (subst P is p)

  pub all_seen : length xs ≤ i → All P (take i xs) → All P xs
  all_seen past h = subst (All P) (take_all i xs past) h
