-- Sets of sorts as words.
use Rattle.std.specs.Prelude.{◌≡◌, ◌↔◌, ◌<◌, ℕ, List, length, true, slice_index_or}
use Rattle.std.specs.Int.{bit_at}
use Rattle.fvn_terms.specs.declared.plain.SortId.{SortId}
use Rattle.fvn_forms.specs.SortOrder.{sort_number, reaches}

-- the word has the bit
abbrev pub Has : ℕ → ℕ → Type 0
Has word k = bit_at word k ≡ 1

-- the word of sort s has the bit of sort q exactly where the pairs lead from s to q
pub record IsClosure (n : ℕ) (pairs : List (SortId × SortId)) (words : List ℕ) : Type 0 where
  pub as_long : length words ≡ n
  pub exact : (s q : ℕ) → s < n → q < 64 → Has (slice_index_or words s 0) q ↔ (reaches pairs (sort_number s) (sort_number q) ≡ true)
