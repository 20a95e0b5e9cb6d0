-- The laws of how many lists are left.
use Rattle.std.specs.Prelude.{ℕ, ◌<◌, List}
use Rattle.std.specs.List.{AllZip}
use Rattle.fvn_base.specs.Order.{IsBefore}
use Rattle.fvn_acunify_product.specs.Weight.{product, rank}

-- of two lists with a number below each count the earlier one has the smaller rank
abbrev pub RankFalls : Type 0
RankFalls = (counts x y : List ℕ) → AllZip (λ c n. n < c) counts x → AllZip (λ c n. n < c) counts y → IsBefore x y → rank counts x < rank counts y

-- a list with a number below each count has a rank below the number of such lists
abbrev pub RankIsBounded : Type 0
RankIsBounded = (counts x : List ℕ) → AllZip (λ c n. n < c) counts x → rank counts x < product counts
