-- Earlier lists have smaller ranks, and every rank is below the number of lists.
use Rattle.std.proofs.Common.{ℕ, ◌+◌, ◌*◌, ◌<◌, ◌≤◌, List, [], ◌∷◌, inl, inr, arith}
use Rattle.std.specs.List.{AllZip}
use Rattle.std.proofs.lemmas.Nat.{row_fits}
use Rattle.fvn_base.specs.Order.{IsBefore}
use Rattle.fvn_acunify_product.specs.Weight.{product, rank}

row_is_below : (n c size r : ℕ) → n < c → r < size → n * size + r < c * size
row_is_below n c size r h k =
    let same : size ≤ size = omega arith in
    let fits : n * size + size ≤ c * size = row_fits n size c size h same in
    omega (arith, fits)

pub rank_bounded : (counts x : List ℕ) → AllZip (λ c n. n < c) counts x → rank counts x < product counts
rank_bounded [] [] h = omega arith
rank_bounded [] (n ∷ x) h = absurd h
rank_bounded (c ∷ counts) [] h = absurd h
rank_bounded (c ∷ counts) (n ∷ x) h = row_is_below n c (product counts) (rank counts x) h.0 (rank_bounded counts x h.1)

pub rank_less : (counts x y : List ℕ) → AllZip (λ c n. n < c) counts x → AllZip (λ c n. n < c) counts y → IsBefore x y → rank counts x < rank counts y
rank_less [] [] [] h k b = absurd b
rank_less [] [] (m ∷ y) h k b = absurd k
rank_less [] (n ∷ x) y h k b = absurd h
rank_less (c ∷ counts) [] y h k b = absurd h
rank_less (c ∷ counts) (n ∷ x) [] h k b = absurd k
rank_less (c ∷ counts) (n ∷ x) (m ∷ y) h k (inl l) =
    let fits : n * product counts + rank counts x < m * product counts = row_is_below n m (product counts) (rank counts x) l (rank_bounded counts x h.1) in
    omega (arith, fits)
rank_less (c ∷ counts) (n ∷ x) (m ∷ y) h k (inr e) =
    rw e.0 (let rest : rank counts x < rank counts y = rank_less counts x y h.1 k.1 e.1 in omega (arith, rest))
