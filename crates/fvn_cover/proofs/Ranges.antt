-- Where pieces begin, and a range of pieces in two halves.
use Rattle.std.proofs.Common.{◌≡◌, ℕ, ◌+◌, ◌*◌, ◌/◌, ◌-◌, ◌<◌, ◌≤◌, subst, arith}
use Rattle.std.proofs.lemmas.Nat.{le-div, mul-le}
use Rattle.std.proofs.Math.Nat.{mul-div_cancel_left, div-mul-le_self}
use Rattle.fvn_cover.specs.Pieces.{IsRange, cut}

-- later pieces begin later, and the last ends with the list
pub cut_later : (n p i j : ℕ) → 0 < p → i ≤ j → cut n p i ≤ cut n p j
cut_later n p i j some h = le-div (i * n / p) (j * n) p some (omega (arith, div-mul-le_self (i * n) p, mul-le i n j n h (omega arith)))

pub cut_whole : (n p : ℕ) → 0 < p → cut n p p ≡ n
cut_whole n p some = mul-div_cancel_left n some

parted : (a b e count size : ℕ) → a + count ≡ e → a ≤ b → b ≤ e → size ≡ b - a → (size ≤ count) × (b + (count - size) ≡ e)
parted a b e count size h k l m = (omega arith, omega arith)

-- the second half of a range, behind the first
module _ (n p low high count : ℕ) (range : IsRange n p low high count) (more : high - low ≡ 1 → ⊥) where
  abbrev middle : ℕ
  middle = low + (high - low) / 2

  some_pieces : 0 < p
  some_pieces = omega (arith, range.some, range.within)

  middle_later : low < middle
  middle_later = omega (arith, range.some, more)

  middle_before : middle < high
  middle_before = omega (arith, range.some, more)

  pub half_fits : (size : ℕ) → size ≡ cut n p middle - cut n p low → (size ≤ count) × IsRange n p middle high (count - size)
  half_fits size e =
      let r = parted (cut n p low) (cut n p middle) (cut n p high) count size range.long (cut_later n p low middle some_pieces (omega (arith, middle_later))) (cut_later n p middle high some_pieces (omega (arith, middle_before))) e in
      (r.0, record { some = middle_before; within = range.within; few = range.few; long = r.1 })

  pub back_range : (size rest : ℕ) → size ≡ cut n p middle - cut n p low → rest + size ≡ count → IsRange n p middle high rest
  back_range size rest e whole = let same : count - size ≡ rest = omega (arith, whole) in subst (IsRange n p middle high) same (half_fits size e).1
