-- Choices one after another: none within the limits is passed over, and they come to an end.
use Rattle.std.proofs.Common.{◌≡◌, ℕ, ◌+◌, ◌≤◌, ◌<◌, Bool, true, false, zero, suc, List, [], ◌∷◌, length, Option, Some, None, refl, sym, ap, ◌∙◌, inl, inr, arith}
use Rattle.std.specs.Prelude.{◌⊎◌, ◌&&◌, if◌then◌else◌, replicate, sum}
use Rattle.std.specs.List.{AllZip}
use Rattle.std.proofs.lemmas.Bool.{ltb-true, ltb-false}
use Rattle.std.proofs.lemmas.List.Sums.{sum_by-cons}
use Rattle.std.proofs.Math.Nat.{mul-le-mul_left}
use Rattle.std.specs.Prelude.{nat_lt}
use Rattle.fvn_match.specs.inner.Choices.{with_zero, advanced, IsWithin, Before, place_value}

pub sum-cons : (n : ℕ) (ns : List ℕ) → sum (n ∷ ns) ≡ n + sum ns
sum-cons n ns = sum_by-cons (λ m. m) n ns

-- a choice is the first one or comes after it
abbrev pub FromOn : List ℕ → List ℕ → Type 0
FromOn cs js = (js ≡ cs) ⊎ Before cs js

-- a choice is the next one, where there is one, or comes after it
abbrev pub FromNextOn : Option (List ℕ) → List ℕ → Type 0
FromNextOn None js = ⊥
FromNextOn (Some next) js = FromOn next js

-- what is from the next choice on, with a number before it
zero_before : (next : Option (List ℕ)) (j : ℕ) (js : List ℕ) → FromNextOn next js → FromNextOn (with_zero next) (j ∷ js)
zero_before None j js h = h
zero_before (Some ks) j js (inr b) = inr (inl b)
zero_before (Some ks) zero js (inl e) = inl (ap (λ l. 0 ∷ l) e)
zero_before (Some ks) (suc j) js (inl e) = inr (inr (sym e, omega arith))

just_above : (c j : ℕ) → c < j → (j ≡ c + 1) ⊎ (c + 1 < j)
just_above c j h = go (nat_lt (c + 1) j) refl
  where
    go : (x : Bool) → nat_lt (c + 1) j ≡ x → (j ≡ c + 1) ⊎ (c + 1 < j)
    go true e = inr (ltb-true (c + 1) j e)
    go false e = let low : j ≤ c + 1 = ltb-false (c + 1) j e in inl (omega arith)

raised : (c j : ℕ) (cs js : List ℕ) → Before (c ∷ cs) (j ∷ js) → FromOn ((c + 1) ∷ cs) (j ∷ js)
raised c j cs js (inl e) = inr (inl e)
raised c j cs js (inr e) = go (just_above c j e.1)
  where
    go : (j ≡ c + 1) ⊎ (c + 1 < j) → FromOn ((c + 1) ∷ cs) (j ∷ js)
    go (inl q) = inl (ap (λ l. j ∷ l) (sym e.0) ∙ ap (λ n. n ∷ cs) q)
    go (inr q) = inr (inr (e.0, q))

-- no choice within the limits stands between one and the next
pub nothing_between : (room : ℕ) (limits cs js : List ℕ) → AllZip (λ j l. j ≤ l) js limits → sum js ≤ room → Before cs js → FromNextOn (advanced room limits cs) js
nothing_between room limits [] js h small b = absurd b
nothing_between room limits (c ∷ cs) [] h small b = absurd b
nothing_between room [] (c ∷ cs) (j ∷ js) h small b = absurd h
nothing_between room (l ∷ ls) (c ∷ cs) (j ∷ js) h small b =
    go (nat_lt c l) refl (nat_lt (c + sum cs) room) refl b (λ e. zero_before (advanced room ls cs) j js (nothing_between room ls cs js h.1 (omega (arith, sum-cons j js)) e))
  where
    go : (x : Bool) → nat_lt c l ≡ x → (y : Bool) → nat_lt (c + sum cs) room ≡ y → Before (c ∷ cs) (j ∷ js) → (Before cs js → FromNextOn (with_zero (advanced room ls cs)) (j ∷ js)) →
        FromNextOn (if x && y then Some ((c + 1) ∷ cs) else with_zero (advanced room ls cs)) (j ∷ js)
    go true p true q e rest = raised c j cs js e
    go true p false q (inl e) rest = rest e
    go true p false q (inr e) rest = absurd (let full : room ≤ c + sum cs = ltb-false (c + sum cs) room q in omega (arith, ap sum e.0, sum-cons j js))
    go false p y q (inl e) rest = rest e
    go false p y q (inr e) rest = absurd (let full : l ≤ c = ltb-false c l p in omega (arith, h.0, e.1))

-- what comes next is within the limits too, and of a greater value
pub record Rises (room : ℕ) (limits cs next : List ℕ) : Type 0 where
  pub within : IsWithin room limits next
  pub greater : place_value limits cs < place_value limits next

abbrev pub RisesIf : ℕ → List ℕ → List ℕ → Option (List ℕ) → Type 0
RisesIf room limits cs None = Unit {0}
RisesIf room limits cs (Some next) = Rises room limits cs next

carried : (room l c : ℕ) (ls cs : List ℕ) → c ≤ l → (next : Option (List ℕ)) → RisesIf room ls cs next → RisesIf room (l ∷ ls) (c ∷ cs) (with_zero next)
carried room l c ls cs h None r = tt
carried room l c ls cs h (Some next) r =
    record {
      within = record { places = (omega arith, r.within.places); together = let t = r.within.together in omega (arith, sum-cons 0 next) };
      greater = let g = mul-le-mul_left (l + 1) (let k = r.greater in let w : place_value ls cs + 1 ≤ place_value ls next = omega arith in w) in omega arith;
    }

pub rises : (room : ℕ) (limits cs : List ℕ) → IsWithin room limits cs → RisesIf room limits cs (advanced room limits cs)
rises room [] cs h = tt
rises room (l ∷ ls) [] h = tt
rises room (l ∷ ls) (c ∷ cs) h =
    go (nat_lt c l) refl (nat_lt (c + sum cs) room) refl (carried room l c ls cs h.places.0 (advanced room ls cs) (rises room ls cs record { places = h.places.1; together = let k = h.together in omega (arith, sum-cons c cs) }))
  where
    go : (x : Bool) → nat_lt c l ≡ x → (y : Bool) → nat_lt (c + sum cs) room ≡ y → RisesIf room (l ∷ ls) (c ∷ cs) (with_zero (advanced room ls cs)) →
        RisesIf room (l ∷ ls) (c ∷ cs) (if x && y then Some ((c + 1) ∷ cs) else with_zero (advanced room ls cs))
    go true p true q rest = record {
      within = record { places = (let k : c < l = ltb-true c l p in omega arith, h.places.1); together = let k : c + sum cs < room = ltb-true (c + sum cs) room q in omega (arith, sum-cons (c + 1) cs) };
      greater = omega arith;
    }
    go true p false q rest = rest
    go false p y q rest = rest

-- the value of a choice within the limits is at most that of the limits
pub place_value_bounded : (limits cs : List ℕ) → AllZip (λ c l. c ≤ l) cs limits → place_value limits cs ≤ place_value limits limits
place_value_bounded [] cs h = omega arith
place_value_bounded (l ∷ ls) [] h = absurd h
place_value_bounded (l ∷ ls) (c ∷ cs) h = let k = mul-le-mul_left (l + 1) (place_value_bounded ls cs h.1) in omega (arith, h.0)

-- every choice comes from the zeros on
pub from_zeros : (limits js : List ℕ) → AllZip (λ j l. j ≤ l) js limits → FromOn (replicate (length limits) 0) js
from_zeros [] [] h = inl refl
from_zeros [] (j ∷ js) h = absurd h
from_zeros (l ∷ ls) [] h = absurd h
from_zeros (l ∷ ls) (j ∷ js) h = zero_before (Some (replicate (length ls) 0)) j js (from_zeros ls js h.1)

-- zeros are within any limits
pub zeros_within : (room : ℕ) (limits : List ℕ) → IsWithin room limits (replicate (length limits) 0)
zeros_within room [] = record { places = tt; together = omega arith }
zeros_within room (l ∷ ls) = let r = zeros_within room ls in record { places = (omega arith, r.places); together = let t = r.together in omega (arith, sum-cons 0 (replicate (length ls) 0)) }
