-- The last place with a number above zero is found from behind.
use Rattle.std.proofs.Common.{◌≡◌, ℕ, ◌-◌, ◌<◌, ◌≤◌, ◌≢◌, List, length, get_or, set, sym, subst, arith}
use Rattle.std.proofs.lemmas.List.{get_or-set_same, get_or-set_other}
use Rattle.std.proofs.lemmas.Slice.Zip.{AllZip-long}
use Rattle.fvn_acunify_product.specs.Tags.{IsOption}
use Rattle.fvn_acunify_product.specs.inner.Steps.{IsLast, IsMoved}
use Rattle.fvn_acunify_product.proofs.Stepping.{AllZip-at, lasts_more}
use Rattle.fvn_acunify_product.proofs.tags.move_last.Goals as goal
use Rattle.std.specs.List.{AllZip}

one_less : (counts x : List ℕ) (i : ℕ) → AllZip IsOption counts x → i < length x → 0 < get_or x i 0 → ((k : ℕ) → i < k → k < length counts → IsLast IsOption counts x k) → IsMoved IsOption counts i x (set x i (get_or x i 0 - 1))
one_less counts x i h l positive last =
    let long : length x ≡ length counts = AllZip-long IsOption counts x h in
    let here : get_or (set x i (get_or x i 0 - 1)) i 0 ≡ get_or x i 0 - 1 = get_or-set_same x i (get_or x i 0 - 1) 0 l in
    let within : i < length counts = omega (arith, l, long) in
    record {
      within = within;
      front = λ k h. (let other : k ≢ i = omega arith in get_or-set_other x i k (get_or x i 0 - 1) 0 other);
      falls = omega (arith, here, positive);
      may = λ d. (let below : get_or x i 0 < get_or counts i d = AllZip-at IsOption counts x h i within d in omega (arith, here, positive, below));
      next = λ d a may h. omega (arith, here, h);
      last = last;
    }

pub returns-then-numbers-place-gt0-clause-moved : goal.returns-then-numbers-place-gt0-clause-moved
returns-then-numbers-place-gt0-clause-moved c =
    let inv = c.loop-place.invariant in
    let i : ℕ = c.loop-place.place - 1 in
    subst (λ ns. IsMoved IsOption c.args.counts.now i c.args.numbers.now (set ns i (get_or ns i 0 - 1))) (sym inv.numbers)
    (one_less c.args.counts.now c.args.numbers.now i c.requires (omega (arith, inv.within, c.loop-place-test.true))
    (subst (λ ns. 0 < get_or ns i 0) inv.numbers c.if-numbers-place-gt0.true)
    (λ k h w. inv.last k (omega (arith, h)) w))

pub loop-place-preserved : goal.loop-place-preserved
loop-place-preserved c =
    let inv = c.loop-place.invariant in
    let i : ℕ = c.loop-place.place - 1 in
    let zero : get_or c.args.numbers.now i 0 ≤ 0 = subst (λ ns. get_or ns i 0 ≤ 0) inv.numbers c.if-numbers-place-gt0.false in
    record {
      within = omega (arith, inv.within);
      numbers = inv.numbers;
      last = lasts_more IsOption c.args.counts.now c.args.numbers.now i c.loop-place.place (omega (arith, c.loop-place-test.true)) (λ d a may. omega (arith, zero)) inv.last;
    }

pub returns-clause-last : goal.returns-clause-last
returns-clause-last c = λ _ k h. c.loop-place.invariant.last k (omega (arith, c.loop-place-test.false)) h
