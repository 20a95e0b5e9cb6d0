-- The levels go on until every minimal solution is found, and the least of what is found are these.
use Rattle.std.proofs.Common.{◌≡◌, ◌≢◌, ◌+◌, ◌≤◌, ◌⊎◌, ◌↔◌, ℕ, List, [], pos, length, inl, inr, refl, subst, sym, arith}
use Rattle.std.specs.List.{All, Contains}
use Rattle.std.proofs.lemmas.List.{nil_from_length}
use Rattle.std.proofs.lemmas.Grind.{common_steps}
use Rattle.fvn_lindio.specs.Systems.{above, below}
use Rattle.fvn_lindio.specs.inner.Levels.{CanAdd, GrowsAnew, IsAt, IsStepFrom, CoversStepsFrom, IsCovered}
use Rattle.fvn_lindio.specs.inner.Generators.{vectors_in}
use Rattle.fvn_lindio.specs.inner.Least.{IsLeast, IsUniform}
use Rattle.fvn_lindio.specs.inner.Paired.{AnyOf, ArePaired, IsFrom}
use Rattle.fvn_lindio.specs.declared.level.Point.{Point}
use Rattle.fvn_lindio.proofs.Trails.{going_first, going_more, going_can_add, going_uniform, going_exact}
use Rattle.fvn_lindio.proofs.Pairs.{pairs_uniform, pairs_can_add, pairs_exact}
use Rattle.fvn_lindio.proofs.rows.extended.Goals as goal
use Rattle.fvn_lindio.proofs.rows.extended.Goals.{else-loop-test, then-loop-test+then-is_empty}

pub sums_of-requires-clause-can_add : goal.sums_of-requires-clause-can_add
sums_of-requires-clause-can_add c =
    subst (λ ps. All (λ x. All (CanAdd x) ps) ps) (sym c.as_slice-then-are_paired.ensures.value) (pairs_can_add c.in_ok-points.ensures.generates)

pub sums_of-requires-clause-uniform : goal.sums_of-requires-clause-uniform
sums_of-requires-clause-uniform c = subst IsUniform (sym c.as_slice-then-are_paired.ensures.value) (pairs_uniform c.in_ok-points.ensures.generates)

-- points at zero and sums of two are all that there is
pub returns-then-are_paired-clause-exact : goal.returns-then-are_paired-clause-exact
returns-then-are_paired-clause-exact c =
    let paired = subst ArePaired c.as_slice.ensures.value (c.if-are_paired.ensures refl) in
    let exact = pairs_exact c.in_ok-points.ensures.generates paired in
    let sums = subst (λ ps. (v : List ℕ) → Contains (vectors_in c.in_ok-sums.sums.items) v ↔ AnyOf (IsFrom ps) ps v) c.as_slice-then-are_paired.ensures.value c.in_ok-sums.ensures.exact in
    λ v. (λ m. (exact v).0 ((sums v).0 m), λ m. (sums v).1 ((exact v).1 m))

pub loop-init : goal.loop-init
loop-init c =
    let gs = c.in_ok-points.points.items in
    let reach = c.reach_of-reach in
    let level = c.in_ok-level.level in
    let first = c.as_slice-3.ensures.value in
    going_first reach.result.low reach.result.high level c.in_ok-points.ensures.generates
    (subst (All (λ p. below p.value ≤ reach.result.low)) c.as_slice-2.ensures.value reach.ensures.low)
    (subst (All (λ p. above p.value ≤ reach.result.high)) c.as_slice-2.ensures.value reach.ensures.high)
    (omega (arith, reach.ensures.low_bounded)) (omega (arith, reach.ensures.high_bounded))
    (subst (λ ps. (p : Point) → Contains level.found.items p → IsAt ps p × (p.value ≡ pos 0)) first c.in_ok-level.ensures.found)
    (subst (λ ps. (p : Point) → Contains level.ahead.items p → IsAt ps p × (p.value ≢ pos 0)) first c.in_ok-level.ensures.ahead)
    (subst (λ ps. (g : Point) → Contains ps g → IsCovered level g.parts.items) first c.in_ok-level.ensures.covered)

pub next-requires : goal.next-requires
next-requires c =
    let gs = c.in_ok-points.points.items in
    subst (λ ps. All (λ x. All (CanAdd x) ps) c.loop.level.ahead.items) (sym c.as_slice-in-loop.ensures.value)
    (going_can_add c.loop.invariant c.loop-test.true)

pub loop-preserved : goal.loop-preserved
loop-preserved c =
    let gs = c.in_ok-points.points.items in
    let old = c.loop.level in
    let new = c.in_ok-level-2.level in
    going_more c.loop.invariant new
    (subst (λ ps. GrowsAnew (IsStepFrom ps old.ahead.items) old new) c.as_slice-in-loop.ensures.value c.in_ok-level-2.ensures.grows)
    (subst (λ ps. CoversStepsFrom ps old.ahead.items new) c.as_slice-in-loop.ensures.value c.in_ok-level-2.ensures.covered)

pub least_of-requires : goal.least_of-requires
least_of-requires c =
    subst IsUniform (sym c.as_slice-4.ensures.value)
    (going_uniform c.loop.invariant)

pub returns-clause-exact : goal.returns-clause-exact
returns-clause-exact c =
    let last = c.reach_of-reach.result.low + c.reach_of-reach.result.high + 1 in
    let done : (last ≤ c.loop.counter) ⊎ (c.loop.level.ahead.items ≡ []) = elim c.loop-test.branch [ else-loop-test w ↦ inl w.loop-test.false | then-loop-test+then-is_empty w ↦ inr (let k = w.if-is_empty.ensures in let n : length c.loop.level.ahead.items ≡ 0 = grind (arith, common_steps) in nil_from_length c.loop.level.ahead.items n) ] in
    let exact = going_exact c.loop.invariant done in
    let least = subst (λ ps. (v : List ℕ) → Contains (vectors_in c.in_ok-least.least.items) v ↔ IsLeast ps v) c.as_slice-4.ensures.value c.in_ok-least.ensures.exact in
    λ v. (λ m. (exact v).0 ((least v).0 m), λ m. (least v).1 ((exact v).1 m))
