-- The paths through one argument more.
use Rattle.std.proofs.Common.{◌<◌, [], ◌∷◌, ◌++◌, length, sym, ap, ◌∙◌, arith}
use Rattle.fvn_flat.proofs.Smaller.{argument_is_smaller}
use Rattle.fvn_places.specs.Paths.{paths_after}
use Rattle.fvn_places.proofs.PathFacts.{paths-begin, paths-step, paths-end, no_paths}
use Rattle.fvn_places.proofs.leading.+with_paths.Goals as goal

pub with_paths-requires : goal.with_paths-requires
with_paths-requires t c =
    let ts = c.args-ts.result.now in
    let within : c.loop-i.i < length ts = omega (arith, c.loop-i-test.true) in
    omega (arith, argument_is_smaller c.args.t.now ts c.loop-i.i c.index-ts-i.result c.args-ts.ensures.exact within c.index-ts-i.is)

pub loop-i-init : goal.loop-i-init
loop-i-init t c = paths-begin c.args.path.now c.args-ts.result.now c.args.list.items _ (c.in_ok-push-in-Some.ensures.items ∙ ap (λ b. c.args.list.items ++ b ∷ []) c.in_ok-own-in-Some.ensures)

pub loop-i-preserved : goal.loop-i-preserved
loop-i-preserved t c =
    let ts = c.args-ts.result.now in
    let within : c.loop-i.i < length ts = omega (arith, c.loop-i-test.true) in
    paths-step c.args.path.now c.in_ok-longer-in-Some.longer.items c.args.list.items c.loop-i.all.items _ ts c.loop-i.i c.index-ts-i.result c.in_ok-longer-in-Some.ensures within c.index-ts-i.is c.loop-i.invariant (c.in_ok-all-in-Some.ensures ∙ ap (λ p. c.loop-i.all.items ++ paths_after p c.index-ts-i.result) c.as_slice.ensures.value)

pub returns-in-None : goal.returns-in-None
returns-in-None t c = no_paths c.args.t.now c.args.path.now c.args.list.items (sym c.head.ensures ∙ c.in-None.is)

pub returns-after-loop-i : goal.returns-after-loop-i
returns-after-loop-i t c = paths-end c.args.path.now c.args.list.items c.loop-i.all.items c.args.t.now _ c.args-ts.result.now c.loop-i.i (sym c.head.ensures ∙ c.in-Some.is) c.args-ts.ensures.exact (omega (arith, c.loop-i-test.false)) c.loop-i.invariant
