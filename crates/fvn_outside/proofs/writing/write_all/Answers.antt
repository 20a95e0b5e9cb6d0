-- One more write.
use Rattle.std.proofs.Common.{arith, ◌≤◌, ◌<◌, ◌∙◌, length, drop, length-drop}
use Rattle.std.proofs.lemmas.List.{take_rest}
use Rattle.fvn_outside.proofs.SinkLemmas.{Appends-take}
use Rattle.fvn_outside.proofs.writing.write_all.Goals as goal

pub loop-done-preserved : goal.loop-done-preserved
loop-done-preserved g c =
    let bound : c.in_ok-n.n ≤ length (drop c.loop-done.done c.args.bytes.now) = rw take_rest at c.in_ok-n.ensures.bound in
    let some : 0 < c.in_ok-n.n = omega arith in
    record {
      within = omega (arith, simp length-drop at bound);
      appended = Appends-take _ _ _ _ _ _ c.loop-done.invariant.appended (rw (take_rest c.args.bytes.now c.loop-done.done) at c.in_ok-n.ensures.ok);
      never_falls = omega arith;
      uncounted = c.in_ok-n.ensures.uncounted some ∙ c.loop-done.invariant.uncounted;
    }
