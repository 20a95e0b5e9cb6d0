-- One more mark.
use Rattle.std.proofs.Common.{pos, ◌+◌, ◌<◌, length, sym, ap, ◌∙◌, subst, refl, arith, All, inl, inr}
use Rattle.fvn_combine_candidates.specs.inner.Alive.{IsMarking}
use Rattle.fvn_combine_candidates.proofs.Living.{no_marking, one_marking}
use Rattle.fvn_combine_candidates.proofs.alive.row_of_all.Goals as goal

pub loop-j-init : goal.loop-j-init
loop-j-init c = subst (IsMarking 0) (sym c.new-marks.ensures.items) no_marking

pub has_apart-requires-clause-class : goal.has_apart-requires-clause-class
has_apart-requires-clause-class c =
    subst (λ xs. All (λ n. n < length c.args.state.now.names) xs) (sym c.as_slice-columns.ensures) c.requires.within c.loop-j.j 0 c.loop-j-test.true

pub loop-j-preserved-then-has_apart : goal.loop-j-preserved-then-has_apart
loop-j-preserved-then-has_apart c =
    subst (IsMarking (c.loop-j.j + 1)) (sym c.in_ok-push.ensures.items) (one_marking c.loop-j.j c.loop-j.marks.items (pos 1) (inr refl) c.loop-j.invariant)

pub loop-j-preserved : goal.loop-j-preserved
loop-j-preserved c =
    subst (IsMarking (c.loop-j.j + 1)) (sym c.in_ok-push-2.ensures.items) (one_marking c.loop-j.j c.loop-j.marks.items (pos 0) (inl refl) c.loop-j.invariant)

pub returns : goal.returns
returns c =
    let same = ap length c.as_slice-columns.ensures in
    let over = c.loop-j-test.false in
    let under = c.loop-j.auto.j-end in
    let h = c.loop-j.invariant in
    rw c.from_vec.ensures (record { sized = h.sized ∙ omega (arith, same, over, under); marks = h.marks })
