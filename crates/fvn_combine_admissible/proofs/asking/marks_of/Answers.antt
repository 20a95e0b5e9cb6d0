-- One more column.
use Rattle.std.proofs.Common.{ℕ, List, length, slice_index, sym, ap, subst, arith}
use Rattle.std.specs.Prelude.{not}
use Rattle.fvn_combine_admissible.specs.inner.Reads.{IsRequiredIn, AreMarksBelow}
use Rattle.fvn_combine_admissible.proofs.Demands.{no_marks, one_mark, all_marks, not_false}
use Rattle.fvn_combine_admissible.proofs.asking.marks_of.Goals as goal

pub loop-j-init : goal.loop-j-init
loop-j-init c = subst (AreMarksBelow c.args.sig.now c.args.reading.now c.args.tags.now c.args.sums.now 0) (sym c.in_ok-marks.ensures.items) (no_marks c.args.sig.now c.args.reading.now c.args.tags.now c.args.sums.now)

pub loop-j-preserved : goal.loop-j-preserved
loop-j-preserved c =
    let d = c.args.sig.now in
    let r = c.args.reading.now in
    let tags = c.args.tags.now in
    let e = c.args.sums.now in
    let j = c.loop-j.j in
    let flip = not_false c.is_required-required.result in
    let At = λ (columns : List ℕ). IsRequiredIn d r tags e (slice_index columns j) in
    one_mark d r tags e j c.loop-j.marks.items c.push.new.self.items (not c.is_required-required.result) c.loop-j.invariant c.in_ok-push.ensures.items
    (λ f. subst At c.as_slice-columns.ensures (c.is_required-required.ensures.0 (flip.0 f)), λ h. flip.1 (c.is_required-required.ensures.1 (subst At (sym c.as_slice-columns.ensures) h)))

pub returns : goal.returns
returns c =
    let l = ap (λ (xs : List ℕ). length xs) c.as_slice-columns.ensures in
    all_marks c.args.sig.now c.args.reading.now c.args.tags.now c.args.sums.now c.loop-j.j c.loop-j.marks.items (omega arith) (omega arith) c.loop-j.invariant
