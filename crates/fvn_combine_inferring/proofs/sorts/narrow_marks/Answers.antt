-- None is marked at first.
use Rattle.std.proofs.Common.{length, ap, subst}
use Rattle.fvn_combine_nodes.specs.States.{class_of}
use Rattle.fvn_combine_bounds.specs.Narrow.{IsNarrow}
use Rattle.fvn_combine_inferring.specs.inner.Bounds.{AreMarks, IsUnmarked}
use Rattle.fvn_combine_inferring.proofs.Marks.{none_marked}
use Rattle.fvn_combine_inferring.proofs.sorts.narrow_marks.Goals.{In_ok-marks}
use Rattle.fvn_combine_inferring.proofs.sorts.narrow_marks.Goals as goal

-- none is marked
first : (c : In_ok-marks) → AreMarks (length c.args.table.now.nodes) (IsNarrow c.args.sig.now c.args.table.now (class_of c.args.state.now) c.args.f) c.in_ok-marks.marks.items
first c =
    none_marked (length c.args.table.now.nodes) (IsNarrow c.args.sig.now c.args.table.now (class_of c.args.state.now) c.args.f) c.in_ok-marks.marks.items
    (subst (λ n. IsUnmarked n c.in_ok-marks.marks.items) (ap length c.nodes.ensures) c.in_ok-marks.ensures)

pub returns-then-not-sorted : goal.returns-then-not-sorted
returns-then-not-sorted c = first (goal.at.returns-then-not-sorted c).In_ok-marks

pub mark_narrow-requires-clause-marks : goal.mark_narrow-requires-clause-marks
mark_narrow-requires-clause-marks c = first (goal.at.mark_narrow-requires-clause-marks c).In_ok-marks
