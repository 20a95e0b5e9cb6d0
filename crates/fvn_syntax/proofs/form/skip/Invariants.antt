-- The pieces that are left decide.
use Rattle.std.proofs.Common.{◌≡◌, [], drop}
use Rattle.std.specs.Prelude.{reverse}
use Rattle.fvn_syntax.specs.declared.form.Spot.TheVariants.{Wanted}
use Rattle.fvn_syntax.specs.inner.Form.{left_behind}
use Rattle.fvn_syntax.proofs.form.skip.Given as goal

-- the pieces that are left decide
abbrev pub invariant-loop-i : goal.invariant-loop-i
invariant-loop-i l = left_behind [] Wanted l.row ≡ left_behind (reverse l.form.marks.items) l.form.spot (drop l.i l.row)
