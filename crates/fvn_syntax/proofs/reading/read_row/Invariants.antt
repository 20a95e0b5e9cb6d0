-- The pieces that are left decide.
use Rattle.std.proofs.Common.{◌≡◌, drop}
use Rattle.fvn_syntax.specs.inner.Reading.{run, start, view}
use Rattle.fvn_syntax.proofs.reading.read_row.Given as goal

-- the pieces that are left decide
abbrev pub invariant-loop-piece : goal.invariant-loop-piece
invariant-loop-piece l = run l.limit l.scope (start l.fn.seen) l.row ≡ run l.limit l.scope (view l.reading) (drop l.piece-index l.row)
