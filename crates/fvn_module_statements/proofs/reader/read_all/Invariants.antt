-- What holds in the loop.
use Rattle.std.proofs.Common.{◌≡◌, [], drop}
use Rattle.fvn_module_statements.specs.inner.Gather.{gather}
use Rattle.fvn_module_statements.proofs.reader.read_all.Given as goal

-- what is left to read decides
abbrev pub invariant-loop-piece : goal.invariant-loop-piece
invariant-loop-piece g l = gather g.R.Reader.reads l.row [] l.row ≡ gather g.R.Reader.reads (drop l._piece-index l.row) l.list.items l.rest
