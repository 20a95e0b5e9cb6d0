-- What holds in the loop.
use Rattle.std.proofs.Common.{◌≡◌, drop}
use Rattle.fvn_module_syntax.specs.LeftOut.{stands}
use Rattle.fvn_module_statements.proofs.attributes.stands.Given as goal

-- what is left decides
abbrev pub invariant-loop-piece : goal.invariant-loop-piece
invariant-loop-piece l = stands l.word l.row ≡ stands l.word (drop l.piece-index l.row)
