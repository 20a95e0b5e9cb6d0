-- What holds in the loop.
use Rattle.std.proofs.Common.{◌≡◌, drop}
use Rattle.fvn_module_syntax.specs.Words.{touch, touch_after}
use Rattle.fvn_module_statements.proofs.names.touch.Given as goal

-- what is left decides
abbrev pub invariant-loop-piece : goal.invariant-loop-piece
invariant-loop-piece l = touch l.fn.row ≡ touch_after l.last (drop l.piece-index l.rest)
