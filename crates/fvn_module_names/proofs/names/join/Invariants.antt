-- The tokens that are left make the rest of the name.
use Rattle.std.proofs.Common.{◌≡◌, ◌++◌, drop}
use Rattle.fvn_module_names.specs.Names.{joined}
use Rattle.fvn_module_names.proofs.names.join.Given as goal

-- the tokens that are left make the rest of the name
abbrev pub invariant-loop-piece : goal.invariant-loop-piece
invariant-loop-piece l = l.name.items ++ joined (drop l.piece-index l.piece-items) ≡ joined l.row
