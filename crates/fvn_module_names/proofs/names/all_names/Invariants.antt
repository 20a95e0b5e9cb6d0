-- The texts of the names so far.
use Rattle.std.proofs.Common.{◌≡◌, map, take}
use Rattle.fvn_module_names.specs.Names.{name_text}
use Rattle.fvn_module_names.proofs.names.all_names.Given as goal

-- the texts of the names so far
abbrev pub invariant-loop-name : goal.invariant-loop-name
invariant-loop-name l = l.all.items ≡ map name_text (take l.name-index l.names)
