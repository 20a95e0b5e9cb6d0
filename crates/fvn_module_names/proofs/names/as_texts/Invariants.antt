-- The texts so far.
use Rattle.std.proofs.Common.{◌≡◌, take}
use Rattle.fvn_module_names.proofs.names.as_texts.Given as goal

-- the texts so far
abbrev pub invariant-loop-text : goal.invariant-loop-text
invariant-loop-text l = l.texts.items ≡ take l.text-index l.owned
