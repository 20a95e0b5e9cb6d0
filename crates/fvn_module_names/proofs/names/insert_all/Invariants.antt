-- The names that are left are still to be put in.
use Rattle.std.proofs.Common.{◌≡◌, drop}
use Rattle.fvn_module_names.specs.Names.{with_texts}
use Rattle.fvn_module_names.proofs.names.insert_all.Given as goal

-- the names that are left are still to be put in
abbrev pub invariant-loop-name : goal.invariant-loop-name
invariant-loop-name l = with_texts l.texts (drop l.name-index l.names) ≡ with_texts l.initial.texts l.names
