-- The extensions so far.
use Rattle.std.proofs.Common.{◌≡◌, take}
use Rattle.std.specs.Prelude.{filter_map}
use Rattle.fvn_rewrite_rules.specs.inner.Making.{extension_of}
use Rattle.fvn_rewrite_rules.proofs.extensions.extensions.Given as goal

abbrev pub invariant-loop-rule : goal.invariant-loop-rule
invariant-loop-rule l = l.all.items ≡ filter_map (extension_of l.sig) (take l.rule-index l.rules)
