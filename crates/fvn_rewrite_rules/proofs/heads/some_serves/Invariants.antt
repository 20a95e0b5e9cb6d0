-- None of the rules so far serves.
use Rattle.std.proofs.Common.{false, take}
use Rattle.fvn_rewrite_rules.specs.inner.Heads.{SomeServesAs}
use Rattle.fvn_rewrite_rules.proofs.heads.some_serves.Given as goal

abbrev pub invariant-loop-general : goal.invariant-loop-general
invariant-loop-general l = SomeServesAs l.sig (take l.general-index l.rules) l.rule false
