-- The heads so far.
use Rattle.std.proofs.Common.{◌≡◌, ◌∷◌, map, take}
use Rattle.fvn_purify.specs.Heads.{operator_head}
use Rattle.fvn_purify.specs.declared.classes.Head.TheVariants.{Free}
use Rattle.fvn_purify.proofs.heading.all_theories.Given as goal

abbrev pub invariant-loop-f : goal.invariant-loop-f
invariant-loop-f l = l.heads.items ≡ Free ∷ map (operator_head l.sig) (take l.f-index l.ops)
