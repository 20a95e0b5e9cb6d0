-- The normal forms so far.
use Rattle.std.proofs.Common.{map, take}
use Rattle.std.specs.List.{AllZip}
use Rattle.fvn_forms.specs.Canon.{inst}
use Rattle.fvn_flat.specs.Bindings.{value}
use Rattle.fvn_narrow_children.specs.Growing.{IsFormOf}
use Rattle.fvn_narrow_children.proofs.resting.rest_all.Given as goal

abbrev pub invariant-loop-t : goal.invariant-loop-t
invariant-loop-t l = AllZip (IsFormOf l.rewriter) (map (inst l.rewriter.signature (value l.s)) (take l.t-index l.ts)) l.forms.items
