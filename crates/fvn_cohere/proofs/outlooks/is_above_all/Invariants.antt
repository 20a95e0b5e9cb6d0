-- The shapes that are left decide.
use Rattle.std.proofs.Common.{◌≡◌, drop}
use Rattle.std.specs.List.{list_all}
use Rattle.fvn_forms.specs.SortOrder.{at_or_below}
use Rattle.fvn_rewrite_laws.specs.declared.shapes.Shape.{Shape}
use Rattle.fvn_cohere.proofs.outlooks.is_above_all.Given as goal

abbrev pub invariant-loop-o : goal.invariant-loop-o
invariant-loop-o l = list_all (λ (o : Shape). at_or_below l.sig o.sort l.q) l.fn.shapes ≡ list_all (λ (o : Shape). at_or_below l.sig o.sort l.q) (drop l.o-index l.shapes)
