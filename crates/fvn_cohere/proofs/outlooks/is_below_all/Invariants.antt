-- The shapes that are left decide.
use Rattle.std.proofs.Common.{◌≡◌, drop}
use Rattle.std.specs.List.{list_all}
use Rattle.fvn_forms.specs.SortOrder.{at_or_below}
use Rattle.fvn_rewrite_laws.specs.declared.shapes.Shape.{Shape}
use Rattle.fvn_cohere.proofs.outlooks.is_below_all.Given as goal

abbrev pub invariant-loop-o : goal.invariant-loop-o
invariant-loop-o l = list_all (λ (o : Shape). at_or_below l.sig l.q o.sort) l.fn.shapes ≡ list_all (λ (o : Shape). at_or_below l.sig l.q o.sort) (drop l.o-index l.shapes)
