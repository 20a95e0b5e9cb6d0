-- The shapes that are left decide.
use Rattle.std.proofs.Common.{◌≡◌, drop}
use Rattle.std.specs.List.{list_any}
use Rattle.fvn_rewrite_laws.specs.declared.shapes.Shape.{Shape}
use Rattle.fvn_cohere.specs.inner.Outlooks.{is_constant_root}
use Rattle.fvn_cohere.proofs.outlooks.has_constant.Given as goal

abbrev pub invariant-loop-o : goal.invariant-loop-o
invariant-loop-o l = list_any (λ (o : Shape). is_constant_root o.root) l.fn.shapes ≡ list_any (λ (o : Shape). is_constant_root o.root) (drop l.o-index l.shapes)
