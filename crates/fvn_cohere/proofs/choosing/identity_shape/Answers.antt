-- The least sort of the constant.
use Rattle.std.proofs.Common.{ap}
use Rattle.fvn_terms.specs.declared.plain.SortId.{SortId}
use Rattle.fvn_rewrite_laws.specs.declared.shapes.Root.TheVariants.{Constant}
use Rattle.fvn_cohere.proofs.choosing.identity_shape.Goals as goal

pub returns : goal.returns
returns c = ap (λ (s : SortId). record { root = Constant c.args.e; sort = s }) c.result-sort.ensures.exact
