-- There is none exactly where none is told.
use Rattle.std.proofs.Common.{sym, ap, ◌∙◌, is_some}
use Rattle.fvn_combine_nodes.proofs.AxiomTests.{bare_told}
use Rattle.fvn_combine_nodes.proofs.operators.has_no_identity.Goals as goal

pub returns : goal.returns
returns c = bare_told c.args.axioms c.is_none.result (ap is_some (sym c.identity.ensures) ∙ c.is_none.ensures)
