-- The names are those of the statement.
use Rattle.std.proofs.Common.{◌∙◌}
use Rattle.fvn_module_declarations.proofs.drafts.Draft.add_each.Goals as goal

pub returns : goal.returns
returns c = rw (c.as_slice.ensures.value ∙ c.in_ok-names.ensures) at c.add_names.ensures
