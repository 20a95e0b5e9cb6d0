-- What both identities are.
use Rattle.std.proofs.Common.{sym, ◌∙◌}
use Rattle.fvn_combine_leaves.proofs.users.have_same_identity.Goals as goal

pub returns : goal.returns
returns c = (
  λ e. sym c.identity_of-e.ensures ∙ c.are_same.ensures.0 e ∙ c.identity_of-o.ensures,
  λ same. c.are_same.ensures.1 (c.identity_of-e.ensures ∙ same ∙ sym c.identity_of-o.ensures),
)
