-- Three things are asked of a twin.
use Rattle.std.proofs.Common.{sym, ◌∙◌}
use Rattle.std.proofs.lemmas.Bool.{false≢true}
use Rattle.fvn_combine_leaves.proofs.users.is_twin.Goals as goal

pub returns-then-is_one : goal.returns-then-is_one
returns-then-is_one c = (λ e. absurd (false≢true e), λ w. absurd (w.other (c.is_one.ensures.0 c.if-is_one.true)))

pub returns-then-not-have_same_identity : goal.returns-then-not-have_same_identity
returns-then-not-have_same_identity c =
    (λ e. absurd (false≢true e), λ w. absurd (false≢true (sym c.if-not-have_same_identity.true ∙ c.have_same_identity.ensures.1 w.same)))

pub returns : goal.returns
returns c = (
  λ e. record {
    other = λ one. false≢true (sym c.if-is_one.false ∙ c.is_one.ensures.1 one);
    same = c.have_same_identity.ensures.0 c.if-not-have_same_identity.false;
    uses = c.is_user.ensures.0 e;
  },
  λ w. c.is_user.ensures.1 w.uses,
)
