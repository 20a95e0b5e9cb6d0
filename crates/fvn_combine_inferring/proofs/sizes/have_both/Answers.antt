-- Both have.
use Rattle.fvn_combine_inferring.proofs.sizes.have_both.Goals as goal

pub returns : goal.returns
returns c t = record { first = c.has_some_summand.ensures c.if-not-has_some_summand.false; second = c.has_some_summand-2.ensures t }
