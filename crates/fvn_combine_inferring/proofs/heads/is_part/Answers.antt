-- It has a summand, and differs.
use Rattle.fvn_combine_inferring.proofs.heads.is_part.Goals as goal

pub returns : goal.returns
returns c t = record { some = c.has_summand.ensures c.if-not-has_summand.false; other = c.differ.ensures t }
