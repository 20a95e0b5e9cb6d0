-- The identities are those of the signature.
use Rattle.std.proofs.Common.{◌∙◌}
use Rattle.fvn_rewrite_rules.proofs.guessing.is_guessed.Goals as goal

pub without_others-requires : goal.without_others-requires
without_others-requires c = c.as_slice.ensures.value ∙ c.in_ok-es.ensures
