-- Variables first.
use Rattle.std.proofs.Common.{◌++◌, map, ap, ◌∙◌}
use Rattle.fvn_rewrite_laws.specs.Choices.{variable_shape, identity_shape}
use Rattle.fvn_cohere.proofs.choosing.lower_or_identities.Goals as goal

pub returns : goal.returns
returns c =
    c.in_ok-all.ensures ∙ ap (λ l. l ++ map (identity_shape c.args.sig.now) c.args.es.now) (c.in_ok-lower.ensures ∙ ap (map variable_shape) (c.as_slice.ensures.value ∙ c.in_ok-sorts.ensures))
