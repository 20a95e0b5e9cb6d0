-- The variable first.
use Rattle.std.proofs.Common.{◌++◌, map, ap, ◌∙◌}
use Rattle.fvn_rewrite_laws.specs.Choices.{identity_shape}
use Rattle.fvn_cohere.proofs.choosing.itself_or_identities.Goals as goal

pub returns : goal.returns
returns c = c.in_ok-all.ensures ∙ ap (λ l. l ++ map (identity_shape c.args.sig.now) c.args.es.now) c.in_ok-first.ensures
