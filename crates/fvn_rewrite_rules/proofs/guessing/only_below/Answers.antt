-- The first of those that are below.
use Rattle.std.proofs.Common.{◌≡◌, ap, ◌∙◌, subst}
use Rattle.std.specs.Prelude.{filter}
use Rattle.std.specs.List.{Contains}
use Rattle.fvn_rewrite_laws.specs.Choices.{identities_below}
use Rattle.fvn_rewrite_rules.proofs.guessing.only_below.Goals as goal

pub returns : goal.returns
returns c =
    let below : c.as_slice.result.now ≡ identities_below c.args.sig.now c.args.s = c.as_slice.ensures.value ∙ c.in_ok-below.ensures ∙ ap (filter _) c.requires in
    subst (λ l. Contains l c.first_of-e.result) below c.first_of-e.ensures
