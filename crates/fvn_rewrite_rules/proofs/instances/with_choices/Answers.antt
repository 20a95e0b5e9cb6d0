-- The identities are those at or below the sort.
use Rattle.std.proofs.Common.{◌≡◌, ◌++◌, List, ap, ◌∙◌}
use Rattle.std.specs.Prelude.{filter}
use Rattle.fvn_terms.specs.declared.plain.OpId.{OpId}
use Rattle.fvn_rewrite_laws.specs.Choices.{identities_below}
use Rattle.fvn_rewrite_rules.specs.declared.rule.Rule.{Rule}
use Rattle.fvn_rewrite_rules.specs.inner.Making.{by_identities}
use Rattle.fvn_rewrite_rules.proofs.instances.with_choices.Goals as goal

pub by_identities-requires-clause-below : goal.by_identities-requires-clause-below
by_identities-requires-clause-below c = c.as_slice.ensures.value ∙ c.in_ok-below.ensures ∙ ap (filter _) c.requires.identities

pub returns : goal.returns
returns c =
    let d = c.args.sig.now in
    let below : c.as_slice.result.now ≡ identities_below d c.args.x.sort = c.as_slice.ensures.value ∙ c.in_ok-below.ensures ∙ ap (filter _) c.requires.identities in
    c.in_ok-append.ensures.items
    ∙ ap (λ (l : List Rule). c.args.rules.items ++ l)
    (c.in_ok-more.ensures ∙ ap (λ (l : List Rule). by_identities d c.args.x l c.as_slice.result.now) c.as_slice-2.ensures.value ∙ ap (λ (l : List OpId). by_identities d c.args.x c.args.rules.items l) below)
