-- The lists that are counted.
use Rattle.std.proofs.Common.{[], length, ap, ◌∙◌}
use Rattle.std.specs.Prelude.{filter}
use Rattle.fvn_terms.specs.declared.plain.OpId.{OpId}
use Rattle.fvn_forms.specs.SortOrder.{at_or_below}
use Rattle.fvn_forms.specs.Ranks.{result}
use Rattle.fvn_cohere.proofs.fitting.counts.Goals as goal

pub returns : goal.returns
returns c =
    let d = c.args.sig.now in (
      ap length (c.as_slice.ensures.value ∙ c.in_ok-below.ensures ∙ ap (filter (λ (e : OpId). at_or_below d (result d e []) c.args.s)) c.requires),
      ap length (c.as_slice-2.ensures.value ∙ c.in_ok-sorts.ensures),
    )
