-- A pair closes a cycle exactly where it leads up from the sort to a sort at or below it.
use Rattle.std.proofs.Common.{sym, ◌∙◌}
use Rattle.std.proofs.lemmas.Bool.{not-false}
use Rattle.fvn_forms.proofs.SortTests.{same_sort-true, at_or_below-true, at_or_below-complete}
use Rattle.fvn_sorts.proofs.conditions.cycles.closes.Goals as goal

pub returns : goal.returns
returns c =
    let d = c.args.draft.now.declarations in
    let e = c.if-ne.ensures in (
      λ h. (same_sort-true c.args.pair.0 c.args.s (not-false _ (sym c.if-ne.ensures)), at_or_below-true d c.args.pair.1 c.args.s (sym c.is_at_or_below.ensures ∙ h)),
      λ w. c.is_at_or_below.ensures ∙ at_or_below-complete d w.1,
    )
