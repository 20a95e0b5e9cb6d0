-- A sort does not collapse exactly where it is not at or below that of its sum with the identity.
use Rattle.std.proofs.Common.{◌≡◌, [], ◌∷◌, sym, ap, ◌∙◌}
use Rattle.std.proofs.lemmas.Bool.{false≢true, not-true, not-false, not_from_false, false_from_ne_true}
use Rattle.fvn_terms.specs.declared.plain.SortId.{SortId}
use Rattle.fvn_terms.specs.Signature.{kind}
use Rattle.fvn_forms.specs.SortOrder.{at_or_below}
use Rattle.fvn_forms.specs.Ranks.{result}
use Rattle.fvn_forms.proofs.SortTests.{same_sort-true, at_or_below-true, at_or_below-complete}
use Rattle.fvn_sorts.proofs.conditions.brackets.does_not_collapse.Goals as goal

pub returns : goal.returns
returns c =
    let d = c.args.draft.now.declarations in
    let sum : SortId = result d c.args.op (c.args.s ∷ result d c.args.identity [] ∷ []) in
    let is : c.result-2.result ≡ sum = c.result-2.ensures ∙ ap (λ x. result d c.args.op (c.args.s ∷ x ∷ [])) c.result.ensures in
    let test : c.is_at_or_below.result ≡ at_or_below d c.args.s sum = c.is_at_or_below.ensures ∙ ap (at_or_below d c.args.s) is in
    let of_kind : kind d c.args.s ≡ c.args.of = sym c.kind.ensures ∙ same_sort-true c.kind.result c.args.of (not-false _ (sym c.if-ne.ensures)) in (
      λ h. (of_kind, λ w. false≢true (sym (not-true _ h) ∙ test ∙ at_or_below-complete d w)),
      λ w. not_from_false _ (false_from_ne_true _ (λ t. w.1 (at_or_below-true d c.args.s sum (sym test ∙ t)))),
    )
