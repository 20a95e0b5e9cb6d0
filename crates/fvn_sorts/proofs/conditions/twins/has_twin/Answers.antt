-- An earlier sort of the kind with the same results.
use Rattle.std.proofs.Common.{sym, ◌∙◌, refl}
use Rattle.std.proofs.lemmas.Bool.{not-false}
use Rattle.fvn_forms.specs.SortOrder.{sort_number}
use Rattle.fvn_forms.proofs.SortTests.{same_sort-true}
use Rattle.fvn_sorts.proofs.conditions.twins.has_twin.Goals as goal

pub returns-then-are_twins : goal.returns-then-are_twins
returns-then-are_twins c h = (sort_number c.loop-q.q, (c.loop-q-test.true, (sym c.kind.ensures ∙ same_sort-true c.kind.result c.args.of (not-false _ (sym c.if-ne.ensures)), c.if-are_twins.ensures refl)))
