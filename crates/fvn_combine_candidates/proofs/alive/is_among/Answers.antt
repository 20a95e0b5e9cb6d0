-- The row that is the same stands among them.
use Rattle.std.proofs.Common.{Contains, sym, ◌∙◌, subst, refl}
use Rattle.std.proofs.lemmas.List.Elements.{Contains-get_or}
use Rattle.fvn_combine_candidates.proofs.alive.is_among.Goals as goal

pub returns-then-is_same_row : goal.returns-then-is_same_row
returns-then-is_same_row c =
    let same = c.if-is_same_row.ensures refl in
    λ _. subst (Contains c.args.rows.now) (sym c.other-item.is ∙ same) (Contains-get_or c.args.rows.now c.loop-other.other-index c.other-item.result c.loop-other-test.true)
