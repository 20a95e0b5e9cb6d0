-- It is the one at this place.
use Rattle.std.proofs.Common.{sym, ap, ◌∙◌, subst, Contains}
use Rattle.std.proofs.lemmas.List.Elements.{Contains-get_or}
use Rattle.fvn_combine_drawing.specs.CombineAdmissibleListed.{tag_in}
use Rattle.fvn_combine.proofs.homes.has_other_tag.Goals as goal

pub returns-in-loop-c : goal.returns-in-loop-c
returns-in-loop-c c t =
    let m = subst (Contains c.args.decided.now) (sym c.c-item.is) (Contains-get_or c.args.decided.now c.loop-c.c-index _ c.loop-c-test.true) in
    (c.c-item.result, m, c.if-c-k.false, λ e. c.is_other.ensures t (ap (tag_in c.args.tags.now) c.if-c-k.false ∙ e))
