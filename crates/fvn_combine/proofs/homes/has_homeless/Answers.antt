-- The class at this place.
use Rattle.std.proofs.Common.{◌<◌, length, sym, subst, Contains}
use Rattle.std.proofs.lemmas.List.Elements.{Contains-get_or}
use Rattle.fvn_combine_drawing.specs.CombineCandidatesDeclared.sharing.SharedClass.{SharedClass}
use Rattle.fvn_combine.proofs.homes.has_homeless.Goals as goal

pub is_homeless-requires-clause-within : goal.is_homeless-requires-clause-within
is_homeless-requires-clause-within c = subst (λ (a : SharedClass). a.class < length c.args.tags.now) (sym c.c-item.is) (c.requires.tags c.loop-c.c-index _ c.loop-c-test.true)

pub returns-then-is_homeless : goal.returns-then-is_homeless
returns-then-is_homeless c t =
    let m = subst (Contains c.args.decided.now) (sym c.c-item.is) (Contains-get_or c.args.decided.now c.loop-c.c-index _ c.loop-c-test.true) in
    (m.0, c.c-item.result, m.1, m.2, c.is_homeless.ensures c.if-is_homeless.true)
