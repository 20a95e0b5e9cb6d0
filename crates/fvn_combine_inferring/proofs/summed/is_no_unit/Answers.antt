-- The identity at this place.
use Rattle.std.proofs.Common.{◌<◌, ℕ, length, get_or, refl, sym, subst, All, Contains}
use Rattle.std.proofs.lemmas.List.Elements.{Contains-get_or}
use Rattle.fvn_terms.specs.declared.plain.OpId.{OpId}
use Rattle.fvn_combine_inferring.proofs.summed.is_no_unit.Goals as goal

abbrev no_unit : OpId × ℕ
no_unit = (record { 0 = 0 }, 0)

pub is_unlike-requires-clause-unit : goal.is_unlike-requires-clause-unit
is_unlike-requires-clause-unit c =
    let units = c.units-u-items.result.now in
    let x = get_or units c.loop-u.u-index no_unit in
    let m = subst (λ l. Contains l x) c.units-u-items.ensures (Contains-get_or units c.loop-u.u-index no_unit c.loop-u-test.true) in
    (m.0, x, m.1, m.2, (refl, refl))

pub is_unlike-requires-clause-inside : goal.is_unlike-requires-clause-inside
is_unlike-requires-clause-inside c =
    subst (All (λ (p : OpId × ℕ). p.1 < length c.args.table.now.nodes)) (sym c.units-u-items.ensures) c.recall_well_made.ensures.units c.loop-u.u-index no_unit c.loop-u-test.true
