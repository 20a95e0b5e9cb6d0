-- The equation at the place before.
use Rattle.std.proofs.Common.{◌-◌, length, refl, arith}
use Rattle.std.proofs.lemmas.Option.{slice_get_read}
use Rattle.fvn_theory.specs.declared.equation.Equation.{Equation}
use Rattle.fvn_cohere.proofs.equations.equation_at.Goals as goal

pub bounds-equations-place : goal.bounds-equations-place
bounds-equations-place c = omega (arith, c.requires.from_one, c.requires.listed)

pub returns : goal.returns
returns c =
    let list = c.args.equations.now in
    let e : Equation = c.index-equations-place.result in
    slice_get_read list (length list) (c.args.number - 1) e refl (omega (arith, c.requires.from_one, c.requires.listed)) c.index-equations-place.is
