-- What is left to prove.
use Rattle.std.proofs.Common.{◌≡◌, ◌<◌, length, refl, sym, ◌∙◌, subst, arith}
use Rattle.std.specs.Prelude.{All}
use Rattle.std.proofs.lemmas.Option.{slice_get_read}
use Rattle.fvn_base.specs.declared.limits.TheConstants.{EQUATIONS}
use Rattle.fvn_module.specs.Equations.{equations_in}
use Rattle.fvn_module.specs.inner.Sides.{AreTerms}
use Rattle.fvn_module.specs.inner.Steps.{too_many}
use Rattle.fvn_module.proofs.EquationLists.{all-terms-from}
use Rattle.fvn_module.proofs.equations.read_equations.Goals as goal

pub returns-then-len-gt-EQUATIONS-clause-err : goal.returns-then-len-gt-EQUATIONS-clause-err
returns-then-len-gt-EQUATIONS-clause-err c =
    let e : c.in_ok-list.list.items ≡ equations_in c.args.statements.now = c.in_ok-list.ensures in
    let few : EQUATIONS < length c.in_ok-list.list.items = omega (arith, c.if-len-gt-EQUATIONS.true, c.len.ensures) in
    let there = slice_get_read c.in_ok-list.list.items (length c.in_ok-list.list.items) EQUATIONS c.index.result.now refl few c.index.ensures in
    too_many c.index.result.now.number (record { sides = c.index.result.now; next = rw e at there; number = refl }) refl

pub read_all-requires : goal.read_all-requires
read_all-requires c =
    let e : c.as_slice.result.now ≡ equations_in c.args.statements.now = c.as_slice.ensures.value ∙ c.in_ok-list.ensures in
    subst (All AreTerms) (sym e) (all-terms-from 1 c.args.statements.now c.requires.statements)
