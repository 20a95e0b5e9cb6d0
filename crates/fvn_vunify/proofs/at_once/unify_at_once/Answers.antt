-- The sides are tested in turn, and the renaming of their variables.
use Rattle.std.proofs.Common.{sym, subst}
use Rattle.std.specs.Prelude.{All}
use Rattle.fvn_terms.specs.declared.plain.Var.{Var}
use Rattle.fvn_terms.specs.Signature.{IsSort}
use Rattle.fvn_flat.specs.Fits.{AllFit}
use Rattle.fvn_vunify.proofs.AtOnce.{solved_at_once}
use Rattle.fvn_vunify.proofs.ListedForms.{listed_sorts}
use Rattle.fvn_vunify.proofs.at_once.unify_at_once.Goals as goal

pub all_have_one_form-requires-clause-terms : goal.all_have_one_form-requires-clause-terms
all_have_one_form-requires-clause-terms g c = λ κs w. subst (λ d. AllFit d c.args.terms.now) c.requires.sig c.requires.terms

pub test_kept-requires-clause-values : goal.test_kept-requires-clause-values
test_kept-requires-clause-values g c = λ κs w. c.in_ok-names.ensures.fits c.args.sig.now

pub test_kept-requires-clause-sorts : goal.test_kept-requires-clause-sorts
test_kept-requires-clause-sorts g c = λ κs w.
    subst (All (λ (x : Var). IsSort c.args.sig.now x.sort)) (sym c.as_slice.ensures)
    (rw c.in_ok-v.ensures (listed_sorts c.args.sig.now c.args.terms.now c.requires.terms))

pub returns-in-Irreducible : goal.returns-in-Irreducible
returns-in-Irreducible g c =
    let s = g.E.Expander.setting c.args.expander.now in
    record {
      solved = solved_at_once s (c.rewriting_is_lawful.ensures s.declarations s.equations) (c.theory_equality_is_lawful.ensures s.declarations s.equations) c.args.terms.now
          (c.in_ok-alike.ensures c.if-not-alike.false) c.in_ok-v.v c.in_ok-v.ensures c.in_ok-names.names _ c.in_ok-names.ensures _ c.as_slice.ensures
          (rw c.in-Irreducible.is at c.in_ok-test_kept.ensures) c.in_ok-solved-in-Irreducible.solved c.in_ok-solved-in-Irreducible.ensures;
    }
