-- The right side of the last equation may be a start.
use Rattle.std.proofs.Common.{refl, sym, subst, arith}
use Rattle.std.proofs.lemmas.List.Elements.{All-get_or}
use Rattle.fvn_terms.proofs.Occurrences.{BEqual-occurs}
use Rattle.fvn_forms.specs.Flat.{plain}
use Rattle.fvn_theory.specs.declared.equation.Equation.{Equation}
use Rattle.fvn_theory.specs.Equations.{IsReadableEquation}
use Rattle.fvn_rewrite.specs.Usable.{Rewriting}
use Rattle.fvn_narrow.specs.Settings.{narrowing_setting}
use Rattle.fvn_tests_narrowing.specs.Starts.{MayStart}
use Rattle.fvn_tests_narrowing.proofs.tests.expanding.answered.Goals as goal

pub flatten-requires : goal.flatten-requires
flatten-requires c =
    let d = c.args.sig.now in
    let e : Equation = c.index-equations-count.result in
    let readable = All-get_or (IsReadableEquation d) c.args.equations.now _ e (omega (arith, c.if-count-lt1.false)) c.requires.readable in
    (readable.kind, readable.right)

pub answered_by-requires-clause-start : goal.answered_by-requires-clause-start
answered_by-requires-clause-start c lives order =
    let d = c.args.sig.now in
    let e : Equation = c.index-equations-count.result in
    let readable = All-get_or (IsReadableEquation d) c.args.equations.now _ e (omega (arith, c.if-count-lt1.false)) c.requires.readable in
    let u = c.in_ok-term.term in
    subst (λ (r : Rewriting). MayStart (narrowing_setting r c.new-narrower.result.solver.now.most_unifiers) u) (sym c.new-narrower.ensures.rewrites) record {
      fits = c.in_ok-term.ensures.fits;
      old = λ x o. readable.not_fresh x (readable.brings_none x (BEqual-occurs x d _ (plain u) c.in_ok-term.ensures.equal o));
      none_fixed = refl;
    }
