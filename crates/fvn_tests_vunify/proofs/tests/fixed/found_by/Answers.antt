-- What is asked of what is explored, and of what is solved in it.
use Rattle.std.proofs.Common.{◌∙◌, sym, subst}
use Rattle.fvn_flat.specs.Fits.{AllFit}
use Rattle.fvn_flat.specs.Problems.{plain_pairs, IsProblem}
use Rattle.fvn_tests_vunify.specs.Asked.{MayBeExplored}
use Rattle.fvn_tests_vunify.proofs.Asking.{of_pairs}
use Rattle.fvn_tests_vunify.proofs.tests.fixed.found_by.Goals as goal

pub explore-requires-clause-start : goal.explore-requires-clause-start
explore-requires-clause-start g c lives order = record {
  some = (subst (MayBeExplored (g.E.Expander.setting c.args.expander.now)) (c.as_slice.ensures.value ∙ sym c.as_slice-2.ensures.value) (c.in_ok-may.ensures c.if-not-may.false)).some;
  fit = rw c.as_slice-2.ensures.value (c.in_ok-sides.ensures.fit c.args.sig.now c.requires.given.fit);
}

pub explore-requires-clause-fixed : goal.explore-requires-clause-fixed
explore-requires-clause-fixed g c lives order =
    (subst (MayBeExplored (g.E.Expander.setting c.args.expander.now)) (c.as_slice.ensures.value ∙ sym c.as_slice-2.ensures.value) (c.in_ok-may.ensures c.if-not-may.false)).fixed

pub variant_unify-requires-clause-sig : goal.variant_unify-requires-clause-sig
variant_unify-requires-clause-sig g c lives order = sym c.requires.setting.declarations

pub variant_unify-requires-clause-explored : goal.variant_unify-requires-clause-explored
variant_unify-requires-clause-explored g c lives order =
    let s = g.E.Expander.setting c.args.expander.now in
    of_pairs s (g.E.Expander.drawn c.args.expander.now) c.args.given.pairs _ c.in_ok-sides.ensures.exact _ c.in_ok-x.x
    (subst (λ d. IsProblem d (plain_pairs c.args.given.pairs)) (sym c.requires.setting.declarations) c.requires.given.kinds) (rw c.as_slice-2.ensures.value at c.in_ok-x.ensures.exploration)
