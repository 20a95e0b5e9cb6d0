-- The forms of the sides are equal, or differ.
use Rattle.std.proofs.Common.{◌≡◌, false, true, refl, sym, subst}
use Rattle.fvn_terms.specs.Substitution.{value}
use Rattle.fvn_rewrite.specs.Usable.{equations_by}
use Rattle.fvn_verify.specs.Verdicts.{IsFormOf, MeetInForm}
use Rattle.fvn_verify.specs.inner.Comparing.{under}
use Rattle.fvn_verify.proofs.Forms.{meet_equal, are_different}
use Rattle.fvn_verify.proofs.comparing.difference.Goals as goal

pub returns-then-same : goal.returns-then-same
returns-then-same c =
    let r = c.args.rewriter.now in
    let s = value c.args.bindings.now.pairs in
    let meet : MeetInForm (under r s) c.args.pair.now =
    (c.args.left, (c.requires.left, subst (IsFormOf (under r s) c.args.pair.now.1) (sym (c.if-same.ensures.exact.0 refl)) c.requires.right)) in
    (meet_equal r.signature (equations_by r) s r.bounds c.rewriting_is_lawful.ensures c.theory_equality_is_lawful.ensures c.args.pair.now meet, meet)

pub returns-else-same : goal.returns-else-same
returns-else-same c =
    let r = c.args.rewriter.now in
    are_different r.signature (equations_by r) (value c.args.bindings.now.pairs) r.bounds
    c.equality_is_that_of_flat_forms.ensures c.kinded_theories_are_lawful.ensures c.recall.ensures.good.fits c.recall.ensures.usable.admissible c.requires.keeps c.args.pair.now c.requires.kinded
    c.args.left c.args.right c.requires.left c.requires.right (λ e. let same : false ≡ true = c.if-same.ensures.exact.1 e in cc)
    c.requires.instances
