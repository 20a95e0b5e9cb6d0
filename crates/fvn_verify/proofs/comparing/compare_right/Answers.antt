-- What is found of the right side, behind a form of the left one.
use Rattle.std.proofs.Common.{◌≡◌, false, true, inr, refl, sym, subst}
use Rattle.fvn_terms.specs.Substitution.{value}
use Rattle.fvn_rewrite.specs.Usable.{equations_by}
use Rattle.fvn_verify.specs.inner.Comparing.{under, IsFlatForm}
use Rattle.fvn_verify.proofs.Forms.{equal_sides_meet, two_instances}
use Rattle.fvn_verify.proofs.comparing.compare_right.Goals as goal

pub flat_form-requires : goal.flat_form-requires
flat_form-requires c = record { keeps = c.requires.keeps; kinded = c.requires.kinded.1 }

pub returns-then-same : goal.returns-then-same
returns-then-same c =
    let r = c.args.rewriter.now in
    let s = value c.args.bindings.now.pairs in
    let other : IsFlatForm (under r s) c.args.pair.now.1 c.args.start.now = subst (IsFlatForm (under r s) c.args.pair.now.1) (sym (c.if-same.ensures.exact.0 refl)) c.in_ok-other.ensures in
    equal_sides_meet r.signature (equations_by r) s r.bounds c.sequences_are_lawful.ensures c.rewriting_is_lawful.ensures c.theory_equality_is_lawful.ensures
    c.args.pair.now c.args.start.now c.args.left c.requires.start other c.requires.left

pub form_of-requires : goal.form_of-requires
form_of-requires c = record { start = c.in_ok-other.ensures; limited = c.requires.limited }

pub difference-requires : goal.difference-requires
difference-requires c =
    let r = c.args.rewriter.now in
    record {
      keeps = c.requires.keeps;
      kinded = c.requires.kinded;
      instances = two_instances r.signature (equations_by r) (value c.args.bindings.now.pairs) r.bounds c.equality_is_that_of_flat_forms.ensures c.recall.ensures.good.fits c.requires.keeps
          c.args.pair.now c.requires.kinded c.args.start.now c.in_ok-other.other c.requires.start c.in_ok-other.ensures (λ e. let same : false ≡ true = c.if-same.ensures.exact.1 e in cc);
      left = c.requires.left;
      right = rw c.in-Form.is at c.in_ok-right.ensures;
    }

pub returns-in-Form : goal.returns-in-Form
returns-in-Form c = ((c.args.left, c.requires.left), ((c.in-Form.form, rw c.in-Form.is at c.in_ok-right.ensures), c.difference.ensures))

pub returns-in-Steps : goal.returns-in-Steps
returns-in-Steps c = (c.args.pair.now.1, (inr (refl, (c.args.left, c.requires.left)), rw c.in-Steps.is at c.in_ok-right.ensures))

pub returns-in-Size : goal.returns-in-Size
returns-in-Size c = (c.args.pair.now.1, (inr (refl, (c.args.left, c.requires.left)), rw c.in-Size.is at c.in_ok-right.ensures))
