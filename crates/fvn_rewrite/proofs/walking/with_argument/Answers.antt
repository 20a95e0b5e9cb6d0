-- The operator over the arguments, one of them replaced.
use Rattle.std.proofs.Common.{◌≡◌, ◌<◌, ◌+◌, ◌∷◌, ◌++◌, length, take, drop, sym, ap, ◌∙◌, subst}
use Rattle.fvn_terms.specs.Equality.{BEqual}
use Rattle.fvn_forms.specs.Flat.{plain}
use Rattle.fvn_flat.specs.Fits.{AllFit, Takes, plain_over}
use Rattle.fvn_flat.proofs.Fitting.{args_fit}
use Rattle.fvn_theory.specs.Equations.{equations_of}
use Rattle.fvn_rewrite.proofs.Roots.{have_one_kind}
use Rattle.fvn_rewrite.proofs.Replacing.{arguments_fit, arguments_taken, whole_steps}
use Rattle.fvn_rewrite.proofs.walking.with_argument.Goals as goal

pub with_one_replaced-requires : goal.with_one_replaced-requires
with_one_replaced-requires c = subst (λ l. c.args.place < length l) (sym c.args-2.ensures.exact) c.requires.within

pub app-requires : goal.app-requires
app-requires c =
    let d = c.args.sig.now in
    let t = c.args.t.now in
    let E = equations_of c.args.rules.now.equations in
    let fits = c.recall_good.ensures.fits in
    let is : c.in_ok-args.args.items ≡ _ = c.in_ok-args.ensures ∙ ap (λ l. take c.args.place l ++ c.args.u ∷ drop (c.args.place + 1) l) c.args-2.ensures.exact in record {
      fit = subst (AllFit d) (sym is) (arguments_fit d fits E t c.args.f c.requires.head c.requires.term c.args.place c.args.u c.requires.step (args_fit t d fits c.requires.term));
      takes = subst (Takes d c.args.f) (sym is)
          (arguments_taken d fits E t c.args.f c.requires.head c.requires.term c.args.place c.args.u c.requires.step c.kinded_theories_are_lawful.ensures (have_one_kind d c.args.rules.now c.requires.rules));
    }

pub returns : goal.returns
returns c =
    let d = c.args.sig.now in
    let t = c.args.t.now in
    let E = equations_of c.args.rules.now.equations in
    let whole = c.in_ok-whole.whole in
    let is = c.in_ok-args.ensures ∙ ap (λ l. take c.args.place l ++ c.args.u ∷ drop (c.args.place + 1) l) c.args-2.ensures.exact in record {
      steps = whole_steps d c.recall_good.ensures.fits E t c.args.f c.requires.head c.requires.term c.args.place c.args.u c.requires.step c.rewriting_is_lawful.ensures whole
          (subst (λ l. BEqual d (plain_over d c.args.f l) (plain whole)) is c.in_ok-whole.ensures.equal);
      fits = c.in_ok-whole.ensures.fits;
    }
