-- The operator over the arguments, one of them replaced.
use Rattle.std.proofs.Common.{◌<◌, ◌+◌, ◌∷◌, ◌++◌, length, take, drop, sym, ap, ◌∙◌, subst}
use Rattle.fvn_forms.specs.Canon.{build}
use Rattle.fvn_flat.specs.Fits.{AllFit, Takes}
use Rattle.fvn_flat.proofs.Fitting.{args_fit}
use Rattle.fvn_places.proofs.Arguments.{within, arguments_fit, arguments_taken}
use Rattle.fvn_places.proofs.putting.with_argument.Goals as goal

pub with_one_replaced-requires : goal.with_one_replaced-requires
with_one_replaced-requires c =
    subst (λ l. c.args.place < length l) (sym c.args-2.ensures.exact)
    (within c.args.sig.now c.recall_good.ensures.fits c.args.t.now c.args.f c.requires.head c.requires.term c.args.place c.args.u c.requires.argument)

pub app-requires : goal.app-requires
app-requires c =
    let d = c.args.sig.now in
    let t = c.args.t.now in
    let fits = c.recall_good.ensures.fits in
    let is = c.in_ok-args.ensures ∙ ap (λ l. take c.args.place l ++ c.args.u ∷ drop (c.args.place + 1) l) c.args-2.ensures.exact in record {
      fit = subst (AllFit d) (sym is) (arguments_fit d fits t c.args.f c.requires.head c.requires.term c.args.place c.args.u c.requires.argument (args_fit t d fits c.requires.term));
      takes = subst (Takes d c.args.f) (sym is) (arguments_taken d fits t c.args.f c.requires.head c.requires.term c.args.place c.args.u c.requires.argument);
    }

pub returns : goal.returns
returns c =
    c.in_ok-whole.ensures.exact
    ∙ ap (build c.args.sig.now c.args.f) (c.in_ok-args.ensures ∙ ap (λ l. take c.args.place l ++ c.args.u ∷ drop (c.args.place + 1) l) c.args-2.ensures.exact)
