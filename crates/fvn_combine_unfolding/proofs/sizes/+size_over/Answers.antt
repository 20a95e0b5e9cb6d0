-- The symbols of one more argument.
use Rattle.std.proofs.Common.{◌+◌, sym, ap, ◌∙◌, subst, arith}
use Rattle.std.specs.List.{AllByRecursion}
use Rattle.std.proofs.lemmas.List.{take_all}
use Rattle.fvn_forms.specs.Settled.{Settled}
use Rattle.fvn_flat.specs.Forms.{args_of}
use Rattle.fvn_flat.proofs.Instances.{each_at}
use Rattle.fvn_flat.proofs.Smaller.{argument_is_smaller}
use Rattle.fvn_combine_unfolding.specs.inner.Noted.{capped, noted_size}
use Rattle.fvn_combine_unfolding.proofs.Measuring.{args_settled, size_of_all, size_of_all-take_more, size_in_is, capped_itself}
use Rattle.fvn_combine_unfolding.proofs.sizes.+size_over.Goals as goal

pub size_over-requires : goal.size_over-requires
size_over-requires t c =
    let d = c.args.sig.now in
    let us = c.args-u-items.result.now in (
      omega (arith, argument_is_smaller c.args.t.now us c.loop-u.u-index c.u-item.result c.args-u-items.ensures.exact c.loop-u-test.true c.u-item.is),
      each_at (Settled d) us (subst (AllByRecursion (Settled d)) (sym c.args-u-items.ensures.exact) (args_settled d c.args.t.now c.requires)) c.loop-u.u-index c.u-item.result c.loop-u-test.true c.u-item.is,
    )

pub loop-u-preserved : goal.loop-u-preserved
loop-u-preserved t c =
    let e = size_of_all-take_more (noted_size c.args.sizes.now) c.args-u-items.result.now c.loop-u.u-index c.u-item.result c.loop-u-test.true c.u-item.is in
    grind arith

pub returns-in-Some : goal.returns-in-Some
returns-in-Some t c = capped_itself (noted_size c.args.sizes.now) c.in-Some.x c.args.t.now (sym c.as_var.ensures ∙ c.in-Some.is) c.noted_size.result c.noted_size.ensures (omega arith)

pub returns-after-loop-u : goal.returns-after-loop-u
returns-after-loop-u t c =
    let env = noted_size c.args.sizes.now in
    let n = c.own_size-count.result in
    c.loop-u.invariant
    ∙ ap capped
    (ap (λ l. n + size_of_all env l) (take_all c.loop-u.u-index c.args-u-items.result.now c.loop-u-test.false ∙ c.args-u-items.ensures.exact)
    ∙ ap (λ m. m + size_of_all env (args_of c.args.t.now)) c.own_size-count.ensures
    ∙ size_in_is env c.args.t.now (sym c.as_var.ensures ∙ c.in-None.is))
