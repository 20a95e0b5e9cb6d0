-- the top of the term, and one more argument
use Rattle.std.proofs.Common.{◌≡◌, ◌+◌, replicate, sym, ◌∙◌, subst, arith}
use Rattle.std.specs.List.{AllByRecursion}
use Rattle.std.proofs.lemmas.List.{take_all}
use Rattle.fvn_forms.specs.Settled.{Settled}
use Rattle.fvn_flat.proofs.Instances.{each_at}
use Rattle.fvn_flat.proofs.Smaller.{argument_is_smaller}
use Rattle.fvn_cover_counts.specs.Weights.{of_symbol}
use Rattle.fvn_cover_counts.specs.inner.Heads.{symbol_of, further}
use Rattle.fvn_cover_counts.specs.inner.Rows.{noted, Notes}
use Rattle.fvn_cover_counts.proofs.Arguments.{weight_in, args_settled}
use Rattle.fvn_cover_counts.proofs.Noting.{own_noted, copies_some}
use Rattle.fvn_cover_counts.proofs.Profiling.{notes_form, notes_argument}
use Rattle.fvn_cover_counts.proofs.walking.+with_symbols.Goals as goal

pub with_symbols-requires : goal.with_symbols-requires
with_symbols-requires t c =
    let d = c.args.sig.now in
    let us = c.args-u-items.result.now in (
      omega (arith, argument_is_smaller c.args.t.now us c.loop-u.u-index c.u-item.result c.args-u-items.ensures.exact c.loop-u-test.true c.u-item.is),
      each_at (Settled d) us (subst (AllByRecursion (Settled d)) (sym c.args-u-items.ensures.exact) (args_settled d c.args.t.now c.requires)) c.loop-u.u-index c.u-item.result c.loop-u-test.true c.u-item.is,
    )

pub loop-u-preserved : goal.loop-u-preserved
loop-u-preserved t c =
    notes_argument c.in_ok-all.all.items c.loop-u.all.items _ c.args-u-items.result.now c.loop-u.u-index c.u-item.result c.args.place c.loop-u-test.true c.u-item.is c.loop-u.invariant c.in_ok-all-2.ensures

pub returns : goal.returns
returns t c =
    let u = c.args.t.now in
    let i = c.args.place in
    let top : c.in_ok-all.all.items ≡ noted (symbol_of u) (replicate (further u + 1) i) c.args.rows.items = rw (c.top_symbol.ensures, c.further.ensures) at c.in_ok-all.ensures in
    let whole = take_all c.loop-u.u-index c.args-u-items.result.now c.loop-u-test.false ∙ c.args-u-items.ensures.exact in
    notes_form c.args.sig.now u i c.args.rows.items c.in_ok-all.all.items c.loop-u.all.items c.requires
    (own_noted (symbol_of u) (replicate (further u + 1) i) c.args.rows.items c.in_ok-all.all.items top (copies_some (further u) i))
    (subst (λ l. Notes c.in_ok-all.all.items (λ s. replicate (weight_in (of_symbol s) l) i) c.loop-u.all.items) whole c.loop-u.invariant)
