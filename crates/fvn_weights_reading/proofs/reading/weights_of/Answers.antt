-- One entry more, or the first that does not fit.
use Rattle.std.proofs.Common.{◌≡◌, ◌+◌, ◌<◌, inl, length, sym, subst, ◌∙◌, arith}
use Rattle.std.proofs.lemmas.Result.{err_from_is_err_and}
use Rattle.fvn_weights_reading.specs.Spelling.{IsEntry}
use Rattle.fvn_weights_reading.specs.inner.Steps.{Weigh, WeighNothing}
use Rattle.fvn_weights_reading.proofs.Digits.{each-at}
use Rattle.fvn_weights_reading.proofs.Weighed.{IsWeighed, none-weighed, one-weighed, one-refused, all-weighed}
use Rattle.fvn_weights_reading.proofs.reading.weights_of.Goals as goal

pub loop-entry-init : goal.loop-entry-init
loop-entry-init c = none-weighed c.args.signature.now c.args.names.now c.args.entries.now c.in_ok-list.list.items c.in_ok-list.ensures

pub written_weight-requires : goal.written_weight-requires
written_weight-requires c =
    subst IsEntry (sym c.entry-item.is) (each-at IsEntry c.args.entries.now c.loop-entry.entry-index c.entry-item.result c.requires.entries c.loop-entry-test.true)

pub put-requires : goal.put-requires
put-requires c = omega (arith, c.in_ok-f.ensures.within, c.loop-entry.invariant.weights.count)

pub loop-entry-preserved : goal.loop-entry-preserved
loop-entry-preserved c =
    subst (IsWeighed c.args.signature.now c.args.names.now c.args.entries.now (c.loop-entry.entry-index + 1)) (sym c.put.ensures)
    (one-weighed c.args.signature.now c.args.names.now c.args.entries.now c.loop-entry.entry-index c.loop-entry.list.items c.loop-entry.invariant c.entry-item.result c.loop-entry-test.true (sym c.entry-item.is)
    c.in_ok-f.f c.in_ok-f.ensures.ok c.requires.once c.in_ok-weight.weight c.in_ok-weight.ensures)

pub returns-in_err-f-clause-err : goal.returns-in_err-f-clause-err
returns-in_err-f-clause-err c =
    let p = err_from_is_err_and c.from_residual-in_err-f.result c.from_residual-in_err-f.ensures.1 in
    rw (p.1, p.2)
    (one-refused c.args.signature.now c.args.names.now c.args.entries.now c.loop-entry.entry-index c.loop-entry.list.items c.loop-entry.invariant c.entry-item.result c.loop-entry-test.true (sym c.entry-item.is)
    c.in_err-f.field-0.0 c.in_err-f.ensures.err)

pub returns-clause-ok : goal.returns-clause-ok
returns-clause-ok c =
    subst (Weigh c.args.signature.now c.args.names.now c.args.entries.now) (sym c.from_vec.ensures)
    (all-weighed c.args.signature.now c.args.names.now c.args.entries.now c.loop-entry.entry-index c.loop-entry.list.items c.loop-entry.invariant c.loop-entry-test.false)
