-- The variables of one more form.
use Rattle.std.proofs.Common.{sym, subst, take}
use Rattle.std.proofs.lemmas.List.{take_all}
use Rattle.fvn_combine_triangular.specs.inner.Ordering.{AreVarsOf}
use Rattle.fvn_combine_triangular.proofs.Notes.{no_notes, notes_more, all_notes}
use Rattle.fvn_combine_triangular.proofs.order.notes_of.Goals as goal

pub loop-t-init : goal.loop-t-init
loop-t-init c = no_notes c.args.bindings.now c.in_ok-notes.notes.items c.in_ok-notes.ensures.items

pub loop-t-preserved : goal.loop-t-preserved
loop-t-preserved c = notes_more c.args.bindings.now c.loop-t.notes.items c.push.new.self.items c.loop-t.t-index c.loop-t-item.result c.from_vec.result c.loop-t-test.true c.loop-t-item.is c.in_ok-push.ensures.items c.loop-t.invariant (subst (AreVarsOf c.loop-t-item.result.1) (sym c.from_vec.ensures) c.in_ok-vars.ensures)

pub returns : goal.returns
returns c = all_notes c.args.bindings.now c.loop-t.notes.items (take c.loop-t.t-index c.args.bindings.now) (take_all c.loop-t.t-index c.args.bindings.now c.loop-t-test.false) c.loop-t.invariant
