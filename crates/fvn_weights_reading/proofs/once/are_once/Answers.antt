-- One more name is new, or is written twice.
use Rattle.std.proofs.Common.{refl, sym, ap, ◌∙◌}
use Rattle.std.specs.Prelude.{is_some}
use Rattle.fvn_syntax.specs.Texts.{place, with_text}
use Rattle.fvn_weights_reading.proofs.NewNames.{one-new, one-old, all-new}
use Rattle.fvn_weights_reading.proofs.once.are_once.Goals as goal

pub loop-entry-preserved : goal.loop-entry-preserved
loop-entry-preserved c =
    c.loop-entry.invariant
    ∙ one-new c.args.list.now c.loop-entry.entry-index c.entry-item.result c.loop-entry-test.true (sym c.entry-item.is) c.loop-entry.texts
    (ap (λ t. is_some (place c.loop-entry.texts t)) (sym c.bytes-name.ensures) ∙ ap is_some (sym c.place.ensures) ∙ sym c.is_some-there.ensures ∙ c.if-there.false)
    c.insert.new.self (c.in_ok-insert.ensures.texts ∙ ap (with_text c.loop-entry.texts) c.bytes-name.ensures)

pub returns-then-there : goal.returns-then-there
returns-then-there c =
    sym
    (c.loop-entry.invariant
    ∙ one-old c.args.list.now c.loop-entry.entry-index c.entry-item.result c.loop-entry-test.true (sym c.entry-item.is) c.loop-entry.texts
    (ap (λ t. is_some (place c.loop-entry.texts t)) (sym c.bytes-name.ensures) ∙ ap is_some (sym c.place.ensures) ∙ sym c.is_some-there.ensures ∙ c.if-there.true))

pub returns : goal.returns
returns c = sym (c.loop-entry.invariant ∙ all-new c.args.list.now c.loop-entry.entry-index c.loop-entry.texts c.loop-entry-test.false)
