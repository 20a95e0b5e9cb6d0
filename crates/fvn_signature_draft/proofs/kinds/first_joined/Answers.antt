-- The first sort with the bit of a word is the first joined one.
use Rattle.std.proofs.Common.{◌≡◌, ◌<◌, false, sym, ap, ◌∙◌}
use Rattle.std.specs.Prelude.{unwrap_or}
use Rattle.std.proofs.lemmas.Bool.{false≢true, false_from_ne_true}
use Rattle.fvn_forms.specs.SortOrder.{sort_number}
use Rattle.fvn_signature.proofs.FirstSorts.{find_from-false, find_from-true}
use Rattle.fvn_signature_draft.specs.Collected.{joins}
use Rattle.fvn_signature_draft.proofs.kinds.first_joined.Goals as goal

pub loop-q-preserved : goal.loop-q-preserved
loop-q-preserved c =
    let within : c.loop-q.q < c.args.collected.now.sorts = c.loop-q-test.true in
    let no : joins c.args.collected.now (sort_number c.args.s) (sort_number c.loop-q.q) ≡ false = false_from_ne_true _ (λ h. false≢true (sym c.if-has.false ∙ c.has.ensures.1 ((c.requires.word c.loop-q.q within).1 h))) in
    c.loop-q.invariant ∙ find_from-false (joins c.args.collected.now (sort_number c.args.s)) c.loop-q.q c.args.collected.now.sorts within no

pub returns-then-has : goal.returns-then-has
returns-then-has c =
    let within : c.loop-q.q < c.args.collected.now.sorts = c.loop-q-test.true in
    let yes = (c.requires.word c.loop-q.q within).0 (c.has.ensures.0 c.if-has.true) in
    ap (λ o. unwrap_or o (sort_number c.args.s)) (sym (c.loop-q.invariant ∙ find_from-true (joins c.args.collected.now (sort_number c.args.s)) c.loop-q.q c.args.collected.now.sorts within yes))
