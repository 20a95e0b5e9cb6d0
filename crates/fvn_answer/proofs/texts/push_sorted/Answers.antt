-- The text of a variable of a declared sort, or of a kind.
use Rattle.std.proofs.Common.{◌≡◌, ◌<◌, ◌≤◌, subst, Some}
use Rattle.std.specs.Prelude.{slice_get}
use Rattle.fvn_terms.specs.declared.declarations.Declarations.{Declarations}
use Rattle.fvn_answer.proofs.Printing.{declared-text, kind-text, word-filled}
use Rattle.fvn_answer.proofs.texts.push_sorted.Goals as goal

pub returns-then-s-declarations : goal.returns-then-s-declarations
returns-then-s-declarations c =
    rw (c.in_ok-extend_from_slice-2.ensures.items, c.in_ok-push.ensures.items, c.in_ok-extend_from_slice.ensures.items)
    (declared-text c.args.signature.now c.args.names.now c.args.text.now.items c.args.name.now c.sort_text.result.now c.args.s
    (subst (λ (d : Declarations). c.args.s.0 < d.sorts) c.declarations.ensures c.if-s-declarations.true) c.sort_text.ensures)

pub returns : goal.returns
returns c =
    let named = subst (λ t. slice_get c.args.names.now.sorts t.0 ≡ Some c.sort_text-2.result.now) c.top-named.ensures.exact c.sort_text-2.ensures in
    rw (c.in_ok-push_special.ensures, c.in_ok-extend_from_slice-3.ensures.items, c.in_ok-push-2.ensures.items, c.in_ok-push.ensures.items, c.in_ok-extend_from_slice.ensures.items)
    (kind-text c.args.signature.now c.args.names.now c.args.text.now.items c.args.name.now c.sort_text-2.result.now c.args.s
    (subst (λ (d : Declarations). d.sorts ≤ c.args.s.0) c.declarations.ensures c.if-s-declarations.false)
    named
    (word-filled c.args.names.now.sorts c.requires.names.sort_words _ _ c.sort_text-2.ensures))
