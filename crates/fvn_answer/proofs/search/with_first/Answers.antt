-- Variables of a numbering exchanged.
use Rattle.std.proofs.Common.{◌≡◌, length, sym, ap, ◌∙◌, subst, arith}
use Rattle.std.specs.List.{swap}
use Rattle.fvn_answer.specs.Numberings.{IsNumbering}
use Rattle.fvn_answer.specs.Lines.{forms_in}
use Rattle.fvn_answer.specs.inner.Shown.{shown}
use Rattle.fvn_answer.proofs.Least.{same-length, exchanged-numbering}
use Rattle.fvn_answer.proofs.search.with_first.Goals as goal
use Rattle.fvn_answer.proofs.search.with_first.Goals.{then-stands_too_late+in_ok-other-2, else-stands_too_late}

pub loop-j-init : goal.loop-j-init
loop-j-init c = (subst (IsNumbering (forms_in (shown c.args.printed.now))) (sym c.in_ok-other.ensures.items) c.requires.numbering, omega arith)

pub stands_too_late-requires : goal.stands_too_late-requires
stands_too_late-requires c =
    let it = forms_in (shown c.args.printed.now) in
    let long : length c.as_slice.result.now ≡ length c.args.order.now =
    ap length c.as_slice.ensures.value ∙ same-length it c.loop-j.other.items c.args.order.now c.loop-j.invariant.0 c.requires.numbering in
    let within = c.requires.within in
    record { first = omega (arith, long, within); second = omega (arith, long, c.loop-j-test.true) }

pub exchanged-requires : goal.exchanged-requires
exchanged-requires c =
    let it = forms_in (shown c.args.printed.now) in
    let long : length c.as_slice-then-stands_too_late.result.now ≡ length c.args.order.now =
    ap length c.as_slice-then-stands_too_late.ensures.value ∙ same-length it c.loop-j.other.items c.args.order.now c.loop-j.invariant.0 c.requires.numbering in
    let within = c.requires.within in
    record { first = omega (arith, long, within); second = omega (arith, long, c.loop-j-test.true) }

pub loop-j-preserved : goal.loop-j-preserved
loop-j-preserved c =
    let it = forms_in (shown c.args.printed.now) in
    let up = c.loop-j.invariant.1 in
    let long : length c.loop-j.other.items ≡ length c.args.order.now = same-length it c.loop-j.other.items c.args.order.now c.loop-j.invariant.0 c.requires.numbering in
    let within = c.requires.within in
    elim c.if-stands_too_late.branch [
      | then-stands_too_late+in_ok-other-2 w ↦ rw w.other-is (
        exchanged-numbering it c.loop-j.other.items w.in_ok-other-2.other.items c.args.i c.loop-j.j (omega (arith, long, within)) (omega (arith, long, c.loop-j-test.true))
            (w.in_ok-other-2.ensures.items ∙ ap (λ l. swap l c.args.i c.loop-j.j) w.as_slice-then-stands_too_late.ensures.value) c.loop-j.invariant.0,
        omega (arith, up),
      )
      | else-stands_too_late w ↦ rw w.other-is (c.loop-j.invariant.0, omega (arith, up))
    ]

pub returns : goal.returns
returns c = c.loop-j.invariant.0
