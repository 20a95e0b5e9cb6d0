-- The front of an operator over the fronts of its arguments.
use Rattle.std.proofs.Common.{take, map, sym, ap, ◌∙◌, arith}
use Rattle.fvn_flat.proofs.Smaller.{argument_is_smaller}
use Rattle.fvn_terms.specs.Equality.{is_commutative}
use Rattle.fvn_answer.specs.Writing.{text_of, written, bytes_of}
use Rattle.fvn_answer.proofs.Printing.{argument-printable}
use Rattle.fvn_answer.proofs.LineFronts.{argument-gathered, argument-passed, application-front}
use Rattle.fvn_answer.specs.inner.Fronts.{arranged_if}
use Rattle.fvn_answer.proofs.front.+term_front.Goals as goal
use Rattle.fvn_answer.proofs.front.+term_front.Goals.{then-goes_on+in_ok-front-in-None+in_ok-least-in-None, else-goes_on}

pub term_front-requires : goal.term_front-requires
term_front-requires t c =
    let items = c.args-u-items.result.now in
    let smaller = argument_is_smaller c.args.t.now items c.loop-u.u-index c.u-item.result c.args-u-items.ensures.exact c.loop-u-test.true c.u-item.is in (
      omega (arith, smaller),
      (c.requires.names, argument-printable c.args.signature.now c.args.t.now items c.loop-u.u-index c.u-item.result c.requires.term c.args-u-items.ensures.exact c.loop-u-test.true c.u-item.is),
    )

pub loop-u-preserved : goal.loop-u-preserved
loop-u-preserved t c other a =
    let d = c.args.signature.now in
    let names = c.args.names.now in
    let known = c.args.fixed.now.known in
    let items = c.args-u-items.result.now in
    let i = c.loop-u.u-index in
    let u = c.u-item.result in
    let exchange = c.is_commutative-exchange.result in
    let so_far = c.loop-u.invariant other a in
    elim c.if-goes_on.branch [
      | then-goes_on+in_ok-front-in-None+in_ok-least-in-None w ↦ rw (w.texts-is, w.least-is)
          (argument-gathered d names other known exchange (bytes_of w.gather.new.texts.items) w.in_ok-least-in-None.least items i u c.loop-u-test.true c.u-item.is
          (w.in_ok-least-in-None.ensures known other exchange (map (λ v. text_of (written d names other v)) (take i items)) (text_of (written d names other u))
          (c.goes_on.ensures.more w.if-goes_on.true) so_far (w.in_ok-front-in-None.ensures other a)))
      | else-goes_on w ↦
          let end = c.goes_on.ensures.end w.if-goes_on.false in
          rw (w.texts-is, w.least-is)
          (argument-passed d names other known exchange (bytes_of c.loop-u.texts.items) c.loop-u.least items i u c.loop-u-test.true c.u-item.is end.0 end.1 so_far)
    ]

pub returns-in_ok-front-in-None-2 : goal.returns-in_ok-front-in-None-2
returns-in_ok-front-in-None-2 t c other a =
    let d = c.args.signature.now in
    let names = c.args.names.now in
    let known = c.args.fixed.now.known in
    let items = c.args-u-items.result.now in
    let i = c.loop-u.u-index in
    let f = c.operator-f.result in
    let exchange = c.is_commutative-exchange.result in
    let whole = bytes_of c.loop-u.texts.items in
    let e = c.is_commutative-exchange.ensures.exact ∙ ap is_commutative c.axioms.ensures in
    let arranged = ap bytes_of c.as_slice.ensures.value ∙ c.in_ok-arrange-in-None.ensures ∙ ap (λ b. arranged_if b whole) (ap is_commutative c.axioms-in-None.ensures ∙ sym e) in
    application-front d names other c.requires.names f c.args.t.now c.operator-f.ensures c.requires.term c.op_text.result.now c.op_text.ensures exchange e items i c.args-u-items.ensures.exact
    c.loop-u-test.false known c.in_ok-front-in-None-2.front
    (c.in_ok-front-in-None-2.ensures known other whole (map (λ v. text_of (written d names other v)) (take i items)) arranged (c.loop-u.invariant other a))
