-- A numbering, step by step.
use Rattle.std.proofs.Common.{◌≡◌, length, sym, ap, ◌∙◌, subst, arith}
use Rattle.fvn_answer.specs.Numberings.{IsNumbering}
use Rattle.fvn_answer.specs.Lines.{forms_in}
use Rattle.fvn_answer.specs.inner.Shown.{shown}
use Rattle.fvn_answer.proofs.Least.{same-length}
use Rattle.fvn_answer.proofs.search.in_order.Goals as goal

pub loop-i-init : goal.loop-i-init
loop-i-init c = subst (IsNumbering (forms_in (shown c.args.printed.now))) (sym c.in_ok-other.ensures.items) c.requires.numbering

pub with_first-requires : goal.with_first-requires
with_first-requires c =
    let it = forms_in (shown c.args.printed.now) in
    let is : c.as_slice.result.now ≡ c.loop-i.other.items = c.as_slice.ensures.value in
    let long : length c.as_slice.result.now ≡ length c.args.order.now = ap length is ∙ same-length it c.loop-i.other.items c.args.order.now c.loop-i.invariant c.requires.numbering in
    record { numbering = subst (IsNumbering it) (sym is) c.loop-i.invariant; within = omega (arith, long, c.loop-i-test.true) }
