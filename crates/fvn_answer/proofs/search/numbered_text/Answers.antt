-- The text under the order of first occurrence, or the least one.
use Rattle.std.proofs.Common.{arith}
use Rattle.fvn_answer.specs.Lines.{forms_in}
use Rattle.fvn_answer.specs.inner.Shown.{shown}
use Rattle.fvn_answer.proofs.Least.{same-length}
use Rattle.fvn_answer.proofs.search.numbered_text.Goals as goal

pub returns-then-few : goal.returns-then-few
returns-then-few c =
    let found = c.in_ok-line.ensures in
    let same = same-length (forms_in (shown c.args.printed.now)) found.one.order c.in_ok-order.order.items found.one.numbering c.in_ok-order.ensures in
    record {
      text_of_it = record {
        order = found.one.order;
        numbering = found.one.numbering;
        text_is = found.one.text_is;
        least = λ few other n b. found.least other n b;
      };
      few = omega (arith, same, c.in_ok-order.order.ok.0, c.in_ok-order.order.small);
    }

pub returns : goal.returns
returns c = record {
  text_of_it = record {
    order = c.in_ok-order.order.items;
    numbering = c.in_ok-order.ensures;
    text_is = rw c.as_slice-2.ensures.value at c.in_ok-line-2.ensures;
    least = λ few other n b. absurd (omega (arith, few, c.if-few.false, c.len-few.ensures, c.in_ok-order.order.ok.0));
  };
  few = omega (arith, c.in_ok-order.order.ok.0, c.in_ok-order.order.small);
}
