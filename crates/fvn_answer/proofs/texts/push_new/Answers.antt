-- `#`, the number, and the sort behind them.
use Rattle.std.proofs.Common.{◌≡◌, [], ◌∷◌, ◌++◌, ap, ◌∙◌, append_assoc}
use Rattle.std.specs.Prelude.{decimal}
use Rattle.fvn_answer.specs.Numberings.{number, new_name}
use Rattle.fvn_answer.specs.Writing.{text_of, sorted}
use Rattle.fvn_answer.proofs.Printing.{sorted-behind}
use Rattle.fvn_answer.proofs.texts.push_new.Goals as goal

pub returns : goal.returns
returns c =
    let d = c.args.signature.now in
    let names = c.args.names.now in
    let before = c.args.text.now.items in
    let order = c.args.order.now in
    let x = c.args.x in
    let digits : c.as_bytes.result.now ≡ decimal (number order x) = c.as_bytes.ensures.value ∙ c.format.ensures.text ∙ ap decimal c.number.ensures in
    rw (c.in_ok-push_sorted.ensures, c.in_ok-extend_from_slice.ensures.items, c.in_ok-push.ensures.items, digits)
    (append_assoc (before ++ 35 ∷ []) (decimal (number order x)) (text_of (sorted d names [] x.sort))
    ∙ append_assoc before (35 ∷ []) (decimal (number order x) ++ text_of (sorted d names [] x.sort))
    ∙ ap (λ t. before ++ t) (sorted-behind d names (new_name order x) x.sort))
