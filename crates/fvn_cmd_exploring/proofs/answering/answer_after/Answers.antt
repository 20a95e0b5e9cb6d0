-- The lines, and the end that is told after so many.
use Rattle.std.proofs.Common.{◌≡◌, length, sym, ap, ◌∙◌, subst}
use Rattle.std.proofs.lemmas.List.{length-map}
use Rattle.fvn_answer.specs.Answers.{FitsEnd, IsAnswerText}
use Rattle.fvn_answer.specs.Writing.{bytes_of as lines_in}
use Rattle.fvn_cmd.specs.Ends.{status_of_end}
use Rattle.fvn_cmd_exploring.specs.Ends.{end_told}
use Rattle.fvn_cmd_exploring.proofs.answering.answer_after.Goals as goal

pub answer_text-requires : goal.answer_text-requires
answer_text-requires c =
    record { end = subst (FitsEnd c.args.search.now.declared.now.signature) (sym c.in_ok-told.ensures) (c.requires c.in_ok-loss.loss _) }

pub returns : goal.returns
returns c =
    let m = c.args.search.now.declared.now in
    let lines = c.args.lines.items in
    let as_many : length c.as_slice-count.result.now ≡ length (lines_in lines) = ap length c.as_slice-count.ensures.value ∙ sym (length-map lines (λ v. v.items)) in
    let told_is : c.in_ok-told.told ≡ end_told c.args.search.now.reach c.args.end.now c.in_ok-loss.loss (length (lines_in lines)) = c.in_ok-told.ensures ∙ ap (λ n. end_told c.args.search.now.reach c.args.end.now c.in_ok-loss.loss n) as_many in
    record {
      loss = c.in_ok-loss.loss;
      loss_is = c.in_ok-loss.ensures;
      shown = subst (λ e. IsAnswerText m.signature m.names (lines_in lines) e c.in_ok-text.text.items) told_is c.in_ok-text.ensures;
      status_is = c.status_of_end.ensures ∙ ap status_of_end told_is;
    }
