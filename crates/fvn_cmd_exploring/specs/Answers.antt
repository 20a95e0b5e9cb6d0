-- What answers over an exploration: lines, and how it ended.
use Rattle.std.specs.Prelude.{◌≡◌, ℕ, List, length, Option}
use Rattle.fvn_syntax.specs.Pieces.{Text}
use Rattle.fvn_module.specs.Contents.{Contents}
use Rattle.fvn_module_loading.specs.Losses.{IsLossOf}
use Rattle.fvn_exploring.specs.declared.ends.ExploreEnd.{ExploreEnd}
use Rattle.fvn_exploring.specs.declared.ends.ExploreEnd.TheVariants.{Complete}
use Rattle.fvn_answer.specs.Answers.{FitsEnd, IsAnswerText}
use Rattle.fvn_cmd.specs.declared.status.Status.{Status}
use Rattle.fvn_cmd.specs.Ends.{status_of_end}
use Rattle.fvn_cmd_words.specs.declared.reach.Reach.{Reach}
use Rattle.fvn_cmd_exploring.specs.Ends.{end_told}

module _ (m : Contents) (reach : Reach) (end : ExploreEnd) where
  -- whichever sort is lost, and however many lines there are, the end that is told can be written
  abbrev pub CanBeTold : Type 0
  CanBeTold = (loss : Option ℕ) (count : ℕ) → FitsEnd m.signature (end_told reach end loss count)

  -- The text shows these lines and the end that is told after them, and the status is that of the end; and where the
  -- exploration came to its end, the loss of a sort is right.
  pub record IsAnswerAfter (lines : List Text) (status : Status) (text : List ℕ) : Type 0 where
    pub loss : Option ℕ
    pub loss_is : end ≡ Complete → IsLossOf m loss
    pub shown : IsAnswerText m.signature m.names lines (end_told reach end loss (length lines)) text
    pub status_is : status ≡ status_of_end (end_told reach end loss (length lines))
