-- What answers a question.
use Rattle.std.specs.Prelude.{◌≡◌, ◌⊎◌, ℕ, List, Option}
use Rattle.fvn_verify.specs.declared.verdict.Verdict.{Verdict}
use Rattle.fvn_weights.specs.declared.fault.WeighFault.{WeighFault}
use Rattle.fvn_module.specs.Contents.{Contents}
use Rattle.fvn_module_loading.specs.Losses.{IsLossOf}
use Rattle.fvn_cmd.specs.declared.status.Status.{Status}
use Rattle.fvn_cmd.specs.declared.status.Status.TheVariants.{Solved}
use Rattle.fvn_cmd_laws.specs.CmdCheckChecks.{told_lines}
use Rattle.fvn_cmd_terminates.specs.Weighings.{status_of_weighing, IsWeighed, IsWeighingLine}
use Rattle.fvn_cmd_laws.specs.CmdVerifyVerdicts.{status_of_verdict, IsVerdictText, IsVerdictOn}
use Rattle.fvn_cmd.specs.Ends.{status_of_end}
use Rattle.fvn_cmd_laws.specs.CmdUnifyEnds.{StaysWithinBounds}
use Rattle.fvn_cmd_laws.specs.CmdUnifySolutions.{Found, IsWhole, IsSolution, Shows}
use Rattle.fvn_cmd_laws.specs.CmdVariantsSolutions as of_terms
use Rattle.fvn_cmd_laws.specs.CmdVunifySolutions as modulo
use Rattle.fvn_cmd_work.specs.Replies.{ShowsEnd}
use Rattle.fvn_cmd_laws.specs.Verified.{IsDecided, AllStayWithin}
use Rattle.fvn_tool.specs.Words.{Command}
use Rattle.fvn_tool.specs.Asked.{Question, summary, unifiers, verdict, termination, term_variants, theory_unifiers, count, Asked, IsAsked, IsRefused}

-- what a question is answered with: the first equation that loses a sort, if one does; unifiers and the end of the search
-- for them; a verdict; the first fault of weights, if they have one; or an exploration, and what was solved in it
abbrev pub AnswerTo : Question → Type 0
AnswerTo summary = Option ℕ
AnswerTo (unifiers p) = Found
AnswerTo (verdict p b steps) = Verdict
AnswerTo (termination w) = Option WeighFault
AnswerTo (term_variants t reach) = of_terms.Found
AnswerTo (theory_unifiers p reach) = modulo.Found
AnswerTo (count p) = Found

-- the status that goes with an answer
abbrev pub status_of : (q : Question) → AnswerTo q → Status
status_of summary loss = Solved
status_of (unifiers p) found = status_of_end found.end
status_of (verdict p b steps) v = status_of_verdict v
status_of (termination w) found = status_of_weighing found
status_of (term_variants t reach) found = status_of_end (of_terms.end_of reach found)
status_of (theory_unifiers p reach) found = status_of_end (modulo.end_of reach found)
status_of (count p) found = status_of_end found.end

module _ (m : Contents) where
  -- of the module, the answer is right
  abbrev pub IsRight : (q : Question) → AnswerTo q → Type 0
  IsRight summary loss = IsLossOf m loss
  IsRight (unifiers p) found = IsSolution m p found
  IsRight (verdict p b steps) v = IsVerdictOn m steps p b v
  IsRight (termination w) found = IsWeighed m w found
  IsRight (term_variants t reach) found = of_terms.IsSolution m t reach found
  IsRight (theory_unifiers p reach) found = modulo.IsSolution m p reach found
  IsRight (count p) found = IsSolution m p found

  -- the text shows the answer
  abbrev pub IsShownBy : (q : Question) → AnswerTo q → List ℕ → Type 0
  IsShownBy summary loss text = text ≡ told_lines m loss
  IsShownBy (unifiers p) found text = Shows m p found text
  IsShownBy (verdict p b steps) v text = IsVerdictText m steps v text
  IsShownBy (termination w) found text = IsWeighingLine m found text
  IsShownBy (term_variants t reach) found text = of_terms.Shows m t reach found text
  IsShownBy (theory_unifiers p reach) found text = modulo.Shows m p reach found text
  IsShownBy (count p) found text = ShowsEnd m found.end text

  -- where no bound is met on the way, none ended the answer
  abbrev pub IsWholeUnlessBound : (q : Question) → AnswerTo q → Type 0
  IsWholeUnlessBound summary loss = Unit {0}
  IsWholeUnlessBound (unifiers p) found = StaysWithinBounds m p → IsWhole found
  IsWholeUnlessBound (verdict p b steps) v = AllStayWithin m p b steps → IsDecided v
  IsWholeUnlessBound (termination w) found = Unit {0}
  IsWholeUnlessBound (term_variants t reach) found = of_terms.StaysWithinBounds m t reach found → of_terms.IsWhole found
  IsWholeUnlessBound (theory_unifiers p reach) found = modulo.StaysWithinBounds m p reach found → modulo.IsSolvedWhole found
  IsWholeUnlessBound (count p) found = StaysWithinBounds m p → IsWhole found

-- This status and this text answer what is asked: there is a right answer, the status is its own, the text shows it, and
-- where no bound is met, none ended it.
pub record Answers (a : Asked) (status : Status) (text : List ℕ) : Type 0 where
  pub answer : AnswerTo a.question
  pub right : IsRight a.contents a.question answer
  pub status_is : status ≡ status_of a.question answer
  pub shown : IsShownBy a.contents a.question answer text
  pub whole : IsWholeUnlessBound a.contents a.question answer

-- this status and this text answer some question that the command asks of the bytes
abbrev pub IsAnswered : List ℕ → Command → Status → List ℕ → Type 0
IsAnswered bytes command status text = (a : Asked) × (IsAsked bytes command a × Answers a status text)

-- this status and this text reply to a command over the bytes of a module: they refuse, or else they answer
abbrev pub IsReply : List ℕ → Command → Status → List ℕ → Type 0
IsReply bytes command status text = IsRefused bytes command status text ⊎ IsAnswered bytes command status text
