-- What is promised of a run.
use Rattle.std.specs.Prelude.{◌≡◌, ◌<◌, ◌⊎◌, ℕ, List, Some}
use Rattle.fvn_cmd.specs.declared.status.Status.TheVariants.{Usage, ReadFault, WriteFault, NoMemory}
use Rattle.fvn_cmd.specs.Statuses.{IsSilent, IsSpoken, IsAnswering, IsRefusing}
use Rattle.fvn_cmd.specs.Texts.{Is}
use Rattle.fvn_tool.specs.Words.{Command, work, IsCommand, AreNoCommand, ReadsModule, ReadNothing, text_for}
use Rattle.fvn_tool.specs.Runs.{Run, Leaves, HasFailed}
use Rattle.fvn_tool.specs.Asked.{Asked, IsAsked, AsksNothing, IsRefused}
use Rattle.fvn_tool.specs.Answered.{Answers}
use Rattle.fvn_tool.specs.Outcomes.{usage_line, IsOutcome}

-- the words are refused exactly where they are no command; then nothing else can come but a failed write
pub record RefusesWords (run : Run) : Type 0 where
  pub only : run.status ≡ Usage → AreNoCommand run.words
  pub always : AreNoCommand run.words → (run.status ≡ Usage) ⊎ (run.status ≡ WriteFault)
  pub text : AreNoCommand run.words → Leaves (Is Usage usage_line) run.status run.sink

-- the words are this command, and where it reads, the source told these bytes
pub record Asks (run : Run) (command : Command) (bytes : List ℕ) : Type 0 where
  pub command_is : IsCommand run.words command
  pub told : ReadsModule command → run.source.before ≡ Some bytes

-- What a run of a command about the text of a module leaves: a refusal exactly where nothing is asked, with the line of the
-- first fault, and else an answer to what is asked.
pub record AnswersCommand (run : Run) (command : Command) (bytes : List ℕ) : Type 0 where
  pub refused : AsksNothing bytes command → Leaves (IsRefused bytes command) run.status run.sink
  pub refused_only : IsRefusing run.status → AsksNothing bytes command
  pub answered : (a : Asked) → IsAsked bytes command a → Leaves (Answers a) run.status run.sink
  pub answered_only : IsAnswering run.status → (a : Asked) × IsAsked bytes command a

-- All that is promised of a run.
pub record IsReport (run : Run) : Type 0 where
  -- one text of one outcome is written, whole, or at a failed write a front of it
  pub outcome : Leaves (IsOutcome run.words run.source) run.status run.sink
  -- only for a command that reads is anything read, and without a text nothing is written
  pub unread : ReadNothing run.words → run.source.after ≡ run.source.before
  pub unwritten : IsSilent run.status → run.sink.after ≡ run.sink.before
  -- faults come only from the outside, and where the source or the sink counted one, the status says so
  pub read_fault : run.status ≡ ReadFault → HasFailed run.source
  pub write_fault : run.status ≡ WriteFault → HasFailed run.sink
  pub failed_read : run.source.faults_before < run.source.faults_after → run.status ≡ ReadFault
  pub failed_write : run.sink.faults_before < run.sink.faults_after → run.status ≡ WriteFault
  -- where nothing outside fails, a text is written whole, or the status says that memory was refused
  pub written : (HasFailed run.source → ⊥) → (HasFailed run.sink → ⊥) →
      (run.status ≡ NoMemory) ⊎ IsSpoken run.status
  -- words that are no command
  pub usage : RefusesWords run
  -- `work` is refused nothing: what it asks is made by the program
  pub made : (number : ℕ) → IsCommand run.words (work number) → IsSpoken run.status → IsAnswering run.status
  -- what each command answers
  pub answers : (command : Command) (bytes : List ℕ) → Asks run command bytes →
      AnswersCommand run command (text_for command bytes)
