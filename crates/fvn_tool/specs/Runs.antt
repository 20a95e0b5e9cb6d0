-- A run of the program as it is seen from outside.
use Rattle.std.specs.Prelude.{ℕ, List, Option}
use Rattle.fvn_outside.specs.Faults.{Rose}
use Rattle.fvn_outside.specs.Sink.{Appends, AppendsPart}
use Rattle.fvn_cmd.specs.declared.status.Status.{Status}
use Rattle.fvn_cmd.specs.declared.status.Status.TheVariants.{Solved, Nothing, Usage, ModuleRefused, ProblemRefused, Ended, ReadFault, WriteFault, NoMemory}

-- What a source or a sink shows before a run and after it: its bytes, where it tells them, and its count of faults.
-- The bytes of a source are those that it has left, the bytes of a sink those that were written.
pub record Outside : Type 0 where
  pub before : Option (List ℕ)
  pub after : Option (List ℕ)
  pub faults_before : ℕ
  pub faults_after : ℕ

-- what these two views show of an old and a new state
abbrev pub seen : {T : Type 0} → (T → Option (List ℕ)) → (T → ℕ) → T → T → Outside
seen bytes faults old new = record { before = bytes old; after = bytes new; faults_before = faults old; faults_after = faults new }

-- it has failed meanwhile, as its count of faults says
abbrev pub HasFailed : Outside → Type 0
HasFailed place = Rose place.faults_before place.faults_after

-- the words of the command line, the source, the status that the run ends with, and the sink
pub record Run : Type 0 where
  pub words : List (List ℕ)
  pub source : Outside
  pub status : Status
  pub sink : Outside

-- some text that goes with the status was written whole
pub record WritesWhole (Goes : Status → List ℕ → Type 0) (status : Status) (sink : Outside) : Type 0 where
  pub text : List ℕ
  pub goes : Goes status text
  pub written : Appends sink.before sink.after text

-- a front of some text that goes with some status was written
pub record WritesPart (Goes : Status → List ℕ → Type 0) (sink : Outside) : Type 0 where
  pub meant : Status
  pub text : List ℕ
  pub goes : Goes meant text
  pub written : AppendsPart sink.before sink.after text

-- What a run with this status leaves at the sink, where `Goes` says which text goes with which status:
-- that text, or at a failed write a front of it. Of the statuses without a text it says nothing.
abbrev pub Leaves : (Status → List ℕ → Type 0) → Status → Outside → Type 0
Leaves Goes Solved sink = WritesWhole Goes Solved sink
Leaves Goes Nothing sink = WritesWhole Goes Nothing sink
Leaves Goes Usage sink = WritesWhole Goes Usage sink
Leaves Goes ModuleRefused sink = WritesWhole Goes ModuleRefused sink
Leaves Goes ProblemRefused sink = WritesWhole Goes ProblemRefused sink
Leaves Goes Ended sink = WritesWhole Goes Ended sink
Leaves Goes WriteFault sink = WritesPart Goes sink
Leaves Goes ReadFault sink = Unit {0}
Leaves Goes NoMemory sink = Unit {0}
