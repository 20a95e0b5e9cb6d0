-- What the words of a command ask of the text of a module, and what is refused.
use Rattle.std.specs.Prelude.{◌≡◌, ◌≤◌, ◌⊎◌, ℕ, List, [], length, codes}
use Rattle.fvn_base.specs.declared.limits.TheConstants.{MODULE_BYTES}
use Rattle.fvn_module.specs.Contents.{Contents}
use Rattle.fvn_module_loading.specs.Loading.{IsLoaded}
use Rattle.fvn_problems.specs.declared.problem.Problem.{Problem}
use Rattle.fvn_problems.specs.declared.bindings.Bindings.{Bindings}
use Rattle.fvn_problems.specs.declared.query.Query.{Query}
use Rattle.fvn_problems.specs.Queries.{IsQuery}
use Rattle.fvn_problems.specs.Problems.{IsProblem}
use Rattle.fvn_problems.specs.Bindings.{IsBindings}
use Rattle.fvn_weights.specs.declared.weights.Weights.{Weights}
use Rattle.fvn_weights_reading.specs.Reading.{IsWeights}
use Rattle.fvn_cmd.specs.declared.status.Status.{Status}
use Rattle.fvn_cmd.specs.declared.status.Status.TheVariants.{ModuleRefused}
use Rattle.fvn_cmd.specs.Texts.{line, Is}
use Rattle.fvn_cmd.specs.Asking.{Word}
use Rattle.fvn_cmd.specs.Refusing.{IsRefusal}
use Rattle.fvn_cmd_terminates.specs.Replies.{terminates_words}
use Rattle.fvn_cmd_laws.specs.CmdVerifyReplies.{verify_words}
use Rattle.fvn_cmd_laws.specs.CmdUnifyReplies.{unify_words}
use Rattle.fvn_cmd_words.specs.declared.reach.Reach.{Reach}
use Rattle.fvn_cmd_laws.specs.CmdVariantsReplies.{variants_words}
use Rattle.fvn_cmd_work.specs.Made.{work_problem}
use Rattle.fvn_cmd_work.specs.Replies.{work_words}
use Rattle.fvn_tool.specs.Words.{Command, check, unify, verify, terminates, variants, vunify, work}

-- a question about a module: how much it declares, the unifiers of a problem, whether bindings solve one, with a limit on
-- the steps from each side, whether weights show that its equations terminate, or, searched so far, the variants of a term
-- and the unifiers of a problem in the theory; or how many unifiers a problem has
pub data Question : Type 0 where
  summary : Question
  unifiers : (p : Problem) → Question
  verdict : (p : Problem) (b : Bindings) (steps : ℕ) → Question
  termination : (w : Weights) → Question
  term_variants : (t : Query) (reach : Reach) → Question
  theory_unifiers : (p : Problem) (reach : Reach) → Question
  count : (p : Problem) → Question

-- what is asked: a module, and a question about it
pub record Asked : Type 0 where
  pub contents : Contents
  pub question : Question

-- the words of a command that are read in a module, in the order in which they are read
abbrev pub words_of : Command → List Word
words_of check = []
words_of (unify problem) = unify_words problem
words_of (verify problem bindings steps) = verify_words problem bindings
words_of (terminates weights) = terminates_words weights
words_of (variants term reach) = variants_words term
words_of (vunify problem reach) = unify_words problem
words_of (work number) = work_words number

-- in the module, the command asks this question
abbrev pub IsQuestion : Contents → Command → Question → Type 0
IsQuestion m check q = q ≡ summary
IsQuestion m (unify problem) q = (p : Problem) × (IsProblem m.signature m.names problem p × (q ≡ unifiers p))
IsQuestion m (verify problem bindings steps) q =
    (p : Problem) × (b : Bindings)
    × (IsProblem m.signature m.names problem p × IsBindings m.signature m.names p bindings b × (q ≡ verdict p b steps))
IsQuestion m (terminates weights) q = (w : Weights) × (IsWeights m.signature m.names weights w × (q ≡ termination w))
IsQuestion m (variants term reach) q = (t : Query) × (IsQuery m.signature m.names term t × (q ≡ term_variants t reach))
IsQuestion m (vunify problem reach) q =
    (p : Problem) × (IsProblem m.signature m.names problem p × (q ≡ theory_unifiers p reach))
IsQuestion m (work number) q = (p : Problem) × (IsProblem m.signature m.names (work_problem number) p × (q ≡ count p))

-- a text of a module that is not too long
abbrev pub IsShort : List ℕ → Type 0
IsShort bytes = length bytes ≤ MODULE_BYTES

-- the line of a module whose text is too long
abbrev pub too_long_line : List ℕ
too_long_line = line (codes "module 14")

module _ (bytes : List ℕ) (command : Command) where
  -- the bytes are not too many, they are loaded as this module, and of it the command asks this question
  pub record IsAsked (a : Asked) : Type 0 where
    pub short : IsShort bytes
    pub loaded : IsLoaded bytes a.contents
    pub question_is : IsQuestion a.contents command a.question

  -- nothing is asked
  abbrev pub AsksNothing : Type 0
  AsksNothing = (a : Asked) → IsAsked a → ⊥

  -- this status and this text refuse the bytes, since they are too many or are not loaded, or else a word of the command
  abbrev pub IsRefused : Status → List ℕ → Type 0
  IsRefused status text =
      ((IsShort bytes → ⊥) × Is ModuleRefused too_long_line status text)
      ⊎ (IsShort bytes × IsRefusal bytes (words_of command) status text)
