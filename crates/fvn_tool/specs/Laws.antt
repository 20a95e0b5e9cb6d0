-- Laws of words, of questions and of outcomes.
use Rattle.std.specs.Prelude.{◌≡◌, ◌⊎◌, ℕ, List, Some, Option}
use Rattle.fvn_module.specs.Contents.{Contents}
use Rattle.fvn_module_loading.specs.Loading.{IsLoaded, AreNotLoaded}
use Rattle.fvn_module_loading.specs.Losses.{IsLossOf}
use Rattle.fvn_cmd.specs.declared.status.Status.{Status}
use Rattle.fvn_cmd.specs.declared.status.Status.TheVariants.{Solved, ModuleRefused, ProblemRefused}
use Rattle.fvn_cmd.specs.Texts.{Is}
use Rattle.fvn_cmd.specs.Asking.{AllStand}
use Rattle.fvn_cmd.specs.Refusing.{IsFirstRefusal, IsFirstWordRefusal}
use Rattle.fvn_cmd_laws.specs.CmdCheckChecks.{told_lines}
use Rattle.fvn_cmd_laws.specs.CmdUnifyReplies.{IsAnswer}
use Rattle.fvn_answer.specs.declared.end.End.TheVariants.{Complete}
use Rattle.fvn_cmd_work.specs.Replies.{IsCount}
use Rattle.fvn_cmd_laws.specs.Unified.{IsNothingExact, HasFewUnifiers, IsCountOfUnifiers}
use Rattle.fvn_cmd_laws.specs.CmdUnifySolutions.{IsWhole}
use Rattle.fvn_cmd_laws.specs.Verified.{AreOneIfConfluent, IsVerdictExact}
use Rattle.fvn_cmd_laws.specs.Weighed.{IsWeighingExact}
use Rattle.fvn_cmd_laws.specs.Explored.{IsVariantsExact, IsTheoryExact}
use Rattle.fvn_cmd_laws.specs.CmdVariantsReplies as of_terms
use Rattle.fvn_cmd_laws.specs.CmdVunifyReplies as modulo
use Rattle.fvn_tool.specs.Words.{Command, IsCommand, text_for}
use Rattle.fvn_tool.specs.Asked.{Question, summary, unifiers, verdict, termination, term_variants, theory_unifiers, count, Asked, words_of, IsShort, IsAsked, IsRefused}
use Rattle.fvn_tool.specs.Answered.{Answers}
use Rattle.fvn_tool.specs.Runs.{Outside}
use Rattle.fvn_tool.specs.Outcomes.{IsOutcome}

-- Words are one command at most.
abbrev pub WordsAreOneCommand : Type 0
WordsAreOneCommand =
    (words : List (List ℕ)) (c d : Command) → IsCommand words c → IsCommand words d → c ≡ d

-- For all commands at once: a command asks one question at most of some bytes, is refused with one text at most, and not
-- both.
pub record QuestionsAreDetermined : Type 0 where
  pub one_question : (bytes : List ℕ) (command : Command) (a b : Asked) →
      IsAsked bytes command a → IsAsked bytes command b → a ≡ b
  pub one_refusal : (bytes : List ℕ) (command : Command) (s : Status) (t : List ℕ) → IsRefused bytes command s t →
      (u : Status) (v : List ℕ) → IsRefused bytes command u v → Is s t u v
  pub not_both : (bytes : List ℕ) (command : Command) (a : Asked) → IsAsked bytes command a →
      (s : Status) (t : List ℕ) → IsRefused bytes command s t → ⊥

-- What a refusal says: at ModuleRefused the bytes are too many or not loaded; at ProblemRefused a word of the command is
-- not what it should be in the module as which they are loaded; and bytes that are not loaded, and else such words, are
-- refused with the line of their first fault.
pub record IsRefusedRightly (bytes : List ℕ) (command : Command) (status : Status) (text : List ℕ) : Type 0 where
  pub module_only : status ≡ ModuleRefused → (IsShort bytes → ⊥) ⊎ (IsShort bytes × AreNotLoaded bytes)
  pub words_only : status ≡ ProblemRefused →
      IsShort bytes × ((m : Contents) × (IsLoaded bytes m × (AllStand m (words_of command) → ⊥)))
  pub not_loaded : IsShort bytes → AreNotLoaded bytes → (status ≡ ModuleRefused) × IsFirstRefusal bytes text
  pub no_words : IsShort bytes → (m : Contents) → IsLoaded bytes m →
      (status ≡ ProblemRefused) × IsFirstWordRefusal bytes (words_of command) text

-- Refusals say what is so.
abbrev pub RefusalsAreRight : Type 0
RefusalsAreRight =
    (bytes : List ℕ) (command : Command) (s : Status) (t : List ℕ) → IsRefused bytes command s t →
    IsRefusedRightly bytes command s t

-- What an answer says of a question: of sorts, the lines that are right; of unifiers, that there are none exactly at
-- Nothing, and all where no bound is met; of bindings, whether they solve the problem; of weights, whether they show that
-- the equations terminate; of variants and of unifiers in a theory, what the status tells of the end of the search; of a
-- number of unifiers, what is said of these, and that each complete set of which none is an instance of another has so many.
abbrev pub SaysExactly : Contents → Question → Status → List ℕ → Type 0
SaysExactly m summary s t = (loss : Option ℕ) → IsLossOf m loss → Is Solved (told_lines m loss) s t
SaysExactly m (unifiers p) s t =
    (a : IsAnswer m p s t) × (IsNothingExact m p s a.found × (HasFewUnifiers m p → IsWhole a.found))
SaysExactly m (verdict p b steps) s t = IsVerdictExact m p b steps s t
SaysExactly m (termination w) s t = IsWeighingExact m w s
SaysExactly m (term_variants q reach) s t =
    (a : of_terms.IsAnswer m q reach s t) × IsVariantsExact s a.found
SaysExactly m (theory_unifiers p reach) s t =
    (a : modulo.IsAnswer m p reach s t) × IsTheoryExact m p s a.found
SaysExactly m (count p) s t =
    (a : IsCount m p s t) × (IsNothingExact m p s a.found × (HasFewUnifiers m p → IsWhole a.found)
    × ((n : ℕ) → a.found.end ≡ Complete n → IsCountOfUnifiers m p n))

-- Answers say what is so.
abbrev pub AnswersSayExactly : Type 0
AnswersSayExactly =
    (a : Asked) (s : Status) (t : List ℕ) → Answers a s t → SaysExactly a.contents a.question s t

-- Two answers to a question agree: of sorts and of weights they are one; of unifiers and of variants each may give any set
-- that is right, or meet any bound; verdicts are one where the equations are confluent and neither ended at a bound, since
-- a side may have a short way to a normal form and a long sequence besides; numbers of unifiers are one where both are told.
abbrev pub AgreeOn : Contents → Question → Status → List ℕ → Status → List ℕ → Type 0
AgreeOn m summary s t u v = Is s t u v
AgreeOn m (unifiers p) s t u v = Unit {0}
AgreeOn m (verdict p b steps) s t u v = AreOneIfConfluent m s t u v
AgreeOn m (termination w) s t u v = Is s t u v
AgreeOn m (term_variants q reach) s t u v = Unit {0}
AgreeOn m (theory_unifiers p reach) s t u v = Unit {0}
AgreeOn m (count p) s t u v = s ≡ Solved → u ≡ Solved → Is s t u v

-- both answer what these words ask of these bytes, and agree
pub record AgreeAsAnswers (words : List (List ℕ)) (bytes : List ℕ) (s : Status) (t : List ℕ) (u : Status) (v : List ℕ) : Type 0 where
  pub command : Command
  pub command_is : IsCommand words command
  pub asked : Asked
  pub is_asked : IsAsked (text_for command bytes) command asked
  pub first : Answers asked s t
  pub second : Answers asked u v
  pub agree : AgreeOn asked.contents asked.question s t u v

-- Words and the bytes of a source have at most one outcome, one status and one text to the last byte, but for answers to
-- one question that agree.
abbrev pub OutcomesAreDetermined : Type 0
OutcomesAreDetermined =
    (words : List (List ℕ)) (bytes : List ℕ) (source other : Outside) → source.before ≡ Some bytes → other.before ≡ Some bytes →
    (s : Status) (t : List ℕ) → IsOutcome words source s t → (u : Status) (v : List ℕ) → IsOutcome words other u v →
    Is s t u v ⊎ AgreeAsAnswers words bytes s t u v
