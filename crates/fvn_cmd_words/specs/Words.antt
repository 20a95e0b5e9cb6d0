-- The words of the command line: which of them are which command.
use Rattle.std.specs.Prelude.{◌≡◌, ◌≤◌, ◌⊎◌, ℕ, Bool, false, ◌+◌, ◌*◌, ◌-◌, nat_eq, List, [], ◌∷◌, ◌++◌, codes, length, Contains}
use Rattle.std.specs.List.{AllByRecursion}
use Rattle.fvn_cmd_words.specs.declared.limits.TheConstants.{LEVELS, MOST_LEVELS, VARIANTS, MOST_VARIANTS, STEPS, MOST_STEPS, USUAL_WORKERS, MOST_WORKERS, LEAST_WORK, MOST_WORK}
use Rattle.fvn_cmd_words.specs.declared.options.OptionName.{OptionName}
use Rattle.fvn_cmd_words.specs.declared.options.OptionName.TheVariants.{Levels, Variants, Steps, Workers}
use Rattle.fvn_cmd_words.specs.declared.reach.Reach.{Reach}

-- the bytes of a word
abbrev pub Word : Type 0
Word = List ℕ

-- what the program is asked to do
pub data Command : Type 0 where
  check : Command
  unify : (problem : Word) → Command
  verify : (problem bindings : Word) (steps : ℕ) → Command
  terminates : (weights : Word) → Command
  variants : (term : Word) (reach : Reach) (workers : ℕ) → Command
  vunify : (problem : Word) (reach : Reach) (workers : ℕ) → Command
  work : (number : ℕ) → Command

-- whether the word begins with a dash and is longer than the dash
abbrev pub is_dashed : Word → Bool
is_dashed [] = false
is_dashed (byte ∷ []) = false
is_dashed (byte ∷ other ∷ bytes) = nat_eq byte 45

-- a decimal digit
abbrev pub IsDigit : ℕ → Type 0
IsDigit byte = (48 ≤ byte) × (byte ≤ 57)

-- the number that decimal digits spell behind those of n
abbrev pub spelled_behind : ℕ → Word → ℕ
spelled_behind n [] = n
spelled_behind n (byte ∷ bytes) = spelled_behind (10 * n + (byte - 48)) bytes

-- the word is one to nine decimal digits that spell n
pub record IsNumber (word : Word) (n : ℕ) : Type 0 where
  pub digits : AllByRecursion IsDigit word
  pub some : 1 ≤ length word
  pub short : length word ≤ 9
  pub number_is : n ≡ spelled_behind 0 word

-- how an option is written
abbrev pub spelled : OptionName → Word
spelled Levels = codes "--levels"
spelled Variants = codes "--variants"
spelled Steps = codes "--steps"
spelled Workers = codes "--workers"

-- options with their numbers, in the order of the words
abbrev pub Options : Type 0
Options = List (OptionName × ℕ)

-- The words are these operands and options, in any order: an option and its number stand in two words, or in one with `=`
-- between; behind a word `--` each word is an operand, and before it none that begins with a dash and is longer.
pub data AreArguments : List Word → List Word → Options → Type 0 where
  none : AreArguments [] [] []
  ended : {words : List Word} → AreArguments (codes "--" ∷ words) words []
  operand : {word : Word} {words operands : List Word} {options : Options}
      → is_dashed word ≡ false → AreArguments words operands options
      → AreArguments (word ∷ words) (word ∷ operands) options
  in_two : {x : OptionName} {number : Word} {n : ℕ} {words operands : List Word} {options : Options}
      → IsNumber number n → AreArguments words operands options
      → AreArguments (spelled x ∷ number ∷ words) operands ((x, n) ∷ options)
  in_one : {x : OptionName} {number : Word} {n : ℕ} {words operands : List Word} {options : Options}
      → IsNumber number n → AreArguments words operands options
      → AreArguments ((spelled x ++ codes "=" ++ number) ∷ words) operands ((x, n) ∷ options)

-- the number that an option has where it does not stand
abbrev pub usual : OptionName → ℕ
usual Levels = LEVELS
usual Variants = VARIANTS
usual Steps = STEPS
usual Workers = USUAL_WORKERS

-- the greatest number that an option takes
abbrev pub most : OptionName → ℕ
most Levels = MOST_LEVELS
most Variants = MOST_VARIANTS
most Steps = MOST_STEPS
most Workers = MOST_WORKERS

-- the option is none of these
abbrev pub IsNoneOf : OptionName → Options → Type 0
IsNoneOf x list = (n : ℕ) → Contains list (x, n) → ⊥

-- the option stands once, with this number, which is in its range
pub record StandsOnce (options : Options) (x : OptionName) (n : ℕ) : Type 0 where
  pub before : Options
  pub after : Options
  pub split : options ≡ before ++ (x, n) ∷ after
  pub none_before : IsNoneOf x before
  pub none_after : IsNoneOf x after
  pub low : 1 ≤ n
  pub high : n ≤ most x

-- the option has this number: it stands once with it, or does not stand, and the number is the usual one
abbrev pub IsSet : Options → OptionName → ℕ → Type 0
IsSet options x n = StandsOnce options x n ⊎ (IsNoneOf x options × (n ≡ usual x))

-- no other option stands than `--steps`
abbrev pub HaveStepsAlone : Options → Type 0
HaveStepsAlone options = (x : OptionName) (n : ℕ) → Contains options (x, n) → x ≡ Steps

-- the options of a search for variants
pub record AreOptionsOf (options : Options) (reach : Reach) (workers : ℕ) : Type 0 where
  pub levels : IsSet options Levels reach.levels
  pub kept : IsSet options Variants reach.variants
  pub steps : IsSet options Steps reach.steps
  pub workers_are : IsSet options Workers workers

-- the words are the name of a command, and arguments
pub record AreCalled (name : Word) (words operands : List Word) (options : Options) : Type 0 where
  pub rest : List Word
  pub words_are : words ≡ name ∷ rest
  pub arguments : AreArguments rest operands options

-- a search for variants is asked for under this name, with one operand and so many workers
pub record IsSearchBy (name : Word) (words : List Word) (word : Word) (reach : Reach) (workers : ℕ) : Type 0 where
  pub options : Options
  pub called : AreCalled name words (word ∷ []) options
  pub options_are : AreOptionsOf options reach workers

-- the words are this command
abbrev pub IsCommand : List Word → Command → Type 0
IsCommand words check = AreCalled (codes "check") words [] []
IsCommand words (unify problem) = AreCalled (codes "unify") words (problem ∷ []) []
IsCommand words (verify problem bindings steps) =
    (options : Options) × AreCalled (codes "verify") words (problem ∷ bindings ∷ []) options
    × HaveStepsAlone options × IsSet options Steps steps
IsCommand words (terminates weights) = AreCalled (codes "terminates") words (weights ∷ []) []
IsCommand words (variants term reach workers) = IsSearchBy (codes "variants") words term reach workers
IsCommand words (vunify problem reach workers) = IsSearchBy (codes "vunify") words problem reach workers
IsCommand words (work n) =
    (word : Word) × AreCalled (codes "work") words (word ∷ []) [] × IsNumber word n
    × (LEAST_WORK ≤ n) × (n ≤ MOST_WORK)

-- the words are no command
abbrev pub AreNoCommand : List Word → Type 0
AreNoCommand words = (command : Command) → IsCommand words command → ⊥
