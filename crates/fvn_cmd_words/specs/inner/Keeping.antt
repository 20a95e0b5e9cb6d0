-- What the reader keeps of the words behind the name: the places of two operands at most, and a number for each option.
use Rattle.std.specs.Prelude.{◌≡◌, ◌<◌, ℕ, Bool, false, if◌then◌else◌, List, [], ◌∷◌, Option, Some, None, is_some, is_none, option_map, length}
use Rattle.fvn_cmd_words.specs.declared.options.OptionName.{OptionName}
use Rattle.fvn_cmd_words.specs.declared.options.OptionName.TheVariants.{Levels, Variants, Steps, Workers}
use Rattle.fvn_cmd_words.specs.declared.options.Settings.{Settings}
use Rattle.fvn_cmd_words.specs.declared.kinds.Mode.TheVariants.{Usual}
use Rattle.fvn_cmd_words.specs.declared.kinds.Next.{Next}
use Rattle.fvn_cmd_words.specs.declared.kinds.Next.TheVariants.{Operand, Set, To, Wrong}
use Rattle.fvn_cmd_words.specs.declared.reading.Places.{Places}
use Rattle.fvn_cmd_words.specs.declared.reading.Places.TheVariants.{Zero, One, Two}
use Rattle.fvn_cmd_words.specs.declared.reading.State.{State}
use Rattle.fvn_cmd_words.specs.Words.{Word}
use Rattle.fvn_cmd_words.specs.inner.Reading.{settled, Standing, at_end, command_from, command_of, word_at}

-- the number that the option is set to
abbrev pub told : OptionName → Settings → Option ℕ
told Levels set = set.levels
told Variants set = set.variants
told Steps set = set.steps
told Workers set = set.workers

-- the settings with this one
abbrev pub with_set : OptionName → ℕ → Settings → Settings
with_set Levels n set = record { levels = Some n; variants = set.variants; steps = set.steps; workers = set.workers }
with_set Variants n set = record { levels = set.levels; variants = Some n; steps = set.steps; workers = set.workers }
with_set Steps n set = record { levels = set.levels; variants = set.variants; steps = Some n; workers = set.workers }
with_set Workers n set = record { levels = set.levels; variants = set.variants; steps = set.steps; workers = Some n }

-- the same where the option was not set before; nothing for a second one
abbrev pub set_first : Option ℕ → OptionName → ℕ → Settings → Option Settings
set_first None x n set = Some (with_set x n set)
set_first (Some m) x n set = None

-- the settings with one more; nothing for the second of its name
abbrev pub set_once : OptionName → ℕ → Settings → Option Settings
set_once x n set = set_first (told x set) x n set

-- whether no option is set
abbrev pub is_bare_set : Settings → Bool
is_bare_set set =
    if is_some set.levels then false
    else (if is_some set.variants then false else (if is_some set.steps then false else is_none set.workers))

-- whether no other option than `--steps` is set
abbrev pub is_steps_alone : Settings → Bool
is_steps_alone set =
    if is_some set.levels then false else (if is_some set.variants then false else is_none set.workers)

-- the number that the option has
abbrev pub setting_in : OptionName → Settings → Option ℕ
setting_in x set = settled x (told x set)

-- what a command asks of options
abbrev pub standing_in : Settings → Standing
standing_in set = record {
  bare = is_bare_set set;
  steps_alone = is_steps_alone set;
  levels = setting_in Levels set;
  kept = setting_in Variants set;
  steps = setting_in Steps set;
  workers = setting_in Workers set;
}

-- the operands at these places
abbrev pub operands_of : List Word → Places → List Word
operands_of words Zero = []
operands_of words (One i) = word_at words i ∷ []
operands_of words (Two i j) = word_at words i ∷ word_at words j ∷ []

-- each place is below this number
abbrev pub AreBelow : ℕ → Places → Type 0
AreBelow most Zero = Unit {0}
AreBelow most (One i) = i < most
AreBelow most (Two i j) = (i < most) × (j < most)

-- one operand more; nothing for a third
abbrev pub with_place : ℕ → Places → Option Places
with_place i Zero = Some (One i)
with_place i (One first) = Some (Two first i)
with_place i (Two first second) = None

-- what is kept behind one more word, which stands at this place
abbrev pub taken : Next → ℕ → State → Option State
taken Operand i s = option_map (λ places. record { mode = s.mode; operands = places; set = s.set }) (with_place i s.operands)
taken (Set x n) i s = option_map (λ set. record { mode = Usual; operands = s.operands; set = set }) (set_once x n s.set)
taken (To other) i s = Some (record { mode = other; operands = s.operands; set = s.set })
taken Wrong i s = None

-- what is kept, if the words may end here
abbrev pub ClosedAs : State → Option State → Type 0
ClosedAs s None = at_end s.mode ≡ None
ClosedAs s (Some t) = (at_end s.mode ≡ Some ([], [])) × (t ≡ s)

-- what is kept of the words behind the name decides which command they are; where nothing is, they are none
abbrev pub ReadAs : List Word → Option State → Type 0
ReadAs words None = command_of words ≡ None
ReadAs words (Some s) =
    AreBelow (length words) s.operands
    × (command_of words ≡ command_from (word_at words 0) (operands_of words s.operands) (standing_in s.set))
