-- The reader of the words of the command line, as a function.
use Rattle.std.specs.Prelude.{◌≡◌, ℕ, Bool, true, false, not, ◌&&◌, ◌+◌, ◌*◌, ◌-◌, nat_eq, nat_le, nat_lt, if◌then◌else◌, List, [], ◌∷◌, ◌++◌, take, drop, slice_index_or, Option, Some, None, option_map, codes, length}
use Rattle.std.specs.Cmp.Lexicographic.{pointwise}
use Rattle.fvn_cmd_words.specs.declared.limits.TheConstants.{LEAST_WORK, MOST_WORK}
use Rattle.fvn_cmd_words.specs.declared.options.OptionName.{OptionName}
use Rattle.fvn_cmd_words.specs.declared.options.OptionName.TheVariants.{Levels, Variants, Steps, Workers}
use Rattle.fvn_cmd_words.specs.declared.reach.Reach.{Reach}
use Rattle.fvn_cmd_words.specs.declared.kinds.Mode.{Mode}
use Rattle.fvn_cmd_words.specs.declared.kinds.Mode.TheVariants.{Usual, Value, Operands}
use Rattle.fvn_cmd_words.specs.declared.kinds.Next.{Next}
use Rattle.fvn_cmd_words.specs.declared.kinds.Next.TheVariants.{Operand, Set, To, Wrong}
use Rattle.fvn_cmd_words.specs.declared.command.Command.{Command as Told}
use Rattle.fvn_cmd_words.specs.Told.{meant, IsWithin}
use Rattle.fvn_cmd_words.specs.Words.{Word, Command, check, unify, verify, terminates, variants, vunify, work, is_dashed, spelled, usual, most, Options}

-- the number that decimal digits spell behind those of n, where all are digits
abbrev pub read_on : ℕ → Word → Option ℕ
read_on n [] = Some n
read_on n (byte ∷ bytes) = if nat_le 48 byte && nat_le byte 57 then read_on (10 * n + (byte - 48)) bytes else None

-- the number that one to nine decimal digits spell
unfoldable pub number_of : Word → Option ℕ
number_of word = if nat_le 1 (length word) && nat_le (length word) 9 then read_on 0 word else None

-- whether two options are one
abbrev pub same_name : OptionName → OptionName → Bool
same_name Levels Levels = true
same_name Levels Variants = false
same_name Levels Steps = false
same_name Levels Workers = false
same_name Variants Levels = false
same_name Variants Variants = true
same_name Variants Steps = false
same_name Variants Workers = false
same_name Steps Levels = false
same_name Steps Variants = false
same_name Steps Steps = true
same_name Steps Workers = false
same_name Workers Levels = false
same_name Workers Variants = false
same_name Workers Steps = false
same_name Workers Workers = true

-- the option that the word spells
abbrev pub name_of : Word → Option OptionName
name_of word =
    if pointwise nat_eq word (codes "--levels") then Some Levels
    else (if pointwise nat_eq word (codes "--variants") then Some Variants
    else (if pointwise nat_eq word (codes "--steps") then Some Steps
    else (if pointwise nat_eq word (codes "--workers") then Some Workers else None)))

-- an option with `=` behind it
abbrev pub opened : OptionName → Word
opened x = spelled x ++ codes "="

-- what stands behind an option and `=`
abbrev pub behind : OptionName → Word → Option Word
behind x word = if pointwise nat_eq (take (length (opened x)) word) (opened x) then Some (drop (length (opened x)) word) else None

-- the option is set to this number, if it is one
abbrev pub set_to : OptionName → Option ℕ → Next
set_to x None = Wrong
set_to x (Some n) = Set x n

-- the option is set to the number that is spelled behind it; else what comes for others
abbrev pub set_behind : OptionName → Option Word → Next → Next
set_behind x None other = other
set_behind x (Some number) other = set_to x (number_of number)

-- an option and its number in one word
abbrev pub joined_next : Word → Next
joined_next word =
    set_behind Levels (behind Levels word)
    (set_behind Variants (behind Variants word)
    (set_behind Steps (behind Steps word) (set_behind Workers (behind Workers word) Wrong)))

-- an option, whose number is the next word, or both in one word
abbrev pub named_next : Option OptionName → Word → Next
named_next None word = joined_next word
named_next (Some x) word = To (Value x)

-- what a word is, where neither a number is awaited nor `--` came
abbrev pub usual_next : Word → Next
usual_next word =
    if not (is_dashed word) then Operand
    else (if pointwise nat_eq word (codes "--") then To Operands else named_next (name_of word) word)

-- what a word is
abbrev pub next_of : Mode → Word → Next
next_of Usual word = usual_next word
next_of (Value x) word = set_to x (number_of word)
next_of Operands word = Operand

-- operands and options
abbrev pub Given : Type 0
Given = List Word × Options

-- with more of them before
abbrev pub before_all : List Word → Options → Option Given → Option Given
before_all operands options None = None
before_all operands options (Some g) = Some (operands ++ g.0, options ++ g.1)

-- the words may end here
abbrev pub at_end : Mode → Option Given
at_end Usual = Some ([], [])
at_end (Value x) = None
at_end Operands = Some ([], [])

-- one word, and what is read of the words behind it
abbrev pub going_on : Mode → Word → Next → (Mode → Option Given) → Option Given
going_on mode word Operand rest = before_all (word ∷ []) [] (rest mode)
going_on mode word (Set x n) rest = before_all [] ((x, n) ∷ []) (rest Usual)
going_on mode word (To other) rest = rest other
going_on mode word Wrong rest = None

-- the operands and options that the words are
abbrev pub arguments_of : List Word → Mode → Option Given
arguments_of [] mode = at_end mode
arguments_of (word ∷ words) mode = going_on mode word (next_of mode word) (arguments_of words)

-- an option more: another one, the first one of this name, or a second
abbrev pub one_more : Bool → Option ℕ → Option (Option ℕ) → Option (Option ℕ) → Option (Option ℕ)
one_more false found others first = others
one_more true None others first = first
one_more true (Some m) others first = None

-- the number with which the option stands, where it stands once or not at all, if one was found before
abbrev pub once : OptionName → Option ℕ → Options → Option (Option ℕ)
once x found [] = Some found
once x found (option ∷ options) = one_more (same_name option.0 x) found (once x found options) (once x (Some option.1) options)

-- the number in its range, or the usual one
abbrev pub settled : OptionName → Option ℕ → Option ℕ
settled x None = Some (usual x)
settled x (Some n) = if nat_lt n 1 then None else (if nat_lt (most x) n then None else Some n)

-- the same, where it stands once or not at all
abbrev pub settled_once : OptionName → Option (Option ℕ) → Option ℕ
settled_once x None = None
settled_once x (Some told) = settled x told

-- the number that the option has
abbrev pub setting_of : OptionName → Options → Option ℕ
setting_of x options = settled_once x (once x None options)

-- whether no option stands
abbrev pub is_bare : Options → Bool
is_bare [] = true
is_bare (option ∷ options) = false

-- whether no other option than `--steps` stands
abbrev pub has_steps_alone : Options → Bool
has_steps_alone [] = true
has_steps_alone (option ∷ options) = if same_name option.0 Steps then has_steps_alone options else false

-- what a command asks of options: whether none stands, whether none but `--steps` does, and the number of each, which is
-- none where it stands twice or out of its range
pub record Standing : Type 0 where
  pub bare : Bool
  pub steps_alone : Bool
  pub levels : Option ℕ
  pub kept : Option ℕ
  pub steps : Option ℕ
  pub workers : Option ℕ

-- the same of a list of options
abbrev pub standing_of : Options → Standing
standing_of options = record {
  bare = is_bare options;
  steps_alone = has_steps_alone options;
  levels = setting_of Levels options;
  kept = setting_of Variants options;
  steps = setting_of Steps options;
  workers = setting_of Workers options;
}

-- a number of `work`
abbrev pub work_of : Option ℕ → Option Command
work_of None = None
work_of (Some n) = if nat_lt n LEAST_WORK then None else (if nat_lt MOST_WORK n then None else Some (work n))

-- how far to search, and with how many workers, where each option has a number
abbrev pub reach_of : Option ℕ → Option ℕ → Option ℕ → Option ℕ → Option (Reach × ℕ)
reach_of None v s k = None
reach_of (Some l) None s k = None
reach_of (Some l) (Some v) None k = None
reach_of (Some l) (Some v) (Some s) None = None
reach_of (Some l) (Some v) (Some s) (Some k) = Some (record { levels = l; variants = v; steps = s }, k)

-- the same, from the options
abbrev pub reach_from : Standing → Option (Reach × ℕ)
reach_from st = reach_of st.levels st.kept st.steps st.workers

-- a search for variants with its options
abbrev pub variants_from : Word → Standing → Option Command
variants_from word st = option_map (λ s. variants word s.0 s.1) (reach_from st)

-- a search for unifiers with its options
abbrev pub vunify_from : Word → Standing → Option Command
vunify_from word st = option_map (λ s. vunify word s.0 s.1) (reach_from st)

-- `verify` with its options
abbrev pub verify_from : Word → Word → Standing → Option Command
verify_from problem bindings st = if st.steps_alone then option_map (verify problem bindings) st.steps else None

-- the command of this name with one operand and without options
abbrev pub bare_with : Word → Word → Option Command
bare_with name word =
    if pointwise nat_eq name (codes "unify") then Some (unify word)
    else (if pointwise nat_eq name (codes "terminates") then Some (terminates word)
    else (if pointwise nat_eq name (codes "work") then work_of (number_of word) else None))

-- the command of this name with one operand
abbrev pub command_with : Word → Word → Standing → Option Command
command_with name word st =
    if pointwise nat_eq name (codes "variants") then variants_from word st
    else (if pointwise nat_eq name (codes "vunify") then vunify_from word st
    else (if st.bare then bare_with name word else None))

-- the command of this name with two operands
abbrev pub command_with_two : Word → Word → Word → Standing → Option Command
command_with_two name problem bindings st =
    if pointwise nat_eq name (codes "verify") then verify_from problem bindings st else None

-- the command of this name alone
abbrev pub command_alone : Word → Standing → Option Command
command_alone name st = if pointwise nat_eq name (codes "check") && st.bare then Some check else None

-- the command of this name with these operands and options
abbrev pub command_from : Word → List Word → Standing → Option Command
command_from name [] st = command_alone name st
command_from name (word ∷ []) st = command_with name word st
command_from name (word ∷ other ∷ []) st = command_with_two name word other st
command_from name (word ∷ other ∷ more ∷ operands) st = None

-- the same, from what was read behind the name
abbrev pub command_given : Word → Option Given → Option Command
command_given name None = None
command_given name (Some g) = command_from name g.0 (standing_of g.1)

-- the command that the words are
abbrev pub command_of : List Word → Option Command
command_of [] = None
command_of (name ∷ words) = command_given name (arguments_of words Usual)

-- the value stands for the command that was read, or nothing was
abbrev pub TellsAs : Option Command → Option Told → Type 0
TellsAs read None = read ≡ None
TellsAs read (Some told) = (read ≡ Some (meant told)) × IsWithin told

-- the operands' words, from their places
abbrev pub word_at : List Word → ℕ → Word
word_at words i = slice_index_or words i []
