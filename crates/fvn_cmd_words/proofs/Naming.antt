-- Words are read just as the command that they are.
use Rattle.std.proofs.Common.{◌≡◌, ◌≤◌, ℕ, Bool, true, false, List, [], ◌∷◌, Option, Some, None, length, drop, refl, sym, ap, ◌∙◌, subst, arith}
use Rattle.std.specs.Prelude.{if◌then◌else◌, ◌&&◌, nat_eq, nat_lt, codes, option_map}
use Rattle.std.specs.Cmp.Lexicographic.{pointwise, bytes_decides}
use Rattle.std.proofs.lemmas.Bool.{and_parts, ltb-false, le-ltb}
use Rattle.fvn_base.proofs.Options.{Some-injective}
use Rattle.fvn_cmd_words.specs.declared.limits.TheConstants.{LEAST_WORK, MOST_WORK}
use Rattle.fvn_cmd_words.specs.declared.options.OptionName.TheVariants.{Levels, Variants, Steps, Workers}
use Rattle.fvn_cmd_words.specs.declared.reach.Reach.{Reach}
use Rattle.fvn_cmd_words.specs.declared.kinds.Mode.TheVariants.{Usual}
use Rattle.fvn_cmd_words.specs.Words.{Word, Command, check, unify, verify, terminates, variants, vunify, work, Options, AreArguments, AreOptionsOf, AreCalled, IsSearchBy, IsCommand, AreNoCommand}
use Rattle.fvn_cmd_words.specs.declared.command.Command.{Command as Told}
use Rattle.fvn_cmd_words.specs.Told.{meant, IsRead}
use Rattle.fvn_cmd_words.specs.Laws.{WordsAreOneCommand}
use Rattle.fvn_cmd_words.specs.inner.Reading.{TellsAs, word_at, number_of, setting_of, is_bare, has_steps_alone, standing_of, work_of, reach_of, reach_from, variants_from, vunify_from, verify_from, bare_with, command_with, command_from, command_given, command_of, Given, arguments_of}
use Rattle.fvn_cmd_words.proofs.Spelling.{passed, number_read, number_spelled}
use Rattle.fvn_cmd_words.proofs.Settings.{setting_read, setting_given, steps_read, steps_given, bare_is}
use Rattle.fvn_cmd_words.proofs.Sorting.{word_is}
use Rattle.fvn_cmd_words.proofs.Gathering.{arguments_read, arguments_given}

named : (name : Word) → pointwise nat_eq name name ≡ true
named name = (bytes_decides name name).1 refl

mapped : {A B : Type 0} (f : A → B) (o : Option A) (y : B) → option_map f o ≡ Some y → (x : A) × (o ≡ Some x) × (f x ≡ y)
mapped f None y e = cc
mapped f (Some x) y e = (x, refl, Some-injective e)

-- Searches.
reach_parts : (l v s k : Option ℕ) (reach : Reach) (workers : ℕ) → reach_of l v s k ≡ Some (reach, workers) → (l ≡ Some reach.levels) × (v ≡ Some reach.variants) × (s ≡ Some reach.steps) × (k ≡ Some workers)
reach_parts None v s k reach workers e = cc
reach_parts (Some l) None s k reach workers e = cc
reach_parts (Some l) (Some v) None k reach workers e = cc
reach_parts (Some l) (Some v) (Some s) None reach workers e = cc
reach_parts (Some l) (Some v) (Some s) (Some k) reach workers e =
    let q : (record { levels = l; variants = v; steps = s }, k) ≡ (reach, workers) = Some-injective e in
    (ap (λ (r : Reach × ℕ). Some r.0.levels) q, ap (λ (r : Reach × ℕ). Some r.0.variants) q, ap (λ (r : Reach × ℕ). Some r.0.steps) q, ap (λ (r : Reach × ℕ). Some r.1) q)

search_read : (options : Options) (reach : Reach) (workers : ℕ) → reach_from (standing_of options) ≡ Some (reach, workers) → AreOptionsOf options reach workers
search_read options reach workers e =
    let p = reach_parts (setting_of Levels options) (setting_of Variants options) (setting_of Steps options) (setting_of Workers options) reach workers e in
    record { levels = setting_read options Levels reach.levels p.0; kept = setting_read options Variants reach.variants p.1; steps = setting_read options Steps reach.steps p.2; workers_are = setting_read options Workers workers p.3 }

search_given : (options : Options) (reach : Reach) (workers : ℕ) → AreOptionsOf options reach workers → reach_from (standing_of options) ≡ Some (reach, workers)
search_given options reach workers h =
    ap (λ l. reach_of l (setting_of Variants options) (setting_of Steps options) (setting_of Workers options)) (setting_given options Levels reach.levels h.levels)
    ∙ ap (λ v. reach_of (Some reach.levels) v (setting_of Steps options) (setting_of Workers options)) (setting_given options Variants reach.variants h.kept)
    ∙ ap (λ s. reach_of (Some reach.levels) (Some reach.variants) s (setting_of Workers options)) (setting_given options Steps reach.steps h.steps)
    ∙ ap (λ k. reach_of (Some reach.levels) (Some reach.variants) (Some reach.steps) k) (setting_given options Workers workers h.workers_are)

-- behind a name, what was read
module _ (name : Word) (words : List Word) where
  called : (given : Word) (operands : List Word) (options : Options) → pointwise nat_eq name given ≡ true → AreArguments words operands options → AreCalled given (name ∷ words) operands options
  called given operands options is a = record { rest = words; words_are = ap (λ n. n ∷ words) (word_is name given is); arguments = a }

  -- one operand
  module _ (word : Word) (options : Options) (a : AreArguments words (word ∷ []) options) (c : Command) where
    work_read : name ≡ codes "work" → options ≡ [] → (o : Option ℕ) → number_of word ≡ o → work_of o ≡ Some c → IsCommand (name ∷ words) c
    work_read is none None q e = cc
    work_read is none (Some n) q e = low (nat_lt n LEAST_WORK) refl e
      where
        high : (b : Bool) → nat_lt MOST_WORK n ≡ b → nat_lt n LEAST_WORK ≡ false → (if b then None else Some (work n)) ≡ Some c → IsCommand (name ∷ words) c
        high true h l f = cc
        high false h l f =
            subst (IsCommand (name ∷ words)) (Some-injective f)
            (word, record { rest = words; words_are = ap (λ n. n ∷ words) is; arguments = subst (AreArguments words (word ∷ [])) none a }, number_read word n q, ltb-false n LEAST_WORK l, ltb-false MOST_WORK n h)

        low : (b : Bool) → nat_lt n LEAST_WORK ≡ b → (if b then None else (if nat_lt MOST_WORK n then None else Some (work n))) ≡ Some c → IsCommand (name ∷ words) c
        low true l f = cc
        low false l f = high (nat_lt MOST_WORK n) refl l f

    bare_read : options ≡ [] → bare_with name word ≡ Some c → IsCommand (name ∷ words) c
    bare_read none e = is_unify (pointwise nat_eq name (codes "unify")) refl e
      where
        plainly : AreArguments words (word ∷ []) []
        plainly = subst (AreArguments words (word ∷ [])) none a

        is_work : (b : Bool) → pointwise nat_eq name (codes "work") ≡ b → (if b then work_of (number_of word) else None) ≡ Some c → IsCommand (name ∷ words) c
        is_work true q f = work_read (word_is name (codes "work") q) none (number_of word) refl f
        is_work false q f = cc

        is_terminates : (b : Bool) → pointwise nat_eq name (codes "terminates") ≡ b → (if b then Some (terminates word) else (if pointwise nat_eq name (codes "work") then work_of (number_of word) else None)) ≡ Some c → IsCommand (name ∷ words) c
        is_terminates true q f = subst (IsCommand (name ∷ words)) (Some-injective f) (called (codes "terminates") (word ∷ []) [] q plainly)
        is_terminates false q f = is_work (pointwise nat_eq name (codes "work")) refl f

        is_unify : (b : Bool) → pointwise nat_eq name (codes "unify") ≡ b →
            (if b then Some (unify word) else (if pointwise nat_eq name (codes "terminates") then Some (terminates word) else (if pointwise nat_eq name (codes "work") then work_of (number_of word) else None))) ≡ Some c → IsCommand (name ∷ words) c
        is_unify true q f = subst (IsCommand (name ∷ words)) (Some-injective f) (called (codes "unify") (word ∷ []) [] q plainly)
        is_unify false q f = is_terminates (pointwise nat_eq name (codes "terminates")) refl f

    search_by : (given : Word) (reach : Reach) (workers : ℕ) → pointwise nat_eq name given ≡ true → reach_from (standing_of options) ≡ Some (reach, workers) → IsSearchBy given (name ∷ words) word reach workers
    search_by given reach workers q e = record { options = options; called = called given (word ∷ []) options q a; options_are = search_read options reach workers e }

    one_read : command_with name word (standing_of options) ≡ Some c → IsCommand (name ∷ words) c
    one_read e = is_variants (pointwise nat_eq name (codes "variants")) refl e
      where
        is_vunify : (b : Bool) → pointwise nat_eq name (codes "vunify") ≡ b → (if b then vunify_from word (standing_of options) else (if is_bare options then bare_with name word else None)) ≡ Some c → IsCommand (name ∷ words) c
        is_vunify true q f =
            let m = mapped (λ (s : Reach × ℕ). vunify word s.0 s.1) (reach_from (standing_of options)) c f in
            subst (IsCommand (name ∷ words)) m.2 (search_by (codes "vunify") m.0.0 m.0.1 q m.1)
        is_vunify false q f =
            let p = passed (is_bare options) (bare_with name word) c f in
            bare_read (bare_is options p.0) p.1

        is_variants : (b : Bool) → pointwise nat_eq name (codes "variants") ≡ b →
            (if b then variants_from word (standing_of options) else (if pointwise nat_eq name (codes "vunify") then vunify_from word (standing_of options) else (if is_bare options then bare_with name word else None))) ≡ Some c → IsCommand (name ∷ words) c
        is_variants true q f =
            let m = mapped (λ (s : Reach × ℕ). variants word s.0 s.1) (reach_from (standing_of options)) c f in
            subst (IsCommand (name ∷ words)) m.2 (search_by (codes "variants") m.0.0 m.0.1 q m.1)
        is_variants false q f = is_vunify (pointwise nat_eq name (codes "vunify")) refl f

  read_from : (operands : List Word) (options : Options) (c : Command) → AreArguments words operands options → command_from name operands (standing_of options) ≡ Some c → IsCommand (name ∷ words) c
  read_from [] options c a e =
      let p = passed (pointwise nat_eq name (codes "check") && is_bare options) (Some check) c e in
      let t = and_parts (pointwise nat_eq name (codes "check")) (is_bare options) p.0 in
      subst (IsCommand (name ∷ words)) (Some-injective p.1) (called (codes "check") [] [] t.0 (subst (AreArguments words []) (bare_is options t.1) a))
  read_from (word ∷ []) options c a e = one_read word options a c e
  read_from (word ∷ other ∷ []) options c a e =
      let p = passed (pointwise nat_eq name (codes "verify")) (verify_from word other (standing_of options)) c e in
      let t = passed (has_steps_alone options) (option_map (verify word other) (setting_of Steps options)) c p.1 in
      let m = mapped (verify word other) (setting_of Steps options) c t.1 in
      subst (IsCommand (name ∷ words)) m.2 (options, called (codes "verify") (word ∷ other ∷ []) options p.0 a, steps_read options t.0, setting_read options Steps m.0 m.1)
  read_from (word ∷ other ∷ more ∷ operands) options c a e = cc

pub command_read : (words : List Word) (c : Command) → command_of words ≡ Some c → IsCommand words c
command_read [] c e = cc
command_read (name ∷ words) c e = go (arguments_of words Usual) refl e
  where
    go : (o : Option Given) → arguments_of words Usual ≡ o → command_given name o ≡ Some c → IsCommand (name ∷ words) c
    go None q f = cc
    go (Some g) q f = read_from name words g.0 g.1 c (arguments_read words Usual g q) f

-- And the other way round.
from_call : (name : Word) (words operands : List Word) (options : Options) → AreCalled name words operands options → command_of words ≡ command_from name operands (standing_of options)
from_call name words operands options h = ap command_of h.words_are ∙ ap (command_given name) (arguments_given h.arguments)

pub command_told : (words : List Word) (c : Command) → IsCommand words c → command_of words ≡ Some c
command_told words check h = from_call (codes "check") words [] [] h ∙ refl
command_told words (unify problem) h = from_call (codes "unify") words (problem ∷ []) [] h ∙ refl
command_told words (terminates weights) h = from_call (codes "terminates") words (weights ∷ []) [] h ∙ refl
command_told words (verify problem bindings steps) h =
    from_call (codes "verify") words (problem ∷ bindings ∷ []) h.0 h.1
    ∙ ap (λ b. if b then option_map (verify problem bindings) (setting_of Steps h.0) else None) (steps_given h.0 h.2)
    ∙ ap (option_map (verify problem bindings)) (setting_given h.0 Steps steps h.3)
command_told words (variants term reach workers) h =
    from_call (codes "variants") words (term ∷ []) h.options h.called ∙ ap (option_map (λ (s : Reach × ℕ). variants term s.0 s.1)) (search_given h.options reach workers h.options_are)
command_told words (vunify problem reach workers) h =
    from_call (codes "vunify") words (problem ∷ []) h.options h.called ∙ ap (option_map (λ (s : Reach × ℕ). vunify problem s.0 s.1)) (search_given h.options reach workers h.options_are)
command_told words (work n) h =
    let a : nat_lt n LEAST_WORK ≡ false = le-ltb n LEAST_WORK h.3 in
    let b : nat_lt MOST_WORK n ≡ false = le-ltb MOST_WORK n h.4 in
    let w : work_of (Some n) ≡ Some (work n) = rw (a, b) refl in
    from_call (codes "work") words (h.0 ∷ []) [] h.1 ∙ ap work_of (number_spelled h.0 n h.2) ∙ w

pub no_command : (words : List Word) → command_of words ≡ None → AreNoCommand words
no_command words none c h = let e = command_told words c h in cc

pub one_command : WordsAreOneCommand
one_command words c d h k = Some-injective (sym (command_told words c h) ∙ command_told words d k)

-- the command is told by the name and what stands behind it
pub command_behind : (words : List Word) → 1 ≤ length words → command_of words ≡ command_given (word_at words 0) (arguments_of (drop 1 words) Usual)
command_behind [] some = absurd (omega (arith, some))
command_behind (name ∷ words) some = refl

-- a value that tells what was read
pub told_as : (words : List Word) (o : Option Told) → TellsAs (command_of words) o → IsRead words o
told_as words None e = no_command words e
told_as words (Some told) h = (command_read words (meant told) h.0, h.1)
