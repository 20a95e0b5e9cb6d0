-- What single words are.
use Rattle.std.proofs.Common.{◌≡◌, ℕ, Bool, true, false, ◌++◌, take, drop, length, Option, Some, None, refl, sym, ap, ◌∙◌, subst}
use Rattle.std.specs.Prelude.{if◌then◌else◌, not, nat_eq, codes}
use Rattle.std.specs.Cmp.Lexicographic.{pointwise, bytes_decides}
use Rattle.std.proofs.lemmas.List.{take-append-drop}
use Rattle.fvn_base.proofs.Options.{Some-injective}
use Rattle.fvn_cmd_words.specs.declared.options.OptionName.{OptionName}
use Rattle.fvn_cmd_words.specs.declared.options.OptionName.TheVariants.{Levels, Variants, Steps, Workers}
use Rattle.fvn_cmd_words.specs.declared.kinds.Mode.TheVariants.{Usual, Value, Operands}
use Rattle.fvn_cmd_words.specs.declared.kinds.Next.{Next}
use Rattle.fvn_cmd_words.specs.declared.kinds.Next.TheVariants.{Operand, Set, To, Wrong}
use Rattle.fvn_cmd_words.specs.Words.{Word, is_dashed, spelled}
use Rattle.fvn_cmd_words.specs.inner.Reading.{number_of, name_of, opened, behind, set_to, set_behind, joined_next, named_next, usual_next}

pub word_is : (word given : Word) → pointwise nat_eq word given ≡ true → word ≡ given
word_is word given e = (bytes_decides word given).0 e

-- what a word has to be, to be this
abbrev pub IsSo : Word → Next → Type 0
IsSo word Operand = is_dashed word ≡ false
IsSo word (Set x n) = (number : Word) × (word ≡ spelled x ++ codes "=" ++ number) × (number_of number ≡ Some n)
IsSo word (To Usual) = ⊥
IsSo word (To (Value x)) = word ≡ spelled x
IsSo word (To Operands) = word ≡ codes "--"
IsSo word Wrong = Unit {0}

name_so : (word : Word) (x : OptionName) → name_of word ≡ Some x → word ≡ spelled x
name_so word x e = levels (pointwise nat_eq word (codes "--levels")) refl e
  where
    workers : (b : Bool) → pointwise nat_eq word (codes "--workers") ≡ b → (if b then Some Workers else None) ≡ Some x → word ≡ spelled x
    workers true q h = subst (λ y. word ≡ spelled y) (Some-injective h) (word_is word (codes "--workers") q)
    workers false q h = cc

    steps : (b : Bool) → pointwise nat_eq word (codes "--steps") ≡ b → (if b then Some Steps else (if pointwise nat_eq word (codes "--workers") then Some Workers else None)) ≡ Some x → word ≡ spelled x
    steps true q h = subst (λ y. word ≡ spelled y) (Some-injective h) (word_is word (codes "--steps") q)
    steps false q h = workers (pointwise nat_eq word (codes "--workers")) refl h

    variants : (b : Bool) → pointwise nat_eq word (codes "--variants") ≡ b →
        (if b then Some Variants else (if pointwise nat_eq word (codes "--steps") then Some Steps else (if pointwise nat_eq word (codes "--workers") then Some Workers else None))) ≡ Some x → word ≡ spelled x
    variants true q h = subst (λ y. word ≡ spelled y) (Some-injective h) (word_is word (codes "--variants") q)
    variants false q h = steps (pointwise nat_eq word (codes "--steps")) refl h

    levels : (b : Bool) → pointwise nat_eq word (codes "--levels") ≡ b →
        (if b then Some Levels else (if pointwise nat_eq word (codes "--variants") then Some Variants else (if pointwise nat_eq word (codes "--steps") then Some Steps else (if pointwise nat_eq word (codes "--workers") then Some Workers else None)))) ≡ Some x → word ≡ spelled x
    levels true q h = subst (λ y. word ≡ spelled y) (Some-injective h) (word_is word (codes "--levels") q)
    levels false q h = variants (pointwise nat_eq word (codes "--variants")) refl h

behind_so : (x : OptionName) (word number : Word) → behind x word ≡ Some number → word ≡ opened x ++ number
behind_so x word number e = go (pointwise nat_eq (take (length (opened x)) word) (opened x)) refl e
  where
    go : (b : Bool) → pointwise nat_eq (take (length (opened x)) word) (opened x) ≡ b → (if b then Some (drop (length (opened x)) word) else None) ≡ Some number → word ≡ opened x ++ number
    go true q h =
        sym (take-append-drop (length (opened x)) word)
        ∙ ap (λ l. l ++ drop (length (opened x)) word) (word_is (take (length (opened x)) word) (opened x) q)
        ∙ ap (λ l. opened x ++ l) (Some-injective h)
    go false q h = cc

set_so : (x : OptionName) (word number : Word) → word ≡ opened x ++ number → IsSo word (set_to x (number_of number))
set_so x word number e = go (number_of number) refl
  where
    go : (o : Option ℕ) → number_of number ≡ o → IsSo word (set_to x o)
    go None q = tt
    go (Some n) q = (number, e, q)

joined_so : (word : Word) → IsSo word (joined_next word)
joined_so word =
    at Levels (set_behind Variants (behind Variants word) (set_behind Steps (behind Steps word) (set_behind Workers (behind Workers word) Wrong)))
    (at Variants (set_behind Steps (behind Steps word) (set_behind Workers (behind Workers word) Wrong)) (at Steps (set_behind Workers (behind Workers word) Wrong) (at Workers Wrong tt)))
  where
    at : (x : OptionName) (other : Next) → IsSo word other → IsSo word (set_behind x (behind x word) other)
    at x other h = go (behind x word) refl
      where
        go : (o : Option Word) → behind x word ≡ o → IsSo word (set_behind x o other)
        go None q = h
        go (Some number) q = set_so x word number (behind_so x word number q)

pub next_so : (word : Word) → IsSo word (usual_next word)
next_so word = dashed (is_dashed word) refl
  where
    named : (o : Option OptionName) → name_of word ≡ o → IsSo word (named_next o word)
    named None q = joined_so word
    named (Some x) q = name_so word x q

    ended : (b : Bool) → pointwise nat_eq word (codes "--") ≡ b → IsSo word (if b then To Operands else named_next (name_of word) word)
    ended true q = word_is word (codes "--") q
    ended false q = named (name_of word) refl

    dashed : (b : Bool) → is_dashed word ≡ b → IsSo word (if not b then Operand else (if pointwise nat_eq word (codes "--") then To Operands else named_next (name_of word) word))
    dashed false q = q
    dashed true q = ended (pointwise nat_eq word (codes "--")) refl

-- And the other way round.
pub operand_next : (word : Word) → is_dashed word ≡ false → usual_next word ≡ Operand
operand_next word e = ap (λ b. if not b then Operand else (if pointwise nat_eq word (codes "--") then To Operands else named_next (name_of word) word)) e

pub spelled_next : (x : OptionName) → usual_next (spelled x) ≡ To (Value x)
spelled_next Levels = refl
spelled_next Variants = refl
spelled_next Steps = refl
spelled_next Workers = refl

pub joined_given : (x : OptionName) (number : Word) → usual_next (spelled x ++ codes "=" ++ number) ≡ set_to x (number_of number)
joined_given Levels number = refl
joined_given Variants number = refl
joined_given Steps number = refl
joined_given Workers number = refl
