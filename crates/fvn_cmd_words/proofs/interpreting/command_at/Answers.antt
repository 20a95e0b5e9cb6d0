-- Operands are words at their places.
use Rattle.std.proofs.Common.{◌≡◌, ◌<◌, String, Global, List, ℕ, get_or, length, map, sym, ◌∙◌, subst}
use Rattle.std.specs.Prelude.{string_bytes}
use Rattle.fvn_cmd_words.specs.Words.{Word}
use Rattle.fvn_cmd_words.specs.declared.reading.Places.TheVariants.{One, Two}
use Rattle.fvn_cmd_words.specs.inner.Reading.{word_at, command_from, command_with, command_with_two, TellsAs}
use Rattle.fvn_cmd_words.specs.inner.Keeping.{standing_in, operands_of, AreBelow}
use Rattle.fvn_cmd_words.proofs.Steps.{there}
use Rattle.fvn_cmd_words.proofs.interpreting.command_at.Goals as goal

abbrev spoken : List (String Global) → List Word
spoken words = map (string_bytes {Z = Global}) words

-- a word at a place
word_there : (words : List (String Global)) (i : ℕ) (x : String Global) (bytes : Word) → i < length words → x ≡ get_or words i x → bytes ≡ string_bytes {Z = Global} x → bytes ≡ word_at (spoken words) i
word_there words i x bytes within is same = same ∙ sym (there (string_bytes {Z = Global}) words i x x within is)

pub returns-in-One : goal.returns-in-One
returns-in-One c =
    let below : AreBelow (length c.args.words.now) (One c.in-One.i) = subst (AreBelow (length c.args.words.now)) c.in-One.is c.requires in
    let word = word_there c.args.words.now c.in-One.i c.index-words-i.result c.as_bytes.result.now below c.index-words-i.is c.as_bytes.ensures.value in
    subst (λ p. TellsAs (command_from c.args.name.now (operands_of (spoken c.args.words.now) p) (standing_in c.args.set)) c.command_with.result) (sym c.in-One.is)
    (subst (λ w. TellsAs (command_with c.args.name.now w (standing_in c.args.set)) c.command_with.result) word c.command_with.ensures)

pub returns-in-Two : goal.returns-in-Two
returns-in-Two c =
    let below : AreBelow (length c.args.words.now) (Two c.in-Two.i c.in-Two.j) = subst (AreBelow (length c.args.words.now)) c.in-Two.is c.requires in
    let first = word_there c.args.words.now c.in-Two.i c.index-words-i-in-Two.result c.as_bytes-in-Two.result.now below.0 c.index-words-i-in-Two.is c.as_bytes-in-Two.ensures.value in
    let second = word_there c.args.words.now c.in-Two.j c.index-words-j.result c.as_bytes-in-Two-2.result.now below.1 c.index-words-j.is c.as_bytes-in-Two-2.ensures.value in
    subst (λ p. TellsAs (command_from c.args.name.now (operands_of (spoken c.args.words.now) p) (standing_in c.args.set)) c.command_with_two.result) (sym c.in-Two.is)
    (subst (λ w. TellsAs (command_with_two c.args.name.now w (word_at (spoken c.args.words.now) c.in-Two.j) (standing_in c.args.set)) c.command_with_two.result) first
    (subst (λ w. TellsAs (command_with_two c.args.name.now c.as_bytes-in-Two.result.now w (standing_in c.args.set)) c.command_with_two.result) second c.command_with_two.ensures))
