-- What was read tells the command.
use Rattle.std.proofs.Common.{◌≡◌, ◌≤◌, String, Global, List, [], ◌∷◌, Some, None, length, map, sym, ◌∙◌, subst, arith}
use Rattle.std.specs.Prelude.{string_bytes, nat_eq, false}
use Rattle.std.proofs.lemmas.List.{length-map}
use Rattle.fvn_cmd_words.specs.Words.{Word}
use Rattle.fvn_cmd_words.specs.inner.Reading.{word_at, command_from, TellsAs}
use Rattle.fvn_cmd_words.specs.inner.Keeping.{standing_in, operands_of, AreBelow, ReadAs}
use Rattle.fvn_cmd_words.proofs.Naming.{told_as, no_command}
use Rattle.fvn_cmd_words.proofs.Steps.{there}
use Rattle.fvn_cmd_words.proofs.reading.read_command.Goals as goal

abbrev spoken : List (String Global) → List Word
spoken words = map (string_bytes {Z = Global}) words

not_empty : {A : Type 0} (l : List A) → nat_eq (length l) 0 ≡ false → 1 ≤ length l
not_empty [] e = cc
not_empty (x ∷ l) e = omega arith

pub command_at-requires : goal.command_at-requires
command_at-requires c =
    let read : ReadAs (spoken c.args.words.now) (Some c.in-Some.state) = subst (ReadAs (spoken c.args.words.now)) c.in-Some.is c.arguments_of-read.ensures in
    subst (λ n. AreBelow n c.in-Some.state.operands) (length-map c.args.words.now (string_bytes {Z = Global})) read.0

pub returns-in-None : goal.returns-in-None
returns-in-None c =
    let read : ReadAs (spoken c.args.words.now) None = subst (ReadAs (spoken c.args.words.now)) c.in-None.is c.arguments_of-read.ensures in
    no_command (spoken c.args.words.now) read

pub returns-in-Some : goal.returns-in-Some
returns-in-Some c =
    let some : 1 ≤ length c.args.words.now = not_empty c.args.words.now (sym c.is_empty.ensures ∙ c.if-is_empty.false) in
    let read : ReadAs (spoken c.args.words.now) (Some c.in-Some.state) = subst (ReadAs (spoken c.args.words.now)) c.in-Some.is c.arguments_of-read.ensures in
    let name : c.as_bytes.result.now ≡ word_at (spoken c.args.words.now) 0 = c.as_bytes.ensures.value ∙ sym (there (string_bytes {Z = Global}) c.args.words.now 0 c.index-words-0.result c.index-words-0.result some c.index-words-0.is) in
    told_as (spoken c.args.words.now) c.command_at.result
    (subst (λ o. TellsAs o c.command_at.result) (sym read.1)
    (subst (λ n. TellsAs (command_from n (operands_of (spoken c.args.words.now) c.in-Some.state.operands) (standing_in c.in-Some.state.set)) c.command_at.result) name c.command_at.ensures))
