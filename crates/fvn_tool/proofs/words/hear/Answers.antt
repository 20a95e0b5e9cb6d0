-- What was read of the words was heard.
use Rattle.std.proofs.Common.{String, Global, ℕ, List, Some, map, subst}
use Rattle.std.specs.Prelude.{string_bytes}
use Rattle.fvn_cmd_words.specs.Told.{IsRead}
use Rattle.fvn_tool.proofs.Grammar.{none_is_none}
use Rattle.fvn_tool.proofs.words.hear.Goals as goal

abbrev spoken : List (String Global) → List (List ℕ)
spoken words = map (string_bytes {Z = Global}) words

pub meaning-requires : goal.meaning-requires
meaning-requires c = let r : IsRead (spoken c.args.words.now) (Some c.in-Some.asked) = subst (IsRead (spoken c.args.words.now)) c.in-Some.is c.read_command-read.ensures in r.1

pub returns-in-None : goal.returns-in-None
returns-in-None c = none_is_none (spoken c.args.words.now) (subst (IsRead (spoken c.args.words.now)) c.in-None.is c.read_command-read.ensures)

pub returns-in-Some : goal.returns-in-Some
returns-in-Some c =
    let r : IsRead (spoken c.args.words.now) (Some c.in-Some.asked) = subst (IsRead (spoken c.args.words.now)) c.in-Some.is c.read_command-read.ensures in
    c.meaning.ensures (spoken c.args.words.now) r.0
