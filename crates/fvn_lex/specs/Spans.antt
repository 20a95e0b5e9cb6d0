-- Tokens, and where they stand in a text.
use Rattle.std.specs.Prelude.{ℕ, ◌<◌, ◌≤◌, List, length, Result}
use Rattle.std.specs.List.{All, AllPairs}
use Rattle.fvn_lex.specs.declared.token.Class.{Class}
use Rattle.fvn_lex.specs.declared.token.Token.{Token}
use Rattle.fvn_lex.specs.declared.token.LexFault.{LexFault}

-- the tokens of a text, or its first fault
abbrev pub Lexed : Type 0
Lexed = Result (List Token) LexFault

-- the token of these bytes and this class
abbrev pub token : ℕ → ℕ → Class → Token
token from upto kind = record { start = from; end = upto; class = kind }

-- each token has a byte or more, and lies within the text
abbrev pub AreWithin : List ℕ → List Token → Type 0
AreWithin bytes list = All (λ t. (t.start < t.end) × (t.end ≤ length bytes)) list

-- each token ends before the later ones begin
abbrev pub AreInOrder : List Token → Type 0
AreInOrder list = AllPairs (λ t later. t.end ≤ later.start) list
