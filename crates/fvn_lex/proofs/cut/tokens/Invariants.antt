-- The tokens made so far, and then those of what is left, are those of the text.
use Rattle.std.proofs.Common.{◌≡◌, drop}
use Rattle.fvn_lex.specs.Cut.{lex}
use Rattle.fvn_lex.specs.inner.Machine.{lex_from, prepend}
use Rattle.fvn_lex.proofs.cut.tokens.Given as goal

abbrev pub invariant-loop-offset : goal.invariant-loop-offset
invariant-loop-offset l =
    lex l.bytes ≡ prepend l.list.items (lex_from l.place l.offset (drop l.offset l.bytes))
