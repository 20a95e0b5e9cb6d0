-- The bytes that are left decide, and a colon found is within the text.
use Rattle.std.proofs.Common.{◌≡◌, ◌<◌, drop, length}
use Rattle.std.specs.Prelude.{IfSome}
use Rattle.fvn_syntax.specs.Names.{last_colon}
use Rattle.fvn_syntax.specs.inner.Colons.{last_colon_from}
use Rattle.fvn_syntax.proofs.naming.find_last_colon.Given as goal

-- the bytes that are left decide
abbrev pub invariant-loop-i : goal.invariant-loop-i
invariant-loop-i l = (last_colon l.text ≡ last_colon_from l.found l.i (drop l.i l.text)) × IfSome l.found (λ k. k < length l.text)
