-- The forms so far.
use Rattle.std.proofs.Common.{◌≡◌, map, take}
use Rattle.fvn_purify.specs.Parts.{form_at}
use Rattle.fvn_purify.proofs.forming.forms.Given as goal

abbrev pub invariant-loop-i : goal.invariant-loop-i
invariant-loop-i l = l.forms.items ≡ map (form_at l.sig l.table) (take l.i-index l.list)
