-- The forms so far.
use Rattle.std.proofs.Common.{◌≡◌, map, take}
use Rattle.fvn_purify.specs.Parts.{form_at}
use Rattle.fvn_purify.proofs.forming.pair_forms.Given as goal

abbrev pub invariant-loop-i : goal.invariant-loop-i
invariant-loop-i l = l.forms.items ≡ map (λ p. (form_at l.sig l.table p.0, form_at l.sig l.table p.1)) (take l.i-index l.list)
