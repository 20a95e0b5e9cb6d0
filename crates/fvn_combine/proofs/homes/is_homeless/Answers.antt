-- No solution is a home of the class.
use Rattle.std.proofs.Common.{◌≡◌, Bool, true, false, not, refl}
use Rattle.fvn_combine.proofs.homes.is_homeless.Goals as goal

was_false : (b : Bool) → not b ≡ true → b ≡ false
was_false false e = refl
was_false true e = cc

pub returns-in-Some : goal.returns-in-Some
returns-in-Some c t = record {
  column = c.in-Some.j;
  marked = c.in-Some.ensures;
  other = c.is_other.ensures c.if-not-is_other.false;
  none = c.has_home.ensures (was_false c.has_home.result t);
}
