-- A solution is asked for where it is zero in both lists of columns.
use Rattle.std.proofs.Common.{sym}
use Rattle.std.proofs.lemmas.Bool.{iff_false, true≢false}
use Rattle.fvn_acunify.proofs.prefix.is_asked.Goals as goal

pub returns-then-not-is_zero_in : goal.returns-then-not-is_zero_in
returns-then-not-is_zero_in c =
    rw c.in-Some.is (λ e. absurd (true≢false (sym e)), λ asked. absurd (iff_false c.is_zero_in.ensures c.if-not-is_zero_in.true asked.0))

pub returns-else-not-is_zero_in : goal.returns-else-not-is_zero_in
returns-else-not-is_zero_in c =
    let rest = rw c.as_slice.ensures at c.is_zero_in-in-Some.ensures in
    rw c.in-Some.is (λ e. (c.is_zero_in.ensures.0 c.if-not-is_zero_in.false, rest.0 e), λ asked. rest.1 asked.1)
