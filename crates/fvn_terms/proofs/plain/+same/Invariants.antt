-- What the loops of `same` keep.
use Rattle.std.proofs.Common.{◌≡◌, ◌↔◌, length}
use Rattle.fvn_terms.proofs.plain.+same.Given as goal

-- the arguments that are left decide
abbrev pub invariant-Args::same-loop-t : goal.invariant-Args::same-loop-t
invariant-Args::same-loop-t l = record { as_long : length l.t-iterator.a.rest.now ≡ length l.t-iterator.b.rest.now; decide : (l.self ≡ l.other) ↔ (l.t-iterator.a.rest.now ≡ l.t-iterator.b.rest.now) }
