-- The copies so far.
use Rattle.std.proofs.Common.{◌≡◌, ◌++◌, replicate}
use Rattle.fvn_forms.specs.Flat.{fvar}
use Rattle.fvn_combine_triangular.proofs.terms.add_copies.Given as goal

abbrev pub invariant-loop : goal.invariant-loop
invariant-loop l = l.terms.items ≡ l.initial.terms.items ++ replicate l.counter (fvar l.x)
