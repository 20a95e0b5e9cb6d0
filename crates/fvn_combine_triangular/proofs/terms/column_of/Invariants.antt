-- The columns that are left decide.
use Rattle.std.proofs.Common.{◌≡◌, ℕ, List, length, drop}
use Rattle.fvn_flat.specs.SolvedLists.{component}
use Rattle.fvn_combine_triangular.proofs.terms.column_of.Given as goal

abbrev pub invariant-loop-j : goal.invariant-loop-j
invariant-loop-j l = (v : List ℕ) → length v ≡ length l.columns → component l.columns v l.k ≡ component (drop l.j l.columns) (drop l.j v) l.k
