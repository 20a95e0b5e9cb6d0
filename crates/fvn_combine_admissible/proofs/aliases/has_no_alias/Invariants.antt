-- No column so far is that of an alias.
use Rattle.std.proofs.Common.{ℕ, ◌<◌}
use Rattle.fvn_lindio.specs.Systems.{vectors_of}
use Rattle.fvn_combine_admissible.specs.inner.Reads.{MayBeAliasIn}
use Rattle.fvn_combine_admissible.proofs.aliases.has_no_alias.Given as goal

abbrev pub invariant-loop-j : goal.invariant-loop-j
invariant-loop-j l = (i : ℕ) → i < l.j → MayBeAliasIn l.reading l.tags l.sums l.constants.items (vectors_of l.solutions.items) i → ⊥
