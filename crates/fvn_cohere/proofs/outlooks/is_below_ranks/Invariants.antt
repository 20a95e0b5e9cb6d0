-- The ranks that are left decide.
use Rattle.std.proofs.Common.{◌≡◌, drop}
use Rattle.std.specs.List.{list_all}
use Rattle.fvn_forms.specs.Ranks.{ranks_of}
use Rattle.fvn_cohere.specs.inner.Outlooks.{is_below_rank, lows_of}
use Rattle.fvn_cohere.proofs.outlooks.is_below_ranks.Given as goal

abbrev pub invariant-loop-i : goal.invariant-loop-i
invariant-loop-i l = list_all (is_below_rank l.sig (lows_of l.parts) l.low) (ranks_of l.sig l.f) ≡ list_all (is_below_rank l.sig (lows_of l.parts) l.low) (drop l.i (ranks_of l.sig l.f))
