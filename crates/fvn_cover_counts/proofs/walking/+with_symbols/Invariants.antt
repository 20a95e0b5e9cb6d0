-- the arguments so far
use Rattle.std.proofs.Common.{take, replicate}
use Rattle.fvn_flat.specs.Weight as weight
use Rattle.fvn_cover_counts.specs.Weights.{of_symbol}
use Rattle.fvn_cover_counts.specs.inner.Rows.{Notes}
use Rattle.fvn_cover_counts.proofs.Arguments.{weight_in}
use Rattle.fvn_cover_counts.proofs.walking.+with_symbols.Given as goal

abbrev pub decreases-with_symbols : goal.decreases-with_symbols
decreases-with_symbols l = weight.places l.t.now

abbrev pub invariant-loop-u : goal.invariant-loop-u
invariant-loop-u l = Notes l.initial.all.items (λ s. replicate (weight_in (of_symbol s) (take l.u-index l.u-items)) l.place) l.all.items
