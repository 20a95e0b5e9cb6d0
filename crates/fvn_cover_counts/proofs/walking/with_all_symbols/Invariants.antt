-- the terms so far
use Rattle.std.proofs.Common.{◌≡◌, ◌+◌, take}
use Rattle.fvn_cover_counts.specs.Places.{column, places_from}
use Rattle.fvn_cover_counts.specs.inner.Rows.{Notes}
use Rattle.fvn_cover_counts.proofs.walking.with_all_symbols.Given as goal

abbrev pub invariant-loop-t : goal.invariant-loop-t
invariant-loop-t l = (l.place ≡ l.first + l.t-index) × Notes l.initial.all.items (λ s. places_from l.first (column s (take l.t-index l.terms))) l.all.items
