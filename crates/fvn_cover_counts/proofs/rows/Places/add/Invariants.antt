-- the copies so far
use Rattle.std.proofs.Common.{◌≡◌, ◌++◌, replicate}
use Rattle.fvn_cover_counts.proofs.rows.Places.add.Given as goal

abbrev pub invariant-loop : goal.invariant-loop
invariant-loop l = l.self-inside.items.items ≡ l.initial.self-inside.items.items ++ replicate l.counter l.place
