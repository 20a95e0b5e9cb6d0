-- Each node so far has its own number as its name.
use Rattle.std.proofs.Common.{◌≡◌, ℕ, ◌<◌, length, get_or}
use Rattle.fvn_combine_tree.proofs.asking.singles.Given as goal

abbrev pub invariant-loop-i : goal.invariant-loop-i
invariant-loop-i l = record {
  many : length l.names.items ≡ l.i;
  own : (k : ℕ) → k < l.i → get_or l.names.items k 0 ≡ k;
}
