-- The symbols so far.
use Rattle.std.proofs.Common.{◌≡◌, ◌+◌, ◌-◌, ◌^◌, take, min}
use Rattle.fvn_forms.proofs.Sizes.{all_symbols}
use Rattle.fvn_flat.proofs.flat.Flat.+size.Given as goal

abbrev pub invariant-loop-t : goal.invariant-loop-t
invariant-loop-t l = l.count ≡ min (l.initial.count + all_symbols (take l.t-index l.t-items)) (2 ^ 64 - 1)
