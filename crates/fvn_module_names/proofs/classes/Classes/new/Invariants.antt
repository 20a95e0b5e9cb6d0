-- The classes of the first numbers.
use Rattle.std.proofs.Common.{◌≡◌, [], ◌∷◌, map}
use Rattle.std.specs.List.{range_with_len}
use Rattle.fvn_module_names.proofs.classes.Classes.new.Given as goal

-- the classes of the first numbers
abbrev pub invariant-loop-i : goal.invariant-loop-i
invariant-loop-i l = record {
  labels : l.labels.items ≡ map (λ i. i) (range_with_len 0 l.i);
  members : l.members.items ≡ map (λ i. i ∷ []) (range_with_len 0 l.i);
}
