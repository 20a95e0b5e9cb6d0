-- The invariant of the kinds of the first sorts.
use Rattle.std.proofs.Common.{◌≡◌, ◌+◌, map}
use Rattle.fvn_signature.specs.FirstSorts.{first_sorts}
use Rattle.fvn_signature_draft.specs.Collected.{kind_of, parts_before}
use Rattle.fvn_signature_draft.proofs.kinds.sort_kinds.Given as goal

-- the kinds of the first sorts, and how many there are
abbrev pub invariant-loop-s : goal.invariant-loop-s
invariant-loop-s l = record {
  kinds : l.kinds.items ≡ map (kind_of l.collected) (first_sorts l.s);
  next : l.next ≡ l.collected.sorts + parts_before l.collected l.s;
}
