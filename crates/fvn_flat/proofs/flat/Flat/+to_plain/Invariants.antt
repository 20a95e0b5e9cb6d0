-- The plain terms of the arguments so far.
use Rattle.std.proofs.Common.{◌≡◌, take}
use Rattle.fvn_terms.specs.Plain.{terms}
use Rattle.fvn_forms.specs.Flat.{fpack, plain_all}
use Rattle.fvn_flat.proofs.flat.Flat.+to_plain.Given as goal

abbrev pub invariant-loop-t : goal.invariant-loop-t
invariant-loop-t l = terms l.items.items ≡ plain_all (fpack (take l.t-index l.t-items))
