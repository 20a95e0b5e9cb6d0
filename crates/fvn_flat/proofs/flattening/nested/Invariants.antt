-- The last two terms are one: the nested sum stays the same.
use Rattle.std.proofs.Common.{◌≡◌, ◌++◌, [], ◌∷◌, length}
use Rattle.fvn_terms.specs.Plain.{terms}
use Rattle.fvn_forms.specs.Flat.{nest_all}
use Rattle.fvn_flat.proofs.flattening.nested.Given as goal

abbrev pub invariant-loop-t : goal.invariant-loop-t
invariant-loop-t l = nest_all l.f (terms l.fn.ts.items) ≡ nest_all l.f (terms (l.ts.items ++ l.rest ∷ []))

abbrev pub decreases-loop-t : goal.decreases-loop-t
decreases-loop-t l = length l.ts.items
