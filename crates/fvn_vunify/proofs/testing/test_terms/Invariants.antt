-- The terms so far stay irreducible.
use Rattle.std.proofs.Common.{take}
use Rattle.std.specs.Prelude.{Contains}
use Rattle.fvn_forms.specs.Flat.{FlatTerm, plain}
use Rattle.fvn_vunify.specs.inner.Tests.{StaysUnder}
use Rattle.fvn_vunify.proofs.testing.test_terms.Given as goal

abbrev pub invariant-loop-t : goal.invariant-loop-t
invariant-loop-t g l = (t : FlatTerm) → Contains (take l.t-index l.terms) t → StaysUnder (g.E.Expander.setting l.expander) l.s (plain t)
