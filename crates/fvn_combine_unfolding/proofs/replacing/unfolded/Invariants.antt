-- What is left of the bindings decides.
use Rattle.std.proofs.Common.{◌≡◌, drop}
use Rattle.fvn_forms.specs.Flat.{fvar}
use Rattle.fvn_combine_unfolding.specs.Sizes.{IsFitting}
use Rattle.fvn_combine_unfolding.specs.inner.Replaced.{replaced}
use Rattle.fvn_combine_unfolding.proofs.replacing.unfolded.Given as goal

abbrev pub invariant-loop-y : goal.invariant-loop-y
invariant-loop-y l = record {
  whole : replaced l.sig (drop l.y-index l.bindings) l.t ≡ replaced l.sig l.bindings (fvar l.fn.x);
  fits : IsFitting l.sig (l.fn.x, l.t);
}
