-- The instances of the arguments so far.
use Rattle.std.proofs.Common.{◌≡◌, map, take}
use Rattle.fvn_forms.specs.Canon.{inst}
use Rattle.fvn_flat.specs.Bindings.{value}
use Rattle.fvn_flat.specs.inner.SoFar.{so_far}
use Rattle.fvn_flat.specs.Weight.{places}
use Rattle.fvn_flat.proofs.substitution.Subst.+changed_term.Given as goal

abbrev pub invariant-loop-u : goal.invariant-loop-u
invariant-loop-u l = record {
  at : l.i ≡ l.u-index;
  instances : so_far l.copies.items (take l.u-index l.u-items) ≡ map (inst l.sig (value l.self)) (take l.u-index l.u-items);
}

abbrev pub decreases-changed_term : goal.decreases-changed_term
decreases-changed_term l = places l.t.now
