-- The values under both, for the variant's variables alone.
use Rattle.std.proofs.Common.{◌∙◌, subst}
use Rattle.fvn_flat.specs.Bindings.{IsRestriction}
use Rattle.fvn_narrow_children.proofs.BoundFacts.{values_of_changed}
use Rattle.fvn_narrow_children.proofs.ValueFacts.{values_of_restriction}
use Rattle.fvn_narrow_children.proofs.values.values_under.Goals as goal

pub returns-then-just : goal.returns-then-just
returns-then-just c =
    values_of_changed c.args.sig.now c.args.v.now c.args.s.now c.in_ok-changed.changed (c.binds_just-just.ensures c.if-just.true ∙ c.as_slice.ensures) c.in_ok-changed.ensures.exact c.in_ok-changed.ensures.fits

pub returns : goal.returns
returns c =
    values_of_restriction c.args.sig.now c.args.v.now c.args.s.now c.in_ok-all.all c.in_ok-own.own c.in_ok-all.ensures.exact c.in_ok-all.ensures.fits
    (subst (λ vars. IsRestriction vars c.in_ok-all.all c.in_ok-own.own) c.as_slice-2.ensures c.in_ok-own.ensures)
