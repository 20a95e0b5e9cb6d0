-- Terms and values under the renaming.
use Rattle.std.proofs.Common.{sym, subst}
use Rattle.fvn_flat.specs.Fits.{AllFit}
use Rattle.fvn_narrow_children.proofs.starts.renamed.Goals as goal

pub instances-requires : goal.instances-requires
instances-requires c = record { subst = c.requires.fits; terms = subst (AllFit c.args.sig.now) (sym c.as_slice.ensures) c.requires.variant.terms }

pub values_under-requires : goal.values_under-requires
values_under-requires c = record { values = c.requires.variant.values; subst = c.requires.fits }
