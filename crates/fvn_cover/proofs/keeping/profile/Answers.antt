-- the values fit, and terms and values were counted
use Rattle.std.proofs.Common.{sym, subst}
use Rattle.fvn_flat.specs.Fits.{AllFit}
use Rattle.fvn_cover.proofs.CoverFacts.{values_fit}
use Rattle.fvn_cover.proofs.keeping.profile.Goals as goal

pub of-requires-clause-values : goal.of-requires-clause-values
of-requires-clause-values c = subst (AllFit c.args.sig.now) (sym c.requires.values) (values_fit c.args.sig.now c.args.v.now c.requires.flat)

pub returns : goal.returns
returns c = rw (c.as_slice.ensures, c.requires.values) at c.in_ok-p.ensures.profile
