-- one pair more
use Rattle.std.proofs.Common.{refl, arith}
use Rattle.fvn_flat.specs.Fits.{Fits}
use Rattle.fvn_flat.proofs.Instances.{each_at}
use Rattle.fvn_match.specs.inner.Pairing.{HaveOneKind}
use Rattle.fvn_match.proofs.PairingSteps.{zip-drop, zip-end}
use Rattle.fvn_match.proofs.pairing.all_have_one_kind.Goals as goal

pub have_one_kind-requires : goal.have_one_kind-requires
have_one_kind-requires c =
    let d = c.args.sig.now in record {
      pattern = each_at (Fits d) c.args.patterns.now c.requires.patterns c.loop-i.i c.index-patterns-i.result (omega arith) c.index-patterns-i.is;
      target = each_at (Fits d) c.args.targets.now c.requires.targets c.loop-i.i c.index-targets-i.result (omega (arith, c.requires.lengths)) c.index-targets-i.is;
    }

pub loop-i-preserved : goal.loop-i-preserved
loop-i-preserved c =
    let z = zip-drop (HaveOneKind c.args.sig.now) c.args.patterns.now c.args.targets.now c.loop-i.i c.index-patterns-i.result c.index-targets-i.result (omega arith) (omega (arith, c.requires.lengths)) c.index-patterns-i.is c.index-targets-i.is in
    let one = c.have_one_kind.ensures.0 c.if-not-have_one_kind.false in
    (λ h. (z.0 (c.loop-i.invariant.0 h)).1, λ h. c.loop-i.invariant.1 (z.1 (one, h)))

pub returns-then-not-have_one_kind : goal.returns-then-not-have_one_kind
returns-then-not-have_one_kind c =
    let z = zip-drop (HaveOneKind c.args.sig.now) c.args.patterns.now c.args.targets.now c.loop-i.i c.index-patterns-i.result c.index-targets-i.result (omega arith) (omega (arith, c.requires.lengths)) c.index-patterns-i.is c.index-targets-i.is in
    (λ f. cc, λ h. let e = c.have_one_kind.ensures.1 (z.0 (c.loop-i.invariant.0 h)).0 in cc)

pub returns : goal.returns
returns c = (λ t. c.loop-i.invariant.1 (zip-end (HaveOneKind c.args.sig.now) c.args.patterns.now c.args.targets.now c.loop-i.i (omega arith) (omega (arith, c.requires.lengths))), λ h. refl)
