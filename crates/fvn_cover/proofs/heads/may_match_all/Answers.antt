-- One pair that no matching makes.
use Rattle.std.proofs.Common.{arith}
use Rattle.fvn_flat.specs.Fits.{Fits}
use Rattle.fvn_flat.proofs.Instances.{each_at}
use Rattle.fvn_cover.proofs.CoverFacts.{unmatched_at}
use Rattle.fvn_cover.proofs.heads.may_match_all.Goals as goal

pub may_match-requires : goal.may_match-requires
may_match-requires c =
    let d = c.args.sig.now in record {
      pattern = each_at (Fits d) c.args.patterns.now c.requires.patterns c.loop-i.i c.index-patterns-i.result c.loop-i-test.true c.index-patterns-i.is;
      target = each_at (Fits d) c.args.targets.now c.requires.targets c.loop-i.i c.index-targets-i.result (omega (arith, c.requires.lengths, c.loop-i-test.true)) c.index-targets-i.is;
    }

pub returns-then-not-may_match : goal.returns-then-not-may_match
returns-then-not-may_match c = λ _.
    unmatched_at c.args.sig.now c.args.patterns.now c.args.targets.now c.loop-i.i c.index-patterns-i.result c.index-targets-i.result
    c.requires.lengths c.loop-i-test.true c.index-patterns-i.is c.index-targets-i.is (c.may_match.ensures c.if-not-may_match.true)
