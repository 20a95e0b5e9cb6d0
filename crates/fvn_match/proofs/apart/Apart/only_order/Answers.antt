-- Equal targets, or an order that is refused.
use Rattle.fvn_match.specs.inner.Goals.{bindings_of}
use Rattle.fvn_match.specs.inner.Apart.{values_with}
use Rattle.fvn_match.proofs.PairFinding.{two_is}
use Rattle.fvn_match.proofs.Commuting.{crossing_pairs, equal_order, straight_order, across_order}
use Rattle.fvn_match.proofs.apart.Apart.only_order.Goals as goal

pub returns-then-equal : goal.returns-then-equal
returns-then-equal c =
    let d = c.args.sig.now in
    let b = values_with d (bindings_of c.args.bound.now) c.args.self.now in
    let ps_are = two_is c.args.ps.now c.index-ps-0.result c.index-ps-1.result c.requires.patterns c.index-ps-0.is c.index-ps-1.is in
    let ts_are = two_is c.args.ts.now c.index-ts-0.result c.index-ts-1.result c.requires.targets c.index-ts-0.is c.index-ts-1.is in
    equal_order d b c.args.ps.now c.args.ts.now c.requires.pairs c.index-ps-0.result c.index-ps-1.result c.index-ts-0.result c.index-ts-1.result ps_are ts_are (c.same-equal.ensures.exact.0 c.if-equal.true)

pub refuses_two-across-requires : goal.refuses_two-across-requires
refuses_two-across-requires c =
    let d = c.args.sig.now in
    let b = values_with d (bindings_of c.args.bound.now) c.args.self.now in
    let ps_are = two_is c.args.ps.now c.index-ps-0.result c.index-ps-1.result c.requires.patterns c.index-ps-0.is c.index-ps-1.is in
    let ts_are = two_is c.args.ts.now c.index-ts-0.result c.index-ts-1.result c.requires.targets c.index-ts-0.is c.index-ts-1.is in
    let z = crossing_pairs d b c.args.ps.now c.args.ts.now c.requires.pairs c.index-ps-0.result c.index-ps-1.result c.index-ts-0.result c.index-ts-1.result ps_are ts_are in
    record { first = z.1.1.0; second = z.1.1.1 }

pub returns-then-across : goal.returns-then-across
returns-then-across c =
    let d = c.args.sig.now in
    let b = values_with d (bindings_of c.args.bound.now) c.args.self.now in
    let ps_are = two_is c.args.ps.now c.index-ps-0.result c.index-ps-1.result c.requires.patterns c.index-ps-0.is c.index-ps-1.is in
    let ts_are = two_is c.args.ts.now c.index-ts-0.result c.index-ts-1.result c.requires.targets c.index-ts-0.is c.index-ts-1.is in
    straight_order d b c.args.ps.now c.args.ts.now c.requires.pairs c.index-ps-0.result c.index-ps-1.result c.index-ts-0.result c.index-ts-1.result ps_are ts_are (c.refuses_two-across.ensures c.if-across.true)

pub refuses_two-straight-requires : goal.refuses_two-straight-requires
refuses_two-straight-requires c =
    let d = c.args.sig.now in
    let b = values_with d (bindings_of c.args.bound.now) c.args.self.now in
    let ps_are = two_is c.args.ps.now c.index-ps-0.result c.index-ps-1.result c.requires.patterns c.index-ps-0.is c.index-ps-1.is in
    let ts_are = two_is c.args.ts.now c.index-ts-0.result c.index-ts-1.result c.requires.targets c.index-ts-0.is c.index-ts-1.is in
    let z = crossing_pairs d b c.args.ps.now c.args.ts.now c.requires.pairs c.index-ps-0.result c.index-ps-1.result c.index-ts-0.result c.index-ts-1.result ps_are ts_are in
    record { first = z.0; second = z.1.0 }

pub returns-then-straight : goal.returns-then-straight
returns-then-straight c =
    let d = c.args.sig.now in
    let b = values_with d (bindings_of c.args.bound.now) c.args.self.now in
    let ps_are = two_is c.args.ps.now c.index-ps-0.result c.index-ps-1.result c.requires.patterns c.index-ps-0.is c.index-ps-1.is in
    let ts_are = two_is c.args.ts.now c.index-ts-0.result c.index-ts-1.result c.requires.targets c.index-ts-0.is c.index-ts-1.is in
    across_order d b c.args.ps.now c.args.ts.now c.requires.pairs c.index-ps-0.result c.index-ps-1.result c.index-ts-0.result c.index-ts-1.result ps_are ts_are (c.refuses_two-straight.ensures c.if-straight.true)
