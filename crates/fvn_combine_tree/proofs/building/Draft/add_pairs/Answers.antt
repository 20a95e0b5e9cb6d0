-- The walk goes on along one more pair.
use Rattle.std.proofs.Common.{◌+◌, [], take, sym, subst}
use Rattle.fvn_flat.specs.Problems.{plain_pairs}
use Rattle.fvn_combine_tree.specs.inner.Drafts.{AreSides}
use Rattle.fvn_combine_tree.proofs.Walking.{walked-none}
use Rattle.fvn_combine_tree.proofs.Pairing.{no_sides, walked_pair, sides_pair}
use Rattle.fvn_combine_tree.proofs.building.Draft.add_pairs.Goals as goal

pub loop-left-init : goal.loop-left-init
loop-left-init c = record {
  nodes = c.requires.nodes;
  walked = walked-none c.args.self.now;
  sides = subst (λ l. AreSides c.args.self.now.nodes.items l []) (sym c.new-sides.ensures.items) (no_sides c.args.self.now.nodes.items);
}

pub loop-left-preserved : goal.loop-left-preserved
loop-left-preserved c =
    let pairs = c.args.pairs.now in
    let i = c.loop-left.left-index in
    let p = c.loop-left-item.result in
    let within = c.loop-left-test.true in
    let before = c.loop-left.self in
    let middle = c.add_flat.new.self in
    let after = c.add_flat-in-loop-left.new.self in
    let l = c.in_ok-l.ensures in
    let r = c.in_ok-r.ensures in
    record {
      nodes = r.nodes;
      walked = walked_pair pairs i p within c.loop-left-item.is c.args.self.now before middle after c.loop-left.invariant.walked l.walked r.walked;
      sides =
          subst (λ sides. AreSides after.nodes.items sides (plain_pairs (take (i + 1) pairs))) (sym c.in_ok-push.ensures.items)
          (sides_pair pairs i p within c.loop-left-item.is before middle after l.walked r.walked c.loop-left.sides.items c.loop-left.invariant.sides c.in_ok-l.l c.in_ok-r.r l.within l.is r.within r.is);
    }
