-- One more operator.
use Rattle.std.proofs.Common.{[], ◌∷◌, length, map, ap, ◌∙◌, arith}
use Rattle.std.proofs.lemmas.List.{map-append}
use Rattle.fvn_combine_nodes.specs.States.{class_of}
use Rattle.fvn_combine_admissible.specs.Listed.{tag_in}
use Rattle.fvn_combine_triangular.proofs.Fronts.{front_more}
use Rattle.fvn_combine_triangular.proofs.Sharing.{AreSharesAt, shares_here, all_from_front, next_number}
use Rattle.fvn_combine_triangular.proofs.shares.all_shares.Goals as goal

pub loop-i-preserved : goal.loop-i-preserved
loop-i-preserved c =
    let d = c.args.sig.now in
    let t = c.args.table.now in
    let class = class_of c.args.state.now in
    let tag = tag_in c.args.tags.now in
    let sums = c.args.reading.now.sums in
    let i = c.loop-i.i in
    let l = c.loop-i-test.true in
    let a = ap length c.as_slice-sums.ensures in
    let n = c.requires.sized.basis_each in
    record {
      next = next_number c.loop-i.next c.args.start i c.loop-i.invariant.next;
      shares =
          front_more [] (AreSharesAt d t class tag sums c.args.bases.now c.args.numbers.now c.args.names.now c.args.start) i (map (λ w. w.items) c.loop-i.all.items) (map (λ w. w.items) c.push.new.self.items) c.in_ok-shares.shares.items c.loop-i.invariant.shares
          (ap (map (λ w. w.items)) c.in_ok-push.ensures.items ∙ map-append (λ w. w.items) c.loop-i.all.items (c.in_ok-shares.shares ∷ []))
          (shares_here d t class tag sums c.args.bases.now c.args.numbers.now c.args.names.now c.args.start i c.as_slice-sums.result.now c.index-sums-i.result c.as_slice-basis.result.now c.index-bases-i.result c.loop-i.next c.in_ok-shares.shares.items
          c.as_slice-sums.ensures (omega (arith, l, a)) c.index-sums-i.is (omega (arith, l, a, n)) c.as_slice-basis.ensures c.index-bases-i.is c.loop-i.invariant.next c.in_ok-shares.ensures);
    }

pub returns : goal.returns
returns c =
    let l = c.loop-i-test.false in
    let e = c.loop-i.auto.i-end in
    let a = ap length c.as_slice-sums.ensures in
    all_from_front c.args.sig.now c.args.table.now (class_of c.args.state.now) (tag_in c.args.tags.now) c.args.reading.now.sums c.args.bases.now c.args.numbers.now c.args.names.now c.args.start c.loop-i.i (map (λ w. w.items) c.loop-i.all.items) (omega (arith, l, e, a)) c.loop-i.invariant.shares
