-- one more member
use Rattle.std.proofs.Common.{sym, ◌∙◌}
use Rattle.std.proofs.lemmas.Bool.{false≢true}
use Rattle.fvn_cover.specs.Covering.{CoversVariant}
use Rattle.fvn_cover.proofs.Leftovers.{all_more}
use Rattle.fvn_cover.proofs.pruning.looked_through.Goals as goal

pub loop-k-preserved-then-is_apart_from : goal.loop-k-preserved-then-is_apart_from
loop-k-preserved-then-is_apart_from c =
    let d = c.args.sig.now in
    let list = c.args.list.now in
    let v = c.args.v.now in
    let i = c.loop-k.k-index in
    let k = c.k-item.result in
    let apart = c.is_apart_from.ensures in record {
      free = all_more (λ m. CoversVariant d m v → ⊥) list i k c.loop-k-test.true c.k-item.is c.loop-k.invariant.free (apart.this c.if-is_apart_from.true);
      covers = λ shut. all_more (λ m. CoversVariant d v m → ⊥) list i k c.loop-k-test.true c.k-item.is (c.loop-k.invariant.covers shut) (apart.that c.if-is_apart_from.true);
    }

pub loop-k-preserved : goal.loop-k-preserved
loop-k-preserved c =
    let d = c.args.sig.now in
    let list = c.args.list.now in
    let v = c.args.v.now in
    let i = c.loop-k.k-index in
    let k = c.k-item.result in record {
      free = all_more (λ m. CoversVariant d m v → ⊥) list i k c.loop-k-test.true c.k-item.is c.loop-k.invariant.free (λ h. false≢true (sym c.if-branch.false ∙ c.in_ok-is_covering.ensures.1 h));
      covers = λ shut.
          let both = c.is_open-open.ensures shut in
          all_more (λ m. CoversVariant d v m → ⊥) list i k c.loop-k-test.true c.k-item.is (c.loop-k.invariant.covers both.0) (c.may_cover.ensures both.1);
    }
