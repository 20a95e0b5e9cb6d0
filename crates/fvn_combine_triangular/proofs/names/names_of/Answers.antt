-- One more name.
use Rattle.std.proofs.Common.{List, length, refl, ap, arith}
use Rattle.fvn_combine_nodes.specs.declared.table.Node.{Node}
use Rattle.fvn_combine_triangular.specs.inner.Planning.{no_name, IsNameAt}
use Rattle.fvn_combine_triangular.proofs.Fronts.{no_front, front_more}
use Rattle.fvn_combine_triangular.proofs.Naming.{all_names}
use Rattle.fvn_combine_triangular.proofs.names.names_of.Goals as goal

pub loop-i-init : goal.loop-i-init
loop-i-init c = record { number = omega arith; names = no_front no_name (IsNameAt c.args.sig.now c.args.table.now c.args.first) c.in_ok-names.names.items c.in_ok-names.ensures.items }

pub loop-i-preserved : goal.loop-i-preserved
loop-i-preserved c = record {
  number = let n = c.loop-i.invariant.number in omega (arith, n);
  names = front_more no_name (IsNameAt c.args.sig.now c.args.table.now c.args.first) c.loop-i.i c.loop-i.names.items c.push.new.self.items _ c.loop-i.invariant.names c.in_ok-push.ensures.items record {
    fresh = refl;
    number = c.loop-i.invariant.number;
    sort = c.node_kind.ensures;
  };
}

pub returns : goal.returns
returns c =
    let l = ap (λ (ns : List Node). length ns) c.nodes-i-end.ensures in
    all_names c.args.table.now c.recall_well_made.ensures c.args.sig.now c.args.first c.loop-i.i c.loop-i.names.items (omega (arith, l)) (omega (arith, l)) c.loop-i.invariant.names
