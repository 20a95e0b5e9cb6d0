-- One more node.
use Rattle.std.proofs.Common.{◌≡◌, ◌+◌, ◌<◌, [], ◌∷◌, ◌++◌, length, sym, ap, ◌∙◌, subst, Some, slice_get}
use Rattle.std.proofs.lemmas.List.Elements.{All-nil}
use Rattle.fvn_combine_nodes.specs.declared.table.Node.TheVariants.{App}
use Rattle.fvn_combine_tree.specs.inner.Drafts.{AreNodes, IsEntered, IsNewUnit, AreUnitsOf}
use Rattle.fvn_combine_tree.proofs.Entering.{entered_nodes}
use Rattle.fvn_combine_tree.proofs.Entries.{node_before, kept_at, more_at}
use Rattle.fvn_combine_tree.proofs.building.add_units.Goals as goal
use Rattle.fvn_combine_tree.proofs.building.add_units.Goals.{in-None, in-Some+in_ok-place-in-Some+in_ok-push-in-Some}

pub loop-i-preserved : goal.loop-i-preserved
loop-i-preserved c =
    let d = c.args.sig.now in
    let before = c.args.nodes.now.items in
    let now = c.loop-i.nodes.items in
    let units = c.loop-i.units.items in
    let i = c.loop-i.i in
    let n = c.index.result.now in
    let are = c.loop-i.invariant.units in
    let nodes = c.loop-i.invariant.nodes in
    let within : i < length before = subst (λ k. i < k) (c.len-count.ensures ∙ c.args.nodes.now.ok.0) c.loop-i-test.true in
    let at : slice_get before i ≡ Some n = node_before before now are.rest i n are.nodes within c.index.ensures in
    let found : IsNewUnit d units n c.new_unit.result = subst (λ us. IsNewUnit d us n c.new_unit.result) c.as_slice.ensures.value c.new_unit.ensures in
    elim c.match-new_unit.branch [
      | in-None w ↦
          let same_nodes = ap (λ v. v.items) w.nodes-is in
          let same_units = ap (λ v. v.items) w.units-is in
          record {
            nodes = subst AreNodes (sym same_nodes) nodes;
            units = subst (λ us. AreUnitsOf d (i + 1) before c.match-new_unit.nodes.items us) (sym same_units)
                (subst (λ ns. AreUnitsOf d (i + 1) before ns units) (sym same_nodes) (kept_at d i before now units are n at (subst (IsNewUnit d units n) w.in-None.is found)));
          }
      | in-Some+in_ok-place-in-Some+in_ok-push-in-Some w ↦
          let after = w.enter.new.nodes.items in
          let place = w.in_ok-place-in-Some.place in
          let e = w.in-Some.e in
          let entered : IsEntered now after (App e []) place = subst (λ ks. IsEntered now after (App e ks) place) w.new.ensures w.in_ok-place-in-Some.ensures in
          let same_nodes = ap (λ v. v.items) w.nodes-is in
          let same_units = ap (λ v. v.items) w.units-is ∙ w.in_ok-push-in-Some.ensures.items in
          record {
            nodes = subst AreNodes (sym same_nodes) (entered_nodes now nodes (App e []) (All-nil (λ k. k < length now)) after place entered);
            units = subst (λ us. AreUnitsOf d (i + 1) before c.match-new_unit.nodes.items us) (sym same_units)
                (subst (λ ns. AreUnitsOf d (i + 1) before ns (units ++ (w.in-Some.f, place) ∷ [])) (sym same_nodes) (more_at d i before now units are n at (w.in-Some.f, e) (subst (IsNewUnit d units n) w.in-Some.is found) nodes after place entered));
          }
    ]
