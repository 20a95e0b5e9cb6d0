-- One class is renamed to the other.
use Rattle.std.proofs.Common.{◌≡◌, length, map, refl, sym, ap, ◌∙◌}
use Rattle.std.proofs.lemmas.List.{with_items_is, get_or_default}
use Rattle.std.specs.Vec.{with_items}
use Rattle.fvn_combine_nodes.specs.States.{class_of}
use Rattle.fvn_combine_tree.specs.inner.Closing.{state_of, renamed}
use Rattle.fvn_combine_tree.proofs.Joining.{joined, AreJoined}
use Rattle.fvn_combine_tree.proofs.closing.Closing.join.Goals as goal
use Rattle.fvn_combine_tree.proofs.closing.Closing.join.Goals.{After-rename}

-- what is so after the renaming
after : (c : goal.After-rename) → AreJoined c.args.i c.args.j (state_of c.args.self.now) (state_of record { names = with_items c.args.self.now.names c.rename.new.names; apart = c.args.self.now.apart })
after c =
    let v = c.args.self.now.names in
    let s = state_of c.args.self.now in
    let a_is : c.index.result.now ≡ class_of s c.args.i = c.index.ensures ∙ get_or_default v.items c.args.i c.index.result.now 0 c.requires.left in
    let b_is : c.index-2.result.now ≡ class_of s c.args.j = c.index-2.ensures ∙ get_or_default v.items c.args.j c.index-2.result.now 0 c.requires.right in
    let is : c.rename.new.names ≡ map (renamed c.max.result c.min.result) v.items = c.rename.ensures ∙ ap (map (renamed c.max.result c.min.result)) c.as_mut_slice.ensures.value in
    let n : length c.rename.new.names ≡ v.len = c.rename.auto.names ∙ c.as_mut_slice.ensures.len in
    joined s c.requires.naming c.args.i c.args.j c.requires.left c.requires.right c.index.result.now c.index-2.result.now a_is b_is c.if-a-b.false c.max.result c.min.result c.max.ensures c.min.ensures (state_of record { names = with_items v c.rename.new.names; apart = c.args.self.now.apart }) (with_items_is v c.rename.new.names n ∙ is) refl

pub returns-clause-moved : goal.returns-clause-moved
returns-clause-moved c = (after (goal.at.returns-clause-moved c).After-rename).0

pub returns-clause-together : goal.returns-clause-together
returns-clause-together c = (after (goal.at.returns-clause-together c).After-rename).1

pub returns-then-a-b-clause-together : goal.returns-then-a-b-clause-together
returns-then-a-b-clause-together c =
    let v = c.args.self.now.names in
    sym (c.index.ensures ∙ get_or_default v.items c.args.i c.index.result.now 0 c.requires.left) ∙ c.if-a-b.true ∙ c.index-2.ensures ∙ get_or_default v.items c.args.j c.index-2.result.now 0 c.requires.right
