-- One more key.
use Rattle.std.proofs.Common.{◌≡◌, ℕ, ◌<◌, List, length, get_or, ap, ◌∙◌, below_more, arith}
use Rattle.std.proofs.lemmas.List.{length-set, get_or-set_same, get_or-set_other}
use Rattle.std.proofs.lemmas.Option.{slice_get_within}
use Rattle.fvn_terms.specs.declared.plain.OpId.{OpId}
use Rattle.fvn_combine_nodes.specs.Table.{IsOver}
use Rattle.fvn_combine_tree.specs.inner.Chains.{key_of}
use Rattle.fvn_combine_nodes.specs.declared.table.Node.TheVariants.{App}
use Rattle.fvn_combine_tree.proofs.chains.Chains.key_all.Goals as goal

pub put-requires : goal.put-requires
put-requires c = let n = c.loop-i.invariant.room.keys in let l = c.loop-i-test.true in omega arith

pub put-requires-in-loop-i : goal.put-requires-in-loop-i
put-requires-in-loop-i c = let n = c.loop-i.invariant.room.last in let l = c.loop-i-test.true in omega arith

pub loop-i-preserved : goal.loop-i-preserved
loop-i-preserved c =
    let room = c.loop-i.invariant.room in
    let keys = c.loop-i.self.keys.items in
    let i = c.loop-i.i in
    let key = c.key_at-key.result in
    let t = c.loop-i-test.true in
    let Right : ℕ → Type 0 = λ k. (f : OpId) (ks : List ℕ) → IsOver c.args.table.now.nodes k f ks → get_or c.put.new.list.items k 0 ≡ key_of c.args.names.now c.args.by k f ks in
    let old : (k : ℕ) → k < i → Right k = λ k l f ks over. ap (λ xs. get_or xs k 0) c.put.ensures ∙ get_or-set_other keys i k key 0 (λ e. omega arith) ∙ c.loop-i.invariant.keys k l f ks over in
    let new : Right i = λ f ks over. ap (λ xs. get_or xs i 0) c.put.ensures ∙ get_or-set_same keys i key 0 (let n = room.keys in omega arith) ∙ c.key_at-key.ensures f ks over in
    record {
      room = record { keys = ap length c.put.ensures ∙ length-set keys i key ∙ room.keys; last = ap length c.put-in-loop-i.ensures ∙ length-set c.loop-i.self.last.items i 0 ∙ room.last; before = room.before };
      keys = below_more Right i old new;
    }

pub returns-clause-keys : goal.returns-clause-keys
returns-clause-keys c = λ i f ks over. c.loop-i.invariant.keys i (let l = slice_get_within c.args.table.now.nodes i (App f ks) over in let w = c.requires.whole in let end = c.loop-i-test.false in omega arith) f ks over
