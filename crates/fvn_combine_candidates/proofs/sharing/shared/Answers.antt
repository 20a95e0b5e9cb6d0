-- One more class.
use Rattle.std.proofs.Common.{List, ◌+◌, ◌<◌, ◌≤◌, length, refl, sym, ◌∙◌, subst}
use Rattle.std.proofs.lemmas.Bool.{false≢true}
use Rattle.fvn_combine_nodes.specs.States.{class_of}
use Rattle.fvn_combine_nodes.specs.declared.table.Node.{Node}
use Rattle.fvn_combine_candidates.specs.declared.sharing.SharedClass.{SharedClass}
use Rattle.fvn_combine_candidates.specs.inner.Walking.{AreSharedBelow}
use Rattle.fvn_combine_candidates.proofs.Walked.{not_shared, one_shared, shared_here, all_shared}
use Rattle.fvn_combine_candidates.proofs.sharing.shared.Goals as goal

pub loop-k-preserved-then-not-is_shared_class : goal.loop-k-preserved-then-not-is_shared_class
loop-k-preserved-then-not-is_shared_class c =
    not_shared c.args.sig.now c.args.table.now (class_of c.args.state.now) c.args.sorted (length c.args.reading.now.sums) c.loop-k.k c.loop-k.list.items
    (λ s. false≢true (sym c.if-not-is_shared_class.true ∙ c.is_shared_class.ensures.1 s)) c.loop-k.invariant

pub loop-k-preserved : goal.loop-k-preserved
loop-k-preserved c =
    let d = c.args.sig.now in
    let t = c.args.table.now in
    let class = class_of c.args.state.now in
    let r = c.args.reading.now in
    let k = c.loop-k.k in
    let users = c.in_ok-users.users.items in
    let us = c.from_vec.result in
    let within : k < length t.nodes = subst (λ (ns : List Node). k < length ns) c.nodes-n.ensures c.loop-k-test.true in
    let few : length us ≤ length r.sums = subst (λ xs. length xs ≤ length r.sums) (sym c.from_vec.ensures) c.in_ok-users.ensures.few in
    let here = shared_here d t class r c.requires.reading c.args.sorted k users us c.from_vec.ensures c.in_ok-users.ensures (c.is_shared_class.ensures.0 c.if-not-is_shared_class.false) within in
    subst (AreSharedBelow d t class c.args.sorted (length r.sums) (k + 1)) (sym {A = List SharedClass} c.in_ok-push.ensures.items)
    (one_shared d t class c.args.sorted (length r.sums) k c.loop-k.list.items (record { class = k; users = us }) refl here few c.loop-k.invariant)

pub returns-clause-exact : goal.returns-clause-exact
returns-clause-exact c =
    let t = c.args.table.now in
    let all : length t.nodes ≤ c.loop-k.k = subst (λ (ns : List Node). length ns ≤ c.loop-k.k) c.nodes-n.ensures c.loop-k-test.false in
    all_shared c.args.sig.now t c.recall_well_made.ensures c.args.state.now c.requires.closed c.args.sorted (length c.args.reading.now.sums) c.loop-k.k c.loop-k.list.items all c.loop-k.invariant
