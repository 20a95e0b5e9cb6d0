-- One node more, and in the end all.
use Rattle.std.proofs.Common.{◌≡◌, ℕ, ◌<◌, List, Some, length, refl, sym, ap, ◌∙◌, subst, arith, All}
use Rattle.std.specs.Prelude.{slice_get}
use Rattle.std.proofs.lemmas.Bool.{iff_false}
use Rattle.std.proofs.lemmas.Option.{slice_get_within}
use Rattle.std.proofs.lemmas.List.Elements.{All-weaker}
use Rattle.fvn_combine_nodes.specs.States.{class_of}
use Rattle.fvn_combine_nodes.specs.declared.table.Node.{Node}
use Rattle.fvn_combine_complete.specs.Neutral.{Absorbs}
use Rattle.fvn_combine_candidates.specs.inner.Letting.{NodeLets}
use Rattle.fvn_combine_candidates.proofs.Letting.{one_more}
use Rattle.fvn_combine_candidates.proofs.vanishing.all_let.Goals as goal

pub node-node-requires : goal.node-node-requires
node-node-requires c = subst (λ (ns : List Node). c.loop-i.i < length ns) c.nodes-i-end.ensures c.loop-i-test.true

pub node_lets-requires-clause-within : goal.node_lets-requires-clause-within
node_lets-requires-clause-within c =
    let w = c.requires.whole in
    let l : c.loop-i.i < length c.args.table.now.nodes = subst (λ (ns : List Node). c.loop-i.i < length ns) c.nodes-i-end.ensures c.loop-i-test.true in
    omega (arith, w, l)

pub node_lets-requires-clause-arguments : goal.node_lets-requires-clause-arguments
node_lets-requires-clause-arguments c g ks is =
    let w = c.requires.whole in
    let l : c.loop-i.i < length c.args.table.now.nodes = subst (λ (ns : List Node). c.loop-i.i < length ns) c.nodes-i-end.ensures c.loop-i-test.true in
    let before = c.recall_well_made.ensures.ordered c.loop-i.i g ks (c.node-node.ensures ∙ ap Some is) in
    All-weaker (λ j. j < c.loop-i.i) (λ j. j < length c.args.state.now.names) (λ j m. omega (arith, m, l, w)) ks before

pub returns-then-not-node_lets : goal.returns-then-not-node_lets
returns-then-not-node_lets c = (λ e. cc, λ h. absurd (iff_false c.node_lets.ensures c.if-not-node_lets.true (h c.loop-i.i c.node-node.result.now c.node-node.ensures)))

pub loop-i-preserved : goal.loop-i-preserved
loop-i-preserved c =
    one_more (λ (i : ℕ) (n : Node). NodeLets c.args.sig.now (class_of c.args.state.now) (Absorbs c.args.sig.now c.args.f c.args.e) c.args.k i n) c.args.table.now.nodes c.loop-i.i c.node-node.result.now c.node-node.ensures
    (c.node_lets.ensures.0 c.if-not-node_lets.false) c.loop-i.invariant

pub returns : goal.returns
returns c = (
  λ _ i n is.
      let l = slice_get_within c.args.table.now.nodes i n is in
      let past = c.loop-i-test.false in
      let long = ap length c.nodes-i-end.ensures in
      c.loop-i.invariant i n (omega (arith, l, past, long)) is,
  λ _. refl,
)
