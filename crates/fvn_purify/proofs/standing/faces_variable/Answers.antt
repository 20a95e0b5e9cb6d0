-- One more node.
use Rattle.std.proofs.Common.{◌≡◌, ◌∙◌, true, false, length, sym, ap, arith, below_more}
use Rattle.std.proofs.lemmas.Option.{slice_get_within}
use Rattle.fvn_combine_nodes.specs.declared.table.Node.TheVariants.{Var}
use Rattle.fvn_purify.specs.Theories.{IsVariable, AreOpposite}
use Rattle.fvn_purify.proofs.standing.faces_variable.Goals.{then-is_variable+else-are_opposite, else-is_variable}
use Rattle.fvn_purify.proofs.standing.faces_variable.Goals as goal

pub loop-j-preserved : goal.loop-j-preserved
loop-j-preserved c =
    let now : IsVariable c.args.table.now c.loop-j.j → AreOpposite c.args.table.now c.args.i c.loop-j.j → ⊥ = elim c.if-is_variable.branch [
      | then-is_variable+else-are_opposite w ↦ λ v o. let z : true ≡ false = sym (w.are_opposite.ensures.1 o) ∙ w.if-are_opposite.false in cc
      | else-is_variable w ↦ λ v o. let z : true ≡ false = sym (c.is_variable.ensures.1 v) ∙ w.if-is_variable.false in cc
    ] in
    below_more (λ j. IsVariable c.args.table.now j → AreOpposite c.args.table.now c.args.i j → ⊥) c.loop-j.j c.loop-j.invariant now

pub returns : goal.returns
returns c = (
  λ z. cc,
  λ h.
      let end = c.loop-j-test.false in
      let n = ap length c.nodes-j-end.ensures in
      let l = slice_get_within c.args.table.now.nodes h.0 (Var h.2.0) h.2.1 in
      absurd (c.loop-j.invariant h.0 (omega arith) h.2 h.1),
)
