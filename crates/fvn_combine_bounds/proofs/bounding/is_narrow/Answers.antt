-- One node more, and in the end all.
use Rattle.std.proofs.Common.{◌≡◌, length, refl, ap, subst, inl, inr, arith}
use Rattle.std.proofs.lemmas.Bool.{cases_lt, iff_false}
use Rattle.std.proofs.lemmas.Option.{slice_get_within}
use Rattle.fvn_combine_nodes.specs.States.{class_of}
use Rattle.fvn_combine_nodes.specs.declared.table.Node.TheVariants.{Var}
use Rattle.fvn_combine_bounds.specs.inner.Nodes.{IsNarrowNode}
use Rattle.fvn_combine_bounds.proofs.bounding.is_narrow.Goals as goal

pub returns-then-is_narrow_node : goal.returns-then-is_narrow_node
returns-then-is_narrow_node c =
    let h = c.is_narrow_node.ensures.0 c.if-is_narrow_node.true in
    (λ _. record { variable = h.variable; has = record { node = c.loop-i.i; is = h.is; of = h.of }; none = h.none }, λ _. refl)

pub loop-i-preserved : goal.loop-i-preserved
loop-i-preserved c j l h = elim (cases_lt j c.loop-i.i) [
  | inl below ↦ c.loop-i.invariant j below h
  | inr above ↦
      let same : j ≡ c.loop-i.i = omega (arith, above, l) in
      iff_false c.is_narrow_node.ensures c.if-is_narrow_node.false (subst (IsNarrowNode c.args.sig.now c.args.table.now (class_of c.args.state.now) c.args.f c.args.k) same h)
]

pub returns : goal.returns
returns c = (
  λ e. cc,
  λ h.
      let l = slice_get_within c.args.table.now.nodes h.has.node (Var h.variable) h.has.is in
      let past = c.loop-i-test.false in
      let all = ap length c.nodes-i-end.ensures in
      absurd (c.loop-i.invariant h.has.node (omega (arith, l, past, all)) record { variable = h.variable; is = h.has.is; of = h.has.of; none = h.none }),
)
