-- By the head of the node.
use Rattle.std.proofs.Common.{◌≡◌, ℕ, ◌<◌, List, All, length, refl, sym, ◌∙◌, subst}
use Rattle.std.proofs.lemmas.Bool.{iff_false}
use Rattle.fvn_terms.specs.declared.declarations.Axioms.{Axioms}
use Rattle.fvn_terms.specs.Signature.{axioms}
use Rattle.fvn_terms.specs.Equality.{IsAssociative}
use Rattle.fvn_flat.specs.SolvedLists.{IsSimple}
use Rattle.fvn_combine_nodes.specs.States.{class_of}
use Rattle.fvn_combine_nodes.specs.declared.table.Node.{Node}
use Rattle.fvn_combine_complete.specs.Neutral.{Absorbs}
use Rattle.fvn_combine_candidates.specs.inner.Letting.{ArgumentsLet, NodeLets}
use Rattle.fvn_combine_candidates.proofs.Letting.{simple_not, not_simple}
use Rattle.fvn_combine_candidates.proofs.vanishing.node_lets.Goals as goal

pub returns-then-class_of-k : goal.returns-then-class_of-k
returns-then-class_of-k c = (
  λ _. subst (NodeLets c.args.sig.now (class_of c.args.state.now) (Absorbs c.args.sig.now c.args.f c.args.e) c.args.k c.args.i) (sym c.in-Var.is) (λ of. absurd (c.if-class_of-k.true (c.class_of.ensures ∙ of))),
  λ _. refl,
)

pub returns-else-class_of-k : goal.returns-else-class_of-k
returns-else-class_of-k c = (
  λ t. subst (NodeLets c.args.sig.now (class_of c.args.state.now) (Absorbs c.args.sig.now c.args.f c.args.e) c.args.k c.args.i) (sym c.in-Var.is) (λ _. c.absorbs.ensures.0 t),
  λ h. c.absorbs.ensures.1 (subst (NodeLets c.args.sig.now (class_of c.args.state.now) (Absorbs c.args.sig.now c.args.f c.args.e) c.args.k c.args.i) c.in-Var.is h (sym c.class_of.ensures ∙ c.if-class_of-k.false)),
)

pub returns-then-is_sum : goal.returns-then-is_sum
returns-then-is_sum c = (
  λ _. subst (NodeLets c.args.sig.now (class_of c.args.state.now) (Absorbs c.args.sig.now c.args.f c.args.e) c.args.k c.args.i) (sym c.in-App.is)
      (λ simple. absurd (simple_not (axioms c.args.sig.now c.in-App.g) (subst IsAssociative c.axioms.ensures (c.is_sum.ensures.holds.0 c.if-is_sum.true)) simple)),
  λ _. refl,
)

pub arguments_let-requires : goal.arguments_let-requires
arguments_let-requires c =
    subst (All (λ j. j < length c.args.state.now.names)) (sym c.as_slice.ensures) (c.requires.arguments c.in-App.g c.in-App.ks c.in-App.is)

pub returns-else-is_sum : goal.returns-else-is_sum
returns-else-is_sum c =
    let simple = not_simple (axioms c.args.sig.now c.in-App.g) (λ a. iff_false c.is_sum.ensures.holds c.if-is_sum.false (subst IsAssociative (sym c.axioms.ensures) a)) in (
      λ t. subst (NodeLets c.args.sig.now (class_of c.args.state.now) (Absorbs c.args.sig.now c.args.f c.args.e) c.args.k c.args.i) (sym c.in-App.is)
          (λ _. subst (λ ks. ArgumentsLet c.args.sig.now (class_of c.args.state.now) (Absorbs c.args.sig.now c.args.f c.args.e) c.args.k c.in-App.g ks) c.as_slice.ensures (c.arguments_let.ensures.0 t)),
      λ h. c.arguments_let.ensures.1
          (subst (λ ks. ArgumentsLet c.args.sig.now (class_of c.args.state.now) (Absorbs c.args.sig.now c.args.f c.args.e) c.args.k c.in-App.g ks) (sym c.as_slice.ensures)
          (subst (NodeLets c.args.sig.now (class_of c.args.state.now) (Absorbs c.args.sig.now c.args.f c.args.e) c.args.k c.args.i) c.in-App.is h simple)),
    )
