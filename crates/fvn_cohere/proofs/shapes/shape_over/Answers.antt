-- The cases of a shape over others.
use Rattle.std.proofs.Common.{sym, ap, ◌∙◌}
use Rattle.fvn_rewrite_laws.specs.declared.shapes.Root.TheVariants.{Constant}
use Rattle.fvn_rewrite_laws.specs.Shapes.{is_root_of}
use Rattle.fvn_cohere.proofs.Overs.{over_none, over_left, over_right, over_two, over_others}
use Rattle.fvn_cohere.proofs.shapes.shape_over.Goals as goal

pub returns-then-shapes-eq0 : goal.returns-then-shapes-eq0
returns-then-shapes-eq0 c =
    ap (λ s. record { root = Constant c.args.f; sort = s }) c.result.ensures.exact ∙ over_none c.args.sig.now c.args.f c.args.shapes.now c.if-shapes-eq0.true

pub returns-then-shapes-ne2 : goal.returns-then-shapes-ne2
returns-then-shapes-ne2 c = c.compound.ensures ∙ over_others c.args.sig.now c.args.f c.args.shapes.now c.if-shapes-eq0.false c.if-shapes-ne2.true

pub returns-then-is_root_of : goal.returns-then-is_root_of
returns-then-is_root_of c =
    over_left c.args.sig.now c.args.f c.args.shapes.now c.shape_at-a.result c.shape_at-b.result c.if-shapes-ne2.false (sym c.shape_at-a.ensures) (sym c.shape_at-b.ensures)
    (ap (λ i. is_root_of i c.shape_at-a.result.root) (sym c.identity-e.ensures) ∙ sym c.is_root_of.ensures ∙ c.if-is_root_of.true)

pub returns-then-is_root_of-2 : goal.returns-then-is_root_of-2
returns-then-is_root_of-2 c =
    over_right c.args.sig.now c.args.f c.args.shapes.now c.shape_at-a.result c.shape_at-b.result c.if-shapes-ne2.false (sym c.shape_at-a.ensures) (sym c.shape_at-b.ensures)
    (ap (λ i. is_root_of i c.shape_at-a.result.root) (sym c.identity-e.ensures) ∙ sym c.is_root_of.ensures ∙ c.if-is_root_of.false)
    (ap (λ i. is_root_of i c.shape_at-b.result.root) (sym c.identity-e.ensures) ∙ sym c.is_root_of-2.ensures ∙ c.if-is_root_of-2.true)

pub returns : goal.returns
returns c =
    c.compound-2.ensures
    ∙ over_two c.args.sig.now c.args.f c.args.shapes.now c.shape_at-a.result c.shape_at-b.result c.if-shapes-ne2.false (sym c.shape_at-a.ensures) (sym c.shape_at-b.ensures)
    (ap (λ i. is_root_of i c.shape_at-a.result.root) (sym c.identity-e.ensures) ∙ sym c.is_root_of.ensures ∙ c.if-is_root_of.false)
    (ap (λ i. is_root_of i c.shape_at-b.result.root) (sym c.identity-e.ensures) ∙ sym c.is_root_of-2.ensures ∙ c.if-is_root_of-2.false)
