-- A node of the class, and a variable.
use Rattle.std.proofs.Common.{◌≡◌, sym, ap, ◌∙◌, Some}
use Rattle.std.proofs.lemmas.Bool.{iff_false}
use Rattle.fvn_combine_nodes.specs.declared.table.Node.TheVariants.{Var, App}
use Rattle.fvn_combine_bounds.proofs.Listing.{not_told}
use Rattle.fvn_combine_bounds.proofs.bounding.is_narrow_node.Goals as goal

pub returns-then-not-is_in : goal.returns-then-not-is_in
returns-then-not-is_in c = (λ e. cc, λ h. absurd (iff_false c.is_in.ensures c.if-not-is_in.true h.of))

pub returns-in-App : goal.returns-in-App
returns-in-App c = (λ e. cc, λ h. let e : Some (App c.in-App.field-0 c.in-App.field-1) ≡ Some (Var h.variable) = sym (c.node.ensures ∙ ap Some c.in-App.is) ∙ h.is in cc)

pub returns-in-Var : goal.returns-in-Var
returns-in-Var c =
    let x = c.in-Var.x in
    let is = c.node.ensures ∙ ap Some c.in-Var.is in
    let told = not_told c.admits_sum.result c.admits_sum.ensures in (
      λ t. record { variable = x; is = is; of = c.is_in.ensures.0 c.if-not-is_in.false; none = told.0 t },
      λ h. told.1 (λ a. h.none (let e : Some (Var h.variable) ≡ Some (Var x) = sym h.is ∙ is in let same : h.variable ≡ x = cc in rw same a)),
    )
