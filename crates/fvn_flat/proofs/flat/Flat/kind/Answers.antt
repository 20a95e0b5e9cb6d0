-- The head tells the kind, and that of the least sort is the same.
use Rattle.std.proofs.Common.{refl, sym, ap, ◌∙◌, subst}
use Rattle.fvn_terms.specs.Signature.{HasKind}
use Rattle.fvn_forms.specs.Flat.{fpack, plain}
use Rattle.fvn_flat.specs.inner.Node.{form_of}
use Rattle.fvn_flat.proofs.Views.{app_view}
use Rattle.fvn_flat.proofs.KindsOfFlats.{kind_of_variable, kind_of_operator, kind_of_least}
use Rattle.fvn_flat.proofs.flat.Flat.kind.Goals as goal

pub returns-in-Var-clause-has : goal.returns-in-Var-clause-has
returns-in-Var-clause-has c =
    subst (HasKind c.args.sig.now (plain c.args.self.now)) (sym c.kind.ensures.exact)
    (kind_of_variable c.args.sig.now c.args.self.now c.requires c.in-Var.x (sym c.self.view_is ∙ ap form_of c.in-Var.is))

pub returns-in-Var-clause-exact : goal.returns-in-Var-clause-exact
returns-in-Var-clause-exact c = kind_of_least c.args.sig.now c.args.self.now c.requires c.recall_good.ensures c.kind.result (returns-in-Var-clause-has c)

pub returns-in-App-clause-has : goal.returns-in-App-clause-has
returns-in-App-clause-has c =
    kind_of_operator c.args.sig.now c.args.self.now c.requires c.in-App.f c.in-App.field-1 (fpack c.in-App.field-2.items)
    (app_view c.self.inside.node c.args.self.now c.in-App.f c.in-App.field-1 c.in-App.field-2 c.in-App.field-2.items c.self.view_is c.in-App.is refl)
    c.operator_kind.result c.operator_kind.ensures

pub returns-in-App-clause-exact : goal.returns-in-App-clause-exact
returns-in-App-clause-exact c = kind_of_least c.args.sig.now c.args.self.now c.requires c.recall_good.ensures c.operator_kind.result (returns-in-App-clause-has c)
