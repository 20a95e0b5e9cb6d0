-- An operator over some arguments is no constant.
use Rattle.std.proofs.Common.{nat_eq, refl, sym, ap, ◌∙◌}
use Rattle.fvn_flat.proofs.Views.{no_constant}
use Rattle.fvn_flat.proofs.flat.Flat.as_constant.Goals as goal

pub returns-else-is_empty : goal.returns-else-is_empty
returns-else-is_empty c =
    no_constant c.self.inside.node c.args.self.now c.in-App.g c.in-App.joined c.in-App.ts c.in-App.ts.items c.self.view_is c.in-App.is refl c.if-joined.false
    (ap (λ n. nat_eq n 0) (sym c.in-App.ts.ok.0) ∙ sym c.is_empty.ensures ∙ c.if-is_empty.false)
