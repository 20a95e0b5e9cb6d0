-- the two tests decide
use Rattle.std.proofs.Common.{sym}
use Rattle.std.specs.Prelude.{◌↔◌, IsTrue}
use Rattle.fvn_cover_counts.proofs.Keeping.{IsNamed, with_identity_goes, kept_by_test}
use Rattle.fvn_cover_counts.proofs.kept.is_kept.Goals as goal

pub returns-in-Some : goal.returns-in-Some
returns-in-Some c = with_identity_goes c.args.sig.now c.args.f _ (sym c.in-Some.ensures)

pub returns-in-None : goal.returns-in-None
returns-in-None c =
    let d = c.args.sig.now in
    let named : IsTrue c.is_identity.result ↔ IsNamed d c.args.f = rw (c.as_slice.ensures, c.declarations.ensures) at c.is_identity.ensures in
    kept_by_test d c.args.f c.is_identity.result (sym c.in-None.ensures) named
