-- By the declared ranks.
use Rattle.std.proofs.Common.{◌≡◌, [], sym, ap, ◌∙◌, subst}
use Rattle.std.specs.Prelude.{◌↔◌, Any, IsTrue, Contains}
use Rattle.fvn_base.proofs.Membership.{contains_none}
use Rattle.fvn_terms.specs.declared.declarations.Rank.{Rank}
use Rattle.fvn_terms.specs.declared.declarations.OpDecl.{OpDecl}
use Rattle.fvn_terms.specs.declared.declarations.Declarations.{Declarations}
use Rattle.fvn_terms.specs.Signature.{declared, AtOrBelow}
use Rattle.fvn_sort_bounds.proofs.Giving.{admits_iff}
use Rattle.fvn_sort_bounds.proofs.admitting.admits_sum.Goals as goal

pub returns-in-None : goal.returns-in-None
returns-in-None c =
    let f = c.args.f in
    let none : (declared c.args.sig.now f).ranks ≡ [] =
    ap (λ (k : Declarations). (declared k f).ranks) (sym c.declarations.ensures) ∙ ap (λ (o : OpDecl). o.ranks) c.in-None.ensures in (
      λ e. cc,
      λ a. absurd (contains_none a.left_fits.rank (subst (λ rs. Contains rs a.left_fits.rank) none a.left_fits.listed)),
    )

pub returns-in-Some : goal.returns-in-Some
returns-in-Some c =
    let d = c.args.sig.now in
    let f = c.args.f in
    let s = c.args.s in
    let same : c.as_slice.result.now ≡ (declared d f).ranks =
    c.as_slice.ensures ∙ ap (λ (o : OpDecl). o.ranks) c.in-Some.ensures ∙ ap (λ (k : Declarations). (declared k f).ranks) c.declarations.ensures in
    let found : IsTrue c.some_gives.result ↔ Any (λ (r : Rank). AtOrBelow d r.result s) (declared d f).ranks =
    subst (λ rs. IsTrue c.some_gives.result ↔ Any (λ (r : Rank). AtOrBelow d r.result s) rs) same c.some_gives.ensures in
    let iff = admits_iff d f c.recall_good.ensures c.requires s in
    (λ t. iff.0 (found.0 t), λ a. found.1 (iff.1 a))
