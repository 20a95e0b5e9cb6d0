-- The first rank tells the kind.
use Rattle.std.proofs.Common.{◌≡◌, List, sym, ap, ◌∙◌, Some}
use Rattle.std.specs.Prelude.{slice_get}
use Rattle.fvn_terms.specs.declared.declarations.Rank.{Rank}
use Rattle.fvn_terms.specs.declared.declarations.OpDecl.{OpDecl}
use Rattle.fvn_terms.specs.declared.declarations.Declarations.{Declarations}
use Rattle.fvn_terms.specs.Signature.{declared}
use Rattle.fvn_combine_candidates.proofs.Absorbing.{of_kind_iff}
use Rattle.fvn_combine_candidates.proofs.Entries.{listed_at}
use Rattle.fvn_combine_candidates.proofs.neutral.kind_given.Goals as goal

pub returns-in-Some-first : goal.returns-in-Some-first
returns-in-Some-first c = λ a.
    let d = c.args.sig.now in
    let f = c.args.f in
    let r = c.in-Some-first.rank.now in
    let first : slice_get (declared d f).ranks 0 ≡ Some r =
    ap (λ (k : Declarations). slice_get (declared k f).ranks 0) (sym c.declarations.ensures)
    ∙ ap (λ (o : OpDecl). slice_get o.ranks 0) (sym c.in-Some.ensures)
    ∙ ap (λ (l : List Rank). slice_get l 0) (sym c.as_slice.ensures)
    ∙ sym c.in-Some-first.ensures.value in
    let iff = of_kind_iff d c.recall_good.ensures f r (listed_at (declared d f).ranks 0 r first) a in
    (λ h. iff.0 h ∙ sym c.kind.ensures.exact, λ e. iff.1 (e ∙ c.kind.ensures.exact))
