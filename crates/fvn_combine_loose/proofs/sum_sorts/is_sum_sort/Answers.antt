-- By the declared ranks.
use Rattle.std.proofs.Common.{◌≡◌, ◌<◌, length, sym, ap, ◌∙◌, subst}
use Rattle.std.specs.Prelude.{All, List}
use Rattle.std.proofs.lemmas.Bool.{false≢true, eq-eqb}
use Rattle.fvn_terms.specs.declared.plain.SortId.{SortId}
use Rattle.fvn_terms.specs.declared.declarations.Rank.{Rank}
use Rattle.fvn_terms.specs.declared.declarations.OpDecl.{OpDecl}
use Rattle.fvn_terms.specs.declared.declarations.Declarations.{Declarations}
use Rattle.fvn_terms.specs.Signature.{declared}
use Rattle.fvn_combine_loose.specs.inner.NodeSorts.{IsWithin}
use Rattle.fvn_combine_loose.proofs.SumSorts.{sum_sort_from}
use Rattle.fvn_combine_loose.proofs.sum_sorts.is_sum_sort.Goals as goal

pub returns-in-Some : goal.returns-in-Some
returns-in-Some c t =
    let d = c.args.sig.now in
    let f = c.args.f in
    let same : c.as_slice.result.now ≡ (declared d f).ranks =
    c.as_slice.ensures ∙ ap (λ (o : OpDecl). o.ranks) c.in-Some.ensures ∙ ap (λ (k : Declarations). (declared k f).ranks) c.declarations.ensures in
    sum_sort_from d c.args.q c.recall_good.ensures (λ e. false≢true (sym c.if-eq.false ∙ c.eq.ensures ∙ eq-eqb c.kind.result.0 c.args.q.0 (ap (λ (o : SortId). o.0) (c.kind.ensures.exact ∙ e)))) f
    (subst (λ (rs : List Rank). 0 < length rs) same (c.are_within.ensures.some t))
    (subst (All (IsWithin d c.args.q)) same (c.are_within.ensures.all t))
    c.requires (c.takes_two.ensures c.if-not-takes_two.false) (c.takes_identity.ensures c.if-not-takes_identity.false)
