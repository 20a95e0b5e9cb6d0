-- The nodes have the sorts of its arguments, or the kinds of these.
use Rattle.std.proofs.Common.{map, sym, subst}
use Rattle.fvn_terms.specs.declared.plain.SortId.{SortId}
use Rattle.fvn_terms.specs.Signature.{kind}
use Rattle.std.specs.Prelude.{List}
use Rattle.fvn_combine_loose.specs.inner.NodeSorts.{Fit, IsGivenBy}
use Rattle.fvn_combine_loose.proofs.Ranked.{given_by, given_on_kinds}
use Rattle.fvn_combine_loose.proofs.sorts.sort_by.Goals as goal

pub returns-then-fit : goal.returns-then-fit
returns-then-fit c =
    given_by c.args.sig.now c.args.table.now.nodes c.args.ks.now c.args.rank.now
    (subst (Fit c.args.sig.now c.args.table.now.nodes c.args.ks.now) c.as_slice.ensures (c.fit.ensures c.if-fit.true))

pub returns-then-fit_kinds : goal.returns-then-fit_kinds
returns-then-fit_kinds c =
    subst (IsGivenBy c.args.sig.now c.args.table.now.nodes c.args.ks.now c.args.rank.now) (sym c.kind.ensures.exact)
    (
    given_on_kinds c.args.sig.now c.args.table.now.nodes c.args.ks.now c.args.rank.now
    (subst (λ (ss : List SortId). Fit c.args.sig.now c.args.table.now.nodes c.args.ks.now (map (kind c.args.sig.now) ss)) c.as_slice-2.ensures (c.fit_kinds.ensures c.if-fit_kinds.true))
    )
