-- The two nodes are told to be of one kind exactly where they are.
use Rattle.std.proofs.Common.{◌≡◌, ap, subst}
use Rattle.std.proofs.lemmas.Bool.{eqb-true, eq-eqb}
use Rattle.fvn_terms.specs.declared.plain.SortId.{SortId}
use Rattle.fvn_terms.specs.Signature.{HasKind}
use Rattle.fvn_combine_nodes.specs.Table.{term_at}
use Rattle.fvn_combine.specs.Tasks.{Combining}
use Rattle.fvn_combine.proofs.OneKind.{same_told, told_same}
use Rattle.fvn_combine.proofs.kinds.is_of_its_kind.Goals as goal

pub returns : goal.returns
returns c =
    let own = c.node_kind-own.result in
    let named = c.node_kind-named.result in
    let own_is = subst (λ (k : Combining). (q : SortId) → HasKind k.declarations (term_at k.table.nodes c.args.i) q → own ≡ q) c.task.view_is c.node_kind-own.ensures in
    let named_is = subst (λ i. (q : SortId) → HasKind c.args.task.now.declarations (term_at c.args.task.now.table.nodes i) q → named ≡ q) c.class_of.ensures
    (subst (λ (k : Combining). (q : SortId) → HasKind k.declarations (term_at k.table.nodes c.class_of.result) q → named ≡ q) c.task.view_is c.node_kind-named.ensures) in (
      λ e. same_told c.args.task.now c.recall.ensures c.args.state.now c.requires.closed c.args.i c.requires.within own named own_is named_is (let n = eqb-true own.0 named.0 e in ap (λ n. record { 0 = n }) n),
      λ h. eq-eqb own.0 named.0 (ap (λ (q : SortId). q.0) (told_same c.args.task.now c.recall.ensures c.args.state.now c.requires.closed c.args.i c.requires.within own named own_is named_is h)),
    )
