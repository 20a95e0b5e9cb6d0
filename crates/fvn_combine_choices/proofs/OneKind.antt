-- The classes of a state that admits a unifier's partition are of one kind.
use Rattle.std.proofs.Common.{subst, arith}
use Rattle.fvn_terms.specs.Signature.{HasKind}
use Rattle.fvn_terms.specs.Substitution.{apply}
use Rattle.fvn_terms.proofs.Equal.{HasKind-apply}
use Rattle.fvn_forms.proofs.KindsKept.{kind_unique, b_equal_keeps_kind}
use Rattle.fvn_combine_nodes.specs.Table.{term_at}
use Rattle.fvn_combine_nodes.specs.Unifiers.{kernel}
use Rattle.fvn_combine_nodes.specs.Laws.{UnifiersPartition}
use Rattle.fvn_combine_nodes.proofs.Admitting.{admits_same}
use Rattle.fvn_combine_nodes.proofs.Subterms.{node_kinded}
use Rattle.fvn_combine_choices.specs.Laws.{ClassesHaveOneKind}

pub classes_have_one_kind : UnifiersPartition → ClassesHaveOneKind
classes_have_one_kind law = λ d fits problem is_problem t made table u unifier s closed admits i j k li lj same h.
    let whole = closed.whole in
    let together = admits_same s (kernel d u t.nodes) admits i j (omega (arith, whole, li)) (omega (arith, whole, lj)) same in
    let equal = ((law d fits problem is_problem t made table u unifier).exact i j li lj).0 together in
    let there = b_equal_keeps_kind d fits equal k (HasKind-apply d u unifier.0 (term_at t.nodes i) k h) in
    let own = node_kinded d fits problem is_problem t table j lj in
    let here = HasKind-apply d u unifier.0 (term_at t.nodes j) own.0 own.1 in
    subst (HasKind d (term_at t.nodes j)) (kind_unique d fits (apply u (term_at t.nodes j)) own.0 k here there) own.1
