-- Classes are of one kind each exactly where each node is of the kind of the node that names its class.
use Rattle.std.proofs.Common.{◌≡◌, ℕ, ◌<◌, length, sym, ◌∙◌, subst, arith}
use Rattle.fvn_terms.specs.declared.plain.SortId.{SortId}
use Rattle.fvn_terms.specs.Signature.{HasKind, IsTerm}
use Rattle.fvn_forms.proofs.KindsKept.{kind_unique}
use Rattle.fvn_flat.specs.Solving.{problem_of}
use Rattle.fvn_combine_nodes.specs.Table.{term_at}
use Rattle.fvn_combine_nodes.specs.States.{IsClosed, class_of}
use Rattle.fvn_combine_nodes.specs.declared.state.State.{State}
use Rattle.fvn_combine_nodes.proofs.Admitting.{named_within}
use Rattle.fvn_combine_choices.specs.Plans.{AreOfOneKind}
use Rattle.fvn_combine_nodes.proofs.Subterms.{node_kinded}
use Rattle.fvn_combine.specs.Tasks.{Combining, IsCombining}
use Rattle.fvn_combine.specs.inner.Alike.{IsOfItsKind}

module _ (k : Combining) (is : IsCombining k) (s : State) (closed : IsClosed k.declarations k.table s) where
  -- the node that names a class is one of the table
  pub name_within : (i : ℕ) → i < length k.table.nodes → class_of s i < length k.table.nodes
  name_within i l =
      let whole = closed.whole in
      let m : i < length s.names = omega (arith, l, whole) in
      let n = named_within s closed.naming i m in
      omega (arith, n, whole)

  kinded : (i : ℕ) → i < length k.table.nodes → IsTerm k.declarations (term_at k.table.nodes i)
  kinded i l = node_kinded k.declarations is.good.fits (problem_of k.given) is.is_given.kinds k.table is.table_of i l

  -- what a node and the node that names its class are told to be
  module _ (i : ℕ) (l : i < length k.table.nodes) (own named : SortId) (own_is : (q : SortId) → HasKind k.declarations (term_at k.table.nodes i) q → own ≡ q) (named_is : (q : SortId) → HasKind k.declarations (term_at k.table.nodes (class_of s i)) q → named ≡ q) where
    pub same_told : own ≡ named → IsOfItsKind k.declarations k.table (class_of s) i
    same_told e q h =
        let r = kinded (class_of s i) (name_within i l) in
        subst (HasKind k.declarations (term_at k.table.nodes (class_of s i))) (sym (named_is r.0 r.1) ∙ sym e ∙ own_is q h) r.1

    pub told_same : IsOfItsKind k.declarations k.table (class_of s) i → own ≡ named
    told_same h =
        let r = kinded i l in
        own_is r.0 r.1 ∙ sym (named_is r.0 (h r.0 r.1))

  pub of_one_kind : ((i : ℕ) → i < length k.table.nodes → IsOfItsKind k.declarations k.table (class_of s) i) → AreOfOneKind k.declarations k.table (class_of s)
  of_one_kind each i j q li lj same h =
      let r = kinded j lj in
      let there = each j lj r.0 r.1 in
      let here = subst (λ x. HasKind k.declarations (term_at k.table.nodes x) q) same (each i li q h) in
      subst (HasKind k.declarations (term_at k.table.nodes j)) (kind_unique k.declarations is.good.fits (term_at k.table.nodes (class_of s j)) r.0 q there here) r.1

  pub each_of_its_kind : AreOfOneKind k.declarations k.table (class_of s) → (i : ℕ) → i < length k.table.nodes → IsOfItsKind k.declarations k.table (class_of s) i
  each_of_its_kind h i l q e =
      let m : i < length s.names = let whole = closed.whole in omega (arith, l, whole) in
      h i (class_of s i) q l (name_within i l) (sym (closed.naming.named i m).1) e
