-- The value of a class is that of each variable in it, and has its kind.
use Rattle.std.proofs.Common.{◌≡◌, ℕ, ◌<◌, ◌≤◌, [], ◌∷◌, length, sym, ap, ◌∙◌, subst, inl, inr, arith, Contains}
use Rattle.std.proofs.lemmas.Option.{slice_get_within}
use Rattle.fvn_base.proofs.Membership.{contains_cases, contains_none}
use Rattle.fvn_terms.specs.declared.plain.Var.{Var as Variable}
use Rattle.fvn_terms.specs.declared.plain.OpId.{OpId}
use Rattle.fvn_terms.specs.declared.plain.SortId.{SortId}
use Rattle.fvn_terms.specs.declared.declarations.Declarations.{Declarations}
use Rattle.fvn_terms.specs.Substitution.{Substitution, apply}
use Rattle.fvn_terms.specs.Signature.{kind, HasKind, IsTerm}
use Rattle.fvn_terms.specs.Term.{Term, var}
use Rattle.fvn_terms.specs.Unifiers.{Problem}
use Rattle.fvn_forms.specs.Canon.{parts, canon}
use Rattle.fvn_forms.specs.Good.{IsOfKind}
use Rattle.fvn_forms.proofs.Build.{parts_identity}
use Rattle.fvn_forms.proofs.Eval.{canon_respects}
use Rattle.fvn_forms.proofs.KindsKept.{both_of_kind}
use Rattle.fvn_flat.specs.Problems.{variables_of}
use Rattle.fvn_combine_nodes.specs.Table.{NodeTable, term_at}
use Rattle.fvn_combine_nodes.specs.States.{class_of}
use Rattle.fvn_combine_nodes.specs.Unifiers.{value_at}
use Rattle.fvn_combine_nodes.specs.Laws.{UnifiersPartition}
use Rattle.fvn_combine_nodes.specs.declared.state.State.{State}
use Rattle.fvn_combine_nodes.specs.declared.table.Node.TheVariants.{Var, App}
use Rattle.fvn_combine_nodes.proofs.Admitting.{named_within}
use Rattle.fvn_combine_nodes.proofs.Nodes.{term_at-variable, term_at-over, arguments_within}
use Rattle.fvn_combine_nodes.proofs.NodesOf.{node_variable}
use Rattle.fvn_combine_nodes.proofs.Subterms.{node_kinded}
use Rattle.fvn_combine_leaves.specs.Leaves.{Uses}
use Rattle.fvn_combine_complete.specs.CombineChoicesLaws.{ClassesHaveOneKind}
use Rattle.fvn_sort_bounds.specs.Laws.{NarrowSortsHaveOneSummand, NarrowSortsHaveNoSum, OtherSortsHaveSomeSummand}
use Rattle.fvn_combine_bounds.specs.Narrow.{HasVariable, IsSortedAt}
use Rattle.fvn_combine_bounds.specs.Laws.{TakenSolutionsStandForSummands, NarrowClassesHaveOneSummand, OtherClassesHaveSomeSummand, ObeyedChoicesKeepBounds, NarrowClassesHaveNoTag, NarrowClassesTakeNoIdentity, NeutralOperatorsAdmitSums}
use Rattle.fvn_combine_bounds.proofs.Neutral.{absorbing_admits}

module _ (law : UnifiersPartition) (d : Declarations) (problem : Problem) (t : NodeTable) (s : State) (u : Substitution) (at : IsSortedAt d problem t s u) (k : ℕ) (x : Variable) (has : HasVariable t (class_of s) k x) where
  within : has.node < length t.nodes
  within = slice_get_within t.nodes has.node (Var x) has.is

  term_is : term_at t.nodes has.node ≡ var x
  term_is = term_at-variable t.nodes has.node x has.is

  value_is : value_at d u t.nodes k ≡ canon d (u x)
  value_is =
      let whole = at.closed.whole in
      let l = within in
      let here : has.node < length s.names = omega (arith, l, whole) in
      let named = named_within s at.closed.naming has.node here in
      let there : class_of s has.node < length t.nodes = omega (arith, named, whole) in
      let partitions = law d at.good.fits problem at.is_problem t at.well_made at.table u at.unifies in
      let equal = (partitions.exact has.node (class_of s has.node) l there).0 (at.admits.together has.node here) in
      ap (value_at d u t.nodes) (sym has.of) ∙ sym (canon_respects d equal) ∙ ap (λ (v : Term). canon d (apply u v)) term_is

  is_term : IsTerm d (u x)
  is_term =
      let known = subst (IsTerm d) term_is (node_kinded d at.good.fits problem at.is_problem t at.table has.node within) in
      (kind d x.sort, at.unifies.0 x known.1.0)

  has_sort : Contains (variables_of problem) x
  has_sort = node_variable at.well_made at.table has.node x has.is

  -- where an operator uses the class, the variable's sort is of the operator's kind
  used_of_kind : ClassesHaveOneKind → (f : OpId) → Uses d t (class_of s) f k → IsOfKind d f x.sort
  used_of_kind one f used =
      let m = used.column in
      let whole = slice_get_within t.nodes m.sum (App f (m.left ∷ m.right ∷ [])) m.over in
      let args = arguments_within t.nodes at.well_made.ordered m.sum f (m.left ∷ m.right ∷ []) m.over in
      let r = node_kinded d at.good.fits problem at.is_problem t at.table m.sum whole in
      let over = subst (λ v. HasKind d v r.0) (term_at-over t.nodes at.well_made.ordered m.sum f (m.left ∷ m.right ∷ []) m.over) r.1 in
      let both = both_of_kind d at.good.fits f used.associative (term_at t.nodes m.left) (term_at t.nodes m.right) r.0 over in
      let named : HasKind d (var x) r.0 =
      elim (contains_cases (class_of s m.sum) (class_of s m.left ∷ class_of s m.right ∷ []) k m.among) [
        | inl e ↦ at_variable m.sum r.0 whole e r.1
        | inr o ↦ elim (contains_cases (class_of s m.left) (class_of s m.right ∷ []) k o) [
          | inl e ↦ at_variable m.left r.0 (args 0 0 (omega arith)) e both.0
          | inr p ↦ elim (contains_cases (class_of s m.right) [] k p) [
            | inl e ↦ at_variable m.right r.0 (args 1 0 (omega arith)) e both.1
            | inr z ↦ absurd (contains_none k z)
          ]
        ]
      ]
      in
      record { rank = over.rank; listed = over.listed; kind_is = named.1 ∙ sym over.result }
    where
      at_variable : (i : ℕ) (q : SortId) → i < length t.nodes → class_of s i ≡ k → HasKind d (term_at t.nodes i) q → HasKind d (var x) q
      at_variable i q l e h =
          subst (λ v. HasKind d v q) term_is
          (one d at.good.fits problem at.is_problem t at.well_made at.table u at.unifies s at.closed at.admits i has.node q l within (e ∙ sym has.of) h)

pub narrow_one : UnifiersPartition → NarrowSortsHaveOneSummand → NarrowClassesHaveOneSummand
narrow_one law sorts d problem t s u at f assoc k narrow =
    let x = narrow.variable in
    let few = sorts d at.good f assoc x.sort narrow.none (u x) (is_term law d problem t s u at k x narrow.has) (at.sorted x (has_sort law d problem t s u at k x narrow.has)) in
    subst (λ v. length (parts d f v) ≤ 1) (sym (value_is law d problem t s u at k x narrow.has)) few

pub others_some : UnifiersPartition → OtherSortsHaveSomeSummand → OtherClassesHaveSomeSummand
others_some law sorts d problem t s u at f k other e =
    let x = other.variable in
    sorts d at.good f x.sort other.none (u x) (is_term law d problem t s u at k x other.has) (at.sorted x (has_sort law d problem t s u at k x other.has))
    (ap (parts d f) (sym (value_is law d problem t s u at k x other.has)) ∙ e)

pub narrow_take_none : UnifiersPartition → ClassesHaveOneKind → NarrowClassesTakeNoIdentity
narrow_take_none law one d problem t s u at f unit is k used narrow takes =
    let x = narrow.variable in
    let fits = used_of_kind law d problem t s u at k x narrow.has one f used in
    narrow.none (absorbing_admits d at.good f unit is x.sort fits (takes.variables narrow.has.node x narrow.has.is narrow.has.of))

pub bounds_kept : TakenSolutionsStandForSummands → NarrowClassesHaveOneSummand → NarrowClassesTakeNoIdentity → OtherClassesHaveSomeSummand → NarrowClassesHaveNoTag → ObeyedChoicesKeepBounds
bounds_kept taken one takes some none d problem t s u at y c obeying =
    let summands = taken d t (class_of s) y c (value_at d u t.nodes) obeying in
    record {
      once = λ f sum not_neutral k used narrow.
          let few = one d problem t s u at f sum.associative k narrow in
          let counted = summands.within f sum not_neutral k used (λ unit is. takes d problem t s u at f unit is k used narrow) in
          omega (arith, few, counted);
      some = λ f sum k used other. summands.some f sum k used (some d problem t s u at f k other);
      untagged = λ f k shared used narrow never. none d problem t s u at c.tag obeying.tags f k shared used narrow never;
    }

pub narrow_untagged : UnifiersPartition → ClassesHaveOneKind → NarrowSortsHaveNoSum → OtherClassesHaveSomeSummand → NeutralOperatorsAdmitSums → NarrowClassesHaveNoTag
narrow_untagged law one sorts some admit d problem t s u at tag obey f k shared used narrow never e = elim ((obey k f shared used).meant e) [
  | inl is ↦ elim is [
    | inl sum ↦
        sorts d at.good f x.sort narrow.none (u x) (is_term law d problem t s u at k x narrow.has) (at.sorted x (has_sort law d problem t s u at k x narrow.has))
        sum.0 (sym (value_is law d problem t s u at k x narrow.has) ∙ sum.1)
    | inr unit ↦ some d problem t s u at f k never (ap (parts d f) unit.2 ∙ parts_identity d f unit.0 unit.1)
  ]
  | inr as_sum ↦ narrow.none (admit d at.good f as_sum.neutral x.sort (used_of_kind law d problem t s u at k x narrow.has one f used))
]
  where
    x : Variable
    x = narrow.variable
