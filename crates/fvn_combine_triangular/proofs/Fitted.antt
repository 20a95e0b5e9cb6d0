-- Each binding is to a flat form of its variable's kind.
use Rattle.std.proofs.Common.{◌≡◌, ℕ, List, [], ◌++◌, length, map, slice_index_or, sym, ap, ◌∙◌, subst, inl, inr, arith, All, Option, Some}
use Rattle.std.proofs.lemmas.List.Elements.{Contains-append_cases}
use Rattle.fvn_base.proofs.Options.{Some-injective}
use Rattle.fvn_terms.specs.declared.plain.Var.{Var as Variable}
use Rattle.fvn_terms.specs.declared.plain.OpId.{OpId}
use Rattle.fvn_terms.specs.declared.declarations.Declarations.{Declarations}
use Rattle.fvn_terms.specs.Term.{var}
use Rattle.fvn_terms.specs.Signature.{kind, HasKind}
use Rattle.fvn_forms.specs.Flat.{FlatTerm, plain}
use Rattle.fvn_forms.specs.Canon.{sum, build}
use Rattle.fvn_lindio.specs.declared.system.Solution.{Solution}
use Rattle.fvn_flat.specs.Bindings.{Bindings}
use Rattle.fvn_flat.specs.SolvedLists.{members}
use Rattle.fvn_flat.specs.declared.solver.Pairs.{Pairs}
use Rattle.fvn_combine_nodes.specs.Table.{NodeTable}
use Rattle.fvn_combine_nodes.specs.States.{class_of}
use Rattle.fvn_combine_nodes.specs.declared.state.State.{State}
use Rattle.fvn_combine_nodes.proofs.Lists.{all_from}
use Rattle.fvn_combine_leaves.specs.declared.reading.Reading.{Reading}
use Rattle.fvn_combine_admissible.specs.Listed.{tag_in}
use Rattle.fvn_combine_unfolding.specs.Sizes.{IsFitting}
use Rattle.fvn_combine_triangular.specs.declared.binders.Binder.{Binder}
use Rattle.fvn_combine_triangular.specs.declared.binders.Binder.TheVariants.{Nothing, Member, Sum}
use Rattle.fvn_combine_triangular.specs.declared.shares.Share.{Share}
use Rattle.fvn_combine_triangular.specs.inner.Ordering.{IsOrderOf}
use Rattle.fvn_combine_triangular.specs.inner.Planning.{name_in, part_of, IsBinderOf, over_names, bound_by, AreClassesBelow, AreVariablesBelow}
use Rattle.fvn_combine_triangular.proofs.Summing.{sum_flat, sum_kind}
use Rattle.fvn_combine_triangular.proofs.Classes.{name_kind, column_kind}
use Rattle.fvn_combine_triangular.proofs.Sources.{bound_column}
use Rattle.fvn_combine_triangular.proofs.Forms.{name_forms, member_flat, member_kind, sum_at_place}
use Rattle.fvn_combine_triangular.proofs.Made.{IsMade, has_sums, node_terms, are_kinded, entry_within, entry_operator}
use Rattle.fvn_combine_triangular.proofs.Parts.{summable}
use Rattle.fvn_combine_triangular.proofs.BindingsBy.{class_form, variable_form}

module _ {d : Declarations} {given : Pairs} {first : ℕ} {t : NodeTable} {s : State} {r : Reading} {bases : List (List Solution)} {tags : List (Option OpId)} {numbers : List ℕ} {names : List Variable} {binders : List Binder} {all : List (List Share)} (m : IsMade d given first t s r bases tags numbers names binders all) where
  -- the form of a class
  form_fits : (k : ℕ) (b : Binder) → IsBinderOf d t (class_of s) (tag_in tags) r.sums k b → (u : FlatTerm) → bound_by d t (class_of s) names r.sums all b k ≡ Some u → IsFitting d (name_in names k, u)
  form_fits k Nothing h u e = cc
  form_fits k (Member i) (l, of, (f, ks, over, simple)) u e =
      let c = m.leaf in
      let is = ap (over_names d t (class_of s) names) (sym over) ∙ Some-injective e in
      let q = node_terms c i l in
      let named : HasKind d (var (name_in names k)) q.0 = subst (λ k. HasKind d (var (name_in names k)) q.0) of (name_kind c.made c.ready.closed c.good (node_terms c) c.ready.kinds m.names_are i q.0 l q.1) in
      subst (λ u. IsFitting d (name_in names k, u)) is (record {
        flat = member_flat c.good.fits c.made (are_kinded c m.names_are) i f ks over;
        kinded = subst (HasKind d (plain (build d f (name_forms d (class_of s) names ks)))) (sym named.1) (member_kind c.good.fits c.made (are_kinded c m.names_are) i f ks over q.0 q.1);
      })
  form_fits k (Sum i) (o, at, bound) u e =
      let c = m.leaf in
      let l = entry_within c i o at in
      let n = m.shares_are.as_many in
      let h = summable m i o at k bound in
      let is = sym (sum_at_place d r.sums all i k o at (omega (arith, l, n))) ∙ Some-injective e in
      let w = column_kind c.made c.ready.closed c.good (node_terms c) c.ready.kinds m.names_are o.operator (entry_operator c i o at).associative k (bound_column (has_sums c) (class_of s) o.operator k bound) in
      let theirs = w.1.1 in
      let same : kind d h.rank.result ≡ kind d (name_in names k).sort = (c.good.fits.agree o.operator h.rank theirs.rank h.listed theirs.listed).1 ∙ theirs.gives ∙ sym w.1.0.1 in
      subst (λ u. IsFitting d (name_in names k, u)) is (record {
        flat = sum_flat c.good.fits h;
        kinded = subst (HasKind d (plain (sum d o.operator (members o.columns (map part_of (slice_index_or all i [])) k)))) same (sum_kind c.good.fits h);
      })

  pub fitting : (vars classes placed : Bindings) → AreVariablesBelow t (class_of s) names (length t.nodes) vars → AreClassesBelow d t (class_of s) names r.sums all binders (length t.nodes) classes → IsOrderOf classes placed → All (IsFitting d) (vars ++ placed)
  fitting vars classes placed v c o = all_from (IsFitting d) (vars ++ placed) (λ b listed. elim (Contains-append_cases vars placed b listed) [
    | inl old ↦
        let f = variable_form m vars classes placed v c o b old in
        let ch = m.leaf in
        let q = node_terms ch f.0 f.1 in
        let named = name_kind ch.made ch.ready.closed ch.good (node_terms ch) ch.ready.kinds m.names_are f.0 q.0 f.1 q.1 in
        let own : HasKind d (var b.0) q.0 = subst (λ u. HasKind d u q.0) f.3 q.1 in
        subst (λ u. IsFitting d (b.0, u)) (sym f.4) (record { flat = tt; kinded = (named.0, named.1 ∙ sym own.1) })
    | inr new ↦
        let f = class_form m vars classes placed v c o b new in
        subst (λ x. IsFitting d (x, b.1)) (sym f.3) (form_fits f.0 (slice_index_or binders f.0 Nothing) (m.binders_are.each f.0 f.1) b.1 f.4)
  ])
