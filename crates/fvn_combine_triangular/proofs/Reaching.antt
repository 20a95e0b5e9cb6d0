-- The variables of what a class is bound to: names of classes that it needs, and new variables.
use Rattle.std.proofs.Common.{◌≡◌, ℕ, ◌<◌, ◌≤◌, true, List, [], ◌∷◌, length, map, slice_index_or, refl, sym, ap, ◌∙◌, subst, inl, inr, arith, All, Contains, Option, Some}
use Rattle.std.specs.List.{AllByRecursion}
use Rattle.std.specs.Prelude.{slice_get}
use Rattle.std.proofs.lemmas.List.Elements.{All-contains}
use Rattle.fvn_base.proofs.Membership.{contains_here, contains_later, map_contains}
use Rattle.fvn_base.proofs.Options.{Some-injective}
use Rattle.fvn_terms.specs.declared.plain.Var.{Var as Variable}
use Rattle.fvn_terms.specs.declared.plain.OpId.{OpId}
use Rattle.fvn_terms.specs.declared.declarations.Declarations.{Declarations}
use Rattle.fvn_forms.specs.Flat.{FlatTerm}
use Rattle.fvn_forms.specs.Canon.{sum}
use Rattle.fvn_lindio.specs.declared.system.Solution.{Solution}
use Rattle.fvn_flat.specs.SolvedLists.{Part, component, members}
use Rattle.fvn_flat.specs.declared.solver.Pairs.{Pairs}
use Rattle.fvn_combine_nodes.specs.Table.{NodeTable}
use Rattle.fvn_combine_nodes.specs.States.{class_of}
use Rattle.fvn_combine_nodes.specs.declared.state.State.{State}
use Rattle.fvn_combine_nodes.proofs.Nodes.{arguments_within}
use Rattle.fvn_combine_leaves.specs.declared.reading.Sums.{Sums}
use Rattle.fvn_combine_leaves.specs.declared.reading.Reading.{Reading}
use Rattle.fvn_combine_choices.specs.Binding.{IsBound}
use Rattle.fvn_combine_choices.specs.Choosing.{Needs, argument, summand}
use Rattle.fvn_combine_admissible.specs.Listed.{tag_in, systems_of, choice_of}
use Rattle.fvn_combine_triangular.specs.declared.binders.Binder.{Binder}
use Rattle.fvn_combine_triangular.specs.declared.binders.Binder.TheVariants.{Nothing, Member, Sum}
use Rattle.fvn_combine_triangular.specs.declared.shares.Share.{Share}
use Rattle.fvn_combine_triangular.specs.inner.Planning.{name_in, part_of, IsBinderOf, over_names, bound_by}
use Rattle.fvn_combine_triangular.proofs.Classes.{class_within, column_within}
use Rattle.fvn_combine_triangular.proofs.Occurring.{each_member, Holds, holds_sum, holds_build}
use Rattle.fvn_combine_triangular.proofs.Forms.{name_forms, sum_at_place}
use Rattle.fvn_combine_triangular.proofs.Made.{start_of, IsMade, entry_within, entry_operator}
use Rattle.fvn_combine_triangular.proofs.Parts.{place_at, share_stands, share_taken, component_is}

module _ {d : Declarations} {given : Pairs} {first : ℕ} {t : NodeTable} {s : State} {r : Reading} {bases : List (List Solution)} {tags : List (Option OpId)} {numbers : List ℕ} {names : List Variable} {binders : List Binder} {all : List (List Share)} (m : IsMade d given first t s r bases tags numbers names binders all) where
  -- what a variable in the form of class k is
  pub data IsReached (k : ℕ) (x : Variable) : Type 0 where
    by_name : (l : ℕ) → l < length t.nodes → x ≡ name_in names l → Needs d t (class_of s) (systems_of r bases) (choice_of r tags numbers) k l → IsReached k x
    by_new : x.fresh ≡ true → start_of t first ≤ x.name → IsReached k x

  -- it is new
  pub reached_new : (k : ℕ) (x : Variable) → IsReached k x → (x.fresh ≡ true) × (first ≤ x.name)
  reached_new k x (by_name l within is needs) =
      let n = m.names_are.each l within in
      let e = n.number in
      let z = ap (λ (x : Variable). x.name) is in
      (ap (λ (x : Variable). x.fresh) is ∙ n.fresh, omega (arith, e, z))
  reached_new k x (by_new fresh above) = (fresh, omega (arith, above))

  -- the form of a member
  member_reaches : (k i : ℕ) → IsBinderOf d t (class_of s) (tag_in tags) r.sums k (Member i) → Holds (IsReached k) (over_names d t (class_of s) names (slice_get t.nodes i))
  member_reaches k i (l, of, (f, ks, over, simple)) =
      subst (λ n. Holds (IsReached k) (over_names d t (class_of s) names n)) (sym over)
      (holds_build (IsReached k) d f simple (name_forms d (class_of s) names ks) (each ks (λ j listed. listed)))
    where
      within : All (λ k. k < length t.nodes) ks
      within = arguments_within t.nodes m.leaf.made.ordered i f ks over

      each : (ls : List ℕ) → ((j : ℕ) → Contains ls j → Contains ks j) → AllByRecursion (Holds (IsReached k)) (name_forms d (class_of s) names ls)
      each [] h = tt
      each (j ∷ ls) h = (
        λ x o.
            let listed = h j (contains_here j ls) in
            by_name (class_of s j) (class_within m.leaf.made m.leaf.ready.closed j (All-contains (λ k. k < length t.nodes) ks j within listed)) o (argument i f ks j over simple of listed refl),
        each ls (λ o listed. h o (contains_later j ls o listed)),
      )

  -- the form of a sum
  sum_reaches : (k i : ℕ) (e : Sums) (at : slice_get r.sums i ≡ Some e) → IsBinderOf d t (class_of s) (tag_in tags) r.sums k (Sum i) → Holds (IsReached k) (sum d e.operator (members e.columns (map part_of (slice_index_or all i [])) k))
  sum_reaches k i e at (o, there, bound) =
      holds_sum (IsReached k) d e.operator (members e.columns (map part_of (slice_index_or all i [])) k)
      (each_member (Holds (IsReached k)) e.columns (map part_of (slice_index_or all i [])) k (λ q listed some x is.
      let p = map_contains part_of (slice_index_or all i []) q listed in
      share_reaches p.0 p.1.0 (subst (λ (q : Part). 0 < component e.columns q.solution k) (sym p.1.1) some) x (is ∙ ap (λ (q : Part). q.variable) (sym p.1.1))))
    where
      share_reaches : (p : Share) → Contains (slice_index_or all i []) p → 0 < component e.columns p.solution k → (x : Variable) → x ≡ p.variable → IsReached k x
      share_reaches p listed some x is = elim (share_stands m i e at listed.0 p (place_at (slice_index_or all i []) p listed)) [
        | inl (l, constant, more, named) ↦
            let a = component_is m i e at p.solution k in
            let b = component_is m i e at p.solution l in
            let z : Some o ≡ Some e = sym there ∙ at in
            let one : o ≡ e = cc in
            by_name l (column_within m.leaf.made m.leaf.ready.closed e.operator l constant.used.column) (is ∙ named)
            (summand e.operator (entry_operator m.leaf i e at) (subst (λ (o : Sums). IsBound d t (class_of s) (tag_in tags) o.operator k) one bound) constant
            (record { solution = p.solution; among = share_taken m i e at p listed; left = omega (arith, some, a); right = omega (arith, more, b) }))
        | inr (none, new) ↦
            let n = new.is in
            let z = ap (λ (x : Variable). x.name) is in
            by_new (ap (λ (x : Variable). x.fresh) is ∙ new.fresh) (omega (arith, n, z))
      ]

  -- the form of a class
  pub form_reaches : (k : ℕ) (b : Binder) → IsBinderOf d t (class_of s) (tag_in tags) r.sums k b → (u : FlatTerm) → bound_by d t (class_of s) names r.sums all b k ≡ Some u → Holds (IsReached k) u
  form_reaches k Nothing h u e = cc
  form_reaches k (Member i) h u e = subst (Holds (IsReached k)) (Some-injective e) (member_reaches k i h)
  form_reaches k (Sum i) (o, at, bound) u e =
      let l = entry_within m.leaf i o at in
      let n = m.shares_are.as_many in
      subst (Holds (IsReached k)) (sym (sum_at_place d r.sums all i k o at (omega (arith, l, n))) ∙ Some-injective e) (sum_reaches k i o at (o, at, bound))
