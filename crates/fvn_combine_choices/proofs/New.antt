-- What the bindings of a plan unfold to has new variables alone.
use Rattle.std.proofs.Common.{◌≡◌, ◌≢◌, ℕ, ◌<◌, ◌≤◌, true, List, [], ◌∷◌, length, map, sym, ap, ◌∙◌, subst, inl, inr, arith, All, Contains, Some}
use Rattle.std.specs.List.{AllByRecursion}
use Rattle.std.proofs.lemmas.List.Elements.{All-head, All-tail, All-contains}
use Rattle.std.proofs.lemmas.Option.{slice_get_within}
use Rattle.fvn_base.proofs.Options.{Some-injective}
use Rattle.fvn_terms.specs.declared.plain.Var.{Var}
use Rattle.fvn_terms.specs.declared.plain.OpId.{OpId}
use Rattle.fvn_terms.specs.declared.declarations.Declarations.{Declarations}
use Rattle.fvn_terms.specs.Term.{var, app, pack}
use Rattle.fvn_terms.specs.Substitution.{Occurs, OccursAmong}
use Rattle.fvn_terms.specs.Signature.{kind, IsSort, HasKind}
use Rattle.fvn_forms.specs.Flat.{FlatTerm, fvar, plain}
use Rattle.fvn_flat.proofs.Occurrences.{OccursIn}
use Rattle.fvn_flat.specs.Bindings.{Bindings}
use Rattle.fvn_flat.specs.Problems.{variables_of}
use Rattle.fvn_flat.specs.Solving.{problem_of}
use Rattle.fvn_flat.specs.SolvedLists.{Form, unbound, as_member, as_sum, Part, Plan, IsClass, IsBinding, names_of, over_classes, members_of, bound_as, unfolded}
use Rattle.fvn_flat.specs.declared.solver.Pairs.{Pairs}
use Rattle.fvn_combine_nodes.specs.Table.{NodeTable, term_at}
use Rattle.fvn_combine_nodes.specs.Laws.{class_at}
use Rattle.fvn_combine_nodes.specs.States.{class_of}
use Rattle.fvn_combine_nodes.specs.declared.state.State.{State}
use Rattle.fvn_combine_nodes.specs.declared.table.Node.TheVariants.{App}
use Rattle.fvn_combine_nodes.proofs.Nodes.{arguments_within}
use Rattle.fvn_combine_nodes.proofs.NodesOf.{own_class, variable_place}
use Rattle.fvn_combine_leaves.specs.Leaves.{IsSumOperator}
use Rattle.fvn_combine_choices.specs.Choosing.{Systems, Choice}
use Rattle.fvn_combine_choices.specs.Plans.{IsForSolution, IsFormBy, unfolds_to}
use Rattle.fvn_combine_choices.specs.Laws.{IsPlanned, PlannedBindingsUnfoldToNew}
use Rattle.fvn_combine_choices.proofs.Triangular.{unfolded_bound, unfolded_occurs}
use Rattle.fvn_combine_choices.proofs.Planned.{class_within, class_below, column_class, name_not_given, bound_operator}
use Rattle.fvn_combine_choices.proofs.Parts.{part_stands}
use Rattle.fvn_combine_choices.proofs.Members.{each_member}
use Rattle.fvn_combine_choices.proofs.KindsOf.{kind_itself}
use Rattle.fvn_combine_choices.proofs.Kinding.{term_kinded, over_names_kind, over_classes_is, bindings_keep}
use Rattle.fvn_combine_choices.proofs.Occurring.{canon_occurs, sum_occurs}

module _ {d : Declarations} {given : Pairs} {first : ℕ} {t : NodeTable} {s : State} {y : Systems} {c : Choice} {next : ℕ} {plan : Plan} {bindings : Bindings} (h : IsPlanned d given first t s y c next plan bindings) where
  -- a new variable with a number in this range, of a kind
  pub record IsNewOne (z : Var) : Type 0 where
    pub fresh : z.fresh ≡ true
    pub above : first ≤ z.name
    pub below : z.name < next
    pub sort : IsSort d z.sort
    pub kind_is : kind d z.sort ≡ z.sort

  pub name_new : (k : ℕ) → k < length t.nodes → IsNewOne (plan.name k)
  name_new k l =
      let n = h.plan_by.names k l in
      let e = n.number.is in
      let own = kind_itself h.good (term_at t.nodes k) (plan.name k).sort n.sort in
      let enough = h.plan_by.enough in
      record { fresh = n.number.fresh; above = omega (arith, e); below = omega (arith, e, l, enough); sort = own.0; kind_is = own.1 }

  solution_new : (f : OpId) (x : Var) → IsForSolution d t first next f x → IsNewOne x
  solution_new f x new =
      let above = new.above in
      let result = new.rank.result in
      let is = sym new.sort in
      record {
        fresh = new.fresh;
        above = omega (arith, above);
        below = new.below;
        sort = subst (IsSort d) is (h.good.kinded.listed result (h.good.kinded.ranks f new.rank new.declared_so).1);
        kind_is = ap (kind d) new.sort ∙ h.good.kinded.own result ∙ is;
      }

  pub part_new : (f : OpId) (sum : IsSumOperator d t f) (p : Part) → Contains (plan.parts f) p → IsNewOne p.variable
  part_new f sum p m = elim (part_stands h f sum p m) [
    | inl r ↦ subst IsNewOne (sym r.named) (name_new r.number (class_below h r.number (column_class h f r.number r.constant.used.column)))
    | inr r ↦ solution_new f p.variable r.new
  ]

  names_new : (z : Var) (ks : List ℕ) → All (λ k. k < length t.nodes) ks → OccursAmong z (names_of d (problem_of given) (class_at t (class_of s)) plan (pack (map (term_at t.nodes) ks))) → IsNewOne z
  names_new z [] l o = absurd o
  names_new z (k ∷ ks) l (inl e) =
      let within = All-head (λ k. k < length t.nodes) k ks l in
      subst IsNewOne (sym (e ∙ ap plan.name (own_class h.well_made h.table (class_of s) k within))) (name_new (class_of s k) (class_within h k within))
  names_new z (k ∷ ks) l (inr o) = names_new z ks (All-tail (λ k. k < length t.nodes) k ks l) o

  among_new : (z : Var) (l : List FlatTerm) → AllByRecursion (λ u. Occurs z (plain u) → IsNewOne z) l → OccursIn z l → IsNewOne z
  among_new z [] all o = absurd o
  among_new z (u ∷ l) all (inl o) = all.0 o
  among_new z (u ∷ l) all (inr o) = among_new z l all.1 o

  -- the variables in what a class is bound to
  class_new : (k : ℕ) → IsClass d (problem_of given) (class_at t (class_of s)) k → (u : FlatTerm) → bound_as d (problem_of given) (class_at t (class_of s)) plan (plan.form k) k ≡ Some u → (z : Var) → Occurs z (plain u) → IsNewOne z
  class_new k is u e z o = go (plan.form k) (h.plan_by.forms k (class_below h k is)) e
    where
      go : (form : Form) → IsFormBy d t (class_of s) y c k form → bound_as d (problem_of given) (class_at t (class_of s)) plan form k ≡ Some u → IsNewOne z
      go unbound by e = cc
      go (as_member v) by e =
          let m = by.1 in
          let within = slice_get_within t.nodes by.0 (App m.operator m.arguments) m.over in
          let r = term_kinded h by.0 within in
          let same = sym (Some-injective e) ∙ ap (over_classes d (problem_of given) (class_at t (class_of s)) plan) (sym by.2) ∙ over_classes_is h by.0 m.operator m.arguments m.over in
          let there = canon_occurs d h.good.fits z (app m.operator (names_of d (problem_of given) (class_at t (class_of s)) plan (pack (map (term_at t.nodes) m.arguments)))) r.0 (over_names_kind h by.0 m.operator m.arguments m.over r.0 r.1) (subst (λ w. Occurs z (plain w)) same o) in
          names_new z m.arguments (arguments_within t.nodes h.well_made.ordered by.0 m.operator m.arguments m.over) there
      go (as_sum f) by e =
          let sum = bound_operator h f k by in
          let l = members_of d (problem_of given) (class_at t (class_of s)) plan f k in
          let all = each_member (λ u. Occurs z (plain u) → IsNewOne z) (plan.columns f) (plan.parts f) k (λ p m some o. subst IsNewOne (sym o) (part_new f sum p m)) in
          among_new z l all (sum_occurs z d f l (subst (λ w. Occurs z (plain w)) (sym (Some-injective e)) o))

  binding_new : (b : Var × FlatTerm) → IsBinding d (problem_of given) (class_at t (class_of s)) plan b → (z : Var) → Occurs z (plain b.1) → IsNewOne z
  binding_new b (inl r) z o = class_new r.0 r.1 b.1 r.3 z o
  binding_new b (inr r) z o =
      let n = variable_place h.well_made h.table b.0 r.0 in
      let own = ap (class_at t (class_of s)) (sym n.3) ∙ own_class h.well_made h.table (class_of s) n.0 n.1 in
      let e : z ≡ plan.name (class_of s n.0) = subst (λ u. Occurs z (plain u)) (r.2 ∙ ap (λ m. fvar (plan.name m)) own) o in
      subst IsNewOne (sym e) (name_new (class_of s n.0) (class_within h n.0 n.1))

  pub unfolding_new : (x : Var) → Contains (variables_of (problem_of given)) x → (z : Var) → Occurs z (plain (unfolds_to d bindings x)) → IsNewOne z
  unfolding_new x m z o =
      let n = variable_place h.well_made h.table x m in
      let own = ap (class_at t (class_of s)) (sym n.3) ∙ own_class h.well_made h.table (class_of s) n.0 n.1 in
      let kinded = term_kinded h n.0 n.1 in
      let there : HasKind d (var x) kinded.0 = subst (λ u. HasKind d u kinded.0) n.3 kinded.1 in
      let inside = canon_occurs d h.good.fits z (unfolded bindings x) (kind d x.sort) (bindings_keep h x there.0) o in
      let within = class_within h n.0 n.1 in
      let named = plan.name (class_at t (class_of s) (var x)) in
      let other : named ≢ x = λ same. name_not_given h (class_of s n.0) within (subst (Contains (variables_of (problem_of given))) (sym same ∙ ap plan.name own) m) in
      let at = unfolded_bound bindings h.bindings_by.triangular (x, fvar named) (h.bindings_by.variables x m other) in
      elim (unfolded_occurs bindings named z (subst (Occurs z) at inside)) [
        | inl e ↦ subst IsNewOne (sym (ap plan.name own) ∙ e) (name_new (class_of s n.0) within)
        | inr w ↦ binding_new w.0 (All-contains (IsBinding d (problem_of given) (class_at t (class_of s)) plan) bindings w.0 h.bindings_by.no_other w.1.0) z w.1.1
      ]

pub unfold_to_new : PlannedBindingsUnfoldToNew
unfold_to_new = λ d given first t s y c next plan bindings h x z m o. let n = unfolding_new h x m z o in (n.fresh, n.above, n.below, n.sort, n.kind_is)
