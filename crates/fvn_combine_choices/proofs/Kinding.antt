-- Bindings by a plan keep kinds.
use Rattle.std.proofs.Common.{◌≡◌, ℕ, ◌<◌, List, [], ◌∷◌, length, map, refl, sym, ap, ◌∙◌, subst, inl, inr, arith, All, Contains, Option, Some, None}
use Rattle.std.specs.List.{AllByRecursion}
use Rattle.std.proofs.lemmas.List.Elements.{All-head, All-tail, All-contains}
use Rattle.std.proofs.lemmas.Option.{slice_get_within}
use Rattle.fvn_base.proofs.Membership.{contains_cases, contains_none}
use Rattle.fvn_base.proofs.Options.{Some-injective}
use Rattle.fvn_terms.specs.declared.plain.Var.{Var}
use Rattle.fvn_terms.specs.declared.plain.OpId.{OpId}
use Rattle.fvn_terms.specs.declared.plain.SortId.{SortId}
use Rattle.fvn_terms.specs.declared.declarations.Axioms.{Axioms}
use Rattle.fvn_terms.specs.declared.declarations.Axioms.TheVariants.{Free, Comm, AssocComm, AssocCommId}
use Rattle.fvn_terms.specs.declared.declarations.Declarations.{Declarations}
use Rattle.fvn_terms.specs.Term.{var, app, pack}
use Rattle.fvn_terms.specs.Signature.{kind, axioms, IsSort, HasKind, HaveKinds, IsTerm, KeepsKinds}
use Rattle.fvn_terms.specs.Equality.{constant, IsAssociative, identity}
use Rattle.fvn_forms.specs.Flat.{FlatTerm, fvar, plain}
use Rattle.fvn_forms.specs.Canon.{empty_sum, sum, canon}
use Rattle.fvn_forms.proofs.KindsKept.{kind_unique, both_of_kind}
use Rattle.fvn_forms.proofs.KindsOfSums.{sum_of_forms_of_kind}
use Rattle.fvn_forms.proofs.ToCanon.{canon_of_kind}
use Rattle.fvn_flat.specs.Bindings.{Bindings}
use Rattle.fvn_flat.specs.Partitions.{HasNoIdentity}
use Rattle.fvn_flat.specs.Solving.{problem_of}
use Rattle.fvn_flat.specs.SolvedLists.{Form, unbound, as_member, as_sum, Part, Plan, IsClass, IsBinding, names_of, over_classes, members_of, bound_as, unfolded}
use Rattle.fvn_flat.specs.declared.solver.Pairs.{Pairs}
use Rattle.fvn_combine_nodes.specs.Table.{NodeTable, IsOver, term_at}
use Rattle.fvn_combine_nodes.specs.Laws.{class_at}
use Rattle.fvn_combine_nodes.specs.States.{class_of}
use Rattle.fvn_combine_nodes.specs.declared.state.State.{State}
use Rattle.fvn_combine_nodes.specs.declared.table.Node.TheVariants.{App}
use Rattle.fvn_combine_nodes.proofs.Nodes.{term_at-over, arguments_within}
use Rattle.fvn_combine_nodes.proofs.NodesOf.{own_class, variable_place}
use Rattle.fvn_combine_nodes.proofs.Subterms.{node_kinded}
use Rattle.fvn_combine_systems.specs.NodeSystems.{IsNodeColumn}
use Rattle.fvn_combine_leaves.specs.Leaves.{IsSumOperator}
use Rattle.fvn_combine_choices.specs.Binding.{IsBound}
use Rattle.fvn_combine_choices.specs.Choosing.{Systems, Choice}
use Rattle.fvn_combine_choices.specs.Plans.{IsFormBy}
use Rattle.fvn_combine_choices.specs.Laws.{IsPlanned}
use Rattle.fvn_combine_choices.proofs.KindsOf.{kind_itself, IsKindOf, kind_of_unique}
use Rattle.fvn_combine_choices.proofs.Triangular.{unfolded_keeps}
use Rattle.fvn_combine_choices.proofs.Valid.{bound_column}
use Rattle.fvn_combine_choices.proofs.Planned.{has_sums, class_within, class_itself, class_below, bound_operator}
use Rattle.fvn_combine_choices.proofs.Parts.{part_stands}
use Rattle.fvn_combine_choices.proofs.Members.{each_member}
use Rattle.fvn_combine_choices.proofs.Standing.{some_members}

bare : (a : Axioms) → identity a ≡ None → HasNoIdentity a
bare Free e = tt
bare Comm e = tt
bare AssocComm e = tt
bare (AssocCommId o) e = cc

module _ {d : Declarations} {given : Pairs} {first : ℕ} {t : NodeTable} {s : State} {y : Systems} {c : Choice} {next : ℕ} {plan : Plan} {bindings : Bindings} (h : IsPlanned d given first t s y c next plan bindings) where
  pub term_kinded : (i : ℕ) → i < length t.nodes → IsTerm d (term_at t.nodes i)
  term_kinded i l = node_kinded d h.good.fits (problem_of given) h.is_given.kinds t h.table i l

  -- the name of a class has the kind of each node in it
  pub name_kind : (i : ℕ) → i < length t.nodes → (k : SortId) → HasKind d (term_at t.nodes i) k → HasKind d (var (plan.name (class_of s i))) k
  name_kind i l k r =
      let name = h.plan_by.names (class_of s i) (class_within h i l) in
      let sort = (plan.name (class_of s i)).sort in
      let there = h.kinds (class_of s i) i sort (class_within h i l) l (class_itself h i l) name.sort in
      let own = kind_itself h.good (term_at t.nodes (class_of s i)) sort name.sort in
      (own.0, own.1 ∙ kind_unique d h.good.fits (term_at t.nodes i) sort k there r)

  class_kind : (i n : ℕ) → i < length t.nodes → class_of s i ≡ n → (k : SortId) → HasKind d (term_at t.nodes i) k → HasKind d (var (plan.name n)) k
  class_kind i n l e k r = subst (λ m. HasKind d (var (plan.name m)) k) e (name_kind i l k r)

  -- of the name of a column of f's sum system, it is that of f
  pub column_kind : (f : OpId) → IsAssociative (axioms d f) → (k : ℕ) → IsNodeColumn t (class_of s) f k → (q : SortId) × (HasKind d (var (plan.name k)) q × IsKindOf h.good f q)
  column_kind f assoc k m =
      let within = slice_get_within t.nodes m.sum (App f (m.left ∷ m.right ∷ [])) m.over in
      let args = arguments_within t.nodes h.well_made.ordered m.sum f (m.left ∷ m.right ∷ []) m.over in
      let r = term_kinded m.sum within in
      let over = subst (λ u. HasKind d u r.0) (term_at-over t.nodes h.well_made.ordered m.sum f (m.left ∷ m.right ∷ []) m.over) r.1 in
      let both = both_of_kind d h.good.fits f assoc (term_at t.nodes m.left) (term_at t.nodes m.right) r.0 over in
      let named : HasKind d (var (plan.name k)) r.0 =
      elim (contains_cases (class_of s m.sum) (class_of s m.left ∷ class_of s m.right ∷ []) k m.among) [
        | inl e ↦ class_kind m.sum k within e r.0 r.1
        | inr o ↦ elim (contains_cases (class_of s m.left) (class_of s m.right ∷ []) k o) [
          | inl e ↦ class_kind m.left k (args 0 0 (omega arith)) e r.0 both.0
          | inr p ↦ elim (contains_cases (class_of s m.right) [] k p) [
            | inl e ↦ class_kind m.right k (args 1 0 (omega arith)) e r.0 both.1
            | inr z ↦ absurd (contains_none k z)
          ]
        ]
      ]
      in
      (r.0, (named, record { rank = over.rank; listed = over.listed; gives = over.result }))

  -- what stands for a solution has the kind of f
  pub part_kind : (f : OpId) (sum_of : IsSumOperator d t f) (k : SortId) → IsKindOf h.good f k → (p : Part) → Contains (plan.parts f) p → HasKind d (var p.variable) k
  part_kind f sum_of k of p m = elim (part_stands h f sum_of p m) [
    | inl r ↦
        let q = column_kind f sum_of.associative r.number r.constant.used.column in
        subst (λ x. HasKind d (var x) k) (sym r.named) (subst (HasKind d (var (plan.name r.number))) (kind_of_unique h.good f q.0 k q.1.1 of) q.1.0)
    | inr r ↦
        let new = r.new in
        let result = new.rank.result in
        let is = sym new.sort in (
          subst (IsSort d) is (h.good.kinded.listed result (h.good.kinded.ranks f new.rank new.declared_so).1),
          ap (kind d) new.sort ∙ h.good.kinded.own result ∙ (h.good.fits.agree f new.rank of.rank new.declared_so of.listed).1 ∙ of.gives,
        )
  ]

  -- the sum to which a class is bound has the kind of f
  pub sum_kind : (f : OpId) (k : ℕ) → IsBound d t (class_of s) c.tag f k → (q : SortId) → IsKindOf h.good f q → HasKind d (plain (sum d f (members_of d (problem_of given) (class_at t (class_of s)) plan f k))) q
  sum_kind f k bound q of = go (members_of d (problem_of given) (class_at t (class_of s)) plan f k) refl (each_member (λ u. HasKind d (plain u) q) (plan.columns f) (plan.parts f) k (λ p m some. part_kind f (bound_operator h f k bound) q of p m))
    where
      empty : (i : Option OpId) → identity (axioms d f) ≡ i → (HasNoIdentity (axioms d f) → ⊥) → HasKind d (plain (empty_sum d f i)) q
      empty None e n = absurd (n (bare (axioms d f) e))
      empty (Some o) e n = subst (HasKind d (constant o)) of.gives (h.good.fits.identity f o of.rank e of.listed)

      go : (l : List FlatTerm) → members_of d (problem_of given) (class_at t (class_of s)) plan f k ≡ l → AllByRecursion (λ u. HasKind d (plain u) q) l → HasKind d (plain (sum d f l)) q
      go [] e all = empty (identity (axioms d f)) refl (λ n. some_members h f k bound n e)
      go (x ∷ xs) e all = sum_of_forms_of_kind d h.good.fits f (bound_operator h f k bound).associative q of.rank of.listed of.gives x xs all

  -- names in place of arguments have their kinds
  names_kind : (ks : List ℕ) → All (λ k. k < length t.nodes) ks → (qs : List SortId) → HaveKinds d (pack (map (term_at t.nodes) ks)) qs → HaveKinds d (names_of d (problem_of given) (class_at t (class_of s)) plan (pack (map (term_at t.nodes) ks))) qs
  names_kind [] l [] r = r
  names_kind [] l (q ∷ qs) r = absurd r
  names_kind (k ∷ ks) l [] r = absurd r
  names_kind (k ∷ ks) l (q ∷ qs) r =
      let P = λ (k : ℕ). k < length t.nodes in
      let within = All-head P k ks l in (
        subst (λ m. HasKind d (var (plan.name m)) q) (sym (own_class h.well_made h.table (class_of s) k within)) (name_kind k within q r.0),
        names_kind ks (All-tail P k ks l) qs r.1,
      )

  -- what a free or commutative operator makes of the names of classes
  pub over_names_kind : (i : ℕ) (f : OpId) (ks : List ℕ) → IsOver t.nodes i f ks → (q : SortId) → HasKind d (term_at t.nodes i) q → HasKind d (app f (names_of d (problem_of given) (class_at t (class_of s)) plan (pack (map (term_at t.nodes) ks)))) q
  over_names_kind i f ks over q r =
      let w = subst (λ u. HasKind d u q) (term_at-over t.nodes h.well_made.ordered i f ks over) r in
      record { rank = w.rank; listed = w.listed; args = names_kind ks (arguments_within t.nodes h.well_made.ordered i f ks over) (map (kind d) w.rank.args) w.args; result = w.result }

  pub over_classes_is : (i : ℕ) (f : OpId) (ks : List ℕ) → IsOver t.nodes i f ks → over_classes d (problem_of given) (class_at t (class_of s)) plan (term_at t.nodes i) ≡ canon d (app f (names_of d (problem_of given) (class_at t (class_of s)) plan (pack (map (term_at t.nodes) ks))))
  over_classes_is i f ks over = ap (over_classes d (problem_of given) (class_at t (class_of s)) plan) (term_at-over t.nodes h.well_made.ordered i f ks over)

  -- what a class is bound to has the kind of its name
  pub bound_kind : (k : ℕ) → IsClass d (problem_of given) (class_at t (class_of s)) k → (u : FlatTerm) → bound_as d (problem_of given) (class_at t (class_of s)) plan (plan.form k) k ≡ Some u → HasKind d (plain u) (kind d (plan.name k).sort)
  bound_kind k is u e = go (plan.form k) (h.plan_by.forms k (class_below h k is)) e
    where
      go : (form : Form) → IsFormBy d t (class_of s) y c k form → bound_as d (problem_of given) (class_at t (class_of s)) plan form k ≡ Some u → HasKind d (plain u) (kind d (plan.name k).sort)
      go unbound by e = cc
      go (as_member v) by e =
          let i = by.0 in
          let m = by.1 in
          let within = slice_get_within t.nodes i (App m.operator m.arguments) m.over in
          let r = term_kinded i within in
          let named = class_kind i k within m.of r.0 r.1 in
          let whole = canon_of_kind d h.good.fits (app m.operator (names_of d (problem_of given) (class_at t (class_of s)) plan (pack (map (term_at t.nodes) m.arguments)))) r.0 (over_names_kind i m.operator m.arguments m.over r.0 r.1) in
          let same = sym (over_classes_is i m.operator m.arguments m.over) ∙ ap (over_classes d (problem_of given) (class_at t (class_of s)) plan) by.2 ∙ Some-injective e in
          subst (HasKind d (plain u)) (sym named.1) (subst (λ w. HasKind d (plain w) r.0) same whole)
      go (as_sum f) by e =
          let sum_of = bound_operator h f k by in
          let column = ((h.systems.is_system f sum_of).exact k).0 (bound_column (has_sums h) (class_of s) y h.systems c f sum_of k by) in
          let q = column_kind f sum_of.associative k column in
          subst (HasKind d (plain u)) (sym q.1.0.1) (subst (λ w. HasKind d (plain w) q.0) (Some-injective e) (sum_kind f k by q.0 q.1.1))

  binding_kind : (b : Var × FlatTerm) → IsBinding d (problem_of given) (class_at t (class_of s)) plan b → HasKind d (plain b.1) (kind d b.0.sort)
  binding_kind b (inl r) = subst (λ x. HasKind d (plain b.1) (kind d x.sort)) (sym r.2) (bound_kind r.0 r.1 b.1 r.3)
  binding_kind b (inr r) =
      let x = b.0 in
      let n = variable_place h.well_made h.table x r.0 in
      let own = ap (class_at t (class_of s)) (sym n.3) ∙ own_class h.well_made h.table (class_of s) n.0 n.1 in
      let kinded = term_kinded n.0 n.1 in
      let there : HasKind d (var x) kinded.0 = subst (λ u. HasKind d u kinded.0) n.3 kinded.1 in
      subst (λ u. HasKind d (plain u) (kind d x.sort)) (sym (r.2 ∙ ap (λ m. fvar (plan.name m)) own)) (subst (HasKind d (var (plan.name (class_of s n.0)))) (sym there.1) (name_kind n.0 n.1 kinded.0 kinded.1))

  -- what the bindings unfold to keeps kinds
  pub bindings_keep : KeepsKinds d (unfolded bindings)
  bindings_keep = unfolded_keeps d bindings (λ b m sort. binding_kind b (All-contains (IsBinding d (problem_of given) (class_at t (class_of s)) plan) bindings b h.bindings_by.no_other m))
