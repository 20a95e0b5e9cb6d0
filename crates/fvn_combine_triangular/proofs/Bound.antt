-- The bindings of classes and of variables, one node after another.
use Rattle.std.proofs.Common.{◌≡◌, ◌≢◌, ℕ, ◌+◌, ◌<◌, List, [], ◌∷◌, ◌++◌, length, get_or, slice_index_or, refl, sym, ap, ◌∙◌, subst, inl, inr, arith, Contains, Option, Some, None}
use Rattle.std.specs.Prelude.{slice_get}
use Rattle.std.proofs.lemmas.Bool.{cases_lt}
use Rattle.std.proofs.lemmas.List.Elements.{Contains-get_or, Contains-append_left, Contains-push, Contains-push_cases}
use Rattle.std.proofs.lemmas.List.Quantifiers.{all_pairs_push}
use Rattle.fvn_base.proofs.Membership.{contains_none}
use Rattle.fvn_base.proofs.Options.{Some-injective}
use Rattle.fvn_terms.specs.declared.plain.Var.{Var as Variable}
use Rattle.fvn_terms.specs.declared.plain.OpId.{OpId}
use Rattle.fvn_terms.specs.declared.declarations.Declarations.{Declarations}
use Rattle.fvn_forms.specs.Flat.{FlatTerm, fvar}
use Rattle.fvn_flat.specs.Bindings.{Bindings}
use Rattle.fvn_combine_nodes.specs.Table.{NodeTable, IsWellMade, IsOver}
use Rattle.fvn_combine_nodes.specs.declared.table.Node.{Node}
use Rattle.fvn_combine_nodes.specs.declared.table.Node.TheVariants.{Var, App}
use Rattle.fvn_combine_leaves.specs.declared.reading.Sums.{Sums}
use Rattle.fvn_combine_triangular.specs.declared.binders.Binder.{Binder}
use Rattle.fvn_combine_triangular.specs.declared.binders.Binder.TheVariants.{Nothing}
use Rattle.fvn_combine_triangular.specs.declared.shares.Share.{Share}
use Rattle.fvn_combine_triangular.specs.inner.Planning.{no_name, name_in, AreApart, bound_by, AreClassesBelow, HasAdded, AreVariablesBelow}
use Rattle.fvn_combine_triangular.proofs.Naming.{one_node}

-- names of different numbers differ
pub name_other : (names : List Variable) → AreApart names → (i j : ℕ) → i < j → j < length names → name_in names i ≢ name_in names j
name_other names apart i j l m = apart i j no_name l m

module _ (d : Declarations) (t : NodeTable) (class : ℕ → ℕ) (names : List Variable) (sums : List Sums) (all : List (List Share)) (binders : List Binder) where
  -- no bindings yet
  pub no_classes : (bindings : Bindings) → bindings ≡ [] → AreClassesBelow d t class names sums all binders 0 bindings
  no_classes bindings none = subst (AreClassesBelow d t class names sums all binders 0) (sym none) record {
    from = λ b m. absurd (contains_none b m);
    every = λ k u l. absurd (omega (arith, l));
    distinct = λ i j d l m. absurd (omega (arith, m));
  }

  -- a node that does not name its class
  pub class_skip : (n : ℕ) (bindings : Bindings) → (class n ≡ n → ⊥) → AreClassesBelow d t class names sums all binders n bindings → AreClassesBelow d t class names sums all binders (n + 1) bindings
  class_skip n bindings other h = record {
    from = λ b m. let r = h.from b m in (r.0, (let l = r.1 in omega (arith, l)), r.2, r.3, r.4);
    every = λ k u l own bound. elim (cases_lt k n) [
      | inl below ↦ h.every k u below own bound
      | inr above ↦
          let e : k ≡ n = omega (arith, l, above) in
          absurd (other (subst (λ m. class m ≡ m) e own))
    ];
    distinct = h.distinct;
  }

  -- one that does, with what it is bound to
  pub class_more : (n : ℕ) (bindings now : Bindings) (name : Variable) (term : Option FlatTerm) → AreApart names → n < length names → class n ≡ n → name ≡ name_in names n → term ≡ bound_by d t class names sums all (slice_index_or binders n Nothing) n
      → HasAdded bindings now name term → AreClassesBelow d t class names sums all binders n bindings → AreClassesBelow d t class names sums all binders (n + 1) now
  class_more n bindings now name None apart within own is bound added h = subst (AreClassesBelow d t class names sums all binders (n + 1)) (sym added) record {
    from = λ b m. let r = h.from b m in (r.0, (let l = r.1 in omega (arith, l)), r.2, r.3, r.4);
    every = λ k u l o e. elim (cases_lt k n) [
      | inl below ↦ h.every k u below o e
      | inr above ↦
          let same : n ≡ k = omega (arith, l, above) in
          let no : None ≡ Some u = bound ∙ ap (λ k. bound_by d t class names sums all (slice_index_or binders k Nothing) k) same ∙ e in
          absurd cc
    ];
    distinct = h.distinct;
  }
  class_more n bindings now name (Some u) apart within own is bound added h = subst (AreClassesBelow d t class names sums all binders (n + 1)) (sym added) record {
    from = λ b m. elim (Contains-push_cases bindings (name, u) b m) [
      | inl old ↦ let r = h.from b old in (r.0, (let l = r.1 in omega (arith, l)), r.2, r.3, r.4)
      | inr same ↦ (n, omega arith, own, ap (λ p. p.0) (sym same) ∙ is, sym bound ∙ ap (λ p. Some p.1) same)
    ];
    every = λ k v l o e. elim (cases_lt k n) [
      | inl below ↦ Contains-append_left bindings ((name, u) ∷ []) (name_in names k, v) (h.every k v below o e)
      | inr above ↦
          let same : n ≡ k = omega (arith, l, above) in
          let one : u ≡ v = Some-injective (bound ∙ ap (λ k. bound_by d t class names sums all (slice_index_or binders k Nothing) k) same ∙ e) in
          subst (λ m. Contains (bindings ++ (name, u) ∷ []) (name_in names m, v)) same
          (subst (λ w. Contains (bindings ++ (name, u) ∷ []) (name_in names n, w)) one
          (subst (λ x. Contains (bindings ++ (name, u) ∷ []) (x, u)) is (Contains-push bindings (name, u))))
    ];
    distinct = all_pairs_push (λ (a b : Variable × FlatTerm). a.0 ≢ b.0) bindings (name, u) h.distinct (λ k e l same.
        let r = h.from (get_or bindings k e) (Contains-get_or bindings k e l) in
        name_other names apart r.0 n r.1 within (sym r.3 ∙ same ∙ is));
  }

module _ (t : NodeTable) (made : IsWellMade t) (class : ℕ → ℕ) (names : List Variable) where
  pub no_bound : (bindings : Bindings) → bindings ≡ [] → AreVariablesBelow t class names 0 bindings
  no_bound bindings none = subst (AreVariablesBelow t class names 0) (sym none) record {
    from = λ b m. absurd (contains_none b m);
    every = λ i x l. absurd (omega (arith, l));
    distinct = λ i j d l m. absurd (omega (arith, m));
  }

  pub bound_skip : (n : ℕ) (bindings : Bindings) (f : OpId) (ks : List ℕ) → IsOver t.nodes n f ks → AreVariablesBelow t class names n bindings → AreVariablesBelow t class names (n + 1) bindings
  bound_skip n bindings f ks over h = record {
    from = λ b m. let r = h.from b m in (r.0, (let l = r.1 in omega (arith, l)), r.2, r.3);
    every = λ i x l is. elim (cases_lt i n) [
      | inl below ↦ h.every i x below is
      | inr above ↦
          let e : i ≡ n = omega (arith, l, above) in
          let k : Some (App f ks) ≡ Some (Var x) = sym over ∙ ap (slice_get t.nodes) (sym e) ∙ is in
          absurd cc
    ];
    distinct = h.distinct;
  }

  pub bound_more : (n : ℕ) (bindings now : Bindings) (x : Variable) (u : FlatTerm) → slice_get t.nodes n ≡ Some (Var x) → u ≡ fvar (name_in names (class n)) → now ≡ bindings ++ (x, u) ∷ [] → AreVariablesBelow t class names n bindings → AreVariablesBelow t class names (n + 1) now
  bound_more n bindings now x u at is pushed h = subst (AreVariablesBelow t class names (n + 1)) (sym pushed) record {
    from = λ b m. elim (Contains-push_cases bindings (x, u) b m) [
      | inl old ↦ let r = h.from b old in (r.0, (let l = r.1 in omega (arith, l)), r.2, r.3)
      | inr same ↦ (n, omega arith, at ∙ ap (λ p. Some (Var p.0)) same, ap (λ p. p.1) (sym same) ∙ is)
    ];
    every = λ i y l e. elim (cases_lt i n) [
      | inl below ↦ Contains-append_left bindings ((x, u) ∷ []) (y, fvar (name_in names (class i))) (h.every i y below e)
      | inr above ↦
          let same : n ≡ i = omega (arith, l, above) in
          let k : Some (Var x) ≡ Some (Var y) = sym at ∙ ap (slice_get t.nodes) same ∙ e in
          let one : x ≡ y = cc in
          subst (λ m. Contains (bindings ++ (x, u) ∷ []) (y, fvar (name_in names (class m)))) same
          (subst (λ w. Contains (bindings ++ (x, u) ∷ []) (y, w)) is
          (subst (λ z. Contains (bindings ++ (x, u) ∷ []) (z, u)) one (Contains-push bindings (x, u))))
    ];
    distinct = all_pairs_push (λ (a b : Variable × FlatTerm). a.0 ≢ b.0) bindings (x, u) h.distinct (λ k e l same.
        let r = h.from (get_or bindings k e) (Contains-get_or bindings k e l) in
        let there = one_node t made r.0 n x (r.2 ∙ ap (λ y. Some (Var y)) same) at in
        let b = r.1 in
        omega (arith, b, there));
  }

  -- one more node
  abbrev pub IsBoundTo : Node → ℕ → Bindings → Bindings → Type 0
  IsBoundTo (Var x) n before now = now ≡ before ++ (x, fvar (name_in names (class n))) ∷ []
  IsBoundTo (App f ks) n before now = now ≡ before

  pub bound_one : (n : ℕ) (bindings now : Bindings) (node : Node) → slice_get t.nodes n ≡ Some node → IsBoundTo node n bindings now → AreVariablesBelow t class names n bindings → AreVariablesBelow t class names (n + 1) now
  bound_one n bindings now (Var x) at is h = bound_more n bindings now x (fvar (name_in names (class n))) at refl is h
  bound_one n bindings now (App f ks) at is h = subst (AreVariablesBelow t class names (n + 1)) (sym is) (bound_skip n bindings f ks at h)
