-- The variables of a table, the kinds of its nodes, and the names of its classes.
use Rattle.std.proofs.Common.{◌≡◌, ◌≢◌, ℕ, ◌+◌, ◌<◌, ◌≤◌, List, [], ◌∷◌, ◌++◌, length, get_or, sym, ap, ◌∙◌, subst, inl, inr, arith, Contains, Some}
use Rattle.std.specs.Prelude.{◌↔◌, AllPairs, slice_get}
use Rattle.std.proofs.lemmas.Bool.{cases_lt}
use Rattle.std.proofs.lemmas.List.Elements.{Contains-get_or, Contains-append_left, Contains-push, Contains-push_cases}
use Rattle.std.proofs.lemmas.List.Quantifiers.{all_pairs_push}
use Rattle.std.proofs.lemmas.Option.{slice_get_within, slice_get-get_or}
use Rattle.fvn_terms.specs.declared.plain.Var.{Var as Variable}
use Rattle.fvn_terms.specs.declared.plain.OpId.{OpId}
use Rattle.fvn_terms.specs.declared.plain.SortId.{SortId}
use Rattle.fvn_terms.specs.declared.declarations.Declarations.{Declarations}
use Rattle.fvn_terms.specs.Signature.{kind, HasKind}
use Rattle.fvn_signature.specs.Queries.{GivesKind}
use Rattle.fvn_combine_nodes.specs.Table.{NodeTable, IsWellMade, IsOver, term_at}
use Rattle.fvn_combine_nodes.specs.declared.table.Node.{Node}
use Rattle.fvn_combine_nodes.specs.declared.table.Node.TheVariants.{Var, App}
use Rattle.fvn_combine_nodes.proofs.Nodes.{term_at-variable, term_at-over, term_at-injective}
use Rattle.fvn_combine_triangular.specs.Ready.{AreVariablesOf}
use Rattle.fvn_combine_triangular.proofs.Fronts.{AreFront}
use Rattle.fvn_combine_triangular.specs.inner.Planning.{no_name, IsNameAt, AreNames}

-- the list with the node's variable, where the node is one
abbrev pub IsNoted : Node → List Variable → List Variable → Type 0
IsNoted (Var x) before now = now ≡ before ++ x ∷ []
IsNoted (App f ks) before now = now ≡ before

module _ (t : NodeTable) (made : IsWellMade t) where
  -- the variables of the nodes before this one
  pub record AreVariablesFront (n : ℕ) (vars : List Variable) : Type 0 where
    pub distinct : AllPairs ◌≢◌ vars
    pub exact : (x : Variable) → Contains vars x ↔ ((i : ℕ) × (i < n) × (slice_get t.nodes i ≡ Some (Var x)))

  pub no_variables : (vars : List Variable) → vars ≡ [] → AreVariablesFront 0 vars
  no_variables vars none = subst (AreVariablesFront 0) (sym none) record {
    distinct = λ i j d l m. absurd (omega (arith, m));
    exact = λ x. ((λ m. let l = m.1 in absurd (omega (arith, l))), (λ m. let l = m.1 in absurd (omega (arith, l))));
  }

  pub one_node : (i j : ℕ) (x : Variable) → slice_get t.nodes i ≡ Some (Var x) → slice_get t.nodes j ≡ Some (Var x) → i ≡ j
  one_node i j x p q =
      term_at-injective t.nodes made.distinct i j (slice_get_within t.nodes i (Var x) p) (slice_get_within t.nodes j (Var x) q)
      (term_at-variable t.nodes i x p ∙ sym (term_at-variable t.nodes j x q))

  pub one_variable : (n : ℕ) (vars : List Variable) (x : Variable) → slice_get t.nodes n ≡ Some (Var x) → AreVariablesFront n vars → AreVariablesFront (n + 1) (vars ++ x ∷ [])
  one_variable n vars x is h = record {
    distinct = all_pairs_push ◌≢◌ vars x h.distinct (λ k d l same.
        let m = (h.exact (get_or vars k d)).0 (Contains-get_or vars k d l) in
        let e = one_node m.0 n x (subst (λ y. slice_get t.nodes m.0 ≡ Some (Var y)) same m.2) is in
        let b = m.1 in
        omega (arith, b, e));
    exact = λ y. (
      λ m. elim (Contains-push_cases vars x y m) [
        | inl old ↦ let p = (h.exact y).0 old in (p.0, (let l = p.1 in omega (arith, l)), p.2)
        | inr same ↦ (n, omega arith, is ∙ ap (λ z. Some (Var z)) same)
      ],
      λ m. elim (cases_lt m.0 n) [
        | inl below ↦ Contains-append_left vars (x ∷ []) y ((h.exact y).1 (m.0, below, m.2))
        | inr above ↦
            let e : m.0 ≡ n = let l = m.1 in omega (arith, above, l) in
            let k : Some (Var x) ≡ Some (Var y) = sym is ∙ ap (slice_get t.nodes) (sym e) ∙ m.2 in
            let one : x ≡ y = cc in
            subst (Contains (vars ++ x ∷ [])) one (Contains-push vars x)
      ],
    );
  }

  pub no_variable : (n : ℕ) (vars : List Variable) (f : OpId) (ks : List ℕ) → IsOver t.nodes n f ks → AreVariablesFront n vars → AreVariablesFront (n + 1) vars
  no_variable n vars f ks is h = record {
    distinct = h.distinct;
    exact = λ y. (
      λ m. let p = (h.exact y).0 m in (p.0, (let l = p.1 in omega (arith, l)), p.2),
      λ m. elim (cases_lt m.0 n) [
        | inl below ↦ (h.exact y).1 (m.0, below, m.2)
        | inr above ↦
            let e : m.0 ≡ n = let l = m.1 in omega (arith, above, l) in
            let k : Some (App f ks) ≡ Some (Var y) = sym is ∙ ap (slice_get t.nodes) (sym e) ∙ m.2 in
            absurd cc
      ],
    );
  }

  pub all_variables : (n : ℕ) (vars : List Variable) → length t.nodes ≤ n → AreVariablesFront n vars → AreVariablesOf t vars
  all_variables n vars all h = record {
    distinct = h.distinct;
    exact = λ x. (
      λ m. let p = (h.exact x).0 m in (p.0, p.2),
      λ m. (h.exact x).1 (m.0, (let l = slice_get_within t.nodes m.0 (Var x) m.1 in omega (arith, l, all)), m.1),
    );
  }

  -- one more node
  pub more_variables : (ns : List Node) → ns ≡ t.nodes → (n : ℕ) (vars now : List Variable) (node : Node) → n < length ns → node ≡ get_or ns n node → AreVariablesFront n vars → IsNoted node vars now → AreVariablesFront (n + 1) now
  more_variables ns same n vars now node l is h = go node at
    where
      at : slice_get t.nodes n ≡ Some node
      at = ap (λ ns. slice_get ns n) (sym same) ∙ slice_get-get_or ns n node l ∙ ap Some (sym is)

      go : (node : Node) → slice_get t.nodes n ≡ Some node → IsNoted node vars now → AreVariablesFront (n + 1) now
      go (Var x) at e = subst (AreVariablesFront (n + 1)) (sym e) (one_variable n vars x at h)
      go (App f ks) at e = subst (AreVariablesFront (n + 1)) (sym e) (no_variable n vars f ks at h)

  module _ (d : Declarations) where
    -- the kind of a node that is a variable, and of one with an operator
    pub kind_of_variable : (i : ℕ) (x : Variable) → slice_get t.nodes i ≡ Some (Var x) → (k : SortId) → HasKind d (term_at t.nodes i) k → kind d x.sort ≡ k
    kind_of_variable i x is k h = (subst (λ u. HasKind d u k) (term_at-variable t.nodes i x is) h).1

    pub kind_of_operator : (i : ℕ) (f : OpId) (ks : List ℕ) → IsOver t.nodes i f ks → (q : SortId) → GivesKind d f q → (k : SortId) → HasKind d (term_at t.nodes i) k → q ≡ k
    kind_of_operator i f ks is q known k h =
        let fits = subst (λ u. HasKind d u k) (term_at-over t.nodes made.ordered i f ks is) h in
        known fits.rank fits.listed ∙ fits.result

    -- one name for each node
    pub all_names : (first n : ℕ) (names : List Variable) → length t.nodes ≤ n → n ≤ length t.nodes → AreFront no_name (IsNameAt d t first) n names → AreNames d t first names
    all_names first n names l m h =
        let same : n ≡ length t.nodes = omega arith in
        record { as_many = h.as_many ∙ same; each = λ k b. h.each k (omega (arith, b, same)) }
