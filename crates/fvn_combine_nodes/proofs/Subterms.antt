-- Subterms, and the terms of nodes, are well-kinded where the terms of a problem are.
use Rattle.std.proofs.Common.{ℕ, ◌<◌, List, [], ◌∷◌, ◌++◌, length, sym, subst, inl, inr, Contains}
use Rattle.std.proofs.lemmas.List.Elements.{All-head, All-tail, Contains-append_cases}
use Rattle.fvn_base.proofs.Membership.{contains_cases, contains_none, contains_map}
use Rattle.fvn_terms.specs.declared.plain.OpId.{OpId}
use Rattle.fvn_terms.specs.declared.plain.SortId.{SortId}
use Rattle.fvn_terms.specs.declared.declarations.Declarations.{Declarations}
use Rattle.fvn_terms.specs.Term.{Term, Terms, var, app, none, more}
use Rattle.fvn_terms.specs.Signature.{kind, axioms, HasKind, HaveKinds, IsTerm}
use Rattle.fvn_terms.specs.Unifiers.{Problem}
use Rattle.fvn_forms.specs.FitsKinds.{FitsKinds}
use Rattle.fvn_flat.specs.Problems.{subterms, subterms_among, subterms_of, IsProblem}
use Rattle.fvn_combine_nodes.specs.Table.{NodeTable, IsTableOf, IsUnitOf, term_at}
use Rattle.fvn_combine_nodes.proofs.Terms.{contains_once}
use Rattle.fvn_combine_nodes.proofs.Lists.{only_one}

module _ (d : Declarations) where
  mutual
    subterm_kinded : (t : Term) (k : SortId) → HasKind d t k → (u : Term) → Contains (subterms t) u → IsTerm d u
    subterm_kinded (var x) k h u c = subst (IsTerm d) (only_one u (var x) c) (k, h)
    subterm_kinded (app f ts) k h u c = elim (contains_cases (app f ts) (subterms_among ts) u c) [
      | inl e ↦ subst (IsTerm d) e (k, h)
      | inr r ↦ subterm_among_kinded ts _ h.args u r
    ]

    subterm_among_kinded : (ts : Terms) (ks : List SortId) → HaveKinds d ts ks → (u : Term) → Contains (subterms_among ts) u → IsTerm d u
    subterm_among_kinded none ks h u c = absurd (contains_none u c)
    subterm_among_kinded (more t ts) [] h u c = absurd h
    subterm_among_kinded (more t ts) (k ∷ ks) h u c = elim (Contains-append_cases (subterms t) (subterms_among ts) u c) [
      | inl l ↦ subterm_kinded t k h.0 u l
      | inr r ↦ subterm_among_kinded ts ks h.1 u r
    ]

  pub subterms_kinded : (problem : Problem) → IsProblem d problem → (u : Term) → Contains (subterms_of problem) u → IsTerm d u
  subterms_kinded [] h u c = absurd (contains_none u c)
  subterms_kinded (p ∷ problem) h u c =
      let P = λ (p : Term × Term). (k : SortId) × HasKind d p.0 k × HasKind d p.1 k in
      let one = All-head P p problem h in
      elim (Contains-append_cases (subterms p.0 ++ subterms p.1) (subterms_of problem) u c) [
        | inl l ↦ elim (Contains-append_cases (subterms p.0) (subterms p.1) u l) [
          | inl a ↦ subterm_kinded p.0 one.0 one.1 u a
          | inr b ↦ subterm_kinded p.1 one.0 one.2 u b
        ]
        | inr r ↦ subterms_kinded problem (All-tail P p problem h) u r
      ]

  -- the identity of an operator that heads a subterm is a term
  pub unit_kinded : FitsKinds d → (problem : Problem) → IsProblem d problem → (f : OpId) (t : Term) → IsUnitOf d problem f t → IsTerm d t
  unit_kinded fits problem h f t unit =
      let whole = subterms_kinded problem h (app f unit.heads.arguments) unit.heads.listed in
      let rank = whole.1.rank in
      subst (IsTerm d) (sym unit.is) (kind d rank.result, fits.identity f unit.constant_of rank unit.identity whole.1.listed)

  -- a node that is listed has a subterm as its term
  pub listed_subterm : (problem : Problem) (t : NodeTable) → IsTableOf d problem t → (i : ℕ) → Contains t.subterms i → Contains (subterms_of problem) (term_at t.nodes i)
  listed_subterm problem t table i c =
      contains_once (subterms_of problem) (term_at t.nodes i) (subst (λ l. Contains l (term_at t.nodes i)) table.subterms (contains_map (term_at t.nodes) t.subterms i c))

  -- each node of the table of a problem has a term
  module _ (fits : FitsKinds d) (problem : Problem) (is_problem : IsProblem d problem) (t : NodeTable) (table : IsTableOf d problem t) where
    pub node_kinded : (i : ℕ) → i < length t.nodes → IsTerm d (term_at t.nodes i)
    node_kinded i h = elim (table.only i h) [
      | inl c ↦ subterms_kinded problem is_problem (term_at t.nodes i) (listed_subterm problem t table i c)
      | inr a ↦
          let k = a.0 in
          let p = a.1 in
          let unit : IsUnitOf d problem p.0 (term_at t.nodes p.1) = subst (λ q. IsUnitOf d problem q.0 (term_at t.nodes q.1)) a.3 (table.units k p a.2) in
          subst (λ n. IsTerm d (term_at t.nodes n)) a.4 (unit_kinded fits problem is_problem p.0 (term_at t.nodes p.1) unit)
    ]
