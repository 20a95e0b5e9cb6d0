-- What the table of a well-kinded problem has: sums over two subterms, and the nodes of identities.
use Rattle.std.proofs.Common.{◌≡◌, ℕ, ◌<◌, List, [], ◌∷◌, length, map, refl, sym, ap, ◌∙◌, subst, inl, inr, arith, Contains, Some, slice_get}
use Rattle.std.proofs.lemmas.List.{length-map}
use Rattle.std.proofs.lemmas.List.Elements.{All-contains}
use Rattle.std.proofs.lemmas.Option.{slice_get_within}
use Rattle.fvn_terms.specs.declared.plain.OpId.{OpId}
use Rattle.fvn_terms.specs.declared.declarations.Declarations.{Declarations}
use Rattle.fvn_terms.specs.Term.{none, pack}
use Rattle.fvn_terms.specs.Signature.{axioms, IsTerm}
use Rattle.fvn_terms.specs.Equality.{IsAssociative}
use Rattle.fvn_terms.specs.Unifiers.{Problem}
use Rattle.fvn_forms.specs.FitsKinds.{FitsKinds}
use Rattle.fvn_flat.specs.Problems.{subterms_of, IsProblem}
use Rattle.fvn_combine_choices.specs.Tables.{HasSums}
use Rattle.fvn_combine_nodes.specs.Table.{NodeTable, IsWellMade, IsTableOf, IsUnitOf, IsOver, term_at}
use Rattle.fvn_combine_nodes.specs.declared.table.Node.TheVariants.{App}
use Rattle.fvn_combine_nodes.proofs.Nodes.{term_at-over, application_at}
use Rattle.fvn_combine_nodes.proofs.Subterms.{subterms_kinded, unit_kinded, listed_subterm}
use Rattle.fvn_combine_nodes.proofs.Heading.{two_arguments}

module _ (d : Declarations) (fits : FitsKinds d) (problem : Problem) (is_problem : IsProblem d problem) (t : NodeTable) (made : IsWellMade t) (table : IsTableOf d problem t) where
  unit_of : (p : OpId × ℕ) → Contains t.units p → IsUnitOf d problem p.0 (term_at t.nodes p.1)
  unit_of p c = All-contains (λ p. IsUnitOf d problem p.0 (term_at t.nodes p.1)) t.units p table.units c

  -- a unit is an operator over nothing
  unit_over : (p : OpId × ℕ) (c : Contains t.units p) → IsOver t.nodes p.1 (unit_of p c).constant_of []
  unit_over p c =
      let u = unit_of p c in
      let within = All-contains (λ p. p.1 < length t.nodes) t.units p made.units c in
      let a = application_at t.nodes made.ordered p.1 u.constant_of none within u.is in
      subst (IsOver t.nodes p.1 u.constant_of) (nothing a.arguments a.terms) a.is
    where
      nothing : (ks : List ℕ) → pack (map (term_at t.nodes) ks) ≡ none → ks ≡ []
      nothing [] e = refl
      nothing (k ∷ ks) e = cc

  -- a node over nodes is a subterm
  sum_pair : (i : ℕ) (f : OpId) (ks : List ℕ) → IsOver t.nodes i f ks → IsAssociative (axioms d f) → (length ks ≡ 2) × Contains t.subterms i
  sum_pair i f ks over assoc = elim (table.only i (slice_get_within t.nodes i (App f ks) over)) [
    | inl c ↦
        let kinded = subterms_kinded d problem is_problem (term_at t.nodes i) (listed_subterm d problem t table i c) in
        let two = two_arguments d fits f (map (term_at t.nodes) ks) (subst (IsTerm d) (term_at-over t.nodes made.ordered i f ks over) kinded) assoc in
        (sym (length-map ks (term_at t.nodes)) ∙ two, c)
    | inr u ↦
        let p = u.1 in
        let c : Contains t.units p = (u.0, u.2, u.3) in
        let o = unit_over p c in
        let same : Some (App (unit_of p c).constant_of []) ≡ Some (App f ks) = sym o ∙ ap (λ n. slice_get t.nodes n) u.4 ∙ over in
        let none_is : ks ≡ [] = cc in
        let is : (unit_of p c).constant_of ≡ f = cc in
        absurd (unit_plain p c (subst (λ g. IsAssociative (axioms d g)) (sym is) assoc))
  ]
    where
      -- the identity of an operator is a constant, and no sum
      unit_plain : (p : OpId × ℕ) (c : Contains t.units p) → IsAssociative (axioms d (unit_of p c).constant_of) → ⊥
      unit_plain p c assoc =
          let u = unit_of p c in
          let kinded = subst (IsTerm d) u.is (unit_kinded d fits problem is_problem p.0 (term_at t.nodes p.1) u) in
          let n = two_arguments d fits u.constant_of [] kinded assoc in
          omega (arith, n)

  pub tables_have_sums : HasSums d t
  tables_have_sums = record {
    pairs = sum_pair;
    units = λ p c. ((unit_of p c).constant_of, (unit_of p c).identity, unit_over p c);
    all_units = λ i f e ks c over id.
        table.all_units f e
        (record { arguments = pack (map (term_at t.nodes) ks); listed = subst (Contains (subterms_of problem)) (term_at-over t.nodes made.ordered i f ks over) (listed_subterm d problem t table i c) })
        id;
  }
