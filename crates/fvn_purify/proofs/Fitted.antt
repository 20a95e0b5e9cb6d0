-- What steps need holds of the classes of a problem.
use Rattle.std.proofs.Common.{◌≡◌, ℕ, ◌<◌, List, [], ◌∷◌, ◌++◌, map, length, refl, sym, subst, inl, inr, slice_get, All, Contains}
use Rattle.std.specs.List.{filter}
use Rattle.std.proofs.lemmas.Option.{slice_get_within}
use Rattle.std.proofs.lemmas.List.Elements.{All-contains, Contains-append_cases}
use Rattle.fvn_base.proofs.Membership.{filter_contains}
use Rattle.fvn_terms.specs.declared.plain.OpId.{OpId}
use Rattle.fvn_terms.specs.declared.plain.SortId.{SortId}
use Rattle.fvn_terms.specs.declared.declarations.Axioms.{Axioms}
use Rattle.fvn_terms.specs.declared.declarations.Axioms.TheVariants.{Free, Comm, AssocComm, AssocCommId}
use Rattle.fvn_terms.specs.declared.declarations.Declarations.{Declarations}
use Rattle.fvn_terms.specs.Term.{none, pack}
use Rattle.fvn_terms.specs.Signature.{axioms, HaveKinds, IsTerm}
use Rattle.fvn_terms.specs.Equality.{constant, IsCommutative}
use Rattle.fvn_terms.specs.Unifiers.{Problem}
use Rattle.fvn_forms.specs.FitsKinds.{FitsKinds}
use Rattle.fvn_flat.specs.Problems.{IsProblem}
use Rattle.fvn_flat.specs.Partitions.{HasNoIdentity}
use Rattle.fvn_combine_nodes.specs.Table.{NodeTable, IsOver, IsWellMade, IsTableOf, IsUnitOf, term_at}
use Rattle.fvn_combine_nodes.specs.declared.table.Node.TheVariants.{Var, App}
use Rattle.fvn_combine_nodes.proofs.Nodes.{application_at}
use Rattle.fvn_purify.specs.Parts.{outline, ArePlaces, AreClassesOf, may_collapse}
use Rattle.fvn_purify.specs.inner.Choices.{AreStepped, HasUnits}
use Rattle.fvn_purify.specs.declared.classes.Classes.{Classes}
use Rattle.fvn_purify.specs.declared.classes.Places.{Places}
use Rattle.fvn_combine_nodes.proofs.Subterms.{unit_kinded}
use Rattle.fvn_combine_nodes.proofs.Lists.{all_from}

module _ (d : Declarations) (t : NodeTable) (places : Places) (are : ArePlaces d t places) where
  listed_within : (i : ℕ) → Contains (are.abstracted ++ are.shared) i → i < length t.nodes
  listed_within i h = elim (Contains-append_cases are.abstracted are.shared i h) [
    | inl a ↦ let k = (are.each_abstracted.all i).0 a in slice_get_within t.nodes i (App k.operator k.arguments) k.is
    | inr b ↦ let k = (are.each_shared.all i).0 b in slice_get_within t.nodes i (Var k.0.0) k.0.1
  ]

  pub abstracted_within : (i : ℕ) → Contains are.abstracted i → i < length t.nodes
  abstracted_within i a = let k = (are.each_abstracted.all i).0 a in slice_get_within t.nodes i (App k.operator k.arguments) k.is

  shared_within : (i : ℕ) → Contains are.shared i → i < length t.nodes
  shared_within i b = let k = (are.each_shared.all i).0 b in slice_get_within t.nodes i (Var k.0.0) k.0.1

  pub parts_within : All (λ i. i < length t.nodes) places.parts
  parts_within = all_from (λ i. i < length t.nodes) places.parts (λ i h. listed_within i (subst (λ l. Contains l i) are.parts h))

  pub headed_within : All (λ i. i < length t.nodes) places.headed
  headed_within = all_from (λ i. i < length t.nodes) places.headed (λ i h. elim (Contains-append_cases (filter (λ i. may_collapse d (slice_get t.nodes i)) are.abstracted) are.shared i (subst (λ l. Contains l i) are.headed h)) [
    | inl a ↦ abstracted_within i (filter_contains (λ i. may_collapse d (slice_get t.nodes i)) are.abstracted i a).0
    | inr b ↦ shared_within i b
  ])

  pub pairs_within : All (λ p. (p.0 < length t.nodes) × (p.1 < length t.nodes)) places.pairs
  pairs_within = all_from (λ p. (p.0 < length t.nodes) × (p.1 < length t.nodes)) places.pairs (λ p h.
      let k = (are.pairs.all p).0 h in
      (slice_get_within t.nodes p.0 (App k.operator k.left) k.left_is, slice_get_within t.nodes p.1 (App k.operator k.right) k.right_is))

-- a constant has no axioms
pub constant_bare : (d : Declarations) → FitsKinds d → (e : OpId) → IsTerm d (constant e) → HasNoIdentity (axioms d e)
constant_bare d fits e h = go (axioms d e) refl_here
  where
    refl_here : axioms d e ≡ axioms d e
    refl_here = refl

    never : IsCommutative (axioms d e) → ⊥
    never comm =
        let two = fits.commutative e h.1.rank comm h.1.listed in
        none_two two.0 (subst (HaveKinds d none) two.1 h.1.args)
      where
        none_two : (k : SortId) → HaveKinds d none (k ∷ k ∷ []) → ⊥
        none_two k h = h

    go : (a : Axioms) → axioms d e ≡ a → HasNoIdentity (axioms d e)
    go Free is = subst HasNoIdentity (sym is) tt
    go Comm is = subst HasNoIdentity (sym is) tt
    go AssocComm is = subst HasNoIdentity (sym is) tt
    go (AssocCommId o) is = absurd (never (subst IsCommutative (sym is) tt))

-- arguments of a constant
no_arguments : (t : NodeTable) (ks : List ℕ) → pack (map (term_at t.nodes) ks) ≡ none → ks ≡ []
no_arguments t [] e = refl
no_arguments t (k ∷ ks) e = cc

pub has_units : (d : Declarations) → FitsKinds d → (problem : Problem) → IsProblem d problem → (t : NodeTable) → IsWellMade t → IsTableOf d problem t → HasUnits d t
has_units d fits problem is_problem t made table p h =
    let unit = All-contains (λ (p : OpId × ℕ). IsUnitOf d problem p.0 (term_at t.nodes p.1)) t.units p table.units h in
    let within = All-contains (λ (p : OpId × ℕ). p.1 < length t.nodes) t.units p made.units h in
    let at = application_at t.nodes made.ordered p.1 unit.constant_of none within unit.is in
    (unit.constant_of, subst (IsOver t.nodes p.1 unit.constant_of) (no_arguments t at.arguments at.terms) at.is, constant_bare d fits unit.constant_of (subst (IsTerm d) unit.is (unit_kinded d fits problem is_problem p.0 (term_at t.nodes p.1) unit)))

pub stepped : (d : Declarations) → FitsKinds d → (problem : Problem) → IsProblem d problem → (c : Classes) → IsWellMade c.table → AreClassesOf d problem c → AreStepped d (outline c)
stepped d fits problem is_problem c made classes = record {
  made = made;
  within = record {
    parts = parts_within d c.table c.places classes.are.places;
    headed = headed_within d c.table c.places classes.are.places;
    pairs = pairs_within d c.table c.places classes.are.places;
  };
  units = has_units d fits problem is_problem c.table made classes.table;
  are = classes.are;
}
