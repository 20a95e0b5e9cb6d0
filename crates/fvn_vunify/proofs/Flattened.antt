-- Flattened pairs have the unifiers in the theory of the plain pairs.
use Rattle.std.proofs.Common.{[], ◌∷◌}
use Rattle.std.specs.Prelude.{◌↔◌, All, Contains}
use Rattle.std.proofs.lemmas.List.Elements.{All-nil, All-cons, All-head, All-tail}
use Rattle.fvn_terms.specs.declared.plain.Var.{Var}
use Rattle.fvn_terms.specs.declared.declarations.Declarations.{Declarations}
use Rattle.fvn_terms.specs.Term.{Term}
use Rattle.fvn_terms.specs.Substitution.{Substitution, apply}
use Rattle.fvn_terms.specs.Equality.{BEqual}
use Rattle.fvn_terms.specs.Sorts.{IsWellSorted}
use Rattle.fvn_terms.specs.Unifiers.{Problem}
use Rattle.fvn_terms.specs.Theory.{TEqual}
use Rattle.fvn_terms.specs.Laws.{TheoryLaws}
use Rattle.fvn_terms.proofs.Equal.{BEqual-sym, BEqual-apply}
use Rattle.fvn_forms.specs.FitsKinds.{FitsKinds}
use Rattle.fvn_forms.proofs.ToCanon.{to_canon}
use Rattle.fvn_flat.specs.Problems.{variables_of, plain_pairs, flat_pairs, IsProblem, ArePairsEqual}
use Rattle.fvn_exploring.specs.Setting.{Setting}
use Rattle.fvn_vunify.specs.Solutions.{IsKeptUnifier, IsIrreducibleUnifier}
use Rattle.fvn_vunify.specs.Laws.{HaveOneTheoryAnswer}
use Rattle.fvn_vunify.proofs.IrreducibleValues.{OfOneKind}

module _ (d : Declarations) where
  turned : (ps qs : Problem) → ArePairsEqual d ps qs → ArePairsEqual d qs ps
  turned [] [] e = tt
  turned [] (q ∷ qs) e = absurd e
  turned (p ∷ ps) [] e = absurd e
  turned (p ∷ ps) (q ∷ qs) e = ((BEqual-sym d e.0.0, BEqual-sym d e.0.1), turned ps qs e.1)

  flattened_equal : FitsKinds d → (problem : Problem) → IsProblem d problem → ArePairsEqual d problem (plain_pairs (flat_pairs d problem))
  flattened_equal fits [] h = tt
  flattened_equal fits (p ∷ problem) h =
      let k = All-head (OfOneKind d) p problem h in
      ((to_canon d fits p.0 k.0 k.1, to_canon d fits p.1 k.0 k.2), flattened_equal fits problem (All-tail (OfOneKind d) p problem h))

module _ (g : Setting) (theory : TheoryLaws g.declarations g.equations) where
  module _ (s : Substitution) (sorted : IsWellSorted g.declarations s) where
    abbrev Unified : Term × Term → Type 0
    Unified p = TEqual g.declarations g.equations (apply s p.0) (apply s p.1)

    unified_along : (p q : Term × Term) → BEqual g.declarations p.0 q.0 → BEqual g.declarations p.1 q.1 → Unified p → Unified q
    unified_along p q l r u =
        let e = theory.equivalence in
        let left = theory.modulo (apply s q.0) (apply s p.0) (BEqual-sym g.declarations (BEqual-apply g.declarations s sorted.0 l)) in
        let right = theory.modulo (apply s p.1) (apply s q.1) (BEqual-apply g.declarations s sorted.0 r) in
        e.transitive (apply s q.0) (apply s p.0) (apply s q.1) left (e.transitive (apply s p.0) (apply s p.1) (apply s q.1) u right)

    solves_along : (ps qs : Problem) → ArePairsEqual g.declarations ps qs → All Unified ps → All Unified qs
    solves_along [] [] e h = All-nil Unified
    solves_along [] (q ∷ qs) e h = absurd e
    solves_along (p ∷ ps) [] e h = absurd e
    solves_along (p ∷ ps) (q ∷ qs) e h =
        All-cons Unified q qs (unified_along p q e.0.0 e.0.1 (All-head Unified p ps h)) (solves_along ps qs e.1 (All-tail Unified p ps h))

  kept_along : (ps qs : Problem) → ArePairsEqual g.declarations ps qs → (s : Substitution) → IsKeptUnifier g ps s → IsKeptUnifier g qs s
  kept_along ps qs e s h = record { unifier = (h.unifier.0, solves_along s h.unifier.0 ps qs e h.unifier.1); stay = h.stay }

  module _ (ps qs : Problem) (same : (x : Var) → Contains (variables_of ps) x ↔ Contains (variables_of qs) x) (e : ArePairsEqual g.declarations ps qs) where
    there : (s : Substitution) → IsIrreducibleUnifier g ps s → IsIrreducibleUnifier g qs s
    there s h = record { kept = kept_along ps qs e s h.kept; values = λ x m. h.values x ((same x).1 m) }

    back : (s : Substitution) → IsIrreducibleUnifier g qs s → IsIrreducibleUnifier g ps s
    back s h = record { kept = kept_along qs ps (turned g.declarations ps qs e) s h.kept; values = λ x m. h.values x ((same x).0 m) }

    pub one_theory_answer : HaveOneTheoryAnswer g ps qs
    one_theory_answer = record {
      kept = λ s. (kept_along ps qs e s, kept_along qs ps (turned g.declarations ps qs e) s);
      irreducible = λ s. (there s, back s);
      instances = λ a b. (
        λ i. record { after = i.after; well_sorted = i.well_sorted; equal = λ x m. i.equal x ((same x).1 m) },
        λ i. record { after = i.after; well_sorted = i.well_sorted; equal = λ x m. i.equal x ((same x).0 m) },
      );
      theory_instances = λ a b. (
        λ i. record { after = i.after; well_sorted = i.well_sorted; equal = λ x m. i.equal x ((same x).1 m) },
        λ i. record { after = i.after; well_sorted = i.well_sorted; equal = λ x m. i.equal x ((same x).0 m) },
      );
    }

pub flattened_answer : (g : Setting) → TheoryLaws g.declarations g.equations → FitsKinds g.declarations → (problem : Problem) → IsProblem g.declarations problem →
    ((x : Var) → Contains (variables_of problem) x ↔ Contains (variables_of (plain_pairs (flat_pairs g.declarations problem))) x) →
    HaveOneTheoryAnswer g problem (plain_pairs (flat_pairs g.declarations problem))
flattened_answer g theory fits problem h same =
    one_theory_answer g theory problem (plain_pairs (flat_pairs g.declarations problem)) same (flattened_equal g.declarations fits problem h)
