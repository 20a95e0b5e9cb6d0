-- Solutions that are in each full choice, by a wheel's other columns and by the classes that they have.
use Rattle.std.proofs.Common.{◌≡◌, ◌≢◌, ◌⊎◌, ℕ, List, get_or, refl, sym, ap, ◌∙◌, subst, inl, inr, arith, AllPairs, Option, Some, None}
use Rattle.std.proofs.lemmas.Bool.{cases_eq}
use Rattle.fvn_base.proofs.Options.{Some-injective}
use Rattle.fvn_terms.specs.declared.plain.OpId.{OpId}
use Rattle.fvn_terms.specs.declared.declarations.Declarations.{Declarations}
use Rattle.fvn_terms.specs.Signature.{axioms}
use Rattle.fvn_terms.specs.Equality.{identity}
use Rattle.fvn_acunify.specs.ValidChoice.{touched}
use Rattle.fvn_flat.specs.SolvedLists.{component}
use Rattle.fvn_combine_nodes.specs.Table.{NodeTable}
use Rattle.fvn_combine_leaves.specs.declared.reading.Sums.{Sums}
use Rattle.fvn_combine_choices.proofs.Columns.{component_at, column_listed, column_is}
use Rattle.fvn_combine_complete.specs.Neutral.{IsNeutral}
use Rattle.fvn_combine_complete.specs.Vanishing.{TakesIdentity, MayVanish}
use Rattle.fvn_combine_complete.proofs.Touching.{touched_none, touched_from}
use Rattle.fvn_combine_candidates.specs.Turning.{AreOthers, IsFullFor}

module _ (d : Declarations) (t : NodeTable) (class : ℕ → ℕ) (e : Sums) (distinct : AllPairs ◌≢◌ e.columns) (v : List ℕ) where
  module _ (unit : OpId) (is : identity (axioms d e.operator) ≡ Some unit) (others : List ℕ) (are : AreOthers d t class e unit others) where
    -- a solution that is zero in the other columns may stand for the identity
    vanishes : touched others v ≡ 0 → MayVanish d t class e.operator e.columns v
    vanishes none = record {
      unit = unit;
      is_identity = is;
      each = λ k p.
          let m = column_listed e.columns v k p in
          let of = column_is e.columns k m in
          elim (are.rest m.0 m.1) [
            | inl among ↦ absurd (
                let z = touched_none others v none m.0 among in
                let c = component_at e.columns v distinct m.0 m.1 in
                let s = ap (component e.columns v) of in
                omega (arith, z, c, s, p))
            | inr takes ↦ subst (λ n. IsNeutral d e.operator ⊎ TakesIdentity d t class e.operator unit n) of takes
          ];
    }

    -- one that may do so is zero there
    zero_there : MayVanish d t class e.operator e.columns v → touched others v ≡ 0
    zero_there may = touched_from others v (λ j m.
        let r = are.exact j m in
        elim (cases_eq (get_or v j 0) 0) [
          | inl z ↦ z
          | inr n ↦ absurd (r.1 (
              let c = component_at e.columns v distinct j r.0 in
              let unit_is : may.unit ≡ unit = Some-injective (sym may.is_identity ∙ is) in
              subst (λ o. IsNeutral d e.operator ⊎ TakesIdentity d t class e.operator o (get_or e.columns j 0)) unit_is (may.each (get_or e.columns j 0) (omega (arith, c, n)))))
        ])

  pub vanishes_by : (full : Option (List ℕ)) → IsFullFor d t class e full → (others : List ℕ) → full ≡ Some others → touched others v ≡ 0 → MayVanish d t class e.operator e.columns v
  vanishes_by None h others is none = absurd (let q : None ≡ Some others = is in cc)
  vanishes_by (Some os) h others is none =
      let same : os ≡ others = Some-injective is in
      vanishes h.0 h.1 os h.2 (subst (λ xs. touched xs v ≡ 0) (sym same) none)

  pub zero_by : (full : Option (List ℕ)) → IsFullFor d t class e full → MayVanish d t class e.operator e.columns v → (others : List ℕ) × (full ≡ Some others) × (touched others v ≡ 0)
  zero_by None h may = absurd (let q : None ≡ Some may.unit = sym h ∙ may.is_identity in cc)
  zero_by (Some others) h may = (others, refl, zero_there h.0 h.1 others h.2 may)
