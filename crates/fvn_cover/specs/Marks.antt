-- Which candidates are covered by what is kept.
use Rattle.std.specs.Prelude.{◌↔◌, Bool, List, All, IsTrue}
use Rattle.std.specs.List.{AllZip}
use Rattle.fvn_terms.specs.declared.declarations.Declarations.{Declarations}
use Rattle.fvn_cover.specs.declared.variant.Variant.{Variant}
use Rattle.fvn_cover.specs.Covering.{AreAlike, IsFlatVariant}
use Rattle.fvn_cover.specs.Pruning.{IsCoveredBySome}

module _ (d : Declarations) (kept candidates : List Variant) where
  -- all are flat in the signature, and each kept one is alike each candidate
  pub record AreComparable : Type 0 where
    pub kept_flat : All (IsFlatVariant d) kept
    pub candidates_flat : All (IsFlatVariant d) candidates
    pub alike : All (λ k. All (AreAlike k) candidates) kept

  -- for each candidate, in order, whether some kept one covers it
  abbrev pub AreMarks : List Bool → Type 0
  AreMarks marks = AllZip (λ c m. IsTrue m ↔ IsCoveredBySome d kept c) candidates marks
