-- The ends of searches for unifiers can be told, and which of them is told.
use Rattle.std.proofs.Common.{◌≡◌, ◌≢◌, ℕ, Option, Some, None, refl, sym, ◌∙◌, subst}
use Rattle.std.specs.Prelude.{Any}
use Rattle.fvn_flat.specs.Drawn.{IsDrawn}
use Rattle.fvn_flat.specs.Solving.{FlatPairs}
use Rattle.fvn_module.specs.Contents.{Contents}
use Rattle.fvn_cover.specs.declared.variant.Variant.{Variant}
use Rattle.fvn_exploring.specs.declared.ends.Explored.{Explored}
use Rattle.fvn_exploring.specs.declared.ends.ExpandEnd.{ExpandEnd}
use Rattle.fvn_exploring.specs.declared.ends.ExpandEnd.TheVariants as expanded
use Rattle.fvn_exploring.specs.declared.ends.ExploreEnd.{ExploreEnd}
use Rattle.fvn_exploring.specs.declared.ends.ExploreEnd.TheVariants.{Complete, Levels, Variants, Steps, Size, Basis, Unifiers}
use Rattle.fvn_exploring.specs.Ends.{explore_end}
use Rattle.fvn_vunify.specs.declared.solved.SolvedModulo.{SolvedModulo}
use Rattle.fvn_vunify.specs.Causes.{IsPairsCause}
use Rattle.fvn_vunify.specs.Sides.{sides_in_turn}
use Rattle.fvn_vunify.specs.Solved.{IsSolvedModulo}
use Rattle.fvn_answer.specs.Answers.{FitsEnd}
use Rattle.fvn_answer.proofs.Declared.{associative-declared}
use Rattle.fvn_cmd_words.specs.declared.reach.Reach.{Reach}
use Rattle.fvn_cmd_exploring.specs.Searches.{setting_of, limits_of, AreExplored}
use Rattle.fvn_cmd_exploring.specs.Ends.{end_told}
use Rattle.fvn_cmd_exploring.proofs.Ending.{told_fits}

module _ (m : Contents) (reach : Reach) (pairs : FlatPairs) (x : Explored) (explored : AreExplored m reach (sides_in_turn pairs) x) (r : SolvedModulo)
    (s : IsSolvedModulo (setting_of m reach) (IsDrawn m.signature) pairs (limits_of m reach 1) x r) (loss : Option ℕ) (count : ℕ) where
  abbrev Tells : ExploreEnd → Type 0
  Tells end = FitsEnd m.signature (end_told reach end loss count)

  whole : Tells Complete
  whole = go loss where
    go : (l : Option ℕ) → FitsEnd m.signature (end_told reach Complete l count)
    go None = tt
    go (Some n) = tt

  -- an end at the pairs of a variant
  at_pairs : (stop : ExpandEnd) → Any (λ v. IsPairsCause (setting_of m reach) (IsDrawn m.signature) v stop) x.variants → Tells (explore_end stop)
  at_pairs expanded.Whole a = whole
  at_pairs (expanded.Steps from to) a = a.4.fits
  at_pairs (expanded.Size cause) a = tt
  at_pairs (expanded.Basis f system) a = associative-declared m.signature f a.4.basis.is_system.associative
  at_pairs (expanded.Unifiers given list) a = tt

  -- the exploration's end
  first : x.end ≢ Complete → Tells r.end
  first n = subst Tells (sym (s.first n)) (told_fits m reach (sides_in_turn pairs) x loss count x.end explored.cause)

  later : x.end ≡ Complete → r.end ≢ Complete → Tells r.end
  later is n = let w = s.cause is n in subst Tells (sym w.is) (at_pairs w.stop w.cause)

  after_complete : x.end ≡ Complete → (end : ExploreEnd) → r.end ≡ end → Tells r.end
  after_complete is Complete e = subst Tells (sym e) whole
  after_complete is (Levels v) e = later is (λ q. cc)
  after_complete is (Variants v) e = later is (λ q. cc)
  after_complete is (Steps from to) e = later is (λ q. cc)
  after_complete is (Size cause) e = later is (λ q. cc)
  after_complete is (Basis f system) e = later is (λ q. cc)
  after_complete is (Unifiers given list) e = later is (λ q. cc)

  by_first : (end : ExploreEnd) → x.end ≡ end → Tells r.end
  by_first Complete e = after_complete e r.end refl
  by_first (Levels v) e = first (λ q. cc)
  by_first (Variants v) e = first (λ q. cc)
  by_first (Steps from to) e = first (λ q. cc)
  by_first (Size cause) e = first (λ q. cc)
  by_first (Basis f system) e = first (λ q. cc)
  by_first (Unifiers given list) e = first (λ q. cc)

  pub solved_fits : Tells r.end
  solved_fits = by_first x.end refl

-- the limits of levels and of variants are no ends of an expansion
pub no_levels : (v : Variant) (stop : ExpandEnd) → explore_end stop ≡ Levels v → ⊥
no_levels v expanded.Whole h = cc
no_levels v (expanded.Steps from to) h = cc
no_levels v (expanded.Size cause) h = cc
no_levels v (expanded.Basis f system) h = cc
no_levels v (expanded.Unifiers given list) h = cc

pub no_variants : (v : Variant) (stop : ExpandEnd) → explore_end stop ≡ Variants v → ⊥
no_variants v expanded.Whole h = cc
no_variants v (expanded.Steps from to) h = cc
no_variants v (expanded.Size cause) h = cc
no_variants v (expanded.Basis f system) h = cc
no_variants v (expanded.Unifiers given list) h = cc

module _ (m : Contents) (reach : Reach) (pairs : FlatPairs) (x : Explored) (r : SolvedModulo) (s : IsSolvedModulo (setting_of m reach) (IsDrawn m.signature) pairs (limits_of m reach 1) x r) where
  -- an end that is none of an expansion is that of the exploration
  pub told_first : (end : ExploreEnd) → ((stop : ExpandEnd) → explore_end stop ≡ end → ⊥) → r.end ≡ end → x.end ≡ end
  told_first end no_stop e = go x.end refl
    where
      first : x.end ≢ Complete → x.end ≡ end
      first n = sym (s.first n) ∙ e

      go : (own : ExploreEnd) → x.end ≡ own → x.end ≡ end
      go Complete is = let w = s.cause is (λ q. no_stop expanded.Whole (sym q ∙ e)) in absurd (no_stop w.stop (sym w.is ∙ e))
      go (Levels v) is = first (λ q. cc)
      go (Variants v) is = first (λ q. cc)
      go (Steps from to) is = first (λ q. cc)
      go (Size cause) is = first (λ q. cc)
      go (Basis f system) is = first (λ q. cc)
      go (Unifiers given list) is = first (λ q. cc)
