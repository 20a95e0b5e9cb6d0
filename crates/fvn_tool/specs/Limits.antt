-- The numbers of options and of `work`, each written out.
use Rattle.std.specs.Prelude.{◌≡◌}
use Rattle.fvn_cmd_words.specs.declared.limits.TheConstants.{LEVELS, MOST_LEVELS, VARIANTS, MOST_VARIANTS, STEPS, MOST_STEPS, USUAL_WORKERS, MOST_WORKERS, LEAST_WORK, MOST_WORK}

-- each number is this one
pub record AreStepLimits : Type 0 where
  pub levels : LEVELS ≡ 100
  pub most_levels : MOST_LEVELS ≡ 1000
  pub variants : VARIANTS ≡ 1000
  pub most_variants : MOST_VARIANTS ≡ 10000
  pub steps : STEPS ≡ 10000
  pub most_steps : MOST_STEPS ≡ 1000000
  pub workers : USUAL_WORKERS ≡ 1
  pub most_workers : MOST_WORKERS ≡ 16
  pub least_work : LEAST_WORK ≡ 2
  pub most_work : MOST_WORK ≡ 6
