-- Limits that are large enough are not told.
use Rattle.std.proofs.Common.{◌≡◌, ◌⊎◌, [], ◌∷◌, sym, ◌∙◌, inl, inr}
use Rattle.fvn_problems.specs.declared.problem.Problem.{Problem}
use Rattle.fvn_problems.specs.declared.query.Query.{Query}
use Rattle.fvn_module.specs.Contents.{Contents}
use Rattle.fvn_cover.specs.declared.variant.Variant.{Variant}
use Rattle.fvn_exploring.specs.declared.ends.ExploreEnd.TheVariants.{Complete, Levels, Variants}
use Rattle.fvn_vunify.specs.Sides.{sides_in_turn}
use Rattle.fvn_cmd_words.specs.declared.reach.Reach.{Reach}
use Rattle.fvn_cmd_exploring.proofs.Ending.{levels_told, variants_told}
use Rattle.fvn_cmd_exploring.proofs.Runs.{not_at_levels, not_at_variants}
use Rattle.fvn_cmd_variants.specs.Asked as of_terms_asked
use Rattle.fvn_cmd_variants.specs.Solutions as of_terms
use Rattle.fvn_cmd_vunify.specs.Asked as modulo_asked
use Rattle.fvn_cmd_vunify.specs.Solutions as modulo
use Rattle.fvn_cmd_vunify.proofs.Ended.{told_first, no_levels, no_variants}
use Rattle.fvn_cmd_laws.specs.Reaching.{IsAmple}
use Rattle.fvn_cmd_laws.specs.Laws.{AmpleLimitsAreNotTold}

variants_ample : (m : Contents) (q : Query) (reach : Reach) (found : of_terms.Found) → of_terms.IsSolution m q reach found → IsAmple m reach (of_terms_asked.flattened m q ∷ []) (of_terms_asked.HasFewLevels m q reach.levels) (of_terms.end_of reach found)
variants_ample m q reach found solution = record {
  finite = λ confluent few n e. let told = levels_told reach found.explored.end found.loss _ n e in solution.finite confluent few told.0 told.1;
  levels = λ shallow n e. let told = levels_told reach found.explored.end found.loss _ n e in not_at_levels m reach (of_terms_asked.flattened m q ∷ []) found.explored solution.explored shallow told.0 told.1;
  variants = λ short n e. let told = variants_told reach found.explored.end found.loss _ n e in not_at_variants m reach (of_terms_asked.flattened m q ∷ []) found.explored solution.explored short told.0 told.1;
}

-- a limit is not the complete end
no_limit_of_levels : (v : Variant) → Levels v ≡ Complete → ⊥
no_limit_of_levels v e = cc

no_limit_of_variants : (v : Variant) → Variants v ≡ Complete → ⊥
no_limit_of_variants v e = cc

unifiers_ample : (m : Contents) (p : Problem) (reach : Reach) (found : modulo.Found) → modulo.IsSolution m p reach found →
    IsAmple m reach (sides_in_turn (modulo_asked.flattened_pairs m p)) (modulo_asked.HasFewLevels m p reach.levels) (modulo.end_of reach found)
unifiers_ample m p reach found solution = go solution.source where
  go : modulo.IsOfExploration m p reach found ⊎ modulo.IsOfEqualSides m p reach found → IsAmple m reach (sides_in_turn (modulo_asked.flattened_pairs m p)) (modulo_asked.HasFewLevels m p reach.levels) (modulo.end_of reach found)
  go (inl own) = record {
    finite = λ confluent few n e.
        let told = levels_told reach found.solved.end found.loss _ n e in
        solution.finite confluent few told.0 (told_first m reach (modulo_asked.flattened_pairs m p) found.explored found.solved own.solved (Levels told.0) (no_levels told.0) told.1);
    levels = λ shallow n e.
        let told = levels_told reach found.solved.end found.loss _ n e in
        not_at_levels m reach (sides_in_turn (modulo_asked.flattened_pairs m p)) found.explored own.explored shallow told.0
        (told_first m reach (modulo_asked.flattened_pairs m p) found.explored found.solved own.solved (Levels told.0) (no_levels told.0) told.1);
    variants = λ short n e.
        let told = variants_told reach found.solved.end found.loss _ n e in
        not_at_variants m reach (sides_in_turn (modulo_asked.flattened_pairs m p)) found.explored own.explored short told.0
        (told_first m reach (modulo_asked.flattened_pairs m p) found.explored found.solved own.solved (Variants told.0) (no_variants told.0) told.1);
  }
  go (inr own) = record {
    finite = λ confluent few n e. let told = levels_told reach found.solved.end found.loss _ n e in no_limit_of_levels told.0 (sym told.1 ∙ own.solved.end);
    levels = λ shallow n e. let told = levels_told reach found.solved.end found.loss _ n e in no_limit_of_levels told.0 (sym told.1 ∙ own.solved.end);
    variants = λ short n e. let told = variants_told reach found.solved.end found.loss _ n e in no_limit_of_variants told.0 (sym told.1 ∙ own.solved.end);
  }

pub limits_ample : AmpleLimitsAreNotTold
limits_ample = record { variants = variants_ample; unifiers = unifiers_ample }
