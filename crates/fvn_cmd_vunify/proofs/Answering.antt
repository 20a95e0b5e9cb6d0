-- What was solved, in an exploration or at once.
use Rattle.std.proofs.Common.{◌≡◌, ℕ, map, Option, Some, None, sym, subst, inl, inr}
use Rattle.std.specs.Prelude.{All}
use Rattle.fvn_terms.specs.Rewriting.{IsTerminating, IsConfluent}
use Rattle.fvn_flat.specs.Bindings.{BindingsFit}
use Rattle.fvn_flat.specs.OneAnswer.{IsApartFor}
use Rattle.fvn_flat.specs.Problems.{plain_pairs}
use Rattle.fvn_flat.specs.Solving.{FlatPairs, substitution}
use Rattle.fvn_theory.specs.Equations.{equations_of}
use Rattle.fvn_module.specs.Contents.{Contents}
use Rattle.fvn_exploring.specs.declared.ends.ExploreEnd.{ExploreEnd}
use Rattle.fvn_exploring.specs.declared.ends.ExploreEnd.TheVariants.{Complete}
use Rattle.fvn_vunify.specs.declared.solved.SolvedModulo.{SolvedModulo}
use Rattle.fvn_vunify.specs.Solutions.{IsIrreducibleUnifier, AreAllIrreducibleUnifiers}
use Rattle.fvn_answer.specs.Answers.{FitsEnd}
use Rattle.fvn_cmd_words.specs.declared.reach.Reach.{Reach}
use Rattle.fvn_cmd_exploring.specs.Searches.{setting_of}
use Rattle.fvn_cmd_exploring.specs.Ends.{end_told}
use Rattle.fvn_cmd_vunify.specs.inner.Steps.{IsSolvedIn}
use Rattle.fvn_cmd_vunify.proofs.Ended.{solved_fits}

-- what is known of the unifiers, however they were found
pub record AreAnswers (m : Contents) (reach : Reach) (pairs : FlatPairs) (r : SolvedModulo) : Type 0 where
  pub sound : All (λ s. IsIrreducibleUnifier (setting_of m reach) (plain_pairs pairs) (substitution s)) r.unifiers
  pub fits : All (BindingsFit m.signature) r.unifiers
  pub apart : IsApartFor m.signature (plain_pairs pairs) (map substitution r.unifiers)
  pub complete : r.end ≡ Complete → IsTerminating m.signature (equations_of m.equations) → IsConfluent m.signature (equations_of m.equations) →
      AreAllIrreducibleUnifiers (setting_of m reach) (plain_pairs pairs) (map substitution r.unifiers)

module _ (m : Contents) (reach : Reach) (pairs : FlatPairs) (r : SolvedModulo) where
  pub answers_of : IsSolvedIn m reach pairs r → AreAnswers m reach pairs r
  answers_of (inl h) = record { sound = h.solved.sound; fits = h.solved.fits; apart = h.solved.apart; complete = h.solved.complete }
  answers_of (inr h) = record { sound = h.sound; fits = h.fits; apart = h.apart; complete = λ e ends confluent. h.complete }

  -- the end can be told
  pub answer_fits : IsSolvedIn m reach pairs r → (loss : Option ℕ) (count : ℕ) → FitsEnd m.signature (end_told reach r.end loss count)
  answer_fits (inl h) loss count = solved_fits m reach pairs h.explored h.exploration r h.solved loss count
  answer_fits (inr h) loss count = subst (λ (e : ExploreEnd). FitsEnd m.signature (end_told reach e loss count)) (sym h.end) (whole loss) where
    whole : (l : Option ℕ) → FitsEnd m.signature (end_told reach Complete l count)
    whole None = tt
    whole (Some n) = tt
