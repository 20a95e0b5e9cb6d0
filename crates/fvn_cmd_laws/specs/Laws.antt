-- Laws of the answers to all commands.
use Rattle.std.specs.Prelude.{◌≡◌, ℕ, List, [], ◌∷◌, Option}
use Rattle.fvn_module.specs.Contents.{Contents}
use Rattle.fvn_module_loading.specs.Losses.{IsLossOf}
use Rattle.fvn_problems.specs.declared.problem.Problem.{Problem}
use Rattle.fvn_problems.specs.declared.bindings.Bindings.{Bindings}
use Rattle.fvn_problems.specs.declared.query.Query.{Query}
use Rattle.fvn_answer.specs.declared.end.End.TheVariants.{Complete}
use Rattle.fvn_verify.specs.declared.verdict.Verdict.{Verdict}
use Rattle.fvn_weights.specs.declared.weights.Weights.{Weights}
use Rattle.fvn_cmd.specs.declared.status.Status.{Status}
use Rattle.fvn_cmd.specs.declared.status.Status.TheVariants.{Solved}
use Rattle.fvn_cmd.specs.Texts.{Is}
use Rattle.fvn_cmd_check.specs.Checks.{told_lines, TellsSorts}
use Rattle.fvn_cmd_verify.specs.Verdicts.{IsVerdictOn, TellsVerdict}
use Rattle.fvn_cmd_terminates.specs.Weighings.{TellsWeighing}
use Rattle.fvn_cmd.specs.Ends.{status_of_end}
use Rattle.fvn_cmd_vunify.specs.CmdUnifyEnds.{StaysWithinBounds}
use Rattle.fvn_cmd_vunify.specs.CmdUnifySolutions.{Found, IsWhole, IsSolution}
use Rattle.fvn_cmd_laws.specs.Unified.{IsNothingExact, HasFewUnifiers, IsCountOfUnifiers}
use Rattle.fvn_cmd_laws.specs.Verified.{AreOneIfConfluent, IsDecided, AllStayWithin, IsVerdictExact}
use Rattle.fvn_cmd_words.specs.declared.reach.Reach.{Reach}
use Rattle.fvn_vunify.specs.Sides.{sides_in_turn}
use Rattle.fvn_cmd_variants.specs.Replies as of_terms
use Rattle.fvn_cmd_variants.specs.Asked as of_terms_asked
use Rattle.fvn_cmd_variants.specs.Asked.{flattened}
use Rattle.fvn_cmd_variants.specs.Solutions as of_terms_found
use Rattle.fvn_cmd_vunify.specs.Replies as modulo
use Rattle.fvn_cmd_vunify.specs.Asked as modulo_asked
use Rattle.fvn_cmd_vunify.specs.Asked.{flattened_pairs}
use Rattle.fvn_cmd_vunify.specs.Solutions as modulo_found
use Rattle.fvn_cmd_laws.specs.Weighed.{IsWeighingExact}
use Rattle.fvn_cmd_laws.specs.Explored.{IsVariantsExact, IsTheoryExact}
use Rattle.fvn_cmd_laws.specs.Reaching.{IsAmple}

-- Of the sorts of a module one thing is told.
abbrev pub SortsAreToldOnce : Type 0
SortsAreToldOnce =
    (m : Contents) (s : Status) (t : List ℕ) → TellsSorts m s t → (loss : Option ℕ) → IsLossOf m loss →
    Is Solved (told_lines m loss) s t

-- What is promised of verdicts: what is told is exact; where the equations are confluent, verdicts that ended at no bound
-- are one, whatever the limits on steps are; and where no bound is met, none ended a verdict. Which of them comes is open
-- where a side has a short way to a normal form and a long sequence besides.
pub record VerdictsAreExact : Type 0 where
  pub exact : (m : Contents) (p : Problem) (b : Bindings) (steps : ℕ) (s : Status) (t : List ℕ) →
      TellsVerdict m steps p b s t → IsVerdictExact m p b steps s t
  pub one : (m : Contents) (p : Problem) (b : Bindings) (steps more : ℕ) (s : Status) (t : List ℕ) (u : Status) (v : List ℕ) →
      TellsVerdict m steps p b s t → TellsVerdict m more p b u v → AreOneIfConfluent m s t u v
  pub decided : (m : Contents) (p : Problem) (b : Bindings) (steps : ℕ) (v : Verdict) →
      IsVerdictOn m steps p b v → AllStayWithin m p b steps → IsDecided v

-- What is promised of what is found for a problem: `complete 0` comes exactly at Nothing, where nothing unifies; where no
-- bound is met, all unifiers were found; a complete answer has as many unifiers as each complete set of which none is an
-- instance of another, and so two complete answers have equally many. Which unifiers an answer gives is open: of two
-- complete sets each is as good as the other.
pub record AnswersAreExact : Type 0 where
  pub nothing : (m : Contents) (p : Problem) (found : Found) → IsSolution m p found → (s : Status) →
      s ≡ status_of_end found.end → IsNothingExact m p s found
  pub whole : (m : Contents) (p : Problem) (found : Found) → IsSolution m p found → StaysWithinBounds m p → IsWhole found
  pub few : (m : Contents) (p : Problem) (found : Found) → IsSolution m p found → HasFewUnifiers m p → IsWhole found
  pub count : (m : Contents) (p : Problem) (found : Found) → IsSolution m p found → (n : ℕ) → found.end ≡ Complete n →
      IsCountOfUnifiers m p n
  pub one_count : (m : Contents) (p : Problem) (found other : Found) → IsSolution m p found → IsSolution m p other →
      (n k : ℕ) → found.end ≡ Complete n → other.end ≡ Complete k → n ≡ k

-- What is promised of weighings: what is told is exact, and of weights one thing is told.
pub record WeighingsAreExact : Type 0 where
  pub exact : (m : Contents) (w : Weights) (s : Status) (t : List ℕ) → TellsWeighing m w s t → IsWeighingExact m w s
  pub one : (m : Contents) (w : Weights) (s : Status) (t : List ℕ) (u : Status) (v : List ℕ) →
      TellsWeighing m w s t → TellsWeighing m w u v → Is s t u v

-- What is promised of answers over an exploration: what their status tells is exact; and where no bound is met, the search
-- for unifiers in the theory came to its end.
pub record ExploredAnswersAreExact : Type 0 where
  pub variants : (m : Contents) (q : Query) (reach : Reach) (s : Status) (t : List ℕ) (a : of_terms.IsAnswer m q reach s t) →
      IsVariantsExact s a.found
  pub unifiers : (m : Contents) (p : Problem) (reach : Reach) (s : Status) (t : List ℕ) (a : modulo.IsAnswer m p reach s t) →
      IsTheoryExact m p s a.found
  pub within : (m : Contents) (p : Problem) (reach : Reach) (found : modulo_found.Found) →
      modulo_found.IsSolution m p reach found → modulo_found.StaysWithinBounds m p reach found → modulo_found.IsSolvedWhole found

-- Limits that are large enough are not told: where finitely many variants within as many steps as levels are asked for
-- cover all, and the equations are confluent, or where no run of levels is deeper, no answer ends at `bound levels`; and
-- where no run is longer than is asked, none ends at `bound variants`.
pub record AmpleLimitsAreNotTold : Type 0 where
  pub variants : (m : Contents) (q : Query) (reach : Reach) (found : of_terms_found.Found) → of_terms_found.IsSolution m q reach found →
      IsAmple m reach (flattened m q ∷ []) (of_terms_asked.HasFewLevels m q reach.levels) (of_terms_found.end_of reach found)
  pub unifiers : (m : Contents) (p : Problem) (reach : Reach) (found : modulo_found.Found) → modulo_found.IsSolution m p reach found →
      IsAmple m reach (sides_in_turn (flattened_pairs m p)) (modulo_asked.HasFewLevels m p reach.levels) (modulo_found.end_of reach found)
