-- The replies of the commands' crates are replies to commands, and the outcome that the steps give is the outcome.
use Rattle.std.proofs.Common.{ℕ, List, refl, inl, inr}
use Rattle.fvn_cmd.specs.declared.status.Status.{Status}
use Rattle.fvn_cmd_laws.specs.Laws.{VerdictsAreExact, AnswersAreExact, ExploredAnswersAreExact}
use Rattle.fvn_tool.specs.Words.{Command, check, unify, verify, terminates, variants, vunify, work, text_for}
use Rattle.fvn_tool.specs.Runs.{Outside}
use Rattle.fvn_tool.specs.Asked.{summary, unifiers, verdict, termination, term_variants, theory_unifiers, count, IsShort}
use Rattle.fvn_tool.specs.Answered.{IsReply}
use Rattle.fvn_tool.specs.Outcomes.{IsOutcome, no_command, too_long, replied}
use Rattle.fvn_tool.specs.inner.Steps.{IsCommandReply, IsGivenOutcome, is_usage, is_long, is_replied}

module _ (verdicts : VerdictsAreExact) (answers : AnswersAreExact) (explored : ExploredAnswersAreExact) where
  reply : (c : Command) (bytes : List ℕ) → IsShort (text_for c bytes) → (s : Status) (t : List ℕ) → IsCommandReply c bytes s t → IsReply (text_for c bytes) c s t
  reply check bytes short s t (inl r) = inl (inr (short, r))
  reply check bytes short s t (inr a) =
      inr (
        record { contents = a.0; question = summary },
        (
          record { short = short; loaded = a.1.0; question_is = refl },
          record { answer = a.1.1.loss; right = a.1.1.loss_is; status_is = a.1.1.told.0; shown = a.1.1.told.1; whole = tt },
        ),
      )
  reply (unify word) bytes short s t (inl r) = inl (inr (short, r))
  reply (unify word) bytes short s t (inr a) =
      inr (
        record { contents = a.0; question = unifiers a.1 },
        (
          record { short = short; loaded = a.2.0.module_text; question_is = (a.1, (a.2.0.problem_text, refl)) },
          record { answer = a.2.1.found; right = a.2.1.solution; status_is = a.2.1.status_is; shown = a.2.1.shown; whole = answers.whole a.0 a.1 a.2.1.found a.2.1.solution },
        ),
      )
  reply (verify problem bindings steps) bytes short s t (inl r) = inl (inr (short, r))
  reply (verify problem bindings steps) bytes short s t (inr a) =
      let told = a.3.1.1.1 in
      inr (
        record { contents = a.0; question = verdict a.1 a.2 steps },
        (
          record {
            short = short;
            loaded = a.3.0.asked_in.module_text;
            question_is = (a.1, a.2, (a.3.0.asked_in.problem_text, a.3.0.bindings_text, refl));
          },
          record {
            answer = a.3.1.0;
            right = a.3.1.1.0;
            status_is = told.status_is;
            shown = told.text_tells;
            whole = verdicts.decided a.0 a.1 a.2 steps a.3.1.0 a.3.1.1.0;
          },
        ),
      )
  reply (terminates word) bytes short s t (inl r) = inl (inr (short, r))
  reply (terminates word) bytes short s t (inr a) =
      inr (
        record { contents = a.0; question = termination a.1 },
        (
          record { short = short; loaded = a.2.0.module_text; question_is = (a.1, (a.2.0.weights_text, refl)) },
          record { answer = a.2.1.found; right = a.2.1.right; status_is = a.2.1.status_is; shown = a.2.1.shown; whole = tt },
        ),
      )
  reply (variants word reach) bytes short s t (inl r) = inl (inr (short, r))
  reply (variants word reach) bytes short s t (inr a) =
      inr (
        record { contents = a.0; question = term_variants a.1 reach },
        (
          record { short = short; loaded = a.2.0.module_text; question_is = (a.1, (a.2.0.term_text, refl)) },
          record {
            answer = a.2.1.found;
            right = a.2.1.solution;
            status_is = a.2.1.status_is;
            shown = a.2.1.shown;
            whole = λ stays. stays a.2.1.found.explored.end a.2.1.solution.explored.cause;
          },
        ),
      )
  reply (vunify word reach) bytes short s t (inl r) = inl (inr (short, r))
  reply (vunify word reach) bytes short s t (inr a) =
      inr (
        record { contents = a.0; question = theory_unifiers a.1 reach },
        (
          record { short = short; loaded = a.2.0.module_text; question_is = (a.1, (a.2.0.problem_text, refl)) },
          record {
            answer = a.2.1.found;
            right = a.2.1.solution;
            status_is = a.2.1.status_is;
            shown = a.2.1.shown;
            whole = explored.within a.0 a.1 reach a.2.1.found a.2.1.solution;
          },
        ),
      )
  reply (work number) bytes short s t a =
      inr (
        record { contents = a.0; question = count a.1 },
        (
          record { short = short; loaded = a.2.0.module_text; question_is = (a.1, (a.2.0.problem_text, refl)) },
          record { answer = a.2.1.found; right = a.2.1.solution; status_is = a.2.1.status_is; shown = a.2.1.shown; whole = answers.whole a.0 a.1 a.2.1.found a.2.1.solution },
        ),
      )

  pub given_outcome : (words : List (List ℕ)) (source : Outside) (s : Status) (t : List ℕ) → IsGivenOutcome words source s t → IsOutcome words source s t
  given_outcome words source s t (is_usage none is) = no_command none is
  given_outcome words source s t (is_long c e r n is) = too_long c e r n is
  given_outcome words source s t (is_replied c bytes e n f r) = replied c bytes e n (reply c bytes f s t r)
