-- What answers say, and that a run has one outcome, but for answers to one question that agree.
use Rattle.std.proofs.Common.{◌⊎◌, ℕ, List, sym, ◌∙◌, subst, inl, inr}
use Rattle.fvn_module.specs.Contents.{Contents}
use Rattle.fvn_problems.specs.declared.problem.Problem.{Problem}
use Rattle.fvn_problems.specs.declared.bindings.Bindings.{Bindings}
use Rattle.fvn_weights.specs.declared.weights.Weights.{Weights}
use Rattle.fvn_cmd.specs.declared.status.Status.{Status}
use Rattle.fvn_cmd.specs.Texts.{Is}
use Rattle.fvn_cmd_laws.specs.CmdCheckChecks.{TellsSorts}
use Rattle.fvn_cmd_terminates.specs.Weighings.{TellsWeighing}
use Rattle.fvn_cmd_laws.specs.CmdVerifyVerdicts.{TellsVerdict}
use Rattle.fvn_cmd_laws.specs.CmdUnifyReplies.{IsAnswer}
use Rattle.fvn_cmd_work.specs.Replies.{IsCount}
use Rattle.fvn_cmd_work.proofs.Agreeing.{counts_agree}
use Rattle.fvn_cmd_laws.specs.Laws.{SortsAreToldOnce, VerdictsAreExact, WeighingsAreExact, AnswersAreExact, ExploredAnswersAreExact}
use Rattle.fvn_problems.specs.declared.query.Query.{Query}
use Rattle.fvn_cmd_words.specs.declared.reach.Reach.{Reach}
use Rattle.fvn_cmd_laws.specs.CmdVariantsReplies as of_terms
use Rattle.fvn_cmd_laws.specs.CmdVunifyReplies as modulo
use Rattle.fvn_tool.specs.Words.{Command, IsCommand, text_for}
use Rattle.fvn_tool.specs.Asked.{Question, summary, unifiers, verdict, termination, term_variants, theory_unifiers, count, Asked}
use Rattle.fvn_tool.specs.Answered.{Answers, IsReply}
use Rattle.fvn_tool.specs.Outcomes.{no_command, too_long, replied}
use Rattle.fvn_tool.specs.Laws.{QuestionsAreDetermined, SaysExactly, AnswersSayExactly, AgreeOn, AgreeAsAnswers, OutcomesAreDetermined}
use Rattle.fvn_tool.proofs.Claims.{came, outcome_usage}

-- what is asked, as a value
abbrev of : Contents → Question → Asked
of m q = record { contents = m; question = q }

module _ (m : Contents) (s : Status) (t : List ℕ) where
  tells_sorts : Answers (of m summary) s t → TellsSorts m s t
  tells_sorts h = record { loss = h.answer; loss_is = h.right; told = (h.status_is, h.shown) }

  tells_verdict : (p : Problem) (b : Bindings) (steps : ℕ) → Answers (of m (verdict p b steps)) s t → TellsVerdict m steps p b s t
  tells_verdict p b steps h = (h.answer, (h.right, record { status_is = h.status_is; text_tells = h.shown }))

  tells_weighing : (w : Weights) → Answers (of m (termination w)) s t → TellsWeighing m w s t
  tells_weighing w h = record { found = h.answer; right = h.right; status_is = h.status_is; shown = h.shown }

  variants_answer : (q : Query) (reach : Reach) → Answers (of m (term_variants q reach)) s t → of_terms.IsAnswer m q reach s t
  variants_answer q reach h = record { found = h.answer; solution = h.right; shown = h.shown; status_is = h.status_is }

  theory_answer : (p : Problem) (reach : Reach) → Answers (of m (theory_unifiers p reach)) s t → modulo.IsAnswer m p reach s t
  theory_answer p reach h = record { found = h.answer; solution = h.right; shown = h.shown; status_is = h.status_is }

  count_answer : (p : Problem) → Answers (of m (count p)) s t → IsCount m p s t
  count_answer p h = record { found = h.answer; solution = h.right; shown = h.shown; status_is = h.status_is }

  is_answer : (p : Problem) → Answers (of m (unifiers p)) s t → IsAnswer m p s t
  is_answer p h = record { found = h.answer; solution = h.right; shown = h.shown; status_is = h.status_is }

module _ (sorts : SortsAreToldOnce) (verdicts : VerdictsAreExact) (weighings : WeighingsAreExact) where
  says : AnswersAreExact → ExploredAnswersAreExact → (m : Contents) (q : Question) (s : Status) (t : List ℕ) → Answers (of m q) s t → SaysExactly m q s t
  says answers explored m summary s t h = sorts m s t (tells_sorts m s t h)
  says answers explored m (unifiers p) s t h = let a = is_answer m s t p h in (a, (answers.nothing m p a.found a.solution s a.status_is, answers.few m p a.found a.solution))
  says answers explored m (verdict p b steps) s t h = verdicts.exact m p b steps s t (tells_verdict m s t p b steps h)
  says answers explored m (termination w) s t h = weighings.exact m w s t (tells_weighing m s t w h)
  says answers explored m (term_variants q reach) s t h = let a = variants_answer m s t q reach h in (a, explored.variants m q reach s t a)
  says answers explored m (theory_unifiers p reach) s t h = let a = theory_answer m s t p reach h in (a, explored.unifiers m p reach s t a)
  says answers explored m (count p) s t h =
      let a = count_answer m s t p h in
      (a, (answers.nothing m p a.found a.solution s a.status_is, answers.few m p a.found a.solution, answers.count m p a.found a.solution))

  pub say_exactly : AnswersAreExact → ExploredAnswersAreExact → AnswersSayExactly
  say_exactly answers explored a s t h = says answers explored a.contents a.question s t h

  agree : AnswersAreExact → (m : Contents) (q : Question) (s : Status) (t : List ℕ) (u : Status) (v : List ℕ) → Answers (of m q) s t → Answers (of m q) u v → AgreeOn m q s t u v
  agree answers m summary s t u v h k =
      let r = sorts m u v (tells_sorts m u v k) h.answer h.right in (r.0 ∙ sym h.status_is, r.1 ∙ sym h.shown)
  agree answers m (unifiers p) s t u v h k = tt
  agree answers m (verdict p b steps) s t u v h k =
      verdicts.one m p b steps steps s t u v (tells_verdict m s t p b steps h) (tells_verdict m u v p b steps k)
  agree answers m (term_variants q reach) s t u v h k = tt
  agree answers m (theory_unifiers p reach) s t u v h k = tt
  agree answers m (count p) s t u v h k =
      let a = count_answer m s t p h in
      let b = count_answer m u v p k in
      counts_agree m p s t u v a b (answers.one_count m p a.found b.found a.solution b.solution)
  agree answers m (termination w) s t u v h k = weighings.one m w s t u v (tells_weighing m s t w h) (tells_weighing m u v w k)

  module _ (answers : AnswersAreExact) (questions : QuestionsAreDetermined) where
    replies : (words : List (List ℕ)) (bytes : List ℕ) (c : Command) → IsCommand words c → (s : Status) (t : List ℕ) → IsReply (text_for c bytes) c s t → (u : Status) (v : List ℕ) → IsReply (text_for c bytes) c u v →
        Is s t u v ⊎ AgreeAsAnswers words bytes s t u v
    replies words bytes c is s t (inl r) u v (inl q) = inl (questions.one_refusal (text_for c bytes) c s t r u v q)
    replies words bytes c is s t (inl r) u v (inr b) = absurd (questions.not_both (text_for c bytes) c b.0 b.1.0 s t r)
    replies words bytes c is s t (inr a) u v (inl q) = absurd (questions.not_both (text_for c bytes) c a.0 a.1.0 u v q)
    replies words bytes c is s t (inr a) u v (inr b) =
        let second : Answers a.0 u v = subst (λ x. Answers x u v) (questions.one_question (text_for c bytes) c b.0 a.0 b.1.0 a.1.0) b.1.1 in
        inr (record {
          command = c;
          command_is = is;
          asked = a.0;
          is_asked = a.1.0;
          first = a.1.1;
          second = second;
          agree = agree answers a.0.contents a.0.question s t u v a.1.1 second;
        })

    pub outcomes_determined : OutcomesAreDetermined
    outcomes_determined words bytes source other one two s t (no_command none is) u v k =
        let r = outcome_usage words other none u v k in inl (r.0, r.1 ∙ sym is)
    outcomes_determined words bytes source other one two s t (too_long c e r n is) u v k =
        replies words bytes c e s t (came words source bytes c (λ _. one) e s t (too_long c e r n is)) u v (came words other bytes c (λ _. two) e u v k)
    outcomes_determined words bytes source other one two s t (replied c read e n r) u v k =
        replies words bytes c e s t (came words source bytes c (λ _. one) e s t (replied c read e n r)) u v (came words other bytes c (λ _. two) e u v k)
