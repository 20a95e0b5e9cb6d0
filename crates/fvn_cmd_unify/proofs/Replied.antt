-- How the steps of `unify` make its reply.
use Rattle.std.proofs.Common.{◌≡◌, ℕ, List, length, Result, Ok, Err, IfOk, sym, ap, ◌∙◌, subst, inl, inr}
use Rattle.std.specs.Prelude.{All}
use Rattle.fvn_terms.specs.declared.declarations.Declarations.{Declarations}
use Rattle.fvn_forms.specs.FitsKinds.{FitsKinds}
use Rattle.fvn_flat.specs.Laws.{AnswersToFlattenedPairs, FlattenedPairsHaveOneAnswer}
use Rattle.fvn_flat.specs.Bindings.{Bindings}
use Rattle.fvn_flat.specs.declared.solver.Solved.{Solved}
use Rattle.fvn_syntax.specs.declared.names.Names.{Names}
use Rattle.fvn_syntax.specs.Pieces.{Text}
use Rattle.fvn_problems.specs.declared.fault.ProblemFault.{ProblemFault}
use Rattle.fvn_problems.specs.declared.problem.Problem.{Problem}
use Rattle.fvn_problems.specs.Problems.{IsProblem, RefusesProblem, AreOfOneKind, HasVariables}
use Rattle.fvn_module.specs.declared.fault.ModuleFault.{ModuleFault}
use Rattle.fvn_module.specs.Contents.{Contents}
use Rattle.fvn_module_loading.specs.Loading.{IsLoaded, IsLoadFault}
use Rattle.fvn_answer.specs.Answers.{FitsEnd, IsAnswerText}
use Rattle.fvn_answer.specs.Laws.{EqualLinesAreInstances}
use Rattle.fvn_answer.specs.declared.end.End.{End}
use Rattle.fvn_cmd.specs.declared.status.Status.{Status}
use Rattle.fvn_cmd.specs.declared.status.Status.TheVariants.{ModuleRefused, ProblemRefused}
use Rattle.fvn_cmd.specs.declared.answer.Answer.{Answer}
use Rattle.fvn_cmd.specs.Texts.{bytes_of}
use Rattle.fvn_cmd.specs.Refusing.{IsRefusalLine, IsProblemRefusalLine}
use Rattle.fvn_cmd.specs.Ends.{status_of_end}
use Rattle.fvn_cmd_unify.specs.Solutions.{IsEndOfSearch}
use Rattle.fvn_cmd_unify.specs.Replies.{IsAnswer, IsUnifyReply}
use Rattle.fvn_cmd_unify.specs.inner.Told.{end_told, AreLinesOfBindings}
use Rattle.fvn_cmd_unify.specs.inner.Steps.{IsSolved, RepliesIn}
use Rattle.fvn_cmd_unify.proofs.Solving.{solved-fits, told-found, solved-solution}
use Rattle.fvn_cmd_unify.proofs.Counting.{shown-lines}

module _ (m : Contents) (p : Problem) (kinded : All (AreOfOneKind m.signature) p.pairs) (vars : HasVariables m.signature p) (r : Solved) (s : IsSolved m p r) (unifiers : List Bindings) (are : unifiers ≡ r.unifiers) where
  pub told-fits_end : (end : End) → end ≡ end_told r.end (length unifiers) → FitsEnd m.signature end
  told-fits_end end told = subst (FitsEnd m.signature) (sym (told ∙ ap (λ l. end_told r.end (length l)) are)) (solved-fits m p kinded vars r s)

  pub end-of_search : AnswersToFlattenedPairs → FlattenedPairsHaveOneAnswer → (d : Declarations) → d ≡ m.signature → FitsKinds d → (end : End) → end ≡ end_told r.end (length unifiers) → IsEndOfSearch m p end
  end-of_search law one_law d signature_is fits end told = record {
    found = told-found m p kinded vars r s;
    solution = solved-solution m p kinded vars r s law one_law (subst FitsKinds signature_is fits);
    end_is = told ∙ ap (λ l. end_told r.end (length l)) are;
  }

  pub answer-told : AnswersToFlattenedPairs → FlattenedPairsHaveOneAnswer → EqualLinesAreInstances → (d : Declarations) → d ≡ m.signature → FitsKinds d → (lines : List Text) → AreLinesOfBindings m p unifiers lines →
      (end : End) → end ≡ end_told r.end (length unifiers) → (text : Text) → IsAnswerText m.signature m.names lines end text → (status : Status) → status ≡ status_of_end end → IsAnswer m p status text
  answer-told law one_law lines_law d signature_is fits lines h end told text shown status is =
      let e = end_told r.end (length r.unifiers) in
      let end_is : end ≡ e = told ∙ ap (λ l. end_told r.end (length l)) are in
      let solution = solved-solution m p kinded vars r s law one_law (subst FitsKinds signature_is fits) in
      let listed : AreLinesOfBindings m p r.unifiers lines = subst (λ l. AreLinesOfBindings m p l lines) are h in
      record {
        found = told-found m p kinded vars r s;
        solution = solution;
        shown = shown-lines m p lines_law r.unifiers lines listed solution.headline.apart e text (subst (λ x. IsAnswerText m.signature m.names lines x text) end_is shown);
        status_is = is ∙ ap status_of_end end_is;
      }

-- what the calls leave, where memory is not refused

module _ {E : Type 0} (bytes word : List ℕ) where
  pub unified-in : (m : Contents) → IsLoaded bytes m → (r : Result Answer E) → IfOk r (λ a. RepliesIn m word a.status (bytes_of a.text)) → IfOk r (λ a. IsUnifyReply bytes word a.status (bytes_of a.text))
  unified-in m h (Ok a) t = t bytes h
  unified-in m h (Err e) t = tt

  pub module-refused : (fault : ModuleFault) → IsLoadFault bytes fault → (r : Result Answer E) → IfOk r (λ a. a.status ≡ ModuleRefused) → IfOk r (λ a. IsRefusalLine fault (bytes_of a.text)) → IfOk r (λ a. IsUnifyReply bytes word a.status (bytes_of a.text))
  module-refused fault h (Ok a) e is = inl (inl (e, record { fault = fault; first = h; line_of = is }))
  module-refused fault h (Err e) s is = tt

module _ (m : Contents) (d : Declarations) (names : Names) (signature_is : d ≡ m.signature) (names_are : names ≡ m.names) where
  in_module : (P : Declarations → Names → Type 0) → P d names → P m.signature m.names
  in_module P h = subst (λ x. P m.signature x) names_are (subst (λ x. P x names) signature_is h)

  pub problem-refused : (word : List ℕ) (fault : ProblemFault) → RefusesProblem d names word fault → (s : Status) (t : List ℕ) → s ≡ ProblemRefused → IsProblemRefusalLine fault t → RepliesIn m word s t
  problem-refused word fault h s t e is bytes module_text =
      inl (inr (
        e,
        record {
          contents = m;
          loaded = module_text;
          fault = fault;
          first = inl (in_module (λ x y. RefusesProblem x y word fault) h);
          line_of = is;
        },
      ))

  pub problem-answered : (word : List ℕ) (p : Problem) → IsProblem d names word p → (s : Status) (t : List ℕ) → IsAnswer m p s t → RepliesIn m word s t
  problem-answered word p h s t a bytes module_text =
      inr (m, p, (record { module_text = module_text; problem_text = in_module (λ x y. IsProblem x y word p) h }, a))
