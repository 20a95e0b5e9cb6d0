-- How the steps of `work` make its reply.
use Rattle.std.proofs.Common.{◌≡◌, ℕ, List, [], ap, ◌∙◌, subst}
use Rattle.fvn_terms.specs.declared.declarations.Declarations.{Declarations}
use Rattle.fvn_syntax.specs.declared.names.Names.{Names}
use Rattle.fvn_syntax.specs.Pieces.{Text}
use Rattle.fvn_problems.specs.declared.problem.Problem.{Problem}
use Rattle.fvn_problems.specs.Problems.{IsProblem}
use Rattle.fvn_module.specs.Contents.{Contents}
use Rattle.fvn_module_loading.specs.Loading.{IsLoaded}
use Rattle.fvn_answer.specs.Answers.{IsAnswerText}
use Rattle.fvn_answer.specs.declared.end.End.{End}
use Rattle.fvn_cmd.specs.declared.status.Status.{Status}
use Rattle.fvn_cmd.specs.Ends.{status_of_end}
use Rattle.fvn_cmd_unify.specs.Solutions.{IsEndOfSearch}
use Rattle.fvn_cmd_work.specs.Made.{work_module, work_problem}
use Rattle.fvn_cmd_work.specs.Replies.{IsCount, IsWorkAnswer}

pub count-told : (m : Contents) (p : Problem) (end : End) → IsEndOfSearch m p end → (lines : List Text) → lines ≡ [] → (text : Text) → IsAnswerText m.signature m.names lines end text → (status : Status) → status ≡ status_of_end end → IsCount m p status text
count-told m p end e lines none text shown status is = record {
  found = e.found;
  solution = e.solution;
  shown = subst (λ x. IsAnswerText m.signature m.names [] x text) e.end_is (subst (λ l. IsAnswerText m.signature m.names l end text) none shown);
  status_is = is ∙ ap status_of_end e.end_is;
}

module _ (m : Contents) (loaded : IsLoaded work_module m) (d : Declarations) (names : Names) (signature_is : d ≡ m.signature) (names_are : names ≡ m.names) (n : ℕ) (word : List ℕ) (made : word ≡ work_problem n) where
  in_module : (P : Declarations → Names → List ℕ → Type 0) → P d names word → P m.signature m.names (work_problem n)
  in_module P h = subst (P m.signature m.names) made (subst (λ x. P m.signature x word) names_are (subst (λ x. P x names word) signature_is h))

  pub problem-counted : (p : Problem) → IsProblem d names word p → (s : Status) (t : List ℕ) → IsCount m p s t → IsWorkAnswer n s t
  problem-counted p h s t a = (m, p, (record { module_text = loaded; problem_text = in_module (λ x y w. IsProblem x y w p) h }, a))
