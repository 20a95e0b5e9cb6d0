-- How the steps of `terminates` make its reply.
use Rattle.std.proofs.Common.{◌≡◌, ℕ, List, Result, Ok, Err, IfOk, Some, None, refl, subst, inl, inr}
use Rattle.std.specs.Prelude.{codes}
use Rattle.fvn_terms.specs.declared.declarations.Declarations.{Declarations}
use Rattle.fvn_terms.specs.Rewriting.{IsTerminating}
use Rattle.fvn_theory.specs.declared.equation.Equation.{Equation}
use Rattle.fvn_theory.specs.Equations.{equations_of}
use Rattle.fvn_syntax.specs.declared.names.Names.{Names}
use Rattle.fvn_module.specs.Contents.{Contents}
use Rattle.fvn_module_loading.specs.Loading.{IsLoaded}
use Rattle.fvn_problems.specs.declared.fault.ProblemFault.{ProblemFault}
use Rattle.fvn_weights.specs.declared.weights.Weights.{Weights}
use Rattle.fvn_weights.specs.declared.fault.WeighFault.{WeighFault}
use Rattle.fvn_weights.specs.Weighing.{linear, AreWeighed, IsWeighFault}
use Rattle.fvn_weights_reading.specs.Reading.{IsWeights, RefusesWeights}
use Rattle.fvn_cmd_texts.specs.Weighings.{weigh_fault_text}
use Rattle.fvn_cmd.specs.declared.status.Status.{Status}
use Rattle.fvn_cmd.specs.declared.status.Status.TheVariants.{Solved, Nothing, ProblemRefused}
use Rattle.fvn_cmd.specs.declared.answer.Answer.{Answer}
use Rattle.fvn_cmd.specs.Texts.{bytes_of, line}
use Rattle.fvn_cmd.specs.Refusing.{IsProblemRefusalLine}
use Rattle.fvn_cmd.proofs.Replying.{in_module, refused_words}
use Rattle.fvn_cmd_terminates.specs.Weighings.{IsWeighingLine, TellsWeighing}
use Rattle.fvn_cmd_terminates.specs.Replies.{terminates_words, IsTerminatesAnswer, IsTerminatesReply}
use Rattle.fvn_cmd_terminates.specs.inner.Steps.{RepliesIn}

module _ (m : Contents) (d : Declarations) (names : Names) (signature_is : d ≡ m.signature) (names_are : names ≡ m.names) where
  -- the line of a fault
  pub fault_line : (fault : WeighFault) (told text : List ℕ) → weigh_fault_text names fault ≡ Some told → text ≡ line told → IsWeighingLine m (Some fault) text
  fault_line fault told text e is = record { words = told; told = subst (λ n. weigh_fault_text n fault ≡ Some told) names_are e; text_is = is }

  module _ (equations : List Equation) (equations_are : equations ≡ m.equations) (w : Weights) where
    in_equations : (P : Declarations → List Equation → Type 0) → P d equations → P m.signature m.equations
    in_equations P h = subst (λ x. P m.signature x) equations_are (subst (λ x. P x equations) signature_is h)

    -- that the equations terminate is told
    pub told_termination : AreWeighed d equations (linear w.list) → IsTerminating d (equations_of equations) → (s : Status) (t : List ℕ) → s ≡ Solved → t ≡ line (codes "terminates") → TellsWeighing m w s t
    told_termination weighed terminating s t e is = record {
      found = None;
      right = (in_equations (λ x es. AreWeighed x es (linear w.list)) weighed, in_equations (λ x es. IsTerminating x (equations_of es)) terminating);
      status_is = e;
      shown = record { words = codes "terminates"; told = refl; text_is = is };
    }

    -- the first fault of the weights is told
    pub told_fault : (fault : WeighFault) → IsWeighFault d equations (linear w.list) fault → (s : Status) (t : List ℕ) → s ≡ Nothing → IsWeighingLine m (Some fault) t → TellsWeighing m w s t
    told_fault fault h s t e is = record {
      found = Some fault;
      right = in_equations (λ x es. IsWeighFault x es (linear w.list) fault) h;
      status_is = e;
      shown = is;
    }

  -- weights are refused with their first fault, or answered
  pub weights_refused : (word : List ℕ) (fault : ProblemFault) → RefusesWeights d names word fault → (s : Status) (t : List ℕ) → s ≡ ProblemRefused → IsProblemRefusalLine fault t → RepliesIn m word s t
  weights_refused word fault h s t e is bytes loaded =
      refused_words bytes (terminates_words word) (IsTerminatesAnswer bytes word) m loaded fault
      (inl (in_module m d names signature_is names_are (λ x y. RefusesWeights x y word fault) h)) s t e is

  pub weights_answered : (word : List ℕ) (w : Weights) → IsWeights d names word w → (s : Status) (t : List ℕ) → TellsWeighing m w s t → RepliesIn m word s t
  weights_answered word w h s t a bytes loaded =
      inr (m, w, (record { module_text = loaded; weights_text = in_module m d names signature_is names_are (λ x y. IsWeights x y word w) h }, a))

-- what the calls leave, where memory is not refused
pub replied_in : {E : Type 0} (bytes word : List ℕ) (m : Contents) → IsLoaded bytes m → (r : Result Answer E) → IfOk r (λ a. RepliesIn m word a.status (bytes_of a.text)) → IfOk r (λ a. IsTerminatesReply bytes word a.status (bytes_of a.text))
replied_in bytes word m h (Ok a) t = t bytes h
replied_in bytes word m h (Err e) t = tt
