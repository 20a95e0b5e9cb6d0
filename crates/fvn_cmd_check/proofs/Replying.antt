-- How the steps of `check` make its reply.
use Rattle.std.proofs.Common.{◌≡◌, ℕ, List, ◌++◌, Option, Result, Ok, Err, IfOk, ap, ◌∙◌, inl, inr}
use Rattle.fvn_module.specs.declared.fault.ModuleFault.{ModuleFault}
use Rattle.fvn_module.specs.Contents.{Contents}
use Rattle.fvn_module_loading.specs.Loading.{IsLoaded, IsLoadFault}
use Rattle.fvn_module_loading.specs.Losses.{IsLossOf}
use Rattle.fvn_cmd_texts.specs.Summaries.{summary_text, sorts_text}
use Rattle.fvn_cmd.specs.declared.status.Status.{Status}
use Rattle.fvn_cmd.specs.declared.status.Status.TheVariants.{Solved, ModuleRefused}
use Rattle.fvn_cmd.specs.declared.answer.Answer.{Answer}
use Rattle.fvn_cmd.specs.Texts.{line, bytes_of}
use Rattle.fvn_cmd.specs.Refusing.{IsRefusalLine}
use Rattle.fvn_cmd_check.specs.Checks.{TellsSorts, IsCheckReply}

-- the lines on a module
pub tells_sorts : (m : Contents) (loss : Option ℕ) → IsLossOf m loss → (summary sorts : List ℕ) → summary ≡ summary_text m → sorts ≡ sorts_text loss →
    (s : Status) (t : List ℕ) → s ≡ Solved → t ≡ line summary ++ line sorts → TellsSorts m s t
tells_sorts m loss h summary sorts a b s t e is =
    record {
      loss = loss;
      loss_is = h;
      told = (e, is ∙ ap (λ x. line x ++ line sorts) a ∙ ap (λ x. line (summary_text m) ++ line x) b);
    }

-- what the calls leave, where memory is not refused

module _ {E : Type 0} (bytes : List ℕ) where
  pub told_reply : (m : Contents) → IsLoaded bytes m → (r : Result Answer E) → IfOk r (λ a. TellsSorts m a.status (bytes_of a.text)) → IfOk r (λ a. IsCheckReply bytes a.status (bytes_of a.text))
  told_reply m h (Ok a) t = inr (m, (h, t))
  told_reply m h (Err e) t = tt

  pub refused_reply : (fault : ModuleFault) → IsLoadFault bytes fault → (r : Result Answer E) → IfOk r (λ a. a.status ≡ ModuleRefused) → IfOk r (λ a. IsRefusalLine fault (bytes_of a.text)) → IfOk r (λ a. IsCheckReply bytes a.status (bytes_of a.text))
  refused_reply fault h (Ok a) e is = inl (inl (e, record { fault = fault; first = h; line_of = is }))
  refused_reply fault h (Err e) s is = tt
