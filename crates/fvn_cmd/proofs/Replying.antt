-- How the steps of a command make its reply.
use Rattle.std.proofs.Common.{◌≡◌, ℕ, List, Result, Ok, Err, IfOk, subst, inl, inr}
use Rattle.fvn_terms.specs.declared.declarations.Declarations.{Declarations}
use Rattle.fvn_syntax.specs.declared.names.Names.{Names}
use Rattle.fvn_module.specs.declared.fault.ModuleFault.{ModuleFault}
use Rattle.fvn_module.specs.Contents.{Contents}
use Rattle.fvn_module.specs.Readable.{IsReadable}
use Rattle.fvn_module_loading.specs.Loading.{IsLoaded, IsLoadFault}
use Rattle.fvn_problems.specs.declared.fault.ProblemFault.{ProblemFault}
use Rattle.fvn_problems.specs.Scopes.{AreNamesOf}
use Rattle.fvn_cmd.specs.declared.status.Status.{Status}
use Rattle.fvn_cmd.specs.declared.status.Status.TheVariants.{ModuleRefused, ProblemRefused}
use Rattle.fvn_cmd.specs.declared.answer.Answer.{Answer}
use Rattle.fvn_cmd.specs.Texts.{bytes_of}
use Rattle.fvn_cmd.specs.Asking.{Word, IsFirstFault}
use Rattle.fvn_cmd.specs.Refusing.{IsRefusalLine, IsProblemRefusalLine, IsReply}

-- the names of a module that was read
pub module_names : (m : Contents) → IsReadable m → AreNamesOf m.signature m.names
module_names m r = record {
  numbered = r.numbered;
  fitting = record { sorts = r.fitting.sorts; kinds = r.fitting.kinds; variables = r.fitting.variables; ops = r.fitting.ops; sums = r.fitting.sums };
}

-- what is read in the signature and the names of a module
pub in_module : (m : Contents) (d : Declarations) (names : Names) → d ≡ m.signature → names ≡ m.names → (P : Declarations → Names → Type 0) → P d names → P m.signature m.names
in_module m d names signature_is names_are P h = subst (λ x. P m.signature x) names_are (subst (λ x. P x names) signature_is h)

module _ (bytes : List ℕ) (words : List Word) (IsAnswer : Status → List ℕ → Type 0) where
  -- a module is refused with its first fault
  pub refused_module : {E : Type 0} (fault : ModuleFault) → IsLoadFault bytes fault → (r : Result Answer E) → IfOk r (λ a. a.status ≡ ModuleRefused) → IfOk r (λ a. IsRefusalLine fault (bytes_of a.text)) →
      IfOk r (λ a. IsReply bytes words IsAnswer a.status (bytes_of a.text))
  refused_module fault h (Ok a) e is = inl (inl (e, record { fault = fault; first = h; line_of = is }))
  refused_module fault h (Err e) s is = tt

  -- words are refused with their first fault
  pub refused_words : (m : Contents) → IsLoaded bytes m → (fault : ProblemFault) → IsFirstFault m words fault → (s : Status) (t : List ℕ) → s ≡ ProblemRefused → IsProblemRefusalLine fault t → IsReply bytes words IsAnswer s t
  refused_words m loaded fault h s t e is = inl (inr (e, record { contents = m; loaded = loaded; fault = fault; first = h; line_of = is }))
