-- How the steps of `verify` make its reply.
use Rattle.std.proofs.Common.{◌≡◌, ℕ, List, subst, inl, inr}
use Rattle.fvn_terms.specs.declared.declarations.Declarations.{Declarations}
use Rattle.fvn_syntax.specs.declared.names.Names.{Names}
use Rattle.fvn_module.specs.declared.fault.ModuleFault.{ModuleFault}
use Rattle.fvn_module.specs.Contents.{Contents}
use Rattle.fvn_module.specs.Readable.{IsReadable}
use Rattle.fvn_module_loading.specs.Loading.{IsLoadFault}
use Rattle.fvn_problems.specs.declared.fault.ProblemFault.{ProblemFault}
use Rattle.fvn_problems.specs.declared.problem.Problem.{Problem}
use Rattle.fvn_problems.specs.declared.bindings.Bindings.{Bindings}
use Rattle.fvn_problems.specs.Problems.{IsProblem, RefusesProblem}
use Rattle.fvn_problems.specs.Bindings.{IsBindings, RefusesBindings}
use Rattle.fvn_problems.specs.Scopes.{AreNamesOf}
use Rattle.fvn_cmd.specs.declared.status.Status.{Status}
use Rattle.fvn_cmd.specs.declared.status.Status.TheVariants.{ModuleRefused, ProblemRefused}
use Rattle.fvn_cmd.specs.Refusing.{IsRefusalLine, IsProblemRefusalLine}
use Rattle.fvn_cmd_verify.specs.Verdicts.{TellsVerdict}
use Rattle.fvn_cmd_verify.specs.Replies.{IsVerifyReply}
use Rattle.fvn_cmd_verify.specs.inner.Steps.{RepliesToBindings, RepliesToProblem}

-- the names of a module that was read
pub module-names : (m : Contents) → IsReadable m → AreNamesOf m.signature m.names
module-names m r = record {
  numbered = r.numbered;
  fitting = record { sorts = r.fitting.sorts; kinds = r.fitting.kinds; variables = r.fitting.variables; ops = r.fitting.ops; sums = r.fitting.sums };
}

-- a module is refused with its first fault
pub refused_module : (bytes problem bindings : List ℕ) (steps : ℕ) (fault : ModuleFault) → IsLoadFault bytes fault → (s : Status) (t : List ℕ) → s ≡ ModuleRefused → IsRefusalLine fault t → IsVerifyReply bytes problem bindings steps s t
refused_module bytes problem bindings steps fault h s t e is = inl (inl (e, record { fault = fault; first = h; line_of = is }))

module _ (m : Contents) (d : Declarations) (names : Names) (signature_is : d ≡ m.signature) (names_are : names ≡ m.names) (steps : ℕ) where
  in_module : (P : Declarations → Names → Type 0) → P d names → P m.signature m.names
  in_module P h = subst (λ x. P m.signature x) names_are (subst (λ x. P x names) signature_is h)

  -- bindings are refused with their first fault, or the verdict is told
  pub refused_bindings : (p : Problem) (bindings : List ℕ) (fault : ProblemFault) → RefusesBindings d names p bindings fault → (s : Status) (t : List ℕ) → s ≡ ProblemRefused → IsProblemRefusalLine fault t →
      RepliesToBindings m p bindings steps s t
  refused_bindings p bindings fault h s t e is bytes problem asked =
      inl (inr (
        e,
        record {
          contents = m;
          loaded = asked.module_text;
          fault = fault;
          first = inr ((p, asked.problem_text), inl (p, (asked.problem_text, in_module (λ x y. RefusesBindings x y p bindings fault) h)));
          line_of = is;
        },
      ))

  pub told_verdict : (p : Problem) (bindings : List ℕ) (b : Bindings) → IsBindings d names p bindings b → (s : Status) (t : List ℕ) → TellsVerdict m steps p b s t → RepliesToBindings m p bindings steps s t
  told_verdict p bindings b h s t k bytes problem asked =
      inr (m, p, b, (record { asked_in = asked; bindings_text = in_module (λ x y. IsBindings x y p bindings b) h }, k))

  -- a problem is refused with its first fault, or the bindings are looked at
  pub refused_problem : (problem bindings : List ℕ) (fault : ProblemFault) → RefusesProblem d names problem fault → (s : Status) (t : List ℕ) → s ≡ ProblemRefused → IsProblemRefusalLine fault t →
      RepliesToProblem m problem bindings steps s t
  refused_problem problem bindings fault h s t e is bytes loaded =
      inl (inr (
        e,
        record {
          contents = m;
          loaded = loaded;
          fault = fault;
          first = inl (in_module (λ x y. RefusesProblem x y problem fault) h);
          line_of = is;
        },
      ))

  pub asked_problem : (problem bindings : List ℕ) (p : Problem) → IsProblem d names problem p → (s : Status) (t : List ℕ) → RepliesToBindings m p bindings steps s t → RepliesToProblem m problem bindings steps s t
  asked_problem problem bindings p h s t r bytes loaded = r bytes problem (record { module_text = loaded; problem_text = in_module (λ x y. IsProblem x y problem p) h })
