-- What holds of all that is read, and of all refusals.
use Rattle.std.specs.Prelude.{ℕ, List}
use Rattle.fvn_module.specs.Contents.{Contents}
use Rattle.fvn_module_loading.specs.Loading.{IsLoaded, AreNotLoaded}
use Rattle.fvn_module_loading.specs.Laws.{LoadedModulesAreDetermined, LoadFaultsAreDetermined, FaultyTextsAreNotLoaded, LossesAreDetermined}
use Rattle.fvn_problems.specs.Laws.{ProblemsAreDetermined, BindingsAreDetermined, RefusedProblemsAskNothing, RefusedBindingsBindNothing, ProblemFaultsAreDetermined, BindingFaultsAreDetermined, QueriesAreDetermined, RefusedQueriesAskNothing, QueryFaultsAreDetermined}
use Rattle.fvn_weights_reading.specs.Laws.{WeightsAreDetermined, WeightFaultsAreDetermined, RefusedTextsWeighNothing}
use Rattle.fvn_cmd.specs.declared.status.Status.{Status}
use Rattle.fvn_cmd.specs.declared.status.Status.TheVariants.{ModuleRefused, ProblemRefused}
use Rattle.fvn_cmd.specs.Texts.{Is}
use Rattle.fvn_cmd.specs.Asking.{Word, AllStand}
use Rattle.fvn_cmd.specs.Refusing.{IsRefusal}

-- A text is loaded as one module at most, has one first fault at most, and not both; so it is with problems, weights and terms
-- in a module, and with bindings in a problem; and of a module's sorts one thing is told.
pub record ReadersAreLawful : Type 0 where
  pub loaded : LoadedModulesAreDetermined
  pub faults : LoadFaultsAreDetermined
  pub not_loaded : FaultyTextsAreNotLoaded
  pub losses : LossesAreDetermined
  pub problems : ProblemsAreDetermined
  pub no_problem : RefusedProblemsAskNothing
  pub problem_faults : ProblemFaultsAreDetermined
  pub bindings : BindingsAreDetermined
  pub no_bindings : RefusedBindingsBindNothing
  pub binding_faults : BindingFaultsAreDetermined
  pub weights : WeightsAreDetermined
  pub no_weights : RefusedTextsWeighNothing
  pub weight_faults : WeightFaultsAreDetermined
  pub terms : QueriesAreDetermined
  pub no_term : RefusedQueriesAskNothing
  pub term_faults : QueryFaultsAreDetermined

-- For the words of all commands: bytes and words are refused with one status and one text at most; a module is refused
-- only where it is not loaded, and words only in a loaded module in which not all of them are what they should be.
pub record RefusalsAreLawful : Type 0 where
  pub one : (bytes : List ℕ) (words : List Word) (s : Status) (t : List ℕ) → IsRefusal bytes words s t →
      (u : Status) (v : List ℕ) → IsRefusal bytes words u v → Is s t u v
  pub module_refused : (bytes : List ℕ) (words : List Word) (text : List ℕ) →
      IsRefusal bytes words ModuleRefused text → AreNotLoaded bytes
  pub words_refused : (bytes : List ℕ) (words : List Word) (text : List ℕ) →
      IsRefusal bytes words ProblemRefused text → (m : Contents) × (IsLoaded bytes m × (AllStand m words → ⊥))
  pub not_both : (bytes : List ℕ) (words : List Word) (s : Status) (t : List ℕ) → IsRefusal bytes words s t →
      (m : Contents) → IsLoaded bytes m → AllStand m words → ⊥
