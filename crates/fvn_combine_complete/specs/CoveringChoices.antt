-- Choices at a leaf that cover a unifier.
use Rattle.std.specs.Prelude.{◌≡◌, ℕ, ◌<◌, true, Contains}
use Rattle.fvn_terms.specs.declared.plain.Var.{Var}
use Rattle.fvn_terms.specs.declared.declarations.Declarations.{Declarations}
use Rattle.fvn_terms.specs.Substitution.{Substitution}
use Rattle.fvn_terms.specs.Unifiers.{Problem}
use Rattle.fvn_flat.specs.Bindings.{Bindings}
use Rattle.fvn_flat.specs.Problems.{variables_of}
use Rattle.fvn_flat.specs.SolvedLists.{Plan}
use Rattle.fvn_combine_nodes.specs.Table.{NodeTable}
use Rattle.fvn_combine_nodes.specs.States.{class_of}
use Rattle.fvn_combine_nodes.specs.Laws.{class_at}
use Rattle.fvn_combine_nodes.specs.declared.state.State.{State}
use Rattle.fvn_combine_choices.specs.Choosing.{Systems, Choice, IsPossible, Falls}
use Rattle.fvn_combine_choices.specs.Plans.{IsPlanBy, AreBindingsBy, unfolds_to}
use Rattle.fvn_combine_choices.specs.Covering.{CoversOnKinds}
use Rattle.fvn_combine_complete.specs.Full.{IsFull}

-- no fresh variable of the problem has this number or a greater one
abbrev pub IsAfterNumbersOf : Problem → ℕ → Type 0
IsAfterNumbersOf problem first = (x : Var) → Contains (variables_of problem) x → x.fresh ≡ true → x.name < first

-- the choice covers u: it is possible and full, its bindings can be put in an order, and whatever its plan with numbers that are new,
-- and its bindings by the plan, what they unfold to covers u
pub record IsCovering (d : Declarations) (problem : Problem) (t : NodeTable) (s : State) (y : Systems) (u : Substitution) (c : Choice) : Type 0 where
  pub possible : IsPossible d t (class_of s) y c
  pub full : IsFull d t (class_of s) y c
  pub rank : ℕ → ℕ
  pub falls : Falls d t (class_of s) y c rank
  pub covers : (first next : ℕ) (plan : Plan) → IsAfterNumbersOf problem first → IsPlanBy d t (class_of s) y c first next plan → (bindings : Bindings)
      → AreBindingsBy d problem (class_at t (class_of s)) plan bindings → CoversOnKinds d (variables_of problem) (unfolds_to d bindings) u
