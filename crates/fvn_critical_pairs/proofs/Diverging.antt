-- Terms that diverge are no two forms of one term of confluent equations.
use Rattle.std.proofs.Common.{ℕ, suc, List}
use Rattle.fvn_terms.specs.declared.declarations.Declarations.{Declarations}
use Rattle.fvn_terms.specs.Term.{Term}
use Rattle.fvn_terms.specs.Rewriting.{TermSequence, IsConfluent}
use Rattle.fvn_terms.specs.Laws.{RewritingLaws}
use Rattle.fvn_theory.specs.declared.equation.Equation.{Equation}
use Rattle.fvn_theory.specs.Equations.{sides_of, equations_of}
use Rattle.fvn_critical_pairs.specs.Divergence.{LeadsBy, Diverge}
use Rattle.fvn_critical_pairs.proofs.Single.{sides_listed, step_of_one}

module _ (d : Declarations) (equations : List Equation) where
  -- what begins with a step by one equation is a sequence
  leads : (m : ℕ) (t u : Term) → (l : LeadsBy d equations m t u) → TermSequence d (equations_of equations) (suc l.count) t u
  leads m t u l = (l.next, (step_of_one d (equations_of equations) (sides_of l.first.equation) (sides_listed equations l.first.before l.first.equation l.first.is) t l.next l.first.step, l.rest))

  pub diverging : RewritingLaws d (equations_of equations) → (m n : ℕ) (t u : Term) → Diverge d equations m n t u → IsConfluent d (equations_of equations) → ⊥
  diverging laws m n t u w confluent =
      w.apart
      (laws.one_normal_form confluent w.start t u (suc w.first.count) (suc w.second.count) w.kinded (leads m w.start t w.first) (leads n w.start u w.second) w.first_ends w.second_ends)
