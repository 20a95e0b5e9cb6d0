-- Instances weigh as much as what they are instances of, or more.
use Rattle.std.proofs.Common.{◌≡◌, ◌≤◌, Bool, true, false, refl, subst, arith}
use Rattle.fvn_terms.specs.declared.plain.Var.{Var}
use Rattle.fvn_terms.specs.declared.plain.OpId.{OpId}
use Rattle.fvn_terms.specs.Term.{Term, Terms, var, app, none, more}
use Rattle.fvn_terms.specs.Substitution.{Substitution, apply, apply_all, same_var, Occurs}
use Rattle.fvn_flat.proofs.Binding.{same_var_is}
use Rattle.fvn_cover_counts.specs.declared.symbols.Symbol.TheVariants.{Variable, Operator}
use Rattle.fvn_cover_counts.specs.Weights.{Weights, weight, weight_all, one_if, of_symbol, times}
use Rattle.fvn_cover_counts.proofs.Occurring.{occurs_once}

-- where no variable weighs more than its value, no term weighs more than its instance
module _ (w v : Weights) (s : Substitution) (variables : (x : Var) → w.variable x ≤ weight v (s x)) (constants : (f : OpId) → w.constant f ≤ v.constant f) (operators : (f : OpId) → w.operator f ≤ v.operator f) where
  mutual
    pub instance_weighs : (t : Term) → weight w t ≤ weight v (apply s t)
    instance_weighs (var x) = variables x
    instance_weighs (app f none) = constants f
    instance_weighs (app f (more t ts)) = let a = operators f in let b = instance_weighs t in let e = instances_weigh ts in omega arith

    instances_weigh : (ts : Terms) → weight_all w ts ≤ weight_all v (apply_all s ts)
    instances_weigh none = omega arith
    instances_weigh (more t ts) = let b = instance_weighs t in let e = instances_weigh ts in omega arith

-- a variable stands in a term as often as one of its value stands in the instance, or less often
pub fewer_occurrences : (s : Substitution) (x y : Var) → Occurs y (s x) → (t : Term) → times (Variable x) t ≤ times (Variable y) (apply s t)
fewer_occurrences s x y o = instance_weighs (of_symbol (Variable x)) (of_symbol (Variable y)) s (λ z. go z (same_var x z) refl) (λ f. omega arith) (λ f. omega arith)
  where
    go : (z : Var) (b : Bool) → same_var x z ≡ b → one_if (same_var x z) ≤ times (Variable y) (s z)
    go z true e = rw e (subst (λ v. 1 ≤ times (Variable y) (s v)) (same_var_is x z e) (occurs_once y (s x) o))
    go z false e = rw e (omega arith)

-- an instance has as many of each operator, or more
pub fewer_operators : (s : Substitution) (f : OpId) (t : Term) → times (Operator f) t ≤ times (Operator f) (apply s t)
fewer_operators s f = instance_weighs (of_symbol (Operator f)) (of_symbol (Operator f)) s (λ x. omega arith) (λ g. omega arith) (λ g. omega arith)
