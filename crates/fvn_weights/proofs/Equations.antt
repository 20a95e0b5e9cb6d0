-- Equations that fall, one after another, and what follows from weights under which all fall.
use Rattle.std.proofs.Common.{◌≡◌, ◌≤◌, ◌<◌, ◌+◌, ℕ, zero, suc, List, [], ◌∷◌, Some, length, get_or, slice_get, Contains, refl, sym, subst, ap, ◌∙◌, inl, inr, arith, below_more}
use Rattle.std.proofs.lemmas.Bool.{cases_lt}
use Rattle.std.proofs.lemmas.Option.{slice_get-get_or}
use Rattle.fvn_base.proofs.Membership.{contains_cases, contains_none}
use Rattle.fvn_base.proofs.Options.{Some-injective}
use Rattle.fvn_terms.specs.declared.declarations.Declarations.{Declarations}
use Rattle.fvn_terms.specs.Term.{Term}
use Rattle.fvn_terms.specs.Plain.{term}
use Rattle.fvn_terms.specs.Rewriting.{IsTerminating}
use Rattle.fvn_theory.specs.declared.equation.Equation.{Equation}
use Rattle.fvn_theory.specs.Equations.{sides_of, equations_of}
use Rattle.fvn_weights.specs.declared.fault.WeighFault.{WeighFault}
use Rattle.fvn_weights.specs.declared.fault.WeighFault.TheVariants.{Shape, TooBig, Grows, NoMemory as OutOfMemory}
use Rattle.fvn_weights.specs.Values.{Linear, Falls, constant_of, factor_of}
use Rattle.fvn_weights.specs.Weighing.{IsFalling, AllFit, IsWeighFault}
use Rattle.fvn_weights.specs.inner.Equations.{IsFaultOf, AllFall, IsEquationFault}
use Rattle.fvn_weights.proofs.Falling.{fitting_weights_terminate}

module _ (w : Linear) where
  within : (es : List Equation) (i : ℕ) (e : Equation) → slice_get es i ≡ Some e → i < length es
  within [] i e is = cc
  within (x ∷ xs) zero e is = omega arith
  within (x ∷ xs) (suc i) e is = let less = within xs i e is in omega arith

  -- one equation more falls
  pub fall_more : (es : List Equation) (i : ℕ) (e : Equation) → i < length es → e ≡ get_or es i e → ((k : ℕ) → k < i → (x : Equation) → slice_get es k ≡ Some x → IsFalling w x) → IsFalling w e →
      (k : ℕ) → k < i + 1 → (x : Equation) → slice_get es k ≡ Some x → IsFalling w x
  fall_more es i e less is before here =
      below_more (λ k. (x : Equation) → slice_get es k ≡ Some x → IsFalling w x) i before
      (λ x at. subst (IsFalling w) (Some-injective (ap Some is ∙ sym (slice_get-get_or es i e less) ∙ at)) here)

  -- all of them fall
  pub all_fall : (es : List Equation) (i : ℕ) → length es ≤ i → ((k : ℕ) → k < i → (x : Equation) → slice_get es k ≡ Some x → IsFalling w x) → AllFall w es
  all_fall es i le before k x at = before k (let less = within es k x at in omega arith) x at

  -- the first that does not fall
  pub first_fault : (es : List Equation) (i number : ℕ) (e : Equation) (fault : WeighFault) → i < length es → e ≡ get_or es i e → number ≡ suc i →
      ((k : ℕ) → k < i → (x : Equation) → slice_get es k ≡ Some x → IsFalling w x) → IsFaultOf w e number fault → IsEquationFault w es fault
  first_fault es i number e (Shape f) less is count before h = absurd h
  first_fault es i number e (TooBig n) less is count before h = record {
    before = i;
    number_is = h.0 ∙ count;
    equation = e;
    is = slice_get-get_or es i e less ∙ ap Some (sym is);
    holds = h.1;
    earlier = λ k x l at. before k l x at;
  }
  first_fault es i number e (Grows n) less is count before h = record {
    before = i;
    number_is = h.0 ∙ count;
    equation = e;
    is = slice_get-get_or es i e less ∙ ap Some (sym is);
    holds = h.1;
    earlier = λ k x l at. before k l x at;
  }
  first_fault es i number e OutOfMemory less is count before h = tt

  -- an equation that does not grow falls
  equation_falls : (e : Equation) → IsFalling w e → Falls w (term e.left) (term e.right)
  equation_falls e f = record {
    constant = elim (cases_lt (constant_of w (term e.right)) (constant_of w (term e.left))) as (λ _. constant_of w (term e.right) < constant_of w (term e.left)) [
      | inl less ↦ less
      | inr le ↦ absurd (f.falls (inl le))
    ];
    factors = λ x. elim (cases_lt (factor_of w x (term e.left)) (factor_of w x (term e.right))) as (λ _. factor_of w x (term e.right) ≤ factor_of w x (term e.left)) [
      | inl less ↦ absurd (f.falls (inr (x, less)))
      | inr le ↦ le
    ];
  }

  pair_falls : (es : List Equation) → AllFall w es → (left right : Term) → Contains (equations_of es) (left, right) → Falls w left right
  pair_falls [] all left right c = absurd (contains_none (left, right) c)
  pair_falls (e ∷ es) all left right c = elim (contains_cases (sides_of e) (equations_of es) (left, right) c) as (λ _. Falls w left right) [
    | inl same ↦ subst (λ (p : Term × Term). Falls w p.0 p.1) same (equation_falls e (all 0 e refl))
    | inr later ↦ pair_falls es (λ i x at. all (suc i) x at) left right later
  ]

  -- weights that fit, under which all equations fall, show termination
  pub weighed_terminates : (d : Declarations) (es : List Equation) → AllFit d w → AllFall w es → IsTerminating d (equations_of es)
  weighed_terminates d es fit all = fitting_weights_terminate d (equations_of es) w fit (pair_falls es all)

  -- the first equation that does not fall is why weights that fit do not show termination
  pub fault_is : (d : Declarations) (es : List Equation) (fault : WeighFault) → AllFit d w → IsEquationFault w es fault → IsWeighFault d es w fault
  fault_is d es (Shape f) fit h = absurd h
  fault_is d es (TooBig n) fit h = (fit, h)
  fault_is d es (Grows n) fit h = (fit, h)
  fault_is d es OutOfMemory fit h = tt
