-- What is wrong with left sides is determined.
use Rattle.std.proofs.Common.{◌≡◌, ◌+◌, ℕ, length, sym, ap, ◌∙◌, subst}
use Rattle.fvn_terms.specs.declared.declarations.Declarations.{Declarations}
use Rattle.fvn_terms.specs.Term.{Term}
use Rattle.fvn_terms.specs.Theory.{Equations}
use Rattle.fvn_cohere.specs.declared.faults.LeftFault.{LeftFault}
use Rattle.fvn_cohere.specs.declared.faults.LeftFault.TheVariants.{TooManyInstances, BecomesVariable, BecomesIdentity}
use Rattle.fvn_cohere.specs.LeftFaults.{IsHarmless, AreHarmless, IsLeftFault, IsFirstLeftFault}
use Rattle.fvn_module_loading.proofs.Firsts.{not_good, one_first}

module _ (d : Declarations) where
  harmful : (n : ℕ) (t : Term) (f : LeftFault) → IsLeftFault d n t f → IsHarmless d t → ⊥
  harmful n t (TooManyInstances k) w h = w.1 h.few
  harmful n t (BecomesVariable k) w h = h.no_variable w.1.1
  harmful n t (BecomesIdentity k) w h = h.no_identity w.1.1.1

  -- one left side has one fault
  one_fault : (n : ℕ) (t : Term) (f g : LeftFault) → IsLeftFault d n t f → IsLeftFault d n t g → f ≡ g
  one_fault n t (TooManyInstances k) (TooManyInstances j) p q = ap TooManyInstances (p.0 ∙ sym q.0)
  one_fault n t (TooManyInstances k) (BecomesVariable j) p q = absurd (p.1 q.1.0)
  one_fault n t (TooManyInstances k) (BecomesIdentity j) p q = absurd (p.1 q.1.0)
  one_fault n t (BecomesVariable k) (TooManyInstances j) p q = absurd (q.1 p.1.0)
  one_fault n t (BecomesVariable k) (BecomesVariable j) p q = ap BecomesVariable (p.0 ∙ sym q.0)
  one_fault n t (BecomesVariable k) (BecomesIdentity j) p q = absurd (q.1.1.0 p.1.1)
  one_fault n t (BecomesIdentity k) (TooManyInstances j) p q = absurd (q.1 p.1.0)
  one_fault n t (BecomesIdentity k) (BecomesVariable j) p q = absurd (p.1.1.0 q.1.1)
  one_fault n t (BecomesIdentity k) (BecomesIdentity j) p q = ap BecomesIdentity (p.0 ∙ sym q.0)

  -- with a first fault, the left sides are not harmless
  pub first_harmful : (equations : Equations) (f : LeftFault) → IsFirstLeftFault d equations f → AreHarmless d equations → ⊥
  first_harmful equations f w all =
      not_good (λ (q : Term × Term). IsHarmless d q.0) equations w.before w.after w.equation w.split (harmful (length w.before + 1) w.equation.0 f w.wrong) all

  -- and the first fault is one
  pub first_once : (equations : Equations) (f g : LeftFault) → IsFirstLeftFault d equations f → IsFirstLeftFault d equations g → f ≡ g
  first_once equations f g a b =
      let r = one_first (λ (q : Term × Term). IsHarmless d q.0) a.before a.after b.before b.after a.equation b.equation (sym a.split ∙ b.split) a.earlier b.earlier (harmful (length a.before + 1) a.equation.0 f a.wrong) (harmful (length b.before + 1) b.equation.0 g b.wrong) in
      let before : length a.before ≡ length b.before = ap length r.0 in
      let side : a.equation.0 ≡ b.equation.0 = ap (λ (q : Term × Term). q.0) r.1 in
      one_fault (length b.before + 1) b.equation.0 f g (subst (λ n. IsLeftFault d (n + 1) b.equation.0 f) before (subst (λ t. IsLeftFault d (length a.before + 1) t f) side a.wrong)) b.wrong
