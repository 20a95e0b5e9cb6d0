-- Equations up to the first whose left side is at fault.
use Rattle.std.proofs.Common.{◌≡◌, ◌≤◌, ◌<◌, ◌+◌, ◌-◌, ℕ, zero, suc, Bool, false, List, [], ◌∷◌, ◌++◌, length, take, get_or, Option, Some, None, refl, sym, ap, ◌∙◌, subst, arith, ◌↔◌, IsTrue}
use Rattle.std.specs.Prelude.{slice_get, MatchOption}
use Rattle.std.specs.List.{All}
use Rattle.std.proofs.lemmas.Bool.{false≢true}
use Rattle.std.proofs.lemmas.List.{take_more, take_all}
use Rattle.std.proofs.lemmas.List.Elements.{All-push, All-contains}
use Rattle.std.proofs.lemmas.Option.{slice_get_read}
use Rattle.fvn_base.proofs.Membership.{map_contains}
use Rattle.fvn_terms.specs.declared.declarations.Declarations.{Declarations}
use Rattle.fvn_terms.specs.Term.{Term}
use Rattle.fvn_terms.specs.Plain.{term}
use Rattle.fvn_rewrite_laws.specs.Choices.{InstancesFit}
use Rattle.fvn_theory.specs.declared.equation.Equation.{Equation}
use Rattle.fvn_theory.specs.Equations.{sides_of, equations_of}
use Rattle.fvn_cohere.specs.declared.faults.LeftFault.{LeftFault}
use Rattle.fvn_cohere.specs.declared.collapsing.Collapse.{Collapse}
use Rattle.fvn_cohere.specs.declared.collapsing.Collapse.TheVariants.{Variable, Identity}
use Rattle.fvn_cohere.specs.Promises.{OfEquation, CollapsesAs}
use Rattle.fvn_cohere.specs.inner.Collapsing.{fault_of_collapse}
use Rattle.fvn_cohere.specs.LeftFaults.{IsHarmless, AreHarmless, IsLeftFault, IsFirstLeftFault}
use Rattle.fvn_cohere.proofs.Firsts.{split_at}

-- what a test that failed says
pub not_fit : {A : Type 0} (b : Bool) → b ≡ false → IsTrue b ↔ A → A → ⊥
not_fit b e h a = false≢true (sym e ∙ h.1 a)

-- there is an equation at each place
got : (list : List Equation) (i : ℕ) → i < length list → (e : Equation) × (e ≡ get_or list i e)
got [] i within = absurd (omega (arith, within))
got (q ∷ list) zero within = (q, refl)
got (q ∷ list) (suc i) within = got list i (omega (arith, within))

-- the equation at a place has the number after it
numbered : (list : List Equation) (i : ℕ) (e : Equation) → i < length list → e ≡ get_or list i e → slice_get list (i + 1 - 1) ≡ Some e
numbered list i e within is =
    let place : i + 1 - 1 ≡ i = omega arith in
    subst (λ k. slice_get list k ≡ Some e) (sym place) (slice_get_read list (length list) i e refl within is)

module _ (d : Declarations) where
  -- what a collapse says of a left side with few instances
  pub collapse_says : (n : ℕ) (t : Term) (c : Option Collapse) → InstancesFit d t → CollapsesAs d t c → MatchOption (fault_of_collapse n c) (IsHarmless d t) (IsLeftFault d n t)
  collapse_says n t None few h = record { few = few; no_variable = h.0; no_identity = h.1 }
  collapse_says n t (Some Variable) few h = (refl, (few, h))
  collapse_says n t (Some Identity) few h = (refl, (few, h))

  -- the left side of each of these equations is harmless
  abbrev pub HarmlessSoFar : List Equation → Type 0
  HarmlessSoFar list = All (λ (e : Equation). IsHarmless d (term e.left)) list

  pub harmless_sides : (list : List Equation) → HarmlessSoFar list → AreHarmless d (equations_of list)
  harmless_sides list h q c =
      let w = map_contains sides_of list q c in
      subst (λ z. IsHarmless d z.0) w.1.1 (All-contains (λ (e : Equation). IsHarmless d (term e.left)) list w.0 h w.1.0)

  module _ (list : List Equation) where
    -- one equation more
    pub harmless_more : (i : ℕ) (e : Equation) → i < length list → e ≡ get_or list i e → HarmlessSoFar (take i list) → IsHarmless d (term e.left) → HarmlessSoFar (take (i + 1) list)
    harmless_more i e within is h l =
        subst HarmlessSoFar (sym (take_more list i e within ∙ ap (λ (z : Equation). take i list ++ z ∷ []) (sym is)))
        (All-push (λ (e : Equation). IsHarmless d (term e.left)) (take i list) e h l)

    -- the first that is at fault
    pub first_fault : (i : ℕ) (e : Equation) → i < length list → e ≡ get_or list i e → HarmlessSoFar (take i list) → (fault : LeftFault) → IsLeftFault d (i + 1) (term e.left) fault → IsFirstLeftFault d (equations_of list) fault
    first_fault i e within is h fault wrong =
        let w = split_at list i e within is in
        record {
          before = equations_of (take i list);
          equation = sides_of e;
          after = w.0;
          split = w.1.0;
          earlier = harmless_sides (take i list) h;
          wrong = subst (λ n. IsLeftFault d (n + 1) (term e.left) fault) (sym w.1.1) wrong;
        }

    pub all_harmless : (i : ℕ) → length list ≤ i → HarmlessSoFar (take i list) → AreHarmless d (equations_of list)
    all_harmless i past h = harmless_sides list (subst HarmlessSoFar (take_all i list past) h)

module _ (d : Declarations) (equations : List Equation) where
  -- what is said of the equation of a number
  abbrev Said : ℕ → Option LeftFault → Type 0
  Said i fault = OfEquation equations (i + 1) (λ (e : Equation). MatchOption fault (IsHarmless d (term e.left)) (IsLeftFault d (i + 1) (term e.left)))

  -- where nothing is wrong with it, one equation more
  pub harmless_step : (i : ℕ) (fault : Option LeftFault) → i < length equations → HarmlessSoFar d (take i equations) → fault ≡ None → Said i fault → HarmlessSoFar d (take (i + 1) equations)
  harmless_step i fault within h none says =
      let g = got equations i within in
      let e : Equation = g.0 in
      harmless_more d equations i e within g.1 h
      (subst (λ f. MatchOption f (IsHarmless d (term e.left)) (IsLeftFault d (i + 1) (term e.left))) none (says e (numbered equations i e within g.1)))

  -- where something is, it is the first
  pub fault_step : (i : ℕ) (fault : Option LeftFault) (wrong : LeftFault) → i < length equations → HarmlessSoFar d (take i equations) → fault ≡ Some wrong → Said i fault → IsFirstLeftFault d (equations_of equations) wrong
  fault_step i fault wrong within h some says =
      let g = got equations i within in
      let e : Equation = g.0 in
      first_fault d equations i e within g.1 h wrong
      (subst (λ f. MatchOption f (IsHarmless d (term e.left)) (IsLeftFault d (i + 1) (term e.left))) some (says e (numbered equations i e within g.1)))
