-- Equations up to the first that loses a sort.
use Rattle.std.proofs.Common.{◌≡◌, ◌≤◌, ◌<◌, ◌+◌, ◌-◌, ℕ, zero, suc, Bool, true, false, List, [], ◌∷◌, ◌++◌, length, take, get_or, ◌⊎◌, inl, inr, Some, None, refl, sym, ap, ◌∙◌, subst, arith}
use Rattle.std.specs.Prelude.{slice_get}
use Rattle.std.specs.List.{All}
use Rattle.std.proofs.lemmas.List.{take_more, take_all}
use Rattle.std.proofs.lemmas.Option.{slice_get_cases}
use Rattle.std.proofs.lemmas.List.Elements.{All-push, All-contains}
use Rattle.fvn_base.proofs.Membership.{map_contains}
use Rattle.fvn_base.proofs.Options.{Some-injective}
use Rattle.fvn_terms.specs.declared.declarations.Declarations.{Declarations}
use Rattle.fvn_terms.specs.Plain.{term}
use Rattle.fvn_terms.specs.Theory.{Equations}
use Rattle.fvn_terms.specs.Rewriting.{IsSortDecreasing}
use Rattle.fvn_rewrite_laws.specs.Kinds.{IsKindedEquation}
use Rattle.fvn_rewrite_laws.specs.Losses.{AreSortDecreasing, IsFirstLoss}
use Rattle.fvn_theory.specs.declared.equation.Equation.{Equation}
use Rattle.fvn_theory.specs.Equations.{sides_of, equations_of, IsReadableEquation}
use Rattle.fvn_cohere.specs.Promises.{IsNumberIn, OfEquation, LosesAs}

-- the equations before one of them, it, and those after it
pub split_at : (list : List Equation) (i : ℕ) (e : Equation) → i < length list → e ≡ get_or list i e → (after : Equations) × ((equations_of list ≡ equations_of (take i list) ++ (sides_of e ∷ after)) × (length (equations_of (take i list)) ≡ i))
split_at [] i e within is = absurd (omega (arith, within))
split_at (q ∷ list) zero e within is = (equations_of list, (ap (λ z. sides_of z ∷ equations_of list) (sym is), refl))
split_at (q ∷ list) (suc i) e within is =
    let r = split_at list i e (omega (arith, within)) is in
    (r.0, (ap (λ l. sides_of q ∷ l) r.1.0, ap suc r.1.1))

-- the equation at a place of the list
pub equation_in : (list : List Equation) (i : ℕ) → i < length list → (e : Equation) × (slice_get list i ≡ Some e) × (e ≡ get_or list i e)
equation_in list i within = found (slice_get_cases list i).1
  where
    found : ((e : Equation) × (i < length list) × (slice_get list i ≡ Some e) × (get_or list i e ≡ e)) ⊎ ((length list ≤ i) × (slice_get list i ≡ None)) →
        (e : Equation) × (slice_get list i ≡ Some e) × (e ≡ get_or list i e)
    found (inl w) = (w.0, w.2, sym w.3)
    found (inr w) = absurd (omega (arith, within, w.0))

-- what holds of the equation that is found at its number
pub of_found : (P : Equation → Type 0) (equations : List Equation) (number : ℕ) (e : Equation) → slice_get equations (number - 1) ≡ Some e → P e → OfEquation equations number P
of_found P equations number e is h q p = subst P (Some-injective (sym is ∙ p)) h

module _ (d : Declarations) where
  -- the equation of a number is readable, where all are
  pub readable_at : (equations : List Equation) (number : ℕ) (e : Equation) → IsNumberIn equations number → slice_get equations (number - 1) ≡ Some e → All (IsReadableEquation d) equations → IsReadableEquation d e
  readable_at equations number e n is all =
      let within : number - 1 < length equations = omega (arith, n.from_one, n.listed) in
      let w = equation_in equations (number - 1) within in
      let same : w.0 ≡ e = Some-injective (sym w.1 ∙ is) in
      subst (IsReadableEquation d) same (subst (IsReadableEquation d) (sym w.2) (all (number - 1) w.0 within))

  -- what was read of an equation is what is asked of it
  pub kinded : (e : Equation) → IsReadableEquation d e → IsKindedEquation d (sides_of e)
  kinded e h = record { kinds = record { kind = h.kind; left = h.left; right = h.right }; brings_none = h.brings_none }

  -- each of these equations is sort-decreasing
  abbrev pub AreDecreasing : List Equation → Type 0
  AreDecreasing list = All (λ (e : Equation). IsSortDecreasing d (term e.left) (term e.right)) list

  pub decreasing_sides : (list : List Equation) → AreDecreasing list → AreSortDecreasing d (equations_of list)
  decreasing_sides list h q c =
      let w = map_contains sides_of list q c in
      subst (λ z. IsSortDecreasing d z.0 z.1) w.1.1 (All-contains (λ (e : Equation). IsSortDecreasing d (term e.left) (term e.right)) list w.0 h w.1.0)

  module _ (list : List Equation) where
    -- one equation more
    pub decreasing_more : (i : ℕ) (e : Equation) → i < length list → e ≡ get_or list i e → AreDecreasing (take i list) → (b : Bool) → b ≡ false → LosesAs d (term e.left) (term e.right) b → AreDecreasing (take (i + 1) list)
    decreasing_more i e within is h b e_is l =
        subst AreDecreasing (sym (take_more list i e within ∙ ap (λ (z : Equation). take i list ++ z ∷ []) (sym is)))
        (All-push (λ (e : Equation). IsSortDecreasing d (term e.left) (term e.right)) (take i list) e h (subst (LosesAs d (term e.left) (term e.right)) e_is l))

    -- the first that loses
    pub first_loss : (i : ℕ) (e : Equation) → i < length list → e ≡ get_or list i e → AreDecreasing (take i list) → (b : Bool) → b ≡ true → LosesAs d (term e.left) (term e.right) b → IsFirstLoss d (equations_of list) (i + 1)
    first_loss i e within is h b e_is l =
        let w = split_at list i e within is in
        record {
          before = equations_of (take i list);
          equation = sides_of e;
          after = w.0;
          split = w.1.0;
          number = ap (λ n. n + 1) (sym w.1.1);
          earlier = decreasing_sides (take i list) h;
          loses = subst (LosesAs d (term e.left) (term e.right)) e_is l;
        }

    -- what is told of the equation of the next number
    abbrev pub TellsOf : ℕ → Bool → Type 0
    TellsOf i b = (e : Equation) → slice_get list (i + 1 - 1) ≡ Some e → LosesAs d (term e.left) (term e.right) b

    pub told_at : (i : ℕ) (b : Bool) (e : Equation) → slice_get list i ≡ Some e → TellsOf i b → LosesAs d (term e.left) (term e.right) b
    told_at i b e is l = l e (subst (λ n. slice_get list n ≡ Some e) back is)
      where
        back : i ≡ i + 1 - 1
        back = omega arith

    -- the equation of one number more
    pub decreasing_more_at : (i : ℕ) → i < length list → AreDecreasing (take i list) → (b : Bool) → b ≡ false → TellsOf i b → AreDecreasing (take (i + 1) list)
    decreasing_more_at i within h b is l =
        let w = equation_in list i within in
        decreasing_more i w.0 within w.2 h b is (told_at i b w.0 w.1 l)

    -- the first number that is told to lose
    pub first_loss_at : (i : ℕ) → i < length list → AreDecreasing (take i list) → (b : Bool) → b ≡ true → TellsOf i b → IsFirstLoss d (equations_of list) (i + 1)
    first_loss_at i within h b is l =
        let w = equation_in list i within in
        first_loss i w.0 within w.2 h b is (told_at i b w.0 w.1 l)

    pub all_decreasing : (i : ℕ) → length list ≤ i → AreDecreasing (take i list) → AreSortDecreasing d (equations_of list)
    all_decreasing i past h = decreasing_sides list (subst AreDecreasing (take_all i list past) h)
