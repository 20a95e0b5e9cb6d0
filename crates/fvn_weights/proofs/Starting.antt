-- The places that are noted of slots.
use Rattle.std.proofs.Common.{◌≡◌, ◌≤◌, ◌<◌, ◌+◌, ◌%◌, ℕ, Bool, true, false, List, [], ◌∷◌, ◌++◌, set, Option, Some, None, length, refl, sym, subst, ap, ◌∙◌, arith}
use Rattle.std.specs.Prelude.{get_or, nat_eq, if◌then◌else◌}
use Rattle.std.proofs.lemmas.Bool.{eqb-true, eq-eqb}
use Rattle.std.proofs.lemmas.Nat.{mod_below}
use Rattle.std.proofs.lemmas.List.{length-set, get_or-set_same, get_or-set_other}
use Rattle.fvn_base.proofs.Options.{Some-injective}
use Rattle.fvn_terms.specs.declared.plain.Var.{Var}
use Rattle.fvn_terms.specs.Substitution.{same_var}
use Rattle.fvn_terms.proofs.Variables.{same_var_is}
use Rattle.fvn_weights.specs.declared.limits.TheConstants.{SLOTS}
use Rattle.fvn_weights.specs.inner.Numbers.{place, slot, slot_place, start_or, capped, found, AreStarts, IsRaised}
use Rattle.fvn_weights.proofs.FitTests.{contradicts}
use Rattle.fvn_weights.proofs.Firsts.{first_within, first_passes, first_none, first_set, push_some, push_none, narrow_here, narrow_none}
use Rattle.fvn_weights.proofs.Placing.{raised_at, raised_new}

pub slot_below : (n : ℕ) → n % SLOTS < SLOTS
slot_below n = mod_below n SLOTS (omega arith)

abbrev of_slot : ℕ → Var → Bool
of_slot s y = nat_eq (slot y) s

pub first_below : (s : ℕ) (ps : List (Var × ℕ)) (i : ℕ) → slot_place ps s ≡ Some i → i < length ps
first_below s ps i e = first_within (of_slot s) ps i e

-- one variable has one slot
one_slot : (x y : Var) → same_var y x ≡ true → nat_eq (slot y) (slot x) ≡ true
one_slot x y e = eq-eqb (slot y) (slot x) (ap slot (same_var_is y x e))

-- the first variable of its slot may be x
pub placed_first : (x : Var) (ps : List (Var × ℕ)) (i : ℕ) (d : Var × ℕ) → slot_place ps (slot x) ≡ Some i → same_var (get_or ps i d).0 x ≡ true → place ps x ≡ Some i
placed_first x ps i d e h = narrow_here (λ y. same_var y x) (of_slot (slot x)) (one_slot x) ps i d e h

-- in a slot without variables there is no x
pub placed_nowhere : (x : Var) (ps : List (Var × ℕ)) → slot_place ps (slot x) ≡ None → place ps x ≡ None
placed_nowhere x ps e = narrow_none (λ y. same_var y x) (of_slot (slot x)) (one_slot x) ps e

-- what is noted of a slot
module _ (ps : List (Var × ℕ)) (starts : List ℕ) (a : AreStarts ps starts) (s i : ℕ) (is : i ≡ get_or starts s 0) where
  pub noted_here : (d : Var × ℕ) → i < length ps → slot (get_or ps i d).0 ≡ s → slot_place ps s ≡ Some i
  noted_here d within one = go (slot_place ps s) refl where
    go : (o : Option ℕ) → slot_place ps s ≡ o → slot_place ps s ≡ Some i
    go None e = absurd (contradicts (of_slot s (get_or ps i d).0) (eq-eqb (slot (get_or ps i d).0) s one) (first_none (of_slot s) ps i d e within))
    go (Some j) e = e ∙ ap Some (sym (is ∙ a.first s j e))

  pub noted_past : length ps ≤ i → slot_place ps s ≡ None
  noted_past past = go (slot_place ps s) refl where
    go : (o : Option ℕ) → slot_place ps s ≡ o → slot_place ps s ≡ None
    go None e = e
    go (Some j) e = absurd (let l = first_within (of_slot s) ps j e in let q : i ≡ j = is ∙ a.first s j e in omega (arith, l, q, past))

  pub noted_other : (d : Var × ℕ) → (slot (get_or ps i d).0 ≡ s → ⊥) → slot_place ps s ≡ None
  noted_other d other = go (slot_place ps s) refl where
    go : (o : Option ℕ) → slot_place ps s ≡ o → slot_place ps s ≡ None
    go None e = e
    go (Some j) e =
        let q : j ≡ i = sym (is ∙ a.first s j e) in
        absurd (other (eqb-true (slot (get_or ps i d).0) s (subst (λ k. of_slot s (get_or ps k d).0 ≡ true) q (first_passes (of_slot s) ps j d e))))

-- nothing stands in an empty list
pub none_noted : (starts : List ℕ) → length starts ≡ SLOTS → AreStarts [] starts
none_noted starts count = record { count = count; first = λ s i e. absurd (let q : None ≡ Some i = e in cc) }

module _ (x : Var) (ps : List (Var × ℕ)) (starts : List ℕ) (a : AreStarts ps starts) where
  -- the number of a variable is raised where it stands
  pub raised_there : (i m : ℕ) → place ps x ≡ Some i → IsRaised x m ps (set ps i (x, capped (found ps x + m))) starts
  raised_there i m e = record {
    placed = record { count = a.count; first = λ s j h. a.first s j (sym (same_places s) ∙ h) };
    raised = raised_at x ps i m (capped (found ps x + m)) e refl;
  }
    where
      same_places : (s : ℕ) → slot_place (set ps i (x, capped (found ps x + m))) s ≡ slot_place ps s
      same_places s = first_set (of_slot s) ps i x (capped (found ps x + m)) (x, 0) (same_var_is (get_or ps i (x, 0)).0 x (first_passes (λ y. same_var y x) ps i (x, 0) e))

  -- or it is put behind the others, and its slot is noted
  module _ (m start : ℕ) (new : place ps x ≡ None) (start_is : start ≡ start_or (slot_place ps (slot x)) (length ps)) where
    abbrev after : List (Var × ℕ)
    after = ps ++ (x, m) ∷ []

    abbrev noted : List ℕ
    noted = set starts (slot x) start

    -- its own slot
    own : (o : Option ℕ) → slot_place ps (slot x) ≡ o → (j : ℕ) → slot_place after (slot x) ≡ Some j → start ≡ j
    own None e j h =
        let here : of_slot (slot x) x ≡ true = eq-eqb (slot x) (slot x) refl in
        let last : slot_place after (slot x) ≡ Some (length ps) = push_none (of_slot (slot x)) ps (x, m) e ∙ ap (λ b. if b then Some (length ps) else None) here in
        start_is ∙ ap (λ o. start_or o (length ps)) e ∙ Some-injective (sym last ∙ h)
    own (Some i) e j h = start_is ∙ ap (λ o. start_or o (length ps)) e ∙ Some-injective (sym (push_some (of_slot (slot x)) ps (x, m) i e) ∙ h)

    -- another slot
    other : (s : ℕ) → of_slot s x ≡ false → (o : Option ℕ) → slot_place ps s ≡ o → (j : ℕ) → slot_place after s ≡ Some j → slot_place ps s ≡ Some j
    other s n None e j h =
        let none_is : None ≡ Some j = sym (push_none (of_slot s) ps (x, m) e ∙ ap (λ b. if b then Some (length ps) else None) n) ∙ h in
        absurd (let q = none_is in cc)
    other s n (Some i) e j h = e ∙ (sym (push_some (of_slot s) ps (x, m) i e) ∙ h)

    noted_of : (s j : ℕ) (b : Bool) → of_slot s x ≡ b → slot_place after s ≡ Some j → get_or noted s 0 ≡ j
    noted_of s j true t h =
        let one : slot x ≡ s = eqb-true (slot x) s t in
        let at : get_or noted (slot x) 0 ≡ start = get_or-set_same starts (slot x) start 0 (let l = slot_below x.name in let n = a.count in omega (arith, l, n)) in
        subst (λ k. get_or noted k 0 ≡ j) one (at ∙ own (slot_place ps (slot x)) refl j (subst (λ k. slot_place after k ≡ Some j) (sym one) h))
    noted_of s j false t h =
        let apart : s ≡ slot x → ⊥ = λ e. contradicts (of_slot s x) (eq-eqb (slot x) s (sym e)) t in
        get_or-set_other starts (slot x) s start 0 apart ∙ a.first s j (other s t (slot_place ps s) refl j h)

    pub raised_last : IsRaised x m ps after noted
    raised_last = record {
      placed = record { count = length-set starts (slot x) start ∙ a.count; first = λ s j h. noted_of s j (of_slot s x) refl h };
      raised = raised_new x ps m new;
    }
