-- Numbers of variables, each beside its variable; sums that stop at the greatest number.
use Rattle.std.specs.Prelude.{◌≡◌, ◌<◌, ◌≤◌, ℕ, ◌+◌, ◌*◌, ◌-◌, ◌^◌, ◌%◌, min, suc, nat_eq, Bool, true, false, if◌then◌else◌}
use Rattle.std.specs.Prelude.{List, [], ◌∷◌, length, get_or, Option, Some, None, option_map}
use Rattle.fvn_terms.specs.declared.plain.Var.{Var}
use Rattle.fvn_terms.specs.Substitution.{same_var}
use Rattle.fvn_weights.specs.declared.limits.TheConstants.{SLOTS}
use Rattle.fvn_weights.specs.Values.{one_at}

-- the number, or the greatest that there is
abbrev pub capped : ℕ → ℕ
capped n = min n (2 ^ 64 - 1)

-- the number beside the variable where it stands first; nothing where it does not stand
abbrev pub found : List (Var × ℕ) → Var → ℕ
found [] x = 0
found (p ∷ ps) x = if same_var p.0 x then p.1 else found ps x

-- where the first variable stands that passes a test
abbrev pub first_at : (Var → Bool) → List (Var × ℕ) → Option ℕ
first_at test [] = None
first_at test (p ∷ ps) = if test p.0 then Some 0 else option_map suc (first_at test ps)

-- where the variable stands first
abbrev pub place : List (Var × ℕ) → Var → Option ℕ
place ps x = first_at (λ y. same_var y x) ps

-- the slot of a variable, by its name
abbrev pub slot : Var → ℕ
slot x = x.name % SLOTS

-- where the first variable of a slot stands
abbrev pub slot_place : List (Var × ℕ) → ℕ → Option ℕ
slot_place ps s = first_at (λ y. nat_eq (slot y) s) ps

-- each slot has a number: where a variable of the slot stands, the place of the first one
pub record AreStarts (ps : List (Var × ℕ)) (starts : List ℕ) : Type 0 where
  pub count : length starts ≡ SLOTS
  pub first : (s i : ℕ) → slot_place ps s ≡ Some i → get_or starts s 0 ≡ i

-- the number of a slot: the place of its first variable, or else this one
abbrev pub start_or : Option ℕ → ℕ → ℕ
start_or None n = n
start_or (Some i) n = i

-- the number of x is raised, and no other, up to the greatest number
abbrev pub IsMore : Var → ℕ → List (Var × ℕ) → List (Var × ℕ) → Type 0
IsMore x more before after = (y : Var) → capped (found after y) ≡ capped (found before y + more * one_at y x)

-- the same, and the slots have their numbers
pub record IsRaised (x : Var) (more : ℕ) (before after : List (Var × ℕ)) (starts : List ℕ) : Type 0 where
  pub placed : AreStarts after starts
  pub raised : IsMore x more before after

-- Whether the number of some variable is above its bound; where it is not told, that of the variable that stands
-- first at this place is not.
abbrev pub TellsAbove : (Var → ℕ) → List (Var × ℕ) → ℕ → Bool → Type 0
TellsAbove bound ps i true = (x : Var) × (bound x < found ps x)
TellsAbove bound ps i false = (x : Var) → place ps x ≡ Some i → found ps x ≤ bound x
