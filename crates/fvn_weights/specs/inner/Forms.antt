-- Linear forms that are collected term by term, and what is seen of two of them.
use Rattle.std.specs.Prelude.{◌≡◌, ◌≤◌, ◌<◌, ◌⊎◌, ℕ, ◌+◌, ◌*◌}
use Rattle.fvn_terms.specs.declared.plain.Var.{Var}
use Rattle.fvn_terms.specs.declared.plain.OpId.{OpId}
use Rattle.fvn_terms.specs.Term.{Term, Terms}
use Rattle.fvn_weights.specs.declared.forms.Form.{Form}
use Rattle.fvn_weights.specs.declared.limits.TheConstants.{MOST}
use Rattle.fvn_weights.specs.declared.comparing.Outcome.{Outcome}
use Rattle.fvn_weights.specs.declared.comparing.Outcome.TheVariants.{Falling, Big, Growing}
use Rattle.fvn_weights.specs.Values.{Linear, constant_of, factor_of, value_from, without_constants, one_at}
use Rattle.fvn_weights.specs.inner.Numbers.{capped, found, AreStarts}

-- it is noted where the variables of each slot begin
abbrev pub IsPlaced : Form → Type 0
IsPlaced form = AreStarts form.factors.items form.starts.items

-- the form has so much more at its constant and at each variable, up to the greatest number
pub record HasMore (constant : ℕ) (factor : Var → ℕ) (before after : Form) : Type 0 where
  pub placed : IsPlaced after
  pub constant_is : capped after.constant ≡ capped (before.constant + constant)
  pub factors_are : (x : Var) → capped (found after.factors.items x) ≡ capped (found before.factors.items x + factor x)

module _ (w : Linear) (k : ℕ) where
  -- the value of a term is added k times
  abbrev pub IsAdded : Term → Form → Form → Type 0
  IsAdded t = HasMore (k * constant_of w t) (λ x. k * factor_of w x t)

  -- what the arguments of f add is added k times
  abbrev pub AreAdded : OpId → Terms → Form → Form → Type 0
  AreAdded f ts =
      HasMore (k * value_from w (λ x. 0) f 0 ts) (λ x. k * value_from (without_constants w) (one_at x) f 0 ts)

-- the form has the numbers of the term's value, up to the greatest number
pub record IsFormOf (w : Linear) (t : Term) (form : Form) : Type 0 where
  pub placed : IsPlaced form
  pub constant_is : capped form.constant ≡ capped (constant_of w t)
  pub factors_are : (x : Var) → capped (found form.factors.items x) ≡ capped (factor_of w x t)

-- a number of the form is too large to be compared
abbrev pub IsOverForm : Form → Type 0
IsOverForm form = (MOST < form.constant) ⊎ ((x : Var) × (MOST < found form.factors.items x))

-- a number of one of the two forms is too large
abbrev pub AreOver : Form → Form → Type 0
AreOver left right = IsOverForm left ⊎ IsOverForm right

-- the first form has no greater constant than the second one, or a smaller number of a variable
abbrev pub IsGrowingForm : Form → Form → Type 0
IsGrowingForm left right = (left.constant ≤ right.constant)
    ⊎ ((x : Var) × (found left.factors.items x < found right.factors.items x))

-- what is seen of the forms of two sides
abbrev pub ShowForms : Form → Form → Outcome → Type 0
ShowForms left right Falling = (AreOver left right → ⊥) × (IsGrowingForm left right → ⊥)
ShowForms left right Big = AreOver left right
ShowForms left right Growing = (AreOver left right → ⊥) × IsGrowingForm left right
