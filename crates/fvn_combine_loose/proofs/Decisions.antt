-- What is decided of variables, and substitutions that go by it.
use Rattle.std.proofs.Common.{◌≡◌, ◌≢◌, true, List, refl, ap, subst, inl, inr, Contains}
use Rattle.std.specs.Prelude.{if◌then◌else◌}
use Rattle.std.proofs.lemmas.Bool.{false_from_ne_true}
use Rattle.fvn_base.specs.Decided.{Decided}
use Rattle.fvn_base.proofs.Decided.{decided_by, some_or_none}
use Rattle.fvn_terms.specs.declared.plain.Var.{Var}
use Rattle.fvn_terms.specs.Term.{Term, var}
use Rattle.fvn_terms.specs.Substitution.{Occurs, same_var}
use Rattle.fvn_terms.proofs.Variables.{same_var_is, same_var_itself}
use Rattle.fvn_flat.specs.Problems.{variables}
use Rattle.fvn_flat.specs.SolvedLists.{only}
use Rattle.fvn_flat.proofs.VariableLists.{variables_list, variables_occur}

-- two variables are one or not
pub var_decided : (x y : Var) → Decided (x ≡ y)
var_decided x y = decided_by (same_var x y) (same_var_is x y) (λ e. subst (λ z. same_var x z ≡ true) e (same_var_itself x))

-- a variable is listed or not
pub listed_or_not : (vars : List Var) (x : Var) → Decided (Contains vars x)
listed_or_not vars x = elim (some_or_none (λ y. y ≡ x) (λ y. var_decided y x) vars) as (λ _. Decided (Contains vars x)) [
  | inl w ↦ inl (subst (Contains vars) w.1.1 w.1.0)
  | inr n ↦ inr (λ c. n x c refl)
]

-- a variable occurs in a term or not
pub occurs_or_not : (x : Var) (t : Term) → Decided (Occurs x t)
occurs_or_not x t = elim (listed_or_not (variables t) x) as (λ _. Decided (Occurs x t)) [
  | inl c ↦ inl (variables_occur x t c)
  | inr n ↦ inr (λ o. n (variables_list x t o))
]

-- the first term where the fact holds, the second where it is refuted
abbrev pub chosen : {P : Type 0} → Decided P → Term → Term → Term
chosen (inl p) a b = a
chosen (inr n) a b = b

pub chosen_if : {P : Type 0} (o : Decided P) (a b : Term) → P → chosen o a b ≡ a
chosen_if (inl p) a b h = refl
chosen_if (inr n) a b h = absurd (n h)

pub chosen_has : {P : Type 0} (o : Decided P) (a b : Term) (Q : Term → Type 0) → (P → Q a) → Q b → Q (chosen o a b)
chosen_has (inl p) a b Q ha hb = ha p
chosen_has (inr n) a b Q ha hb = hb

-- the substitution of one variable
pub only_same : (x : Var) (t : Term) → only x t x ≡ t
only_same x t = ap (λ b. if b then t else var x) (same_var_itself x)

pub only_other : (x y : Var) (t : Term) → x ≢ y → only x t y ≡ var y
only_other x y t n = ap (λ b. if b then t else var y) (false_from_ne_true (same_var x y) (λ e. n (same_var_is x y e)))
