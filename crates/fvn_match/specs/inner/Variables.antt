-- Lists of variables.
use Rattle.std.specs.Prelude.{◌≡◌, ◌⊎◌, ◌↔◌, List, [], ◌∷◌, map}
use Rattle.fvn_terms.specs.declared.plain.Var.{Var}
use Rattle.fvn_terms.specs.Substitution.{Occurs}
use Rattle.fvn_terms.specs.Variants.{OccursInSome}
use Rattle.fvn_forms.specs.Flat.{FlatTerm, plain}

-- x is one of the variables
abbrev pub IsAmong : List Var → Var → Type 0
IsAmong [] x = ⊥
IsAmong (y ∷ ys) x = (y ≡ x) ⊎ IsAmong ys x

-- each variable stands there once
abbrev pub AreOnce : List Var → Type 0
AreOnce [] = Unit {0}
AreOnce (x ∷ xs) = (IsAmong xs x → ⊥) × AreOnce xs

-- the second list has the variables of the first and those of which P holds, each once
pub record Collects (before : List Var) (P : Var → Type 0) (after : List Var) : Type 0 where
  pub once : AreOnce after
  pub just : (x : Var) → IsAmong after x ↔ (IsAmong before x ⊎ P x)

-- the list has just the variables of the patterns, each once
pub record AreVariablesOf (patterns : List FlatTerm) (vars : List Var) : Type 0 where
  pub once : AreOnce vars
  pub just : (x : Var) → IsAmong vars x ↔ OccursInSome x (map plain patterns)

-- no variable stands in the form
abbrev pub IsClosed : FlatTerm → Type 0
IsClosed t = (x : Var) → Occurs x (plain t) → ⊥
