-- What comes of a form with a normal form beside it.
use Rattle.std.specs.Prelude.{◌≡◌, ◌⊎◌, ◌≤◌, ℕ, Option, None, Some}
use Rattle.fvn_forms.specs.Flat.{FlatTerm}
use Rattle.fvn_flat.specs.declared.solver.SizeCause.TheVariants.{Problem as OfProblem, Binding, Term as OfTerm}
use Rattle.fvn_rewrite_laws.specs.Normalised.{IsForm, IsUnfinished, IsTooLarge}
use Rattle.fvn_rewrite.specs.Usable.{Rewriting, equations_by}
use Rattle.fvn_critical.specs.declared.fault.CriticalFault.{CriticalFault}
use Rattle.fvn_critical.specs.declared.fault.CriticalFault.TheVariants.{Sorts, Apart, Steps, Size, Basis, Unifiers}

-- the numbers of two equations in order, and with each its form
pub record InOrderOfNumbers (m n : ℕ) (left right : FlatTerm) (first second : ℕ) (t u : FlatTerm) : Type 0 where
  pub ordered : first ≤ second
  pub are : ((first ≡ m) × (second ≡ n) × (t ≡ left) × (u ≡ right)) ⊎ ((first ≡ n) × (second ≡ m) × (t ≡ right) × (u ≡ left))

module _ (m n : ℕ) (left : FlatTerm) where
  -- nothing where both forms are one, or else both
  abbrev pub ComparedAs : FlatTerm → Option CriticalFault → Type 0
  ComparedAs right None = left ≡ right
  ComparedAs right (Some (Sorts k)) = ⊥
  ComparedAs right (Some (Apart first second t u)) = (left ≡ right → ⊥) × InOrderOfNumbers m n left right first second t u
  ComparedAs right (Some (Steps start end)) = ⊥
  ComparedAs right (Some (Size cause)) = ⊥
  ComparedAs right (Some (Basis f system)) = ⊥
  ComparedAs right (Some (Unifiers given list)) = ⊥

  module _ (r : Rewriting) (form : FlatTerm) where
    -- the first form is one of the other one too, or that has another normal form, or none was found
    abbrev pub AgainstAs : Option CriticalFault → Type 0
    AgainstAs None = IsForm r.signature (equations_by r) form r.bounds left
    AgainstAs (Some (Sorts k)) = ⊥
    AgainstAs (Some (Apart first second t u)) =
        (right : FlatTerm) × IsForm r.signature (equations_by r) form r.bounds right × (left ≡ right → ⊥) × InOrderOfNumbers m n left right first second t u
    AgainstAs (Some (Steps start end)) = IsUnfinished r.signature (equations_by r) form r.bounds start end
    AgainstAs (Some (Size (OfProblem given))) = ⊥
    AgainstAs (Some (Size (Binding list))) = ⊥
    AgainstAs (Some (Size (OfTerm end))) = IsTooLarge r.signature (equations_by r) form r.bounds end
    AgainstAs (Some (Basis f system)) = ⊥
    AgainstAs (Some (Unifiers given list)) = ⊥
