-- What bindings unfold to, within a limit.
use Rattle.std.specs.Prelude.{◌≡◌, ◌↔◌, ℕ, ◌<◌, ◌≤◌, List, Some, Any, Contains}
use Rattle.fvn_terms.specs.declared.plain.Var.{Var}
use Rattle.fvn_terms.specs.declared.declarations.Declarations.{Declarations}
use Rattle.fvn_forms.specs.Flat.{FlatTerm, symbols}
use Rattle.fvn_flat.specs.Bindings.{Bindings, bound, value, BindsOnce, BindingsFit}
use Rattle.fvn_combine_choices.specs.Plans.{unfolds_to}
use Rattle.fvn_combine_drawing.specs.declared.drawing.Drawn.{Drawn}
use Rattle.fvn_combine_drawing.specs.declared.drawing.Drawn.TheVariants.{Nothing, TooLarge, Unifier}

module _ (d : Declarations) (bindings : Bindings) (variables : List Var) (size : ℕ) where
  -- g binds just these variables, each once, to what they unfold to, with at most so many symbols
  pub record IsUnfolded (g : Bindings) : Type 0 where
    pub values : (x : Var) → Contains variables x → value g x ≡ unfolds_to d bindings x
    pub binds : (x : Var) → Contains variables x ↔ ((t : FlatTerm) × (bound g x ≡ Some t))
    pub once : BindsOnce g
    pub fit : BindingsFit d g
    pub small : (x : Var) → Contains variables x → symbols (unfolds_to d bindings x) ≤ size

  -- the bindings themselves, where one of the variables would have more symbols; or else such a substitution
  abbrev pub IsUnfoldedFrom : Drawn → Type 0
  IsUnfoldedFrom Nothing = ⊥
  IsUnfoldedFrom (TooLarge list) = (list.bindings ≡ bindings) × Any (λ x. size < symbols (unfolds_to d bindings x)) variables
  IsUnfoldedFrom (Unifier g) = IsUnfolded g
