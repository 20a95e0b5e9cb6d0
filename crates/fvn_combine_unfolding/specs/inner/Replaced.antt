-- Variables replaced one binding after another.
use Rattle.std.specs.Prelude.{◌≡◌, ◌⊎◌, [], ◌∷◌, ◌++◌, Some, None}
use Rattle.fvn_terms.specs.declared.plain.Var.{Var}
use Rattle.fvn_terms.specs.declared.declarations.Declarations.{Declarations}
use Rattle.fvn_forms.specs.Flat.{FlatTerm}
use Rattle.fvn_forms.specs.Canon.{inst}
use Rattle.fvn_flat.specs.Bindings.{Bindings, bound, value}
use Rattle.fvn_combine_choices.specs.Plans.{unfolds_to}

module _ (d : Declarations) where
  -- the form with the variable of one binding replaced
  abbrev pub step : Var × FlatTerm → FlatTerm → FlatTerm
  step b t = inst d (value (b ∷ [])) t

  -- with those of all, one after another
  abbrev pub replaced : Bindings → FlatTerm → FlatTerm
  replaced [] t = t
  replaced (b ∷ bindings) t = replaced bindings (step b t)

  -- the second has x bound to what it unfolds to at its end, where the first does not bind it
  abbrev pub IsWithValue : Bindings → Bindings → Var → Bindings → Type 0
  IsWithValue bindings s x r =
      (((t : FlatTerm) × (bound s x ≡ Some t)) × (r ≡ s)) ⊎ ((bound s x ≡ None) × (r ≡ s ++ (x, unfolds_to d bindings x) ∷ []))
