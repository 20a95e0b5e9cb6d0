-- What one unifier makes of a variant.
use Rattle.std.specs.Prelude.{◌≡◌, List, [], ◌∷◌, ◌++◌, Option, None, Some}
use Rattle.fvn_forms.specs.Flat.{FlatTerm}
use Rattle.fvn_flat.specs.Bindings.{Bindings}
use Rattle.fvn_rewrite.specs.Usable.{Rewriting}
use Rattle.fvn_cover.specs.declared.variant.Variant.{Variant}
use Rattle.fvn_exploring.specs.declared.ends.ExpandEnd.{ExpandEnd}
use Rattle.fvn_narrow_children.specs.declared.growing.Outcome.{Outcome}
use Rattle.fvn_narrow_children.specs.declared.growing.Outcome.TheVariants.{Child, Lost, Stopped}
use Rattle.fvn_narrow_children.specs.Growing.{IsRaw, IsGrown, IsLost, StopsAt}

-- a child, none since a value is reducible, or an end where no value is
abbrev pub OutcomeAs : Rewriting → Variant → List FlatTerm → Bindings → Outcome → Type 0
OutcomeAs r v members s (Child c) = IsGrown r v members s c
OutcomeAs r v members s Lost = IsLost r v members s
OutcomeAs r v members s (Stopped end) = StopsAt r (IsRaw r v members s) end × (IsLost r v members s → ⊥)

-- the children with what came of one more unifier, and the end at which it stopped
abbrev pub IsTaken : List Variant → Outcome → List Variant → Option ExpandEnd → Type 0
IsTaken before (Child c) after stop = (after ≡ before ++ c ∷ []) × (stop ≡ None)
IsTaken before Lost after stop = (after ≡ before) × (stop ≡ None)
IsTaken before (Stopped end) after stop = (after ≡ before) × (stop ≡ Some end)
