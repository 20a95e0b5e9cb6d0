-- What is answered for the statements of a module.
use Rattle.std.specs.Prelude.{◌≡◌}
use Rattle.fvn_sorts.specs.Faults.{IsTooLarge}
use Rattle.fvn_module_syntax.specs.declared.form.Form.{Form}
use Rattle.fvn_module_declarations.specs.declared.declaring.Declared.{Declared}
use Rattle.fvn_module_declarations.specs.declared.declaring.Declared.TheVariants.{Fitting, TooLarge}
use Rattle.fvn_module_declarations.specs.Module.{names_alone, names_in, collected_in}
use Rattle.fvn_module_names.specs.Faults.{HasNames}

-- No name is at fault, and this is declared: names and what a signature is made of, or, where that is more than a
-- signature may have, the names of sorts and operators alone.
abbrev pub IsDeclared : Form → Declared → Type 0
IsDeclared m (Fitting names builder) =
    HasNames m.statements × (names ≡ names_in m) × (builder ≡ collected_in m.statements) × (IsTooLarge (collected_in m.statements) → ⊥)
IsDeclared m (TooLarge names) =
    HasNames m.statements × (names ≡ names_alone m) × IsTooLarge (collected_in m.statements)
