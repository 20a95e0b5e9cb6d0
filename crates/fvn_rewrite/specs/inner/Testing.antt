-- What is told by a truth value of a search whose find is not asked for.
use Rattle.std.specs.Prelude.{Bool, true, false, Option, Some, None}
use Rattle.fvn_forms.specs.Flat.{FlatTerm}

-- true where a form may be found, and false where none is
abbrev pub ToldAs : (Option FlatTerm → Type 0) → Bool → Type 0
ToldAs P true = (u : FlatTerm) × P (Some u)
ToldAs P false = P None
