-- What tells a form's summands.
use Rattle.std.specs.Prelude.{Bool, true, false}
use Rattle.fvn_terms.specs.declared.plain.OpId.{OpId}
use Rattle.fvn_forms.specs.Flat.{FlatTerm, fvar, fapp}
use Rattle.fvn_forms.specs.Canon.{same_op}

-- whether the form is a sum of f
abbrev pub is_sum_of : OpId → FlatTerm → Bool
is_sum_of f (fvar x) = false
is_sum_of f (fapp g true ts) = same_op f g
is_sum_of f (fapp g false ts) = false
