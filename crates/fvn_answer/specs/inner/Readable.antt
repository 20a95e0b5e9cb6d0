-- Names that are read as what they name.
use Rattle.std.specs.Prelude.{◌≡◌, length, slice_get, All, Some, None}
use Rattle.fvn_terms.specs.declared.plain.OpId.{OpId}
use Rattle.fvn_terms.specs.declared.declarations.Declarations.{Declarations}
use Rattle.fvn_syntax.specs.declared.names.Names.{Names}
use Rattle.fvn_syntax.specs.Pieces.{Text}
use Rattle.fvn_syntax.specs.Names.{arity_of, last_colon, sorted_name}
use Rattle.fvn_module.specs.Readable.{IsWord, AreDistinct}

-- The names are those of the declarations. Each is a word and names one sort or operator; that of a sort has no
-- colon, and that of a constant is not NAME:SORT.
pub record AreReadable (d : Declarations) (names : Names) : Type 0 where
  pub sort_names : length names.sorts ≡ d.sorts
  pub op_names : length names.ops ≡ length d.ops
  pub sort_words : All IsWord names.sorts
  pub op_words : All IsWord names.ops
  pub no_colons : All (λ w. last_colon w ≡ None) names.sorts
  pub distinct_sorts : AreDistinct names.sorts
  pub distinct_ops : AreDistinct names.ops
  pub constants : (f : OpId) (w : Text) → slice_get names.ops f.0 ≡ Some w → arity_of d f ≡ 0 →
      sorted_name names.sorts w ≡ None
