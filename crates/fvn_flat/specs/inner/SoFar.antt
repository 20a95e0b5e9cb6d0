-- Arguments that are copied once one of them has changed.
use Rattle.std.specs.Prelude.{◌≡◌, List, [], ◌∷◌, ◌++◌, Option, unwrap_or}
use Rattle.fvn_forms.specs.Flat.{FlatTerm}

-- the arguments so far with those that have changed; where none has, there are no copies, and they are those before
abbrev pub so_far : (copies before : List FlatTerm) → List FlatTerm
so_far [] before = before
so_far (t ∷ copies) before = t ∷ copies

-- in all there is one more argument: t, or what it has changed to
abbrev pub HasOneMore : (copies before : List FlatTerm) (t : FlatTerm) (changed : Option FlatTerm) (all : List FlatTerm) → Type 0
HasOneMore copies before t changed all = so_far all (before ++ t ∷ []) ≡ so_far copies before ++ unwrap_or changed t ∷ []
