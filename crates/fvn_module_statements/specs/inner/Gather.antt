-- What is made of what was read, and reading as many things as stand one after another.
use Rattle.std.specs.Prelude.{List, [], ◌∷◌, ◌++◌, Option, Some, None}
use Rattle.fvn_lex.specs.Cut.{Piece}
use Rattle.fvn_module_statements.specs.declared.outcome.Reading.{Reading}
use Rattle.fvn_module_statements.specs.declared.outcome.Reading.TheVariants.{Read, LeftOut, NoForm}

-- what f makes of the value, if there is one
abbrev pub bind : {A B : Type 0} → Option A → (A → Option B) → Option B
bind None f = None
bind (Some x) f = f x

-- what is made of what was read
abbrev pub map_reading : {A B : Type 0} → (A → B) → Reading A → Reading B
map_reading make (Read x) = Read (make x)
map_reading make (LeftOut f) = LeftOut f
map_reading make NoForm = NoForm

-- one more thing, where one was read, and what follows it
abbrev pub gather_next : {A : Type 0} → Option (A × List Piece) → List A → List Piece → (List A → List Piece → List A × List Piece) → List A × List Piece
gather_next None xs ps later = (xs, ps)
gather_next (Some r) xs ps later = later (xs ++ (r.0 ∷ [])) r.1

-- these things, and all that are read of the pieces, at most as many as there are pieces in the first list; and what is left
abbrev pub gather : {A : Type 0} → (List Piece → Option (A × List Piece)) → List Piece → List A → List Piece → List A × List Piece
gather item [] xs ps = (xs, ps)
gather item (f ∷ fs) xs ps = gather_next (item ps) xs ps (λ ys qs. gather item fs ys qs)
