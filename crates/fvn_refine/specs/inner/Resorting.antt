-- Variables at the sorts of a row, as a substitution.
use Rattle.std.specs.Prelude.{if◌then◌else◌, List, [], ◌∷◌, ◌++◌, is_some}
use Rattle.fvn_terms.specs.declared.plain.Var.{Var}
use Rattle.fvn_terms.specs.declared.plain.SortId.{SortId}
use Rattle.fvn_forms.specs.Flat.{fvar}
use Rattle.fvn_flat.specs.Bindings.{Bindings, bound}
use Rattle.fvn_refine.specs.inner.Rows.{Row}

-- the bindings with the variable at the sort, if they do not bind it yet
abbrev pub with_resorted : Bindings → Var → SortId → Bindings
with_resorted s y w = if is_some (bound s y) then s else s ++ (y, fvar (record { name = y.name; sort = w; fresh = y.fresh })) ∷ []

-- the bindings with more variables at the sorts beside them
abbrev pub with_all_resorted : Bindings → List Var → Row → Bindings
with_all_resorted s [] ws = s
with_all_resorted s (y ∷ ys) [] = s
with_all_resorted s (y ∷ ys) (w ∷ ws) = with_all_resorted (with_resorted s y w) ys ws

-- each variable at the sort beside its first place
abbrev pub resorting : List Var → Row → Bindings
resorting = with_all_resorted []
