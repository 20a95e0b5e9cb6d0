-- Lists to which a value is added once.
use Rattle.std.specs.Prelude.{Bool, if◌then◌else◌, List, [], ◌∷◌, ◌++◌}
use Rattle.std.specs.List.{list_any}

-- whether the test finds the value among the elements, each of which it is given first
abbrev pub listed_by : {A : Type 0} → (A → A → Bool) → List A → A → Bool
listed_by eq xs x = list_any (λ y. eq y x) xs

-- the list with the value at its end, if the test does not find it there
abbrev pub with_new : {A : Type 0} → (A → A → Bool) → List A → A → List A
with_new eq xs x = if listed_by eq xs x then xs else xs ++ x ∷ []
