-- The module and the problems that `work` makes.
use Rattle.std.specs.Prelude.{◌+◌, ℕ, zero, suc, List, [], ◌∷◌, ◌++◌, codes}

-- a module with constants, and a free, a commutative and an associative and commutative operator
unfoldable pub work_module : List ℕ
work_module = codes "fmod AC is sort S . ops a b : -> S . op g : S -> S . op c : S S -> S [comm] . op _+_ : S S -> S [assoc comm] . vars X Y Z U V : S . endfm"

-- the variables V1, V2 and so on, so many, with commas between them
abbrev pub numbered : ℕ → List ℕ
numbered zero = []
numbered (suc zero) = codes "V1:S"
numbered (suc (suc n)) = numbered (suc n) ++ codes ",V" ++ (50 + n) ∷ codes ":S"

-- a sum of two variables, and one of so many
abbrev pub work_problem : ℕ → List ℕ
work_problem n = codes "_+_(X,Y) =? _+_(" ++ numbered n ++ codes ")"
