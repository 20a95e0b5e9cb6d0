-- A loop that maps a list from the front.
use Rattle.std.proofs.Common.{◌≡◌, ℕ, ◌+◌, ◌<◌, List, [], ◌∷◌, ◌++◌, map, take, length, get_or, sym, ap, ◌∙◌}
use Rattle.std.proofs.lemmas.List.{map_more}

-- one element more
pub map_step : {X Y : Type 0} (f : X → Y) (xs : List X) (i : ℕ) (ys : List Y) (x : X) {y : Y} → i < length xs → ys ≡ map f (take i xs) → y ≡ f (get_or xs i x) → ys ++ y ∷ [] ≡ map f (take (i + 1) xs)
map_step f xs i ys x {y} within so_far here = ap (λ l. l ++ y ∷ []) so_far ∙ ap (λ z. map f (take i xs) ++ z ∷ []) here ∙ sym (map_more f xs i x within)
