-- The places of flat forms, and what stands at them.
use Rattle.std.proofs.Common.{◌≡◌, zero, suc, true, false, List, [], ◌∷◌, ◌++◌, refl, arith, lit<}
use Rattle.std.specs.Prelude.{Contains}
use Rattle.std.proofs.lemmas.List.Elements.{Contains-append_left, Contains-append_right}
use Rattle.fvn_forms.specs.Flat.{FlatTerm, FlatTerms, fvar, fapp, fnone, fmore, fconstant}
use Rattle.fvn_flat.specs.FlatPlaces.{IsReplaced, IsReplacedAmong, here, inside, first, later, IsAtPlace}
use Rattle.fvn_flat.proofs.Examples.{op}

-- what stands at the places of a form: itself, and what stands at those of its arguments
abbrev mutual
  places_of : FlatTerm → List FlatTerm
  places_of (fvar x) = fvar x ∷ []
  places_of (fapp f joined ts) = fapp f joined ts ∷ places_among ts

  places_among : FlatTerms → List FlatTerm
  places_among fnone = []
  places_among (fmore t ts) = places_of t ++ places_among ts

itself : (t : FlatTerm) → Contains (places_of t) t
itself (fvar x) = (0, lit< tt, refl)
itself (fapp f joined ts) = (0, omega arith, refl)

one_more : (t u : FlatTerm) (l : List FlatTerm) → Contains l u → Contains (t ∷ l) u
one_more t u l (k, within, e) = (suc k, omega (arith, within), e)

mutual
  listed : {u v t w : FlatTerm} → IsReplaced u v t w → Contains (places_of t) u
  listed {u} here = itself u
  listed {u} (inside {f} {joined} {ts} p) = one_more (fapp f joined ts) u (places_among ts) (listed_among p)

  listed_among : {u v : FlatTerm} {ts ws : FlatTerms} → IsReplacedAmong u v ts ws → Contains (places_among ts) u
  listed_among {u} (first {t} {ts = ts} p) = Contains-append_left (places_of t) (places_among ts) u (listed p)
  listed_among {u} (later {t} {ts} p) = Contains-append_right (places_of t) (places_among ts) u (listed_among p)

abbrev a : FlatTerm
a = fconstant (op 1)

abbrev b : FlatTerm
b = fconstant (op 2)

abbrev g : FlatTerm → FlatTerm
g t = fapp (op 3) false (fmore t fnone)

-- a + g(b)
abbrev sum : FlatTerm
sum = fapp (op 0) true (fmore a (fmore (g b) fnone))

-- it has four places
four_places : places_of sum ≡ sum ∷ a ∷ g b ∷ b ∷ []
four_places = refl

at_the_top : IsAtPlace sum sum
at_the_top = here

at_a_summand : IsAtPlace (g b) sum
at_a_summand = inside (later (first here))

below_a_summand : IsAtPlace b sum
below_a_summand = inside (later (first (inside (first here))))

-- with a in place of b it is a + g(a)
replaced : IsReplaced b a sum (fapp (op 0) true (fmore a (fmore (g a) fnone)))
replaced = inside (later (first (inside (first here))))

-- a + b stands at no place of a + b + g(b): a part of a sum is at none
abbrev part : FlatTerm
part = fapp (op 0) true (fmore a (fmore b fnone))

abbrev whole : FlatTerm
whole = fapp (op 0) true (fmore a (fmore b (fmore (g b) fnone)))

no_part : IsAtPlace part whole → ⊥
no_part p = go (listed p)
  where
    go : Contains (whole ∷ a ∷ b ∷ g b ∷ b ∷ []) part → ⊥
    go (zero, l, e) = cc
    go (suc zero, l, e) = cc
    go (suc (suc zero), l, e) = cc
    go (suc (suc (suc zero)), l, e) = cc
    go (suc (suc (suc (suc zero))), l, e) = cc
    go (suc (suc (suc (suc (suc k)))), l, e) = omega (arith, l)
