-- Lists of flat forms in order, and how often a flat form stands in a list.
use Rattle.std.specs.Prelude.{◌≡◌, ℕ, ◌+◌, Bool, true, false, if◌then◌else◌, List, [], ◌∷◌}
use Rattle.std.specs.Ordering.{is_gt}
use Rattle.fvn_forms.specs.Flat.{FlatTerm}
use Rattle.fvn_forms.specs.Order.{flat_cmp, same_flat}

-- each flat form is at or before the next
abbrev pub InOrder : List FlatTerm → Type 0
InOrder [] = Unit {0}
InOrder (t ∷ []) = Unit {0}
InOrder (t ∷ u ∷ us) = (is_gt (flat_cmp t u) ≡ false) × InOrder (u ∷ us)

-- the list with t put before the first flat form that it is not after
abbrev pub insert : FlatTerm → List FlatTerm → List FlatTerm
insert t [] = t ∷ []
insert t (u ∷ us) = if is_gt (flat_cmp t u) then u ∷ insert t us else t ∷ u ∷ us

-- the list in order
abbrev pub sort : List FlatTerm → List FlatTerm
sort [] = []
sort (t ∷ ts) = insert t (sort ts)

-- 1 where it is true, else 0
abbrev pub one_if : Bool → ℕ
one_if true = 1
one_if false = 0

-- how often q stands in the list
abbrev pub count : FlatTerm → List FlatTerm → ℕ
count q [] = 0
count q (t ∷ ts) = one_if (same_flat q t) + count q ts

-- the same flat forms, each as often
abbrev pub SameCounts : List FlatTerm → List FlatTerm → Type 0
SameCounts ts us = (q : FlatTerm) → count q ts ≡ count q us
