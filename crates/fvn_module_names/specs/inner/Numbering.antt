-- The numbers of kinds, from the labels of classes.
use Rattle.std.specs.Prelude.{◌≡◌, ◌<◌, ◌+◌, ℕ, List, map, length, nat_eq, Option, MatchOption, All}
use Rattle.fvn_forms.specs.SortOrder.{sort_number}
use Rattle.fvn_signature.specs.FirstSorts.{first_sorts}
use Rattle.fvn_signature_draft.specs.declared.collected.Collected.{Collected}
use Rattle.fvn_signature_draft.specs.Collected.{joins, kind_of, parts_before}
use Rattle.fvn_module_names.specs.inner.Classes.{label}

-- the classes are those of the sorts that the order joins
pub record HasLabels (c : Collected) (labels : List ℕ) : Type 0 where
  pub as_many : length labels ≡ c.sorts
  pub exact : (i j : ℕ) → i < c.sorts → j < c.sorts → joins c (sort_number i) (sort_number j) ≡ nat_eq (label labels i) (label labels j)

-- what is known of the kind of a label when the first n sorts were seen: nothing where none of them has it
abbrev pub IsKnown : Collected → List ℕ → ℕ → ℕ → Option ℕ → Type 0
IsKnown c labels n l o =
    MatchOption o ((i : ℕ) → i < n → label labels i ≡ l → ⊥)
    (λ kind. (f : ℕ) × ((f < n) × ((label labels f ≡ l) × (sort_number kind ≡ kind_of c (sort_number f)))))

-- these are the kinds of the first n sorts, and that is the number of the next kind
pub record IsNumbered (c : Collected) (kinds : List ℕ) (next n : ℕ) : Type 0 where
  pub numbers : map sort_number kinds ≡ map (kind_of c) (first_sorts n)
  pub following : next ≡ c.sorts + parts_before c n
  pub below : All (λ kind. kind < next) kinds
