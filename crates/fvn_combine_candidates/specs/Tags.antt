-- Tags of shared classes by numbers: 0 stands for none, and each other number for one of the operators that use the class.
use Rattle.std.specs.Prelude.{◌≡◌, ℕ, zero, suc, ◌+◌, nat_eq, if◌then◌else◌, List, [], ◌∷◌, length, map, slice_get, Option, None}
use Rattle.fvn_terms.specs.declared.plain.OpId.{OpId}
use Rattle.fvn_combine_admissible.specs.Listed.{tag_in}
use Rattle.fvn_combine_candidates.specs.declared.sharing.SharedClass.{SharedClass}

-- how many tags each shared class may have: none, or an operator that uses it
abbrev pub tag_counts : List SharedClass → List ℕ
tag_counts shared = map (λ c. length c.users + 1) shared

-- the operator that the number stands for
abbrev pub user_at : List OpId → ℕ → Option OpId
user_at users zero = None
user_at users (suc i) = slice_get users i

-- the tag of class k by these numbers, one for each shared class; none where it is not among them
abbrev pub tag_by : List SharedClass → List ℕ → ℕ → Option OpId
tag_by [] numbers k = None
tag_by (c ∷ shared) [] k = None
tag_by (c ∷ shared) (n ∷ numbers) k = if nat_eq c.class k then user_at c.users n else tag_by shared numbers k

-- the list has these tags
abbrev pub AreTags : List SharedClass → List ℕ → List (Option OpId) → Type 0
AreTags shared numbers tags = (k : ℕ) → tag_in tags k ≡ tag_by shared numbers k
