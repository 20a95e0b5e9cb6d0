-- The places of a flat form: itself, and those of its arguments; and the parts of a sum, which are two or more of its
-- summands.
-- A sum is one form over all its summands, so no part of it but a single summand is at a place.
use Rattle.std.specs.Prelude.{◌≡◌, ℕ, ◌≤◌, Bool, true, List, [], ◌∷◌, length, Option, Some, None}
use Rattle.fvn_terms.specs.declared.plain.OpId.{OpId}
use Rattle.fvn_terms.specs.declared.declarations.Declarations.{Declarations}
use Rattle.fvn_forms.specs.Flat.{FlatTerm, FlatTerms, fapp, fmore, funpack}
use Rattle.fvn_forms.specs.Canon.{build}

mutual
  -- the second form is the first in which u, at one place, is replaced by v
  pub data IsReplaced (u v : FlatTerm) : FlatTerm → FlatTerm → Type 0 where
    here : IsReplaced u v u v
    inside : {f : OpId} {joined : Bool} {ts us : FlatTerms}
        → IsReplacedAmong u v ts us → IsReplaced u v (fapp f joined ts) (fapp f joined us)

  -- the same at one place of a list
  pub data IsReplacedAmong (u v : FlatTerm) : FlatTerms → FlatTerms → Type 0 where
    first : {t w : FlatTerm} {ts : FlatTerms} → IsReplaced u v t w → IsReplacedAmong u v (fmore t ts) (fmore w ts)
    later : {t : FlatTerm} {ts us : FlatTerms} → IsReplacedAmong u v ts us → IsReplacedAmong u v (fmore t ts) (fmore t us)

-- u stands at a place of t
abbrev pub IsAtPlace : FlatTerm → FlatTerm → Type 0
IsAtPlace u t = IsReplaced u u t t

-- all are the taken ones and the others, both in their order
pub data IsDivided : (all taken others : List FlatTerm) → Type 0 where
  divided : IsDivided [] [] []
  taking : {t : FlatTerm} {all taken others : List FlatTerm}
      → IsDivided all taken others → IsDivided (t ∷ all) (t ∷ taken) others
  leaving : {t : FlatTerm} {all taken others : List FlatTerm}
      → IsDivided all taken others → IsDivided (t ∷ all) taken (t ∷ others)

-- what stands beside a part of a form: nothing, or the other summands of a sum
abbrev pub Beside : Type 0
Beside = Option (OpId × List FlatTerm)

-- the part is f's sum of two or more summands of the whole, which is f's sum of these and of the others
pub record IsPartOfSum (f : OpId) (others : List FlatTerm) (whole part : FlatTerm) : Type 0 where
  pub all : FlatTerms
  pub taken : FlatTerms
  pub is_sum : whole ≡ fapp f true all
  pub part_is : part ≡ fapp f true taken
  pub several : 2 ≤ length (funpack taken)
  pub divided_into : IsDivided (funpack all) (funpack taken) others

-- the part is all of the form, or a part of it as a sum, and this stands beside it
abbrev pub IsPartOf : FlatTerm → FlatTerm → Beside → Type 0
IsPartOf whole part None = whole ≡ part
IsPartOf whole part (Some sum) = IsPartOfSum sum.0 sum.1 whole part

-- the form with the other summands of the sum again
abbrev pub with_beside : Declarations → Beside → FlatTerm → FlatTerm
with_beside d None t = t
with_beside d (Some sum) t = build d sum.0 (t ∷ sum.1)
