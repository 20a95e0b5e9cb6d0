-- Tags that go against what is noted of classes.
use Rattle.std.specs.Prelude.{◌≡◌, ◌≢◌, ◌⊎◌, ℕ, ◌+◌, ◌<◌, List, length, take, slice_index_or, Option, Some, None, Any, Contains}
use Rattle.fvn_terms.specs.declared.plain.OpId.{OpId}
use Rattle.fvn_terms.specs.declared.declarations.Declarations.{Declarations}
use Rattle.fvn_terms.specs.Signature.{axioms}
use Rattle.fvn_flat.specs.Partitions.{HasNoIdentity}
use Rattle.fvn_combine_drawing.specs.CombineAdmissibleListed.{tag_in}
use Rattle.fvn_combine_drawing.specs.CombineCandidatesDeclared.sharing.SharedClass.{SharedClass}
use Rattle.fvn_combine.specs.declared.opened.Opened.{Opened}
use Rattle.fvn_combine.specs.inner.Homes.{LeaveHomeless}

-- an operator with an identity that uses the class is noted of it, and is not its tag
pub record IsAgainst (d : Declarations) (labels tags : List (Option OpId)) (c : SharedClass) : Type 0 where
  pub head : OpId
  pub noted : slice_index_or labels c.class None ≡ Some head
  pub some : HasNoIdentity (axioms d head) → ⊥
  pub user : Contains c.users head
  pub other : tag_in tags c.class ≢ Some head

-- the class is one of those that are known to be loose, and it has a tag, though no operator is noted of it
pub record IsLooseAgainst (loose : List ℕ) (labels tags : List (Option OpId)) (c : SharedClass) : Type 0 where
  pub loose_class : Contains loose c.class
  pub tagged : tag_in tags c.class ≢ None
  pub not_noted : slice_index_or labels c.class None ≡ None

-- Tags at an open leaf.
module _ (d : Declarations) (o : Opened) where
  -- either is so with the class
  abbrev pub GoesAgainst : List (Option OpId) → SharedClass → Type 0
  GoesAgainst tags c = IsAgainst d o.labels tags c ⊎ IsLooseAgainst o.loose o.labels tags c

  -- so it is with one of the shared classes whose tags are decided, or one that is loose has a tag of no note, or these tags leave one without a home
  abbrev pub IsAgainstUpTo : List SharedClass → List (Option OpId) → Type 0
  IsAgainstUpTo decided tags =
      Any (IsAgainst d o.labels tags) decided ⊎ Any (IsLooseAgainst o.loose o.labels tags) decided ⊎ LeaveHomeless decided tags o.reading o.bases

  -- so it is with those up to the place
  pub record IsAgainstAt (tags : List (Option OpId)) (place : ℕ) : Type 0 where
    pub within : place < length o.shared
    pub against : IsAgainstUpTo (take (place + 1) o.shared) tags
