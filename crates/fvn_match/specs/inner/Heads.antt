-- Heads of patterns that each instance has too.
use Rattle.std.specs.Prelude.{◌≡◌, ◌⊎◌, ◌<◌, ℕ, ◌+◌, Bool, false, if◌then◌else◌, List, [], ◌∷◌, Option, Some, None, All}
use Rattle.fvn_terms.specs.declared.plain.OpId.{OpId}
use Rattle.fvn_terms.specs.declared.declarations.Declarations.{Declarations}
use Rattle.fvn_terms.specs.Signature.{axioms}
use Rattle.fvn_terms.specs.Equality.{identity}
use Rattle.fvn_forms.specs.Flat.{FlatTerm}
use Rattle.fvn_forms.specs.Canon.{same_op, inst}
use Rattle.fvn_flat.specs.Forms.{head_of}
use Rattle.fvn_match.specs.inner.Candidates.{Values, IsCandidate}

-- whether the head is f
abbrev pub is_head : OpId → Option OpId → Bool
is_head f None = false
is_head f (Some g) = same_op g f

-- how many of the forms f heads
abbrev pub headed_in : OpId → List FlatTerm → ℕ
headed_in f [] = 0
headed_in f (t ∷ ts) = (if is_head f (head_of t) then 1 else 0) + headed_in f ts

module _ (d : Declarations) where
  -- f heads the pattern, and has no identity: it heads each instance too
  pub record KeepsHead (p : FlatTerm) (f : OpId) : Type 0 where
    pub heads : head_of p ≡ Some f
    pub lasting : identity (axioms d f) ≡ None

  -- the form is no instance of the pattern
  abbrev pub IsLost : FlatTerm → FlatTerm → Type 0
  IsLost p t = (c : Values) → IsCandidate d c → inst d c p ≡ t → ⊥

  -- the pattern keeps its head, and none of the forms is an instance of it, or fewer have that head than patterns
  pub record IsLostAmong (ps : List FlatTerm) (p : FlatTerm) (ts : List FlatTerm) : Type 0 where
    pub head : OpId
    pub kept : KeepsHead p head
    pub lost : All (IsLost p) ts ⊎ (headed_in head ts < headed_in head ps)
