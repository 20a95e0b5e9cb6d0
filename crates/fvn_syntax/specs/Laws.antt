-- What is proved of all written terms.
use Rattle.std.specs.Prelude.{ℕ, ◌≡◌, ◌<◌, ◌∷◌, [], List, length, map, slice_get, Contains, Ok, Some}
use Rattle.fvn_terms.specs.declared.plain.OpId.{OpId}
use Rattle.fvn_terms.specs.declared.plain.SortId.{SortId}
use Rattle.fvn_terms.specs.declared.declarations.Rank.{Rank}
use Rattle.fvn_terms.specs.Signature.{kind, declared, axioms, IsSort, HasKind}
use Rattle.fvn_terms.specs.Equality.{IsAssociative}
use Rattle.fvn_terms.specs.Plain.{term}
use Rattle.fvn_syntax.specs.Pieces.{Text}
use Rattle.fvn_syntax.specs.Raw.{RawTerm}
use Rattle.fvn_syntax.specs.Scope.{Scope}
use Rattle.fvn_syntax.specs.Resolve.{Resolved, resolve}

-- The names of a scope fit its declarations: each stands for a sort or an operator that is declared, and sums
-- are over one kind.
pub record IsFitting (c : Scope) : Type 0 where
  pub sorts : (i : ℕ) → i < length c.names.sorts → IsSort c.declarations (record { 0 = i })
  pub kinds : (s : SortId) → IsSort c.declarations s → IsSort c.declarations (kind c.declarations s)
  pub variables : (i : ℕ) (s : SortId) → slice_get c.names.variables.sorts i ≡ Some s → IsSort c.declarations s
  pub ops : (i : ℕ) → i < length c.names.ops → (r : Rank) × Contains (declared c.declarations (record { 0 = i })).ranks r
  pub sums : (f : OpId) (r : Rank) → IsAssociative (axioms c.declarations f) → Contains (declared c.declarations f).ranks r →
      map (kind c.declarations) r.args ≡ kind c.declarations r.result ∷ kind c.declarations r.result ∷ []

-- A term that a written term stands for is well-kinded, and has the kind that is told.
abbrev pub TermsAreWellKinded : Type 0
TermsAreWellKinded =
    (c : Scope) → IsFitting c → (texts : List Text) (t : RawTerm) (r : Resolved) → resolve c texts t ≡ Ok r →
    HasKind c.declarations (term r.term) r.kind
