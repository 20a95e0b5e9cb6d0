-- Classes of sorts in which the sorts of pairs are joined.
use Rattle.std.specs.Prelude.{◌≡◌, ◌<◌, ℕ, true, List, length, All}
use Rattle.fvn_terms.specs.declared.plain.SortId.{SortId}
use Rattle.fvn_forms.specs.SortOrder.{sort_number, reaches}
use Rattle.fvn_signature_draft.specs.Collected.{both_ways}
use Rattle.fvn_module_names.specs.inner.Classes.{AreAlike}

-- pairs lead from one sort to the other, in either direction
abbrev pub AreLinked : List (SortId × SortId) → SortId → SortId → Type 0
AreLinked ps s q = reaches (both_ways ps) s q ≡ true

-- sorts of one class are linked
abbrev pub AreSound : List (SortId × SortId) → List ℕ → Type 0
AreSound ps labels =
    (i j : ℕ) → i < length labels → j < length labels → AreAlike labels i j → AreLinked ps (sort_number i) (sort_number j)

-- the classes, where those of the sorts of each of these pairs are put together
pub record IsJoinedBy (old new : List ℕ) (ps : List (SortId × SortId)) : Type 0 where
  pub as_long : length new ≡ length old
  pub in_range : All (λ p. (p.0.0 < length old) × (p.1.0 < length old)) ps
  pub kept : (i j : ℕ) → i < length old → j < length old → AreAlike old i j → AreAlike new i j
  pub joined : All (λ p. AreAlike new p.0.0 p.1.0) ps
  pub sound : (all : List (SortId × SortId)) → AreSound all old → All (λ p. AreLinked all p.0 p.1) ps → AreSound all new
