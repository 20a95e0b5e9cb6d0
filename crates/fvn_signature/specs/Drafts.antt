-- What is kept beside a signature with its kinds.
use Rattle.std.specs.Prelude.{◌≡◌, ◌≤◌, ◌<◌, ℕ, List, [], ◌∷◌, map, length, All, slice_index_or}
use Rattle.fvn_base.specs.declared.limits.TheConstants.{SORTS}
use Rattle.fvn_terms.specs.declared.plain.OpId.{OpId}
use Rattle.fvn_terms.specs.declared.plain.SortId.{SortId}
use Rattle.fvn_terms.specs.declared.declarations.Rank.{Rank}
use Rattle.fvn_terms.specs.declared.declarations.Declarations.{Declarations}
use Rattle.fvn_forms.specs.Good.{IsKinded}
use Rattle.fvn_forms.specs.Ranks.{ranks_of, result}
use Rattle.fvn_signature.specs.Words.{IsClosure}
use Rattle.fvn_signature.specs.FirstSorts.{first_sorts}

-- for each of the first n sorts a row: the results of f over it and each of the first n sorts, as first and second argument
abbrev pub results_of_two : Declarations → OpId → ℕ → List (List SortId)
results_of_two d f n = map (λ s. map (λ q. result d f (s ∷ q ∷ [])) (first_sorts n)) (first_sorts n)

-- no table, or that of all results over two of the first n sorts
abbrev pub IsTable : Declarations → OpId → ℕ → List (List SortId) → Type 0
IsTable d f n rows = 0 < length rows → rows ≡ results_of_two d f n

-- the words say where the order leads, the ranks are those of each operator, and each table that there is has the results of its operator
pub record IsDraft (d : Declarations) (n : ℕ) (words_kept : List ℕ) (ranks_kept : List (List Rank)) (tables_kept : List (List (List SortId))) : Type 0 where
  pub kinded : IsKinded d
  pub in_range : All (λ p. (p.0.0 < d.sorts) × (p.1.0 < d.sorts)) d.below
  pub few : d.sorts ≤ SORTS
  pub total : n ≡ length d.kinds
  pub more : d.sorts ≤ n
  pub words : IsClosure d.sorts d.below words_kept
  pub ranks : (f : OpId) → slice_index_or ranks_kept f.0 [] ≡ ranks_of d f
  pub tables : (f : OpId) → IsTable d f n (slice_index_or tables_kept f.0 [])
