-- The sorts that are known of the nodes of a table.
use Rattle.std.specs.Prelude.{◌≡◌, ℕ, ◌<◌, All, List, length, map, slice_get, slice_index_or, Option, Some, Contains}
use Rattle.fvn_terms.specs.declared.plain.OpId.{OpId}
use Rattle.fvn_terms.specs.declared.plain.SortId.{SortId}
use Rattle.fvn_terms.specs.declared.declarations.Rank.{Rank}
use Rattle.fvn_terms.specs.declared.declarations.Declarations.{Declarations}
use Rattle.fvn_terms.specs.Term.{app, pack}
use Rattle.fvn_terms.specs.Signature.{declared, kind, AtOrBelow}
use Rattle.fvn_terms.specs.Sorts.{HasSort}
use Rattle.fvn_combine_nodes.specs.Table.{term_at}
use Rattle.fvn_combine_nodes.specs.declared.table.Node.{Node}

module _ (d : Declarations) (nodes : List Node) where
  -- each sort that is noted of a node is one of its term
  abbrev pub HaveSorts : List (Option SortId) → Type 0
  HaveSorts sorts = (k : ℕ) (s : SortId) → slice_get sorts k ≡ Some (Some s) → HasSort d (term_at nodes k) s

  -- place by place the terms of the nodes have these sorts
  pub record Fit (ks : List ℕ) (args : List SortId) : Type 0 where
    pub as_many : length ks ≡ length args
    pub each : (p k : ℕ) (s : SortId) → p < length ks → HasSort d (term_at nodes (slice_index_or ks p k)) (slice_index_or args p s)

  -- where the rank is one of an operator, this over the nodes has the sort
  abbrev pub IsGivenBy : List ℕ → Rank → SortId → Type 0
  IsGivenBy ks rank s = (f : OpId) → Contains (declared d f).ranks rank → HasSort d (app f (pack (map (term_at nodes) ks))) s

-- the rank gives the kind of the sort, and takes sorts at or below it alone where it gives one of these
pub record IsWithin (d : Declarations) (sort : SortId) (r : Rank) : Type 0 where
  pub kinds : kind d r.result ≡ kind d sort
  pub below : AtOrBelow d r.result sort → All (λ s. AtOrBelow d s sort) r.args
