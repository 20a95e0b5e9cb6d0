-- Shared classes that are sums of a constant alone.
use Rattle.std.specs.Prelude.{ℕ, ◌<◌, ◌≤◌, List, sum_by, Option, Contains}
use Rattle.fvn_terms.specs.declared.plain.OpId.{OpId}
use Rattle.fvn_terms.specs.declared.declarations.Declarations.{Declarations}
use Rattle.fvn_flat.specs.SolvedLists.{component}
use Rattle.fvn_combine_nodes.specs.Table.{NodeTable}
use Rattle.fvn_combine_leaves.specs.Leaves.{IsShared}
use Rattle.fvn_combine_choices.specs.Binding.{IsBound, IsConstant}

-- a shared class that is bound to a sum of f with a constant among its members has two members or more
abbrev pub HasNoAlias : (d : Declarations) (t : NodeTable) (class : ℕ → ℕ) (tag : ℕ → Option OpId) (f : OpId) (columns : List ℕ) (taken : List (List ℕ)) → Type 0
HasNoAlias d t class tag f columns taken =
    (k l : ℕ) (v : List ℕ) → IsShared d t class k → IsBound d t class tag f k → IsConstant d t class tag f l
    → Contains taken v → 0 < component columns v k → 0 < component columns v l
    → 2 ≤ sum_by (λ v. component columns v k) taken
