-- How much is left to do: a number that falls with each unifier that is given.
use Rattle.std.specs.Prelude.{ℕ, ◌+◌, ◌*◌, ◌^◌, List, length, Option, Some, None}
use Rattle.fvn_acunify.specs.declared.limits.TheConstants.{LISTED_SOLUTIONS}
use Rattle.fvn_combine_tree.specs.Trees.{weight}
use Rattle.fvn_combine_nodes.specs.declared.state.State.{State}
use Rattle.fvn_acunify_product.specs.Tags.{tags_left}
use Rattle.fvn_acunify_product.specs.Wheels.{choices_left}
use Rattle.fvn_combine.specs.Tasks.{Combining}
use Rattle.fvn_combine.specs.Search.{Search}
use Rattle.fvn_combine.specs.declared.opened.Turning.{Turning}
use Rattle.fvn_combine.specs.declared.opened.Opened.{Opened}
use Rattle.fvn_combine.specs.declared.opened.Leaf.{Leaf}

-- the most lists of tags at a leaf: a node has none, or one of the operators that head a subterm
unfoldable pub most_tags : Combining → ℕ
most_tags k = (length k.table.subterms + 1) ^ length k.table.nodes

-- the most lists of numbers under tags: each sum operator, which heads a subterm, has few minimal solutions
unfoldable pub most_numbers : Combining → ℕ
most_numbers k = (2 ^ LISTED_SOLUTIONS) ^ length k.table.subterms

-- how many lists of numbers are left under the current tags, at most
abbrev pub numbers_left : Option Turning → ℕ
numbers_left None = 0
numbers_left (Some v) = choices_left v.wheels

-- how many choices of an open leaf are left, at most
abbrev pub leaf_left : Combining → Opened → ℕ
leaf_left k o = tags_left o.tags * most_numbers k + numbers_left o.turning

-- how many choices of the open leaf are left, at most; none where no leaf is open
abbrev pub left_at : Combining → Option Leaf → ℕ
left_at k None = 0
left_at k (Some w) = leaf_left k w.opened

-- what these states and this leaf leave to do
abbrev pub left_by : Combining → List State → Option Leaf → ℕ
left_by k states leaf = weight states * (most_tags k * most_numbers k) + left_at k leaf

-- by this falls a search that gives a unifier
abbrev pub work_left : Search → ℕ
work_left m = left_by m.combining m.states m.leaf
