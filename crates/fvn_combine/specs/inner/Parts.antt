-- A search, part by part.
use Rattle.std.specs.Prelude.{List, Option}
use Rattle.fvn_combine_nodes.specs.declared.state.State.{State}
use Rattle.fvn_combine.specs.Tasks.{Combining}
use Rattle.fvn_combine.specs.Search.{Search}
use Rattle.fvn_combine.specs.declared.opened.Leaf.{Leaf}
use Rattle.fvn_combine.specs.declared.ending.Ended.{Ended}
use Rattle.fvn_combine.specs.declared.combiner.Parts.{Parts}

-- the search with these states, this leaf and this end
abbrev pub search_by : Combining → List State → Option Leaf → Option Ended → Search
search_by k states leaf ended = record { combining = k; states = states; leaf = leaf; ended = ended }

-- the search that these are the parts of
abbrev pub search_of : Parts → Search
search_of p = search_by p.task p.tree p.leaf p.ended
