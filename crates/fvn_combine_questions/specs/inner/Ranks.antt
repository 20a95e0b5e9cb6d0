-- Open pairs of classes with their ranks.
use Rattle.std.specs.Prelude.{◌≡◌, Option, Some, None}
use Rattle.fvn_combine_nodes.specs.declared.state.State.{State}
use Rattle.fvn_combine_questions.specs.declared.best.Ranked.{Ranked}
use Rattle.fvn_combine_questions.specs.inner.Past.{IsOpenPair}

-- it is open whether the two nodes are in one class
abbrev pub IsOpenRanked : State → Ranked → Type 0
IsOpenRanked s pair = IsOpenPair s (pair.left, pair.right)

-- an open pair of nodes; where there is none, there was none before, and the fact holds
abbrev pub IsBestOr : State → Option Ranked → Type 0 → Option Ranked → Type 0
IsBestOr s before P None = (before ≡ None) × P
IsBestOr s before P (Some pair) = IsOpenRanked s pair
