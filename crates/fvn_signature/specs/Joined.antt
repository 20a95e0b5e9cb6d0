-- Sorts that an order joins.
use Rattle.std.specs.Prelude.{List, Contains}
use Rattle.fvn_terms.specs.declared.plain.SortId.{SortId}

-- from s one comes to q along pairs, each from its low sort up or from its high sort down
pub data Joined (pairs : List (SortId × SortId)) : SortId → SortId → Type 0 where
  there : {s : SortId} → Joined pairs s s
  upward : {s q r : SortId} → Contains pairs (s, q) → Joined pairs q r → Joined pairs s r
  downward : {s q r : SortId} → Contains pairs (q, s) → Joined pairs q r → Joined pairs s r
