-- Marks in blocks.
use Rattle.std.specs.Prelude.{◌≡◌, List, [], ◌∷◌, ◌++◌, All}
use Rattle.fvn_cover_counts.specs.declared.blocks.Block.{Block}
use Rattle.fvn_cover_counts.specs.declared.marks.Marks.{Marks}
use Rattle.fvn_cover_counts.specs.Marks.{IsBelow}

-- these marks are between two others, and leave out the same operators as the lower ones
pub record IsBetween (low high m : Marks) : Type 0 where
  pub out : m.out ≡ low.out
  pub above : IsBelow low m
  pub below : IsBelow m high

-- P holds of all marks of the block
abbrev pub HoldsIn : (Marks → Type 0) → Block → Type 0
HoldsIn P b = All P b.marks.items

-- all marks of the block are between its lowest and its highest
abbrev pub IsBlock : Block → Type 0
IsBlock b = HoldsIn (IsBetween b.low b.high) b

-- the marks of all blocks, in order
abbrev pub held : List Block → List Marks
held [] = []
held (b ∷ bs) = b.marks.items ++ held bs
