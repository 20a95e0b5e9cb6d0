-- A pattern that keeps its head.
use Rattle.fvn_match.proofs.heads.heads_allow.Goals as goal

pub may_keep-requires : goal.may_keep-requires
may_keep-requires c = record { kept = rw c.in-Some.is at c.kept_head.ensures; pattern = c.requires.pattern; target = c.requires.target }

pub returns-in-Some : goal.returns-in-Some
returns-in-Some c = c.may_keep.ensures
