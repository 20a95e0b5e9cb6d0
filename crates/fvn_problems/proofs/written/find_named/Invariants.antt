-- The variables that are left decide.
use Rattle.std.proofs.Common.{◌≡◌, drop}
use Rattle.std.specs.List.{list_any}
use Rattle.fvn_problems.specs.inner.Bound.{is_named}
use Rattle.fvn_problems.proofs.written.find_named.Given as goal

-- the variables that are left decide
abbrev pub invariant-loop-x : goal.invariant-loop-x
invariant-loop-x l = list_any (is_named l.name l.sort) l.vars ≡ list_any (is_named l.name l.sort) (drop l.x-index l.vars)
