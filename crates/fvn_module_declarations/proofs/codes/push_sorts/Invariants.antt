-- The sorts that are left make the rest.
use Rattle.std.proofs.Common.{◌≡◌, ◌++◌, drop}
use Rattle.fvn_module_declarations.specs.inner.Codes.{sorts_code}
use Rattle.fvn_module_declarations.proofs.codes.push_sorts.Given as goal

-- the sorts that are left make the rest
abbrev pub invariant-loop-sort : goal.invariant-loop-sort
invariant-loop-sort l = l.code.items ++ sorts_code (drop l.sort-index l.sorts) ≡ l.fn.code.items ++ sorts_code l.sorts
