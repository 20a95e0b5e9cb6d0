-- What the loops of `apply` keep.
use Rattle.std.proofs.Common.{◌≡◌, take}
use Rattle.fvn_terms.specs.Plain.{terms}
use Rattle.fvn_terms.specs.Substitution.{value, apply_all}
use Rattle.fvn_terms.proofs.substitution.PlainSubst.+apply.Given as goal

-- the arguments so far
abbrev pub invariant-apply_all-loop-u : goal.invariant-apply_all-loop-u
invariant-apply_all-loop-u l = terms l.items.items ≡ apply_all (value l.self.pairs) (terms (take l.u-index l.u-items))
