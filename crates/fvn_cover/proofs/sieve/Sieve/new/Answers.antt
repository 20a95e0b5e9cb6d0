-- no marks are those of none
use Rattle.std.proofs.Common.{sym, subst}
use Rattle.std.specs.Prelude.{Any}
use Rattle.std.proofs.lemmas.List.Elements.{All-nil}
use Rattle.fvn_cover.specs.inner.Profiled.{IsMarked}
use Rattle.fvn_cover.specs.inner.Sieved.{HaveMarksIn}
use Rattle.fvn_cover.proofs.sieve.Sieve.new.Goals as goal

pub invariant_of-result : goal.invariant_of-result
invariant_of-result c = subst (HaveMarksIn c.new-2.result) (sym c.new.ensures.items) (All-nil (λ v. Any (IsMarked v) c.new-2.result))

pub returns : goal.returns
returns c = c.new.ensures.items
