-- A variable that is bound to another form, or another pattern.
use Rattle.std.proofs.Common.{sym, subst}
use Rattle.fvn_match.specs.inner.Goals.{bindings_of}
use Rattle.fvn_match.specs.inner.Refusing.{NeverMakes}
use Rattle.fvn_match.specs.inner.Apart.{values_with}
use Rattle.fvn_match.proofs.PairSteps.{variable_is}
use Rattle.fvn_match.proofs.Commuting.{other_never}
use Rattle.fvn_match.proofs.apart.Apart.refuses.Goals as goal

pub returns-in-Some : goal.returns-in-Some
returns-in-Some c = λ yes.
    let d = c.args.sig.now in
    let b = values_with d (bindings_of c.args.bound.now) c.args.self.now in
    subst (λ u. NeverMakes d b u c.args.t.now) (sym (variable_is c.args.p.now c.in-Some.x (sym c.in-Some.ensures))) (other_never d b c.in-Some.x c.args.t.now (c.has_other.ensures yes))

pub is_other-requires : goal.is_other-requires
is_other-requires c = c.requires

pub returns-in-None : goal.returns-in-None
returns-in-None c = λ yes v k agrees is. c.is_other.ensures yes v k is
