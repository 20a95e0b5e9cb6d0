-- The term is the variable.
use Rattle.std.proofs.Common.{sym, subst, ◌∙◌}
use Rattle.std.proofs.lemmas.Bool.{false≢true}
use Rattle.fvn_refine.specs.inner.Found.{AreAllUnder}
use Rattle.fvn_refine.proofs.Sorts.{variable_is}
use Rattle.fvn_refine.proofs.refining.are_kept.Goals as goal

pub returns-in-Some : goal.returns-in-Some
returns-in-Some c = λ t.
    subst (λ u. AreAllUnder c.args.search.now.sig.now c.args.search.now.vars.now u c.args.s c.args.rows.now)
    (sym (variable_is c.args.t.now c.in-Some.y (sym c.as_var.ensures ∙ c.in-Some.is))) (c.are_under.ensures t)

pub returns-in-None : goal.returns-in-None
returns-in-None c = λ t. absurd (false≢true t)
