-- The first turn ends the search.
use Rattle.fvn_theory.specs.Equations.{equations_of}
use Rattle.fvn_rewrite.proofs.Ending.{form_at_once, large_at_once}
use Rattle.fvn_rewrite.proofs.normalising.normal.Goals as goal

pub returns-in_ok-form-in-Large : goal.returns-in_ok-form-in-Large
returns-in_ok-form-in-Large c = large_at_once c.args.sig.now (equations_of c.args.rules.now.equations) c.args.t.now c.args.bounds c.in_ok-form-in-Large.form c.in_ok-form-in-Large.ensures c.requires.term (rw c.in-Large.is at c.in_ok-first.ensures)

pub returns-in_ok-form-in-Irreducible : goal.returns-in_ok-form-in-Irreducible
returns-in_ok-form-in-Irreducible c =
    form_at_once c.args.sig.now (equations_of c.args.rules.now.equations) c.args.t.now c.args.bounds c.in_ok-form-in-Irreducible.form c.in_ok-form-in-Irreducible.ensures c.requires.term (rw c.in-Irreducible.is at c.in_ok-first.ensures)

pub reduced-requires : goal.reduced-requires
reduced-requires c = record { term = c.requires.term; rules = c.requires.rules; next = rw c.in-Next.is at c.in_ok-first.ensures }
