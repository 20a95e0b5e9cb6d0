-- What is kept is the answer as it was told.
use Rattle.std.proofs.Common.{refl, sym, ◌∙◌, subst}
use Rattle.fvn_forms.specs.Flat.{FlatTerm}
use Rattle.fvn_remembering.specs.declared.keeping.TheConstants.{FIRST}
use Rattle.fvn_remembering.specs.Answers.{pair_of, IsAnswer}
use Rattle.fvn_remembering.proofs.Told.{kept_as_told}
use Rattle.fvn_remembering.proofs.recalling.take.Goals as goal

pub keep-requires-clause-kept : goal.keep-requires-clause-kept
keep-requires-clause-kept g c =
    let s = g.S.Solves.solving c.args.solver.now in
    let drawn = g.S.Solves.drawn c.args.solver.now in
    let r = c.args.solved.now in
    kept_as_told s drawn r _ (c.is_complete-complete.ensures.0 c.if-not-complete.false)
    (c.from_vec.ensures ∙ c.in_ok-unifiers.ensures ∙ c.as_slice.ensures) refl
    (subst (λ (u : FlatTerm). IsAnswer s drawn FIRST (pair_of c.in_ok-first.first u) r) (sym c.in_ok-second.ensures)
    (subst (λ (t : FlatTerm). IsAnswer s drawn FIRST (pair_of t c.args.u.now) r) (sym c.in_ok-first.ensures) c.requires.answer))
