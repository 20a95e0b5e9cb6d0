-- The pairs are given to the solver, and what it answers is tested.
use Rattle.std.proofs.Common.{◌≡◌, map, sym, ap, ◌∙◌, subst}
use Rattle.std.specs.Prelude.{All, Contains}
use Rattle.std.proofs.lemmas.List.Elements.{All-weaker, All-contains, All-contains_itself}
use Rattle.fvn_terms.specs.Signature.{IsSort}
use Rattle.fvn_terms.specs.declared.plain.Var.{Var}
use Rattle.fvn_forms.specs.Canon.{inst}
use Rattle.fvn_forms.specs.Good.{IsGood}
use Rattle.fvn_flat.specs.Bindings.{Bindings, value, composed, BindsOnce, BindingsFit}
use Rattle.fvn_flat.specs.Fits.{AllFit}
use Rattle.fvn_flat.specs.Solving.{substitution, problem_of, Binds, IsGiven, AreUnifiers, AreBindings, AreNumbered, AreApart, AreComplete, HasCause}
use Rattle.fvn_vunify.specs.Sides.{two_by_two}
use Rattle.fvn_vunify.specs.inner.Ends.{first_end}
use Rattle.fvn_vunify.specs.inner.Attempts.{SomeNeverMeet, AreTested, IsAttempt}
use Rattle.fvn_vunify.proofs.Apart.{attempted_none}
use Rattle.fvn_vunify.proofs.Posing.{is_given}
use Rattle.fvn_vunify.proofs.Attempted.{attempted}
use Rattle.fvn_vunify.proofs.solving.solve_variant.Goals as goal

pub some_never_meet-apart-requires : goal.some_never_meet-apart-requires
some_never_meet-apart-requires g c =
    subst (AllFit c.args.sig.now) (sym c.as_slice.ensures) (rw (← c.requires.sig) at c.requires.solvable.flat.terms)

pub returns-then-apart : goal.returns-then-apart
returns-then-apart g c =
    let s = g.E.Expander.setting c.args.expander.now in
    let may = g.E.Expander.drawn c.args.expander.now in
    let v = c.args.v.now in
    let apart : SomeNeverMeet s.declarations v.terms =
    subst (λ d. SomeNeverMeet d v.terms) c.requires.sig
    (subst (SomeNeverMeet c.args.sig.now) c.as_slice.ensures (c.some_never_meet-apart.ensures c.if-apart.true)) in
    attempted_none s may c.args.vars.now v apart c.new.result.items c.new.ensures.items

pub pairs_under-requires-clause-names : goal.pairs_under-requires-clause-names
pairs_under-requires-clause-names g c = c.in_ok-names.ensures.fits c.args.sig.now

pub pairs_under-requires-clause-terms : goal.pairs_under-requires-clause-terms
pairs_under-requires-clause-terms g c =
    subst (AllFit c.args.sig.now) (sym c.as_slice-2.ensures) (rw (← c.requires.sig) at c.requires.solvable.flat.terms)

pub solve-requires : goal.solve-requires
solve-requires g c =
    let s = g.E.Expander.setting c.args.expander.now in
    let given = c.in_ok-given.given in
    let names = c.in_ok-names.names in
    let good : IsGood s.declarations = subst IsGood c.requires.sig c.recall_good.ensures in
    let is : given.pairs ≡ two_by_two (map (inst s.declarations (value names)) c.args.v.now.terms) =
    subst (λ d. given.pairs ≡ two_by_two (map (inst d (value names)) c.args.v.now.terms)) c.requires.sig
    (c.in_ok-given.ensures ∙ ap (λ l. two_by_two (map (inst c.args.sig.now (value names)) l)) c.as_slice-2.ensures) in
    subst (λ d. IsGiven d given c.in_ok-names.next) (sym c.requires.solver.signature)
    (is_given s good c.args.vars.now c.args.v.now c.requires.solvable names c.in_ok-names.next c.in_ok-names.ensures given is)

pub compose-requires-clause-first : goal.compose-requires-clause-first
compose-requires-clause-first g c = rw (← c.requires.sig) at c.requires.solvable.flat.values

pub compose-requires-clause-then : goal.compose-requires-clause-then
compose-requires-clause-then g c = c.in_ok-names.ensures.fits c.args.sig.now

pub tested-requires-clause-sorts : goal.tested-requires-clause-sorts
tested-requires-clause-sorts g c = λ κs w.
    let s = g.E.Expander.setting c.args.expander.now in
    let at : All (λ (x : Var). IsSort s.declarations x.sort) c.args.vars.now = All-weaker (Contains c.args.vars.now) (λ (x : Var). IsSort s.declarations x.sort)
    (λ x m. All-contains (λ (y : Var). IsSort s.declarations y.sort) c.args.v.now.vars x c.requires.solvable.flat.vars ((c.requires.solvable.same_vars x).0 m)) c.args.vars.now (All-contains_itself c.args.vars.now) in
    subst (λ d. All (λ (x : Var). IsSort d x.sort) c.args.vars.now) (sym c.requires.sig) at

pub tested-requires-clause-unifiers : goal.tested-requires-clause-unifiers
tested-requires-clause-unifiers g c = λ κs w.
    subst (All (BindingsFit c.args.sig.now)) (sym c.as_slice-unifiers.ensures)
    (All-weaker (λ (b : Bindings). Binds (problem_of c.in_ok-given.given) b × BindsOnce b × BindingsFit (g.A.AxiomSolver.signature c.args.solver.now) b) (BindingsFit c.args.sig.now)
    (λ b h. subst (λ d. BindingsFit d b) (c.requires.solver.signature ∙ sym c.requires.sig) h.2) c.in_ok-solved.solved.unifiers c.in_ok-solved.ensures.binds)

pub returns : goal.returns
returns g c =
    let s = g.E.Expander.setting c.args.expander.now in
    let may = g.E.Expander.drawn c.args.expander.now in
    let given = c.in_ok-given.given in
    let names = c.in_ok-names.names in
    let solved = c.in_ok-solved.solved in
    let vars = c.args.vars.now in
    let v = c.args.v.now in
    let good : IsGood s.declarations = subst IsGood c.requires.sig c.recall_good.ensures in
    let is : given.pairs ≡ two_by_two (map (inst s.declarations (value names)) v.terms) =
    subst (λ d. given.pairs ≡ two_by_two (map (inst d (value names)) v.terms)) c.requires.sig
    (c.in_ok-given.ensures ∙ ap (λ l. two_by_two (map (inst c.args.sig.now (value names)) l)) c.as_slice-2.ensures) in
    let at = c.requires.solver.signature in
    let e = c.in_ok-solved.ensures in
    let composed_is : c.in_ok-renamed.renamed ≡ composed s.declarations v.subst names = rw c.requires.sig at c.in_ok-renamed.ensures.exact in
    let cause : HasCause s.declarations given s.unifiers s.bounds.size solved = rw (at, c.requires.solver.unifiers_are, c.requires.solver.symbols_are) at e.cause in
    let tested : AreTested s vars c.in_ok-renamed.renamed solved.unifiers c.in_ok-attempt.attempt.found.items c.in_ok-attempt.attempt.end =
    subst (λ l. AreTested s vars c.in_ok-renamed.renamed l c.in_ok-attempt.attempt.found.items c.in_ok-attempt.attempt.end) c.as_slice-unifiers.ensures c.in_ok-attempt.ensures in
    subst (IsAttempt s may vars v c.in_ok-attempt.attempt.found.items) (sym (c.first_end.ensures ∙ ap (λ z. first_end z c.in_ok-attempt.attempt.end) c.end_of_pairs-stop.ensures))
    (attempted s may good (c.sequences_are_lawful.ensures s.declarations s.equations) vars v c.requires.solvable names c.in_ok-names.next c.in_ok-names.ensures given is solved
    (subst (λ d. AreUnifiers d given solved) at e.sound)
    (All-weaker (λ (b : Bindings). g.A.AxiomSolver.drawn c.args.solver.now (problem_of given) (substitution b)) (λ (b : Bindings). may (problem_of given) (substitution b))
    (λ b h. c.requires.draws (problem_of given) (substitution b) h) solved.unifiers e.drawn)
    (subst (λ d. AreBindings d given solved) at e.binds)
    (subst (λ d. AreNumbered d given c.in_ok-names.next solved) at e.fresh)
    c.in_ok-renamed.renamed composed_is
    (subst (λ d. AreApart d given solved) at e.apart)
    (subst (λ d. AreComplete d given solved) at e.complete)
    cause c.in_ok-attempt.attempt.found.items c.in_ok-attempt.attempt.end tested)
