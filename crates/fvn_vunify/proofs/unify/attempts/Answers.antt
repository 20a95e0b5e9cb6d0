-- One more variant.
use Rattle.std.proofs.Common.{sym, subst, [], ◌∷◌, ◌++◌, take}
use Rattle.std.proofs.lemmas.List.{take_all}
use Rattle.fvn_exploring.specs.declared.ends.ExpandEnd.TheVariants.{Whole}
use Rattle.fvn_vunify.specs.inner.Attempts.{IsSolvable, AreAttempts}
use Rattle.fvn_vunify.proofs.Tested.{take_next, attempts_none, attempts_more}
use Rattle.fvn_vunify.proofs.unify.attempts.Goals as goal

pub loop-v-init : goal.loop-v-init
loop-v-init g c =
    let s = g.E.Expander.setting c.args.expander.now in
    let drawn = g.E.Expander.drawn c.args.expander.now in
    subst (λ l. AreAttempts s drawn c.args.vars.now [] l Whole) (sym c.new-found.ensures.items) (attempts_none s drawn c.args.vars.now)

pub solve_variant-requires-clause-solvable : goal.solve_variant-requires-clause-solvable
solve_variant-requires-clause-solvable g c = λ κs w.
    subst (IsSolvable (g.E.Expander.setting c.args.expander.now) c.args.vars.now) (sym c.v-item.is) (c.requires.solvable c.loop-v.v-index c.v-item.result c.loop-v-test.true)

pub loop-v-preserved : goal.loop-v-preserved
loop-v-preserved g c =
    let s = g.E.Expander.setting c.args.expander.now in
    let may = g.E.Expander.drawn c.args.expander.now in
    let vars = c.args.vars.now in
    let so_far = take c.loop-v.v-index c.args.variants.now in
    let one = c.in_ok-one.one in
    subst (λ l. AreAttempts s may vars l c.append.new.self.items c.first_end-end.result) (sym (take_next c.args.variants.now c.loop-v.v-index c.v-item.result c.loop-v-test.true c.v-item.is))
    (subst (λ l. AreAttempts s may vars (so_far ++ c.v-item.result ∷ []) l c.first_end-end.result) (sym c.in_ok-append.ensures.items)
    (subst (AreAttempts s may vars (so_far ++ c.v-item.result ∷ []) (c.loop-v.found.items ++ one.found.items)) (sym c.first_end-end.ensures)
    (attempts_more s may vars so_far c.loop-v.found.items c.loop-v.end c.loop-v.invariant c.v-item.result one.found.items one.end c.in_ok-one.ensures)))

pub returns : goal.returns
returns g c =
    subst (λ l. AreAttempts (g.E.Expander.setting c.args.expander.now) (g.E.Expander.drawn c.args.expander.now) c.args.vars.now l c.loop-v.found.items c.loop-v.end)
    (take_all c.loop-v.v-index c.args.variants.now c.loop-v-test.false) c.loop-v.invariant
