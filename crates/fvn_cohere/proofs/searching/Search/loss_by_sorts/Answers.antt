-- One sort more.
use Rattle.std.proofs.Common.{◌≤◌, subst}
use Rattle.std.specs.Prelude.{MatchOption}
use Rattle.fvn_terms.specs.declared.declarations.Declarations.{Declarations}
use Rattle.fvn_forms.specs.SortOrder.{sort_number}
use Rattle.fvn_cohere.specs.declared.searching.Sought.TheVariants.{LossAt}
use Rattle.fvn_cohere.specs.inner.Narrowing.{FindsAs}
use Rattle.fvn_cohere.proofs.Narrowed.{none_yet, none_more, lost_by, none_lost}
use Rattle.fvn_cohere.proofs.searching.Search.loss_by_sorts.Goals as goal

pub loop-n-init : goal.loop-n-init
loop-n-init c = none_yet c.args.self.now

pub loop-n-preserved : goal.loop-n-preserved
loop-n-preserved c =
    let at = record c.args.self.now { sought = LossAt (sort_number c.loop-n.n) } in
    none_more c.args.self.now c.loop-n.n c.in-Some.p.0 (subst (λ r. MatchOption r (Unit {0}) (λ p. FindsAs at p.0)) c.in-Some.is c.in_ok-find_narrowed.ensures) c.if-p.false c.loop-n.invariant

pub returns-then-p : goal.returns-then-p
returns-then-p c =
    let at = record c.args.self.now { sought = LossAt (sort_number c.loop-n.n) } in
    lost_by c.args.self.now c.recall_good.ensures c.recall_completed.ensures c.loop-n.n c.in-Some.p.0 (subst (λ r. MatchOption r (Unit {0}) (λ p. FindsAs at p.0)) c.in-Some.is c.in_ok-find_narrowed.ensures) c.if-p.true

pub returns : goal.returns
returns c =
    none_lost c.args.self.now c.recall_good.ensures c.recall_completed.ensures c.requires.kinded c.loop-n.n
    (subst (λ (d : Declarations). d.sorts ≤ c.loop-n.n) c.declarations.ensures c.loop-n-test.false) c.loop-n.invariant
