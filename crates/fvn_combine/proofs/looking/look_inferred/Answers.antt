-- The table has sums; what is inferred is said of each unifier.
use Rattle.std.proofs.Common.{◌≡◌, sym, subst}
use Rattle.fvn_flat.specs.Solving.{problem_of}
use Rattle.fvn_combine_nodes.specs.States.{IsClosed, class_of}
use Rattle.fvn_combine_leaves.specs.Readings.{IsReading}
use Rattle.fvn_combine.specs.Tasks.{Combining}
use Rattle.fvn_combine_inferring.specs.Inferred.{IsInferred, AreEqualPairs, TellHeads}
use Rattle.fvn_combine_inferring.specs.declared.inferring.Inferred.{Inferred}
use Rattle.fvn_combine_inferring.specs.declared.inferring.Inferred.TheVariants.{Impossible, Together, Question}
use Rattle.fvn_combine.proofs.Inferring.{none_admitted, pairs_admitted}
use Rattle.fvn_combine.proofs.looking.look_inferred.Goals.{In_ok-found}
use Rattle.fvn_combine.proofs.looking.look_inferred.Goals as goal

pub infer-requires : goal.infer-requires
infer-requires c = record {
  closed = subst (λ (k : Combining). IsClosed k.declarations k.table c.args.state.now) (sym c.task.view_is) c.requires.closed;
  sums = c.tables_have_sums.ensures c.task.inside.sig.now c.task.invariant.good.fits (problem_of c.task.inside.problem.now) c.task.invariant.is_given.kinds c.task.inside.table c.task.invariant.well_made c.task.invariant.table_of;
  reading = subst (λ (k : Combining). IsReading k.declarations k.table (class_of c.args.state.now) c.args.reading.now) (sym c.task.view_is) c.requires.reading;
  heads = subst (λ (k : Combining). TellHeads k.declarations k.table c.args.state.now c.args.known.now.sorted c.args.known.now.heads.items) (sym c.task.view_is) c.requires.heads;
}

-- what is inferred, of the task
inferred : (c : In_ok-found) → (r : Inferred) → c.in_ok-found.found.0 ≡ r → IsInferred c.args.task.now.declarations c.args.task.now.table c.args.state.now c.args.task.now.sorted r
inferred c r is =
    subst (λ b. IsInferred c.args.task.now.declarations c.args.task.now.table c.args.state.now b r) c.requires.sorted
    (subst (λ (k : Combining). IsInferred k.declarations k.table c.args.state.now c.args.known.now.sorted r) c.task.view_is
    (subst (IsInferred c.task.inside.sig.now c.task.inside.table c.args.state.now c.args.known.now.sorted) is c.in_ok-found.ensures.is))

pub returns-in-Impossible : goal.returns-in-Impossible
returns-in-Impossible c =
    none_admitted c.args.task.now c.recall.ensures c.sorted_unifiers_go_with.ensures c.args.state.now c.requires.closed (inferred (goal.at.returns-in-Impossible c).In_ok-found Impossible c.in-Impossible.is)

pub returns-in_ok-push-in-Together : goal.returns-in_ok-push-in-Together
returns-in_ok-push-in-Together c =
    let i = c.in-Together.i in
    let j = c.in-Together.j in
    let must = inferred (goal.at.returns-in_ok-push-in-Together c).In_ok-found (Together i j) c.in-Together.is in
    let others =
    subst (λ b. AreEqualPairs c.args.task.now.declarations c.args.task.now.table c.args.state.now b c.in_ok-found.found.1.items) c.requires.sorted
    (subst (λ (k : Combining). AreEqualPairs k.declarations k.table c.args.state.now c.args.known.now.sorted c.in_ok-found.found.1.items) c.task.view_is c.in_ok-found.ensures.others) in
    pairs_admitted c.args.task.now c.recall.ensures c.sorted_unifiers_go_with.ensures c.args.state.now c.requires.closed c.in_ok-found.found.1.items c.push.new.self.items i j c.in_ok-push-in-Together.ensures.items others must

pub worth_asking-requires : goal.worth_asking-requires
worth_asking-requires c =
    let q = inferred (goal.at.worth_asking-requires c).In_ok-found (Question c.in-Question.i c.in-Question.j) c.in-Question.is in
    record { closed = c.requires.closed; reading = c.requires.reading; heads = c.requires.heads; sorted = c.requires.sorted; left = q.left; right = q.right; «open» = q.undecided }
