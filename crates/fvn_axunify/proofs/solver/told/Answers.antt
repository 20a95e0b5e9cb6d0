-- What was found is told.
use Rattle.std.proofs.Common.{◌∙◌, map, refl, sym, subst}
use Rattle.std.specs.Prelude.{All, List}
use Rattle.fvn_base.specs.declared.limits.TheConstants.{NEXT_FRESH}
use Rattle.fvn_flat.specs.Bindings.{Bindings}
use Rattle.fvn_flat.specs.declared.solver.Solved.{Solved}
use Rattle.fvn_refine.specs.Refinements.{variables_of_terms}
use Rattle.fvn_axunify.specs.Solved.{IsSolvedAs}
use Rattle.fvn_axunify.specs.inner.Numbers.{AreBelow, IsAboveAll}
use Rattle.fvn_axunify.specs.Searched.{IsSearched, IsAnswered}
use Rattle.fvn_axunify.specs.Coarser.{HoldsCoarser}
use Rattle.fvn_axunify.specs.inner.Members.{IsReached}
use Rattle.fvn_axunify.specs.inner.Found.{IsEndOf}
use Rattle.fvn_axunify.proofs.Ends.{still_searched, still_coarser}
use Rattle.fvn_axunify.proofs.Told.{all_small, answered, reached_answered}
use Rattle.fvn_axunify.proofs.solver.told.Goals as goal

pub above_all-requires-clause-below : goal.above_all-requires-clause-below
above_all-requires-clause-below c =
    subst (All (λ (s : Bindings). AreBelow NEXT_FRESH (variables_of_terms s))) (sym (c.as_slice.ensures.value ∙ c.in_ok-list.ensures))
    (all_small c.args.task.now.sig.now c.args.task.now.problem.now c.args.task.now.vars.now c.args.task.now.first c.args.task.now.limits.unifiers c.args.task.now.limits.size c.requires.asked c.args.found.kept c.requires.found.are)

pub returns-clause-solved : goal.returns-clause-solved
returns-clause-solved c =
    let d = c.args.task.now.sig.now in
    let given = c.args.task.now.problem.now in
    let list = c.args.found.kept in
    subst (λ (us : List Bindings). IsSolvedAs d given c.args.task.now.first c.args.task.now.limits.unifiers c.args.task.now.limits.size (record { unifiers = us; next_fresh = c.in_ok-next_fresh.next_fresh; end = c.args.found.end }))
    (sym (c.from_vec.ensures ∙ c.in_ok-list.ensures))
    (
    answered d given c.args.task.now.vars.now c.args.task.now.first c.args.task.now.limits.unifiers c.args.task.now.limits.size c.requires.asked
    c.covering_of_unifiers_is_instance.ensures list c.args.found.end c.requires.found c.in_ok-next_fresh.next_fresh
    (subst (λ (us : List Bindings). IsAboveAll c.args.task.now.first us c.in_ok-next_fresh.next_fresh) (c.as_slice.ensures.value ∙ c.in_ok-list.ensures) c.in_ok-next_fresh.ensures)
    )

pub returns-clause-searched : goal.returns-clause-searched
returns-clause-searched c = λ _.
    let d = c.args.task.now.sig.now in
    let given = c.args.task.now.problem.now in
    let vars = c.args.task.now.vars.now in
    let first = c.args.task.now.first in
    let list = c.args.found.kept in
    let r : Solved = record { unifiers = map (λ v. v.subst) list; next_fresh = c.in_ok-next_fresh.next_fresh; end = c.args.found.end } in
    subst (λ (us : List Bindings). IsSearched d given (IsAnswered d given (record { unifiers = us; next_fresh = c.in_ok-next_fresh.next_fresh; end = c.args.found.end })) first c.args.task.now.limits.size c.args.found.end)
    (sym (c.from_vec.ensures ∙ c.in_ok-list.ensures))
    (
    still_searched d given (IsReached d given vars list) (IsAnswered d given r)
    (reached_answered d given vars first c.args.task.now.limits.unifiers c.args.task.now.limits.size c.requires.asked list r refl)
    first c.args.task.now.limits.size c.args.found.end c.requires.searched
    )

pub returns-clause-coarser : goal.returns-clause-coarser
returns-clause-coarser c = λ f system is.
    let d = c.args.task.now.sig.now in
    let given = c.args.task.now.problem.now in
    let vars = c.args.task.now.vars.now in
    let list = c.args.found.kept in
    let most = c.args.task.now.limits.unifiers in
    let size = c.args.task.now.limits.size in
    let r : Solved = record { unifiers = map (λ v. v.subst) list; next_fresh = c.in_ok-next_fresh.next_fresh; end = c.args.found.end } in
    let found = subst (IsEndOf d given vars most size list) is c.requires.found.end_of in
    subst (λ (us : List Bindings). HoldsCoarser d given (IsAnswered d given (record { unifiers = us; next_fresh = c.in_ok-next_fresh.next_fresh; end = c.args.found.end })) f system)
    (sym (c.from_vec.ensures ∙ c.in_ok-list.ensures))
    (
    still_coarser d given (IsReached d given vars list) (IsAnswered d given r)
    (reached_answered d given vars c.args.task.now.first most size c.requires.asked list r refl)
    f system found.1
    )
