-- A line for each variant, and the end.
use Rattle.std.proofs.Common.{sym, subst}
use Rattle.std.specs.Prelude.{All}
use Rattle.fvn_terms.specs.Plain.{term}
use Rattle.fvn_terms.specs.Signature.{IsTerm}
use Rattle.fvn_forms.specs.Good.{IsGood}
use Rattle.fvn_signature.specs.Queries.{IsCompleted}
use Rattle.fvn_cmd_exploring.proofs.Ending.{told_fits}
use Rattle.fvn_cmd_variants.specs.inner.Steps.{IsPrintable}
use Rattle.fvn_cmd_variants.proofs.Listed.{all_printable}
use Rattle.fvn_cmd_variants.proofs.Replied.{startable, searched_flat, answer-told, begins}
use Rattle.fvn_cmd_variants.proofs.replying.answer.Goals as goal

pub start_of-requires : goal.start_of-requires
start_of-requires g c = subst (λ d. IsTerm d (term c.args.query.now.term)) (sym c.signature-signature.ensures) c.requires.query.kinded

pub searched-requires-clause-start : goal.searched-requires-clause-start
searched-requires-clause-start g c lives order =
    startable c.args.search.now.declared.now c.args.query.now c.args.search.now.reach _
    (begins c.args.search.now.declared.now c.args.query.now _ c.signature-signature.ensures _ c.in_ok-start.ensures _ c.as_slice.ensures.value)

pub lines_of-requires-clause-vars : goal.lines_of-requires-clause-vars
lines_of-requires-clause-vars g c = c.requires.query.asked

pub lines_of-requires-clause-variants : goal.lines_of-requires-clause-variants
lines_of-requires-clause-variants g c =
    let m = c.args.search.now.declared.now in
    let q = c.args.query.now in
    let reach = c.args.search.now.reach in
    let from = begins m q _ c.signature-signature.ensures _ c.in_ok-start.ensures _ c.as_slice.ensures.value in
    subst (All (IsPrintable m.signature q.vars)) (sym c.as_slice-variants.ensures)
    (all_printable m q reach c.in_ok-x.x (searched_flat m q reach _ from c.in_ok-x.x c.in_ok-x.ensures).explored)

pub answer_after-requires : goal.answer_after-requires
answer_after-requires g c loss count =
    told_fits c.args.search.now.declared.now c.args.search.now.reach _ c.in_ok-x.x loss count c.in_ok-x.x.end c.in_ok-x.ensures.explored.cause

pub returns : goal.returns
returns g c =
    let m = c.args.search.now.declared.now in
    let q = c.args.query.now in
    let reach = c.args.search.now.reach in
    let from = begins m q _ c.signature-signature.ensures _ c.in_ok-start.ensures _ c.as_slice.ensures.value in
    answer-told m q reach _ from c.rewriting_is_lawful.ensures c.equal_lines_cover.ensures (subst IsGood c.signature-signature.ensures c.recall_good.ensures) (subst IsCompleted c.signature-signature.ensures c.recall_completed.ensures) c.requires.query.vars c.in_ok-x.x
    c.in_ok-x.ensures _ c.as_slice-variants.ensures _ c.in_ok-lines.ensures _ _ c.in_ok-reply.ensures
