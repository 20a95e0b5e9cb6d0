-- The terms of the arguments, one after another.
use Rattle.std.proofs.Common.{◌<◌, ◌≤◌, length, map, ◌∙◌, sym, ap, arith, get_or, Some}
use Rattle.std.proofs.lemmas.List.{take_all}
use Rattle.fvn_terms.specs.Term.{app, pack}
use Rattle.fvn_terms.specs.Plain.{terms}
use Rattle.fvn_combine_nodes.specs.Table.{term_at}
use Rattle.fvn_combine_nodes.proofs.Nodes.{term_at-variable, term_at-over}
use Rattle.fvn_purify.proofs.Packing.{next_terms}
use Rattle.fvn_purify.proofs.forming.+plain_at.Goals as goal

pub loop-n-preserved : goal.loop-n-preserved
loop-n-preserved t c =
    let nodes = c.args.table.now.nodes in
    let n = c.loop-n.n in
    let within : n < length c.in-App.arguments = let a = c.loop-n-test.true in let b = c.len-n-end.ensures in omega arith in
    ap terms c.in_ok-push-in-App.ensures.items
    ∙ next_terms nodes c.in-App.arguments n c.loop-n.items.items c.in_ok-t-in-App.t c.loop-n.invariant within
    (c.in_ok-t-in-App.ensures ∙ ap (λ l. term_at nodes (get_or l n 0)) c.as_slice.ensures)

pub returns-in-Var : goal.returns-in-Var
returns-in-Var t c =
    sym (term_at-variable c.args.table.now.nodes c.args.i c.in-Var.x (c.node.ensures ∙ ap Some c.in-Var.is))

pub returns-after-loop-n : goal.returns-after-loop-n
returns-after-loop-n t c =
    let nodes = c.args.table.now.nodes in
    let n = c.loop-n.n in
    let ks = c.in-App.arguments in
    let past : length ks ≤ n = let a = c.loop-n-test.false in let b = c.len-n-end.ensures in omega arith in
    ap (app c.in-App.f) (c.from_vec.ensures ∙ c.loop-n.invariant ∙ ap (λ l. pack (map (term_at nodes) l)) (take_all n ks past))
    ∙ sym (term_at-over nodes c.recall_well_made.ensures.ordered c.args.i c.in-App.f ks (c.node.ensures ∙ ap Some c.in-App.is))
