-- The list of direct subsorts, with one sort more.
use Rattle.std.proofs.Common.{◌++◌, [], ◌∷◌, Bool, cond, sym, ap, ◌∙◌, arith}
use Rattle.std.specs.Prelude.{filter}
use Rattle.std.proofs.lemmas.List.{append-nil}
use Rattle.std.proofs.lemmas.List.FromFn.{filter_of_map_range_with_len_more}
use Rattle.fvn_terms.specs.declared.plain.SortId.{SortId}
use Rattle.fvn_forms.specs.SortOrder.{sort_number}
use Rattle.fvn_signature.specs.FirstSorts.{first_sorts}
use Rattle.fvn_signature.specs.Queries.{is_direct, direct_subsorts}
use Rattle.fvn_signature.proofs.queries.subsorts.direct_subsorts.Goals as goal
use Rattle.fvn_signature.proofs.queries.subsorts.direct_subsorts.Goals.{then-is_direct+in_ok-push, else-is_direct}

pub loop-t-preserved : goal.loop-t-preserved
loop-t-preserved c =
    let d = c.args.draft.now.declarations in
    let t : SortId = sort_number c.loop-t.t in
    let more = filter_of_map_range_with_len_more (is_direct d c.args.s) sort_number 0 c.loop-t.t c.loop-t.t (omega arith) in
    let added = λ (b : Bool). filter (is_direct d c.args.s) (first_sorts c.loop-t.t) ++ cond b (t ∷ []) [] in
    elim c.if-is_direct.branch [
      | then-is_direct+in_ok-push w ↦ rw (w.list-is, w.in_ok-push.ensures.items, c.loop-t.invariant) (sym (more ∙ ap added (sym w.if-is_direct.ensures)))
      | else-is_direct w ↦ rw (w.list-is, c.loop-t.invariant) (sym (more ∙ ap added (sym w.if-is_direct.ensures) ∙ append-nil (filter (is_direct d c.args.s) (first_sorts c.loop-t.t))))
    ]

pub returns : goal.returns
unfolding direct_subsorts
returns c = c.loop-t.invariant ∙ ap (λ n. filter (is_direct c.args.draft.now.declarations c.args.s) (first_sorts n)) (omega arith)
