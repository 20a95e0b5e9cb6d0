-- One sort more.
use Rattle.std.proofs.Common.{◌≡◌, ◌++◌, [], ◌∷◌, Bool, cond, sym, ap, ◌∙◌, arith}
use Rattle.std.specs.Prelude.{filter}
use Rattle.std.proofs.lemmas.List.{append-nil}
use Rattle.std.proofs.lemmas.List.FromFn.{filter_of_map_range_with_len_more}
use Rattle.fvn_terms.specs.declared.plain.SortId.{SortId}
use Rattle.fvn_forms.specs.SortOrder.{sort_number, at_or_below}
use Rattle.fvn_signature.specs.FirstSorts.{first_sorts}
use Rattle.fvn_cohere.proofs.identities.declared_below.Goals as goal
use Rattle.fvn_cohere.proofs.identities.declared_below.Goals.{then-is_at_or_below+in_ok-push, else-is_at_or_below}

pub loop-n-preserved : goal.loop-n-preserved
loop-n-preserved c =
    let test = λ (q : SortId). at_or_below c.args.sig.now q c.args.s in
    let t : SortId = sort_number c.loop-n.n in
    let more = filter_of_map_range_with_len_more test sort_number 0 c.loop-n.n c.loop-n.n (omega arith) in
    let added = λ (b : Bool). filter test (first_sorts c.loop-n.n) ++ cond b (t ∷ []) [] in
    elim c.if-is_at_or_below.branch [
      | then-is_at_or_below+in_ok-push w ↦ rw (w.all-is, w.in_ok-push.ensures.items, c.loop-n.invariant) (sym (more ∙ ap added (sym w.if-is_at_or_below.ensures)))
      | else-is_at_or_below w ↦ rw (w.all-is, c.loop-n.invariant) (sym (more ∙ ap added (sym w.if-is_at_or_below.ensures) ∙ append-nil (filter test (first_sorts c.loop-n.n))))
    ]

pub returns : goal.returns
returns c =
    let at : c.loop-n.n ≡ c.declarations.result.now.sorts = omega (arith, c.loop-n-test.false, c.loop-n.auto.n-end) in
    c.loop-n.invariant ∙ ap (λ n. filter (λ (q : SortId). at_or_below c.args.sig.now q c.args.s) (first_sorts n)) (at ∙ ap (λ q. q.sorts) c.declarations.ensures)
