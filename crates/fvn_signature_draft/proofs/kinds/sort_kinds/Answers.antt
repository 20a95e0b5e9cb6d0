-- A sort that is the first of its part has a new kind, and any other the kind of that first sort.
use Rattle.std.proofs.Common.{◌≡◌, ◌<◌, map, length, get_or, sym, ap, ◌∙◌, arith}
use Rattle.fvn_terms.specs.declared.plain.SortId.{SortId}
use Rattle.fvn_forms.specs.SortOrder.{sort_number}
use Rattle.fvn_signature.specs.FirstSorts.{first_sorts}
use Rattle.fvn_signature_draft.specs.Collected.{kind_of, first_joined}
use Rattle.fvn_signature_draft.proofs.Parts.{parts_before-le, kind_of-first, kind_of-later, kinds-more, kinds-length, kinds-at}
use Rattle.fvn_signature_draft.proofs.kinds.sort_kinds.Goals as goal
use Rattle.fvn_signature_draft.proofs.kinds.sort_kinds.Goals.{then-first-s+in_ok-push, else-first-s+in_ok-push-2}

pub overflow_add-next : goal.overflow_add-next
overflow_add-next c = let le = parts_before-le c.args.collected.now c.loop-s.s in omega (arith, c.requires.few, c.loop-s.invariant.next, c.loop-s-test.true)

pub index-kind-requires : goal.index-kind-requires
index-kind-requires c =
    let later = kind_of-later c.args.collected.now c.loop-s.s c.first_joined-first.result c.loop-s-test.true c.first_joined-first.ensures c.if-first-s.false in
    let long : length c.loop-s.kinds.items ≡ c.loop-s.s = ap length c.loop-s.invariant.kinds ∙ kinds-length c.args.collected.now c.loop-s.s in
    let below : c.first_joined-first.result < c.loop-s.s = later.0 in
    omega arith

pub loop-s-preserved : goal.loop-s-preserved
loop-s-preserved c = elim c.if-first-s.branch [
  | then-first-s+in_ok-push w ↦
      let is_first : sort_number c.loop-s.s ≡ first_joined c.args.collected.now (sort_number c.loop-s.s) = ap sort_number (sym w.if-first-s.true) ∙ c.first_joined-first.ensures in
      let first = kind_of-first c.args.collected.now c.loop-s.s is_first in
      let more = kinds-more c.args.collected.now c.loop-s.s in
      let kind_is : sort_number c.loop-s.next ≡ kind_of c.args.collected.now (sort_number c.loop-s.s) = ap sort_number c.loop-s.invariant.next ∙ sym first.0 in
      record {
        kinds = rw (w.kinds-is, w.in_ok-push.ensures.items, c.loop-s.invariant.kinds, more, ← kind_is);
        next = rw (w.next-is, first.1) (omega arith);
      }
  | else-first-s+in_ok-push-2 w ↦
      let later = kind_of-later c.args.collected.now c.loop-s.s c.first_joined-first.result c.loop-s-test.true c.first_joined-first.ensures w.if-first-s.false in
      let more = kinds-more c.args.collected.now c.loop-s.s in
      let kind : SortId = w.index-kind.result.now in
      let read : kind ≡ get_or (map (kind_of c.args.collected.now) (first_sorts c.loop-s.s)) c.first_joined-first.result kind = w.index-kind.ensures ∙ ap (λ n. get_or c.loop-s.kinds.items n kind) w.from-else-first-s.ensures ∙ ap (λ l. get_or l c.first_joined-first.result kind) c.loop-s.invariant.kinds in
      let kind_is : kind ≡ kind_of c.args.collected.now (sort_number c.loop-s.s) = read ∙ kinds-at c.args.collected.now c.loop-s.s c.first_joined-first.result kind later.0 ∙ sym later.1 in
      record {
        kinds = rw (w.kinds-is, w.in_ok-push-2.ensures.items, c.loop-s.invariant.kinds, more, ← kind_is);
        next = rw (w.next-is, later.2) c.loop-s.invariant.next;
      }
]
