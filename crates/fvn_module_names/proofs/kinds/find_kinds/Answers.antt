-- The kinds of the sorts, and then the kinds.
use Rattle.std.proofs.Common.{◌≡◌, ◌<◌, ◌≤◌, ◌+◌, ◌-◌, ◌++◌, ℕ, map, length, sym, ap, subst, ◌∙◌, arith}
use Rattle.std.specs.List.{All, range_with_len}
use Rattle.std.proofs.lemmas.List.{append-nil, append_assoc, map-append, length-map, length-append}
use Rattle.std.proofs.lemmas.List.Elements.{All-push}
use Rattle.std.proofs.lemmas.List.FromFn.{map-range_with_len_more, length-map-range_with_len}
use Rattle.fvn_forms.specs.SortOrder.{sort_number}
use Rattle.fvn_signature.specs.FirstSorts.{first_sorts}
use Rattle.fvn_signature_draft.specs.declared.collected.Collected.{Collected}
use Rattle.fvn_signature_draft.specs.Collected.{kind_of, parts_before, kinds}
use Rattle.fvn_signature_draft.proofs.Parts.{parts_before-le, kinds-length}
use Rattle.fvn_module_names.specs.Order.{ordered}
use Rattle.fvn_module_names.specs.inner.Numbering.{IsNumbered}
use Rattle.fvn_module_names.proofs.kinds.find_kinds.Goals as goal
use Rattle.fvn_module_names.proofs.kinds.find_kinds.Goals.{In_ok-kinds, After-drop-classes-inside-3}

numbered : (c : In_ok-kinds) → IsNumbered (ordered c.args.sorts.now c.args.statements.now) c.in_ok-kinds.field-0.kinds.items c.in_ok-kinds.field-0.next (length c.args.sorts.now)
numbered c = c.in_ok-kinds.ensures (ordered c.args.sorts.now c.args.statements.now) (rw c.labels.ensures.exact c.in_ok-classes.ensures)

pub loop-kind-init : goal.loop-kind-init
loop-kind-init c =
    let is = numbered (goal.at.loop-kind-init c).In_ok-kinds in
    let none : c.len-kind.result - length c.args.sorts.now ≡ 0 = (let e = c.len-kind.ensures.exact in omega arith) in
    record { numbers = rw (none, append-nil) is.numbers; below = is.below }

pub loop-kind-preserved : goal.loop-kind-preserved
loop-kind-preserved c =
    let n : ℕ = length c.args.sorts.now in
    let from : n ≤ c.loop-kind.kind = (let a = c.loop-kind.auto.kind in let e = c.len-kind.ensures.exact in omega arith) in
    let at : n + (c.loop-kind.kind - n) ≡ c.loop-kind.kind = omega arith in
    let count : c.loop-kind.kind + 1 - n ≡ (c.loop-kind.kind - n) + 1 = omega arith in
    let more = map-range_with_len_more sort_number n (c.loop-kind.kind - n) c.loop-kind.kind at in
    record {
      numbers = rw (c.in_ok-push.ensures.items, map-append, c.loop-kind.invariant.numbers, count, more, append_assoc);
      below = rw c.in_ok-push.ensures.items (All-push (λ k. k < c.in_ok-kinds.field-0.next) c.loop-kind.kinds.items c.loop-kind.kind c.loop-kind.invariant.below c.loop-kind-test.true);
    }

module _ (c : After-drop-classes-inside-3) (is : IsNumbered (ordered c.args.sorts.now c.args.statements.now) c.in_ok-kinds.field-0.kinds.items c.in_ok-kinds.field-0.next (length c.args.sorts.now)) where
  last : c.loop-kind.kind ≡ c.in_ok-kinds.field-0.next
  last = let f = is.following in let t = c.loop-kind-test.false in let e = c.loop-kind.auto.kind-end in let l = c.len-kind.ensures.exact in omega arith

  long : length c.loop-kind.kinds.items ≡ c.in_ok-kinds.field-0.next
  long =
      let o : Collected = ordered c.args.sorts.now c.args.statements.now in
      let n : ℕ = length c.args.sorts.now in
      let f = is.following in
      let e = last in
      let one = kinds-length o n in
      let other = length-map-range_with_len sort_number n (c.loop-kind.kind - n) in
      let both = length-append (map (kind_of o) (first_sorts n)) (map sort_number (range_with_len n (c.loop-kind.kind - n))) in
      let all : length (map sort_number c.loop-kind.kinds.items) ≡ length (map (kind_of o) (first_sorts n) ++ map sort_number (range_with_len n (c.loop-kind.kind - n))) = ap length c.loop-kind.invariant.numbers in
      let mapped = length-map c.loop-kind.kinds.items sort_number in
      omega arith

pub returns-clause-kinds : goal.returns-clause-kinds
unfolding kinds
returns-clause-kinds c =
    let n : ℕ = length c.args.sorts.now in
    let is = numbered (goal.at.returns-clause-kinds c).In_ok-kinds in
    let count : c.loop-kind.kind - n ≡ parts_before (ordered c.args.sorts.now c.args.statements.now) n = (let f = is.following in let e = last c is in omega arith) in
    c.loop-kind.invariant.numbers ∙ ap (λ k. map (kind_of (ordered c.args.sorts.now c.args.statements.now)) (first_sorts n) ++ map sort_number (range_with_len n k)) count

pub returns-clause-in_range : goal.returns-clause-in_range
returns-clause-in_range c =
    let e = long c (numbered (goal.at.returns-clause-in_range c).In_ok-kinds) in
    subst (λ m. All (λ k. k < m) c.loop-kind.kinds.items) (sym e) c.loop-kind.invariant.below

pub returns-clause-sorts : goal.returns-clause-sorts
returns-clause-sorts c =
    let is = numbered (goal.at.returns-clause-sorts c).In_ok-kinds in
    let e = long c is in let f = is.following in omega arith

pub returns-clause-few : goal.returns-clause-few
returns-clause-few c =
    let is = numbered (goal.at.returns-clause-few c).In_ok-kinds in
    let e = long c is in
    let f = is.following in
    let few = parts_before-le (ordered c.args.sorts.now c.args.statements.now) (length c.args.sorts.now) in
    omega arith
