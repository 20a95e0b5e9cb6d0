-- The search goes on, or has found the first sorts without a least result.
use Rattle.std.proofs.Common.{◌≡◌, ◌<◌, ◌-◌, List, length, get_or, take, drop, sym, subst, ◌∙◌, arith}
use Rattle.std.proofs.lemmas.Bool.{not-false}
use Rattle.std.proofs.lemmas.List.{get_or_default, take_rest}
use Rattle.fvn_terms.specs.declared.plain.SortId.{SortId}
use Rattle.fvn_forms.specs.SortOrder.{sort_number}
use Rattle.fvn_forms.proofs.SortTests.{same_sort-true}
use Rattle.fvn_sorts.specs.inner.Searches.{IsFirstList, the_list, HasNoLowest}
use Rattle.fvn_sorts.proofs.LowestResults.{NoneBefore, first_found, none_found, none_at_end, nil}
use Rattle.fvn_signature.proofs.FirstSorts.{positive}
use Rattle.fvn_sorts.proofs.conditions.preregular.+first_without.Goals as goal

pub returns-then-is_empty : goal.returns-then-is_empty
returns-then-is_empty t c = subst (λ l. IsFirstList the_list (HasNoLowest c.args.draft.now.declarations l c.args.ranks.now) c.at_the_end.result) (sym (nil c.args.kinds.now c.if-is_empty.ensures)) c.at_the_end.ensures

pub returns-in-Some : goal.returns-in-Some
returns-in-Some t c =
    let ks : List SortId = c.args.kinds.now in
    let s : SortId = sort_number c.loop-s.s in
    let some : 0 < length ks = positive (length ks) c.if-is_empty.ensures in
    let of_kind = sym c.kind.ensures ∙ same_sort-true c.kind.result (get_or ks 0 (sort_number 0)) (not-false _ (sym c.if-ne.ensures)) ∙ get_or_default ks 0 (sort_number 0) s some in
    rw c.in_ok-preceded-in-Some.ensures (first_found c.args.draft.now.declarations ks c.args.ranks.now some c.loop-s.s (take (length ks - 1) (drop 1 ks)) c.as_slice.result.now (take_rest ks 1) (c.as_slice.ensures.value ∙ c.in_ok-rest.ensures) c.in_ok-list.field-0 c.in-Some.list c.in-Some.is c.in_ok-list.ensures of_kind c.loop-s.invariant)

pub loop-s-preserved : goal.loop-s-preserved
loop-s-preserved t c =
    let ks : List SortId = c.args.kinds.now in
    let some : 0 < length ks = positive (length ks) c.if-is_empty.ensures in
    none_found c.args.draft.now.declarations ks c.args.ranks.now some c.loop-s.s (take (length ks - 1) (drop 1 ks)) c.as_slice.result.now (take_rest ks 1) (c.as_slice.ensures.value ∙ c.in_ok-rest.ensures) c.in_ok-list.field-0 c.in-None.is c.in_ok-list.ensures c.loop-s.invariant

pub returns : goal.returns
returns t c =
    let d = c.args.draft.now.declarations in
    let ks : List SortId = c.args.kinds.now in
    let some : 0 < length ks = positive (length ks) c.if-is_empty.ensures in
    let at_end : c.loop-s.s ≡ c.args.draft.now.total = omega arith in
    none_at_end d ks c.args.ranks.now some c.args.draft.now.sound.kinded c.args.draft.now.total c.args.draft.now.sound.total c.requires.listed (subst (NoneBefore d ks c.args.ranks.now) at_end c.loop-s.invariant)
