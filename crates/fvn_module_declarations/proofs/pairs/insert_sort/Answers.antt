-- A number is added where it is new.
use Rattle.std.proofs.Common.{◌≡◌, map, [], ◌∷◌, ◌++◌, true, false, List, sym, ap, ◌∙◌, nat_eq}
use Rattle.std.specs.List.{list_any}
use Rattle.std.proofs.lemmas.Bool.{cond-true, cond-false}
use Rattle.std.proofs.lemmas.List.{map-append}
use Rattle.fvn_terms.specs.declared.plain.SortId.{SortId}
use Rattle.fvn_forms.specs.SortOrder.{sort_number, same_sort}
use Rattle.fvn_module_declarations.proofs.DistinctLists.{any_number}
use Rattle.fvn_module_declarations.proofs.pairs.insert_sort.Goals as goal
use Rattle.fvn_module_declarations.proofs.pairs.insert_sort.Goals.{After-contains}

is_there : (c : After-contains) → list_any (same_sort (sort_number c.in-Some.i)) (map sort_number c.args.distinct.now.items) ≡ c.contains.result
is_there c = any_number c.in-Some.i c.args.distinct.now.items ∙ ap (list_any (λ y. nat_eq y c.in-Some.i)) (sym c.as_slice.ensures.value) ∙ sym c.contains.ensures.value

pub returns-in_ok-push : goal.returns-in_ok-push
returns-in_ok-push c =
    let old : List SortId = map sort_number c.args.distinct.now.items in
    let new : list_any (same_sort (sort_number c.in-Some.i)) old ≡ false = is_there (goal.at.returns-in_ok-push c).After-contains ∙ c.if-not-contains.true in
    rw c.in-Some.is (ap (map sort_number) c.in_ok-push.ensures.items ∙ map-append sort_number c.args.distinct.now.items (c.in-Some.i ∷ [])
    ∙ sym (cond-false (list_any (same_sort (sort_number c.in-Some.i)) old) old (old ++ sort_number c.in-Some.i ∷ []) new))

pub returns-else-not-contains : goal.returns-else-not-contains
returns-else-not-contains c =
    let old : List SortId = map sort_number c.args.distinct.now.items in
    let there : list_any (same_sort (sort_number c.in-Some.i)) old ≡ true = is_there (goal.at.returns-else-not-contains c).After-contains ∙ c.if-not-contains.false in
    rw c.in-Some.is (sym (cond-true (list_any (same_sort (sort_number c.in-Some.i)) old) old (old ++ sort_number c.in-Some.i ∷ []) there))
