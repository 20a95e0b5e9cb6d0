-- The number of each sort is small.
use Rattle.std.proofs.Common.{ℕ, ◌<◌, ◌≤◌, List, map, length, get_or, sym, subst, arith}
use Rattle.std.specs.List.{All}
use Rattle.std.proofs.lemmas.List.{length-map, get_or-map}
use Rattle.fvn_terms.specs.declared.plain.SortId.{SortId}
use Rattle.fvn_forms.specs.SortOrder.{sort_number}
use Rattle.fvn_syntax.specs.declared.names.Variables.{Variables}
use Rattle.fvn_module_names.proofs.variables.VariableTable.into_variables.Goals as goal

-- numbers of sorts that are small are small
small_numbers : (numbers : List ℕ) → All (λ (s : SortId). s.0 ≤ 65535) (map sort_number numbers) → (i : ℕ) → i < length numbers → get_or numbers i 0 ≤ 65535
small_numbers numbers small i within =
    let long = length-map numbers sort_number in
    subst (λ (s : SortId). s.0 ≤ 65535) (get_or-map sort_number numbers i 0 (sort_number 0) within) (small i (sort_number 0) (omega arith))

pub overflow_cast-number : goal.overflow_cast-number
overflow_cast-number c =
    let small = subst (λ (x : Variables). All (λ (s : SortId). s.0 ≤ 65535) x.sorts) (sym c.self.view_is) c.requires in
    let all = subst (λ ns. All (λ (s : SortId). s.0 ≤ 65535) (map sort_number ns)) (sym c.as_slice-number-items.ensures.value) small in
    let here = small_numbers c.as_slice-number-items.result.now all c.loop-number.number-index c.loop-number-test.true in
    omega (arith, here)
