-- Choices that keep to what sorts ask are within the bounds of wheels.
use Rattle.std.proofs.Common.{◌≡◌, ◌≢◌, ℕ, ◌<◌, ◌≤◌, Bool, true, false, List, [], length, slice_index, slice_index_or, refl, sym, ap, ◌∙◌, subst, arith, AllPairs, Option, Some}
use Rattle.std.specs.Prelude.{slice_get}
use Rattle.std.specs.List.{sum_by}
use Rattle.std.proofs.lemmas.List.Elements.{All-nil}
use Rattle.std.proofs.lemmas.Option.{slice_get_within}
use Rattle.fvn_terms.specs.declared.plain.OpId.{OpId}
use Rattle.fvn_terms.specs.declared.declarations.Declarations.{Declarations}
use Rattle.fvn_lindio.specs.declared.system.Solution.{Solution}
use Rattle.fvn_lindio.specs.Systems.{vectors_of}
use Rattle.fvn_acunify.specs.ValidChoice.{chosen, column_sum, IsWithin}
use Rattle.fvn_acunify_product.specs.Wheels.{Wheel}
use Rattle.fvn_flat.specs.SolvedLists.{component}
use Rattle.fvn_combine_nodes.specs.Table.{NodeTable}
use Rattle.fvn_combine_nodes.proofs.Lists.{all_from}
use Rattle.fvn_combine_leaves.specs.Bases.{AreBases}
use Rattle.fvn_combine_leaves.specs.Leaves.{IsSumOperator}
use Rattle.fvn_combine_leaves.specs.Readings.{IsReading}
use Rattle.fvn_combine_leaves.specs.declared.reading.Sums.{Sums}
use Rattle.fvn_combine_leaves.specs.declared.reading.Reading.{Reading}
use Rattle.fvn_combine_choices.specs.Choosing.{member_count, taken}
use Rattle.fvn_combine_choices.proofs.Columns.{column_sum_is}
use Rattle.fvn_combine_admissible.specs.Listed.{systems_of, choice_of}
use Rattle.fvn_combine_bounds.specs.Narrow.{KeepsBounds}
use Rattle.fvn_combine_bounds.specs.Bounding.{AreBounds}
use Rattle.fvn_combine_candidates.specs.Laws.{SortedChoicesAreWithin}
use Rattle.fvn_combine_candidates.specs.Turning.{HasBounds}
use Rattle.fvn_combine_candidates.proofs.Entries.{entry_at, listed_at}
use Rattle.fvn_combine_candidates.proofs.Systems.{IsPlaced, operator_at, sums_at, columns_for}
use Rattle.fvn_combine_candidates.proofs.Possible.{taken_for}

module _ (d : Declarations) (t : NodeTable) (class : ℕ → ℕ) (r : Reading) (reading : IsReading d t class r) (bases : List (List Solution)) (are : AreBases r.sums bases) (tags : List (Option OpId)) (numbers : List ℕ) (numbered : length numbers ≡ length r.sums) where
  module _ (i : ℕ) (e : Sums) (is : slice_get r.sums i ≡ Some e) (w : Wheel) (over : w.basis ≡ slice_index_or bases i []) where
    abbrev placed_here : IsPlaced r e.operator
    placed_here = record { place = i; entry = e; is = is; operator = refl }

    op : IsSumOperator d t e.operator
    op = operator_at d t class r reading e (listed_at r.sums i e is)

    taken_is : taken (systems_of r bases) (choice_of r tags numbers) e.operator ≡ chosen (slice_index numbers i) (vectors_of w.basis)
    taken_is =
        taken_for d t class r reading bases are tags numbers numbered e.operator placed_here
        ∙ ap (λ (b : List Solution). chosen (slice_index numbers i) (vectors_of b)) (sym over)

    distinct : AllPairs ◌≢◌ e.columns
    distinct = (sums_at d t class r reading i e is).is_system.distinct

    -- what is taken of a class is the sum of its column
    counted : (j : ℕ) → j < length e.columns → member_count (systems_of r bases) (choice_of r tags numbers) e.operator (slice_index e.columns j) ≡ column_sum j (chosen (slice_index numbers i) (vectors_of w.basis))
    counted j l =
        ap (λ cs. sum_by (λ v. component cs v (slice_index e.columns j)) (taken (systems_of r bases) (choice_of r tags numbers) e.operator)) (columns_for d t class r reading e.operator placed_here)
        ∙ ap (λ vs. sum_by (λ v. component e.columns v (slice_index e.columns j)) vs) taken_is
        ∙ column_sum_is e.columns distinct j l (chosen (slice_index numbers i) (vectors_of w.basis))

    within_sorted : AreBounds d t class e w.bounds → KeepsBounds d t class (systems_of r bases) (choice_of r tags numbers) → IsWithin w.bounds (vectors_of w.basis) (slice_index numbers i)
    within_sorted b keeps = record {
      most = all_from (λ j. column_sum j (chosen (slice_index numbers i) (vectors_of w.basis)) ≤ 1) w.bounds.at_most_one (λ j m.
          let h = (b.most j).0 m in
          let few = keeps.once e.operator op h.1.2 (slice_index e.columns j) h.1.0 h.1.1 in
          let same = counted j h.0 in
          omega (arith, few, same));
      least = all_from (λ j. 0 < column_sum j (chosen (slice_index numbers i) (vectors_of w.basis))) w.bounds.at_least_one (λ j m.
          let h = (b.least j).0 m in
          let above = keeps.some e.operator op (slice_index e.columns j) h.1.0 h.1.1 in
          let same = counted j h.0 in
          omega (arith, above, same));
    }

    pub within_here : (sorted : Bool) → HasBounds d t class sorted e w.bounds → (sorted ≡ true → KeepsBounds d t class (systems_of r bases) (choice_of r tags numbers)) → IsWithin w.bounds (vectors_of w.basis) (slice_index numbers i)
    within_here sorted bounds keeps = go sorted refl
      where
        go : (b : Bool) → sorted ≡ b → IsWithin w.bounds (vectors_of w.basis) (slice_index numbers i)
        go true s = within_sorted (bounds.heeded s) (keeps s)
        go false s = subst (λ bs. IsWithin bs (vectors_of w.basis) (slice_index numbers i)) (sym (bounds.none s)) record {
          most = All-nil (λ j. column_sum j (chosen (slice_index numbers i) (vectors_of w.basis)) ≤ 1);
          least = All-nil (λ j. 0 < column_sum j (chosen (slice_index numbers i) (vectors_of w.basis)));
        }

pub sorted_within : SortedChoicesAreWithin
sorted_within d t class r reading bases are tags wheels are_wheels sorted bounds numbers numbered keeps i w is =
    let l = slice_get_within wheels i w is in
    let e = entry_at r.sums i (let m = are_wheels.as_many in omega (arith, l, m)) in
    within_here d t class r reading bases are tags numbers numbered i e.0 e.1 w (are_wheels.each i e.0 w e.1 is).over sorted (bounds i e.0 w e.1 is) keeps
