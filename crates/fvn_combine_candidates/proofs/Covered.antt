-- Choices that cover a unifier, by lists.
use Rattle.std.proofs.Common.{◌≡◌, ℕ, Bool, true, List, length, map, sym, ap, ◌∙◌, subst, Option, Some}
use Rattle.std.specs.List.{AllZip}
use Rattle.std.proofs.lemmas.List.{get_or-map, length-map}
use Rattle.std.proofs.lemmas.Option.{slice_get_within, get_or_from_slice_get}
use Rattle.fvn_terms.specs.declared.plain.OpId.{OpId}
use Rattle.fvn_terms.specs.declared.declarations.Declarations.{Declarations}
use Rattle.fvn_terms.specs.Substitution.{Substitution}
use Rattle.fvn_terms.specs.Unifiers.{Problem}
use Rattle.fvn_combine_nodes.specs.Table.{NodeTable}
use Rattle.fvn_combine_nodes.specs.States.{class_of}
use Rattle.fvn_combine_nodes.specs.declared.state.State.{State}
use Rattle.fvn_combine_leaves.specs.Leaves.{IsSumOperator, IsShared}
use Rattle.fvn_combine_leaves.specs.Readings.{IsReading}
use Rattle.fvn_combine_leaves.specs.declared.reading.Sums.{Sums}
use Rattle.fvn_combine_leaves.specs.declared.reading.Reading.{Reading}
use Rattle.fvn_combine_choices.specs.Choosing.{Systems, Choice}
use Rattle.fvn_combine_admissible.specs.Listed.{at_operator, choice_of, tag_in}
use Rattle.fvn_combine_complete.specs.CoveringChoices.{IsCovering}
use Rattle.fvn_combine_bounds.specs.Narrow.{KeepsBounds}
use Rattle.fvn_acunify_product.specs.Tags.{IsOption}
use Rattle.fvn_combine_candidates.specs.declared.sharing.SharedClass.{SharedClass}
use Rattle.fvn_combine_candidates.specs.Sharing.{MayBeSum, AreSharedClasses}
use Rattle.fvn_combine_candidates.specs.Tags.{tag_counts, AreTags}
use Rattle.fvn_combine_candidates.proofs.Systems.{placed, for_operator}
use Rattle.fvn_combine_candidates.proofs.Tagged.{tags_have_numbers}
use Rattle.fvn_combine_candidates.proofs.Alike.{covering_to, bounds_to}

module _ (d : Declarations) (t : NodeTable) (class : ℕ → ℕ) (r : Reading) (reading : IsReading d t class r) (number : OpId → ℕ) where
  -- the number of each sum operator, in the order of the reading
  abbrev pub numbers_for : List ℕ
  numbers_for = map (λ e. number e.operator) r.sums

  pub listed_number : (f : OpId) → IsSumOperator d t f → number f ≡ at_operator 0 r.sums numbers_for f
  listed_number f op =
      let p = placed d t class r reading f op in
      sym (
      for_operator d t class r reading f p 0 numbers_for (length-map r.sums (λ (e : Sums). number e.operator))
      ∙ get_or-map (λ (e : Sums). number e.operator) r.sums p.place p.entry 0 (slice_get_within r.sums p.place p.entry p.is)
      ∙ ap (λ (e : Sums). number e.operator) (get_or_from_slice_get r.sums p.place p.entry p.entry p.is)
      ∙ ap number p.operator
      )

pub covering_listed : (d : Declarations) (problem : Problem) (t : NodeTable) (s : State) (r : Reading) → IsReading d t (class_of s) r
    → (sorted : Bool) (shared : List SharedClass) → AreSharedClasses d t (class_of s) sorted shared
    → (y : Systems) (u : Substitution) (c : Choice) → IsCovering d problem t s y u c → (sorted ≡ true → KeepsBounds d t (class_of s) y c)
    → (options : List ℕ) × (numbers : List ℕ) × AllZip IsOption (tag_counts shared) options × (length numbers ≡ length r.sums)
    × ((tags : List (Option OpId)) → AreTags shared options tags → IsCovering d problem t s y u (choice_of r tags numbers)
    × (sorted ≡ true → KeepsBounds d t (class_of s) y (choice_of r tags numbers)) × ((k : ℕ) → tag_in tags k ≡ c.tag k))
covering_listed d problem t s r reading sorted shared are y u c h keeps =
    let may : (k : ℕ) (f : OpId) → c.tag k ≡ Some f → IsShared d t (class_of s) k × MayBeSum d t (class_of s) sorted f k =
    λ k f e. let u = h.possible.tags k f e in (u.0, (u.1, λ heeded narrow never. (keeps heeded).untagged f k u.0 u.1 narrow never e)) in
    let n = tags_have_numbers d t (class_of s) sorted c.tag may shared are in
    let numbers = numbers_for d t (class_of s) r reading c.number in
    let moved = covering_to d problem t s y u c.tag c.number (at_operator 0 r.sums numbers) (listed_number d t (class_of s) r reading c.number) h in (
      n.numbers,
      numbers,
      n.options,
      length-map r.sums (λ (e : Sums). c.number e.operator),
      λ tags are_tags.
          let same : c.tag ≡ tag_in tags = λ i k. (sym (are_tags k ∙ n.are k)) i in (
            subst (λ tag. IsCovering d problem t s y u (record { tag = tag; number = at_operator 0 r.sums numbers })) same moved,
            λ heeded. subst (λ tag. KeepsBounds d t (class_of s) y (record { tag = tag; number = at_operator 0 r.sums numbers })) same
                (bounds_to d t (class_of s) y c.tag c.number (at_operator 0 r.sums numbers) (listed_number d t (class_of s) r reading c.number) (keeps heeded)),
            λ k. are_tags k ∙ n.are k,
          ),
    )
