-- How often solutions are taken, and how many pieces are laid out for them.
use Rattle.std.proofs.Common.{◌≡◌, ℕ, zero, suc, ◌<◌, ◌≤◌, List, [], ◌∷◌, ◌++◌, length, refl, sym, ap, ◌∙◌, ◌⊎◌, inl, inr, Some, arith, slice_index_or}
use Rattle.std.specs.List.{sum_by}
use Rattle.std.proofs.lemmas.List.{length-append}
use Rattle.std.proofs.lemmas.List.Sums.{sum_by-cons}
use Rattle.fvn_terms.specs.declared.plain.OpId.{OpId}
use Rattle.fvn_terms.specs.declared.declarations.Declarations.{Declarations}
use Rattle.fvn_terms.specs.Signature.{axioms}
use Rattle.fvn_terms.specs.Equality.{identity}
use Rattle.fvn_forms.specs.Flat.{FlatTerm}
use Rattle.fvn_forms.specs.InOrder.{SameCounts}
use Rattle.fvn_forms.specs.Canon.{parts}
use Rattle.fvn_forms.proofs.InOrder.{sort_same_counts, length_sort}
use Rattle.fvn_flat.specs.SolvedLists.{component}
use Rattle.fvn_combine_nodes.specs.Table.{NodeTable}
use Rattle.fvn_combine_complete.specs.CombineChoicesChoosing.{Systems, taken, member_count}
use Rattle.fvn_combine_complete.specs.LaidOut.{copies, laid_for}
use Rattle.fvn_combine_complete.specs.Neutral.{IsNeutral}
use Rattle.fvn_combine_complete.specs.Vanishing.{TakesIdentity, MayVanish}
use Rattle.fvn_combine_bounds.specs.Laws.{TakenSolutionsStandForSummands}

same_length : (l m : List FlatTerm) → SameCounts l m → length l ≡ length m
same_length l m h = sym (length_sort l) ∙ ap length (sort_same_counts l m h) ∙ length_sort m

nothing : (l : List FlatTerm) → length l ≡ 0 → l ≡ []
nothing [] e = refl
nothing (t ∷ ts) e = absurd (omega (arith, e))

-- so many copies of a list with a member have so many members or more
copies_longer : (n : ℕ) (t : FlatTerm) (ts : List FlatTerm) → n ≤ length (copies n (t ∷ ts))
copies_longer zero t ts = omega arith
copies_longer (suc n) t ts =
    let a = length-append (t ∷ ts) (copies n (t ∷ ts)) in
    let b = copies_longer n t ts in
    omega (arith, a, b)

module _ (columns : List ℕ) (k : ℕ) where
  -- where solutions without pieces do not have the class, all together have it no more often than pieces are laid out for it
  laid_longer : (vs : List (List ℕ)) (zs : List (List FlatTerm)) → length zs ≡ length vs → ((i : ℕ) → i < length vs → slice_index_or zs i [] ≡ [] → component columns (slice_index_or vs i []) k ≡ 0) → sum_by (λ v. component columns v k) vs ≤ length (laid_for columns k vs zs)
  laid_longer [] zs e some = omega arith
  laid_longer (v ∷ vs) [] e some = absurd (omega (arith, e))
  laid_longer (v ∷ vs) ([] ∷ zs) e some =
      let s = sum_by-cons (λ w. component columns w k) v vs in
      let here : component columns v k ≡ 0 = some 0 (omega arith) refl in
      let a = length-append (copies (component columns v k) []) (laid_for columns k vs zs) in
      let r = laid_longer vs zs (omega (arith, e)) (λ i l n. some (suc i) (omega (arith, l)) n) in
      omega (arith, s, here, a, r)
  laid_longer (v ∷ vs) ((t ∷ ts) ∷ zs) e some =
      let s = sum_by-cons (λ w. component columns w k) v vs in
      let a = length-append (copies (component columns v k) (t ∷ ts)) (laid_for columns k vs zs) in
      let b = copies_longer (component columns v k) t ts in
      let r = laid_longer vs zs (omega (arith, e)) (λ i l n. some (suc i) (omega (arith, l)) n) in
      omega (arith, s, a, b, r)

  -- for a class that no solution has nothing is laid out
  none_laid : (vs : List (List ℕ)) (zs : List (List FlatTerm)) → sum_by (λ v. component columns v k) vs ≡ 0 → laid_for columns k vs zs ≡ []
  none_laid [] zs e = refl
  none_laid (v ∷ vs) [] e = refl
  none_laid (v ∷ vs) (z ∷ zs) e =
      let s = sum_by-cons (λ w. component columns w k) v vs in
      let here : component columns v k ≡ 0 = omega (arith, s, e) in
      let later : sum_by (λ v. component columns v k) vs ≡ 0 = omega (arith, s, e) in
      ap (λ n. copies n z ++ laid_for columns k vs zs) here ∙ none_laid vs zs later

zero_or_more : (n : ℕ) → (n ≡ 0) ⊎ (0 < n)
zero_or_more zero = inl refl
zero_or_more (suc n) = inr (omega arith)

-- a solution that may stand for the identity has no class that does not take it, where the operator is not neutral
never : (d : Declarations) (t : NodeTable) (class : ℕ → ℕ) (y : Systems) (f : OpId) (k : ℕ) → (IsNeutral d f → ⊥)
    → ((unit : OpId) → identity (axioms d f) ≡ Some unit → TakesIdentity d t class f unit k → ⊥)
    → (v : List ℕ) → MayVanish d t class f (y.columns f) v → component (y.columns f) v k ≡ 0
never d t class y f k not_neutral takes v vanish = elim (zero_or_more (component (y.columns f) v k)) [
  | inl none ↦ none
  | inr more ↦ elim (vanish.each k more) [
    | inl neutral ↦ absurd (not_neutral neutral)
    | inr takes_it ↦ absurd (takes vanish.unit vanish.is_identity takes_it)
  ]
]

pub taken_for_summands : TakenSolutionsStandForSummands
taken_for_summands d t class y c values obeying = record {
  within = λ f sum not_neutral k used takes.
      let made = obeying.made_of f sum in
      let same = same_length (parts d f (values k)) (laid_for (y.columns f) k (taken y c f) (obeying.pieces f)) (made.made k used) in
      let long = laid_longer (y.columns f) k (taken y c f) (obeying.pieces f) made.as_many
      (λ i l e. never d t class y f k not_neutral takes (slice_index_or (taken y c f) i []) (made.some i l e)) in
      omega (arith, same, long);
  some = λ f sum k used some.
      let made = obeying.made_of f sum in
      elim (zero_or_more (member_count y c f k)) [
        | inl none ↦
            let laid = none_laid (y.columns f) k (taken y c f) (obeying.pieces f) none in
            let same = same_length (parts d f (values k)) (laid_for (y.columns f) k (taken y c f) (obeying.pieces f)) (made.made k used) ∙ ap length laid in
            absurd (some (nothing (parts d f (values k)) same))
        | inr more ↦ more
      ];
}
