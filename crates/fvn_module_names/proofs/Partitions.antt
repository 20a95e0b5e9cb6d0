-- Classes in which all pairs of statements are joined are those that the order joins.
use Rattle.std.proofs.Common.{◌≡◌, ℕ, ◌<◌, true, List, [], ◌∷◌, length, map, refl, sym, ap, subst, ◌∙◌, inl, inr, arith, nat_eq}
use Rattle.std.specs.List.{Contains, range_with_len, flat_map}
use Rattle.std.proofs.lemmas.Bool.{eqb-true, eq-eqb, and_parts}
use Rattle.std.proofs.lemmas.List.FromFn.{length-range_with_len, get_or-range_with_len}
use Rattle.std.proofs.lemmas.List.Elements.{All-contains, All-contains_itself, All-weaker, Contains-append_cases}
use Rattle.fvn_terms.specs.declared.plain.SortId.{SortId}
use Rattle.fvn_base.proofs.Membership.{map_contains}
use Rattle.fvn_forms.specs.SortOrder.{sort_number, same_sort}
use Rattle.fvn_forms.proofs.SortTests.{same_sort-true, reaches-sound}
use Rattle.fvn_signature.proofs.FirstSorts.{same_tests}
use Rattle.fvn_signature_draft.specs.Collected.{both_ways, turned, joins}
use Rattle.fvn_syntax.specs.Pieces.{Text}
use Rattle.fvn_module_syntax.specs.declared.statement.Statement.{Statement}
use Rattle.fvn_module_names.specs.Order.{same_pair, with_all, pairs_in, with_pairs, ordered}
use Rattle.fvn_module_names.specs.inner.Classes.{label, AreAlike}
use Rattle.fvn_module_names.specs.inner.Joining.{AreLinked, AreSound, IsJoinedBy}
use Rattle.fvn_module_names.specs.inner.Numbering.{HasLabels}
use Rattle.fvn_module_names.proofs.Links.{linked-self, linked-pair}
use Rattle.fvn_module_names.proofs.NewLists.{with_all-append, contains_with_all, with_all_contains}

pub same_pair-true : (p q : SortId × SortId) → same_pair p q ≡ true → p ≡ q
same_pair-true p q e =
    let r = and_parts (same_sort p.0 q.0) (same_sort p.1 q.1) e in
    let one : p.0 ≡ q.0 = same_sort-true p.0 q.0 r.0 in
    let other : p.1 ≡ q.1 = same_sort-true p.1 q.1 r.1 in
    ap (λ (s : SortId). (s, p.1)) one ∙ ap (λ (s : SortId). (q.0, s)) other

module _ (sorts : List Text) where
  -- all pairs that statements declare, one after the other
  abbrev pub all_pairs : List Statement → List (SortId × SortId)
  all_pairs = flat_map (pairs_in sorts)

  pub with_pairs-all : (ps : List (SortId × SortId)) (sts : List Statement) → with_pairs sorts ps sts ≡ with_all same_pair ps (all_pairs sts)
  with_pairs-all ps [] = refl
  with_pairs-all ps (st ∷ sts) =
      with_pairs-all (with_all same_pair ps (pairs_in sorts st)) sts
      ∙ sym (with_all-append same_pair ps (pairs_in sorts st) (all_pairs sts))

  module _ (sts : List Statement) where
    pair_below : (p : SortId × SortId) → Contains (all_pairs sts) p → Contains (with_pairs sorts [] sts) p
    pair_below p h = subst (λ ps. Contains ps p) (sym (with_pairs-all [] sts)) (with_all_contains same_pair same_pair-true [] (all_pairs sts) p h)

    below_pair : (p : SortId × SortId) → Contains (with_pairs sorts [] sts) p → Contains (all_pairs sts) p
    below_pair p h = elim (contains_with_all same_pair [] (all_pairs sts) p (subst (λ ps. Contains ps p) (with_pairs-all [] sts) h)) [
      | inl (k, l, e) ↦ absurd (omega arith)
      | inr k ↦ k
    ]

    module _ (labels : List ℕ) (h : IsJoinedBy (range_with_len 0 (length sorts)) labels (all_pairs sts)) where
      as_many : length labels ≡ length sorts
      as_many = h.as_long ∙ length-range_with_len 0 (length sorts)

      apart : AreSound (with_pairs sorts [] sts) (range_with_len 0 (length sorts))
      apart i j li lj e =
          let long = length-range_with_len 0 (length sorts) in
          let one = get_or-range_with_len 0 (length sorts) i 0 (omega arith) in
          let other = get_or-range_with_len 0 (length sorts) j 0 (omega arith) in
          let is : i ≡ j = omega arith in
          subst (λ k. AreLinked (with_pairs sorts [] sts) (sort_number i) (sort_number k)) is (linked-self (with_pairs sorts [] sts) (sort_number i))

      sound : AreSound (with_pairs sorts [] sts) labels
      sound = h.sound (with_pairs sorts [] sts) apart
          (All-weaker (Contains (all_pairs sts)) (λ p. AreLinked (with_pairs sorts [] sts) p.0 p.1) (λ p c. linked-pair (with_pairs sorts [] sts) p.0 p.1 (pair_below p c)) (all_pairs sts) (All-contains_itself (all_pairs sts)))

      alike : (s q : SortId) → Contains (with_pairs sorts [] sts) (s, q) → label labels s.0 ≡ label labels q.0
      alike s q c = All-contains (λ p. AreAlike labels p.0.0 p.1.0) (all_pairs sts) (s, q) h.joined (below_pair (s, q) c)

      complete : (s q : SortId) → AreLinked (with_pairs sorts [] sts) s q → label labels s.0 ≡ label labels q.0
      complete = reaches-sound (λ s q. label labels s.0 ≡ label labels q.0) (λ s. refl) (λ s q r e f. e ∙ f) (both_ways (with_pairs sorts [] sts)) either where
        either : (s q : SortId) → Contains (both_ways (with_pairs sorts [] sts)) (s, q) → label labels s.0 ≡ label labels q.0
        either s q c = elim (Contains-append_cases (with_pairs sorts [] sts) (map turned (with_pairs sorts [] sts)) (s, q) c) [
          | inl k ↦ alike s q k
          | inr k ↦ let w = map_contains turned (with_pairs sorts [] sts) (s, q) k in sym (alike q s (subst (Contains (with_pairs sorts [] sts)) (ap turned w.1.1) w.1.0))
        ]

      pub partition : HasLabels (ordered sorts sts) labels
      partition = record { as_many = as_many; exact = exact } where
        exact : (i j : ℕ) → i < length sorts → j < length sorts → joins (ordered sorts sts) (sort_number i) (sort_number j) ≡ nat_eq (label labels i) (label labels j)
        exact i j li lj = same_tests (joins (ordered sorts sts) (sort_number i) (sort_number j)) (nat_eq (label labels i) (label labels j))
            (λ e. eq-eqb (label labels i) (label labels j) (complete (sort_number i) (sort_number j) e))
            (λ e. sound i j (let k = as_many in omega arith) (let k = as_many in omega arith) (eqb-true (label labels i) (label labels j) e))
