-- The kinds of what was collected are the parts that its order joins, and each has a sort.
use Rattle.std.proofs.Common.{◌≡◌, ℕ, zero, suc, ◌+◌, ◌-◌, ◌<◌, ◌≤◌, ◌↔◌, Bool, true, false, List, map, length, refl, sym, ap, subst, ◌∙◌, ◌⊎◌, inl, inr, arith}
use Rattle.std.specs.List.{Contains}
use Rattle.std.specs.Prelude.{cond}
use Rattle.std.proofs.lemmas.Bool.{cases_lt, cases_order}
use Rattle.std.proofs.lemmas.List.Elements.{Contains-append_left, Contains-append_cases}
use Rattle.fvn_terms.specs.declared.plain.SortId.{SortId}
use Rattle.fvn_terms.specs.declared.plain.OpId.{OpId}
use Rattle.fvn_terms.specs.declared.declarations.Rank.{Rank}
use Rattle.fvn_terms.specs.declared.declarations.OpDecl.{OpDecl}
use Rattle.fvn_terms.specs.Signature.{kind, declared, IsSort}
use Rattle.fvn_forms.specs.SortOrder.{sort_number, reaches}
use Rattle.fvn_base.proofs.Membership.{map_contains, contains_map, contains_filter}
use Rattle.fvn_forms.proofs.SortTests.{same_sort-true, reaches-self, reaches-trans, reaches-one, reaches-sound}
use Rattle.fvn_signature.specs.Joined.{Joined, there, upward, downward}
use Rattle.fvn_signature.specs.Queries.{IsKind, IsCompleted}
use Rattle.fvn_signature_draft.specs.declared.collected.Collected.{Collected}
use Rattle.fvn_signature_draft.specs.Collected.{IsClosed, turned, both_ways, joins, first_joined, is_first, parts_before, kind_of, same_op, declarations_of, rank_meant, completed}
use Rattle.fvn_signature_draft.proofs.Parts.{both_ways-turned, joins-trans, joins-sym, first_joined-at, parts_before-more}
use Rattle.fvn_signature_draft.proofs.Operators.{operators-long, same_op-self}
use Rattle.fvn_signature_draft.proofs.CompletedKinds.{declared-is, kinds-long, kind-sort, kind-own, kind-listed, kind_of-range, kind_of-joined, parts_before-less, first_joined-is_first}

module _ (ps : List (SortId × SortId)) where
  Joined-trans : {s q r : SortId} → Joined ps s q → Joined ps q r → Joined ps s r
  Joined-trans there k = k
  Joined-trans (upward c h) k = upward c (Joined-trans h k)
  Joined-trans (downward c h) k = downward c (Joined-trans h k)

  -- the test of being joined
  pub reaches-joined : (s q : SortId) → reaches (both_ways ps) s q ≡ true → Joined ps s q
  reaches-joined = reaches-sound (Joined ps) (λ s. there) (λ s q r. Joined-trans) (both_ways ps) each where
    each : (s q : SortId) → Contains (both_ways ps) (s, q) → Joined ps s q
    each s q h = elim (Contains-append_cases ps (map turned ps) (s, q) h) [
      | inl i ↦ upward i there
      | inr i ↦ let w = map_contains turned ps (s, q) i in downward (subst (Contains ps) (ap turned w.1.1) w.1.0) there
    ]

  pub joined-reaches : {s q : SortId} → Joined ps s q → reaches (both_ways ps) s q ≡ true
  joined-reaches (there {s}) = reaches-self (both_ways ps) s
  joined-reaches (upward {s} {q} {r} c h) = reaches-trans (both_ways ps) s q r (reaches-one (both_ways ps) s q (Contains-append_left ps (map turned ps) (s, q) c)) (joined-reaches h)
  joined-reaches (downward {s} {q} {r} c h) = reaches-trans (both_ways ps) s q r (reaches-one (both_ways ps) s q (both_ways-turned ps q s (Contains-append_left ps (map turned ps) (q, s) c))) (joined-reaches h)

module _ (c : Collected) where
  -- sorts of one kind are joined
  kind_of-joins : (s q : SortId) → s.0 < c.sorts → q.0 < c.sorts → kind_of c s ≡ kind_of c q → joins c s q ≡ true
  kind_of-joins s q l m e =
      let f : SortId = first_joined c s in
      let g : SortId = first_joined c q in
      let counts : c.sorts + parts_before c f.0 ≡ c.sorts + parts_before c g.0 = ap (λ (z : SortId). z.0) e in
      let one : f.0 ≡ g.0 = elim (cases_order f.0 g.0) [
        | inl e ↦ e
        | inr (inl b) ↦ absurd (let less = parts_before-less c f.0 g.0 b (first_joined-is_first c s l) in omega arith)
        | inr (inr b) ↦ absurd (let less = parts_before-less c g.0 f.0 b (first_joined-is_first c q m) in omega arith)
      ] in
      let to_first : joins c q f ≡ true = subst (λ z. joins c q z ≡ true) (ap sort_number (sym one)) (first_joined-at c q m).1 in
      joins-trans c s f q (first_joined-at c s l).1 (joins-sym c q f to_first)

  pub kinds_are_components : (s q : SortId) → s.0 < c.sorts → q.0 < c.sorts → (kind (completed c) s ≡ kind (completed c) q) ↔ Joined c.below s q
  kinds_are_components s q l m = (
    λ e. reaches-joined c.below s q (kind_of-joins s q l m (sym (kind-sort c s l) ∙ e ∙ kind-sort c q m)),
    λ w. kind-sort c s l ∙ kind_of-joined c s q m (joined-reaches c.below w) ∙ sym (kind-sort c q m),
  )

  -- each number of a part is that of its first sort
  first_of_part : (n j : ℕ) → j < parts_before c n → (k : ℕ) × ((k < n) × ((is_first c (sort_number k) ≡ true) × (parts_before c k ≡ j)))
  first_of_part zero j l = absurd (omega arith)
  first_of_part (suc n) j l = go (cases_lt j (parts_before c n)) (first_of_part n j) where
    Found : Type 0
    Found = (k : ℕ) × ((k < suc n) × ((is_first c (sort_number k) ≡ true) × (parts_before c k ≡ j)))

    last : (b : Bool) → is_first c (sort_number n) ≡ b → parts_before c n ≤ j → Found
    last true e past =
        let more : parts_before c (n + 1) ≡ parts_before c n + 1 = parts_before-more c n ∙ ap (λ b. parts_before c n + cond b 1 0) e in
        let at : suc n ≡ n + 1 = omega arith in
        let within : j < parts_before c (n + 1) = subst (λ k. j < parts_before c k) at l in
        (n, (omega arith, (e, omega arith)))
    last false e past = absurd (
        let more : parts_before c (n + 1) ≡ parts_before c n + 0 = parts_before-more c n ∙ ap (λ b. parts_before c n + cond b 1 0) e in
        let at : suc n ≡ n + 1 = omega arith in
        let within : j < parts_before c (n + 1) = subst (λ k. j < parts_before c k) at l in
        omega arith
        )

    go : (j < parts_before c n) ⊎ (parts_before c n ≤ j) → (j < parts_before c n → (k : ℕ) × ((k < n) × ((is_first c (sort_number k) ≡ true) × (parts_before c k ≡ j)))) → Found
    go (inl m) earlier = let r = earlier m in let within : r.0 < n = r.1.0 in (r.0, (omega arith, r.1.1))
    go (inr m) earlier = last (is_first c (sort_number n)) refl m

  -- each kind is that of the first sort of its part
  sort_of_kind : (k : SortId) → IsKind (completed c) k → (s : SortId) × ((s.0 < c.sorts) × (kind (completed c) s ≡ k))
  sort_of_kind k is =
      let long = kinds-long c in
      let after : c.sorts ≤ k.0 = is.after_sorts in
      let listed = is.listed in
      let w = first_of_part c.sorts (k.0 - c.sorts) (omega arith) in
      let s : SortId = sort_number w.0 in
      let first : first_joined c s ≡ s = same_sort-true (first_joined c s) s w.1.1.0 in
      let number : c.sorts + parts_before c w.0 ≡ k.0 = let at : parts_before c w.0 ≡ k.0 - c.sorts = w.1.1.1 in omega arith in
      (s, (w.1.0, kind-sort c s w.1.0 ∙ ap (λ (z : SortId). sort_number (c.sorts + parts_before c z.0)) first ∙ ap sort_number number))

  kind_is_kind : (s : SortId) → IsSort (completed c) s → c.sorts ≤ (kind (completed c) s).0
  kind_is_kind s h = elim (cases_lt s.0 c.sorts) as (λ _. c.sorts ≤ (kind (completed c) s).0) [
    | inl l ↦ subst (λ (k : SortId). c.sorts ≤ k.0) (sym (kind-sort c s l)) (kind_of-range c s l).0
    | inr l ↦ subst (λ (k : SortId). c.sorts ≤ k.0) (sym (kind-own c s l)) l
  ]

  module _ (closed : IsClosed c) where
    op_declared : (f : OpId) → f.0 < length (completed c).ops → (r : Rank) × Contains (declared (completed c) f).ranks r
    op_declared f l =
        let w = closed.each_declared f (let long = operators-long c in omega arith) in
        let mine = contains_filter (λ e. same_op e.op f) c.declarations w.0 w.1.0 (same_op-self w.0.op f w.1.1) in
        let rank = contains_map (rank_meant c) (declarations_of c f) w.0 mine in
        (rank_meant c w.0, subst (λ (o : OpDecl). Contains o.ranks (rank_meant c w.0)) (sym (declared-is c closed f)) rank)

    pub completed-is : IsCompleted (completed c)
    completed-is = record {
      sort_listed = λ s l. let long = kinds-long c in omega arith;
      in_range = closed.below;
      kind_of_sort = λ s h. record { after_sorts = kind_is_kind s h; listed = kind-listed c s h };
      sort_of_kind = sort_of_kind;
      joined = kinds_are_components;
      op_declared = op_declared;
    }
