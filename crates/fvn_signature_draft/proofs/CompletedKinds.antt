-- The kinds of a completed signature fit its order.
use Rattle.std.proofs.Common.{◌≡◌, ℕ, zero, suc, ◌+◌, ◌-◌, ◌<◌, ◌≤◌, Bool, true, false, List, [], ◌∷◌, map, length, get_or, refl, sym, ap, subst, ◌∙◌, ◌⊎◌, inl, inr, arith}
use Rattle.std.specs.List.{All, Contains, range_with_len, filter}
use Rattle.std.specs.Prelude.{cond, nat_lt, slice_index_or}
use Rattle.std.proofs.lemmas.Bool.{cases_lt, lt-ltb, le-ltb, cond-true, cond-false, ne_eqb}
use Rattle.std.proofs.lemmas.List.{length-append, get_or_append_left, get_or-append_right, get_or_past, get_or_default}
use Rattle.std.proofs.lemmas.List.FromFn.{length-map-range_with_len, get_or-map-range_with_len}
use Rattle.std.proofs.lemmas.List.Elements.{All-contains, All-head, All-tail, All-map, All-weaker}
use Rattle.fvn_terms.specs.declared.plain.OpId.{OpId}
use Rattle.fvn_terms.specs.declared.plain.SortId.{SortId}
use Rattle.fvn_terms.specs.declared.declarations.Rank.{Rank}
use Rattle.fvn_terms.specs.declared.declarations.OpDecl.{OpDecl}
use Rattle.fvn_terms.specs.Signature.{kind, declared, unknown, IsSort}
use Rattle.fvn_forms.specs.SortOrder.{sort_number, same_sort}
use Rattle.fvn_forms.specs.Good.{IsKinded}
use Rattle.fvn_base.proofs.Membership.{map_contains}
use Rattle.fvn_forms.proofs.SortTests.{same_sort-self}
use Rattle.fvn_signature.specs.FirstSorts.{first_sorts}
use Rattle.fvn_signature_draft.specs.declared.collected.Declaration.{Declaration}
use Rattle.fvn_signature_draft.specs.declared.collected.Collected.{Collected}
use Rattle.fvn_signature_draft.specs.Collected.{IsClosed, Names, first_kind_number, op_number, same_op, declarations_of, joins, first_joined, is_first, parts_before, kind_of, kinds, meant, meant_or_kind, rank_meant, operator_meant, completed}
use Rattle.fvn_signature_draft.proofs.Parts.{joins-below, first_joined-at, first_joined-same, first_joined-first, parts_before-more, kinds-length, kinds-at}
use Rattle.fvn_signature_draft.proofs.Operators.{operators-long, declared_of}

module _ (c : Collected) where
  total : ℕ
  total = c.sorts + parts_before c c.sorts

  pub kinds-long : length (kinds c) ≡ c.sorts + parts_before c c.sorts
  unfolding kinds
  kinds-long =
      let a = kinds-length c c.sorts in
      let b = length-map-range_with_len sort_number c.sorts (parts_before c c.sorts) in
      let e = length-append (map (kind_of c) (first_sorts c.sorts)) (map sort_number (range_with_len c.sorts (parts_before c c.sorts))) in
      omega arith

  -- the kind of a sort
  pub kind-sort : (s : SortId) → s.0 < c.sorts → kind (completed c) s ≡ kind_of c s
  unfolding kinds
  kind-sort s l =
      let long : length (map (kind_of c) (first_sorts c.sorts)) ≡ c.sorts = kinds-length c c.sorts in
      let within : s.0 < length (map (kind_of c) (first_sorts c.sorts)) = omega arith in
      get_or_append_left (map (kind_of c) (first_sorts c.sorts)) (map sort_number (range_with_len c.sorts (parts_before c c.sorts))) s s.0 within ∙ kinds-at c c.sorts s.0 s l

  -- each other number is its own kind
  pub kind-own : (s : SortId) → c.sorts ≤ s.0 → kind (completed c) s ≡ s
  unfolding kinds
  kind-own s l =
      get_or-append_right (map (kind_of c) (first_sorts c.sorts)) (map sort_number (range_with_len c.sorts (parts_before c c.sorts))) c.sorts s.0 s (kinds-length c c.sorts) l ∙ go (cases_lt (s.0 - c.sorts) (parts_before c c.sorts)) where
        go : (s.0 - c.sorts < parts_before c c.sorts) ⊎ (parts_before c c.sorts ≤ s.0 - c.sorts) → get_or (map sort_number (range_with_len c.sorts (parts_before c c.sorts))) (s.0 - c.sorts) s ≡ s
        go (inl m) = get_or-map-range_with_len sort_number c.sorts (parts_before c c.sorts) (s.0 - c.sorts) s.0 s m (omega arith)
        go (inr m) = get_or_past (map sort_number (range_with_len c.sorts (parts_before c c.sorts))) (s.0 - c.sorts) s (let e = length-map-range_with_len sort_number c.sorts (parts_before c c.sorts) in omega arith)

  parts_before-mono : (n m : ℕ) → parts_before c n ≤ parts_before c (n + m)
  parts_before-mono n zero = let e : n + 0 ≡ n = omega arith in subst (λ k. parts_before c n ≤ parts_before c k) (sym e) (omega arith)
  parts_before-mono n (suc m) =
      let e : n + suc m ≡ (n + m) + 1 = omega arith in
      let ih = parts_before-mono n m in
      let more = parts_before-more c (n + m) in
      subst (λ k. parts_before c n ≤ parts_before c k) (sym e) (omega arith)

  -- the first sort of a part is counted before what comes after it
  pub parts_before-less : (f n : ℕ) → f < n → is_first c (sort_number f) ≡ true → parts_before c f < parts_before c n
  parts_before-less f n l is =
      let more : parts_before c (f + 1) ≡ parts_before c f + 1 = parts_before-more c f ∙ ap (λ b. parts_before c f + cond b 1 0) is in
      let rest = parts_before-mono (f + 1) (n - (f + 1)) in
      let e : (f + 1) + (n - (f + 1)) ≡ n = omega arith in
      let to_end : parts_before c (f + 1) ≤ parts_before c n = subst (λ k. parts_before c (f + 1) ≤ parts_before c k) e rest in
      omega arith

  pub first_joined-is_first : (s : SortId) → s.0 < c.sorts → is_first c (first_joined c s) ≡ true
  first_joined-is_first s l = ap (λ z. same_sort z (first_joined c s)) (first_joined-first c s l) ∙ same_sort-self (first_joined c s)

  -- a sort's kind is one of the kinds
  pub kind_of-range : (s : SortId) → s.0 < c.sorts → (c.sorts ≤ (kind_of c s).0) × ((kind_of c s).0 < c.sorts + parts_before c c.sorts)
  kind_of-range s l =
      let at = (first_joined-at c s l).0 in
      let less = parts_before-less (first_joined c s).0 c.sorts (omega arith) (first_joined-is_first s l) in
      (omega arith, omega arith)

  -- joined sorts have one kind
  pub kind_of-joined : (s q : SortId) → q.0 < c.sorts → joins c s q ≡ true → kind_of c s ≡ kind_of c q
  kind_of-joined s q l h = ap (λ (z : SortId). sort_number (c.sorts + parts_before c z.0)) (first_joined-same c s q l h)

  own : (s : SortId) → kind (completed c) (kind (completed c) s) ≡ kind (completed c) s
  own s = go (cases_lt s.0 c.sorts) where
    go : (s.0 < c.sorts) ⊎ (c.sorts ≤ s.0) → kind (completed c) (kind (completed c) s) ≡ kind (completed c) s
    go (inl l) = let e = kind-sort s l in ap (kind (completed c)) e ∙ kind-own (kind_of c s) (kind_of-range s l).0 ∙ sym e
    go (inr l) = ap (kind (completed c)) (kind-own s l)

  pub kind-listed : (s : SortId) → IsSort (completed c) s → IsSort (completed c) (kind (completed c) s)
  kind-listed s h = go (cases_lt s.0 c.sorts) where
    go : (s.0 < c.sorts) ⊎ (c.sorts ≤ s.0) → IsSort (completed c) (kind (completed c) s)
    go (inl l) = subst (IsSort (completed c)) (sym (kind-sort s l)) (let r = (kind_of-range s l).1 in let e = kinds-long in omega arith)
    go (inr l) = subst (IsSort (completed c)) (sym (kind-own s l)) h

  sort_is_sort : (s : SortId) → s.0 < c.sorts → IsSort (completed c) s
  sort_is_sort s l = let e = kinds-long in omega arith

  module _ (closed : IsClosed c) where
    pub below-range : (s q : SortId) → Contains c.below (s, q) → (s.0 < c.sorts) × (q.0 < c.sorts)
    below-range s q h = All-contains (λ p. (p.0.0 < c.sorts) × (p.1.0 < c.sorts)) c.below (s, q) closed.below h

    ordered : (s q : SortId) → Contains c.below (s, q) → kind (completed c) s ≡ kind (completed c) q
    ordered s q h =
        let r = below-range s q h in
        kind-sort s r.0 ∙ kind_of-joined s q r.1 (joins-below c s q h) ∙ sym (kind-sort q r.1)

    top : (s q : SortId) → Contains c.below (kind (completed c) s, q) → ⊥
    top s q h = go (cases_lt s.0 c.sorts) where
      go : (s.0 < c.sorts) ⊎ (c.sorts ≤ s.0) → ⊥
      go (inl l) = let r = (below-range (kind (completed c) s) q h).0 in let e = ap (λ (z : SortId). z.0) (kind-sort s l) in let k = (kind_of-range s l).0 in omega arith
      go (inr l) = let r = (below-range (kind (completed c) s) q h).0 in let e = ap (λ (z : SortId). z.0) (kind-own s l) in omega arith

  kinds-at-sort : (k : ℕ) (d : SortId) → k < c.sorts → get_or (kinds c) k d ≡ kind_of c (sort_number k)
  kinds-at-sort k d l =
      let e = kinds-long in
      let within : k < length (kinds c) = omega arith in
      get_or_default (kinds c) k d (sort_number k) within ∙ kind-sort (sort_number k) l

  -- what is declared of an operator
  pub declared-is : IsClosed c → (f : OpId) → declared (completed c) f ≡ operator_meant c (declarations_of c f)
  declared-is closed f = go (cases_lt f.0 c.operators) where
    go : (f.0 < c.operators) ⊎ (c.operators ≤ f.0) → declared (completed c) f ≡ operator_meant c (declarations_of c f)
    go (inl l) = get_or-map-range_with_len (λ n. operator_meant c (declarations_of c (op_number n))) 0 c.operators f.0 f.0 unknown l (omega arith)
    go (inr l) =
        get_or_past (completed c).ops f.0 unknown (omega (arith, operators-long c))
        ∙ ap (operator_meant c) (sym (none c.declarations closed.operators)) where
          none : (es : List Declaration) → All (λ e. e.op.0 < c.operators) es → filter (λ e. same_op e.op f) es ≡ []
          none [] h = refl
          none (e ∷ es) h =
              let here : e.op.0 < c.operators = All-head (λ e. e.op.0 < c.operators) e es h in
              let ne : same_op e.op f ≡ false = ne_eqb e.op.0 f.0 (λ q. omega arith) in
              ap (λ b. cond b (e ∷ filter (λ e. same_op e.op f) es) (filter (λ e. same_op e.op f) es)) ne ∙ none es (All-tail (λ e. e.op.0 < c.operators) e es h)

  module _ (closed : IsClosed c) where
    -- what a number in a rank names is a sort
    meant-sort : (s : SortId) → Names c.sorts s → IsSort (completed c) (meant c s)
    meant-sort s (inl l) =
        let m : s.0 < first_kind_number = let f = closed.few in omega arith in
        subst (IsSort (completed c)) (sym (cond-true (nat_lt s.0 first_kind_number) s (slice_index_or (kinds c) (s.0 - first_kind_number) s) (lt-ltb s.0 first_kind_number m))) (sort_is_sort s l)
    meant-sort s (inr l) =
        let m : nat_lt s.0 first_kind_number ≡ false = le-ltb s.0 first_kind_number l.0 in
        let e = cond-false (nat_lt s.0 first_kind_number) s (slice_index_or (kinds c) (s.0 - first_kind_number) s) m ∙ kinds-at-sort (s.0 - first_kind_number) s l.1 in
        subst (IsSort (completed c)) (sym e) (let r = (kind_of-range (sort_number (s.0 - first_kind_number)) l.1).1 in let long = kinds-long in omega arith)

    meant_or_kind-sort : (b : Bool) (s : SortId) → Names c.sorts s → IsSort (completed c) (meant_or_kind c b s)
    meant_or_kind-sort true s h = kind-listed (meant c s) (meant-sort s h)
    meant_or_kind-sort false s h = meant-sort s h

    pub rank_meant-sorts : (e : Declaration) → Contains c.declarations e → All (IsSort (completed c)) (rank_meant c e).args × IsSort (completed c) (rank_meant c e).result
    rank_meant-sorts e h =
        let args = All-contains (λ e. All (Names c.sorts) e.rank.args) c.declarations e closed.args h in
        let result = All-contains (λ e. Names c.sorts e.rank.result) c.declarations e closed.results h in (
          All-map (IsSort (completed c)) (meant_or_kind c e.partial) e.rank.args (All-weaker (Names c.sorts) (λ s. IsSort (completed c) (meant_or_kind c e.partial s)) (meant_or_kind-sort e.partial) e.rank.args args),
          meant_or_kind-sort e.partial e.rank.result result,
        )

    -- the ranks of an operator are those that its declarations mean
    pub rank-declared : (f : OpId) (r : Rank) → Contains (declared (completed c) f).ranks r → (e : Declaration) × (Contains (declarations_of c f) e × (rank_meant c e ≡ r))
    rank-declared f r h = map_contains (rank_meant c) (declarations_of c f) r (subst (λ (o : OpDecl). Contains o.ranks r) (declared-is closed f) h)

    pub completed-kinded : IsKinded (completed c)
    completed-kinded = record {
      own = own;
      ordered = ordered closed;
      top = top closed;
      listed = kind-listed;
      ranks = λ f r h. let w = rank-declared f r h in
          let d = (declared_of c f w.0 w.1.0).0 in
          let k = rank_meant-sorts w.0 d in
          subst (λ (q : Rank). All (IsSort (completed c)) q.args × IsSort (completed c) q.result) w.1.1 k;
    }
