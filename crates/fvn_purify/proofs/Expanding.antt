-- What a step makes of what is decided so far.
use Rattle.std.proofs.Common.{◌≡◌, ◌≢◌, ℕ, suc, ◌+◌, ◌-◌, ◌*◌, ◌^◌, ◌<◌, ◌≤◌, Bool, List, [], ◌∷◌, ◌++◌, map, length, sym, ap, ◌∙◌, subst, inl, inr, arith, Option, Some, None, slice_get, Any, AllPairs, Contains}
use Rattle.std.proofs.Math.Nat.{one-le-pow}
use Rattle.std.proofs.lemmas.Bool.{cases_eq}
use Rattle.std.proofs.lemmas.List.{length-append, append_assoc, append-nil}
use Rattle.std.proofs.lemmas.List.Sums.{sum_by-cons}
use Rattle.std.proofs.lemmas.List.Elements.{All-contains, Contains-append_cases}
use Rattle.fvn_base.proofs.Membership.{contains_none, contains_cases, contains_map, map_contains}
use Rattle.fvn_terms.specs.declared.declarations.Declarations.{Declarations}
use Rattle.fvn_combine_nodes.specs.States.{IsClosed, class_of, open_pairs}
use Rattle.fvn_combine_tree.specs.Questions.{IsAnswer, AreAnswers}
use Rattle.fvn_combine_nodes.specs.declared.state.State.{State}
use Rattle.fvn_combine_tree.specs.declared.asking.Answers.{Answers}
use Rattle.fvn_combine_nodes.proofs.Lists.{all_from}
use Rattle.fvn_purify.specs.Parts.{Outline}
use Rattle.fvn_purify.specs.Splits.{AreHeadsOfParts, AreWaysOfPairs}
use Rattle.fvn_purify.specs.Cursor.{BeginsWith, IsAhead, IsAheadOf}
use Rattle.fvn_purify.specs.inner.Choices.{asking, chosen, base, places_count, weight, weights, AreStepped, AreOptions, IsSplitQuestion, IsDecided, IsLeaf, IsSound, ShareNoSplit, IsExpansion}
use Rattle.fvn_purify.specs.declared.classes.Head.{Head}
use Rattle.fvn_purify.specs.declared.split.Split.{Split}
use Rattle.fvn_purify.specs.declared.choosing.Leaf.{Leaf}
use Rattle.fvn_purify.specs.declared.choosing.Partial.{Partial}
use Rattle.fvn_purify.specs.declared.choosing.Partial.TheVariants.{Asking, Choosing}
use Rattle.fvn_purify.proofs.Elements.{slice_get-middle, any_here, any_none, any_one, any_from, any_contains, any_left, any_right, any_append, all_pairs_none, all_pairs_one, all_pairs_two, all_pairs_map}
use Rattle.fvn_purify.proofs.Fronts.{heads_front, ways_front}
use Rattle.fvn_purify.proofs.Recorded.{questions_agree}
use Rattle.fvn_purify.proofs.Heads.{no_heads}
use Rattle.fvn_purify.proofs.Ways.{no_ways}
use Rattle.fvn_purify.proofs.Weights.{sum_by-same, choices_fall, two_fall, one_falls, leaf_falls}

-- a longer front of a list
module _ {A : Type 0} where
  pub front_of : (front : List A) (x : A) (list : List A) → BeginsWith (front ++ x ∷ []) list → BeginsWith front list
  front_of front x list b = (x ∷ b.0, b.1 ∙ append_assoc front (x ∷ []) b.0)

  -- a list that is longer than its front goes on
  pub goes_on : (front list : List A) → length front < length list → BeginsWith front list → (x : A) × BeginsWith (front ++ x ∷ []) list
  goes_on front list longer b = go b.0 b.1
    where
      go : (rest : List A) → list ≡ front ++ rest → (x : A) × BeginsWith (front ++ x ∷ []) list
      go [] e = absurd (let n = ap length e in let m = length-append front [] in omega arith)
      go (x ∷ rest) e = (x, (rest, e ∙ sym (append_assoc front (x ∷ []) rest)))

  -- two lists that go on otherwise are two
  pub one_next : (front list : List A) (x y : A) → BeginsWith (front ++ x ∷ []) list → BeginsWith (front ++ y ∷ []) list → x ≡ y
  one_next front list x y b k =
      let at = λ (z : A) (h : BeginsWith (front ++ z ∷ []) list). ap (λ l. slice_get l (length front)) (h.1 ∙ append_assoc front (z ∷ []) h.0) ∙ slice_get-middle front h.0 z in
      let e : Some x ≡ Some y = sym (at x b) ∙ at y k in
      cc

  -- a front that is as long as the list is the list
  pub front_whole : (front list : List A) → length front ≡ length list → BeginsWith front list → list ≡ front
  front_whole front list same b = go b.0 b.1
    where
      go : (rest : List A) → list ≡ front ++ rest → list ≡ front
      go [] e = e ∙ append-nil front
      go (x ∷ rest) e = absurd (let n = ap length e in let m = length-append front (x ∷ rest) in omega arith)

  pub whole_front : (list : List A) → BeginsWith list list
  whole_front list = ([], sym (append-nil list))

module _ (d : Declarations) (c : Outline) (fit : AreStepped d c) where
  -- what is ahead of a state is ahead of what is left of it
  module _ (s : State) (closed : IsClosed d c.table s) (x y : ℕ) (question : IsSplitQuestion c s x y) (a : Answers) (are : AreAnswers d c.table s x y a) where
    left : (Holds : (ℕ → ℕ) → Type 0) (r : Option State) → IsAnswer d c.table s Holds r → (split : Split) (h : IsAhead d c s [] [] split) → Holds h.class → Any (λ p. IsAheadOf d c p split) (asking r)
    left Holds None k split h holds = absurd (k h.class h.partition h.admits holds)
    left Holds (Some r) k split h holds =
        any_here (λ p. IsAheadOf d c p split) (Asking r) [] (record { class = h.class; partition = h.partition; admits = k.forced h.class h.partition h.admits holds; split_by = h.split_by; heads_begin = h.heads_begin; swaps_begin = h.swaps_begin })

    back : (Holds : (ℕ → ℕ) → Type 0) (r : Option State) → IsAnswer d c.table s Holds r → (split : Split) → Any (λ p. IsAheadOf d c p split) (asking r) → IsAhead d c s [] [] split
    back Holds None k split h = absurd (any_none _ h)
    back Holds (Some r) k split h =
        let g : IsAhead d c r [] [] split = any_one (λ p. IsAheadOf d c p split) (Asking r) h in
        record { class = g.class; partition = g.partition; admits = (k.holds g.class g.admits).0; split_by = g.split_by; heads_begin = g.heads_begin; swaps_begin = g.swaps_begin }

    sound : (Holds : (ℕ → ℕ) → Type 0) (r : Option State) → IsAnswer d c.table s Holds r → (p : Partial) → Contains (asking r) p → IsSound d c p
    sound Holds None k p h = absurd (contains_none p h)
    sound Holds (Some r) k p h = elim (contains_cases (Asking r) [] p h) [
      | inl e ↦ subst (IsSound d c) e k.closed
      | inr z ↦ absurd (contains_none p z)
    ]

    asked_apart : (r q : State) → IsAnswer d c.table s (λ class. class x ≢ class y) (Some r) → IsAnswer d c.table s (λ class. class x ≡ class y) (Some q) → ShareNoSplit d c (Asking r) (Asking q)
    asked_apart r q k l split g h =
        let one = k.holds g.class g.admits in
        let other = l.holds h.class h.admits in
        one.1 (questions_agree d c fit s closed g.class h.class one.0 other.0 h.partition split g.split_by h.split_by x y question other.1)

    apart_lists : (r q : Option State) → IsAnswer d c.table s (λ class. class x ≢ class y) r → IsAnswer d c.table s (λ class. class x ≡ class y) q → AllPairs (ShareNoSplit d c) (asking r ++ asking q)
    apart_lists None None k l = all_pairs_none (ShareNoSplit d c)
    apart_lists None (Some q) k l = all_pairs_one (ShareNoSplit d c) (Asking q)
    apart_lists (Some r) None k l = all_pairs_one (ShareNoSplit d c) (Asking r)
    apart_lists (Some r) (Some q) k l = all_pairs_two (ShareNoSplit d c) (Asking r) (Asking q) (asked_apart r q k l)

    some_weight : 1 ≤ base d c ^ suc (places_count d c)
    some_weight = one-le-pow (suc (places_count d c)) (base d c) (omega arith)

    lists_fall : (r q : Option State) → IsAnswer d c.table s (λ class. class x ≢ class y) r → IsAnswer d c.table s (λ class. class x ≡ class y) q → weights d c (asking r ++ asking q) < weight d c (Asking s)
    lists_fall None None k l = let p = some_weight in let q = one-le-pow (open_pairs s) 3 (omega arith) in let m = one_times (3 ^ open_pairs s) (base d c ^ suc (places_count d c)) q p in omega arith
      where
        one_times : (m n : ℕ) → 1 ≤ m → 1 ≤ n → 1 ≤ m * n
        one_times m n a b = grind arith
    lists_fall None (Some q) k l =
        let e = sum_by-cons (weight d c) (Asking q) [] in
        let f = one_falls (open_pairs q) (open_pairs s) (base d c ^ suc (places_count d c)) l.falls some_weight in
        omega arith
    lists_fall (Some r) None k l =
        let e = sum_by-cons (weight d c) (Asking r) [] in
        let f = one_falls (open_pairs r) (open_pairs s) (base d c ^ suc (places_count d c)) k.falls some_weight in
        omega arith
    lists_fall (Some r) (Some q) k l =
        let e = sum_by-cons (weight d c) (Asking r) (Asking q ∷ []) in
        let g = sum_by-cons (weight d c) (Asking q) [] in
        let f = two_fall (open_pairs r) (open_pairs q) (open_pairs s) (base d c ^ suc (places_count d c)) k.falls l.falls some_weight in
        omega arith

    -- a question that is asked
    pub asked_expands : IsExpansion d c (Asking s) (asking a.apart ++ asking a.same)
    asked_expands = record {
      same = λ split. (
        λ h. elim (cases_eq (h.class x) (h.class y)) [
          | inl e ↦ any_right (λ p. IsAheadOf d c p split) (asking a.apart) (asking a.same) (left (λ class. class x ≡ class y) a.same are.same split h e)
          | inr n ↦ any_left (λ p. IsAheadOf d c p split) (asking a.apart) (asking a.same) (left (λ class. class x ≢ class y) a.apart are.apart split h n)
        ],
        λ h. elim (any_append (λ p. IsAheadOf d c p split) (asking a.apart) (asking a.same) h) [
          | inl l ↦ back (λ class. class x ≢ class y) a.apart are.apart split l
          | inr r ↦ back (λ class. class x ≡ class y) a.same are.same split r
        ],
      );
      apart = apart_lists a.apart a.same are.apart are.same;
      sound = all_from (IsSound d c) (asking a.apart ++ asking a.same) (λ p h. elim (Contains-append_cases (asking a.apart) (asking a.same) p h) [
        | inl l ↦ sound (λ class. class x ≢ class y) a.apart are.apart p l
        | inr r ↦ sound (λ class. class x ≡ class y) a.same are.same p r
      ]);
      falls = lists_fall a.apart a.same are.apart are.same;
    }

  -- a state without open questions is a leaf
  pub settled_expands : (s : State) → IsClosed d c.table s → IsDecided c s → IsExpansion d c (Asking s) (chosen s [] [] ∷ [])
  settled_expands s closed none = record {
    same = λ split. (
      λ h. any_here (λ p. IsAheadOf d c p split) (chosen s [] []) [] h,
      λ h. any_one (λ p. IsAheadOf d c p split) (chosen s [] []) h,
    );
    apart = all_pairs_one (ShareNoSplit d c) (chosen s [] []);
    sound = all_from (IsSound d c) (chosen s [] [] ∷ []) (λ p h. elim (contains_cases (chosen s [] []) [] p h) [
      | inl e ↦ subst (IsSound d c) e (record {
        closed = closed;
        decided = none;
        heads = no_heads d c (class_of s) c.places.headed;
        few_heads = omega arith;
        swaps = no_ways d c (class_of s) c.places.pairs;
        few_swaps = omega arith;
      })
      | inr z ↦ absurd (contains_none p z)
    ]);
    falls =
        let e = sum_by-cons (weight d c) (chosen s [] []) [] in
        let z : base d c ^ (places_count d c - (length {A = Head} [] + length {A = Bool} [])) ≡ base d c ^ places_count d c = ap (λ k. base d c ^ k) (let q : places_count d c - (length {A = Head} [] + length {A = Bool} []) ≡ places_count d c = omega arith in q) in
        let f = leaf_falls (base d c) (places_count d c) (open_pairs s) (omega arith) in
        omega arith;
  }

  module _ (l : Leaf) (leaf : IsLeaf d c l) where
    -- one more head
    pub heads_expand : (options : List Head) → AreOptions d c (λ class h. AreHeadsOfParts d c class c.places.headed (l.heads ++ h ∷ [])) l.state options → length l.heads < length c.places.headed → length options < base d c → IsExpansion d c (Choosing l) (map (λ h. chosen l.state (l.heads ++ h ∷ []) l.swaps) options)
    heads_expand options are more few = record {
      same = λ split. (λ h. to split h, λ h. from split (any_contains (λ p. IsAheadOf d c p split) (map next options) h));
      apart = all_pairs_map ◌≢◌ (ShareNoSplit d c) next (λ h g differ split k m. differ (one_next l.heads split.heads h g k.heads_begin m.heads_begin)) options are.once;
      sound = all_from (IsSound d c) (map next options) (λ p h. let m = map_contains next options p h in subst (IsSound d c) m.1.1 (record {
        closed = leaf.closed;
        decided = leaf.decided;
        heads = All-contains (λ h. AreHeadsOfParts d c (class_of l.state) c.places.headed (l.heads ++ h ∷ [])) options m.0 are.fit m.1.0;
        few_heads = let n = length-append l.heads (m.0 ∷ []) in omega arith;
        swaps = leaf.swaps;
        few_swaps = leaf.few_swaps;
      }));
      falls =
          let e = sum_by-same (weight d c) next (base d c ^ (places_count d c - suc (length l.heads + length l.swaps))) (λ h. let n = length-append l.heads (h ∷ []) in ap (λ k. base d c ^ (places_count d c - k)) (let q : length (l.heads ++ h ∷ []) + length l.swaps ≡ suc (length l.heads + length l.swaps) = omega arith in q)) options in
          let few_ways = leaf.few_swaps in
          let f = choices_fall (base d c) (length options) (places_count d c) (length l.heads + length l.swaps) few (omega arith) (omega arith) in
          omega arith;
    }
      where
        next : Head → Partial
        next h = chosen l.state (l.heads ++ h ∷ []) l.swaps

        to : (split : Split) → IsAhead d c l.state l.heads l.swaps split → Any (λ p. IsAheadOf d c p split) (map next options)
        to split h =
            let on = goes_on l.heads split.heads (let n = h.split_by.all_heads in omega arith) h.heads_begin in
            let fits : AreHeadsOfParts d c h.class c.places.headed (l.heads ++ on.0 ∷ []) = heads_front d c h.class c.places.headed (l.heads ++ on.0 ∷ []) split.heads on.1 h.split_by.heads in
            any_from (λ p. IsAheadOf d c p split) (map next options) (next on.0) (contains_map next options on.0 (are.all h.class h.partition h.admits on.0 fits))
            (record { class = h.class; partition = h.partition; admits = h.admits; split_by = h.split_by; heads_begin = on.1; swaps_begin = h.swaps_begin })

        from : (split : Split) → (p : Partial) × Contains (map next options) p × IsAheadOf d c p split → IsAhead d c l.state l.heads l.swaps split
        from split h =
            let m = map_contains next options h.0 h.1 in
            let k : IsAhead d c l.state (l.heads ++ m.0 ∷ []) l.swaps split = subst (λ p. IsAheadOf d c p split) (sym m.1.1) h.2 in
            record { class = k.class; partition = k.partition; admits = k.admits; split_by = k.split_by; heads_begin = front_of l.heads m.0 split.heads k.heads_begin; swaps_begin = k.swaps_begin }

    -- one more way
    pub ways_expand : (options : List Bool) → AreOptions d c (λ class w. AreWaysOfPairs d c class c.places.pairs (l.swaps ++ w ∷ [])) l.state options → length l.swaps < length c.places.pairs → length options < base d c → IsExpansion d c (Choosing l) (map (λ w. chosen l.state l.heads (l.swaps ++ w ∷ [])) options)
    ways_expand options are more few = record {
      same = λ split. (λ h. to split h, λ h. from split (any_contains (λ p. IsAheadOf d c p split) (map next options) h));
      apart = all_pairs_map ◌≢◌ (ShareNoSplit d c) next (λ h g differ split k m. differ (one_next l.swaps split.swaps h g k.swaps_begin m.swaps_begin)) options are.once;
      sound = all_from (IsSound d c) (map next options) (λ p h. let m = map_contains next options p h in subst (IsSound d c) m.1.1 (record {
        closed = leaf.closed;
        decided = leaf.decided;
        heads = leaf.heads;
        few_heads = leaf.few_heads;
        swaps = All-contains (λ w. AreWaysOfPairs d c (class_of l.state) c.places.pairs (l.swaps ++ w ∷ [])) options m.0 are.fit m.1.0;
        few_swaps = let n = length-append l.swaps (m.0 ∷ []) in omega arith;
      }));
      falls =
          let e = sum_by-same (weight d c) next (base d c ^ (places_count d c - suc (length l.heads + length l.swaps))) (λ h. let n = length-append l.swaps (h ∷ []) in ap (λ k. base d c ^ (places_count d c - k)) (let q : length l.heads + length (l.swaps ++ h ∷ []) ≡ suc (length l.heads + length l.swaps) = omega arith in q)) options in
          let few_heads = leaf.few_heads in
          let f = choices_fall (base d c) (length options) (places_count d c) (length l.heads + length l.swaps) few (omega arith) (omega arith) in
          omega arith;
    }
      where
        next : Bool → Partial
        next w = chosen l.state l.heads (l.swaps ++ w ∷ [])

        to : (split : Split) → IsAhead d c l.state l.heads l.swaps split → Any (λ p. IsAheadOf d c p split) (map next options)
        to split h =
            let on = goes_on l.swaps split.swaps (let n = h.split_by.all_swaps in omega arith) h.swaps_begin in
            let fits : AreWaysOfPairs d c h.class c.places.pairs (l.swaps ++ on.0 ∷ []) = ways_front d c h.class c.places.pairs (l.swaps ++ on.0 ∷ []) split.swaps on.1 h.split_by.swaps in
            any_from (λ p. IsAheadOf d c p split) (map next options) (next on.0) (contains_map next options on.0 (are.all h.class h.partition h.admits on.0 fits))
            (record { class = h.class; partition = h.partition; admits = h.admits; split_by = h.split_by; heads_begin = h.heads_begin; swaps_begin = on.1 })

        from : (split : Split) → (p : Partial) × Contains (map next options) p × IsAheadOf d c p split → IsAhead d c l.state l.heads l.swaps split
        from split h =
            let m = map_contains next options h.0 h.1 in
            let k : IsAhead d c l.state l.heads (l.swaps ++ m.0 ∷ []) split = subst (λ p. IsAheadOf d c p split) (sym m.1.1) h.2 in
            record { class = k.class; partition = k.partition; admits = k.admits; split_by = k.split_by; heads_begin = k.heads_begin; swaps_begin = front_of l.swaps m.0 split.swaps k.swaps_begin }
