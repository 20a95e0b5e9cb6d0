-- Two summands of a sum, as a part of it.
use Rattle.std.proofs.Common.{◌≡◌, ◌⊎◌, ◌<◌, ◌≤◌, ◌+◌, ◌-◌, ℕ, true, false, List, [], ◌∷◌, ◌++◌, take, drop, length, get_or, Some, refl, sym, ap, ◌∙◌, subst, inl, inr, arith}
use Rattle.std.specs.Prelude.{All, Contains, slice_get}
use Rattle.std.proofs.lemmas.Option.{slice_get_within, slice_get_read}
use Rattle.std.proofs.lemmas.List.Elements.{All-weaker, All-contains_itself}
use Rattle.fvn_terms.specs.declared.plain.OpId.{OpId}
use Rattle.fvn_terms.specs.declared.declarations.Declarations.{Declarations}
use Rattle.fvn_forms.specs.Flat.{FlatTerm, fapp, fpack, funpack}
use Rattle.fvn_forms.specs.Canon.{sum, build}
use Rattle.fvn_forms.specs.Settled.{Settled}
use Rattle.fvn_forms.specs.Good.{IsGood}
use Rattle.fvn_forms.proofs.Sums.{fpack-funpack, all_parts-pieces, sum_in_order}
use Rattle.fvn_forms.proofs.Build.{build_sum}
use Rattle.fvn_flat.specs.Fits.{AllFit, Takes}
use Rattle.fvn_flat.specs.FlatPlaces.{IsDivided, IsPartOfSum}
use Rattle.fvn_flat.specs.Forms.{head_of, args_of}
use Rattle.fvn_cover.specs.declared.variant.Variant.{Variant}
use Rattle.fvn_rewrite.specs.Usable.{Rewriting}
use Rattle.fvn_rewrite_rules.specs.declared.rule.Rule.{Rule}
use Rattle.fvn_rewrite_rules.specs.Given.{headed}
use Rattle.fvn_lifting.specs.Pairs.{IsPairOf}
use Rattle.fvn_lifting.proofs.Parts.{part_settled, taken_fit, taken_takes}
use Rattle.fvn_lifting.proofs.PairForms.{joined_form, divided_length}
use Rattle.fvn_lifting.proofs.PairSteps.{pair_part}
use Rattle.fvn_narrow.specs.inner.Pairing.{IsFitSum, AreOthers, StandsAgain}
use Rattle.fvn_narrow.specs.inner.Turns.{Try, turn_of, IsTurnAt, IsSumAt, IsPairAt, IsTryAt, IsTryOf, IsTryFrom, IsTryBefore, TryLifts, TryLiftsUnless, ForEach}
use Rattle.fvn_narrow.proofs.Children.{item_listed, fits_at}
use Rattle.fvn_narrow.proofs.Fit.{path_fits}
use Rattle.fvn_narrow.proofs.Joined.{less_or_equal}
use Rattle.fvn_narrow.proofs.Divided.{divided_at, places_of_two}

-- a sum is the joined one of its arguments
pub sum_is : (d : Declarations) (f : OpId) (t : FlatTerm) → IsFitSum d f t → (i : ℕ) (u : FlatTerm) → slice_get (args_of t) i ≡ Some u → t ≡ fapp f true (fpack (args_of t))
sum_is d f t s i u e = go (args_of t) refl where
  go : (l : List FlatTerm) → args_of t ≡ l → t ≡ fapp f true (fpack (args_of t))
  go [] q = let n : slice_get [] i ≡ Some u = subst (λ m. slice_get m i ≡ Some u) q e in cc
  go (a ∷ l) q = joined_form d f s.associative t a l s.fits.flat s.heads q ∙ ap (λ m. fapp f true (fpack m)) (sym q)

module _ (d : Declarations) (good : IsGood d) (f : OpId) (whole : FlatTerm) (s : IsFitSum d f whole) (i j : ℕ) (before : i < j) (t u : FlatTerm) (first : slice_get (args_of whole) i ≡ Some t) (second : slice_get (args_of whole) j ≡ Some u) where
  abbrev pub pair : FlatTerm
  pair = fapp f true (fpack (t ∷ u ∷ []))

  abbrev all_others : List FlatTerm
  all_others = take i (args_of whole) ++ (take (j - (i + 1)) (drop (i + 1) (args_of whole)) ++ drop (j + 1) (args_of whole))

  -- with any others that are left
  abbrev pub part_with : (others : List FlatTerm) → IsDivided (args_of whole) (t ∷ u ∷ []) others → IsPartOfSum f others whole pair
  part_with others p = pair_part f (args_of whole) t u others whole (sum_is d f whole s i t first) p

  abbrev part : IsPartOfSum f all_others whole pair
  part = part_with all_others (divided_at (args_of whole) i j before t u first second)

  settled : Settled d pair
  settled = part_settled d good f all_others whole pair part s.fits

  -- the operator takes the two, and makes the pair of them
  pub two_fit : AllFit d (t ∷ u ∷ [])
  two_fit = taken_fit d good f all_others whole pair part s.fits

  pub two_takes : Takes d f (t ∷ u ∷ [])
  two_takes = taken_takes d good f all_others whole pair part s.fits

  pub two_builds : build d f (t ∷ u ∷ []) ≡ pair
  two_builds =
      build_sum d f s.associative t (u ∷ [])
      ∙ ap (sum d f) (all_parts-pieces d f (t ∷ u ∷ []) settled.0.pieces)
      ∙ sum_in_order d f (t ∷ u ∷ []) settled.0.in_order (omega arith)

-- what was made of two summands is their pair
pub is_pair_at : (d : Declarations) → IsGood d → (f : OpId) (whole : FlatTerm) → IsFitSum d f whole → (i j : ℕ) → i < j → (t u given : FlatTerm) → slice_get (args_of whole) i ≡ Some t → slice_get (args_of whole) j ≡ Some u → given ≡ build d f (t ∷ u ∷ []) → IsPairAt f (args_of whole) i j given
is_pair_at d good f whole s i j before t u given first second e = record { first = t; second = u; at_first = first; at_second = second; is = e ∙ two_builds d good f whole s i j before t u first second }

one_form : (a b : FlatTerm) → Some a ≡ Some b → a ≡ b
one_form a b e = cc

-- there is one pair at two places
one_pair : (f : OpId) (ts : List FlatTerm) (i j : ℕ) (a b : FlatTerm) → IsPairAt f ts i j a → IsPairAt f ts i j b → a ≡ b
one_pair f ts i j a b p q =
    let x = one_form p.first q.first (sym p.at_first ∙ q.at_first) in
    let y = one_form p.second q.second (sym p.at_second ∙ q.at_second) in
    p.is ∙ ap (λ w. fapp f true (fpack (w ∷ p.second ∷ []))) x ∙ ap (λ w. fapp f true (fpack (q.first ∷ w ∷ []))) y ∙ sym q.is

module _ (r : Rewriting) (unifiers : ℕ) (v : Variant) where
  -- the turns at a pair
  pub pair_turns : IsGood r.signature → (member : ℕ) (path : List ℕ) (f : OpId) (whole : FlatTerm) → IsSumAt r v member path f whole → IsFitSum r.signature f whole → (i j : ℕ) → i < j → (at : FlatTerm) → IsPairAt f (args_of whole) i j at →
      (others : List FlatTerm) → AreOthers (args_of whole) i j others → All (λ (rule : Rule). IsTurnAt r v at (turn_of member path (Some (f, others)) rule)) (headed r.rules f)
  pair_turns good member path f whole s sum i j before at p others are = All-weaker (Contains (headed r.rules f)) (λ (rule : Rule). IsTurnAt r v at (turn_of member path (Some (f, others)) rule)) turn (headed r.rules f) (All-contains_itself (headed r.rules f)) where
    divided : IsDivided (args_of whole) (p.first ∷ p.second ∷ []) others
    divided = are p.first p.second p.at_first p.at_second

    some_left : 1 ≤ length others
    some_left = let n = divided_length divided in let m = s.many in omega (arith, n, m)

    turn : (rule : Rule) → Contains (headed r.rules f) rule → IsTurnAt r v at (turn_of member path (Some (f, others)) rule)
    turn rule listed = record {
      term = s.form.term;
      is = s.form.is;
      whole = whole;
      leads = s.form.leads;
      part = subst (IsPartOfSum f others whole) (sym p.is) (part_with r.signature good f whole sum i j before p.first p.second p.at_first p.at_second others divided);
      left = some_left;
      operator = f;
      heads = ap head_of p.is;
      needed = listed;
    }

  -- what lifts at the pair lifts in each try there
  pub tries_lift : (f : OpId) (ts : List FlatTerm) (rules : List Rule) (i j : ℕ) (at : FlatTerm) → IsPairAt f ts i j at → (children : List Variant) → ForEach (TryLiftsUnless r unifiers v false) (IsTryOf at rules) children → ForEach (TryLifts r unifiers v) (IsTryAt f ts rules (i, j)) children
  tries_lift f ts rules i j at p children h try c = go (h try (one_pair f ts i j try.at at c.0 p, c.1)) where
    go : TryLiftsUnless r unifiers v false try children → TryLifts r unifiers v try children
    go (inl k) = k
    go (inr m) = let q : false ≡ true = m.0 in cc

  -- and what lifts at all pairs by their places lifts at each pair
  pub pairs_lift : (f : OpId) (whole : FlatTerm) (children : List Variant) → ForEach (TryLifts r unifiers v) (IsTryBefore f (args_of whole) (headed r.rules f) (length (args_of whole))) children →
      (pair : FlatTerm) → IsPairOf f whole pair → (rule : Rule) → Contains (headed r.rules f) rule → TryLifts r unifiers v record { at = pair; rule = rule } children
  pairs_lift f whole children h pair p rule listed = go (funpack p.part.taken) refl where
    at_two : (t u : FlatTerm) → funpack p.part.taken ≡ t ∷ u ∷ [] → TryLifts r unifiers v record { at = pair; rule = rule } children
    at_two t u e =
        let all : funpack p.part.all ≡ args_of whole = sym (ap args_of p.part.is_sum) in
        let divided : IsDivided (args_of whole) (t ∷ u ∷ []) p.others = subst (λ m. IsDivided m (t ∷ u ∷ []) p.others) all (subst (λ m. IsDivided (funpack p.part.all) m p.others) e p.part.divided_into) in
        let places = places_of_two divided in
        let low = slice_get_within (args_of whole) places.j u places.second in
        let l = places.before in
        h record { at = pair; rule = rule } (
          places.i,
          omega (arith, low, l),
          (
            places.j,
            l,
            (
              low,
              (
                record {
                  first = t;
                  second = u;
                  at_first = places.first;
                  at_second = places.second;
                  is = p.part.part_is ∙ ap (fapp f true) (sym (fpack-funpack p.part.taken) ∙ ap fpack e);
                },
                listed,
              ),
            ),
          ),
        )

    go : (l : List FlatTerm) → funpack p.part.taken ≡ l → TryLifts r unifiers v record { at = pair; rule = rule } children
    go [] e = let n = p.are_two in let m : 0 ≡ 2 = ap length (sym e) ∙ n in absurd (omega (arith, m))
    go (t ∷ []) e = let n = p.are_two in let m : 1 ≡ 2 = ap length (sym e) ∙ n in absurd (omega (arith, m))
    go (t ∷ u ∷ w ∷ l) e = let n = p.are_two in let m : length (t ∷ u ∷ w ∷ l) ≡ 2 = ap length (sym e) ∙ n in absurd (omega (arith, m))
    go (t ∷ u ∷ []) e = at_two t u e

-- copies of two forms, one behind the other
pub two_items : (l first second : List FlatTerm) (a b t u : FlatTerm) → l ≡ [] → first ≡ l ++ a ∷ [] → second ≡ first ++ b ∷ [] → a ≡ t → b ≡ u → second ≡ t ∷ u ∷ []
two_items l first second a b t u e1 e2 e3 ea eb = e3 ∙ ap (λ m. m ++ b ∷ []) (e2 ∙ ap (λ m. m ++ a ∷ []) e1) ∙ ap (λ w. w ∷ b ∷ []) ea ∙ ap (λ w. t ∷ w ∷ []) eb

-- what stands at the end of the path is a sum
pub sum_of : (r : Rewriting) → IsGood r.signature → (v : Variant) → AllFit r.signature v.terms → (member : ℕ) (path : List ℕ) (f : OpId) (whole : FlatTerm) → IsSumAt r v member path f whole → IsFitSum r.signature f whole
sum_of r good v terms member path f whole s = record {
  fits = path_fits r.signature good.fits path s.form.term whole (fits_at v.terms s.form.term terms (item_listed v.terms member s.form.term s.form.is)) s.form.leads;
  heads = s.form.heads;
  associative = s.associative;
}

-- one pair more
pub pair_more : (f : OpId) (ts : List FlatTerm) (rules : List Rule) (i j : ℕ) (try : Try) → IsTryFrom f ts rules (i, j + 1) try → IsTryFrom f ts rules (i, j) try ⊎ IsTryAt f ts rules (i, j) try
pair_more f ts rules i j try c = elim (less_or_equal c.0 j c.2.0) [
  | inl k ↦ inl (c.0, c.1, (k, c.2.1))
  | inr e ↦ inr (subst (λ m. IsTryAt f ts rules (i, m) try) e c.2.1)
]

-- one first summand more
pub first_more : (f : OpId) (ts : List FlatTerm) (rules : List Rule) (i : ℕ) (try : Try) → IsTryBefore f ts rules (i + 1) try → IsTryBefore f ts rules i try ⊎ IsTryFrom f ts rules (i, length ts) try
first_more f ts rules i try c = elim (less_or_equal c.0 i c.1) [
  | inl k ↦ inl (c.0, k, c.2)
  | inr e ↦ inr (subst (λ m. IsTryFrom f ts rules (m, length ts) try) e c.2)
]

-- a form that is the one before it
pub again_at : (ts : List FlatTerm) (first place : ℕ) (t u : FlatTerm) → first < place → place < length ts → t ≡ get_or ts (place - 1) t → u ≡ get_or ts place u → t ≡ u → StandsAgain ts first place
again_at ts first place t u behind within t_is u_is same =
    record {
      before = place - 1;
      behind = omega (arith, behind);
      next = omega (arith, behind);
      again = slice_get_read ts (length ts) (place - 1) t refl (omega (arith, within)) t_is ∙ ap Some same ∙ sym (slice_get_read ts (length ts) place u refl within u_is);
    }

-- what is tried at a pair is tried at one with a form that stands there again
second_again : (f : OpId) (ts : List FlatTerm) (rules : List Rule) (i j k : ℕ) → slice_get ts k ≡ slice_get ts j → (try : Try) → IsTryAt f ts rules (i, j) try → IsTryAt f ts rules (i, k) try
second_again f ts rules i j k again try c =
    let p = c.0 in
    (record { first = p.first; second = p.second; at_first = p.at_first; at_second = again ∙ p.at_second; is = p.is }, c.1)

first_again : (f : OpId) (ts : List FlatTerm) (rules : List Rule) (i j k : ℕ) → slice_get ts k ≡ slice_get ts i → (try : Try) → IsTryAt f ts rules (i, j) try → IsTryAt f ts rules (k, j) try
first_again f ts rules i j k again try c =
    let p = c.0 in
    (record { first = p.first; second = p.second; at_first = again ∙ p.at_first; at_second = p.at_second; is = p.is }, c.1)

-- so pairs with it are among those before
pub pair_again : (f : OpId) (ts : List FlatTerm) (rules : List Rule) (i j : ℕ) → StandsAgain ts (i + 1) j → (try : Try) → IsTryFrom f ts rules (i, j + 1) try → IsTryFrom f ts rules (i, j) try
pair_again f ts rules i j a try c = elim (pair_more f ts rules i j try c) [
  | inl k ↦ k
  | inr n ↦
      let behind = a.behind in
      let next = a.next in
      (a.before, omega (arith, behind), (omega (arith, next), second_again f ts rules i j a.before a.again try n))
]

pub first_pairs_again : (f : OpId) (ts : List FlatTerm) (rules : List Rule) (i : ℕ) → StandsAgain ts 0 i → (try : Try) → IsTryBefore f ts rules (i + 1) try → IsTryBefore f ts rules i try
first_pairs_again f ts rules i a try c = elim (first_more f ts rules i try c) [
  | inl k ↦ k
  | inr n ↦
      let next = a.next in
      let later = n.1 in
      (a.before, omega (arith, next), (n.0, omega (arith, next, later), (n.2.0, first_again f ts rules i n.0 a.before a.again try n.2.1)))
]
