-- Choices that are left out, and losses that are sought at one sort after another.
use Rattle.std.proofs.Common.{◌≡◌, ◌<◌, ◌≤◌, ◌+◌, ℕ, length, Bool, true, false, not, List, [], ◌∷◌, ◌++◌, take, Option, Some, None, get_or, refl, sym, ap, ◌∙◌, subst, subst₂, inl, inr, arith}
use Rattle.std.specs.Prelude.{if◌then◌else◌, ◌&&◌, ◌||◌, MatchOption}
use Rattle.std.specs.List.{Contains, AllZip}
use Rattle.std.proofs.lemmas.Bool.{true≢false, false≢true, cases_lt}
use Rattle.std.proofs.lemmas.List.{get_or_past, take_more}
use Rattle.std.proofs.lemmas.List.Elements.{AllZip-push, Contains-push, Contains-push_cases, Contains-append_left}
use Rattle.fvn_base.proofs.Membership.{contains_here, contains_later, contains_cases}
use Rattle.fvn_terms.specs.declared.plain.Var.{Var}
use Rattle.fvn_terms.specs.declared.plain.OpId.{OpId}
use Rattle.fvn_terms.specs.declared.plain.SortId.{SortId}
use Rattle.fvn_terms.specs.declared.declarations.Declarations.{Declarations}
use Rattle.fvn_terms.specs.Term.{Term}
use Rattle.fvn_terms.specs.Plain.{term}
use Rattle.fvn_terms.specs.Substitution.{same_var, Occurs}
use Rattle.fvn_terms.specs.Signature.{AtOrBelow, same, to_kind, kind}
use Rattle.fvn_forms.specs.SortOrder.{at_or_below, sort_number}
use Rattle.fvn_forms.specs.Good.{IsGood}
use Rattle.fvn_forms.proofs.SortOrder.{AtOrBelow-trans}
use Rattle.fvn_forms.proofs.SortTests.{at_or_below-true, at_or_below-complete}
use Rattle.fvn_signature.specs.Queries.{IsCompleted}
use Rattle.fvn_flat.specs.Variables.{listed}
use Rattle.fvn_flat.proofs.Binding.{same_var_is}
use Rattle.fvn_rewrite_laws.specs.declared.shapes.Shape.{Shape}
use Rattle.fvn_rewrite_laws.specs.Shapes.{shape_in}
use Rattle.fvn_rewrite_laws.specs.Choices.{sort_choices, IsChoice}
use Rattle.fvn_rewrite_laws.specs.Kinds.{IsKindedEquation}
use Rattle.fvn_rewrite_laws.proofs.Listing.{var_listed, listed_var}
use Rattle.fvn_rewrite_laws.proofs.Trimming.{shape_agrees}
use Rattle.fvn_rewrite_laws.proofs.Losing.{choice_loses, choices_decrease}
use Rattle.fvn_cohere.specs.Promises.{LosesAs}
use Rattle.fvn_cohere.specs.declared.searching.Search.{Search}
use Rattle.fvn_cohere.specs.declared.searching.Sought.{Sought}
use Rattle.fvn_cohere.specs.declared.searching.Sought.TheVariants.{Loss, LossAt, ToVariable, ToIdentity}
use Rattle.fvn_cohere.specs.inner.Searching.{is_variable_root, is_identity_root, is_lost_at, is_met, with_shape, some_choice, unchosen_of}
use Rattle.fvn_cohere.specs.inner.Outlooks.{offered, IsAllowed, Fills, Offers}
use Rattle.fvn_cohere.specs.inner.Posed.{IsPosed, is_sought}
use Rattle.fvn_cohere.specs.inner.Narrowing.{staying, others_of, KeepsShapes, IsNarrowed, FindsAs, LosesAtNone, LosesIn}
use Rattle.fvn_cohere.proofs.Foreseen.{fitting}
use Rattle.fvn_cohere.proofs.Hopeless.{stays_allowed, choices_allowed, found, none_passes}

-- the shapes of values decide what is sought
pub met_agrees : (d : Declarations) (es : List OpId) (left right : Term) (sought : Sought) (f g : Var → Shape) → ((y : Var) → f y ≡ g y) → is_met d sought es left right f ≡ is_met d sought es left right g
met_agrees d es left right sought f g h = go sought where
  on : (t : Term) → shape_in d f t ≡ shape_in d g t
  on t = shape_agrees d f g t (λ x o. h x)

  go : (sought : Sought) → is_met d sought es left right f ≡ is_met d sought es left right g
  go Loss = ap (λ (z : Shape). not (at_or_below d z.sort (shape_in d f left).sort)) (on right) ∙ ap (λ (z : Shape). not (at_or_below d (shape_in d g right).sort z.sort)) (on left)
  go (LossAt s) = ap (λ (z : Shape). is_lost_at d s z.sort (shape_in d f right).sort) (on left) ∙ ap (λ (z : Shape). is_lost_at d s (shape_in d g left).sort z.sort) (on right)
  go ToVariable = ap (λ (z : Shape). is_variable_root z.root) (on left)
  go ToIdentity = ap (λ (z : Shape). is_identity_root es z.root) (on left)

-- what is offered of the others
module _ (x : Var) where
  others_none : (unchosen : List (Var × List Shape)) (y : Var) → same_var x y ≡ true → offered (others_of x unchosen) y ≡ None
  others_none [] y e = refl
  others_none (v ∷ unchosen) y e = go (same_var v.0 x) refl (others_none unchosen y e) where
    go : (b : Bool) → same_var v.0 x ≡ b → offered (others_of x unchosen) y ≡ None → offered (if not b then v ∷ others_of x unchosen else others_of x unchosen) y ≡ None
    go true p rest = rest
    go false p rest = ap (λ c. if c then Some v.1 else offered (others_of x unchosen) y) (subst (λ z. same_var v.0 z ≡ false) (same_var_is x y e) p) ∙ rest

  others_kept : (unchosen : List (Var × List Shape)) (y : Var) → same_var x y ≡ false → offered (others_of x unchosen) y ≡ offered unchosen y
  others_kept [] y e = refl
  others_kept (v ∷ unchosen) y e = go (same_var v.0 x) refl (others_kept unchosen y e) where
    go : (b : Bool) → same_var v.0 x ≡ b → offered (others_of x unchosen) y ≡ offered unchosen y →
        offered (if not b then v ∷ others_of x unchosen else others_of x unchosen) y ≡ (if same_var v.0 y then Some v.1 else offered unchosen y)
    go true p rest = rest ∙ sym (ap (λ c. if c then Some v.1 else offered unchosen y) (subst (λ (z : Var). same_var z y ≡ false) (sym (same_var_is v.0 x p)) e))
    go false p rest = ap (λ r. if same_var v.0 y then Some v.1 else r) rest

  -- a choice for all variables is one for the others, with what it has for x
  pub fills_others : (d : Declarations) (unchosen : List (Var × List Shape)) (filled : Var → Shape) → Fills d unchosen staying filled → Fills d (others_of x unchosen) (with_shape staying x (filled x)) filled
  fills_others d unchosen filled fills = record { allowed = fills.allowed; each = λ y. go y (same_var x y) refl } where
    go : (y : Var) (b : Bool) → same_var x y ≡ b → MatchOption (offered (others_of x unchosen) y) (filled y ≡ (if b then filled x else staying y)) (λ shapes. Contains shapes (filled y))
    go y true p = subst (λ r. MatchOption r (filled y ≡ filled x) (λ shapes. Contains shapes (filled y))) (sym (others_none unchosen y p)) (ap filled (sym (same_var_is x y p)))
    go y false p = subst (λ r. MatchOption r (filled y ≡ staying y) (λ shapes. Contains shapes (filled y))) (sym (others_kept unchosen y p)) (fills.each y)

-- of no shape none is kept
pub keeps_none : (s : Search) (others : List (Var × List Shape)) (x : Var) → KeepsShapes s others x [] []
keeps_none s others x = record { only = λ o c. c; sought = λ filled fills met c. c }

-- one of the shapes more, that is kept or not
module _ (s : Search) (others : List (Var × List Shape)) (x : Var) (shapes kept : List Shape) (o : Shape) (h : KeepsShapes s others x shapes kept) where
  abbrev IsKept : List Shape → Type 0
  IsKept kept = (filled : Var → Shape) → Fills s.sig.now others (with_shape staying x (filled x)) filled → is_sought s filled ≡ true → Contains (shapes ++ o ∷ []) (filled x) → Contains kept (filled x)

  pub keeps_one : KeepsShapes s others x (shapes ++ o ∷ []) (kept ++ o ∷ [])
  keeps_one = record { only = only; sought = sought } where
    only : (u : Shape) → Contains (kept ++ o ∷ []) u → Contains (shapes ++ o ∷ []) u
    only u c = elim (Contains-push_cases kept o u c) as (λ _. Contains (shapes ++ o ∷ []) u) [
      | inl i ↦ Contains-append_left shapes (o ∷ []) u (h.only u i)
      | inr e ↦ subst (Contains (shapes ++ o ∷ [])) e (Contains-push shapes o)
    ]

    sought : IsKept (kept ++ o ∷ [])
    sought filled fills met c = elim (Contains-push_cases shapes o (filled x) c) as (λ _. Contains (kept ++ o ∷ []) (filled x)) [
      | inl i ↦ Contains-append_left kept (o ∷ []) (filled x) (h.sought filled fills met i)
      | inr e ↦ subst (Contains (kept ++ o ∷ [])) e (Contains-push kept o)
    ]

  pub keeps_without : ((filled : Var → Shape) → Fills s.sig.now others (with_shape staying x o) filled → is_sought s filled ≡ false) → KeepsShapes s others x (shapes ++ o ∷ []) kept
  keeps_without excluded = record { only = λ u c. Contains-append_left shapes (o ∷ []) u (h.only u c); sought = sought } where
    sought : IsKept kept
    sought filled fills met c = elim (Contains-push_cases shapes o (filled x) c) as (λ _. Contains kept (filled x)) [
      | inl i ↦ h.sought filled fills met i
      | inr e ↦ absurd (true≢false (sym met ∙ excluded filled (subst (λ u. Fills s.sig.now others (with_shape staying x u) filled) (sym e) fills)))
    ]

  -- the shapes so far
  pub keeps_next : (i : ℕ) (all more : List Shape) (other : Shape) → i < length all → shapes ≡ take i all → o ≡ get_or all i other → more ≡ kept ++ o ∷ [] → KeepsShapes s others x (take (i + 1) all) more
  keeps_next i all more other within so_far is e = subst₂ (KeepsShapes s others x) (ap (λ l. l ++ o ∷ []) so_far ∙ sym (take_more all i other within ∙ ap (λ u. take i all ++ u ∷ []) (sym is))) (sym e) keeps_one

  pub keeps_past : (i : ℕ) (all : List Shape) (other : Shape) → i < length all → shapes ≡ take i all → o ≡ get_or all i other →
      ((filled : Var → Shape) → Fills s.sig.now others (with_shape staying x o) filled → is_sought s filled ≡ false) → KeepsShapes s others x (take (i + 1) all) kept
  keeps_past i all other within so_far is excluded = subst (λ l. KeepsShapes s others x l kept) (ap (λ l. l ++ o ∷ []) so_far ∙ sym (take_more all i other within ∙ ap (λ u. take i all ++ u ∷ []) (sym is))) (keeps_without excluded)

-- the shapes that are kept of one variable
narrowed_by : (s : Search) (v w : Var × List Shape) → w.0 ≡ v.0 → KeepsShapes s (others_of v.0 s.unchosen.now) v.0 v.1 w.1 → IsNarrowed s v w
narrowed_by s v w same_variable h = record {
  variable = same_variable;
  only = h.only;
  sought = λ filled fills met c. h.sought filled (fills_others v.0 s.sig.now s.unchosen.now filled fills) met c;
}

-- one variable more
pub narrowed_next : (s : Search) (vs ws more : List (Var × List Shape)) (i : ℕ) (v w : Var × List Shape) → i < length vs → v ≡ get_or vs i v → more ≡ ws ++ w ∷ [] → AllZip (IsNarrowed s) (take i vs) ws → IsNarrowed s v w → AllZip (IsNarrowed s) (take (i + 1) vs) more
narrowed_next s vs ws more i v w within is e h n =
    subst₂ (AllZip (IsNarrowed s)) (sym (take_more vs i v within ∙ ap (λ u. take i vs ++ u ∷ []) (sym is))) (sym e) (AllZip-push (IsNarrowed s) (take i vs) ws v w h n)

-- the shapes that are kept of one variable, from lists that are equal to its own
pub narrowed_from : (s : Search) (v : Var × List Shape) (others : List (Var × List Shape)) (shapes kept made : List Shape) → others ≡ others_of v.0 s.unchosen.now → shapes ≡ v.1 → made ≡ kept → KeepsShapes s others v.0 shapes kept → IsNarrowed s v (v.0, made)
narrowed_from s v others shapes kept made p q r h =
    narrowed_by s v (v.0, made) refl (subst (KeepsShapes s (others_of v.0 s.unchosen.now) v.0 v.1) (sym r) (subst₂ (λ l m. KeepsShapes s l v.0 m kept) p q h))

module _ (s : Search) where
  -- what is offered of variables with fewer shapes
  narrowed_none : (vs ws : List (Var × List Shape)) → AllZip (IsNarrowed s) vs ws → (y : Var) → offered vs y ≡ None → offered ws y ≡ None
  narrowed_none [] [] h y e = refl
  narrowed_none [] (w ∷ ws) h y e = absurd h
  narrowed_none (v ∷ vs) [] h y e = absurd h
  narrowed_none (v ∷ vs) (w ∷ ws) h y e = go (same_var v.0 y) refl e (narrowed_none vs ws h.1 y) where
    go : (b : Bool) → same_var v.0 y ≡ b → (if b then Some v.1 else offered vs y) ≡ None → (offered vs y ≡ None → offered ws y ≡ None) → (if same_var w.0 y then Some w.1 else offered ws y) ≡ None
    go true p e rest = let no : Some v.1 ≡ None = e in cc
    go false p e rest = ap (λ c. if c then Some w.1 else offered ws y) (ap (λ z. same_var z y) h.0.variable ∙ p) ∙ rest e

  pub narrowed_offers : (vs ws : List (Var × List Shape)) → AllZip (IsNarrowed s) vs ws → Offers s.sig.now vs → Offers s.sig.now ws
  narrowed_offers [] [] h offers = offers
  narrowed_offers [] (w ∷ ws) h offers = absurd h
  narrowed_offers (v ∷ vs) [] h offers = absurd h
  narrowed_offers (v ∷ vs) (w ∷ ws) h offers =
      let rest = narrowed_offers vs ws h.1 record { allowed = λ u c. offers.allowed u (contains_later v vs u c); once = offers.once.1 } in
      record {
        allowed = λ u c. elim (contains_cases w ws u c) as (λ _. (o : Shape) → Contains u.1 o → IsAllowed s.sig.now u.0 o) [
          | inl e ↦ subst (λ (z : Var × List Shape). (o : Shape) → Contains z.1 o → IsAllowed s.sig.now z.0 o) e (λ o i. subst (λ z. IsAllowed s.sig.now z o) (sym h.0.variable) (offers.allowed v (contains_here v vs) o (h.0.only o i)))
          | inr i ↦ rest.allowed u i
        ];
        once = (narrowed_none vs ws h.1 w.0 (ap (offered vs) h.0.variable ∙ offers.once.0), rest.once);
      }

  module _ (filled : Var → Shape) where
    abbrev IsFilled : Option (List Shape) → Var → Type 0
    IsFilled r y = MatchOption r (filled y ≡ staying y) (λ shapes. Contains shapes (filled y))

    narrowed_each : Fills s.sig.now s.unchosen.now staying filled → is_sought s filled ≡ true → (vs ws : List (Var × List Shape)) → AllZip (IsNarrowed s) vs ws → (y : Var) → IsFilled (offered vs y) y → IsFilled (offered ws y) y
    narrowed_each fills met [] [] h y k = k
    narrowed_each fills met [] (w ∷ ws) h y k = absurd h
    narrowed_each fills met (v ∷ vs) [] h y k = absurd h
    narrowed_each fills met (v ∷ vs) (w ∷ ws) h y k = go (same_var v.0 y) refl k (narrowed_each fills met vs ws h.1 y) where
      go : (b : Bool) → same_var v.0 y ≡ b → IsFilled (if b then Some v.1 else offered vs y) y → (IsFilled (offered vs y) y → IsFilled (offered ws y) y) → IsFilled (if same_var w.0 y then Some w.1 else offered ws y) y
      go true p k rest =
          subst (λ c. IsFilled (if c then Some w.1 else offered ws y) y) (sym (ap (λ z. same_var z y) h.0.variable ∙ p))
          (subst (λ z. Contains w.1 (filled z)) (same_var_is v.0 y p) (h.0.sought filled fills met (subst (λ z. Contains v.1 (filled z)) (sym (same_var_is v.0 y p)) k)))
      go false p k rest = subst (λ c. IsFilled (if c then Some w.1 else offered ws y) y) (sym (ap (λ z. same_var z y) h.0.variable ∙ p)) (rest k)

    wider_each : (vs ws : List (Var × List Shape)) → AllZip (IsNarrowed s) vs ws → (y : Var) → IsFilled (offered ws y) y → IsFilled (offered vs y) y
    wider_each [] [] h y k = k
    wider_each [] (w ∷ ws) h y k = absurd h
    wider_each (v ∷ vs) [] h y k = absurd h
    wider_each (v ∷ vs) (w ∷ ws) h y k = go (same_var v.0 y) refl (subst (λ z. IsFilled (if same_var z y then Some w.1 else offered ws y) y) h.0.variable k) (wider_each vs ws h.1 y) where
      go : (b : Bool) → same_var v.0 y ≡ b → IsFilled (if same_var v.0 y then Some w.1 else offered ws y) y → (IsFilled (offered ws y) y → IsFilled (offered vs y) y) → IsFilled (if b then Some v.1 else offered vs y) y
      go true p k rest = h.0.only (filled y) (subst (λ c. IsFilled (if c then Some w.1 else offered ws y) y) p k)
      go false p k rest = rest (subst (λ c. IsFilled (if c then Some w.1 else offered ws y) y) p k)

  -- what a search finds among fewer shapes is what it finds among all
  module _ (posed : IsPosed s) (ws : List (Var × List Shape)) (narrow : AllZip (IsNarrowed s) s.unchosen.now ws) where
    abbrev test : (Var → Shape) → Bool
    test = is_sought s

    fewer : Offers s.sig.now ws
    fewer = narrowed_offers s.unchosen.now ws narrow posed.offers

    pub finds_none : ((filled : Var → Shape) → Fills s.sig.now ws staying filled → test filled ≡ false) → FindsAs s false
    finds_none h = λ filled fills. go filled fills (test filled) refl where
      go : (filled : Var → Shape) → Fills s.sig.now s.unchosen.now staying filled → (b : Bool) → test filled ≡ b → test filled ≡ false
      go filled fills false p = p
      go filled fills true p = h filled record { allowed = fills.allowed; each = λ y. narrowed_each filled fills p s.unchosen.now ws narrow y (fills.each y) }

    pub finds : (b : Bool) → b ≡ some_choice test ws staying → FindsAs s b
    finds true e =
        let f = found s.sig.now test ws fewer staying (stays_allowed s.sig.now) (sym e) in
        (f.0, (record { allowed = f.1.0.allowed; each = λ y. wider_each f.0 s.unchosen.now ws narrow y (f.1.0.each y) }, f.1.1))
    finds false e = finds_none (none_passes s.sig.now test (met_agrees s.sig.now s.identities.now (term s.left.now) (term s.right.now) s.sought) ws fewer.once staying (sym e))

-- both parts of a conjunction
both : (a b : Bool) → (a && b) ≡ true → (a ≡ true) × (b ≡ true)
both true b h = (refl, h)
both false b h = absurd (false≢true h)

module _ (d : Declarations) (good : IsGood d) (completed : IsCompleted d) where
  -- what is no declared sort is its own kind
  own_kind : (s : SortId) → d.sorts ≤ s.0 → kind d s ≡ s
  own_kind s after = elim (cases_lt s.0 (length d.kinds)) as (λ _. kind d s ≡ s) [
    | inl l ↦ let k = completed.sort_of_kind s record { after_sorts = after; listed = l } in ap (kind d) (sym k.1.1) ∙ good.kinded.own k.0 ∙ k.1.1
    | inr m ↦ get_or_past d.kinds s.0 s m
  ]

  -- a sort that is lost
  pub lost_at : (s left right : SortId) → is_lost_at d s left right ≡ true → AtOrBelow d right left → ⊥
  lost_at s left right h below =
      let w = both (at_or_below d left s) (not (at_or_below d right s)) h in
      false≢true (ap not (sym (at_or_below-complete d (AtOrBelow-trans d below (at_or_below-true d left s w.0)))) ∙ w.1)

  -- a sort that is lost at no declared sort is not lost
  pub not_lost : (left right : SortId) → kind d left ≡ kind d right → ((k : ℕ) → k < d.sorts → is_lost_at d (sort_number k) left right ≡ false) → AtOrBelow d right left
  not_lost left right kinds h = elim (cases_lt left.0 d.sorts) as (λ _. AtOrBelow d right left) [
    | inl l ↦ declared (at_or_below d right left) refl (h left.0 l)
    | inr m ↦ to_kind (subst (λ z. AtOrBelow d z left) (sym (own_kind left m) ∙ kinds) same)
  ] where
    declared : (b : Bool) → at_or_below d right left ≡ b → is_lost_at d left left right ≡ false → AtOrBelow d right left
    declared true e n = at_or_below-true d right left e
    declared false e n =
        absurd (true≢false (sym (ap (λ a. a && not (at_or_below d right left)) (at_or_below-complete d (same {s = left})) ∙ ap not e) ∙ n))

-- sorts in turn
module _ (s : Search) where
  pub none_yet : LosesAtNone s 0
  none_yet k less = absurd (omega (arith, less))

  -- one that is not lost
  pub none_more : (n : ℕ) (b : Bool) → FindsAs (record s { sought = LossAt (sort_number n) }) b → b ≡ false → LosesAtNone s n → LosesAtNone s (n + 1)
  none_more n true h e before = absurd (true≢false e)
  none_more n false h e before = λ k less filled fills. elim (cases_lt k n) as (λ _. is_lost_at s.sig.now (sort_number k) (shape_in s.sig.now filled (term s.left.now)).sort (shape_in s.sig.now filled (term s.right.now)).sort ≡ false) [
    | inl l ↦ before k l filled fills
    | inr m ↦
        let is : n ≡ k = omega (arith, less, m) in
        subst (λ i. is_lost_at s.sig.now (sort_number i) (shape_in s.sig.now filled (term s.left.now)).sort (shape_in s.sig.now filled (term s.right.now)).sort ≡ false) is (h filled fills)
  ]

  module _ (good : IsGood s.sig.now) (completed : IsCompleted s.sig.now) where
    -- one that is lost
    pub lost_by : (n : ℕ) (b : Bool) → FindsAs (record s { sought = LossAt (sort_number n) }) b → b ≡ true → LosesIn s true
    lost_by n true h e = (h.0, (h.1.0, lost_at s.sig.now good completed (sort_number n) (shape_in s.sig.now h.0 (term s.left.now)).sort (shape_in s.sig.now h.0 (term s.right.now)).sort h.1.1))
    lost_by n false h e = absurd (false≢true e)

    -- all of them
    pub none_lost : IsKindedEquation s.sig.now (term s.left.now, term s.right.now) → (n : ℕ) → s.sig.now.sorts ≤ n → LosesAtNone s n → LosesIn s false
    none_lost kinded n all before filled fills =
        not_lost s.sig.now good completed (shape_in s.sig.now filled (term s.left.now)).sort (shape_in s.sig.now filled (term s.right.now)).sort
        ((fitting s.sig.now good filled fills.allowed (term s.left.now) kinded.kinds.kind kinded.kinds.left).0 ∙ sym (fitting s.sig.now good filled fills.allowed (term s.right.now) kinded.kinds.kind kinded.kinds.right).0)
        (λ k l. before k (omega (arith, l, all)) filled fills)

-- what is said where a variable is listed, and where it is not
module _ (choices : SortId → List Shape) where
  offered_listed : (vars : List Var) (y : Var) → listed vars y ≡ true → offered (unchosen_of choices vars) y ≡ Some (choices y.sort)
  offered_listed [] y h = absurd (false≢true h)
  offered_listed (x ∷ vars) y h = go (same_var x y) refl h (offered_listed vars y) where
    go : (b : Bool) → same_var x y ≡ b → (b || listed vars y) ≡ true → (listed vars y ≡ true → offered (unchosen_of choices vars) y ≡ Some (choices y.sort)) → (if b then Some (choices x.sort) else offered (unchosen_of choices vars) y) ≡ Some (choices y.sort)
    go true p h rest = ap (λ (z : Var). Some (choices z.sort)) (same_var_is x y p)
    go false p h rest = rest h

  offered_unlisted : (vars : List Var) (y : Var) → listed vars y ≡ false → offered (unchosen_of choices vars) y ≡ None
  offered_unlisted [] y h = refl
  offered_unlisted (x ∷ vars) y h = go (same_var x y) refl h (offered_unlisted vars y) where
    go : (b : Bool) → same_var x y ≡ b → (b || listed vars y) ≡ false → (listed vars y ≡ false → offered (unchosen_of choices vars) y ≡ None) → (if b then Some (choices x.sort) else offered (unchosen_of choices vars) y) ≡ None
    go true p h rest = absurd (true≢false h)
    go false p h rest = rest h

module _ (s : Search) (good : IsGood s.sig.now) (completed : IsCompleted s.sig.now) (kinded : IsKindedEquation s.sig.now (term s.left.now, term s.right.now)) (vars : List Var) (lists : s.unchosen.now ≡ unchosen_of (sort_choices s.sig.now) vars)
    (occurring : (x : Var) → Occurs x (term s.left.now) → Contains vars x) (only : (x : Var) → Contains vars x → Occurs x (term s.left.now)) where
  abbrev pub d : Declarations
  d = s.sig.now

  choice_of : (filled : Var → Shape) → Fills d s.unchosen.now staying filled → IsChoice (sort_choices d) (term s.left.now) filled
  choice_of filled fills x o =
      subst (λ r. MatchOption r (filled x ≡ staying x) (λ shapes. Contains shapes (filled x))) (ap (λ l. offered l x) lists ∙ offered_listed (sort_choices d) vars x (listed_var vars x (occurring x o))) (fills.each x)

  -- a choice for the variables of the left side, and others stay
  module _ (env : Var → Shape) (choice : IsChoice (sort_choices d) (term s.left.now) env) where
    abbrev filling : Var → Shape
    filling y = if listed vars y then env y else staying y

    filling_is : (x : Var) → Occurs x (term s.left.now) → filling x ≡ env x
    filling_is x o = ap (λ b. if b then env x else staying x) (listed_var vars x (occurring x o))

    filling_fills : Fills d s.unchosen.now staying filling
    filling_fills = record { allowed = λ y. allowed y (listed vars y) refl; each = λ y. each y (listed vars y) refl } where
      allowed : (y : Var) (b : Bool) → listed vars y ≡ b → IsAllowed d y (if b then env y else staying y)
      allowed y true e = choices_allowed d good completed Loss y (env y) (choice y (only y (var_listed vars y e)))
      allowed y false e = stays_allowed d y

      each : (y : Var) (b : Bool) → listed vars y ≡ b → MatchOption (offered s.unchosen.now y) ((if b then env y else staying y) ≡ staying y) (λ shapes. Contains shapes (if b then env y else staying y))
      each y true e = subst (λ r. MatchOption r (env y ≡ staying y) (λ shapes. Contains shapes (env y))) (sym (ap (λ l. offered l y) lists ∙ offered_listed (sort_choices d) vars y e)) (choice y (only y (var_listed vars y e)))
      each y false e = subst (λ r. MatchOption r (staying y ≡ staying y) (λ shapes. Contains shapes (staying y))) (sym (ap (λ l. offered l y) lists ∙ offered_unlisted (sort_choices d) vars y e)) refl

  -- what the answer says
  pub told : (b : Bool) → LosesIn s b → LosesAs d (term s.left.now) (term s.right.now) b
  told true h = choice_loses d good completed (term s.left.now) (term s.right.now) kinded.kinds kinded.brings_none h.0 (choice_of h.0 h.1.0) h.1.1
  told false h = choices_decrease d good completed (term s.left.now) (term s.right.now) kinded.kinds kinded.brings_none each where
    each : (env : Var → Shape) → IsChoice (sort_choices d) (term s.left.now) env → AtOrBelow d (shape_in d env (term s.right.now)).sort (shape_in d env (term s.left.now)).sort
    each env choice =
        rw (shape_agrees d (filling env choice) env (term s.right.now) (λ x o. filling_is env choice x (kinded.brings_none x o)), shape_agrees d (filling env choice) env (term s.left.now) (filling_is env choice)) at
        (h (filling env choice) (filling_fills env choice))
