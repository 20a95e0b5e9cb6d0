-- Places that are found one after the other.
use Rattle.std.proofs.Common.{◌≡◌, ◌⊎◌, ◌<◌, ◌≤◌, ◌+◌, ℕ, List, [], ◌∷◌, ◌++◌, take, length, get_or, None, Some, sym, ap, ◌∙◌, subst, inl, inr, arith}
use Rattle.std.specs.Prelude.{All, Contains, slice_get}
use Rattle.std.proofs.lemmas.Option.{slice_get_within}
use Rattle.std.proofs.lemmas.List.{take_all}
use Rattle.std.proofs.lemmas.List.Elements.{All-nil, All-push, Contains-append_left, Contains-append_right}
use Rattle.fvn_base.proofs.Membership.{contains_here, contains_none}
use Rattle.fvn_terms.specs.declared.plain.OpId.{OpId}
use Rattle.fvn_forms.specs.Flat.{FlatTerm}
use Rattle.fvn_flat.specs.Forms.{head_of}
use Rattle.fvn_rewrite_rules.specs.Given.{RuleLists, headed}
use Rattle.fvn_places.specs.Paths.{LeadsTo, LeadsNowhere, paths}
use Rattle.fvn_places.proofs.PathFacts.{leads_once}
use Rattle.fvn_narrow.specs.declared.placing.Place.{Place}
use Rattle.fvn_narrow.specs.inner.Placing.{HasPlace, IsNeeded, StandsAt, StandsIn, StandsAmong, IsPlaceIn, ArePlacesWith, ArePlaces}
use Rattle.fvn_narrow.proofs.Along.{leads_listed}
use Rattle.fvn_narrow.proofs.Joined.{last_or_earlier, less_or_equal, none_below}

one_form : (a b : FlatTerm) → Some a ≡ Some b → a ≡ b
one_form a b e = cc

none_is_some : (f : OpId) → None ≡ Some f → ⊥
none_is_some f e = cc

one_operator : (f g : OpId) → Some f ≡ Some g → f ≡ g
one_operator f g e = cc

module _ (rules : RuleLists) (terms : List FlatTerm) where
  -- no place is new
  pub none_added : (Covered : FlatTerm → Type 0) (places : List Place) → ((at : FlatTerm) → Covered at → IsNeeded rules at → HasPlace places at) → ArePlacesWith rules terms Covered places places
  none_added Covered places h = record { sound = λ s. s; kept = λ at p. p; enough = h }

  -- first some, then others
  pub both_added : (First Second Both : FlatTerm → Type 0) → ((at : FlatTerm) → Both at → First at ⊎ Second at) → (before now all : List Place) →
      ArePlacesWith rules terms First before now → ArePlacesWith rules terms Second now all → ArePlacesWith rules terms Both before all
  both_added First Second Both either before now all a b = record {
    sound = λ s. b.sound (a.sound s);
    kept = λ at h. b.kept at (a.kept at h);
    enough = λ at c n. elim (either at c) [ inl f ↦ b.kept at (a.enough at f n) | inr s ↦ b.enough at s n ];
  }

  -- at the end of one path
  module _ (member : ℕ) (term : FlatTerm) (is : slice_get terms member ≡ Some term) (path : List ℕ) where
    at_end : (there : FlatTerm) → StandsAt terms member path there → LeadsTo path term there
    at_end there s = subst (λ t. LeadsTo path t there) (one_form s.term term (sym s.is ∙ is)) s.leads

    pub no_form : LeadsNowhere path term → (places : List Place) → ArePlacesWith rules terms (StandsAt terms member path) places places
    no_form none places = none_added (StandsAt terms member path) places (λ there s n. absurd (none there (at_end there s)))

    module _ (at : FlatTerm) (leads : LeadsTo path term at) where
      one_end : (there : FlatTerm) → StandsAt terms member path there → at ≡ there
      one_end there s = leads_once path term at there leads (at_end there s)

      pub no_head : head_of at ≡ None → (places : List Place) → ArePlacesWith rules terms (StandsAt terms member path) places places
      no_head none places = none_added (StandsAt terms member path) places (λ there s n. absurd (none_is_some n.operator (sym none ∙ ap head_of (one_end there s) ∙ n.heads)))

      pub no_rule : (f : OpId) → head_of at ≡ Some f → headed rules f ≡ [] → (places : List Place) → ArePlacesWith rules terms (StandsAt terms member path) places places
      no_rule f heads none places = none_added (StandsAt terms member path) places (
          λ there s n.
          let same : n.operator ≡ f = one_operator n.operator f (sym n.heads ∙ sym (ap head_of (one_end there s)) ∙ heads) in
          absurd (contains_none n.rule (subst (λ l. Contains l n.rule) (ap (headed rules) same ∙ none) n.listed))
          )

      pub has_one : (places : List Place) → HasPlace places at → ArePlacesWith rules terms (StandsAt terms member path) places places
      has_one places h = none_added (StandsAt terms member path) places (λ there s n. subst (HasPlace places) (one_end there s) h)

      pub one_added : (f : OpId) → head_of at ≡ Some f → (places all : List Place) (place : Place) → all ≡ places ++ place ∷ [] → place.member ≡ member → place.path ≡ path → place.at.now ≡ at → place.head ≡ f →
          ArePlacesWith rules terms (StandsAt terms member path) places all
      one_added f heads places all place e member_is path_is at_is head_is = record {
        sound = λ s. subst (All (IsPlaceIn terms)) (sym e) (All-push (IsPlaceIn terms) places place s stands);
        kept = λ there h. (h.0, subst (λ l. Contains l h.0) (sym e) (Contains-append_left places (place ∷ []) h.0 h.1), h.2);
        enough = λ there s n. (place, subst (λ l. Contains l place) (sym e) (Contains-append_right places (place ∷ []) place (contains_here place [])), at_is ∙ one_end there s);
      } where
        stands : IsPlaceIn terms place
        stands = record {
          stands = record { term = term; is = ap (slice_get terms) member_is ∙ is; leads = subst (λ p. LeadsTo p term place.at.now) (sym path_is) (subst (LeadsTo path term) (sym at_is) leads) };
          heads = ap head_of at_is ∙ heads ∙ ap Some (sym head_is);
        }

  -- at the ends of these paths
  abbrev pub AtOne : ℕ → List (List ℕ) → FlatTerm → Type 0
  AtOne member list at = (path : List ℕ) × Contains list path × StandsAt terms member path at

  pub at_none : (member : ℕ) (places : List Place) → ArePlacesWith rules terms (AtOne member []) places places
  at_none member places = none_added (AtOne member []) places (λ at s n. absurd (contains_none s.0 s.1))

  pub path_added : (member : ℕ) (list : List (List ℕ)) (i : ℕ) (path : List ℕ) → i < length list → path ≡ get_or list i path → (before now all : List Place) →
      ArePlacesWith rules terms (AtOne member (take i list)) before now → ArePlacesWith rules terms (StandsAt terms member path) now all → ArePlacesWith rules terms (AtOne member (take (i + 1) list)) before all
  path_added member list i path within is = both_added (AtOne member (take i list)) (StandsAt terms member path) (AtOne member (take (i + 1) list)) either where
    either : (at : FlatTerm) → AtOne member (take (i + 1) list) at → AtOne member (take i list) at ⊎ StandsAt terms member path at
    either at s = elim (last_or_earlier list i path s.0 within is s.1) [
      | inl c ↦ inl (s.0, c, s.2)
      | inr e ↦ inr (subst (λ p. StandsAt terms member p at) (sym e) s.2)
    ]

  -- in one of the terms, where all its paths were taken
  pub in_term : (member : ℕ) (term : FlatTerm) → slice_get terms member ≡ Some term → (list : List (List ℕ)) → list ≡ paths term → (i : ℕ) → length list ≤ i → (before all : List Place) →
      ArePlacesWith rules terms (AtOne member (take i list)) before all → ArePlacesWith rules terms (StandsIn terms member) before all
  in_term member term is list list_is i end before all a = record {
    sound = a.sound;
    kept = a.kept;
    enough = λ at s n.
        let same : s.1.term ≡ term = one_form s.1.term term (sym s.1.is ∙ is) in
        let listed : Contains (paths s.1.term) s.0 = leads_listed s.0 s.1.term at n.operator s.1.leads n.heads in
        a.enough at (s.0, subst (λ l. Contains l s.0) (ap paths same ∙ sym list_is ∙ sym (take_all i list end)) listed, s.1) n;
  }

  -- in the first terms
  pub among_none : (places : List Place) → ArePlacesWith rules terms (StandsAmong terms 0) places places
  among_none places = none_added (StandsAmong terms 0) places (λ at s n. absurd (none_below s.0 s.1))

  pub term_added : (i : ℕ) (before now all : List Place) → ArePlacesWith rules terms (StandsAmong terms i) before now → ArePlacesWith rules terms (StandsIn terms i) now all → ArePlacesWith rules terms (StandsAmong terms (i + 1)) before all
  term_added i = both_added (StandsAmong terms i) (StandsIn terms i) (StandsAmong terms (i + 1)) either where
    either : (at : FlatTerm) → StandsAmong terms (i + 1) at → StandsAmong terms i at ⊎ StandsIn terms i at
    either at s = elim (less_or_equal s.0 i s.1) [
      | inl l ↦ inl (s.0, l, s.2)
      | inr e ↦ inr (subst (λ m. StandsIn terms m at) e s.2)
    ]

  pub all_added : (count : ℕ) → length terms ≤ count → (all : List Place) → ArePlacesWith rules terms (StandsAmong terms count) [] all → ArePlaces rules terms all
  all_added count long all a = record {
    sound = a.sound (All-nil (IsPlaceIn terms));
    enough = λ member at s n. let low = slice_get_within terms member s.1.term s.1.is in a.enough at (member, omega (arith, low, long), s) n;
  }
