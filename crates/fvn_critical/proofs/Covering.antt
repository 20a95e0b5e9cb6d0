-- What is tested, one after another.
use Rattle.std.proofs.Common.{◌≡◌, ◌⊎◌, ◌+◌, ◌≤◌, ◌<◌, ℕ, List, [], ◌∷◌, ◌++◌, take, drop, length, get_or, Some, None, inl, inr, refl, sym, ap, ◌∙◌, subst, arith}
use Rattle.std.specs.Prelude.{Option, All, Contains, slice_get}
use Rattle.std.proofs.lemmas.Bool.{cases_lt}
use Rattle.std.proofs.lemmas.List.{take_more, take_all, get_or-drop, length-drop}
use Rattle.std.proofs.lemmas.List.Elements.{All-nil, All-cons, All-append, Contains-append_cases}
use Rattle.fvn_base.proofs.Membership.{contains_cases, contains_none}
use Rattle.fvn_terms.specs.declared.plain.OpId.{OpId}
use Rattle.fvn_terms.specs.Substitution.{Substitution}
use Rattle.fvn_terms.specs.Unifiers.{Problem}
use Rattle.fvn_forms.specs.Flat.{FlatTerm}
use Rattle.fvn_flat.specs.Forms.{head_of}
use Rattle.fvn_rewrite.specs.Usable.{Rewriting, equations_by}
use Rattle.fvn_rewrite_rules.specs.declared.rule.Rule.{Rule}
use Rattle.fvn_places.specs.Paths.{LeadsTo}
use Rattle.fvn_places.proofs.PathFacts.{leads_once}
use Rattle.fvn_critical_pairs.specs.Overlaps.{Overlap, IsOverlapWith, Joins}
use Rattle.fvn_critical.specs.declared.fault.CriticalFault.{CriticalFault}
use Rattle.fvn_critical.specs.Faults.{IsCriticalFault}
use Rattle.fvn_critical.specs.inner.Choosing.{AreAmong}
use Rattle.fvn_critical.specs.inner.Testing.{TestedAs, Each, JoinWith, JoinAt, inner_rules, IsJoinedAlong, AreJoinedUpTo}

module _ {A : Type 0} (P : A → Type 0) where
  pub each_none : Each P []
  each_none x c = absurd (contains_none x c)

  pub each_more : (l : List A) (i : ℕ) (x : A) → i < length l → x ≡ get_or l i x → Each P (take i l) → P x → Each P (take (i + 1) l)
  each_more l i x within is before here y c = go (Contains-append_cases (take i l) (x ∷ []) y (subst (λ m. Contains m y) more c))
    where
      more : take (i + 1) l ≡ take i l ++ x ∷ []
      more = take_more l i x within ∙ ap (λ z. take i l ++ z ∷ []) (sym is)

      last : (x ≡ y) ⊎ Contains [] y → P y
      last (inl e) = subst P e here
      last (inr n) = absurd (contains_none y n)

      go : Contains (take i l) y ⊎ Contains (x ∷ []) y → P y
      go (inl k) = before y k
      go (inr k) = last (contains_cases x [] y k)

  pub each_all : (l : List A) (i : ℕ) → length l ≤ i → Each P (take i l) → Each P l
  each_all l i end h = subst (Each P) (take_all i l end) h

  pub all_more : (l : List A) (i : ℕ) (x : A) → i < length l → x ≡ get_or l i x → All P (take i l) → P x → All P (take (i + 1) l)
  all_more l i x within is before here = subst (All P) (sym (take_more l i x within ∙ ap (λ z. take i l ++ z ∷ []) (sym is))) (All-append P (take i l) (x ∷ []) before (All-cons P x [] here (All-nil P)))

  pub all_at_end : (l : List A) (i : ℕ) → length l ≤ i → All P (take i l) → All P l
  all_at_end l i end h = subst (All P) (take_all i l end) h

module _ (r : Rewriting) (drawn : Problem → Substitution → Type 0) (unifiers : ℕ) where
  -- no fault, or one
  pub shown : (Shown : Type 0) (f : Option CriticalFault) → f ≡ None → TestedAs r drawn unifiers Shown f → Shown
  shown Shown None e h = h
  shown Shown (Some w) e h = cc

  pub faulty : (Shown : Type 0) (f : Option CriticalFault) (w : CriticalFault) → f ≡ Some w → TestedAs r drawn unifiers Shown f → IsCriticalFault r drawn unifiers w
  faulty Shown f w e h = subst (TestedAs r drawn unifiers Shown) e h

  -- what is shown besides
  pub weaker : (Shown More : Type 0) → (Shown → More) → (f : Option CriticalFault) → TestedAs r drawn unifiers Shown f → TestedAs r drawn unifiers More f
  weaker Shown More g None h = g h
  weaker Shown More g (Some w) h = h

-- the overlaps at a path
module _ (r : Rewriting) (outer : Rule) (path : List ℕ) where
  abbrev Tells : Overlap → Type 0
  Tells o = IsOverlapWith r.rules o

  same_item : {A : Type 0} (a b : A) → Some a ≡ Some b → a ≡ b
  same_item a b e = cc

  leads_there : (o : Overlap) → o.outer ≡ outer → o.path ≡ path → Tells o → LeadsTo path outer.left o.at
  leads_there o same there h = subst (λ p. LeadsTo p outer.left o.at) there (subst (λ (z : Rule). LeadsTo o.path z.left o.at) same h.leads)

  -- no form stands there, or one without a head
  pub nowhere : (chosen : List Rule) → ((at : FlatTerm) → LeadsTo path outer.left at → ⊥) → JoinAt r chosen outer path
  nowhere chosen n o same there h i = absurd (n o.at (leads_there o same there h))

  pub headless : (chosen : List Rule) → (at : FlatTerm) → LeadsTo path outer.left at → head_of at ≡ None → JoinAt r chosen outer path
  headless chosen at leads e o same there h i =
      let is : o.at ≡ at = leads_once path outer.left o.at at (leads_there o same there h) leads in
      let q : Some h.operator ≡ None = sym h.heads ∙ ap head_of is ∙ e in cc

  -- the head of the part is that of the inner left side
  module _ (at : FlatTerm) (leads : LeadsTo path outer.left at) (head : OpId) (heads : head_of at ≡ Some head) where
    pub operator_is : (o : Overlap) → o.outer ≡ outer → o.path ≡ path → (h : Tells o) → h.operator ≡ head
    operator_is o same there h =
        let is : o.at ≡ at = leads_once path outer.left o.at at (leads_there o same there h) leads in
        same_item h.operator head (sym h.heads ∙ ap head_of is ∙ heads)

    pub other_head : (inner : Rule) → (head_of inner.left ≡ Some head → ⊥) → JoinWith r outer path inner
    other_head inner n o same there this h =
        absurd (n (subst (λ (z : Rule). head_of z.left ≡ Some head) this (subst (λ f. head_of o.inner.left ≡ Some f) (operator_is o same there h) h.heads_inner)))

    -- the overlap that is tested is each one there with this rule
    pub with_this : (inner : Rule) → Joins r.signature (equations_by r) record { outer = outer; path = path; at = at; inner = inner } → JoinWith r outer path inner
    with_this inner j o same there this h =
        let is : o.at ≡ at = leads_once path outer.left o.at at (leads_there o same there h) leads in
        let whole : o ≡ record { outer = outer; path = path; at = at; inner = inner } = λ i. record { outer = same i; path = there i; at = is i; inner = this i } in
        subst (Joins r.signature (equations_by r)) (sym whole) j

  pub with_all : (chosen : List Rule) → Each (JoinWith r outer path) chosen → JoinAt r chosen outer path
  with_all chosen h o same there k i = h o.inner i o same there refl k

-- the inner rules at a path are chosen ones
pub inner_among : (chosen later rules : List Rule) → AreAmong chosen rules → AreAmong later chosen → (path : List ℕ) → AreAmong (inner_rules chosen later path) rules
inner_among chosen later rules all some [] rule c = all rule (some rule c)
inner_among chosen later rules all some (i ∷ path) rule c = all rule c

-- one rule more
module _ (r : Rewriting) (chosen : List Rule) where
  pub none_joined : AreJoinedUpTo r chosen 0
  none_joined i rule few at = absurd (omega (arith, few))

  pub joined_more : (n : ℕ) (rule : Rule) → slice_get chosen n ≡ Some rule → AreJoinedUpTo r chosen n → IsJoinedAlong r chosen (drop n chosen) rule → AreJoinedUpTo r chosen (n + 1)
  joined_more n rule here before joined i other few at = go (cases_lt i n)
    where
      go : (i < n) ⊎ (n ≤ i) → IsJoinedAlong r chosen (drop i chosen) other
      go (inl l) = before i other l at
      go (inr h) =
          let e : n ≡ i = omega (arith, few, h) in
          let q : Some rule ≡ Some other = sym here ∙ ap (slice_get chosen) e ∙ at in
          let same : rule ≡ other = cc in
          subst (IsJoinedAlong r chosen (drop i chosen)) same (subst (λ k. IsJoinedAlong r chosen (drop k chosen) rule) e joined)

  pub behind_chosen : (i : ℕ) → AreAmong (drop i chosen) chosen
  behind_chosen i rule (k, within, e) =
      let few = length-drop i chosen in
      (i + k, omega (arith, within, few), sym (get_or-drop i chosen k rule) ∙ e)
