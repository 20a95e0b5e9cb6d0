-- Members of lists, and what is gathered from expansions.
use Rattle.std.proofs.Common.{◌≡◌, ◌⊎◌, ◌+◌, ◌<◌, List, [], ◌∷◌, ◌++◌, length, get_or, take, drop, refl, sym, ap, ◌∙◌, subst, inl, inr}
use Rattle.std.specs.Prelude.{All, Any, Contains}
use Rattle.std.specs.List.{AllZip}
use Rattle.std.proofs.lemmas.List.{append-nil, append_assoc, take-append-drop, drop_more}
use Rattle.std.proofs.lemmas.List.Elements.{All-contains, All-push, Contains-get_or, Contains-append_left, Contains-append_right, Contains-append_cases}
use Rattle.fvn_base.proofs.Membership.{contains_here, contains_later, contains_cases, contains_none}
use Rattle.fvn_terms.specs.Substitution.{Substitution}
use Rattle.fvn_terms.specs.Unifiers.{Problem}
use Rattle.fvn_cover.specs.declared.variant.Variant.{Variant}
use Rattle.fvn_exploring.specs.declared.ends.Expansion.{Expansion}
use Rattle.fvn_exploring.specs.declared.ends.ExpandEnd.{ExpandEnd}
use Rattle.fvn_exploring.specs.declared.ends.ExpandEnd.TheVariants.{Whole}
use Rattle.fvn_exploring.specs.Setting.{Setting}
use Rattle.fvn_exploring.specs.Children.{IsChild}
use Rattle.fvn_exploring.specs.Liftings.{LiftsInto}
use Rattle.fvn_exploring.specs.Expansions.{IsExpandCause, IsExpansionOf}
use Rattle.fvn_fold.specs.Levels.{AreExpansions}
use Rattle.fvn_fold.specs.inner.Gathering.{all_children, AreWhole, IsGatheredFrom, AreGathered}

module _ {A : Type 0} where
  -- what holds of each member
  pub all_members : (P : A → Type 0) (xs : List A) → ((x : A) → Contains xs x → P x) → All P xs
  all_members P xs h k e l = h (get_or xs k e) (Contains-get_or xs k e l)

  pub any_member : (P : A → Type 0) (xs : List A) (x : A) → Contains xs x → P x → Any P xs
  any_member P xs x m p = (m.0, x, m.1, m.2, p)

  pub member_of_any : (P : A → Type 0) (xs : List A) → Any P xs → (x : A) × (Contains xs x × P x)
  member_of_any P xs (k, x, l, e, p) = (x, ((k, l, e), p))

-- members of lists side by side
module _ {A B : Type 0} (R : A → B → Type 0) where
  pub beside_second : (xs : List A) (ys : List B) → AllZip R xs ys → (y : B) → Contains ys y → (x : A) × (Contains xs x × R x y)
  beside_second [] [] h y m = absurd (contains_none y m)
  beside_second [] (z ∷ ys) h y m = absurd h
  beside_second (x ∷ xs) [] h y m = absurd h
  beside_second (x ∷ xs) (z ∷ ys) h y m = go (contains_cases z ys y m) (beside_second xs ys h.1 y) where
    go : (z ≡ y) ⊎ Contains ys y → (Contains ys y → (w : A) × (Contains xs w × R w y)) → (w : A) × (Contains (x ∷ xs) w × R w y)
    go (inl e) later = (x, (contains_here x xs, subst (R x) e h.0))
    go (inr i) later = let w = later i in (w.0, (contains_later x xs w.0 w.1.0, w.1.1))

  pub beside_first : (xs : List A) (ys : List B) → AllZip R xs ys → (x : A) → Contains xs x → (y : B) × (Contains ys y × R x y)
  beside_first [] ys h x m = absurd (contains_none x m)
  beside_first (z ∷ xs) [] h x m = absurd h
  beside_first (z ∷ xs) (y ∷ ys) h x m = go (contains_cases z xs x m) (beside_first xs ys h.1 x) where
    go : (z ≡ x) ⊎ Contains xs x → (Contains xs x → (w : B) × (Contains ys w × R x w)) → (w : B) × (Contains (y ∷ ys) w × R x w)
    go (inl e) later = (y, (contains_here y ys, subst (λ a. R a y) e h.0))
    go (inr i) later = let w = later i in (w.0, (contains_later y ys w.0 w.1.0, w.1.1))

-- a child of one of the expansions
pub child_of_one : (es : List Expansion) (c : Variant) → Contains (all_children es) c → (e : Expansion) × (Contains es e × Contains e.children c)
child_of_one [] c m = absurd (contains_none c m)
child_of_one (e ∷ es) c m = go (Contains-append_cases e.children (all_children es) c m) (child_of_one es c) where
  go : Contains e.children c ⊎ Contains (all_children es) c → (Contains (all_children es) c → (w : Expansion) × (Contains es w × Contains w.children c)) → (w : Expansion) × (Contains (e ∷ es) w × Contains w.children c)
  go (inl l) later = (e, (contains_here e es, l))
  go (inr r) later = let w = later r in (w.0, (contains_later e es w.0 w.1.0, w.1.1))

pub child_of_all : (es : List Expansion) (e : Expansion) (c : Variant) → Contains es e → Contains e.children c → Contains (all_children es) c
child_of_all [] e c m i = absurd (contains_none e m)
child_of_all (z ∷ es) e c m i = go (contains_cases z es e m) (λ l. child_of_all es e c l i) where
  go : (z ≡ e) ⊎ Contains es e → (Contains es e → Contains (all_children es) c) → Contains (z.children ++ all_children es) c
  go (inl same) later = Contains-append_left z.children (all_children es) c (subst (λ (w : Expansion). Contains w.children c) (sym same) i)
  go (inr l) later = Contains-append_right z.children (all_children es) c (later l)

-- one more expansion
pub all_children_more : (es : List Expansion) (e : Expansion) → all_children (es ++ e ∷ []) ≡ all_children es ++ e.children
all_children_more [] e = append-nil e.children
all_children_more (z ∷ es) e = ap (λ l. z.children ++ l) (all_children_more es e) ∙ sym (append_assoc z.children (all_children es) e.children)

-- the two parts of an expansion
abbrev pub Parts : Type 0
Parts = List Variant × ExpandEnd

abbrev pub IsPartsOf : Expansion → Parts → Type 0
IsPartsOf e p = ◌≡◌ {A = Parts} p (e.children, e.end)

pub gathered_more : (es : List Expansion) (e : Expansion) (candidates children : List Variant) (end : ExpandEnd) → IsPartsOf e (children, end) → candidates ≡ all_children es → candidates ++ children ≡ all_children (es ++ e ∷ [])
gathered_more es e candidates children end parts h = ap (λ l. l ++ children) h ∙ ap (λ (p : Parts). all_children es ++ p.0) parts ∙ sym (all_children_more es e)

pub whole_more : (es : List Expansion) (e : Expansion) (children : List Variant) (end : ExpandEnd) → IsPartsOf e (children, end) → end ≡ Whole → AreWhole es → AreWhole (es ++ e ∷ [])
whole_more es e children end parts w h = All-push (λ (e : Expansion). e.end ≡ Whole) es e h (sym (ap (λ (p : Parts). p.1) parts) ∙ w)

-- the first that is not whole
pub gathered_here : (all before : List Expansion) (e : Expansion) (candidates children : List Variant) (end : ExpandEnd) → before ≡ take (length before) all → length before < length all → e ≡ get_or all (length before) e →
    IsPartsOf e (children, end) → candidates ≡ all_children before → (end ≡ Whole → ⊥) → IsGatheredFrom all (candidates ++ children) end
gathered_here all before e candidates children end so_far l is parts h not =
    inr (before, e, drop (length before + 1) all, split, gathered_more before e candidates children end parts h, ap (λ (p : Parts). p.1) parts, not)
  where
    split : all ≡ before ++ e ∷ drop (length before + 1) all
    split =
        sym (take-append-drop (length before) all) ∙ ap (λ k. k ++ drop (length before) all) (sym so_far)
        ∙ ap (λ k. before ++ k) (drop_more all (length before) e l ∙ ap (λ z. z ∷ drop (length before + 1) all) (sym is))

-- what lifts into some lifts into what holds of these
pub lifts_weaker : (g : Setting) (v : Variant) (P Q : Variant → Type 0) → ((c : Variant) → P c → Q c) → LiftsInto g v P → LiftsInto g v Q
lifts_weaker g v P Q f h s keeps us r = let w = h s keeps us r in (w.0, f w.0 w.1, w.2)

module _ (g : Setting) (drawn : Problem → Substitution → Type 0) (members : List Variant) (es : List Expansion) (expanded : AreExpansions g drawn members es) where
  children_of_members : (some : List Expansion) → ((e : Expansion) → Contains some e → Contains es e) → All (λ c. Any (λ m. IsChild g drawn m c) members) (all_children some)
  children_of_members some within = all_members (λ c. Any (λ m. IsChild g drawn m c) members) (all_children some) (λ c m.
      let a = child_of_one some c m in
      let b = beside_second (IsExpansionOf g drawn) members es expanded a.0 (within a.0 a.1.0) in
      any_member (λ m. IsChild g drawn m c) members b.0 b.1.0 (All-contains (IsChild g drawn b.0) (a.0).children c (b.1.1).children a.1.1))

  gathered_whole : AreWhole es → AreGathered g drawn members (all_children es) Whole
  gathered_whole whole = record {
    children = children_of_members es (λ e m. m);
    whole = λ _. all_members (λ m. LiftsInto g m (Contains (all_children es))) members (λ m i.
        let a = beside_first (IsExpansionOf g drawn) members es expanded m i in
        lifts_weaker g m (Contains (a.0).children) (Contains (all_children es)) (λ c l. child_of_all es a.0 c a.1.0 l)
        ((a.1.1).whole (All-contains (λ e. e.end ≡ Whole) es a.0 whole a.1.0)));
    cause = inl refl;
  }

  gathered_cut : (before : List Expansion) (e : Expansion) (after : List Expansion) → es ≡ before ++ e ∷ after → (e.end ≡ Whole → ⊥) → AreGathered g drawn members (all_children (before ++ e ∷ [])) e.end
  gathered_cut before e after is not = record {
    children = children_of_members (before ++ e ∷ []) within;
    whole = λ w. absurd (not w);
    cause = inr (any_member (λ m. IsExpandCause g drawn m e.end) members there.0 there.1.0 (there.1.1).cause);
  } where
    listed : Contains es e
    listed = subst (λ l. Contains l e) (sym is) (Contains-append_right before (e ∷ after) e (contains_here e after))

    within : (w : Expansion) → Contains (before ++ e ∷ []) w → Contains es w
    within w m = subst (λ l. Contains l w) (sym is) (go (Contains-append_cases before (e ∷ []) w m)) where
      go : Contains before w ⊎ Contains (e ∷ []) w → Contains (before ++ e ∷ after) w
      go (inl l) = Contains-append_left before (e ∷ after) w l
      go (inr r) = Contains-append_right before (e ∷ after) w (one (contains_cases e [] w r))
        where
          one : (e ≡ w) ⊎ Contains [] w → Contains (e ∷ after) w
          one (inl s) = subst (Contains (e ∷ after)) s (contains_here e after)
          one (inr n) = absurd (contains_none w n)

    there : (m : Variant) × (Contains members m × IsExpansionOf g drawn m e)
    there = beside_second (IsExpansionOf g drawn) members es expanded e listed

  -- what was gathered from them
  pub gathered_from : (candidates : List Variant) (end : ExpandEnd) → IsGatheredFrom es candidates end → AreGathered g drawn members candidates end
  gathered_from candidates end (inl h) = subst (λ cs. AreGathered g drawn members cs end) (sym h.1) (subst (AreGathered g drawn members (all_children es)) (sym h.2) (gathered_whole h.0))
  gathered_from candidates end (inr h) =
      let e = h.1 in
      let not : e.end ≡ Whole → ⊥ = λ w. h.6 (h.5 ∙ w) in
      subst (λ cs. AreGathered g drawn members cs end) (sym h.4) (subst (AreGathered g drawn members (all_children (h.0 ++ e ∷ []))) (sym h.5) (gathered_cut h.0 e h.2 h.3 not))
