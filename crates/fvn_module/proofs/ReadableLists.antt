-- What holds of the names that statements declare, each put into a list where it is new.
use Rattle.std.proofs.Common.{◌≡◌, ◌≢◌, ℕ, ◌+◌, ◌⊎◌, inl, inr, Bool, true, false, List, [], ◌∷◌, ◌++◌, slice_get, get_or, Option, Some, None, zero, suc, refl, sym, ap, subst, arith}
use Rattle.std.specs.List.{All, Contains, position_from}
use Rattle.std.specs.Str.{bytes_eq}
use Rattle.std.proofs.lemmas.List.Elements.{All-push, All-head, All-tail, Contains-append_left, Contains-push, Contains-push_cases, Contains-get_or}
use Rattle.std.proofs.lemmas.List.Quantifiers.{all_pairs_push}
use Rattle.fvn_base.proofs.Membership.{contains_here, contains_later, contains_cases, contains_none}
use Rattle.fvn_syntax.specs.Pieces.{Text}
use Rattle.fvn_syntax.specs.Texts.{place, unless_at, with_text}
use Rattle.fvn_syntax.proofs.PieceLemmas.{bytes_eq-refl, bytes_eq-is}
use Rattle.fvn_module_syntax.specs.declared.statement.Statement.{Statement}
use Rattle.fvn_module_names.specs.Names.{with_texts, with_names}
use Rattle.fvn_module.specs.Readable.{AreDistinct}

-- Places.

-- the element at the place that a search finds
at_position : (w : Text) (i : ℕ) (xs : List Text) (k : ℕ) → position_from (λ t. bytes_eq w t) i xs ≡ Some k →
    (n : ℕ) × ((k ≡ i + n) × (slice_get xs n ≡ Some w))
at_position w i [] k h = cc
at_position w i (x ∷ xs) k h = go (bytes_eq w x) refl (at_position w (i + 1) xs k) where
  go : (b : Bool) → bytes_eq w x ≡ b →
      (position_from (λ t. bytes_eq w t) (i + 1) xs ≡ Some k → (n : ℕ) × ((k ≡ i + 1 + n) × (slice_get xs n ≡ Some w))) →
      (n : ℕ) × ((k ≡ i + n) × (slice_get (x ∷ xs) n ≡ Some w))
  go true e later =
      let f : i ≡ k = (let g = rw e at h in cc) in
      (0, (omega arith, ap Some (sym (bytes_eq-is w x e))))
  go false e later =
      let r = later (rw e at h) in
      (suc r.0, (let f = r.1.0 in omega arith, r.1.1))

pub place-some : (texts : List Text) (w : Text) (k : ℕ) → place texts w ≡ Some k → slice_get texts k ≡ Some w
place-some texts w k h =
    let r = at_position w 0 texts k h in
    let e : k ≡ r.0 = (let f = r.1.0 in omega arith) in
    subst (λ n. slice_get texts n ≡ Some w) (sym e) r.1.1

no_position : (w : Text) (i : ℕ) (xs : List Text) → position_from (λ t. bytes_eq w t) i xs ≡ None → Contains xs w → ⊥
no_position w i [] h c = contains_none w c
no_position w i (x ∷ xs) h c = go (bytes_eq w x) refl (no_position w (i + 1) xs) where
  go : (b : Bool) → bytes_eq w x ≡ b → (position_from (λ t. bytes_eq w t) (i + 1) xs ≡ None → Contains xs w → ⊥) → ⊥
  go true e later = let g = rw e at h in cc
  go false e later = elim (contains_cases x xs w c) [
    | inl is ↦ let g : bytes_eq w x ≡ true = subst (λ y. bytes_eq w y ≡ true) (sym is) (bytes_eq-refl w) in cc
    | inr i ↦ later (rw e at h) i
  ]

-- a text without a place is not listed
pub place-none : (texts : List Text) (w : Text) → place texts w ≡ None → Contains texts w → ⊥
place-none texts w = no_position w 0 texts

pub slice_get-contains : (xs : List Text) (k : ℕ) (w : Text) → slice_get xs k ≡ Some w → Contains xs w
slice_get-contains [] k w h = cc
slice_get-contains (x ∷ xs) zero w h = (0, omega arith, let e : x ≡ w = cc in e)
slice_get-contains (x ∷ xs) (suc k) w h = contains_later x xs w (slice_get-contains xs k w h)

-- a text that is not listed has no place
pub none-place : (texts : List Text) (w : Text) → (Contains texts w → ⊥) → place texts w ≡ None
none-place texts w h = go (place texts w) refl where
  go : (o : Option ℕ) → place texts w ≡ o → o ≡ None
  go None e = refl
  go (Some k) e = absurd (h (slice_get-contains texts k w (place-some texts w k e)))

-- What holds of each name.

-- a list of which each element has the property
pub all-contains : {A : Type 0} (P : A → Type 0) (xs : List A) → ((x : A) → Contains xs x → P x) → All P xs
all-contains P xs h k d l = h (get_or xs k d) (Contains-get_or xs k d l)

module _ (P : Text → Type 0) where
  with_text-all : (texts : List Text) (w : Text) → All P texts → P w → All P (with_text texts w)
  with_text-all texts w h k = go (place texts w) where
    go : (o : Option ℕ) → All P (unless_at texts w o)
    go None = All-push P texts w h k
    go (Some i) = h

  with_texts-all : (texts ws : List Text) → All P texts → All P ws → All P (with_texts texts ws)
  with_texts-all texts [] h k = h
  with_texts-all texts (w ∷ ws) h k =
      with_texts-all (with_text texts w) ws (with_text-all texts w h (All-head P w ws k)) (All-tail P w ws k)

  -- what holds of each name of each statement holds of all
  pub with_names-all : (names_in : Statement → List Text) (texts : List Text) (sts : List Statement) → All P texts →
      ((st : Statement) → Contains sts st → All P (names_in st)) → All P (with_names names_in texts sts)
  with_names-all names_in texts [] h k = h
  with_names-all names_in texts (st ∷ sts) h k =
      with_names-all names_in (with_texts texts (names_in st)) sts
      (with_texts-all texts (names_in st) h (k st (contains_here st sts))) (λ s c. k s (contains_later st sts s c))

-- Names are distinct.

with_text-distinct : (texts : List Text) (w : Text) → AreDistinct texts → AreDistinct (with_text texts w)
with_text-distinct texts w h = go (place texts w) refl where
  go : (o : Option ℕ) → place texts w ≡ o → AreDistinct (unless_at texts w o)
  go None e =
      all_pairs_push (λ v u. v ≢ u) texts w h
      (λ k d l is. place-none texts w e (subst (Contains texts) is (Contains-get_or texts k d l)))
  go (Some i) e = h

with_texts-distinct : (texts ws : List Text) → AreDistinct texts → AreDistinct (with_texts texts ws)
with_texts-distinct texts [] h = h
with_texts-distinct texts (w ∷ ws) h = with_texts-distinct (with_text texts w) ws (with_text-distinct texts w h)

pub with_names-distinct : (names_in : Statement → List Text) (texts : List Text) (sts : List Statement) → AreDistinct texts →
    AreDistinct (with_names names_in texts sts)
with_names-distinct names_in texts [] h = h
with_names-distinct names_in texts (st ∷ sts) h =
    with_names-distinct names_in (with_texts texts (names_in st)) sts (with_texts-distinct texts (names_in st) h)

-- Which names are listed.

with_text-keeps : (texts : List Text) (w v : Text) → Contains texts v → Contains (with_text texts w) v
with_text-keeps texts w v h = go (place texts w) where
  go : (o : Option ℕ) → Contains (unless_at texts w o) v
  go None = Contains-append_left texts (w ∷ []) v h
  go (Some i) = h

with_text-has : (texts : List Text) (w : Text) → Contains (with_text texts w) w
with_text-has texts w = go (place texts w) refl where
  go : (o : Option ℕ) → place texts w ≡ o → Contains (unless_at texts w o) w
  go None e = Contains-push texts w
  go (Some i) e = slice_get-contains texts i w (place-some texts w i e)

with_text-cases : (texts : List Text) (w v : Text) → Contains (with_text texts w) v → Contains texts v ⊎ (w ≡ v)
with_text-cases texts w v h = go (place texts w) refl h where
  go : (o : Option ℕ) → place texts w ≡ o → Contains (unless_at texts w o) v → Contains texts v ⊎ (w ≡ v)
  go None e k = Contains-push_cases texts w v k
  go (Some i) e k = inl k

with_texts-keeps : (texts ws : List Text) (v : Text) → Contains texts v → Contains (with_texts texts ws) v
with_texts-keeps texts [] v h = h
with_texts-keeps texts (w ∷ ws) v h = with_texts-keeps (with_text texts w) ws v (with_text-keeps texts w v h)

with_texts-has : (texts ws : List Text) (v : Text) → Contains ws v → Contains (with_texts texts ws) v
with_texts-has texts [] v h = absurd (contains_none v h)
with_texts-has texts (w ∷ ws) v h = elim (contains_cases w ws v h) [
  | inl e ↦ with_texts-keeps (with_text texts w) ws v (subst (Contains (with_text texts w)) e (with_text-has texts w))
  | inr i ↦ with_texts-has (with_text texts w) ws v i
]

pub with_texts-cases : (texts ws : List Text) (v : Text) → Contains (with_texts texts ws) v → Contains texts v ⊎ Contains ws v
with_texts-cases texts [] v h = inl h
with_texts-cases texts (w ∷ ws) v h = elim (with_texts-cases (with_text texts w) ws v h) [
  | inl i ↦ elim (with_text-cases texts w v i) [
    | inl k ↦ inl k
    | inr e ↦ inr (subst (Contains (w ∷ ws)) e (contains_here w ws))
  ]
  | inr i ↦ inr (contains_later w ws v i)
]

with_names-keeps : (names_in : Statement → List Text) (texts : List Text) (sts : List Statement) (v : Text) → Contains texts v →
    Contains (with_names names_in texts sts) v
with_names-keeps names_in texts [] v h = h
with_names-keeps names_in texts (st ∷ sts) v h =
    with_names-keeps names_in (with_texts texts (names_in st)) sts v (with_texts-keeps texts (names_in st) v h)

-- a name of a statement is one of all
pub with_names-has : (names_in : Statement → List Text) (texts : List Text) (sts : List Statement) (st : Statement) (v : Text) →
    Contains sts st → Contains (names_in st) v → Contains (with_names names_in texts sts) v
with_names-has names_in texts [] st v h k = absurd (contains_none st h)
with_names-has names_in texts (s ∷ sts) st v h k = elim (contains_cases s sts st h) [
  | inl e ↦
      let i : Contains (names_in s) v = subst (λ x. Contains (names_in x) v) (sym e) k in
      with_names-keeps names_in (with_texts texts (names_in s)) sts v (with_texts-has texts (names_in s) v i)
  | inr i ↦ with_names-has names_in (with_texts texts (names_in s)) sts st v i k
]

pub with_names-push : (names_in : Statement → List Text) (texts : List Text) (sts : List Statement) (st : Statement) →
    with_names names_in texts (sts ++ (st ∷ [])) ≡ with_texts (with_names names_in texts sts) (names_in st)
with_names-push names_in texts [] st = refl
with_names-push names_in texts (s ∷ sts) st = with_names-push names_in (with_texts texts (names_in s)) sts st
