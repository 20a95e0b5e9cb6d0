-- A variable is written twice exactly where its key is there already.
use Rattle.std.proofs.Common.{◌≡◌, ℕ, zero, suc, ◌+◌, ◌/◌, ◌%◌, ◌<◌, ◌≤◌, inl, inr, true, false, List, [], ◌∷◌, ◌++◌, length, take, map, get_or, Option, Some, None, refl, sym, ap, ◌∙◌, subst, arith, length-append}
use Rattle.std.specs.Prelude.{slice_get, Contains}
use Rattle.std.proofs.lemmas.Option.{get_or_from_slice_get, slice_get_within, slice_get-get_or}
use Rattle.std.proofs.lemmas.List.{length-map, take_all, map-append}
use Rattle.std.proofs.lemmas.List.Quantifiers.{all_pairs_push}
use Rattle.fvn_base.proofs.Membership.{contains_here, contains_later, contains_cases, contains_none}
use Rattle.fvn_terms.specs.declared.plain.SortId.{SortId}
use Rattle.fvn_syntax.specs.Pieces.{Text}
use Rattle.fvn_syntax.specs.Scope.{Scope}
use Rattle.fvn_syntax.specs.Texts.{place}
use Rattle.fvn_problems.specs.declared.split.Halves.{Halves}
use Rattle.fvn_problems.specs.Bindings.{written_variable, AreOneVariable, BindsOnce}
use Rattle.fvn_problems.specs.Spelling.{RawPair, IsWrittenBinding}
use Rattle.fvn_problems.specs.inner.Split.{halves_of}
use Rattle.fvn_problems.specs.inner.Bound.{key_of, keys_of, with_key, with_written, AreBound, Adds, TellsOnce}
use Rattle.fvn_problems.proofs.Pairs.{at}
use Rattle.fvn_problems.proofs.Writing.{get-take, place-text, place-none}

abbrev pub Written : Type 0
Written = Option (Text × SortId)

-- two texts of which the last two bytes are told
same-ends : (xs ys : Text) (a b c d : ℕ) → xs ++ (a ∷ b ∷ []) ≡ ys ++ (c ∷ d ∷ []) → (xs ≡ ys) × (a ≡ c) × (b ≡ d)
same-ends [] [] a b c d h = (refl, (let e : a ∷ b ∷ [] ≡ c ∷ d ∷ [] = h in cc), (let e : a ∷ b ∷ [] ≡ c ∷ d ∷ [] = h in cc))
same-ends [] (y ∷ ys) a b c d h = absurd (omega (arith, ap length h, length-append ys (c ∷ d ∷ [])))
same-ends (x ∷ xs) [] a b c d h = absurd (omega (arith, ap length h, length-append xs (a ∷ b ∷ [])))
same-ends (x ∷ xs) (y ∷ ys) a b c d h =
    let e : x ≡ y = (let f : x ∷ (xs ++ (a ∷ b ∷ [])) ≡ y ∷ (ys ++ (c ∷ d ∷ [])) = h in cc) in
    let t : xs ++ (a ∷ b ∷ []) ≡ ys ++ (c ∷ d ∷ []) = (let f : x ∷ (xs ++ (a ∷ b ∷ [])) ≡ y ∷ (ys ++ (c ∷ d ∷ [])) = h in cc) in
    let g = same-ends xs ys a b c d t in
    (ap (λ z. z ∷ xs) e ∙ ap (λ zs. y ∷ zs) g.0, g.1, g.2)

same-number : (s q : ℕ) → s / 256 ≡ q / 256 → s % 256 ≡ q % 256 → s ≡ q
same-number s q a b = omega arith

-- the key tells the text and the sort
key-same : (u v : Text × SortId) → key_of u ≡ key_of v → u ≡ v
key-same u v h =
    let g = same-ends u.0 v.0 (u.1.0 / 256) (u.1.0 % 256) (v.1.0 / 256) (v.1.0 % 256) h in
    let n = same-number u.1.0 v.1.0 g.1 g.2 in
    λ i. (g.0 i, record { 0 = n i })

-- keys stand for what is written
key-there : (ws : List Written) (k : ℕ) (v : Text × SortId) → slice_get ws k ≡ Some (Some v) → Contains (keys_of ws) (key_of v)
key-there [] k v h = (let e : None ≡ Some (Some v) = h in cc)
key-there (w ∷ ws) zero v h = (let e : w ≡ Some v = (let f : Some w ≡ Some (Some v) = h in cc) in
    subst (λ x. Contains (keys_of (x ∷ ws)) (key_of v)) (sym e) (contains_here (key_of v) (keys_of ws)))
key-there (None ∷ ws) (suc k) v h = key-there ws k v h
key-there (Some u ∷ ws) (suc k) v h = contains_later (key_of u) (keys_of ws) (key_of v) (key-there ws k v h)

there-key : (ws : List Written) (key : Text) → Contains (keys_of ws) key → (k : ℕ) × (v : Text × SortId) × (slice_get ws k ≡ Some (Some v)) × (key_of v ≡ key)
there-key [] key h = absurd (contains_none key h)
there-key (None ∷ ws) key h = let g = there-key ws key h in (suc g.0, g.1, g.2, g.3)
there-key (Some u ∷ ws) key h =
    elim (contains_cases (key_of u) (keys_of ws) key h) [
      | inl e ↦ (zero, u, refl, e)
      | inr l ↦ (let g = there-key ws key l in (suc g.0, g.1, g.2, g.3))
    ]

keys-more-none : (ws : List Written) → keys_of (ws ++ (None ∷ [])) ≡ keys_of ws
keys-more-none [] = refl
keys-more-none (None ∷ ws) = keys-more-none ws
keys-more-none (Some u ∷ ws) = ap (λ x. key_of u ∷ x) (keys-more-none ws)

keys-more : (ws : List Written) (v : Text × SortId) → keys_of (ws ++ (Some v ∷ [])) ≡ keys_of ws ++ (key_of v ∷ [])
keys-more [] v = refl
keys-more (None ∷ ws) v = keys-more ws v
keys-more (Some u ∷ ws) v = ap (λ x. key_of u ∷ x) (keys-more ws v)

pub contains-text : (texts : List Text) (t : Text) → Contains texts t → place texts t ≡ None → ⊥
contains-text texts t h n = place-none texts t h.0 n (slice_get-get_or texts h.0 t h.1 ∙ ap Some h.2)

text-contained : (texts : List Text) (t : Text) (i : ℕ) → place texts t ≡ Some i → Contains texts t
text-contained texts t i h =
    let e = place-text texts t i h in
    (i, slice_get_within texts i t e, get_or_from_slice_get texts i t t e)

slice_get-mapped : {A B : Type 0} (f : A → B) (xs : List A) (k : ℕ) (y : B) → slice_get (map f xs) k ≡ Some y → (x : A) × (slice_get xs k ≡ Some x) × (f x ≡ y)
slice_get-mapped f [] k y h = (let e : None ≡ Some y = h in cc)
slice_get-mapped f (x ∷ xs) zero y h = (x, refl, (let e : Some (f x) ≡ Some y = h in cc))
slice_get-mapped f (x ∷ xs) (suc k) y h = slice_get-mapped f xs k y h

mapped-slice_get : {A B : Type 0} (f : A → B) (xs : List A) (k : ℕ) (d : A) → k < length xs → slice_get (map f xs) k ≡ Some (f (get_or xs k d))
mapped-slice_get f [] k d l = absurd (omega arith)
mapped-slice_get f (x ∷ xs) zero d l = refl
mapped-slice_get f (x ∷ xs) (suc k) d l = mapped-slice_get f xs k d (omega arith)

module _ (c : Scope) where
  abbrev pub writes : RawPair → Written
  writes r = written_variable c r.left

  -- the bindings so far bind no variable twice, and their keys are there
  abbrev pub OnceSoFar : List Halves → ℕ → List Text → Type 0
  OnceSoFar list i keys = (raws : List RawPair) → AreBound list raws → (keys ≡ keys_of (map writes (take i raws))) × BindsOnce c (take i raws)

  -- one more binding
  module _ (rs : List RawPair) (r : RawPair) (keys : List Text) (are : keys ≡ keys_of (map writes rs)) (once : BindsOnce c rs) where
    not-there : (w : Written) → writes r ≡ w → (v : Text × SortId) → w ≡ Some v → place keys (key_of v) ≡ None → (k : ℕ) (d : RawPair) → k < length rs →
        AreOneVariable c (get_or rs k d).left r.left → ⊥
    not-there w e v f n k d l one =
        let u : one.variable ≡ v = (let g : Some one.variable ≡ Some v = sym one.second ∙ e ∙ f in cc) in
        let there = key-there (map writes rs) k v (mapped-slice_get writes rs k d l ∙ ap Some (one.first ∙ ap Some u)) in
        contains-text keys (key_of v) (subst (λ x. Contains x (key_of v)) (sym are) there) n

    pushed : ((k : ℕ) (d : RawPair) → k < length rs → AreOneVariable c (get_or rs k d).left r.left → ⊥) → BindsOnce c (rs ++ (r ∷ []))
    pushed n = all_pairs_push (λ a b. AreOneVariable c a.left b.left → ⊥) rs r once n

    -- what is written is new
    kept : (after : List Text) → with_written keys (writes r) ≡ Some after → (after ≡ keys_of (map writes (rs ++ (r ∷ [])))) × BindsOnce c (rs ++ (r ∷ []))
    kept after h = go (writes r) refl h where
      mapped : map writes (rs ++ (r ∷ [])) ≡ map writes rs ++ (writes r ∷ [])
      mapped = map-append writes rs (r ∷ [])

      added : (v : Text × SortId) → writes r ≡ Some v → (o : Option ℕ) → place keys (key_of v) ≡ o → with_key keys (key_of v) o ≡ Some after →
          (after ≡ keys_of (map writes (rs ++ (r ∷ [])))) × BindsOnce c (rs ++ (r ∷ []))
      added v e None p f = (
        (let g : keys ++ (key_of v ∷ []) ≡ after = (let g : Some (keys ++ (key_of v ∷ [])) ≡ Some after = f in cc) in
            sym g ∙ ap (λ x. x ++ (key_of v ∷ [])) are ∙ sym (keys-more (map writes rs) v) ∙ ap (λ w. keys_of (map writes rs ++ (w ∷ []))) (sym e) ∙ ap keys_of (sym mapped)),
        pushed (not-there (writes r) refl v e p),
      )
      added v e (Some i) p f = (let g : None ≡ Some after = f in cc)

      go : (w : Written) → writes r ≡ w → with_written keys w ≡ Some after → (after ≡ keys_of (map writes (rs ++ (r ∷ [])))) × BindsOnce c (rs ++ (r ∷ []))
      go None e f = (
        (let g : keys ≡ after = (let g : Some keys ≡ Some after = f in cc) in
            sym g ∙ are ∙ sym (keys-more-none (map writes rs)) ∙ ap (λ w. keys_of (map writes rs ++ (w ∷ []))) (sym e) ∙ ap keys_of (sym mapped)),
        pushed (λ k d l one. (let g : None ≡ Some one.variable = sym e ∙ one.second in cc)),
      )
      go (Some v) e f = added v e (place keys (key_of v)) refl f

    -- what is written was there
    twice : with_written keys (writes r) ≡ None → (k : ℕ) × (q : RawPair) × (slice_get rs k ≡ Some q) × AreOneVariable c q.left r.left
    twice h = go (writes r) refl h where
      found : (v : Text × SortId) → writes r ≡ Some v → (o : Option ℕ) → place keys (key_of v) ≡ o → with_key keys (key_of v) o ≡ None →
          (k : ℕ) × (q : RawPair) × (slice_get rs k ≡ Some q) × AreOneVariable c q.left r.left
      found v e None p f = (let g : Some (keys ++ (key_of v ∷ [])) ≡ None = f in cc)
      found v e (Some i) p f =
          let t = there-key (map writes rs) (key_of v) (subst (λ x. Contains x (key_of v)) are (text-contained keys (key_of v) i p)) in
          let u = key-same t.1 v t.3 in
          let g = slice_get-mapped writes rs t.0 (Some t.1) t.2 in
          (t.0, g.0, g.1, record { variable = v; first = g.2 ∙ ap Some u; second = e })

      go : (w : Written) → writes r ≡ w → with_written keys w ≡ None → (k : ℕ) × (q : RawPair) × (slice_get rs k ≡ Some q) × AreOneVariable c q.left r.left
      go None e f = (let g : Some keys ≡ None = f in cc)
      go (Some v) e f = found v e (place keys (key_of v)) refl f

  module _ (list : List Halves) (i : ℕ) (keys : List Text) (h : Halves) (so : OnceSoFar list i keys) (within : i < length list) (is : h ≡ get_or list i h) where
    pub once-more : (after : List Text) → Adds c keys h.left true after → OnceSoFar list (i + 1) after
    once-more after adds raws of =
        let p = at IsWrittenBinding list raws i h of.written of.are within is in
        let b = so raws of in
        let f = adds p.raw.left (p.written).1.0 (p.written).0 (ap (λ x. x.left) p.is) in
        let n : suc i ≡ i + 1 = omega arith in
        subst (λ m. (after ≡ keys_of (map writes (take m raws))) × BindsOnce c (take m raws)) n
        (subst (λ rs. (after ≡ keys_of (map writes rs)) × BindsOnce c rs) (sym p.next) (kept (take i raws) p.raw keys b.0 b.1 after f))

    pub once-not : (after : List Text) → Adds c keys h.left false after → TellsOnce c list false
    once-not after adds raws of =
        let p = at IsWrittenBinding list raws i h of.written of.are within is in
        let b = so raws of in
        let f = adds p.raw.left (p.written).1.0 (p.written).0 (ap (λ x. x.left) p.is) in
        let t = twice (take i raws) p.raw keys b.0 b.1 f in
        let g = get-take raws i t.0 t.1 t.2 in
        let n : length raws ≡ length list = sym (ap length of.are ∙ length-map raws halves_of) in
        let at-k : get_or raws t.0 p.raw ≡ t.1 = get_or_from_slice_get raws t.0 t.1 p.raw g.0 in
        let at-i : get_or raws i p.raw ≡ p.raw = p.here p.raw in (
          λ e. (let q : false ≡ true = e in cc),
          λ once.
              absurd (once t.0 i p.raw g.1 (omega arith) (subst (λ x. AreOneVariable c x.left (get_or raws i p.raw).left) (sym at-k) (subst (λ x. AreOneVariable c t.1.left x.left) (sym at-i) t.3))),
        )

  pub once-all : (list : List Halves) (i : ℕ) (keys : List Text) → OnceSoFar list i keys → length list ≤ i → TellsOnce c list true
  once-all list i keys so l raws of =
      let n : length raws ≡ length list = sym (ap length of.are ∙ length-map raws halves_of) in
      let e : take i raws ≡ raws = take_all i raws (omega arith) in
      (λ _. subst (BindsOnce c) e (so raws of).1, λ _. refl)
