-- Pairs taken apart, one after another.
use Rattle.std.proofs.Common.{◌≡◌, ℕ, ◌+◌, ◌<◌, ◌≤◌, Bool, true, false, List, [], ◌∷◌, ◌++◌, length, take, drop, get_or, ◌-◌, Option, Some, None, refl, sym, ap, ◌∙◌, subst, arith}
use Rattle.std.specs.Prelude.{◌↔◌, IsTrue, Result, Ok, Err, IfOk}
use Rattle.std.specs.List.{AllZip}
use denote.Ref.{Bor}
use Rattle.std.proofs.lemmas.Bool.{false≢true}
use Rattle.std.proofs.lemmas.List.{take_more, drop_more, drop_all}
use Rattle.fvn_terms.specs.declared.plain.Var.{Var}
use Rattle.fvn_terms.specs.declared.plain.OpId.{OpId}
use Rattle.fvn_terms.specs.declared.declarations.Declarations.{Declarations}
use Rattle.fvn_terms.specs.declared.declarations.Axioms.TheVariants.{Free}
use Rattle.fvn_terms.specs.Signature.{axioms, AtOrBelow}
use Rattle.fvn_forms.specs.Flat.{FlatTerm, fvar}
use Rattle.fvn_forms.specs.Canon.{inst}
use Rattle.fvn_forms.specs.FitsKinds.{FitsKinds}
use Rattle.fvn_forms.specs.LeastSort.{least_sort}
use Rattle.fvn_flat.specs.Bindings.{Bindings, bound, value}
use Rattle.fvn_flat.specs.Forms.{head_of, args_of}
use Rattle.fvn_match.specs.inner.Summands.{references}
use Rattle.fvn_match.specs.inner.Candidates.{Values, IsCandidate, Agrees, IsSolution, Finds}
use Rattle.fvn_match.specs.inner.Goals.{AllMake, IsPair, with_bindings, weight, weight_of}
use Rattle.fvn_match.specs.inner.Apart.{IsUntouched, values_with, ApartFits, ApartAsks, IsTakenApart, TakesApart}
use Rattle.fvn_match.specs.declared.goals.Binding.{Binding}
use Rattle.fvn_match.specs.declared.apart.Apart.{Apart}
use Rattle.fvn_match.proofs.KnownSteps.{weight_of-append}
use Rattle.fvn_match.proofs.Weights.{weight_of-first, weight_of-drop}
use Rattle.fvn_match.proofs.PairingSteps.{zip-drop}
use Rattle.fvn_match.proofs.Finding.{if_found_same}
use Rattle.fvn_match.proofs.PairSteps.{rest_of, zip_parted, free_head, free_pairs, free_step}
use Rattle.fvn_match.proofs.PairFinding.{zip_long, one_more_candidate, agrees_more, agrees_less, agrees_here}
use Rattle.fvn_match.proofs.Runs.{references-get, length_references, references-append, references-drop}
use Rattle.fvn_match.proofs.TwoLists.{zip_both}

-- one value more
with_bindings-push : (b : Bindings) (ps : List Binding) (p : Binding) → with_bindings b (ps ++ p ∷ []) ≡ (p.name, p.value.now) ∷ with_bindings b ps
with_bindings-push b [] p = refl
with_bindings-push b (q ∷ ps) p = with_bindings-push ((q.name, q.value.now) ∷ b) ps p

pub with_bindings-more : (b : Bindings) (ps : List Binding) (i : ℕ) (p : Binding) → i < length ps → p ≡ get_or ps i p → with_bindings b (take (i + 1) ps) ≡ (p.name, p.value.now) ∷ with_bindings b (take i ps)
with_bindings-more b ps i p h e = ap (with_bindings b) (take_more ps i p h ∙ ap (λ q. take i ps ++ q ∷ []) (sym e)) ∙ with_bindings-push b (take i ps) p

-- references to all but the first
tail_is : (ps : List (Bor FlatTerm)) → references (take (length ps - 1) (drop 1 ps)) ≡ drop 1 (references ps)
tail_is ps = ap references (rest_of ps) ∙ references-drop 1 ps

-- the weight of a pattern and of those behind it
weight_of-at : (ps : List FlatTerm) (i : ℕ) (p : FlatTerm) → i < length ps → p ≡ get_or ps i p → weight_of (drop i ps) ≡ weight p + 2 + weight_of (drop (i + 1) ps)
weight_of-at ps i p h e = ap weight_of (drop_more ps i p h ∙ ap (λ u. u ∷ drop (i + 1) ps) (sym e))

module _ (d : Declarations) (b : Bindings) where
  -- at first
  pub untouched_fits : IsCandidate d (value b) → (a : Apart) → IsUntouched a → ApartFits d b a
  untouched_fits h a u = record {
    values = subst (λ vs. IsCandidate d (value (with_bindings b vs))) (sym u.values) h;
    pairs =
        subst (λ ps. AllZip (IsPair d) (references ps) (references a.targets.items)) (sym u.patterns)
        (subst (λ ts. AllZip (IsPair d) [] (references ts)) (sym u.targets) tt);
  }

  pub untouched_asks : (a : Apart) → IsUntouched a → (c : Values) → ApartAsks d b a c ↔ Agrees b c
  untouched_asks a u c =
      subst (λ vs. (Agrees (with_bindings b vs) c × AllMake d (references a.patterns.items) (references a.targets.items) c) ↔ Agrees b c) (sym u.values)
      (subst (λ ps. (Agrees b c × AllMake d (references ps) (references a.targets.items) c) ↔ Agrees b c) (sym u.patterns)
      (subst (λ ts. (Agrees b c × AllMake d [] (references ts) c) ↔ Agrees b c) (sym u.targets) (λ h. h.0, λ h. (h, tt))))

  pub as_many_left : (a : Apart) → ApartFits d b a → length a.patterns.items ≡ length a.targets.items
  as_many_left a fits = sym (length_references a.patterns.items) ∙ zip_long (IsPair d) (references a.patterns.items) (references a.targets.items) fits.pairs ∙ length_references a.targets.items

  -- the same, as code takes them
  pub left_pairs : (a : Apart) → ApartFits d b a → (qs us : List (Bor FlatTerm)) → qs ≡ a.patterns.items → us ≡ a.targets.items → AllZip (IsPair d) (references qs) (references us)
  left_pairs a fits qs us q w = subst (λ l. AllZip (IsPair d) (references l) (references us)) (sym q) (subst (λ l. AllZip (IsPair d) (references a.patterns.items) (references l)) (sym w) fits.pairs)

  pub left_values : (a : Apart) → ApartFits d b a → (vs : List Binding) → vs ≡ a.values.items → IsCandidate d (value (with_bindings b vs))
  left_values a fits vs v = subst (λ l. IsCandidate d (value (with_bindings b l))) (sym v) fits.values

  -- a variable
  module _ (x : Var) where
    pub compared : (a : Apart) → ApartFits d b a → (t v : FlatTerm) → bound (values_with d b a) x ≡ Some v → (same : Bool) → IsTrue same ↔ (v ≡ t) → TakesApart d b a a (λ c. inst d c (fvar x) ≡ t) 3 same
    compared a fits t v e true iff = record { fits = fits; asks = λ c k. (λ h. h.1, λ h. (h.0 x v e ∙ iff.0 refl, h)); lighter = omega arith }
    compared a fits t v e false iff = λ c k p h. false≢true (iff.1 (sym (h.0 x v e) ∙ p))

    pub unsorted : (t : FlatTerm) → IsPair d (fvar x) t → (AtOrBelow d (least_sort d t) x.sort → ⊥) → (c : Values) → IsCandidate d c → inst d c (fvar x) ≡ t → ⊥
    unsorted t pair high c k is = high (subst (λ u. AtOrBelow d (least_sort d u) x.sort) is (k.sorts x pair.pattern_kind.0))

    pub bound_one : (a after : Apart) (t : Bor FlatTerm) → ApartFits d b a → IsPair d (fvar x) t.now → AtOrBelow d (least_sort d t.now) x.sort → bound (values_with d b a) x ≡ None →
        after.values.items ≡ a.values.items ++ record { name = x; value = t } ∷ [] → after.patterns.items ≡ a.patterns.items → after.targets.items ≡ a.targets.items →
        IsTakenApart d b a after (λ c. inst d c (fvar x) ≡ t.now) 3
    bound_one a after t fits pair low free vs ps ts = record {
      fits = record {
        values = subst (λ l. IsCandidate d (value l)) (sym w) (one_more_candidate d (values_with d b a) x t.now pair fits.values low);
        pairs = subst (λ l. AllZip (IsPair d) (references l) (references after.targets.items)) (sym ps) (subst (λ l. AllZip (IsPair d) (references a.patterns.items) (references l)) (sym ts) fits.pairs);
      };
      asks = λ c k.
          subst (λ l. ((c x ≡ t.now) × ApartAsks d b a c) ↔ (Agrees l c × AllMake d (references after.patterns.items) (references after.targets.items) c)) (sym w)
          (subst (λ l. ((c x ≡ t.now) × ApartAsks d b a c) ↔ (Agrees ((x, t.now) ∷ values_with d b a) c × AllMake d (references l) (references after.targets.items) c)) (sym ps)
          (subst (λ l. ((c x ≡ t.now) × ApartAsks d b a c) ↔ (Agrees ((x, t.now) ∷ values_with d b a) c × AllMake d (references a.patterns.items) (references l) c)) (sym ts)
          (λ h. (agrees_more d (values_with d b a) x t.now pair c h.1.0 h.0, h.1.1), λ h. (agrees_here d (values_with d b a) x t.now pair c h.0, (agrees_less d (values_with d b a) x t.now pair c free h.0, h.1)))));
      lighter = let e = ap (λ l. weight_of (references l)) ps in omega arith;
    }
      where
        w : with_bindings b after.values.items ≡ (x, t.now) ∷ values_with d b a
        w = ap (with_bindings b) vs ∙ with_bindings-push b a.values.items (record { name = x; value = t })

  -- a pair that is kept
  pub kept_one : (a after : Apart) (p t : Bor FlatTerm) → ApartFits d b a → IsPair d p.now t.now →
      after.values.items ≡ a.values.items → after.patterns.items ≡ a.patterns.items ++ p ∷ [] → after.targets.items ≡ a.targets.items ++ t ∷ [] →
      IsTakenApart d b a after (λ c. inst d c p.now ≡ t.now) (weight p.now + 2)
  kept_one a after p t fits pair vs ps ts = record {
    fits = record {
      values = subst (λ l. IsCandidate d (value (with_bindings b l))) (sym vs) fits.values;
      pairs = (grown (IsPair d)).1 (fits.pairs, (pair, tt));
    };
    asks = λ c k.
        subst (λ l. ((inst d c p.now ≡ t.now) × ApartAsks d b a c) ↔ (Agrees (with_bindings b l) c × AllMake d (references after.patterns.items) (references after.targets.items) c)) (sym vs)
        (λ h. (h.1.0, (grown (λ q u. inst d c q ≡ u)).1 (h.1.1, (h.0, tt))), λ h. let z = (grown (λ q u. inst d c q ≡ u)).0 h.1 in (z.1.0, (h.0, z.0)));
    lighter = let e = ap weight_of pushed in let f = weight_of-append (references a.patterns.items) (p.now ∷ []) in omega arith;
  }
    where
      pushed : references after.patterns.items ≡ references a.patterns.items ++ p.now ∷ []
      pushed = ap references ps ∙ references-append a.patterns.items (p ∷ [])

      targets : references after.targets.items ≡ references a.targets.items ++ t.now ∷ []
      targets = ap references ts ∙ references-append a.targets.items (t ∷ [])

      grown : (R : FlatTerm → FlatTerm → Type 0) → AllZip R (references after.patterns.items) (references after.targets.items) ↔ (AllZip R (references a.patterns.items) (references a.targets.items) × AllZip R (p.now ∷ []) (t.now ∷ []))
      grown R =
          subst (λ l. AllZip R l (references after.targets.items) ↔ (AllZip R (references a.patterns.items) (references a.targets.items) × AllZip R (p.now ∷ []) (t.now ∷ []))) (sym pushed)
          (subst (λ l. AllZip R (references a.patterns.items ++ p.now ∷ []) l ↔ (AllZip R (references a.patterns.items) (references a.targets.items) × AllZip R (p.now ∷ []) (t.now ∷ []))) (sym targets)
          (zip_both R (references a.patterns.items) (p.now ∷ []) (references a.targets.items) (t.now ∷ []) (zip_long (IsPair d) (references a.patterns.items) (references a.targets.items) fits.pairs)))

  -- arguments of a free operator
  module _ (fits : FitsKinds d) (f : OpId) (p t : FlatTerm) (pair : IsPair d p t) (head : head_of p ≡ Some f) (e : axioms d f ≡ Free) where
    pub never_headed : (head_of t ≡ Some f → ⊥) → (c : Values) → IsCandidate d c → inst d c p ≡ t → ⊥
    never_headed n c k is = n (free_head d fits f p t pair head c k.flat.settled e is)

    module _ (headed : head_of t ≡ Some f) (ps ts : List FlatTerm) (ps_are : ps ≡ args_of p) (ts_are : ts ≡ args_of t) where
      pub pairs_of_free : AllZip (IsPair d) ps ts
      pairs_of_free = subst (λ l. AllZip (IsPair d) l ts) (sym ps_are) (subst (AllZip (IsPair d) (args_of p)) (sym ts_are) (free_pairs d fits f p t pair head e headed))

      steps : (c : Values) → IsCandidate d c → (inst d c p ≡ t) ↔ AllMake d ps ts c
      steps c k =
          subst (λ l. (inst d c p ≡ t) ↔ AllMake d l ts c) (sym ps_are)
          (subst (λ l. (inst d c p ≡ t) ↔ AllMake d (args_of p) l c) (sym ts_are) (free_step d fits f p t pair head e headed c k.flat.settled))

      pub taken_by_args : (a after : Apart) (w : ℕ) → weight_of ps ≤ w → (can : Bool) → TakesApart d b a after (AllMake d ps ts) (weight_of ps) can → TakesApart d b a after (λ c. inst d c p ≡ t) w can
      taken_by_args a after w h true taken = record {
        fits = taken.fits;
        asks = λ c k. let z = taken.asks c k in let s = steps c k in (λ g. z.0 (s.0 g.0, g.1), λ g. let y = z.1 g in (s.1 y.0, y.1));
        lighter = let l = taken.lighter in omega arith;
      }
      taken_by_args a after w h false never = λ c k is g. never c k ((steps c k).0 is) g

  -- pairs that are left of two lists
  pub record IsLeft (before now : Apart) (ps ts ps_left ts_left : List FlatTerm) : Type 0 where
    pub fits : ApartFits d b now
    pub pairs : AllZip (IsPair d) ps_left ts_left
    pub asks : (c : Values) → IsCandidate d c → (AllMake d ps ts c × ApartAsks d b before c) ↔ (AllMake d ps_left ts_left c × ApartAsks d b now c)
    pub lighter : weight_of (references now.patterns.items) + weight_of ps_left ≤ weight_of (references before.patterns.items) + weight_of ps

  pub all_left : (a : Apart) → ApartFits d b a → (ps ts : List FlatTerm) → AllZip (IsPair d) ps ts → IsLeft a a ps ts (drop 0 ps) (drop 0 ts)
  all_left a fits ps ts pairs = record { fits = fits; pairs = pairs; asks = λ c k. (λ h. h, λ h. h); lighter = omega arith }

  module _ (before now : Apart) (ps ts : List FlatTerm) (long : length ps ≡ length ts) (i : ℕ) (left : IsLeft before now ps ts (drop i ps) (drop i ts)) where
    module _ (p t : FlatTerm) (within : i < length ps) (p_is : p ≡ get_or ps i p) (t_is : t ≡ get_or ts i t) where
      parted : (R : FlatTerm → FlatTerm → Type 0) → AllZip R (drop i ps) (drop i ts) ↔ (R p t × AllZip R (drop (i + 1) ps) (drop (i + 1) ts))
      parted R = zip-drop R ps ts i p t within (omega arith) p_is t_is

      pub next_pair : IsPair d p t
      next_pair = ((parted (IsPair d)).0 left.pairs).0

      pub next_weight : weight p + 2 ≤ weight_of ps
      next_weight = let e = weight_of-at ps i p within p_is in let f = weight_of-drop i ps in omega arith

      pub left_refused : (after : Apart) → TakesApart d b now after (λ c. inst d c p ≡ t) (weight p + 2) false → (c : Values) → IsCandidate d c → AllMake d ps ts c → ApartAsks d b before c → ⊥
      left_refused after never c k h g = let w = (left.asks c k).0 (h, g) in never c k ((parted (λ q u. inst d c q ≡ u)).0 w.0).0 w.1

      pub one_less : (after : Apart) → TakesApart d b now after (λ c. inst d c p ≡ t) (weight p + 2) true → IsLeft before after ps ts (drop (i + 1) ps) (drop (i + 1) ts)
      one_less after taken = record {
        fits = taken.fits;
        pairs = ((parted (IsPair d)).0 left.pairs).1;
        asks = λ c k.
            let z = left.asks c k in
            let y = taken.asks c k in
            let q = parted (λ q u. inst d c q ≡ u) in (
              λ h. let w = z.0 h in let v = q.0 w.0 in (v.1, y.0 (v.0, w.1)),
              λ h. let w = y.1 h.1 in z.1 (q.1 (w.0, h.0), w.1),
            );
        lighter = let l = taken.lighter in let m = left.lighter in let e = weight_of-at ps i p within p_is in omega arith;
      }

    pub none_left : length ps ≤ i → IsTakenApart d b before now (AllMake d ps ts) (weight_of ps)
    none_left past = record {
      fits = left.fits;
      asks = λ c k.
          let e = drop_all i ps past in
          let f = drop_all i ts (omega arith) in
          subst (λ l. (AllMake d ps ts c × ApartAsks d b before c) ↔ (AllMake d l (drop i ts) c × ApartAsks d b now c) → (AllMake d ps ts c × ApartAsks d b before c) ↔ ApartAsks d b now c) (sym e)
          (subst (λ l. (AllMake d ps ts c × ApartAsks d b before c) ↔ (AllMake d [] l c × ApartAsks d b now c) → (AllMake d ps ts c × ApartAsks d b before c) ↔ ApartAsks d b now c) (sym f)
          (λ z. (λ h. (z.0 h).1, λ h. z.1 (tt, h)))) (left.asks c k);
      lighter = let m = left.lighter in omega arith;
    }

  -- what is found for what is left
  module _ (vars : List Var) (X : Values → Type 0) (a after : Apart) (u : IsUntouched a) (ps ts : List FlatTerm) where
    pub found_never : TakesApart d b a after (AllMake d ps ts) (weight_of ps) false → Finds vars (IsSolution d b (λ c. AllMake d ps ts c × X c)) None
    found_never never = λ c s. never c s.candidate s.holds.0 ((untouched_asks a u c).1 s.agrees)

    module _ (taken : IsTakenApart d b a after (AllMake d ps ts) (weight_of ps)) where
      pub lighter_left : weight_of (references after.patterns.items) ≤ weight_of ps
      lighter_left = let l = taken.lighter in let e = ap (λ l. weight_of (references l)) u.patterns in omega arith

      found_after : (r : Option Bindings) → Finds vars (IsSolution d (values_with d b after) (λ c. AllMake d (references after.patterns.items) (references after.targets.items) c × X c)) r → Finds vars (IsSolution d b (λ c. AllMake d ps ts c × X c)) r
      found_after None f = λ c s.
          let w = (taken.asks c s.candidate).0 (s.holds.0, (untouched_asks a u c).1 s.agrees) in
          f c record { candidate = s.candidate; agrees = w.0; holds = (w.1, s.holds.1) }
      found_after (Some s) f =
          let k = f.1 in
          let w = (taken.asks f.0 k.candidate).1 (k.agrees, k.holds.0) in (
            f.0,
            record { candidate = k.candidate; agrees = (untouched_asks a u f.0).0 w.1; holds = (w.0, k.holds.1) },
            f.2,
          )

      found_all_after : {E : Type 0} (r : Result (Option Bindings) E) → IfOk r (Finds vars (IsSolution d (values_with d b after) (λ c. AllMake d (references after.patterns.items) (references after.targets.items) c × X c))) → IfOk r (Finds vars (IsSolution d b (λ c. AllMake d ps ts c × X c)))
      found_all_after (Ok r) f = found_after r f
      found_all_after (Err e) f = tt

      pub found_apart : (vs : List Binding) (qs us : List (Bor FlatTerm)) → vs ≡ after.values.items → qs ≡ after.patterns.items → us ≡ after.targets.items → {E : Type 0} (r : Result (Option Bindings) E) →
          IfOk r (Finds vars (IsSolution d (with_bindings b vs) (λ c. AllMake d (references qs) (references us) c × X c))) → IfOk r (Finds vars (IsSolution d b (λ c. AllMake d ps ts c × X c)))
      found_apart vs qs us v q w {E} r f =
          found_all_after r
          (subst (λ l. IfOk r (Finds vars (IsSolution d (with_bindings b l) (λ c. AllMake d (references after.patterns.items) (references after.targets.items) c × X c)))) v
          (subst (λ l. IfOk r (Finds vars (IsSolution d (with_bindings b vs) (λ c. AllMake d (references l) (references after.targets.items) c × X c)))) q
          (subst (λ l. IfOk r (Finds vars (IsSolution d (with_bindings b vs) (λ c. AllMake d (references qs) (references l) c × X c)))) w f)))

-- lists of references, pair by pair
module _ (ps ts : List (Bor FlatTerm)) (p t : Bor FlatTerm) (some : 1 ≤ length ps) (long : length ps ≡ length ts) (p_is : p ≡ get_or ps 0 p) (t_is : t ≡ get_or ts 0 t) where
  some_first : 1 ≤ length (references ps)
  some_first = let e = length_references ps in omega arith

  first_at : p.now ≡ get_or (references ps) 0 p.now
  first_at = references-get ps 0 p (omega arith) p_is

  target_at : t.now ≡ get_or (references ts) 0 t.now
  target_at = references-get ts 0 t (omega arith) t_is

  pub pairs_parted : (R : FlatTerm → FlatTerm → Type 0) → AllZip R (references ps) (references ts) ↔ (R p.now t.now × AllZip R (references (take (length ps - 1) (drop 1 ps))) (references (take (length ts - 1) (drop 1 ts))))
  pairs_parted R =
      subst (λ l. AllZip R (references ps) (references ts) ↔ (R p.now t.now × AllZip R l (references (take (length ts - 1) (drop 1 ts))))) (sym (tail_is ps))
      (subst (λ l. AllZip R (references ps) (references ts) ↔ (R p.now t.now × AllZip R (drop 1 (references ps)) l)) (sym (tail_is ts))
      (zip_parted R (references ps) (references ts) p.now t.now some_first (length_references ts ∙ sym long ∙ sym (length_references ps)) first_at target_at))

  pub pairs_weight : weight p.now + 2 + weight_of (references (take (length ps - 1) (drop 1 ps))) ≡ weight_of (references ps)
  pairs_weight = let e = ap weight_of (tail_is ps) in let w = weight_of-first (references ps) p.now some_first first_at in omega arith

  pub found_pairs : (d : Declarations) (b : Bindings) (vars : List Var) (X : Values → Type 0) → {E : Type 0} (r : Result (Option Bindings) E) →
      IfOk r (Finds vars (IsSolution d b (λ c. (inst d c p.now ≡ t.now) × (AllMake d (references (take (length ps - 1) (drop 1 ps))) (references (take (length ts - 1) (drop 1 ts))) c × X c)))) →
      IfOk r (Finds vars (IsSolution d b (λ c. AllMake d (references ps) (references ts) c × X c)))
  found_pairs d b vars X r f =
      if_found_same vars d b (λ c. (inst d c p.now ≡ t.now) × (AllMake d (references (take (length ps - 1) (drop 1 ps))) (references (take (length ts - 1) (drop 1 ts))) c × X c)) (λ c. AllMake d (references ps) (references ts) c × X c)
      (λ c k a. let z = pairs_parted (λ q u. inst d c q ≡ u) in (λ h. (z.1 (h.0, h.1.0), h.1.1), λ h. let w = z.0 h.0 in (w.0, (w.1, h.1)))) r f
