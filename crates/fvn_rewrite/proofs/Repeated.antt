-- An instance of a sum with a summand twice has an argument twice.
use Rattle.std.proofs.Common.{◌≡◌, ℕ, ◌+◌, ◌-◌, ◌<◌, ◌≤◌, Bool, true, false, List, [], ◌∷◌, drop, length, get_or, None, refl, sym, ap, ◌∙◌, arith}
use Rattle.std.specs.Prelude.{◌||◌, if◌then◌else◌, IsTrue}
use Rattle.std.proofs.lemmas.List.{drop_more, length-append, length-drop}
use Rattle.fvn_terms.specs.declared.plain.OpId.{OpId}
use Rattle.fvn_terms.specs.declared.declarations.Declarations.{Declarations}
use Rattle.fvn_terms.specs.Signature.{axioms}
use Rattle.fvn_terms.specs.Equality.{identity}
use Rattle.fvn_terms.specs.Substitution.{Substitution, apply}
use Rattle.fvn_forms.specs.Flat.{FlatTerm, plain}
use Rattle.fvn_forms.specs.Order.{flat_cmp, same_flat}
use Rattle.fvn_forms.specs.InOrder.{insert, sort, one_if, count}
use Rattle.fvn_forms.specs.Canon.{parts}
use Rattle.std.specs.Ordering.{is_gt}
use Rattle.fvn_forms.proofs.Order.{flat_cmp_itself, same_flat_itself, same_flat_is}
use Rattle.fvn_forms.proofs.InOrder.{count_append, count_itself, remove, count_remove, insert_remove}
use Rattle.fvn_forms.proofs.Eval.{canon_respects, canon_plain, canon_settled}
use Rattle.fvn_flat.specs.Forms.{args_of}
use Rattle.fvn_flat.specs.Fits.{Fits}
use Rattle.fvn_match.specs.Matching.{HasNoMatcher}
use Rattle.fvn_places.proofs.ClashFacts.{many_parts}
use Rattle.fvn_places.proofs.SumClashes.{instance, summands, args_of_instance}
use Rattle.fvn_rewrite.specs.inner.Twins.{has_twins, LacksTwins}

-- twins behind a form
behind : (t : FlatTerm) (l : List FlatTerm) → has_twins l ≡ true → has_twins (t ∷ l) ≡ true
behind t [] h = cc
behind t (u ∷ l) h = go (same_flat t u)
  where
    go : (b : Bool) → (b || has_twins (u ∷ l)) ≡ true
    go true = refl
    go false = h

first_twins : (t : FlatTerm) (l : List FlatTerm) → has_twins (t ∷ t ∷ l) ≡ true
first_twins t l = ap (λ b. b || has_twins (t ∷ l)) (same_flat_itself t)

once_more : (z : FlatTerm) (l : List FlatTerm) → insert z (z ∷ l) ≡ z ∷ z ∷ l
once_more z l = ap (λ o. if is_gt o then z ∷ insert z l else z ∷ z ∷ l) (flat_cmp_itself z)

-- a form that is put in order twice has a twin
inserted_twice : (z : FlatTerm) (l : List FlatTerm) → has_twins (insert z (insert z l)) ≡ true
inserted_twice z [] = ap has_twins (once_more z []) ∙ first_twins z []
inserted_twice z (u ∷ l) = go (is_gt (flat_cmp z u)) refl (inserted_twice z l)
  where
    go : (b : Bool) → is_gt (flat_cmp z u) ≡ b → has_twins (insert z (insert z l)) ≡ true → has_twins (insert z (if b then u ∷ insert z l else z ∷ u ∷ l)) ≡ true
    go true e h = ap (λ c. has_twins (if c then u ∷ insert z (insert z l) else z ∷ u ∷ insert z l)) e ∙ behind u (insert z (insert z l)) h
    go false e h = ap has_twins (once_more z (u ∷ l)) ∙ first_twins z (u ∷ l)

-- what stands twice in a list has a twin in order
sorted_twins : (z : FlatTerm) (l : List FlatTerm) → 2 ≤ count z l → has_twins (sort l) ≡ true
sorted_twins z l two =
    let one : 1 ≤ count z l = omega (arith, two) in
    let own : one_if (same_flat z z) ≡ 1 = ap one_if (same_flat_itself z) in
    let left = count_remove z z l one in
    let again : 1 ≤ count z (remove z l) = omega (arith, two, own, left) in
    ap has_twins (sym (insert_remove z l one)) ∙ ap (λ m. has_twins (insert z m)) (sym (insert_remove z (remove z l) again)) ∙ inserted_twice z (sort (remove z (remove z l)))

module _ (d : Declarations) (f : OpId) (lasting : identity (axioms d f) ≡ None) (s : Substitution) where
  -- a summand of an instance
  some_part : (t : FlatTerm) → (z : FlatTerm) × (1 ≤ count z (parts d f (instance d s t)))
  some_part t = go (parts d f (instance d s t)) (let a = many_parts d f lasting (instance d s t ∷ []) (canon_settled d (apply s (plain t)), tt) in let b = length-append (parts d f (instance d s t)) [] in omega (arith, a, b))
    where
      go : (l : List FlatTerm) → 1 ≤ length l → (z : FlatTerm) × (1 ≤ count z l)
      go [] n = absurd (omega (arith, n))
      go (z ∷ l) n = (z, let own = count_itself z l in omega (arith, own))

  -- one that stands twice among the summands of a list with twins
  twice_counted : (ts : List FlatTerm) → has_twins ts ≡ true → (z : FlatTerm) × (2 ≤ count z (summands d f s ts))
  twice_counted [] h = cc
  twice_counted (t ∷ []) h = cc
  twice_counted (t ∷ u ∷ us) h = go (same_flat t u) refl h (twice_counted (u ∷ us))
    where
      go : (b : Bool) → same_flat t u ≡ b → (b || has_twins (u ∷ us)) ≡ true → (has_twins (u ∷ us) ≡ true → (z : FlatTerm) × (2 ≤ count z (summands d f s (u ∷ us)))) → (z : FlatTerm) × (2 ≤ count z (summands d f s (t ∷ u ∷ us)))
      go true e k rest =
          let z = some_part t in
          let same : count z.0 (parts d f (instance d s t)) ≡ count z.0 (parts d f (instance d s u)) = ap (λ w. count z.0 (parts d f (instance d s w))) (same_flat_is t u e) in
          let a = count_append z.0 (parts d f (instance d s t)) (summands d f s (u ∷ us)) in
          let b = count_append z.0 (parts d f (instance d s u)) (summands d f s us) in
          (z.0, omega (arith, z.1, same, a, b))
      go false e k rest =
          let r = rest k in
          let a = count_append r.0 (parts d f (instance d s t)) (summands d f s (u ∷ us)) in
          (r.0, omega (arith, r.1, a))

two_or_more : (l : List FlatTerm) → has_twins l ≡ true → 2 ≤ length l
two_or_more [] h = cc
two_or_more (t ∷ []) h = cc
two_or_more (t ∷ u ∷ l) h = omega arith

-- so what has no argument twice is no instance
pub lacking_has_no_matcher : (d : Declarations) (p t : FlatTerm) → Fits d p → Fits d t → LacksTwins d p t → HasNoMatcher d (p ∷ []) (t ∷ [])
lacking_has_no_matcher d p t fp ft h = λ s m.
    let f = h.operator in
    let is : instance d s p ≡ t = canon_respects d m.1.0 ∙ canon_plain d t ft.flat in
    let z = twice_counted d f h.lasting s (args_of p) h.twins in
    let args : args_of t ≡ sort (summands d f s (args_of p)) =
    ap args_of (sym is) ∙ args_of_instance d f h.associative h.lasting p fp.flat h.heads (two_or_more (args_of p) h.twins) s in
    let clash : true ≡ false = sym (sorted_twins z.0 (summands d f s (args_of p)) z.1) ∙ ap has_twins (sym args) ∙ h.none in cc

pub alike : (t u : FlatTerm) → t ≡ u → same_flat t u ≡ true
alike t u e = ap (same_flat t) (sym e) ∙ same_flat_itself t

pub unalike : (t u : FlatTerm) (b : Bool) → (t ≡ u → IsTrue b) → b ≡ false → same_flat t u ≡ false
unalike t u b h e = go (same_flat t u) refl
  where
    go : (c : Bool) → same_flat t u ≡ c → c ≡ false
    go true q = let p : true ≡ false = sym (h (same_flat_is t u q)) ∙ e in cc
    go false q = refl

-- one pair more that is no pair of twins
pub next_twins : (ts : List FlatTerm) (i : ℕ) (t u : FlatTerm) → i + 1 < length ts → t ≡ get_or ts i t → u ≡ get_or ts (i + 1) u → has_twins (drop i ts) ≡ (same_flat t u || has_twins (drop (i + 1) ts))
next_twins ts i t u within at next =
    let rest : drop (i + 1) ts ≡ u ∷ drop (i + 1 + 1) ts = drop_more ts (i + 1) u within ∙ ap (λ v. v ∷ drop (i + 1 + 1) ts) (sym next) in
    let front : drop i ts ≡ t ∷ drop (i + 1) ts = drop_more ts i t (omega (arith, within)) ∙ ap (λ v. v ∷ drop (i + 1) ts) (sym at) in
    ap has_twins (front ∙ ap (λ l. t ∷ l) rest) ∙ ap (λ l. same_flat t u || has_twins l) (sym rest)

pub no_more_twins : (ts : List FlatTerm) (i : ℕ) → length ts ≤ i + 1 → has_twins (drop i ts) ≡ false
no_more_twins ts i end = go (drop i ts) (omega (arith, end, length-drop i ts))
  where
    go : (l : List FlatTerm) → length l ≤ 1 → has_twins l ≡ false
    go [] n = refl
    go (t ∷ []) n = refl
    go (t ∷ u ∷ l) n = absurd (omega (arith, n))
