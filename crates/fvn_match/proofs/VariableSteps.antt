-- Variables collected one after another.
use Rattle.std.proofs.Common.{◌≡◌, ℕ, ◌+◌, ◌<◌, Bool, true, false, zero, suc, List, [], ◌∷◌, ◌++◌, length, map, take, get_or, None, refl, sym, ap, ◌∙◌, subst, inl, inr, arith}
use Rattle.std.specs.Prelude.{◌↔◌, ◌⊎◌, ◌||◌}
use Rattle.std.proofs.lemmas.List.{take_more}
use Rattle.fvn_terms.specs.declared.plain.Var.{Var}
use Rattle.fvn_terms.specs.Substitution.{same_var, Occurs}
use Rattle.fvn_terms.specs.Variants.{OccursInSome}
use Rattle.fvn_forms.specs.Flat.{FlatTerm, plain}
use Rattle.fvn_flat.specs.Forms.{variable_of, args_of}
use Rattle.fvn_flat.specs.Variables.{listed}
use Rattle.fvn_flat.proofs.Binding.{same_var_is, same_var_itself}
use Rattle.fvn_flat.proofs.Occurrences.{OccursIn, occurs_in_args}
use Rattle.fvn_match.specs.inner.Variables.{IsAmong, AreOnce, Collects, AreVariablesOf}

-- the test is exact
pub listed_among : (vars : List Var) (x : Var) → listed vars x ≡ true → IsAmong vars x
listed_among [] x e = cc
listed_among (y ∷ vars) x e = go (same_var y x) refl e (listed_among vars x)
  where
    go : (b : Bool) → same_var y x ≡ b → (b || listed vars x) ≡ true → (listed vars x ≡ true → IsAmong vars x) → IsAmong (y ∷ vars) x
    go true p q k = inl (same_var_is y x p)
    go false p q k = inr (k q)

pub among_listed : (vars : List Var) (x : Var) → listed vars x ≡ false → IsAmong vars x → ⊥
among_listed [] x e h = h
among_listed (y ∷ vars) x e h = go (same_var y x) refl e h (among_listed vars x)
  where
    go : (b : Bool) → same_var y x ≡ b → (b || listed vars x) ≡ false → IsAmong (y ∷ vars) x → (listed vars x ≡ false → IsAmong vars x → ⊥) → ⊥
    go true p q h k = cc
    go false p q (inl e) k = let z : same_var y x ≡ true = ap (same_var y) (sym e) ∙ same_var_itself y in cc
    go false p q (inr h) k = k q h

-- one more at the end
among-push : (vars : List Var) (x y : Var) → IsAmong (vars ++ x ∷ []) y ↔ (IsAmong vars y ⊎ (y ≡ x))
among-push [] x y = (λ h. elim h [ inl e ↦ inr (sym e) | inr n ↦ absurd n ], λ h. elim h [ inl n ↦ absurd n | inr e ↦ inl (sym e) ])
among-push (z ∷ vars) x y = let k = among-push vars x y in (to k.0, from k.1)
  where
    to : (IsAmong (vars ++ x ∷ []) y → IsAmong vars y ⊎ (y ≡ x)) → (z ≡ y) ⊎ IsAmong (vars ++ x ∷ []) y → ((z ≡ y) ⊎ IsAmong vars y) ⊎ (y ≡ x)
    to k (inl e) = inl (inl e)
    to k (inr h) = side (k h)
      where
        side : IsAmong vars y ⊎ (y ≡ x) → ((z ≡ y) ⊎ IsAmong vars y) ⊎ (y ≡ x)
        side (inl a) = inl (inr a)
        side (inr b) = inr b

    from : (IsAmong vars y ⊎ (y ≡ x) → IsAmong (vars ++ x ∷ []) y) → ((z ≡ y) ⊎ IsAmong vars y) ⊎ (y ≡ x) → (z ≡ y) ⊎ IsAmong (vars ++ x ∷ []) y
    from k (inl (inl e)) = inl e
    from k (inl (inr h)) = inr (k (inl h))
    from k (inr e) = inr (k (inr e))

once-push : (vars : List Var) (x : Var) → AreOnce vars → (IsAmong vars x → ⊥) → AreOnce (vars ++ x ∷ [])
once-push [] x o n = ((λ h. h), tt)
once-push (y ∷ vars) x o n = ((λ h. go ((among-push vars x y).0 h)), once-push vars x o.1 (λ h. n (inr h)))
  where
    go : IsAmong vars y ⊎ (y ≡ x) → ⊥
    go (inl a) = o.0 a
    go (inr e) = n (inl e)

pub collects_same : (vars : List Var) (x : Var) → AreOnce vars → listed vars x ≡ true → Collects vars (λ y. y ≡ x) vars
collects_same vars x o e = record { once = o; just = λ y. (λ h. inl h, λ h. go y h) }
  where
    go : (y : Var) → IsAmong vars y ⊎ (y ≡ x) → IsAmong vars y
    go y (inl a) = a
    go y (inr p) = subst (IsAmong vars) (sym p) (listed_among vars x e)

pub collects_push : (vars : List Var) (x : Var) → AreOnce vars → listed vars x ≡ false → Collects vars (λ y. y ≡ x) (vars ++ x ∷ [])
collects_push vars x o e = record { once = once-push vars x o (among_listed vars x e); just = among-push vars x }

-- nothing, the same in other words, and one after the other
pub collects_none : (vars : List Var) → AreOnce vars → Collects vars (λ y. OccursIn y []) vars
collects_none vars o = record { once = o; just = λ y. (λ h. inl h, λ h. elim h [ inl a ↦ a | inr n ↦ absurd n ]) }

pub collects_iff : (vars : List Var) (P Q : Var → Type 0) → ((y : Var) → P y ↔ Q y) → (all : List Var) → Collects vars P all → Collects vars Q all
collects_iff vars P Q same all h = record { once = h.once; just = λ y. (λ a. to y ((h.just y).0 a), λ a. (h.just y).1 (from y a)) }
  where
    to : (y : Var) → IsAmong vars y ⊎ P y → IsAmong vars y ⊎ Q y
    to y (inl a) = inl a
    to y (inr p) = inr ((same y).0 p)

    from : (y : Var) → IsAmong vars y ⊎ Q y → IsAmong vars y ⊎ P y
    from y (inl a) = inl a
    from y (inr p) = inr ((same y).1 p)

collects_then : (vs ws us : List Var) (P Q : Var → Type 0) → Collects vs P ws → Collects ws Q us → Collects vs (λ y. P y ⊎ Q y) us
collects_then vs ws us P Q g h = record { once = h.once; just = λ y. (λ a. to y ((h.just y).0 a), from y) }
  where
    to : (y : Var) → IsAmong ws y ⊎ Q y → IsAmong vs y ⊎ (P y ⊎ Q y)
    to y (inl a) = side ((g.just y).0 a)
      where
        side : IsAmong vs y ⊎ P y → IsAmong vs y ⊎ (P y ⊎ Q y)
        side (inl b) = inl b
        side (inr p) = inr (inl p)
    to y (inr q) = inr (inr q)

    from : (y : Var) → IsAmong vs y ⊎ (P y ⊎ Q y) → IsAmong us y
    from y (inl a) = (h.just y).1 (inl ((g.just y).1 (inl a)))
    from y (inr (inl p)) = (h.just y).1 (inl ((g.just y).1 (inr p)))
    from y (inr (inr q)) = (h.just y).1 (inr q)

occurs-push : (y : Var) (l : List FlatTerm) (t : FlatTerm) → (OccursIn y l ⊎ Occurs y (plain t)) ↔ OccursIn y (l ++ t ∷ [])
occurs-push y [] t = (λ h. elim h [ inl n ↦ absurd n | inr o ↦ inl o ], λ h. elim h [ inl o ↦ inr o | inr n ↦ absurd n ])
occurs-push y (u ∷ l) t = let k = occurs-push y l t in (to k.0, from k.1)
  where
    to : (OccursIn y l ⊎ Occurs y (plain t) → OccursIn y (l ++ t ∷ [])) → (Occurs y (plain u) ⊎ OccursIn y l) ⊎ Occurs y (plain t) → Occurs y (plain u) ⊎ OccursIn y (l ++ t ∷ [])
    to k (inl (inl o)) = inl o
    to k (inl (inr o)) = inr (k (inl o))
    to k (inr o) = inr (k (inr o))

    from : (OccursIn y (l ++ t ∷ []) → OccursIn y l ⊎ Occurs y (plain t)) → Occurs y (plain u) ⊎ OccursIn y (l ++ t ∷ []) → (Occurs y (plain u) ⊎ OccursIn y l) ⊎ Occurs y (plain t)
    from k (inl o) = inl (inl o)
    from k (inr o) = side (k o)
      where
        side : OccursIn y l ⊎ Occurs y (plain t) → (Occurs y (plain u) ⊎ OccursIn y l) ⊎ Occurs y (plain t)
        side (inl a) = inl (inr a)
        side (inr b) = inr b

pub collects_term : (vs ws us : List Var) (l : List FlatTerm) (i : ℕ) (t : FlatTerm) → i < length l → t ≡ get_or l i t → Collects vs (λ y. OccursIn y (take i l)) ws → Collects ws (λ y. Occurs y (plain t)) us → Collects vs (λ y. OccursIn y (take (i + 1) l)) us
collects_term vs ws us l i t within is g h =
    let more : take (i + 1) l ≡ take i l ++ t ∷ [] = take_more l i t within ∙ ap (λ u. take i l ++ u ∷ []) (sym is) in
    collects_iff vs (λ y. OccursIn y (take i l) ⊎ Occurs y (plain t)) (λ y. OccursIn y (take (i + 1) l))
    (λ y. subst (λ m. (OccursIn y (take i l) ⊎ Occurs y (plain t)) ↔ OccursIn y m) (sym more) (occurs-push y (take i l) t)) us
    (collects_then vs ws us (λ y. OccursIn y (take i l)) (λ y. Occurs y (plain t)) g h)

pub collects_args : (vs us : List Var) (t : FlatTerm) (l : List FlatTerm) → variable_of t ≡ None → l ≡ args_of t → Collects vs (λ y. OccursIn y l) us → Collects vs (λ y. Occurs y (plain t)) us
collects_args vs us t l e is h =
    collects_iff vs (λ y. OccursIn y l) (λ y. Occurs y (plain t))
    (λ y. let k = occurs_in_args y t e in (λ o. k.1 (subst (OccursIn y) is o), λ o. subst (OccursIn y) (sym is) (k.0 o))) us h

-- in one of a list of forms
pub occurs_in_some : (x : Var) (l : List FlatTerm) → OccursIn x l ↔ OccursInSome x (map plain l)
occurs_in_some x [] = (λ h. absurd h, λ h. absurd (omega (arith, h.2)))
occurs_in_some x (t ∷ l) = let k = occurs_in_some x l in (to k.0, from k.1)
  where
    to : (OccursIn x l → OccursInSome x (map plain l)) → Occurs x (plain t) ⊎ OccursIn x l → OccursInSome x (plain t ∷ map plain l)
    to k (inl o) = (0, plain t, omega arith, refl, o)
    to k (inr o) = let h = k o in (suc h.0, h.1, omega (arith, h.2), h.3, h.4)

    from : (OccursInSome x (map plain l) → OccursIn x l) → OccursInSome x (plain t ∷ map plain l) → Occurs x (plain t) ⊎ OccursIn x l
    from k (zero, u, within, e, o) = inl (subst (Occurs x) (sym e) o)
    from k (suc n, u, within, e, o) = inr (k (n, u, omega (arith, within), e, o))

pub collects_some : (vs us : List Var) (l : List FlatTerm) → Collects vs (λ y. OccursIn y l) us → Collects vs (λ y. OccursInSome y (map plain l)) us
collects_some vs us l h = collects_iff vs (λ y. OccursIn y l) (λ y. OccursInSome y (map plain l)) (λ y. occurs_in_some y l) us h

are_variables : (l : List FlatTerm) (all : List Var) → Collects [] (λ y. OccursInSome y (map plain l)) all → AreVariablesOf l all
are_variables l all h = record { once = h.once; just = λ x. (λ a. to x ((h.just x).0 a), λ o. (h.just x).1 (inr o)) }
  where
    to : (x : Var) → ⊥ ⊎ OccursInSome x (map plain l) → OccursInSome x (map plain l)
    to x (inl n) = absurd n
    to x (inr o) = o

-- in one of two lists
occurs_append : (y : Var) (l m : List FlatTerm) → (OccursIn y l ⊎ OccursIn y m) ↔ OccursIn y (l ++ m)
occurs_append y [] m = (λ h. elim h [ inl n ↦ absurd n | inr o ↦ o ], λ o. inr o)
occurs_append y (u ∷ l) m = let k = occurs_append y l m in (to k.0, from k.1)
  where
    to : (OccursIn y l ⊎ OccursIn y m → OccursIn y (l ++ m)) → (Occurs y (plain u) ⊎ OccursIn y l) ⊎ OccursIn y m → Occurs y (plain u) ⊎ OccursIn y (l ++ m)
    to k (inl (inl o)) = inl o
    to k (inl (inr o)) = inr (k (inl o))
    to k (inr o) = inr (k (inr o))

    from : (OccursIn y (l ++ m) → OccursIn y l ⊎ OccursIn y m) → Occurs y (plain u) ⊎ OccursIn y (l ++ m) → (Occurs y (plain u) ⊎ OccursIn y l) ⊎ OccursIn y m
    from k (inl o) = inl (inl o)
    from k (inr o) = side (k o)
      where
        side : OccursIn y l ⊎ OccursIn y m → (Occurs y (plain u) ⊎ OccursIn y l) ⊎ OccursIn y m
        side (inl a) = inl (inr a)
        side (inr b) = inr b

occurs_in_both : (y : Var) (l m : List FlatTerm) → (OccursInSome y (map plain l) ⊎ OccursInSome y (map plain m)) ↔ OccursInSome y (map plain (l ++ m))
occurs_in_both y l m = (λ o. (occurs_in_some y (l ++ m)).0 ((occurs_append y l m).0 (to o)), λ o. from ((occurs_append y l m).1 ((occurs_in_some y (l ++ m)).1 o)))
  where
    to : OccursInSome y (map plain l) ⊎ OccursInSome y (map plain m) → OccursIn y l ⊎ OccursIn y m
    to (inl o) = inl ((occurs_in_some y l).1 o)
    to (inr o) = inr ((occurs_in_some y m).1 o)

    from : OccursIn y l ⊎ OccursIn y m → OccursInSome y (map plain l) ⊎ OccursInSome y (map plain m)
    from (inl o) = inl ((occurs_in_some y l).0 o)
    from (inr o) = inr ((occurs_in_some y m).0 o)

pub are_variables_of_both : (l m : List FlatTerm) (ws us : List Var) → Collects [] (λ y. OccursInSome y (map plain l)) ws → Collects ws (λ y. OccursInSome y (map plain m)) us → AreVariablesOf (l ++ m) us
are_variables_of_both l m ws us g h =
    are_variables (l ++ m) us
    (collects_iff [] (λ y. OccursInSome y (map plain l) ⊎ OccursInSome y (map plain m)) (λ y. OccursInSome y (map plain (l ++ m))) (λ y. occurs_in_both y l m) us
    (collects_then [] ws us (λ y. OccursInSome y (map plain l)) (λ y. OccursInSome y (map plain m)) g h))
