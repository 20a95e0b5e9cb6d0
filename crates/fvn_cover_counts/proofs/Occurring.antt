-- What occurs stands there once or more often.
use Rattle.std.proofs.Common.{◌≡◌, ◌≢◌, ℕ, zero, suc, ◌+◌, ◌≤◌, Bool, true, false, List, [], ◌∷◌, ◌++◌, map, replicate, refl, sym, ap, ◌∙◌, subst, inl, inr, arith}
use Rattle.std.specs.Prelude.{◌⊎◌}
use Rattle.fvn_terms.specs.declared.plain.Var.{Var}
use Rattle.fvn_terms.specs.Term.{Term, Terms, var, app, none, more}
use Rattle.fvn_terms.specs.Substitution.{same_var, Occurs, OccursAmong}
use Rattle.fvn_terms.specs.Variants.{OccursInSome}
use Rattle.fvn_forms.specs.Flat.{FlatTerm, plain}
use Rattle.fvn_flat.proofs.Binding.{same_var_is, same_var_itself}
use Rattle.fvn_cover_counts.specs.declared.symbols.Symbol.TheVariants.{Variable}
use Rattle.fvn_cover_counts.specs.Weights.{weight_all, one_if, of_symbol, times}
use Rattle.fvn_cover_counts.specs.Places.{column, places_from}

module _ (x : Var) where
  mutual
    pub occurs_once : (t : Term) → Occurs x t → 1 ≤ times (Variable x) t
    occurs_once (var y) e = let k : same_var x y ≡ true = ap (same_var x) (sym e) ∙ same_var_itself x in rw k (omega arith)
    occurs_once (app f none) o = absurd o
    occurs_once (app f (more t ts)) o = let k = occur_once (more t ts) o in omega arith

    occur_once : (ts : Terms) → OccursAmong x ts → 1 ≤ weight_all (of_symbol (Variable x)) ts
    occur_once none o = absurd o
    occur_once (more t ts) (inl o) = let k = occurs_once t o in omega arith
    occur_once (more t ts) (inr o) = let k = occur_once ts o in omega arith

  at_variable : (y : Var) (b : Bool) → same_var x y ≡ b → 1 ≤ one_if b → x ≡ y
  at_variable y true e l = same_var_is x y e
  at_variable y false e l = absurd (omega (arith, l))

  none_or_some : (n : ℕ) → (n ≡ 0) ⊎ (1 ≤ n)
  none_or_some zero = inl refl
  none_or_some (suc n) = inr (omega arith)

  mutual
    pub once_occurs : (t : Term) → 1 ≤ times (Variable x) t → Occurs x t
    once_occurs (var y) l = at_variable y (same_var x y) refl l
    once_occurs (app f none) l = absurd (omega (arith, l))
    once_occurs (app f (more t ts)) l = once_occur (more t ts) (omega (arith, l))

    once_occur : (ts : Terms) → 1 ≤ weight_all (of_symbol (Variable x)) ts → OccursAmong x ts
    once_occur none l = absurd (omega (arith, l))
    once_occur (more t ts) l = elim (none_or_some (times (Variable x) t)) [ inl e ↦ inr (once_occur ts (omega (arith, l, e))) | inr e ↦ inl (once_occurs t e) ]

  -- a variable has places where it occurs in some form
  some_copies : (n i : ℕ) (xs : List ℕ) → 1 ≤ n → (replicate n i ++ xs) ≢ []
  some_copies zero i xs l e = omega (arith, l)
  some_copies (suc n) i xs l e = cc

  after_copies : (n i : ℕ) (xs : List ℕ) → xs ≢ [] → (replicate n i ++ xs) ≢ []
  after_copies zero i xs h e = h e
  after_copies (suc n) i xs h e = cc

  pub occurs_places : (i : ℕ) (ts : List FlatTerm) → OccursInSome x (map plain ts) → places_from i (column (Variable x) ts) ≢ []
  occurs_places i [] o = absurd (omega (arith, o.2))
  occurs_places i (t ∷ ts) (zero, v, within, e, o) = some_copies (times (Variable x) (plain t)) i (places_from (i + 1) (column (Variable x) ts)) (occurs_once (plain t) (subst (Occurs x) (sym e) o))
  occurs_places i (t ∷ ts) (suc n, v, within, e, o) = after_copies (times (Variable x) (plain t)) i (places_from (i + 1) (column (Variable x) ts)) (occurs_places (i + 1) ts (n, v, omega (arith, within), e, o))

  pub places_occur : (i : ℕ) (ts : List FlatTerm) → places_from i (column (Variable x) ts) ≢ [] → OccursInSome x (map plain ts)
  places_occur i [] h = absurd (h refl)
  places_occur i (t ∷ ts) h = go (times (Variable x) (plain t)) refl (places_occur (i + 1) ts)
    where
      later : OccursInSome x (map plain ts) → OccursInSome x (map plain (t ∷ ts))
      later (n, v, within, e, o) = (suc n, v, omega (arith, within), e, o)

      go : (n : ℕ) → times (Variable x) (plain t) ≡ n → (places_from (i + 1) (column (Variable x) ts) ≢ [] → OccursInSome x (map plain ts)) → OccursInSome x (map plain (t ∷ ts))
      go zero e k = later (k (λ q. h (rw (e, q) refl)))
      go (suc n) e k = (0, plain t, omega arith, refl, once_occurs (plain t) (omega (arith, e)))
