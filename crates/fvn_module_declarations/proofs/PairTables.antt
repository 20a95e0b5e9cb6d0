-- A table of the pairs of a list, with one pair more.
use Rattle.std.proofs.Common.{◌≡◌, ℕ, ◌+◌, ◌*◌, ◌<◌, Bool, true, false, ◌||◌, List, [], ◌∷◌, ◌++◌, length, get_or, set, refl, sym, ap, ◌∙◌, ◌⊎◌, inl, inr, arith, nat_eq}
use Rattle.std.specs.List.{list_any}
use Rattle.std.proofs.lemmas.Bool.{cases_eq, ne_eqb, eq-eqb, or_right, and_left, and_right}
use Rattle.std.proofs.lemmas.List.{length-set, get_or-set_same, get_or-set_other}
use Rattle.std.proofs.lemmas.List.Folds.{list_any-append}
use Rattle.fvn_base.specs.declared.limits.TheConstants.{SORTS}
use Rattle.fvn_forms.specs.SortOrder.{sort_number}
use Rattle.fvn_signature_draft.specs.declared.collected.Collected.{Collected}
use Rattle.fvn_module_names.specs.Order.{same_pair}
use Rattle.fvn_module_declarations.specs.inner.Pairs.{IsTableOf}

or_false : (b : Bool) → b ≡ (b || false)
or_false true = refl
or_false false = refl

pub table-more : (known : List Bool) (c d : Collected) (low high : ℕ) → low < c.sorts → high < c.sorts → IsTableOf known c →
    d ≡ record c { below = c.below ++ (sort_number low, sort_number high) ∷ [] } → IsTableOf (set known (SORTS * low + high) true) d
table-more known c d low high l m h is = rw is (record {
  few = h.few;
  long = length-set known (SORTS * low + high) true ∙ h.long;
  exact = exact;
}) where
  low_few : low < SORTS
  low_few = let f = h.few in omega arith

  high_few : high < SORTS
  high_few = let f = h.few in omega arith

  within : SORTS * low + high < length known
  within = let e = h.long in let a = low_few in let b = high_few in omega arith

  exact : (s q : ℕ) → s < SORTS → q < SORTS → get_or (set known (SORTS * low + high) true) (SORTS * s + q) false ≡ list_any (same_pair (sort_number s, sort_number q)) (c.below ++ (sort_number low, sort_number high) ∷ [])
  exact s q ls lq = go (cases_eq s low) (cases_eq q high) where
    parts : list_any (same_pair (sort_number s, sort_number q)) (c.below ++ (sort_number low, sort_number high) ∷ []) ≡ (list_any (same_pair (sort_number s, sort_number q)) c.below || (same_pair (sort_number s, sort_number q) (sort_number low, sort_number high) || false))
    parts = list_any-append (same_pair (sort_number s, sort_number q)) c.below ((sort_number low, sort_number high) ∷ [])

    other : (SORTS * s + q ≡ SORTS * low + high → ⊥) → same_pair (sort_number s, sort_number q) (sort_number low, sort_number high) ≡ false →
        get_or (set known (SORTS * low + high) true) (SORTS * s + q) false ≡ list_any (same_pair (sort_number s, sort_number q)) (c.below ++ (sort_number low, sort_number high) ∷ [])
    other ne not_same =
        get_or-set_other known (SORTS * low + high) (SORTS * s + q) true false ne ∙ h.exact s q ls lq ∙ or_false (list_any (same_pair (sort_number s, sort_number q)) c.below)
        ∙ ap (λ b. list_any (same_pair (sort_number s, sort_number q)) c.below || (b || false)) (sym not_same) ∙ sym parts

    go : (s ≡ low) ⊎ (s ≡ low → ⊥) → (q ≡ high) ⊎ (q ≡ high → ⊥) →
        get_or (set known (SORTS * low + high) true) (SORTS * s + q) false ≡ list_any (same_pair (sort_number s, sort_number q)) (c.below ++ (sort_number low, sort_number high) ∷ [])
    go (inl e) (inl f) =
        let at : SORTS * s + q ≡ SORTS * low + high = omega arith in
        let yes : same_pair (sort_number s, sort_number q) (sort_number low, sort_number high) ≡ true = rw (e, f, eq-eqb low low refl, eq-eqb high high refl) refl in
        ap (λ k. get_or (set known (SORTS * low + high) true) k false) at ∙ get_or-set_same known (SORTS * low + high) true false within
        ∙ sym (parts ∙ or_right (list_any (same_pair (sort_number s, sort_number q)) c.below) _ (ap (λ b. b || false) yes))
    go (inr ne) f = other (λ e. ne (let a = high_few in omega arith)) (and_left (nat_eq s low) (nat_eq q high) (ne_eqb s low ne))
    go e (inr ne) = other (λ e. ne (let a = high_few in omega arith)) (and_right (nat_eq s low) (nat_eq q high) (ne_eqb q high ne))
