-- A matcher of terms and values is a covering of variants.
use Rattle.std.proofs.Common.{◌≡◌, ◌<◌, ℕ, zero, suc, false, List, [], ◌∷◌, ◌++◌, length, get_or, map, Option, Some, None, refl, sym, ap, ◌∙◌, subst, inl, inr, arith}
use Rattle.std.specs.Prelude.{◌↔◌, All, Contains, IfSome, is_some, IsTrue}
use Rattle.std.specs.List.{AllZip}
use Rattle.std.proofs.lemmas.List.{length-map, map-append}
use Rattle.std.proofs.lemmas.List.Elements.{All-head, All-tail}
use Rattle.fvn_base.proofs.Membership.{contains_here, contains_later, contains_cases, contains_none}
use Rattle.fvn_terms.specs.declared.plain.Var.{Var}
use Rattle.fvn_terms.specs.declared.declarations.Declarations.{Declarations}
use Rattle.fvn_terms.specs.Term.{Term}
use Rattle.fvn_terms.specs.Substitution.{Substitution, apply}
use Rattle.fvn_terms.specs.Signature.{kind, IsSort}
use Rattle.fvn_terms.specs.Equality.{BEqual}
use Rattle.fvn_terms.proofs.Equal.{BEqual-sym}
use Rattle.fvn_forms.specs.Flat.{FlatTerm, plain}
use Rattle.fvn_flat.specs.Bindings.{Bindings, value, BindingsFit}
use Rattle.fvn_flat.specs.Fits.{AllFit}
use Rattle.fvn_flat.specs.Solving.{substitution}
use Rattle.fvn_match.specs.Matching.{IsMatcher, Matches, HasNoMatcher}
use Rattle.fvn_cover.specs.declared.variant.Variant.{Variant}
use Rattle.fvn_cover.specs.Covering.{values_of, CoversVariant, AreAlike, IsFlatVariant}

-- one list after the other
module _ {A B : Type 0} (R : A → B → Type 0) where
  AllZip-append : (xs : List A) (ys : List B) (us : List A) (vs : List B) → length xs ≡ length ys → AllZip R (xs ++ us) (ys ++ vs) ↔ (AllZip R xs ys × AllZip R us vs)
  AllZip-append [] [] us vs e = (λ h. (tt, h), λ h. h.1)
  AllZip-append [] (y ∷ ys) us vs e = absurd (omega (arith, e))
  AllZip-append (x ∷ xs) [] us vs e = absurd (omega (arith, e))
  AllZip-append (x ∷ xs) (y ∷ ys) us vs e = let k = AllZip-append xs ys us vs (omega (arith, e)) in (
    λ h. let r = k.0 h.1 in ((h.0, r.0), r.1),
    λ h. (h.0.0, k.1 (h.0.1, h.1)),
  )

-- what holds at each variable holds of two lists of values
module _ (R : Term → Term → Type 0) (f g : Var → Term) where
  zip_values : (vars : List Var) → ((x : Var) → Contains vars x → R (f x) (g x)) → AllZip R (map f vars) (map g vars)
  zip_values [] h = tt
  zip_values (x ∷ vars) h = (h x (contains_here x vars), zip_values vars (λ y m. h y (contains_later x vars y m)))

  values_zip : (vars : List Var) → AllZip R (map f vars) (map g vars) → (x : Var) → Contains vars x → R (f x) (g x)
  values_zip [] h x m = absurd (contains_none x m)
  values_zip (y ∷ vars) h x m = elim (contains_cases y vars x m) [ inl e ↦ subst (λ z. R (f z) (g z)) e h.0 | inr n ↦ values_zip vars h.1 x n ]

plain_values : (s : Bindings) (vars : List Var) → map plain (map (value s) vars) ≡ map (substitution s) vars
plain_values s [] = refl
plain_values s (x ∷ vars) = ap (λ l. substitution s x ∷ l) (plain_values s vars)

pub length_values : (a b : Variant) → AreAlike a b → length (values_of a) ≡ length (values_of b)
length_values a b alike = length-map a.vars (value a.subst) ∙ ap length alike.vars ∙ sym (length-map b.vars (value b.subst))

module _ (d : Declarations) where
  values_fit_at : (s : Bindings) → BindingsFit d s → (vars : List Var) → All (λ x. IsSort d x.sort) vars → AllFit d (map (value s) vars)
  values_fit_at s fit [] h = tt
  values_fit_at s fit (x ∷ vars) h = (
    record { flat = fit.settled x; kinded = (kind d x.sort, fit.keeps_kinds x (All-head (λ y. IsSort d y.sort) x vars h)) },
    values_fit_at s fit vars (All-tail (λ y. IsSort d y.sort) x vars h),
  )

  -- forms that fit, one list after the other
  pub both_fit : (ts us : List FlatTerm) → AllFit d ts → AllFit d us → AllFit d (ts ++ us)
  both_fit [] us h k = k
  both_fit (t ∷ ts) us h k = (h.0, both_fit ts us h.1 k)

  pub values_fit : (v : Variant) → IsFlatVariant d v → AllFit d (values_of v)
  values_fit v h = values_fit_at v.subst h.values v.vars h.vars

  -- patterns and targets in the other order
  module _ (s : Substitution) where
    abbrev Makes : Term → Term → Type 0
    Makes p t = BEqual d (apply s p) t

    zip_flip : (ts us : List Term) → AllZip Makes ts us → AllZip (BEqual d) us (map (apply s) ts)
    zip_flip [] [] h = tt
    zip_flip [] (u ∷ us) h = absurd h
    zip_flip (t ∷ ts) [] h = absurd h
    zip_flip (t ∷ ts) (u ∷ us) h = (BEqual-sym d h.0, zip_flip ts us h.1)

    zip_back : (ts us : List Term) → AllZip (BEqual d) us (map (apply s) ts) → AllZip Makes ts us
    zip_back [] [] h = tt
    zip_back [] (u ∷ us) h = absurd h
    zip_back (t ∷ ts) [] h = absurd h
    zip_back (t ∷ ts) (u ∷ us) h = (BEqual-sym d h.0, zip_back ts us h.1)

  -- what nothing matches it matches behind no other forms
  pub unmatched_behind : (ts ws us vs : List FlatTerm) → length ts ≡ length ws → HasNoMatcher d us vs → HasNoMatcher d (ts ++ us) (ws ++ vs)
  unmatched_behind ts ws us vs l n s m =
      let zip = subst (λ x. AllZip (Makes s) x (map plain ws ++ map plain vs)) (map-append plain ts us) (subst (λ x. AllZip (Makes s) (map plain (ts ++ us)) x) (map-append plain ws vs) m.1) in
      n s (m.0, ((AllZip-append (Makes s) (map plain ts) (map plain ws) (map plain us) (map plain vs) (length-map ts plain ∙ l ∙ sym (length-map ws plain))).0 zip).1)

  -- nor before others
  pub unmatched_before : (ts ws us vs : List FlatTerm) → length ts ≡ length ws → HasNoMatcher d ts ws → HasNoMatcher d (ts ++ us) (ws ++ vs)
  unmatched_before ts ws us vs l n s m =
      let zip = subst (λ x. AllZip (Makes s) x (map plain ws ++ map plain vs)) (map-append plain ts us) (subst (λ x. AllZip (Makes s) (map plain (ts ++ us)) x) (map-append plain ws vs) m.1) in
      n s (m.0, ((AllZip-append (Makes s) (map plain ts) (map plain ws) (map plain us) (map plain vs) (length-map ts plain ∙ l ∙ sym (length-map ws plain))).0 zip).0)

  -- nor beside others of which it matches some with some
  pub unmatched_at : (ps ts : List FlatTerm) (i : ℕ) (p t : FlatTerm) → length ps ≡ length ts → i < length ps → p ≡ get_or ps i p → t ≡ get_or ts i t → HasNoMatcher d (p ∷ []) (t ∷ []) → HasNoMatcher d ps ts
  unmatched_at [] ts i p t n l e f none s m = absurd (omega (arith, l))
  unmatched_at (q ∷ ps) [] i p t n l e f none s m = absurd (omega (arith, n))
  unmatched_at (q ∷ ps) (u ∷ ts) zero p t n l e f none s m =
      none s (m.0, (subst (λ z. Makes s (plain z) (plain t)) (sym e) (subst (λ z. Makes s (plain q) (plain z)) (sym f) m.1.0), tt))
  unmatched_at (q ∷ ps) (u ∷ ts) (suc i) p t n l e f none s m = unmatched_at ps ts i p t (omega (arith, n)) (omega (arith, l)) e f none s (m.0, m.1.1)

  module _ (a b : Variant) (alike : AreAlike a b) where
    same_length : length (map plain a.terms) ≡ length (map plain b.terms)
    same_length = length-map a.terms plain ∙ alike.terms ∙ sym (length-map b.terms plain)

    -- the values of b on the variables of a
    abbrev values_at : List Term
    values_at = map (substitution b.subst) a.vars

    joined : (v : Variant) → map plain (v.terms ++ values_of v) ≡ map plain v.terms ++ map (substitution v.subst) v.vars
    joined v = map-append plain v.terms (values_of v) ∙ ap (λ l. map plain v.terms ++ l) (plain_values v.subst v.vars)

    joined_at : map plain (b.terms ++ values_of b) ≡ map plain b.terms ++ values_at
    joined_at = joined b ∙ ap (λ vars. map plain b.terms ++ map (substitution b.subst) vars) (sym alike.vars)

    matcher_covers : (s : Substitution) → IsMatcher d (map plain (a.terms ++ values_of a)) (map plain (b.terms ++ values_of b)) s → CoversVariant d a b
    matcher_covers s m =
        let zip = subst (λ l. AllZip (Makes s) l (map plain b.terms ++ values_at)) (joined a) (subst (λ l. AllZip (Makes s) (map plain (a.terms ++ values_of a)) l) joined_at m.1) in
        let two = (AllZip-append (Makes s) (map plain a.terms) (map plain b.terms) (map (substitution a.subst) a.vars) values_at same_length).0 zip in record {
          by = s;
          well_sorted = m.0;
          same_terms = zip_flip s (map plain a.terms) (map plain b.terms) two.0;
          same_values = λ x n. BEqual-sym d (values_zip (Makes s) (substitution a.subst) (substitution b.subst) a.vars two.1 x n);
        }

    covering_matches : (h : CoversVariant d a b) → IsMatcher d (map plain (a.terms ++ values_of a)) (map plain (b.terms ++ values_of b)) h.by
    covering_matches h =
        let s = h.by in
        let two = (AllZip-append (Makes s) (map plain a.terms) (map plain b.terms) (map (substitution a.subst) a.vars) values_at same_length).1
        (zip_back s (map plain a.terms) (map plain b.terms) h.same_terms, zip_values (Makes s) (substitution a.subst) (substitution b.subst) a.vars (λ x n. BEqual-sym d (h.same_values x n))) in
        (h.well_sorted, subst (λ l. AllZip (Makes s) (map plain (a.terms ++ values_of a)) l) (sym joined_at) (subst (λ l. AllZip (Makes s) l (map plain b.terms ++ values_at)) (sym (joined a)) two))

    -- a covering is found where there is one
    pub found_covers : (o : Option Bindings) → IfSome o (Matches d (a.terms ++ values_of a) (b.terms ++ values_of b)) → (o ≡ None → HasNoMatcher d (a.terms ++ values_of a) (b.terms ++ values_of b)) → IsTrue (is_some o) ↔ CoversVariant d a b
    found_covers (Some s) m n = (λ t. matcher_covers (substitution s) m, λ h. refl)
    found_covers None m n = (λ t. cc, λ h. absurd (n refl h.by (covering_matches h)))

    -- where no heads allow it, there is no covering
    pub never_covers : HasNoMatcher d (a.terms ++ values_of a) (b.terms ++ values_of b) → CoversVariant d a b → ⊥
    never_covers n h = n h.by (covering_matches h)

    -- where nothing matches, there is no covering
    pub refused : HasNoMatcher d (a.terms ++ values_of a) (b.terms ++ values_of b) → IsTrue false ↔ CoversVariant d a b
    refused n = (λ t. cc, λ h. absurd (n h.by (covering_matches h)))
