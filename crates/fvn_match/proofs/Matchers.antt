-- Matchers, and candidates that make of each pattern its target.
use Rattle.std.proofs.Common.{◌≡◌, ℕ, ◌+◌, ◌<◌, zero, suc, Bool, true, false, List, [], ◌∷◌, ◌++◌, length, map, take, get_or, Option, Some, None, refl, sym, ap, ◌∙◌, subst, inl, inr, arith}
use Rattle.std.proofs.lemmas.List.{take_more}
use Rattle.std.specs.Prelude.{◌⊎◌, if◌then◌else◌, IfSome}
use Rattle.std.specs.List.{AllZip}
use Rattle.fvn_terms.specs.declared.plain.Var.{Var}
use Rattle.fvn_terms.specs.declared.plain.SortId.{SortId}
use Rattle.fvn_terms.specs.declared.declarations.Declarations.{Declarations}
use Rattle.fvn_terms.specs.Term.{Term, Terms, var, app, none, more}
use Rattle.fvn_terms.specs.Substitution.{Substitution, apply, same_var, Occurs, OccursAmong}
use Rattle.fvn_terms.specs.Signature.{kind, IsSort, HasKind, HaveKinds, IsTerm, AtOrBelow}
use Rattle.fvn_terms.specs.Equality.{BEqual}
use Rattle.fvn_terms.specs.Sorts.{HasSort, IsWellSorted}
use Rattle.fvn_terms.specs.Variants.{OccursInSome}
use Rattle.fvn_terms.proofs.Substitutions.{apply-agree}
use Rattle.fvn_terms.proofs.Equal.{HasKind-apply}
use Rattle.fvn_terms.specs.Signature.{same}
use Rattle.fvn_terms.specs.Places.{stop}
use Rattle.fvn_forms.specs.Flat.{FlatTerm, fvar, plain}
use Rattle.fvn_forms.specs.Canon.{canon}
use Rattle.fvn_forms.specs.Settled.{Settled}
use Rattle.fvn_forms.specs.Good.{IsGood}
use Rattle.fvn_forms.specs.LeastSort.{least_sort}
use Rattle.fvn_forms.proofs.Eval.{canon_settled, canon_respects, canon_plain, eval_apply}
use Rattle.fvn_forms.proofs.ToCanon.{canon_of_kind, b_equal_iff_canon}
use Rattle.fvn_forms.proofs.LeastSort.{eval_is_canon, least_sort_exact, least_sort_of_settled}
use Rattle.fvn_flat.specs.Fits.{AllFit}
use Rattle.fvn_flat.specs.Bindings.{Bindings, bound, value, form_or, BindingsFit}
use Rattle.fvn_flat.specs.Solving.{substitution}
use Rattle.fvn_flat.proofs.Binding.{same_var_is, same_var_itself}
use Rattle.fvn_flat.proofs.Occurrences.{OccursIn}
use Rattle.fvn_match.specs.Matching.{HasNoMatcher, Matches, BindsJust}
use Rattle.fvn_match.specs.inner.Variables.{IsAmong, AreOnce, AreVariablesOf}
use Rattle.fvn_match.specs.inner.Candidates.{Values, IsCandidate, IsSolution, pairs_of, Finds}
use Rattle.fvn_match.specs.inner.Goals.{AllMake}
use Rattle.fvn_match.proofs.VariableSteps.{occurs_in_some}

-- variables of terms have known sorts
mutual
  pub occurs_known : (d : Declarations) (x : Var) (t : Term) (k : SortId) → HasKind d t k → Occurs x t → IsSort d x.sort
  occurs_known d x (var y) k h o = subst (λ z. IsSort d z.sort) (sym o) h.0
  occurs_known d x (app f ts) k h o = occurs_among_known d x ts (map (kind d) h.rank.args) h.args o

  occurs_among_known : (d : Declarations) (x : Var) (ts : Terms) (ks : List SortId) → HaveKinds d ts ks → OccursAmong x ts → IsSort d x.sort
  occurs_among_known d x none ks h o = absurd o
  occurs_among_known d x (more t ts) [] h o = absurd h
  occurs_among_known d x (more t ts) (k ∷ ks) h (inl o) = occurs_known d x t k h.0 o
  occurs_among_known d x (more t ts) (k ∷ ks) h (inr o) = occurs_among_known d x ts ks h.1 o

-- some variable, for reads of lists that name one for places past their end
abbrev pub any_variable : Var
any_variable = record { name = 0; sort = record { 0 = 0 }; fresh = false }

-- what the values of variables bind
module _ (c : Values) where
  pub bound_among : (vars : List Var) (x : Var) → IsAmong vars x → bound (pairs_of vars c) x ≡ Some (c x)
  bound_among [] x h = absurd h
  bound_among (y ∷ ys) x h = go (same_var y x) refl h (λ k. bound_among ys x k)
    where
      go : (b : Bool) → same_var y x ≡ b → (y ≡ x) ⊎ IsAmong ys x → (IsAmong ys x → bound (pairs_of ys c) x ≡ Some (c x)) → (if b then Some (c y) else bound (pairs_of ys c) x) ≡ Some (c x)
      go true e h k = ap (λ z. Some (c z)) (same_var_is y x e)
      go false e (inl p) k = let z : same_var y x ≡ true = ap (same_var y) (sym p) ∙ same_var_itself y in cc
      go false e (inr h) k = k h

  pub among_bound : (vars : List Var) (x : Var) (t : FlatTerm) → bound (pairs_of vars c) x ≡ Some t → IsAmong vars x × (t ≡ c x)
  among_bound [] x t e = cc
  among_bound (y ∷ ys) x t e = go (same_var y x) refl e (λ k. among_bound ys x t k)
    where
      go : (b : Bool) → same_var y x ≡ b → (if b then Some (c y) else bound (pairs_of ys c) x) ≡ Some t → (bound (pairs_of ys c) x ≡ Some t → IsAmong ys x × (t ≡ c x)) → IsAmong (y ∷ ys) x × (t ≡ c x)
      go true p q k = (inl (same_var_is y x p), (let z : c y ≡ t = cc in sym z) ∙ ap c (same_var_is y x p))
      go false p q k = let r = k q in (inr r.0, r.1)

-- variables one after another
not_among_before : (vars : List Var) (i : ℕ) (x : Var) → AreOnce vars → i < length vars → x ≡ get_or vars i x → IsAmong (take i vars) x → ⊥
not_among_before [] i x once within is h = absurd (omega arith)
not_among_before (y ∷ ys) zero x once within is h = h
not_among_before (y ∷ ys) (suc i) x once within is (inl e) = once.0 (subst (IsAmong ys) (sym e) (stands ys i x (omega arith) is))
  where
    stands : (zs : List Var) (i : ℕ) (x : Var) → i < length zs → x ≡ get_or zs i x → IsAmong zs x
    stands [] i x within is = absurd (omega arith)
    stands (z ∷ zs) zero x within is = inl (sym is)
    stands (z ∷ zs) (suc i) x within is = inr (stands zs i x (omega arith) is)
not_among_before (y ∷ ys) (suc i) x once within is (inr h) = not_among_before ys i x once.1 (omega arith) is h

module _ (c : Values) where
  pub not_yet_bound : (vars : List Var) (i : ℕ) (x : Var) → AreOnce vars → i < length vars → x ≡ get_or vars i x → bound (pairs_of (take i vars) c) x ≡ None
  not_yet_bound vars i x once within is = go (bound (pairs_of (take i vars) c) x) refl
    where
      go : (o : Option FlatTerm) → bound (pairs_of (take i vars) c) x ≡ o → bound (pairs_of (take i vars) c) x ≡ None
      go None e = e
      go (Some t) e = absurd (not_among_before vars i x once within is (among_bound c (take i vars) x t e).0)

  pairs_append : (xs ys : List Var) → pairs_of (xs ++ ys) c ≡ pairs_of xs c ++ pairs_of ys c
  pairs_append [] ys = refl
  pairs_append (x ∷ xs) ys = ap (λ l. (x, c x) ∷ l) (pairs_append xs ys)

  pub pairs_more : (vars : List Var) (i : ℕ) (x : Var) (s : Bindings) → s ≡ pairs_of (take i vars) c → i < length vars → x ≡ get_or vars i x → s ++ (x, c x) ∷ [] ≡ pairs_of (take (i + 1) vars) c
  pairs_more vars i x s e within is =
      ap (λ r. r ++ (x, c x) ∷ []) e
      ∙ sym (pairs_append (take i vars) (x ∷ []))
      ∙ ap (λ l. pairs_of l c) (sym (take_more vars i x within ∙ ap (λ y. take i vars ++ y ∷ []) (sym is)))

module _ (d : Declarations) (good : IsGood d) where
  -- a well-sorted substitution gives a candidate
  pub candidate_of : (s : Substitution) → IsWellSorted d s → IsCandidate d (λ x. canon d (s x))
  candidate_of s h = record {
    flat = record { settled = λ x. canon_settled d (s x); keeps_kinds = λ x i. canon_of_kind d good.fits (s x) (kind d x.sort) (h.0 x i) };
    sorts = λ x i. (least_sort_exact d good (s x) (kind d x.sort, h.0 x i) x.sort).0 (h.1 x);
  }

  pub matched_makes : (s : Substitution) (ps ts : List FlatTerm) → AllFit d ts → AllZip (λ p t. BEqual d (apply s p) t) (map plain ps) (map plain ts) → AllMake d ps ts (λ x. canon d (s x))
  matched_makes s [] [] fit h = tt
  matched_makes s [] (t ∷ ts) fit h = absurd h
  matched_makes s (p ∷ ps) [] fit h = absurd h
  matched_makes s (p ∷ ps) (t ∷ ts) fit h = (sym (eval_apply d fvar s (plain p)) ∙ canon_respects d h.0 ∙ canon_plain d t fit.0.flat, matched_makes s ps ts fit.1 h.1)

  -- the values of a candidate, bound
  module _ (c : Values) (candidate : IsCandidate d c) (vars : List Var) (known : (x : Var) → IsAmong vars x → IsSort d x.sort) where
    bindings : Bindings
    bindings = pairs_of vars c

    pub bindings_candidate : IsCandidate d (value (pairs_of vars c))
    bindings_candidate = record { flat = record { settled = settled; keeps_kinds = kinds }; sorts = sorts }
      where
        settled : (x : Var) → Settled d (value (pairs_of vars c) x)
        settled x = go (bound (pairs_of vars c) x) refl
          where
            go : (o : Option FlatTerm) → bound (pairs_of vars c) x ≡ o → Settled d (form_or x o)
            go None e = tt
            go (Some t) e = subst (Settled d) (sym (among_bound c vars x t e).1) (candidate.flat.settled x)

        kinds : (x : Var) → IsSort d x.sort → HasKind d (plain (value (pairs_of vars c) x)) (kind d x.sort)
        kinds x i = go (bound (pairs_of vars c) x) refl
          where
            go : (o : Option FlatTerm) → bound (pairs_of vars c) x ≡ o → HasKind d (plain (form_or x o)) (kind d x.sort)
            go None e = (i, refl)
            go (Some t) e = subst (λ u. HasKind d (plain u) (kind d x.sort)) (sym (among_bound c vars x t e).1) (candidate.flat.keeps_kinds x i)

        sorts : (x : Var) → IsSort d x.sort → AtOrBelow d (least_sort d (value (pairs_of vars c) x)) x.sort
        sorts x i = go (bound (pairs_of vars c) x) refl
          where
            go : (o : Option FlatTerm) → bound (pairs_of vars c) x ≡ o → AtOrBelow d (least_sort d (form_or x o)) x.sort
            go None e = same
            go (Some t) e = subst (λ u. AtOrBelow d (least_sort d u) x.sort) (sym (among_bound c vars x t e).1) (candidate.sorts x i)

    pub bindings_well_sorted : IsWellSorted d (substitution (pairs_of vars c))
    bindings_well_sorted = (bindings_candidate.flat.keeps_kinds, λ x. go x (bound (pairs_of vars c) x) refl)
      where
        go : (x : Var) (o : Option FlatTerm) → bound (pairs_of vars c) x ≡ o → HasSort d (plain (form_or x o)) x.sort
        go x None e = record { form = var x; equal = stop; gets = record { sort = x.sort; gets = refl; below = same } }
        go x (Some t) e =
            let r = among_bound c vars x t e in
            let i = known x r.0 in
            subst (λ u. HasSort d (plain u) x.sort) (sym r.1) ((least_sort_of_settled d good (c x) (candidate.flat.settled x) (kind d x.sort, candidate.flat.keeps_kinds x i) x.sort).1 (candidate.sorts x i))

    value_among : (x : Var) → IsAmong vars x → value (pairs_of vars c) x ≡ c x
    value_among x h = ap (form_or x) (bound_among c vars x h)

    pub made_matches : (ps ts : List FlatTerm) → AllFit d ps → AllFit d ts → ((x : Var) → OccursInSome x (map plain ps) → IsAmong vars x) → AllMake d ps ts c → AllZip (λ p t. BEqual d (apply (substitution (pairs_of vars c)) p) t) (map plain ps) (map plain ts)
    made_matches [] [] fp ft all h = tt
    made_matches [] (t ∷ ts) fp ft all h = absurd h
    made_matches (p ∷ ps) [] fp ft all h = absurd h
    made_matches (p ∷ ps) (t ∷ ts) fp ft all h = (equal, made_matches ps ts fp.1 ft.1 (λ x o. all x ((occurs_in_some x (p ∷ ps)).0 (inr ((occurs_in_some x ps).1 o)))) h.1)
      where
        agree : apply (substitution (pairs_of vars c)) (plain p) ≡ apply (λ x. plain (c x)) (plain p)
        agree = apply-agree (substitution (pairs_of vars c)) (λ x. plain (c x)) (plain p) (λ x o. ap plain (value_among x (all x ((occurs_in_some x (p ∷ ps)).0 (inl o)))))

        term : IsTerm d (apply (substitution (pairs_of vars c)) (plain p))
        term = (fp.0.kinded.0, HasKind-apply d (substitution (pairs_of vars c)) bindings_well_sorted.0 (plain p) fp.0.kinded.0 fp.0.kinded.1)

        equal : BEqual d (apply (substitution (pairs_of vars c)) (plain p)) (plain t)
        equal =
            (b_equal_iff_canon d good.fits (apply (substitution (pairs_of vars c)) (plain p)) (plain t) term ft.0.kinded).1
            (ap (canon d) agree ∙ eval_is_canon d good c candidate.flat (plain p) ∙ h.0 ∙ sym (canon_plain d t ft.0.flat))

  -- what is found for the patterns and targets
  module _ (ps ts : List FlatTerm) (fp : AllFit d ps) (ft : AllFit d ts) (vars : List Var) (v : AreVariablesOf ps vars) where
    sorted : (qs : List FlatTerm) → AllFit d qs → (x : Var) → OccursIn x qs → IsSort d x.sort
    sorted [] fit x o = absurd o
    sorted (q ∷ qs) fit x (inl o) = occurs_known d x (plain q) fit.0.kinded.0 fit.0.kinded.1 o
    sorted (q ∷ qs) fit x (inr o) = sorted qs fit.1 x o

    known_sorts : (x : Var) → IsAmong vars x → IsSort d x.sort
    known_sorts x h = sorted ps fp x ((occurs_in_some x ps).1 ((v.just x).0 h))

    -- each pattern is its target, and nothing else is asked
    abbrev pub Makes : Values → Type 0
    Makes c = AllMake d ps ts c × Unit {0}

    pub found_matches : (o : Option Bindings) → Finds vars (IsSolution d [] Makes) o → IfSome o (Matches d ps ts)
    found_matches None f = tt
    found_matches (Some s) f =
        let k = f.1 in
        subst (Matches d ps ts) (sym f.2)
        (bindings_well_sorted f.0 k.candidate vars known_sorts, made_matches f.0 k.candidate vars known_sorts ps ts fp ft (λ x o. (v.just x).1 o) k.holds.0)

    pub found_binds : (o : Option Bindings) → Finds vars (IsSolution d [] Makes) o → IfSome o (BindsJust ps)
    found_binds None f = tt
    found_binds (Some s) f = subst (BindsJust ps) (sym f.2) (λ x. (
      λ o. (f.0 x, bound_among f.0 vars x ((v.just x).1 o)),
      λ b. (v.just x).0 (among_bound f.0 vars x b.0 b.1).0,
    ))

    pub found_fits : (o : Option Bindings) → Finds vars (IsSolution d [] Makes) o → IfSome o (BindingsFit d)
    found_fits None f = tt
    found_fits (Some s) f = subst (BindingsFit d) (sym f.2) (bindings_candidate f.0 f.1.candidate vars known_sorts).flat

    pub found_nothing : (o : Option Bindings) → Finds vars (IsSolution d [] Makes) o → o ≡ None → HasNoMatcher d ps ts
    found_nothing None f e = λ s m. f (λ x. canon d (s x)) record { candidate = candidate_of s m.0; agrees = λ x t q. cc; holds = (matched_makes s ps ts ft m.1, tt) }
    found_nothing (Some s) f e = cc
