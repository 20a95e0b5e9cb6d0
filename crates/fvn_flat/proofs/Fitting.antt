-- Which forms fit.
use Rattle.std.proofs.Common.{◌≡◌, ◌≤◌, true, false, List, [], ◌∷◌, map, length, refl, sym, ap, ◌∙◌, subst, arith}
use Rattle.std.specs.Prelude.{◌↔◌, Contains}
use Rattle.std.specs.List.{AllByRecursion}
use Rattle.fvn_terms.specs.declared.plain.Var.{Var}
use Rattle.fvn_terms.specs.declared.plain.OpId.{OpId}
use Rattle.fvn_terms.specs.declared.plain.SortId.{SortId}
use Rattle.fvn_terms.specs.declared.declarations.Axioms.{Axioms}
use Rattle.fvn_terms.specs.declared.declarations.Axioms.TheVariants.{Free, Comm, AssocComm, AssocCommId}
use Rattle.fvn_terms.specs.declared.declarations.Rank.{Rank}
use Rattle.fvn_terms.specs.declared.declarations.Declarations.{Declarations}
use Rattle.fvn_terms.specs.Term.{Term, Terms, app, none, more}
use Rattle.fvn_terms.specs.Equality.{IsAssociative, BEqual}
use Rattle.fvn_terms.specs.Signature.{kind, declared, axioms, IsSort, HasKind, HaveKinds, IsTerm}
use Rattle.fvn_forms.specs.Flat.{FlatTerm, FlatTerms, fvar, fapp, fnone, fmore, fpack, funpack, nest, nest_all, plain, plain_all}
use Rattle.fvn_forms.specs.Canon.{parts, all_parts, empty_sum, sum, build, eval_all, canon}
use Rattle.fvn_forms.specs.Settled.{Settled, SettledAll}
use Rattle.fvn_forms.specs.FitsKinds.{FitsKinds}
use Rattle.fvn_forms.proofs.InOrder.{each_append}
use Rattle.fvn_forms.proofs.Sums.{funpack-fpack, SettledAll-fpack, SettledAll-funpack}
use Rattle.fvn_forms.proofs.Build.{HasIdentity, build_settled, build_sum, all_parts_nonempty}
use Rattle.fvn_forms.proofs.Eval.{fvar_settled, canon_settled, eval_nest, canon_plain, canon_plain_all}
use Rattle.fvn_forms.proofs.ToCanon.{build_plain, to_canon, canon_of_kind, b_equal_iff_canon}
use Rattle.fvn_forms.proofs.KindsOfSums.{build_of_kind, nest_parts_of_kind, parts_of_kind, two_of_kind, sum_of_forms_of_kind}
use Rattle.fvn_flat.specs.Forms.{args_of}
use Rattle.fvn_flat.specs.Fits.{Fits, AllFit, AllOfKind, TakesAsDeclared, Takes, operator_over, plain_over, FitWhere, IsEqualWhereBothFit}

module _ (d : Declarations) where
  pub all_fit : (l : List FlatTerm) → AllByRecursion (Settled d) l → AllByRecursion (λ t. IsTerm d (plain t)) l → AllFit d l
  all_fit [] h k = tt
  all_fit (t ∷ l) h k = (record { flat = h.0; kinded = k.0 }, all_fit l h.1 k.1)

  pub fit_of_kind : (k : SortId) (l : List FlatTerm) → AllByRecursion (Settled d) l → AllOfKind d k l → AllFit d l
  fit_of_kind k [] h j = tt
  fit_of_kind k (t ∷ l) h j = (record { flat = h.0; kinded = (k, j.0) }, fit_of_kind k l h.1 j.1)

  fit_of_kinds : (ts : FlatTerms) (ks : List SortId) → SettledAll d ts → HaveKinds d (plain_all ts) ks → AllFit d (funpack ts)
  fit_of_kinds fnone ks h j = tt
  fit_of_kinds (fmore t ts) [] h j = absurd j
  fit_of_kinds (fmore t ts) (k ∷ ks) h j = (record { flat = h.0; kinded = (k, j.0) }, fit_of_kinds ts ks h.1 j.1)

-- the arguments of a form fit where it fits
pub args_fit : (t : FlatTerm) → FitWhere t (args_of t)
args_fit (fvar x) d fits h = tt
args_fit (fapp f true fnone) d fits h = tt
args_fit (fapp f true (fmore t ts)) d fits h =
    fit_of_kind d h.kinded.0 (funpack (fmore t ts)) (SettledAll-funpack d (fmore t ts) h.flat.1) (nest_parts_of_kind d fits f h.flat.0.associative h.kinded.0 t ts h.kinded.1)
args_fit (fapp f false ts) d fits h = fit_of_kinds d ts _ h.flat.1 h.kinded.1.args

pub equal_where_both_fit : (t u : FlatTerm) (P : Type 0) → P ↔ (t ≡ u) → IsEqualWhereBothFit t u P
equal_where_both_fit t u P same d fits ht hu =
    let iff = b_equal_iff_canon d fits (plain t) (plain u) ht.kinded hu.kinded in (
      λ p. iff.1 (ap (λ v. canon d (plain v)) (same.0 p)),
      λ e. same.1 (sym (canon_plain d t ht.flat) ∙ iff.0 e ∙ canon_plain d u hu.flat),
    )

module _ (d : Declarations) where
  pub all_settled : (l : List FlatTerm) → AllFit d l → AllByRecursion (Settled d) l
  all_settled [] h = tt
  all_settled (t ∷ l) h = (h.0.flat, all_settled l h.1)

  module _ (fits : FitsKinds d) (f : OpId) where
    all_parts_of_kind : IsAssociative (axioms d f) → (k : SortId) (l : List FlatTerm) → AllOfKind d k l → AllOfKind d k (all_parts d f l)
    all_parts_of_kind assoc k [] h = tt
    all_parts_of_kind assoc k (t ∷ l) h = each_append (λ p. HasKind d (plain p) k) (parts d f t) (all_parts d f l) (parts_of_kind d fits f assoc k t h.0) (all_parts_of_kind assoc k l h.1)

    sum_fits : IsAssociative (axioms d f) → (r : Rank) → Contains (declared d f).ranks r → (l : List FlatTerm) → 2 ≤ length l → AllByRecursion (Settled d) l → AllOfKind d (kind d r.result) l → HasKind d (plain (build d f l)) (kind d r.result)
    sum_fits assoc r listed [] two h j = absurd (omega arith)
    sum_fits assoc r listed (t ∷ ts) two h j =
        subst (λ u. HasKind d (plain u) (kind d r.result)) (sym (build_sum d f assoc t ts))
        (go (all_parts d f (t ∷ ts)) (all_parts_of_kind assoc (kind d r.result) (t ∷ ts) j) (λ e. all_parts_nonempty d f t ts h.0 e))
      where
        go : (l : List FlatTerm) → AllOfKind d (kind d r.result) l → (l ≡ [] → HasIdentity d f) → HasKind d (plain (sum d f l)) (kind d r.result)
        go [] k n =
            let i = n refl in
            subst (λ o. HasKind d (plain (empty_sum d f o)) (kind d r.result)) (sym i.1) (fits.identity f i.0 r i.1 listed)
        go (u ∷ us) k n = sum_of_forms_of_kind d fits f assoc (kind d r.result) r listed refl u us k

    build_has_kind : (l : List FlatTerm) → AllByRecursion (Settled d) l → (h : Takes d f l) → HasKind d (plain (build d f l)) (kind d h.rank.result)
    build_has_kind l s h = go (axioms d f) refl h.args
      where
        plainly : HaveKinds d (plain_all (fpack l)) (map (kind d) h.rank.args) → HasKind d (plain (build d f l)) (kind d h.rank.result)
        plainly j = build_of_kind d fits f l s (kind d h.rank.result) record { rank = h.rank; listed = h.listed; args = j; result = refl }

        go : (a : Axioms) → axioms d f ≡ a → TakesAsDeclared d a h.rank l → HasKind d (plain (build d f l)) (kind d h.rank.result)
        go Free e j = plainly j
        go Comm e j = plainly j
        go AssocComm e j = sum_fits (rw e tt) h.rank h.listed l j.0 s j.1
        go (AssocCommId o) e j = sum_fits (rw e tt) h.rank h.listed l j.0 s j.1

    nested_of_kind : IsAssociative (axioms d f) → (r : Rank) → Contains (declared d f).ranks r → (t : FlatTerm) (ts : List FlatTerm) → AllOfKind d (kind d r.result) (t ∷ ts) → HasKind d (nest f (plain t) (plain_all (fpack ts))) (kind d r.result)
    nested_of_kind assoc r listed t [] h = h.0
    nested_of_kind assoc r listed t (u ∷ us) h = two_of_kind d fits f assoc (kind d r.result) r listed refl (plain t) (nest f (plain u) (plain_all (fpack us))) h.0 (nested_of_kind assoc r listed u us h.1)

    sum_equal : IsAssociative (axioms d f) → (r : Rank) → Contains (declared d f).ranks r → (l : List FlatTerm) → 2 ≤ length l → AllByRecursion (Settled d) l → AllOfKind d (kind d r.result) l → BEqual d (nest_all f (plain_all (fpack l))) (plain (build d f l))
    sum_equal assoc r listed [] two h j = absurd (omega arith)
    sum_equal assoc r listed (t ∷ ts) two h j =
        let whole = nest f (plain t) (plain_all (fpack ts)) in
        let flat : canon d whole ≡ build d f (t ∷ ts) =
        eval_nest d fvar (fvar_settled d) f assoc (plain t) (plain_all (fpack ts))
        ∙ ap (λ l. sum d f (all_parts d f l)) (canon_plain_all d (fpack (t ∷ ts)) (SettledAll-fpack d (t ∷ ts) h) ∙ funpack-fpack (t ∷ ts))
        ∙ sym (build_sum d f assoc t ts)
        in
        subst (λ u. BEqual d whole (plain u)) flat (to_canon d fits whole (kind d r.result) (nested_of_kind assoc r listed t ts j))

    -- what an operator builds is equal modulo the axioms to the operator over the same forms
    pub build_equal : (l : List FlatTerm) → AllByRecursion (Settled d) l → Takes d f l → BEqual d (plain_over d f l) (plain (build d f l))
    build_equal l s h = go (axioms d f) refl h.args
      where
        plainly : HaveKinds d (plain_all (fpack l)) (map (kind d) h.rank.args) → BEqual d (app f (plain_all (fpack l))) (plain (build d f l))
        plainly j = build_plain d fits f l s (kind d h.rank.result) record { rank = h.rank; listed = h.listed; args = j; result = refl }

        go : (a : Axioms) → axioms d f ≡ a → TakesAsDeclared d a h.rank l → BEqual d (operator_over a f (plain_all (fpack l))) (plain (build d f l))
        go Free e j = plainly j
        go Comm e j = plainly j
        go AssocComm e j = sum_equal (rw e tt) h.rank h.listed l j.0 s j.1
        go (AssocCommId o) e j = sum_equal (rw e tt) h.rank h.listed l j.0 s j.1

    -- what an operator builds over forms that it takes fits
    pub build_fits : (l : List FlatTerm) → AllFit d l → Takes d f l → Fits d (build d f l)
    build_fits l h j = record { flat = build_settled d f l (all_settled l h); kinded = (kind d j.rank.result, build_has_kind l (all_settled l h) j) }

  module _ (fits : FitsKinds d) where
    forms_of_kinds : (ts : Terms) (ks : List SortId) → HaveKinds d ts ks → HaveKinds d (plain_all (fpack (eval_all d fvar ts))) ks
    forms_of_kinds none [] h = tt
    forms_of_kinds none (k ∷ ks) h = absurd h
    forms_of_kinds (more t ts) [] h = absurd h
    forms_of_kinds (more t ts) (k ∷ ks) h = (canon_of_kind d fits t k h.0, forms_of_kinds ts ks h.1)

    forms_fit : (ts : Terms) (ks : List SortId) → HaveKinds d ts ks → AllFit d (eval_all d fvar ts)
    forms_fit none ks h = tt
    forms_fit (more t ts) [] h = absurd h
    forms_fit (more t ts) (k ∷ ks) h = (record { flat = canon_settled d t; kinded = (k, canon_of_kind d fits t k h.0) }, forms_fit ts ks h.1)

    two_forms : (ts : Terms) (k : SortId) → HaveKinds d ts (k ∷ k ∷ []) → (2 ≤ length (eval_all d fvar ts)) × AllOfKind d k (eval_all d fvar ts)
    two_forms none k h = absurd h
    two_forms (more t none) k h = absurd h.1
    two_forms (more t (more u none)) k h = (omega arith, (canon_of_kind d fits t k h.0, (canon_of_kind d fits u k h.1.0, tt)))
    two_forms (more t (more u (more v vs))) k h = absurd h.1.1

    -- the flat forms of a term's arguments fit, and its operator takes them
    pub arguments_fit : (f : OpId) (ts : Terms) → IsTerm d (app f ts) → AllFit d (eval_all d fvar ts)
    arguments_fit f ts h = forms_fit ts _ h.1.args

    pub takes_arguments : (f : OpId) (ts : Terms) → IsTerm d (app f ts) → Takes d f (eval_all d fvar ts)
    takes_arguments f ts h = record { rank = h.1.rank; listed = h.1.listed; args = go (axioms d f) refl }
      where
        summed : IsAssociative (axioms d f) → (2 ≤ length (eval_all d fvar ts)) × AllOfKind d (kind d h.1.rank.result) (eval_all d fvar ts)
        summed assoc = two_forms ts (kind d h.1.rank.result) (subst (HaveKinds d ts) (fits.associative f h.1.rank assoc h.1.listed) h.1.args)

        go : (a : Axioms) → axioms d f ≡ a → TakesAsDeclared d a h.1.rank (eval_all d fvar ts)
        go Free e = forms_of_kinds ts _ h.1.args
        go Comm e = forms_of_kinds ts _ h.1.args
        go AssocComm e = summed (rw e tt)
        go (AssocCommId o) e = summed (rw e tt)

  -- the flat form of a term fits
  pub canon_fits : FitsKinds d → (t : Term) → IsTerm d t → Fits d (canon d t)
  canon_fits fits t h = record { flat = canon_settled d t; kinded = (h.0, canon_of_kind d fits t h.0 h.1) }

  -- a variable of a known sort fits
  pub var_fits : (x : Var) → IsSort d x.sort → Fits d (fvar x)
  var_fits x i = record { flat = tt; kinded = (kind d x.sort, (i, refl)) }
