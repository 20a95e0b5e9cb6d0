-- Instances of the forms that operators build.
use Rattle.std.proofs.Common.{◌≡◌, ℕ, zero, suc, ◌+◌, ◌<◌, ◌≤◌, Bool, true, false, nat_eq, List, [], ◌∷◌, ◌++◌, map, length, take, get_or, refl, sym, ap, ◌∙◌, subst, arith}
use Rattle.std.specs.List.{AllByRecursion}
use Rattle.std.proofs.lemmas.Bool.{eqb-true}
use Rattle.std.proofs.lemmas.List.{map_more, take_more}
use Rattle.fvn_terms.specs.declared.plain.Var.{Var}
use Rattle.fvn_terms.specs.declared.plain.OpId.{OpId}
use Rattle.fvn_terms.specs.declared.declarations.Declarations.{Declarations}
use Rattle.fvn_terms.specs.Substitution.{apply}
use Rattle.fvn_terms.specs.Signature.{IsTerm}
use Rattle.fvn_terms.specs.Equality.{BEqual}
use Rattle.fvn_terms.proofs.Equal.{HasKind-apply}
use Rattle.fvn_forms.specs.Flat.{FlatTerm, FlatTerms, fvar, fapp, fpack, funpack, plain}
use Rattle.fvn_forms.specs.Canon.{build, eval, canon, inst}
use Rattle.fvn_forms.specs.Settled.{Settled, SettledValues}
use Rattle.fvn_forms.specs.LeastSort.{IsFlatSubstitution}
use Rattle.fvn_forms.specs.Good.{IsGood}
use Rattle.fvn_forms.proofs.Sums.{funpack-fpack, SettledAll-funpack}
use Rattle.fvn_forms.proofs.Eval.{eval_apply, canon_plain}
use Rattle.fvn_forms.proofs.ToCanon.{to_canon}
use Rattle.fvn_forms.proofs.Instances.{inst_build, inst_settled}
use Rattle.fvn_forms.proofs.LeastSort.{inst_of_kind}
use Rattle.fvn_flat.specs.Fits.{Fits}
use Rattle.fvn_flat.specs.inner.SoFar.{so_far}
use Rattle.fvn_flat.proofs.Rebuilding.{build_args}

-- what holds of each holds of the one at a place
pub each_at : {A : Type 0} (P : A → Type 0) (l : List A) → AllByRecursion P l → (i : ℕ) (t : A) → i < length l → t ≡ get_or l i t → P t
each_at P [] h i t within is = absurd (omega arith)
each_at P (u ∷ l) h zero t within is = subst P (sym is) h.0
each_at P (u ∷ l) h (suc i) t within is = each_at P l h.1 i t (omega arith) is

module _ (d : Declarations) (s : Var → FlatTerm) where
  -- an instance is what the operator builds over the instances of the arguments
  pub inst_app : SettledValues d s → (f : OpId) (joined : Bool) (ts : FlatTerms) → Settled d (fapp f joined ts) → inst d s (fapp f joined ts) ≡ build d f (map (inst d s) (funpack ts))
  inst_app settled f joined ts h = ap (inst d s) (sym (build_args d f joined ts h)) ∙ inst_build d s settled f (funpack ts) (SettledAll-funpack d ts h.1)

  -- an instance is equal modulo the axioms to the plain term with the plain values
  pub inst_equal : IsGood d → IsFlatSubstitution d s → (t : FlatTerm) → IsTerm d (plain t) → BEqual d (apply (λ x. plain (s x)) (plain t)) (plain (inst d s t))
  inst_equal good flat t h =
      let whole = apply (λ x. plain (s x)) (plain t) in
      let values : canon d whole ≡ inst d s t = eval_apply d fvar (λ x. plain (s x)) (plain t) ∙ (λ i. eval d (λ x. canon_plain d (s x) (flat.settled x) i) (plain t)) in
      subst (λ u. BEqual d whole (plain u)) values (to_canon d good.fits whole h.0 (HasKind-apply d (λ x. plain (s x)) flat.keeps_kinds (plain t) h.0 h.1))

  -- an instance fits
  pub inst_fits : IsGood d → IsFlatSubstitution d s → (t : FlatTerm) → Fits d t → Fits d (inst d s t)
  inst_fits good flat t h = record { flat = inst_settled d s flat.settled t; kinded = (h.kinded.0, inst_of_kind d good s flat t h.kinded.0 h.kinded.1) }

pub no_items : (n m : ℕ) → n ≡ m → nat_eq n 0 ≡ true → m ≡ 0
no_items n m e h = sym e ∙ eqb-true n 0 h

pub some_items : (n m : ℕ) → n ≡ m → nat_eq n 0 ≡ false → 1 ≤ m
some_items zero m e h = cc
some_items (suc n) m e h = omega (arith, e)

some_so_far : (l : List FlatTerm) (u : FlatTerm) (before : List FlatTerm) → so_far (l ++ u ∷ []) before ≡ l ++ u ∷ []
some_so_far [] u before = refl
some_so_far (t ∷ l) u before = refl

pub none_so_far : (copies before : List FlatTerm) → length copies ≡ 0 → so_far copies before ≡ before
none_so_far [] before e = refl
none_so_far (t ∷ copies) before e = absurd (omega arith)

pub begun_so_far : (copies before : List FlatTerm) → 1 ≤ length copies → copies ≡ so_far copies before
begun_so_far [] before h = absurd (omega arith)
begun_so_far (t ∷ copies) before h = refl

-- with one more argument, that has changed
pub so_far_changed : (copies before all : List FlatTerm) (t u : FlatTerm) → all ≡ so_far copies before ++ u ∷ [] → so_far all (before ++ t ∷ []) ≡ so_far copies before ++ u ∷ []
so_far_changed copies before all t u e = ap (λ l. so_far l (before ++ t ∷ [])) e ∙ some_so_far (so_far copies before) u (before ++ t ∷ [])

-- with one more, that has not
pub so_far_same : (copies before : List FlatTerm) (t : FlatTerm) → length copies ≡ 0 → so_far copies (before ++ t ∷ []) ≡ so_far copies before ++ t ∷ []
so_far_same copies before t e = none_so_far copies (before ++ t ∷ []) e ∙ ap (λ l. l ++ t ∷ []) (sym (none_so_far copies before e))

pub so_far_copied : (copies before all : List FlatTerm) (t : FlatTerm) → 1 ≤ length copies → all ≡ copies ++ t ∷ [] → so_far all (before ++ t ∷ []) ≡ so_far copies before ++ t ∷ []
so_far_copied copies before all t some e = so_far_changed copies before all t t (e ∙ ap (λ l. l ++ t ∷ []) (begun_so_far copies before some))

module _ (d : Declarations) (s : Var → FlatTerm) where
  -- one more argument and its instance
  pub so_far-step : (copies next before l : List FlatTerm) (i : ℕ) (t v : FlatTerm) → before ≡ take i l → so_far next (before ++ t ∷ []) ≡ so_far copies before ++ v ∷ [] → so_far copies (take i l) ≡ map (inst d s) (take i l) →
      v ≡ inst d s t → i < length l → t ≡ get_or l i t → so_far next (take (i + 1) l) ≡ map (inst d s) (take (i + 1) l)
  so_far-step copies next before l i t v at now before_now one within is =
      let more : take (i + 1) l ≡ take i l ++ t ∷ [] = take_more l i t within ∙ ap (λ u. take i l ++ u ∷ []) (sym is) in
      ap (so_far next) more
      ∙ ap (λ b. so_far next (b ++ t ∷ [])) (sym at)
      ∙ now
      ∙ ap (λ b. so_far copies b ++ v ∷ []) at
      ∙ ap (λ m. m ++ v ∷ []) before_now
      ∙ ap (λ w. map (inst d s) (take i l) ++ w ∷ []) (one ∙ ap (inst d s) is)
      ∙ sym (map_more (inst d s) l i t within)

  module _ (settled : SettledValues d s) (f : OpId) (joined : Bool) (l : List FlatTerm) (t : FlatTerm) (view : t ≡ fapp f joined (fpack l)) (flat : Settled d t) where
    -- the instance from those of the arguments
    pub inst_of_args : inst d s t ≡ build d f (map (inst d s) l)
    inst_of_args = ap (inst d s) view ∙ inst_app d s settled f joined (fpack l) (subst (Settled d) view flat) ∙ ap (λ m. build d f (map (inst d s) m)) (funpack-fpack l)

    -- a form whose arguments stay stays
    pub inst_of_same : l ≡ map (inst d s) l → t ≡ inst d s t
    inst_of_same e = view ∙ sym (build_args d f joined (fpack l) (subst (Settled d) view flat)) ∙ ap (build d f) (funpack-fpack l ∙ e) ∙ sym inst_of_args

    pub inst_of_changed : (copies : List FlatTerm) → copies ≡ map (inst d s) l → build d f copies ≡ inst d s t
    inst_of_changed copies e = ap (build d f) e ∙ sym inst_of_args

    pub argument_settled : (i : ℕ) (u : FlatTerm) → i < length l → u ≡ get_or l i u → Settled d u
    argument_settled i u within is = each_at (Settled d) l (subst (AllByRecursion (Settled d)) (funpack-fpack l) (SettledAll-funpack d (fpack l) (subst (Settled d) view flat).1)) i u within is
