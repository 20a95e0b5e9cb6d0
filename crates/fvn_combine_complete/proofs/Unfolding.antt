-- What bindings unfold to, where each is right for values of variables.
use Rattle.std.proofs.Common.{◌≡◌, true, false, List, [], ◌∷◌, refl, sym, ap, ◌∙◌, subst, inl, inr, All, Contains}
use Rattle.std.specs.Prelude.{if◌then◌else◌}
use Rattle.std.proofs.lemmas.Bool.{cases_Bool}
use Rattle.std.proofs.lemmas.List.Elements.{All-head, All-tail}
use Rattle.fvn_terms.specs.declared.plain.Var.{Var}
use Rattle.fvn_terms.specs.declared.plain.SortId.{SortId}
use Rattle.fvn_terms.specs.declared.declarations.Declarations.{Declarations}
use Rattle.fvn_terms.specs.Term.{var}
use Rattle.fvn_terms.specs.Substitution.{Substitution, apply, same_var}
use Rattle.fvn_terms.specs.Signature.{kind, IsSort, HasKind, AtOrBelow, KeepsKinds}
use Rattle.fvn_terms.specs.Equality.{BEqual}
use Rattle.fvn_terms.proofs.Equal.{HasKind-apply}
use Rattle.fvn_forms.specs.Flat.{FlatTerm, fvar, plain}
use Rattle.fvn_forms.specs.Canon.{eval, canon, inst}
use Rattle.fvn_forms.specs.Settled.{Settled}
use Rattle.fvn_forms.specs.Good.{IsGood}
use Rattle.fvn_forms.specs.LeastSort.{sort_in, least_sort, KeepsKindsOfVariables, IsFlatSubstitution}
use Rattle.fvn_forms.proofs.SortOrder.{AtOrBelow-trans}
use Rattle.fvn_forms.proofs.Eval.{canon_settled, canon_plain, eval_apply}
use Rattle.fvn_forms.proofs.Instances.{eval_canon}
use Rattle.fvn_forms.proofs.LeastSort.{eval_is_canon, value_sort_keeps, inst_lowers, sort_in_monotone}
use Rattle.fvn_forms.proofs.ToCanon.{canon_of_kind, b_equal_iff_canon}
use Rattle.fvn_flat.specs.Bindings.{Bindings}
use Rattle.fvn_flat.specs.SolvedLists.{only, unfolded}
use Rattle.fvn_flat.proofs.Binding.{same_var_is}
use Rattle.fvn_combine_choices.specs.Covering.{CoversOnKinds}
use Rattle.fvn_combine_choices.specs.Plans.{unfolds_to}

module _ (d : Declarations) (good : IsGood d) (w : Var → FlatTerm) (flat : IsFlatSubstitution d w) where
  -- the least sorts of the values
  abbrev pub env : Var → SortId
  env x = least_sort d (w x)

  own_keeps : KeepsKindsOfVariables d (λ x. x.sort)
  own_keeps x i = refl

  pub env_keeps : KeepsKindsOfVariables d env
  env_keeps = value_sort_keeps d good w flat (λ x. x.sort) own_keeps

  -- a binding is right for the values: what the variable is bound to has its kind and its value
  pub record IsRight (b : Var × FlatTerm) : Type 0 where
    pub settled : Settled d b.1
    pub kinded : IsSort d b.0.sort → HasKind d (plain b.1) (kind d b.0.sort)
    pub value : inst d w b.1 ≡ w b.0

  -- what x is replaced by
  only_same : (b : Var × FlatTerm) (x : Var) → same_var b.0 x ≡ true → only b.0 (plain b.1) x ≡ plain b.1
  only_same b x e = ap (λ t. if t then plain b.1 else var x) e

  only_other : (b : Var × FlatTerm) (x : Var) → same_var b.0 x ≡ false → only b.0 (plain b.1) x ≡ var x
  only_other b x e = ap (λ t. if t then plain b.1 else var x) e

  -- what is unfolded has the value
  pub value_unfolds : (bindings : Bindings) → All IsRight bindings → (x : Var) → eval d w (unfolded bindings x) ≡ w x
  value_unfolds [] h x = refl
  value_unfolds (b ∷ bindings) h x =
      let right = All-head IsRight b bindings h in
      let rest = value_unfolds bindings (All-tail IsRight b bindings h) in
      eval_apply d w (unfolded bindings) (only b.0 (plain b.1) x)
      ∙ (λ i. eval d (λ z. rest z i) (only b.0 (plain b.1) x))
      ∙ elim (cases_Bool (same_var b.0 x)) [
        | inl e ↦ ap (eval d w) (only_same b x e) ∙ right.value ∙ ap w (same_var_is b.0 x e)
        | inr e ↦ ap (eval d w) (only_other b x e)
      ]

  -- and keeps kinds
  pub kinds_unfold : (bindings : Bindings) → All IsRight bindings → KeepsKinds d (unfolded bindings)
  kinds_unfold [] h x i = (i, refl)
  kinds_unfold (b ∷ bindings) h x i =
      let right = All-head IsRight b bindings h in
      let rest = kinds_unfold bindings (All-tail IsRight b bindings h) in
      elim (cases_Bool (same_var b.0 x)) [
        | inl e ↦
            let is = same_var_is b.0 x e in
            let k : HasKind d (plain b.1) (kind d x.sort) = subst (λ z. HasKind d (plain b.1) (kind d z.sort)) is (right.kinded (subst (λ z. IsSort d z.sort) (sym is) i)) in
            subst (λ t. HasKind d (apply (unfolded bindings) t) (kind d x.sort)) (sym (only_same b x e)) (HasKind-apply d (unfolded bindings) rest (plain b.1) (kind d x.sort) k)
        | inr e ↦ subst (λ t. HasKind d (apply (unfolded bindings) t) (kind d x.sort)) (sym (only_other b x e)) (rest x i)
      ]

  unfolding_flat : (bindings : Bindings) → All IsRight bindings → IsFlatSubstitution d (unfolds_to d bindings)
  unfolding_flat bindings h = record {
    settled = λ x. canon_settled d (unfolded bindings x);
    keeps_kinds = λ x i. canon_of_kind d good.fits (unfolded bindings x) (kind d x.sort) (kinds_unfold bindings h x i);
  }

  -- sorts of variables, of their kinds, which are not below their values' least sorts, nor below the sorts of what they are bound to
  pub record AreAbove (bindings : Bindings) (upper : Var → SortId) : Type 0 where
    pub keeps : KeepsKindsOfVariables d upper
    pub above : (x : Var) → IsSort d x.sort → AtOrBelow d (env x) (upper x)
    pub lowers : All (λ b. IsSort d b.0.sort → AtOrBelow d (sort_in d upper b.1) (upper b.0)) bindings

  -- the least sort of what is unfolded is not above such a sort
  pub sort_unfolds : (bindings : Bindings) → All IsRight bindings → (upper : Var → SortId) → AreAbove bindings upper → (x : Var) → IsSort d x.sort → AtOrBelow d (sort_in d env (unfolds_to d bindings x)) (upper x)
  sort_unfolds [] h upper r x i = r.above x i
  sort_unfolds (b ∷ bindings) h upper r x i =
      let right = All-head IsRight b bindings h in
      let tail = All-tail IsRight b bindings h in
      let Lowers = λ (b : Var × FlatTerm). IsSort d b.0.sort → AtOrBelow d (sort_in d upper b.1) (upper b.0) in
      let rest = sort_unfolds bindings tail upper (record { keeps = r.keeps; above = r.above; lowers = All-tail Lowers b bindings r.lowers }) in
      elim (cases_Bool (same_var b.0 x)) [
        | inl e ↦
            let is = same_var_is b.0 x e in
            let sorted : IsSort d b.0.sort = subst (λ z. IsSort d z.sort) (sym is) i in
            let after = unfolds_to d bindings in
            let flat_after = unfolding_flat bindings tail in
            let form : unfolds_to d (b ∷ bindings) x ≡ inst d after b.1 = ap (λ t. canon d (apply (unfolded bindings) t)) (only_same b x e) ∙ eval_apply d fvar (unfolded bindings) (plain b.1) in
            let lowered = inst_lowers d good after flat_after env env_keeps b.1 right.settled (kind d b.0.sort, right.kinded sorted) in
            let widened = sort_in_monotone d good (λ z. sort_in d env (after z)) upper (value_sort_keeps d good after flat_after env env_keeps) r.keeps rest b.1 right.settled (kind d b.0.sort, right.kinded sorted) in
            subst (λ t. AtOrBelow d (sort_in d env t) (upper x)) (sym form)
            (subst (λ z. AtOrBelow d (sort_in d env (inst d after b.1)) (upper z)) is (AtOrBelow-trans d (AtOrBelow-trans d lowered widened) (All-head Lowers b bindings r.lowers sorted)))
        | inr e ↦ subst (λ t. AtOrBelow d (sort_in d env (canon d (apply (unfolded bindings) t))) (upper x)) (sym (only_other b x e)) (rest x i)
      ]

  -- where x's value is of its sort, there are such sorts that are not above this one
  abbrev pub KeepsSort : Bindings → Var → Type 0
  KeepsSort bindings x = AtOrBelow d (env x) x.sort → (upper : Var → SortId) × AreAbove bindings upper × AtOrBelow d (upper x) x.sort

  -- what is unfolded covers each substitution that has the values on the variables
  pub unfolding_covers : (bindings : Bindings) → All IsRight bindings → (variables : List Var) (u : Substitution) → KeepsKinds d u → ((x : Var) → Contains variables x → IsSort d x.sort) → ((x : Var) → Contains variables x → canon d (u x) ≡ w x) → ((x : Var) → Contains variables x → KeepsSort bindings x) → CoversOnKinds d variables (unfolds_to d bindings) u
  unfolding_covers bindings right variables u keeps sorted has keep_sorts = record { later = later; keeps = flat.keeps_kinds; equal = equal; sorts = sorts }
    where
      later : Substitution
      later x = plain (w x)

      values : (x : Var) → inst d w (unfolds_to d bindings x) ≡ w x
      values x = sym (eval_canon d w flat.settled (unfolded bindings x)) ∙ value_unfolds bindings right x

      kinded : (x : Var) → Contains variables x → HasKind d (plain (unfolds_to d bindings x)) (kind d x.sort)
      kinded x c = (unfolding_flat bindings right).keeps_kinds x (sorted x c)

      equal : (x : Var) → Contains variables x → BEqual d (u x) (apply later (plain (unfolds_to d bindings x)))
      equal x c =
          (b_equal_iff_canon d good.fits (u x) (apply later (plain (unfolds_to d bindings x))) (kind d x.sort, keeps x (sorted x c)) (kind d x.sort, HasKind-apply d later flat.keeps_kinds (plain (unfolds_to d bindings x)) (kind d x.sort) (kinded x c))).1
          (has x c ∙ sym (values x) ∙ sym (eval_is_canon d good w flat (plain (unfolds_to d bindings x))))

      sorts : (x : Var) → Contains variables x → AtOrBelow d (least_sort d (canon d (u x))) x.sort → AtOrBelow d (sort_in d (λ z. least_sort d (canon d (later z))) (unfolds_to d bindings x)) x.sort
      sorts x c below =
          let r = keep_sorts x c (subst (λ v. AtOrBelow d (least_sort d v) x.sort) (has x c) below) in
          let kept = AtOrBelow-trans d (sort_unfolds bindings right r.0 r.1 x (sorted x c)) r.2 in
          let same : sort_in d env (unfolds_to d bindings x) ≡ sort_in d (λ z. least_sort d (canon d (later z))) (unfolds_to d bindings x) =
          λ i. sort_in d (λ z. least_sort d (sym (canon_plain d (w z) (flat.settled z)) i)) (unfolds_to d bindings x)
          in
          subst (λ q. AtOrBelow d q x.sort) same kept
