-- What triangular bindings unfold to: a bound variable to the instance of what it is bound to, any other to itself.
use Rattle.std.proofs.Common.{◌≡◌, ◌≢◌, true, [], ◌∷◌, refl, sym, ap, ◌∙◌, subst, ◌⊎◌, inl, inr, Contains}
use Rattle.std.specs.Prelude.{if◌then◌else◌}
use Rattle.std.proofs.lemmas.Bool.{false_from_ne_true}
use Rattle.std.proofs.lemmas.List.Elements.{All-head, All-tail}
use Rattle.fvn_base.specs.Decided.{Decided}
use Rattle.fvn_base.proofs.Decided.{decided_by}
use Rattle.fvn_base.proofs.Membership.{contains_here, contains_later, contains_cases, contains_none}
use Rattle.fvn_base.proofs.Pigeonhole.{AllPairs-tail, AllPairs-first}
use Rattle.fvn_terms.specs.declared.plain.Var.{Var}
use Rattle.fvn_terms.specs.declared.declarations.Declarations.{Declarations}
use Rattle.fvn_terms.specs.Term.{Term, var}
use Rattle.fvn_terms.specs.Substitution.{apply, Occurs, same_var}
use Rattle.fvn_terms.specs.Signature.{kind, IsSort, HasKind, KeepsKinds}
use Rattle.fvn_terms.proofs.Substitutions.{apply-agree}
use Rattle.fvn_terms.proofs.Equal.{HasKind-apply}
use Rattle.fvn_terms.proofs.Occurrences.{occurs_value}
use Rattle.fvn_forms.specs.Flat.{FlatTerm, fvar, plain}
use Rattle.fvn_forms.specs.Canon.{canon, inst}
use Rattle.fvn_forms.specs.Settled.{Settled}
use Rattle.fvn_forms.proofs.Eval.{canon_settled, eval_apply}
use Rattle.fvn_flat.specs.Bindings.{Bindings}
use Rattle.fvn_flat.specs.SolvedLists.{only, unfolded, IsTriangular}
use Rattle.fvn_flat.proofs.Binding.{same_var_is, same_var_itself}
use Rattle.fvn_combine_choices.specs.Plans.{unfolds_to}

-- no pair binds x
abbrev pub IsUnbound : Bindings → Var → Type 0
IsUnbound bindings x = (b : Var × FlatTerm) → Contains bindings b → b.0 ≢ x

-- two variables are one or not
pub var_decided : (x y : Var) → Decided (x ≡ y)
var_decided x y = decided_by (same_var x y) (same_var_is x y) (λ e. subst (λ z. same_var x z ≡ true) e (same_var_itself x))

only_same : (x : Var) (t : Term) → only x t x ≡ t
only_same x t = ap (λ b. if b then t else var x) (same_var_itself x)

only_other : (x y : Var) (t : Term) → x ≢ y → only x t y ≡ var y
only_other x y t n = ap (λ b. if b then t else var y) (false_from_ne_true (same_var x y) (λ e. n (same_var_is x y e)))

unfolded_first : (b : Var × FlatTerm) (bindings : Bindings) → unfolded (b ∷ bindings) b.0 ≡ apply (unfolded bindings) (plain b.1)
unfolded_first b bindings = ap (apply (unfolded bindings)) (only_same b.0 (plain b.1))

unfolded_other : (b : Var × FlatTerm) (bindings : Bindings) (x : Var) → b.0 ≢ x → unfolded (b ∷ bindings) x ≡ unfolded bindings x
unfolded_other b bindings x n = ap (apply (unfolded bindings)) (only_other b.0 x (plain b.1) n)

abbrev NotItself : Var × FlatTerm → Type 0
NotItself b = Occurs b.0 (plain b.1) → ⊥

abbrev NotLater : Var × FlatTerm → Var × FlatTerm → Type 0
NotLater a b = (a.0 ≢ b.0) × (Occurs a.0 (plain b.1) → ⊥)

triangular_rest : (b : Var × FlatTerm) (bindings : Bindings) → IsTriangular (b ∷ bindings) → IsTriangular bindings
triangular_rest b bindings h = record {
  not_itself = All-tail NotItself b bindings h.not_itself;
  not_later = AllPairs-tail NotLater b bindings h.not_later;
}

-- where the first variable does not occur, nothing changes without it
without_first : (b : Var × FlatTerm) (bindings : Bindings) (t : Term) → (Occurs b.0 t → ⊥) → apply (unfolded bindings) t ≡ apply (unfolded (b ∷ bindings)) t
without_first b bindings t n = apply-agree (unfolded bindings) (unfolded (b ∷ bindings)) t (λ x o. sym (unfolded_other b bindings x (λ e. n (subst (λ z. Occurs z t) (sym e) o))))

-- a bound variable
pub unfolded_bound : (bindings : Bindings) → IsTriangular bindings → (b : Var × FlatTerm) → Contains bindings b → unfolded bindings b.0 ≡ apply (unfolded bindings) (plain b.1)
unfolded_bound [] h b c = absurd (contains_none b c)
unfolded_bound (a ∷ bindings) h b c = elim (contains_cases a bindings b c) [
  | inl e ↦ subst (λ p. unfolded (a ∷ bindings) p.0 ≡ apply (unfolded (a ∷ bindings)) (plain p.1)) e (unfolded_first a bindings ∙ without_first a bindings (plain a.1) (All-head NotItself a bindings h.not_itself))
  | inr r ↦
      let apart = AllPairs-first NotLater a bindings b h.not_later r in
      unfolded_other a bindings b.0 apart.0 ∙ unfolded_bound bindings (triangular_rest a bindings h) b r ∙ without_first a bindings (plain b.1) apart.1
]

unbound_rest : (b : Var × FlatTerm) (bindings : Bindings) (x : Var) → IsUnbound (b ∷ bindings) x → IsUnbound bindings x
unbound_rest b bindings x h p c = h p (contains_later b bindings p c)

-- any other
pub unfolded_unbound : (bindings : Bindings) (x : Var) → IsUnbound bindings x → unfolded bindings x ≡ var x
unfolded_unbound [] x h = refl
unfolded_unbound (b ∷ bindings) x h = unfolded_other b bindings x (h b (contains_here b bindings)) ∙ unfolded_unbound bindings x (unbound_rest b bindings x h)

-- What holds of variables that are not bound, and of each bound one where it holds of those in what it is bound to, holds of all.
pub triangular_induction : (bindings : Bindings) → IsTriangular bindings → (P : Var → Type 0) → ((x : Var) → IsUnbound bindings x → P x) →
    ((b : Var × FlatTerm) → Contains bindings b → ((x : Var) → Occurs x (plain b.1) → P x) → P b.0) → (x : Var) → P x
triangular_induction [] h P free bound x = free x (λ b c. absurd (contains_none b c))
triangular_induction (a ∷ bindings) h P free bound x =
    let others : (z : Var) → a.0 ≢ z → P z = triangular_induction bindings (triangular_rest a bindings h) (λ z. a.0 ≢ z → P z) free_of bound_of in
    elim (var_decided a.0 x) [
      | inl e ↦ subst P e (bound a (contains_here a bindings) (λ z o. others z (λ same. All-head NotItself a bindings h.not_itself (subst (λ v. Occurs v (plain a.1)) (sym same) o))))
      | inr n ↦ others x n
    ]
  where
    free_of : (z : Var) → IsUnbound bindings z → a.0 ≢ z → P z
    free_of z u n = free z (λ b c. elim (contains_cases a bindings b c) [
      | inl e ↦ subst (λ p. p.0 ≢ z) e n
      | inr r ↦ u b r
    ])

    bound_of : (b : Var × FlatTerm) → Contains bindings b → ((z : Var) → Occurs z (plain b.1) → a.0 ≢ z → P z) → a.0 ≢ b.0 → P b.0
    bound_of b c smaller n =
        let apart = AllPairs-first NotLater a bindings b h.not_later c in
        bound b (contains_later a bindings b c) (λ z o. smaller z o (λ same. apart.1 (subst (λ v. Occurs v (plain b.1)) (sym same) o)))

-- a variable in what x unfolds to is x, or stands in what some variable is bound to
pub unfolded_occurs : (bindings : Bindings) (x z : Var) → Occurs z (unfolded bindings x) → (x ≡ z) ⊎ ((b : Var × FlatTerm) × (Contains bindings b × Occurs z (plain b.1)))
unfolded_occurs [] x z o = inl (sym o)
unfolded_occurs (a ∷ bindings) x z o =
    let r = occurs_value z (unfolded bindings) (only a.0 (plain a.1) x) o in
    elim (unfolded_occurs bindings r.0 z r.1.1) [
      | inl e ↦ at (subst (λ v. Occurs v (only a.0 (plain a.1) x)) e r.1.0)
      | inr w ↦ inr (w.0, (contains_later a bindings w.0 w.1.0, w.1.1))
    ]
  where
    at : Occurs z (only a.0 (plain a.1) x) → (x ≡ z) ⊎ ((b : Var × FlatTerm) × (Contains (a ∷ bindings) b × Occurs z (plain b.1)))
    at p = elim (var_decided a.0 x) [
      | inl e ↦ inr (a, (contains_here a bindings, subst (Occurs z) (only_same a.0 (plain a.1)) (subst (λ v. Occurs z (only a.0 (plain a.1) v)) (sym e) p)))
      | inr n ↦ inl (sym (subst (Occurs z) (only_other a.0 x (plain a.1) n) p))
    ]

module _ (d : Declarations) where
  -- where each is bound to a term of its kind, what they unfold to keeps kinds
  pub unfolded_keeps : (bindings : Bindings) → ((b : Var × FlatTerm) → Contains bindings b → IsSort d b.0.sort → HasKind d (plain b.1) (kind d b.0.sort)) → KeepsKinds d (unfolded bindings)
  unfolded_keeps [] h x sort = (sort, refl)
  unfolded_keeps (a ∷ bindings) h x sort = HasKind-apply d (unfolded bindings) (unfolded_keeps bindings (λ b c. h b (contains_later a bindings b c))) (only a.0 (plain a.1) x) (kind d x.sort) first
    where
      first : HasKind d (only a.0 (plain a.1) x) (kind d x.sort)
      first = elim (var_decided a.0 x) [
        | inl e ↦
            subst (λ z. HasKind d (only a.0 (plain a.1) z) (kind d z.sort)) e
            (subst (λ t. HasKind d t (kind d a.0.sort)) (sym (only_same a.0 (plain a.1))) (h a (contains_here a bindings) (subst (λ z. IsSort d z.sort) (sym e) sort)))
        | inr n ↦ subst (λ t. HasKind d t (kind d x.sort)) (sym (only_other a.0 x (plain a.1) n)) (sort, refl)
      ]

  module _ (bindings : Bindings) where
    pub unfolding_settled : (x : Var) → Settled d (unfolds_to d bindings x)
    unfolding_settled x = canon_settled d (unfolded bindings x)

    -- as flat forms
    pub unfolding_bound : IsTriangular bindings → (b : Var × FlatTerm) → Contains bindings b → unfolds_to d bindings b.0 ≡ inst d (unfolds_to d bindings) b.1
    unfolding_bound h b c = ap (canon d) (unfolded_bound bindings h b c) ∙ eval_apply d fvar (unfolded bindings) (plain b.1)

    pub unfolding_unbound : (x : Var) → IsUnbound bindings x → unfolds_to d bindings x ≡ fvar x
    unfolding_unbound x h = ap (canon d) (unfolded_unbound bindings x h)
