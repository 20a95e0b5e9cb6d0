-- The list of identities has just the identities, and these are constants of a kind.
use Rattle.std.proofs.Common.{◌≡◌, ◌<◌, ◌⊎◌, Bool, true, false, List, [], ◌∷◌, ◌++◌, length, Option, Some, None, refl, sym, ap, ◌∙◌, subst, inl, inr}
use Rattle.std.specs.Prelude.{if◌then◌else◌, fold}
use Rattle.std.specs.List.{Contains, list_any}
use Rattle.std.proofs.lemmas.Bool.{or_cases, or_left, or_right, false≢true, cases_lt}
use Rattle.std.proofs.lemmas.List.{get_or_past, get_or_default}
use Rattle.std.proofs.lemmas.List.Elements.{Contains-append_left, Contains-push, Contains-push_cases, Contains-get_or}
use Rattle.fvn_base.proofs.Membership.{contains_here, contains_later, contains_cases, contains_none}
use Rattle.fvn_terms.specs.declared.plain.OpId.{OpId}
use Rattle.fvn_terms.specs.declared.declarations.OpDecl.{OpDecl}
use Rattle.fvn_terms.specs.declared.declarations.Declarations.{Declarations}
use Rattle.fvn_terms.specs.Signature.{kind, unknown, declared, axioms, HasKind}
use Rattle.fvn_terms.specs.Equality.{constant, identity}
use Rattle.fvn_forms.specs.Flat.{fconstant}
use Rattle.fvn_forms.specs.Canon.{same_op}
use Rattle.fvn_forms.specs.Ranks.{result}
use Rattle.fvn_forms.specs.Good.{IsGood}
use Rattle.fvn_forms.proofs.Sums.{same_op_is, same_op_itself, constant_settled}
use Rattle.fvn_terms.proofs.AxiomWords.{free_without}
use Rattle.fvn_forms.proofs.LeastSort.{sort_in-kind}
use Rattle.fvn_signature.specs.Queries.{IsCompleted}
use Rattle.fvn_flat.specs.Rules.{IsIdentity}
use Rattle.fvn_rewrite_laws.specs.Identities.{is_listed_op, with_operator, with_identity_of, identities}

pub op_listed : (es : List OpId) (e : OpId) → is_listed_op es e ≡ true → Contains es e
op_listed [] e h = absurd (false≢true h)
op_listed (g ∷ es) e h = elim (or_cases (same_op e g) (list_any (same_op e) es) h) as (λ _. Contains (g ∷ es) e) [
  | inl p ↦ subst (Contains (g ∷ es)) (sym (same_op_is e g p)) (contains_here g es)
  | inr r ↦ contains_later g es e (op_listed es e r)
]

pub listed_op : (es : List OpId) (e : OpId) → Contains es e → is_listed_op es e ≡ true
listed_op [] e h = absurd (contains_none e h)
listed_op (g ∷ es) e h = elim (contains_cases g es e h) as (λ _. is_listed_op (g ∷ es) e ≡ true) [
  | inl p ↦ or_left (same_op e g) (list_any (same_op e) es) (subst (λ z. same_op e z ≡ true) (sym p) (same_op_itself e))
  | inr i ↦ or_right (same_op e g) (list_any (same_op e) es) (listed_op es e i)
]

still_listed : (es : List OpId) (g e : OpId) → Contains es e → Contains (with_operator es (Some g)) e
still_listed es g e h = go (is_listed_op es g) where
  go : (b : Bool) → Contains (if b then es else es ++ g ∷ []) e
  go true = h
  go false = Contains-append_left es (g ∷ []) e h

now_listed : (es : List OpId) (e : OpId) → Contains (with_operator es (Some e)) e
now_listed es e = go (is_listed_op es e) refl where
  go : (b : Bool) → is_listed_op es e ≡ b → Contains (if b then es else es ++ e ∷ []) e
  go true p = op_listed es e p
  go false p = Contains-push es e

only_listed : (es : List OpId) (g e : OpId) → Contains (with_operator es (Some g)) e → Contains es e ⊎ (g ≡ e)
only_listed es g e h = go (is_listed_op es g) h where
  go : (b : Bool) → Contains (if b then es else es ++ g ∷ []) e → Contains es e ⊎ (g ≡ e)
  go true c = inl c
  go false c = Contains-push_cases es g e c

still_some : (es : List OpId) (i : Option OpId) (e : OpId) → Contains es e → Contains (with_operator es i) e
still_some es None e h = h
still_some es (Some g) e h = still_listed es g e h

now_some : (es : List OpId) (i : Option OpId) (e : OpId) → i ≡ Some e → Contains (with_operator es i) e
now_some es i e p = subst (λ j. Contains (with_operator es j) e) (sym p) (now_listed es e)

only_some : (es : List OpId) (i : Option OpId) (e : OpId) → Contains (with_operator es i) e → Contains es e ⊎ (i ≡ Some e)
only_some es None e h = inl h
only_some es (Some g) e h = elim (only_listed es g e h) as (λ _. Contains es e ⊎ (Some g ≡ Some e)) [ inl c ↦ inl c | inr q ↦ inr (ap Some q) ]

kept_identity : (ops : List OpDecl) (es : List OpId) (e : OpId) → Contains es e → Contains (fold with_identity_of es ops) e
kept_identity [] es e h = h
kept_identity (o ∷ ops) es e h = kept_identity ops (with_identity_of es o) e (still_some es (identity o.axioms) e h)

identity_of_op : (ops : List OpDecl) (es : List OpId) (o : OpDecl) (e : OpId) → Contains ops o → identity o.axioms ≡ Some e → Contains (fold with_identity_of es ops) e
identity_of_op [] es o e h p = absurd (contains_none o h)
identity_of_op (q ∷ ops) es o e h p = elim (contains_cases q ops o h) as (λ _. Contains (fold with_identity_of es (q ∷ ops)) e) [
  | inl s ↦ kept_identity ops (with_identity_of es q) e (now_some es (identity q.axioms) e (ap (λ (z : OpDecl). identity z.axioms) s ∙ p))
  | inr i ↦ identity_of_op ops (with_identity_of es q) o e i p
]

op_of_identity : (ops : List OpDecl) (es : List OpId) (e : OpId) → Contains (fold with_identity_of es ops) e → Contains es e ⊎ ((o : OpDecl) × (Contains ops o × (identity o.axioms ≡ Some e)))
op_of_identity [] es e h = inl h
op_of_identity (q ∷ ops) es e h = go (op_of_identity ops (with_identity_of es q) e h) where
  at : Contains es e ⊎ (identity q.axioms ≡ Some e) → Contains es e ⊎ ((o : OpDecl) × (Contains (q ∷ ops) o × (identity o.axioms ≡ Some e)))
  at (inl c) = inl c
  at (inr p) = inr (q, (contains_here q ops, p))

  go : Contains (with_identity_of es q) e ⊎ ((o : OpDecl) × (Contains ops o × (identity o.axioms ≡ Some e))) → Contains es e ⊎ ((o : OpDecl) × (Contains (q ∷ ops) o × (identity o.axioms ≡ Some e)))
  go (inl c) = at (only_some es (identity q.axioms) e c)
  go (inr w) = inr (w.0, (contains_later q ops w.0 w.1.0, w.1.1))

module _ (d : Declarations) where
  -- an operator with an identity is declared
  known : (f e : OpId) → identity (axioms d f) ≡ Some e → f.0 < length d.ops
  known f e h = elim (cases_lt f.0 (length d.ops)) as (λ _. f.0 < length d.ops) [
    | inl l ↦ l
    | inr m ↦ absurd (free_without (axioms d f) e (ap (λ (o : OpDecl). o.axioms) (get_or_past d.ops f.0 unknown m)) h)
  ]

  pub identity_listed : (f e : OpId) → identity (axioms d f) ≡ Some e → Contains (identities d) e
  identity_listed f e h = identity_of_op d.ops [] (declared d f) e (Contains-get_or d.ops f.0 unknown (known f e h)) h

  pub listed_identity : (e : OpId) → Contains (identities d) e → IsIdentity d e
  listed_identity e h = go (op_of_identity d.ops [] e h) where
    go : Contains [] e ⊎ ((o : OpDecl) × (Contains d.ops o × (identity o.axioms ≡ Some e))) → IsIdentity d e
    go (inl c) = absurd (contains_none e c)
    go (inr w) =
        let f : OpId = record { 0 = w.1.0.0 } in
        let p : declared d f ≡ w.0 = get_or_default d.ops w.1.0.0 unknown w.0 w.1.0.1 ∙ w.1.0.2 in
        (f, ap (λ (o : OpDecl). identity o.axioms) p ∙ w.1.1)

  -- an identity is a constant of the kind of its sort
  pub identity_kind : IsGood d → IsCompleted d → (e : OpId) → IsIdentity d e → HasKind d (constant e) (kind d (result d e []))
  identity_kind good completed e w =
      let r = completed.op_declared w.0 (known w.0 e w.1) in
      let h = good.fits.identity w.0 e r.0 w.1 r.1 in
      subst (HasKind d (constant e)) (sym (sort_in-kind d good (λ x. x.sort) (λ x i. refl) (fconstant e) (constant_settled d e e) (kind d r.0.result) h)) h
