-- A term collapses exactly where a choice of identities for its variables gives it the shape of a variable or of an identity.
use Rattle.std.proofs.Common.{◌≡◌, ◌⊎◌, Bool, true, false, [], map, refl, sym, ap, ◌∙◌, subst, inl, inr}
use Rattle.std.specs.List.{Contains}
use Rattle.fvn_base.proofs.Membership.{contains_here, contains_later, contains_cases, contains_map, map_contains}
use Rattle.fvn_terms.specs.declared.plain.Var.{Var}
use Rattle.fvn_terms.specs.declared.plain.OpId.{OpId}
use Rattle.fvn_terms.specs.declared.plain.SortId.{SortId}
use Rattle.fvn_terms.specs.declared.declarations.Declarations.{Declarations}
use Rattle.fvn_terms.specs.Term.{Term, var}
use Rattle.fvn_terms.specs.Substitution.{Substitution, apply, Occurs}
use Rattle.fvn_terms.specs.Signature.{AtOrBelow, same, kind, HasKind, KeepsKinds}
use Rattle.fvn_terms.specs.Equality.{constant}
use Rattle.fvn_forms.specs.Flat.{FlatTerm, fvar, fapp, fnone, fmore, fconstant}
use Rattle.fvn_forms.specs.Canon.{canon}
use Rattle.fvn_forms.specs.Ranks.{result}
use Rattle.fvn_forms.specs.Good.{IsGood}
use Rattle.fvn_forms.proofs.LeastSort.{least_sort_below}
use Rattle.fvn_signature.specs.Queries.{IsCompleted}
use Rattle.fvn_flat.specs.Rules.{IsIdentity, GoesToIdentity, IsIdentityChoice}
use Rattle.fvn_rewrite_laws.specs.declared.shapes.Root.{Root}
use Rattle.fvn_rewrite_laws.specs.declared.shapes.Root.TheVariants.{Variable, Constant}
use Rattle.fvn_rewrite_laws.specs.declared.shapes.Shape.{Shape}
use Rattle.fvn_rewrite_laws.specs.Shapes.{root_of, shape_of, shape_in}
use Rattle.fvn_rewrite_laws.specs.Identities.{identities}
use Rattle.fvn_rewrite_laws.specs.Choices.{variable_shape, identity_shape, identities_below, identity_choices, IsChoice}
use Rattle.fvn_rewrite_laws.specs.Collapses.{CollapsesToVariable, CollapsesToIdentity}
use Rattle.fvn_rewrite_laws.proofs.Identities.{identity_listed, listed_identity, identity_kind}
use Rattle.fvn_rewrite_laws.proofs.Shaping.{shape_exact}
use Rattle.fvn_rewrite_laws.proofs.Listing.{occurs_test, occurs_if}
use Rattle.fvn_rewrite_laws.proofs.Choosing.{occurring_sort, identity_below, below_identity, made, IsMade, made_if, made_variable, made_identity, made_shape, choosing, choosing_shape}

variable_root : (t : FlatTerm) → root_of t ≡ Variable → (x : Var) × (t ≡ fvar x)
variable_root (fvar x) e = (x, refl)
variable_root (fapp g true ts) e = cc
variable_root (fapp g false fnone) e = cc
variable_root (fapp g false (fmore t ts)) e = cc

constant_root : (t : FlatTerm) (g : OpId) → root_of t ≡ Constant g → t ≡ fconstant g
constant_root (fvar x) g e = cc
constant_root (fapp h true ts) g e = cc
constant_root (fapp h false fnone) g e = let p : h ≡ g = cc in ap fconstant p
constant_root (fapp h false (fmore t ts)) g e = cc

module _ (d : Declarations) (good : IsGood d) (completed : IsCompleted d) (t : Term) (k : SortId) (h : HasKind d t k) where
  below_of : (x : Var) (s : Substitution) → (g : GoesToIdentity d s x) → AtOrBelow d (result d g.operator []) x.sort
  below_of x s g = least_sort_below d good (constant g.operator) (kind d (result d g.operator []), identity_kind d good completed g.operator g.identity) x.sort g.sorted

  -- a choice of identities, by a substitution
  module _ (s : Substitution) (choice : IsIdentityChoice d t s) where
    pub keeps : KeepsKinds d s
    keeps x i = go (choice x) where
      go : (s x ≡ var x) ⊎ (Occurs x t × GoesToIdentity d s x) → HasKind d (s x) (kind d x.sort)
      go (inl e) = subst (λ u. HasKind d u (kind d x.sort)) (sym e) (i, refl)
      go (inr w) = subst (λ u. HasKind d u (kind d x.sort)) (sym w.1.is) (made_identity d good completed x w.1.operator w.1.identity (below_of x s w.1)).of_kind

    abbrev chosen : Var → Shape
    chosen x = shape_of d (canon d (s x))

    is_choice : IsChoice (identity_choices d) t chosen
    is_choice x o = go (choice x) where
      go : (s x ≡ var x) ⊎ (Occurs x t × GoesToIdentity d s x) → Contains (identity_choices d x.sort) (shape_of d (canon d (s x)))
      go (inl e) = subst (λ u. Contains (identity_choices d x.sort) (shape_of d (canon d u))) (sym e) (contains_here (variable_shape x.sort) (map (identity_shape d) (identities_below d x.sort)))
      go (inr w) =
          let e = w.1.operator in
          subst (λ u. Contains (identity_choices d x.sort) (shape_of d (canon d u))) (sym w.1.is)
          (contains_later (variable_shape x.sort) (map (identity_shape d) (identities_below d x.sort)) (identity_shape d e)
          (contains_map (identity_shape d) (identities_below d x.sort) e (below_identity d good completed e x.sort (identity_listed d w.1.identity.0 e w.1.identity.1) (below_of x s w.1))))

    root_is : (f : Root) → root_of (canon d (apply s t)) ≡ f → (shape_in d chosen t).root ≡ f
    root_is f e = ap (λ (z : Shape). z.root) (sym (shape_exact d good s keeps t k h)) ∙ e

  -- the shape of a term by a choice, and whether it is this
  pub record HasChoice (P : Root → Type 0) : Type 0 where
    pub env : Var → Shape
    pub choice : IsChoice (identity_choices d) t env
    pub is : P (shape_in d env t).root

  pub variable_choice : CollapsesToVariable d t → HasChoice (λ f. f ≡ Variable)
  variable_choice w =
      let c = w.1 in
      record { env = chosen c.by c.choice; choice = is_choice c.by c.choice; is = root_is c.by c.choice Variable (ap root_of (sym c.is)) }

  pub identity_choice : CollapsesToIdentity d t → HasChoice (λ f. (e : OpId) × (Contains (identities d) e × (f ≡ Constant e)))
  identity_choice w =
      let c = w.2 in
      record {
        env = chosen c.by c.choice;
        choice = is_choice c.by c.choice;
        is = (w.0, (identity_listed d w.1.0 w.0 w.1.1, root_is c.by c.choice (Constant w.0) (ap root_of (sym c.is))));
      }

  -- and back
  module _ (env : Var → Shape) (choice : IsChoice (identity_choices d) t env) where
    each : (x : Var) → Occurs x t → IsMade d good completed x (env x) (made d good completed (env x).root (env x).sort x)
    each x o = elim (contains_cases (variable_shape x.sort) (map (identity_shape d) (identities_below d x.sort)) (env x) (choice x o)) as (λ _. IsMade d good completed x (env x) (made d good completed (env x).root (env x).sort x)) [
      | inl e ↦ made_shape d good completed x (variable_shape x.sort) (env x) e (made_variable d good completed x x.sort (occurring_sort d x t k h o) same)
      | inr i ↦
          let w = map_contains (identity_shape d) (identities_below d x.sort) (env x) i in
          let p = identity_below d good completed w.0 x.sort w.1.0 in
          made_shape d good completed x (identity_shape d w.0) (env x) w.1.1 (made_identity d good completed x w.0 p.0 p.1)
    ]

    abbrev by : Substitution
    by = choosing d good completed t env

    stays_or_goes : (x : Var) → Occurs x t → (u : Term) → u ≡ made d good completed (env x).root (env x).sort x → (u ≡ var x) ⊎ ((e : OpId) × (IsIdentity d e × (AtOrBelow d (result d e []) x.sort × (u ≡ constant e))))
    stays_or_goes x o u p = go (contains_cases (variable_shape x.sort) (map (identity_shape d) (identities_below d x.sort)) (env x) (choice x o)) where
      go : (variable_shape x.sort ≡ env x) ⊎ Contains (map (identity_shape d) (identities_below d x.sort)) (env x) → (u ≡ var x) ⊎ ((e : OpId) × (IsIdentity d e × (AtOrBelow d (result d e []) x.sort × (u ≡ constant e))))
      go (inl e) = inl (p ∙ sym (ap (λ (z : Shape). made d good completed z.root z.sort x) e))
      go (inr i) =
          let w = map_contains (identity_shape d) (identities_below d x.sort) (env x) i in
          let q = identity_below d good completed w.0 x.sort w.1.0 in
          inr (w.0, (q.0, (q.1, p ∙ sym (ap (λ (z : Shape). made d good completed z.root z.sort x) w.1.1))))

    by_choice : IsIdentityChoice d t by
    by_choice x = go (occurs_test x t) refl where
      at : Occurs x t → (by x ≡ var x) ⊎ ((e : OpId) × (IsIdentity d e × (AtOrBelow d (result d e []) x.sort × (by x ≡ constant e)))) → (by x ≡ var x) ⊎ (Occurs x t × GoesToIdentity d by x)
      at o (inl e) = inl e
      at o (inr w) = inr (o, record { operator = w.0; identity = w.1.0; sorted = (made_identity d good completed x w.0 w.1.0 w.1.1.0).of_sort; is = w.1.1.1 })

      go : (b : Bool) → occurs_test x t ≡ b → (by x ≡ var x) ⊎ (Occurs x t × GoesToIdentity d by x)
      go true p = at (occurs_if x t p) (stays_or_goes x (occurs_if x t p) (by x) (ap (λ b. made_if d good completed t env x b) p))
      go false p = inl (ap (λ b. made_if d good completed t env x b) p)

    root_by : (f : Root) → (shape_in d env t).root ≡ f → root_of (canon d (apply by t)) ≡ f
    root_by f e = ap (λ (z : Shape). z.root) (choosing_shape d good completed t env each t k h (λ x o. o)) ∙ e

    pub choice_to_variable : (shape_in d env t).root ≡ Variable → CollapsesToVariable d t
    choice_to_variable e = let w = variable_root (canon d (apply by t)) (root_by Variable e) in (w.0, record { by = by; choice = by_choice; is = sym w.1 })

    pub choice_to_identity : (e : OpId) → Contains (identities d) e → (shape_in d env t).root ≡ Constant e → CollapsesToIdentity d t
    choice_to_identity e i p = (e, listed_identity d e i, record { by = by; choice = by_choice; is = sym (constant_root (canon d (apply by t)) e (root_by (Constant e) p)) })
