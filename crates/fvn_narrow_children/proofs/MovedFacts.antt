-- What is told of a unifier that gives a variable of a value something reducible.
use Rattle.std.proofs.Common.{◌≡◌, List, [], subst, inl, inr}
use Rattle.std.specs.Prelude.{All, Contains}
use Rattle.std.proofs.lemmas.List.Elements.{All-contains, All-weaker, All-contains_itself}
use Rattle.fvn_base.proofs.Membership.{contains_none}
use Rattle.fvn_terms.specs.declared.plain.Var.{Var}
use Rattle.fvn_terms.specs.Laws.{RewritingLaws}
use Rattle.fvn_terms.specs.Signature.{kind, HasKind, IsSort}
use Rattle.fvn_terms.specs.Substitution.{apply}
use Rattle.fvn_forms.specs.Flat.{FlatTerm, plain}
use Rattle.fvn_forms.specs.Canon.{inst}
use Rattle.fvn_forms.specs.Good.{IsGood}
use Rattle.fvn_flat.specs.Bindings.{Bindings, value, BindingsFit}
use Rattle.fvn_flat.specs.Drawn.{OccursInValues}
use Rattle.fvn_flat.specs.Solving.{substitution}
use Rattle.fvn_flat.proofs.Instances.{inst_equal}
use Rattle.fvn_cover.specs.declared.variant.Variant.{Variant}
use Rattle.fvn_cover.specs.Covering.{IsFlatVariant}
use Rattle.fvn_rewrite.specs.Usable.{Rewriting, equations_by}
use Rattle.fvn_rewrite_laws.specs.Laws.{SequenceLaws}
use Rattle.fvn_rewrite_laws.proofs.Choosing.{occurring_sort}
use Rattle.fvn_narrow_children.specs.Values.{HaveReducible}
use Rattle.fvn_narrow_children.specs.Growing.{IsLost}
use Rattle.fvn_narrow_children.specs.inner.Renaming.{value_variables}
use Rattle.fvn_narrow_children.proofs.NewNames.{from_values}

module _ (r : Rewriting) (v : Variant) (flat : IsFlatVariant r.signature v) (names : List Var) (are : names ≡ value_variables v.subst v.vars []) where
  -- a listed variable occurs in a value
  in_some_value : (y : Var) → Contains names y → OccursInValues v.vars (substitution v.subst) y
  in_some_value y c = elim (from_values v.subst v.vars [] y (subst (λ l. Contains l y) are c)) [ inl i ↦ absurd (contains_none y i) | inr o ↦ o ]

  kinded : (x : Var) → Contains v.vars x → HasKind r.signature (substitution v.subst x) (kind r.signature x.sort)
  kinded x c = flat.values.keeps_kinds x (All-contains (λ (y : Var). IsSort r.signature y.sort) v.vars x flat.vars c)

  -- variables of values have sorts of the signature
  pub names_sorted : All (λ x. IsSort r.signature x.sort) names
  names_sorted =
      All-weaker (Contains names) (λ (y : Var). IsSort r.signature y.sort)
      (λ y c. let o = in_some_value y c in occurring_sort r.signature y (substitution v.subst o.0) (kind r.signature o.0.sort) (kinded o.0 o.1) o.2) names (All-contains_itself names)

  -- the value in which it occurs is reducible under the unifier
  pub moved_is_lost : IsGood r.signature → RewritingLaws r.signature (equations_by r) → SequenceLaws r.signature (equations_by r) → (members : List FlatTerm) (s : Bindings) → BindingsFit r.signature s → HaveReducible r.signature (equations_by r) names s → IsLost r v members s
  moved_is_lost good laws sequences members s fits h =
      let o = in_some_value h.variable h.listed in
      let t : FlatTerm = value v.subst o.0 in record {
        variable = o.0;
        listed = o.1;
        reducible = sequences.reducible (apply (substitution s) (plain t)) (plain (inst r.signature (value s) t))
            (inst_equal r.signature (value s) good fits t (kind r.signature o.0.sort, kinded o.0 o.1))
            (laws.reducible (substitution s) (plain t) h.variable o.2 h.reducible);
      }
