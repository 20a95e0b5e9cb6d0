-- What is told of a unifier under which a value is reducible, or too large.
use Rattle.std.proofs.Common.{◌≡◌, ◌<◌, ℕ, List, sym, ◌∙◌, subst, inr}
use Rattle.std.specs.Prelude.{Contains}
use Rattle.std.proofs.lemmas.List.Elements.{All-contains}
use Rattle.fvn_terms.specs.declared.plain.Var.{Var}
use Rattle.fvn_terms.specs.Signature.{kind, IsSort}
use Rattle.fvn_terms.specs.Places.{stop}
use Rattle.fvn_terms.specs.Rewriting.{IsReducible, IsIrreducible}
use Rattle.fvn_forms.specs.Flat.{FlatTerm, plain, symbols}
use Rattle.fvn_flat.specs.Bindings.{Bindings, value}
use Rattle.fvn_flat.specs.Fits.{Fits}
use Rattle.fvn_flat.specs.Solving.{substitution}
use Rattle.fvn_cover.specs.declared.variant.Variant.{Variant}
use Rattle.fvn_cover.specs.Covering.{IsFlatVariant}
use Rattle.fvn_rewrite.specs.Usable.{Rewriting, equations_by}
use Rattle.fvn_narrow_children.specs.Values.{AreValuesUnder, IsLargeValue, AreIrreducible, HaveReducible}
use Rattle.fvn_narrow_children.specs.Growing.{IsRaw, IsLost, IsOverlarge}

module _ (r : Rewriting) (v : Variant) (members : List FlatTerm) (s own : Bindings) where
  pub lost_is : AreValuesUnder r.signature v s own → HaveReducible r.signature (equations_by r) v.vars own → IsLost r v members s
  lost_is values h = record {
    variable = h.variable;
    listed = h.listed;
    reducible = subst (λ t. IsReducible r.signature (equations_by r) (plain t)) (values.values h.variable h.listed) h.reducible;
  }

  -- where no value is reducible
  pub not_lost : AreValuesUnder r.signature v s own → AreIrreducible r.signature (equations_by r) v.vars own → IsLost r v members s → ⊥
  not_lost values irreducible l =
      let there : IsIrreducible r.signature (equations_by r) (substitution own l.variable) = All-contains (λ (x : Var). IsIrreducible r.signature (equations_by r) (substitution own x)) v.vars l.variable irreducible l.listed in
      let moved : IsReducible r.signature (equations_by r) (substitution own l.variable) = subst (λ t. IsReducible r.signature (equations_by r) (plain t)) (sym (values.values l.variable l.listed)) l.reducible in
      there moved.0 moved.1

  value_fits : IsFlatVariant r.signature v → AreValuesUnder r.signature v s own → (x : Var) → Contains v.vars x → Fits r.signature (value own x)
  value_fits flat values x c = record {
    flat = values.fits.settled x;
    kinded = (kind r.signature x.sort, values.fits.keeps_kinds x (All-contains (λ (y : Var). IsSort r.signature y.sort) v.vars x flat.vars c));
  }

  pub large_stops : IsFlatVariant r.signature v → (size : ℕ) → size ≡ r.bounds.size → (t : FlatTerm) → AreValuesUnder r.signature v s own → IsLargeValue v.vars own size t → IsOverlarge r (IsRaw r v members s) t
  large_stops flat size e t values l = record {
    start = t;
    told = inr (l.variable, l.listed, l.is ∙ values.values l.variable l.listed);
    count = 0;
    reached = record { sequence = stop; fits = subst (Fits r.signature) (sym l.is) (value_fits flat values l.variable l.listed) };
    large = subst (λ n. n < symbols t) e l.large;
  }
