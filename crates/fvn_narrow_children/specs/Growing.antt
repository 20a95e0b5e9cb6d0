-- What a unifier makes of a variant: a child, nothing where a value is reducible, or an end.
use Rattle.std.specs.Prelude.{◌≡◌, ◌≤◌, ◌<◌, ◌⊎◌, ℕ, List, map, All, Contains}
use Rattle.std.specs.List.{AllZip}
use Rattle.fvn_terms.specs.declared.plain.Var.{Var}
use Rattle.fvn_terms.specs.Rewriting.{IsReducible}
use Rattle.fvn_forms.specs.Flat.{FlatTerm, plain, symbols}
use Rattle.fvn_forms.specs.Canon.{inst}
use Rattle.fvn_flat.specs.Bindings.{Bindings, value}
use Rattle.fvn_flat.specs.declared.solver.SizeCause.TheVariants.{Problem as OfProblem, Binding, Term as OfTerm}
use Rattle.fvn_rewrite_laws.specs.Normalised.{counted, IsReached, IsNormalForm}
use Rattle.fvn_rewrite.specs.Usable.{Rewriting, equations_by}
use Rattle.fvn_cover.specs.declared.variant.Variant.{Variant}
use Rattle.fvn_exploring.specs.declared.ends.ExpandEnd.{ExpandEnd}
use Rattle.fvn_exploring.specs.declared.ends.ExpandEnd.TheVariants.{Whole, Steps, Size, Basis, Unifiers}
use Rattle.fvn_exploring.specs.declared.ends.Expansion.{Expansion}
use Rattle.fvn_narrow_children.specs.Values.{AreValuesUnder, AreSmallValues, AreIrreducible}

module _ (r : Rewriting) where
  -- u is a normal form of t with no more symbols, as they are counted, than are allowed
  pub record IsFormOf (t u : FlatTerm) : Type 0 where
    pub count : ℕ
    pub reached : IsReached r.signature (equations_by r) count t u
    pub irreducible : IsNormalForm r.signature (equations_by r) u
    pub small : counted u ≤ r.bounds.size

  -- as many steps as are allowed lead from one of the forms to a reducible one
  pub record IsUnrested (Told : FlatTerm → Type 0) (start end : FlatTerm) : Type 0 where
    pub told : Told start
    pub reached : IsReached r.signature (equations_by r) r.bounds.steps start end
    pub reducible : IsReducible r.signature (equations_by r) (plain end)

  -- steps lead from one of the forms to one with too many symbols
  pub record IsOverlarge (Told : FlatTerm → Type 0) (end : FlatTerm) : Type 0 where
    pub start : FlatTerm
    pub told : Told start
    pub count : ℕ
    pub reached : IsReached r.signature (equations_by r) count start end
    pub large : r.bounds.size < symbols end

  -- why one of the forms has no normal form within the limits, or too many symbols
  abbrev pub StopsAt : (FlatTerm → Type 0) → ExpandEnd → Type 0
  StopsAt Told Whole = ⊥
  StopsAt Told (Steps start end) = IsUnrested Told start end
  StopsAt Told (Size (OfProblem given)) = ⊥
  StopsAt Told (Size (Binding list)) = ⊥
  StopsAt Told (Size (OfTerm end)) = IsOverlarge Told end
  StopsAt Told (Basis f system) = ⊥
  StopsAt Told (Unifiers given list) = ⊥

  -- what a unifier makes of members and of a variant's values
  module _ (v : Variant) (members : List FlatTerm) (s : Bindings) where
    -- the instance of a member, or of the value of a variable
    abbrev pub IsRaw : FlatTerm → Type 0
    IsRaw t = Contains (map (inst r.signature (value s)) members) t
        ⊎ ((x : Var) × Contains v.vars x × (t ≡ inst r.signature (value s) (value v.subst x)))

    -- the values under the unifier, none of which is too large, and normal forms of the members under it
    pub record IsGrown (c : Variant) : Type 0 where
      pub vars : c.vars ≡ v.vars
      pub values : AreValuesUnder r.signature v s c.subst
      pub small : AreSmallValues v.vars c.subst r.bounds.size
      pub irreducible : AreIrreducible r.signature (equations_by r) v.vars c.subst
      pub terms : AllZip IsFormOf (map (inst r.signature (value s)) members) c.terms

    -- a value under the unifier is reducible
    pub record IsLost : Type 0 where
      pub variable : Var
      pub listed : Contains v.vars variable
      pub reducible : IsReducible r.signature (equations_by r) (plain (inst r.signature (value s) (value v.subst variable)))

    -- the unifier made one of these children, or none since a value is reducible
    abbrev pub IsDealtWith : List Variant → Type 0
    IsDealtWith children = ((c : Variant) × Contains children c × IsGrown c) ⊎ IsLost

  module _ (v : Variant) (members : List FlatTerm) (unifiers : List Bindings) where
    -- what several unifiers make of a variant, one after another
    pub record AreGrown (e : Expansion) : Type 0 where
      pub children : All (λ c. (s : Bindings) × Contains unifiers s × IsGrown v members s c) e.children
      pub whole : e.end ≡ Whole → All (λ s. IsDealtWith v members s e.children) unifiers
      pub cause : (e.end ≡ Whole) ⊎ ((s : Bindings) × Contains unifiers s × StopsAt (IsRaw v members s) e.end)
      -- a unifier under which a value is reducible stops nothing
      pub kept : (e.end ≡ Whole)
          ⊎ ((s : Bindings) × Contains unifiers s
          × (StopsAt (IsRaw v members s) e.end × (IsLost v members s → ⊥)))
