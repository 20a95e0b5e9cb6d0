-- Values under a substitution, and which of them are reducible.
use Rattle.std.proofs.Common.{◌≡◌, ◌≤◌, ◌<◌, ◌-◌, ◌^◌, ℕ, Bool, true, false, List, None, Some, refl, sym, ap, ◌∙◌, subst, arith}
use Rattle.std.specs.Prelude.{Contains, min, IsTrue}
use Rattle.fvn_terms.specs.declared.plain.Var.{Var}
use Rattle.fvn_terms.specs.declared.declarations.Declarations.{Declarations}
use Rattle.fvn_terms.specs.Theory.{Equations}
use Rattle.fvn_terms.specs.Signature.{kind, IsSort}
use Rattle.fvn_terms.specs.Rewriting.{IsReducible, IsIrreducible}
use Rattle.fvn_forms.specs.Flat.{FlatTerm, plain, symbols}
use Rattle.fvn_flat.specs.Bindings.{Bindings, bound, form_or, value, composed, BindingsFit, IsRestriction}
use Rattle.fvn_flat.specs.Solving.{substitution}
use Rattle.fvn_flat.proofs.Composing.{value-composed, restriction_fits}
use Rattle.fvn_cover.specs.declared.variant.Variant.{Variant}
use Rattle.fvn_rewrite_coherence.specs.Laws.{CoherenceLaws}
use Rattle.fvn_rewrite_laws.specs.Normalised.{counted, IsNormalForm}
use Rattle.fvn_narrow_children.specs.Values.{AreValuesUnder, IsLargeValue, IsLargeAt, IsSmallAt, ReducibleAs}

pub values_of_restriction : (d : Declarations) (v : Variant) (s all r : Bindings) → all ≡ composed d v.subst s → BindingsFit d all → IsRestriction v.vars all r → AreValuesUnder d v s r
values_of_restriction d v s all r is fits own = record {
  values = λ x c. ap (form_or x) (own.kept x c) ∙ ap (λ b. value b x) is ∙ value-composed d v.subst s x;
  others = own.others;
  fits = restriction_fits d v.vars all r own fits;
}

-- a bound form with too many symbols
pub large_at_is : (s : Bindings) (size number : ℕ) (x : Var) (t u : FlatTerm) → bound s x ≡ Some t → u ≡ t → number ≡ min (symbols t) (2 ^ 64 - 1) → size < number → IsLargeAt s size x u
large_at_is s size number x t u is copy count large = record {
  is = copy ∙ sym (ap (form_or x) is);
  large = subst (λ w. size < symbols w) (sym copy) (omega arith);
}

-- one of the listed variables
pub large_listed : (vars : List Var) (s : Bindings) (size : ℕ) (x : Var) (t : FlatTerm) → Contains vars x → IsLargeAt s size x t → IsLargeValue vars s size t
large_listed vars s size x t listed l = record { variable = x; listed = listed; is = l.is; large = l.large }

same_form : (t u : FlatTerm) → Some t ≡ Some u → t ≡ u
same_form t u k = cc

-- a bound form with no more
pub small_at_is : (s : Bindings) (size number : ℕ) (x : Var) (t : FlatTerm) → bound s x ≡ Some t → number ≡ min (symbols t) (2 ^ 64 - 1) → number ≤ size → IsSmallAt s size x
small_at_is s size number x t is count small u e = subst (λ w. counted w ≤ size) (same_form t u (sym is ∙ e)) (subst (λ n. n ≤ size) count small)

-- no form
pub unbound_is_small : (s : Bindings) (size : ℕ) (x : Var) → bound s x ≡ None → IsSmallAt s size x
unbound_is_small s size x is t e = let q : None ≡ Some t = sym is ∙ e in cc

module _ (d : Declarations) (equations : Equations) where
  -- what a test tells
  pub reducible_as : (t : FlatTerm) (b : Bool) → (IsTrue b → IsReducible d equations (plain t)) → (b ≡ false → IsNormalForm d equations t) → ReducibleAs d equations (plain t) b
  reducible_as t true when unless = when refl
  reducible_as t false when unless = unless refl

  pub bound_reducible_as : (s : Bindings) (x : Var) (t : FlatTerm) (b : Bool) → bound s x ≡ Some t → ReducibleAs d equations (plain t) b → ReducibleAs d equations (substitution s x) b
  bound_reducible_as s x t b is h = subst (λ o. ReducibleAs d equations (plain (form_or x o)) b) (sym is) h

  -- a variable that is not bound stays, and is irreducible
  pub unbound_irreducible : CoherenceLaws d equations → (s : Bindings) (x : Var) → IsSort d x.sort → bound s x ≡ None → IsIrreducible d equations (substitution s x)
  unbound_irreducible laws s x sort is = subst (λ o. IsIrreducible d equations (plain (form_or x o))) (sym is) (laws.variables x (kind d x.sort, (sort, refl)))

  -- a value that is as before
  pub still_irreducible : (old new : Bindings) (x : Var) → value old x ≡ value new x → IsIrreducible d equations (substitution old x) → IsIrreducible d equations (substitution new x)
  still_irreducible old new x e h = subst (λ t. IsIrreducible d equations (plain t)) e h
