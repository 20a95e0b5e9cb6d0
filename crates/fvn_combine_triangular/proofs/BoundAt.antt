-- How classes are bound.
use Rattle.std.proofs.Common.{◌≡◌, ℕ, ◌<◌, List, length, get_or, sym, ap, ◌∙◌, subst, Option, Some}
use Rattle.std.specs.Prelude.{slice_get}
use Rattle.std.proofs.lemmas.Option.{slice_get-get_or, get_or_from_slice_get}
use Rattle.fvn_terms.specs.declared.plain.OpId.{OpId}
use Rattle.fvn_terms.specs.declared.declarations.Declarations.{Declarations}
use Rattle.fvn_combine_nodes.specs.Table.{NodeTable}
use Rattle.fvn_combine_leaves.specs.declared.reading.Sums.{Sums}
use Rattle.fvn_combine_choices.specs.Binding.{IsBound}
use Rattle.fvn_combine_triangular.specs.inner.Planning.{IsBoundAt}

module _ (d : Declarations) (t : NodeTable) (class : ℕ → ℕ) (tag : ℕ → Option OpId) (sums list : List Sums) (same : list ≡ sums) (i k : ℕ) (e : Sums) (l : i < length list) (is : e ≡ get_or list i e) where
  pub bound_here : IsBound d t class tag e.operator k → IsBoundAt d t class tag sums i k
  bound_here b = (e, ap (λ l. slice_get l i) (sym same) ∙ slice_get-get_or list i e l ∙ ap Some (sym is), b)

  pub not_bound_here : (IsBound d t class tag e.operator k → ⊥) → IsBoundAt d t class tag sums i k → ⊥
  not_bound_here none (s, at, b) = none (subst (λ (s : Sums). IsBound d t class tag s.operator k) (sym (get_or_from_slice_get list i s e (ap (λ l. slice_get l i) same ∙ at)) ∙ sym is) b)
