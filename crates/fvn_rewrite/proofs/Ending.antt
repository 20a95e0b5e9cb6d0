-- What a search for a normal form ends with, by its last turn.
use Rattle.std.proofs.Common.{◌≡◌, ◌≤◌, ℕ, sym, subst, arith}
use Rattle.fvn_terms.specs.declared.declarations.Declarations.{Declarations}
use Rattle.fvn_terms.specs.Theory.{Equations}
use Rattle.fvn_theory.specs.declared.bounds.Bounds.{Bounds}
use Rattle.fvn_forms.specs.Flat.{FlatTerm, plain}
use Rattle.fvn_flat.specs.Fits.{Fits}
use Rattle.fvn_rewrite_laws.specs.Normalised.{IsReached, IsForm, IsUnfinished, IsTooLarge}
use Rattle.fvn_rewrite.specs.inner.Turns.{TurnAs}
use Rattle.fvn_rewrite.proofs.Reaching.{reached_itself}
use Rattle.fvn_rewrite.specs.declared.normalising.Turn.TheVariants.{Large, Irreducible, Next}

module _ (d : Declarations) (equations : Equations) (t : FlatTerm) (bounds : Bounds) where
  pub large_end : (k : ℕ) (u : FlatTerm) → k ≤ bounds.steps → IsReached d equations k t u → TurnAs d equations u bounds.size Large → IsTooLarge d equations t bounds u
  large_end k u within r h = record { reached = record { count = k; within = within; reached = r }; large = h }

  pub form_end : (k : ℕ) (u : FlatTerm) → k ≤ bounds.steps → IsReached d equations k t u → TurnAs d equations u bounds.size Irreducible → IsForm d equations t bounds u
  form_end k u within r h = record { reached = record { count = k; within = within; reached = r }; irreducible = h.1; small = h.0 }

  pub unfinished_end : (k : ℕ) (start u v : FlatTerm) → start ≡ t → k ≡ bounds.steps → IsReached d equations k t u → TurnAs d equations u bounds.size (Next v) → IsUnfinished d equations t bounds start u
  unfinished_end k start u v is all r h = record { is = is; reached = subst (λ n. IsReached d equations n t u) all r; reducible = (plain v, h.1.steps); small = h.0 }

  -- where the first turn ends it, of a copy of the start
  pub large_at_once : (u : FlatTerm) → u ≡ t → Fits d t → TurnAs d equations t bounds.size Large → IsTooLarge d equations t bounds u
  large_at_once u is fits h = subst (IsTooLarge d equations t bounds) (sym is) (large_end 0 t (omega arith) (reached_itself d equations t fits) h)

  pub form_at_once : (u : FlatTerm) → u ≡ t → Fits d t → TurnAs d equations t bounds.size Irreducible → IsForm d equations t bounds u
  form_at_once u is fits h = subst (IsForm d equations t bounds) (sym is) (form_end 0 t (omega arith) (reached_itself d equations t fits) h)

  pub unfinished_at_once : (start u v : FlatTerm) → start ≡ t → u ≡ t → Fits d t → 0 ≡ bounds.steps → TurnAs d equations t bounds.size (Next v) → IsUnfinished d equations t bounds start u
  unfinished_at_once start u v is same fits none h = subst (IsUnfinished d equations t bounds start) (sym same) (unfinished_end 0 start t v is none (reached_itself d equations t fits) h)
