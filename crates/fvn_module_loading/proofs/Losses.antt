-- What is told of the sorts of equations is determined.
use Rattle.std.proofs.Common.{◌≡◌, ◌+◌, ℕ, length, Option, Some, None, refl, sym, ap, ◌∙◌}
use Rattle.fvn_terms.specs.declared.declarations.Declarations.{Declarations}
use Rattle.fvn_terms.specs.Term.{Term}
use Rattle.fvn_terms.specs.Theory.{Equations}
use Rattle.fvn_terms.specs.Rewriting.{IsSortDecreasing}
use Rattle.fvn_rewrite_laws.specs.Losses.{IsLoss, AreSortDecreasing, IsFirstLoss}
use Rattle.fvn_module.specs.Contents.{Contents}
use Rattle.fvn_theory.specs.Equations.{equations_of}
use Rattle.fvn_module_loading.specs.Losses.{IsLossOf}
use Rattle.fvn_module_loading.proofs.Firsts.{not_good, one_first}

module _ (d : Declarations) where
  losing : (left right : Term) → IsLoss d left right → IsSortDecreasing d left right → ⊥
  losing left right w h = w.right_has_not (h w.by w.well_sorted w.sort w.left_has)

  abbrev Decreases : Term × Term → Type 0
  Decreases q = IsSortDecreasing d q.0 q.1

  loss_not_decreasing : (equations : Equations) (n : ℕ) → IsFirstLoss d equations n → AreSortDecreasing d equations → ⊥
  loss_not_decreasing equations n w all =
      not_good Decreases equations w.before w.after w.equation w.split (losing w.equation.0 w.equation.1 w.loses) all

  loss_once : (equations : Equations) (n k : ℕ) → IsFirstLoss d equations n → IsFirstLoss d equations k → n ≡ k
  loss_once equations n k a b =
      let r = one_first Decreases a.before a.after b.before b.after a.equation b.equation (sym a.split ∙ b.split) a.earlier b.earlier (losing a.equation.0 a.equation.1 a.loses) (losing b.equation.0 b.equation.1 b.loses) in
      let before : length a.before ≡ length b.before = ap length r.0 in
      a.number ∙ ap (λ i. i + 1) before ∙ sym b.number

pub losses-once : (m : Contents) (a b : Option ℕ) → IsLossOf m a → IsLossOf m b → a ≡ b
losses-once m None None p q = refl
losses-once m None (Some k) p q = absurd (loss_not_decreasing m.signature (equations_of m.equations) k q p)
losses-once m (Some n) None p q = absurd (loss_not_decreasing m.signature (equations_of m.equations) n p q)
losses-once m (Some n) (Some k) p q = ap Some (loss_once m.signature (equations_of m.equations) n k p q)
