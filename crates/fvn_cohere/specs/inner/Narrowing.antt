-- Choices that are left out, since no choice for the other variables makes with them what is sought.
use Rattle.std.specs.Prelude.{◌≡◌, ◌<◌, ℕ, Bool, true, false, not, List, filter, Contains}
use Rattle.fvn_terms.specs.declared.plain.Var.{Var}
use Rattle.fvn_terms.specs.Plain.{term}
use Rattle.fvn_terms.specs.Substitution.{same_var}
use Rattle.fvn_terms.specs.Signature.{AtOrBelow}
use Rattle.fvn_forms.specs.SortOrder.{sort_number}
use Rattle.fvn_rewrite_laws.specs.declared.shapes.Shape.{Shape}
use Rattle.fvn_rewrite_laws.specs.Shapes.{shape_in}
use Rattle.fvn_rewrite_laws.specs.Choices.{variable_shape}
use Rattle.fvn_cohere.specs.declared.searching.Search.{Search}
use Rattle.fvn_cohere.specs.inner.Searching.{with_shape, is_lost_at}
use Rattle.fvn_cohere.specs.inner.Outlooks.{Fills}
use Rattle.fvn_cohere.specs.inner.Posed.{is_sought}

-- each variable stays
abbrev pub staying : Var → Shape
staying y = variable_shape y.sort

-- the variables but x, with their choices
abbrev pub others_of : Var → List (Var × List Shape) → List (Var × List Shape)
others_of x unchosen = filter (λ (v : Var × List Shape). not (same_var v.0 x)) unchosen

-- of these shapes for x, those that some choice for the others makes into what is sought are kept
pub record KeepsShapes (s : Search) (others : List (Var × List Shape)) (x : Var) (shapes kept : List Shape) : Type 0 where
  pub only : (o : Shape) → Contains kept o → Contains shapes o
  pub sought : (filled : Var → Shape) → Fills s.sig.now others (with_shape staying x (filled x)) filled → is_sought s filled ≡ true →
      Contains shapes (filled x) → Contains kept (filled x)

-- a variable with those of its shapes that come in question
pub record IsNarrowed (s : Search) (v w : Var × List Shape) : Type 0 where
  pub variable : w.0 ≡ v.0
  pub only : (o : Shape) → Contains w.1 o → Contains v.1 o
  pub sought : (filled : Var → Shape) → Fills s.sig.now s.unchosen.now staying filled → is_sought s filled ≡ true →
      Contains v.1 (filled v.0) → Contains w.1 (filled v.0)

-- whether some choice for all variables is what is sought
abbrev pub FindsAs : Search → Bool → Type 0
FindsAs s true = (filled : Var → Shape) × (Fills s.sig.now s.unchosen.now staying filled × (is_sought s filled ≡ true))
FindsAs s false = (filled : Var → Shape) → Fills s.sig.now s.unchosen.now staying filled → is_sought s filled ≡ false

-- no choice for all variables makes a loss at a declared sort below this number
abbrev pub LosesAtNone : Search → ℕ → Type 0
LosesAtNone s n = (k : ℕ) → k < n → (filled : Var → Shape) → Fills s.sig.now s.unchosen.now staying filled →
    is_lost_at s.sig.now (sort_number k) (shape_in s.sig.now filled (term s.left.now)).sort (shape_in s.sig.now filled (term s.right.now)).sort ≡ false

-- under the choice the right side has a sort at or below that of the left side
abbrev pub Decreases : Search → (Var → Shape) → Type 0
Decreases s env = AtOrBelow s.sig.now (shape_in s.sig.now env (term s.right.now)).sort (shape_in s.sig.now env (term s.left.now)).sort

-- whether under some choice for all variables it has not
abbrev pub LosesIn : Search → Bool → Type 0
LosesIn s true = (filled : Var → Shape) × (Fills s.sig.now s.unchosen.now staying filled × (Decreases s filled → ⊥))
LosesIn s false = (filled : Var → Shape) → Fills s.sig.now s.unchosen.now staying filled → Decreases s filled
