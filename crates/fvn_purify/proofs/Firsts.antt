-- First arguments, and the last of several questions.
use Rattle.std.proofs.Common.{◌≡◌, ◌⊎◌, ℕ, ◌<◌, false, List, [], ◌∷◌, length, get_or, refl, sym, ap, ◌∙◌, subst, inl, inr, Option, Some, None, Contains}
use Rattle.std.specs.Prelude.{nat_eq, MatchOption}
use Rattle.std.proofs.lemmas.List.Elements.{All-head}
use Rattle.fvn_terms.specs.declared.plain.OpId.{OpId}
use Rattle.fvn_terms.specs.declared.declarations.Declarations.{Declarations}
use Rattle.fvn_combine_nodes.specs.Table.{NodeTable, IsOver, IsOrdered}
use Rattle.fvn_combine_nodes.specs.States.{IsOpen, class_of}
use Rattle.fvn_combine_nodes.specs.declared.state.State.{State}
use Rattle.fvn_combine_nodes.proofs.Nodes.{arguments_within}
use Rattle.fvn_purify.specs.Parts.{Outline}
use Rattle.fvn_purify.specs.Theories.{theory, StandsOutside, StandsInTwo}
use Rattle.fvn_purify.specs.inner.Options.{AreFirst, IsEarlier, IsUnitIn, IsSolidAt, by_solid, IsForcedHead}
use Rattle.fvn_purify.specs.inner.Choices.{IsNextQuestion}
use Rattle.fvn_purify.specs.declared.classes.Head.{Head}
use Rattle.fvn_purify.proofs.Asked.{same_operator}

-- a list that is not empty
pub head_rest : (xs ys : List ℕ) → ys ≡ xs → nat_eq (length xs) 0 ≡ false → (rest : List ℕ) × (xs ≡ get_or ys 0 0 ∷ rest)
head_rest [] ys e n = cc
head_rest (x ∷ xs) ys e n = (xs, ap (λ l. get_or l 0 0 ∷ xs) (sym e))

-- a first argument is a node
pub first_within : (t : NodeTable) → IsOrdered t.nodes → (i x : ℕ) (f : OpId) (ks : List ℕ) → IsOver t.nodes i f (x ∷ ks) → x < length t.nodes
first_within t ordered i x f ks is = All-head (λ k. k < length t.nodes) x ks (arguments_within t.nodes ordered i f (x ∷ ks) is)

-- no parts and no identities are open, so that the next question is about a pair
pub ways_last : (c : Outline) (s : State) → ((x y : ℕ) → Contains c.places.parts x → Contains c.places.parts y → IsOpen s x y → ⊥) →
    ((x : ℕ) → Contains c.places.headed x → (p : OpId × ℕ) → Contains c.table.units p → IsOpen s x p.1 → ⊥) →
    (r : Option (ℕ × ℕ)) → MatchOption r ((p : ℕ × ℕ) (x y : ℕ) → Contains c.places.pairs p → class_of s p.0 ≡ class_of s p.1 → AreFirst c.table p x y → IsOpen s x y → ⊥)
    (λ q. ((p : ℕ × ℕ) × Contains c.places.pairs p × (class_of s p.0 ≡ class_of s p.1) × AreFirst c.table p q.0 q.1) × IsOpen s q.0 q.1) → IsNextQuestion c s r
ways_last c s parts units (Some q) h = (inr (inr h.0), h.1)
ways_last c s parts units None h = none
  where
    none : IsNextQuestion c s None
    none x y (inl a) o = parts x y a.0 a.1 o
    none x y (inr (inl b)) o = units x b.0 b.1.0 b.1.1 (subst (IsOpen s x) (sym b.1.2) o)
    none x y (inr (inr w)) o = h w.0 x y w.1 w.2 w.3 o

-- no earlier head and no identity forces a head, so that a member does or nothing
pub solid_last : (d : Declarations) (c : Outline) (class : ℕ → ℕ) (heads : List Head) (i : ℕ) → ((h : Head) → IsEarlier class c.places.headed heads i h → ⊥) → ((e : OpId) → IsUnitIn c.table class i e → ⊥) →
    (r : Option Head) → MatchOption r ((j : ℕ) (h : Head) → IsSolidAt d c.table class i j h → ⊥) (λ h. (j : ℕ) × IsSolidAt d c.table class i j h) → IsForcedHead d c class heads i r
solid_last d c class heads i earlier unit None h = record { earlier = earlier; unit = unit; solid = h }
solid_last d c class heads i earlier unit (Some x) h = by_solid h.0 earlier unit h.1

same_option : (a b : Option OpId) → (a ≡ b) ⊎ (a ≡ b → ⊥)
same_option None None = inl refl
same_option None (Some g) = inr (λ e. cc)
same_option (Some f) None = inr (λ e. cc)
same_option (Some f) (Some g) = elim (same_operator f g) [
  | inl e ↦ inl (ap Some e)
  | inr n ↦ inr (λ e. n (let s : f ≡ g = cc in s))
]

-- what stands in two theories stands outside one of them
pub two_outside : (d : Declarations) (t : NodeTable) (i : ℕ) (f : OpId) → StandsInTwo d t i → StandsOutside d t i (theory d f)
two_outside d t i f h = elim (same_option (theory d h.operator) (theory d f)) [
  | inl e ↦ record { operator = h.outside.operator; under = h.outside.under; other = λ z. h.outside.other (z ∙ sym e) }
  | inr n ↦ record { operator = h.operator; under = h.under; other = n }
]
