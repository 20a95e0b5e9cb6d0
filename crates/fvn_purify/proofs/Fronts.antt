-- What holds of heads and ways holds of a front of them.
use Rattle.std.proofs.Common.{◌≡◌, ℕ, Bool, List, ap, ◌∙◌, Some, slice_get}
use Rattle.fvn_terms.specs.declared.declarations.Declarations.{Declarations}
use Rattle.fvn_purify.specs.Parts.{Outline}
use Rattle.fvn_purify.specs.Splits.{AreHeadsOfParts, AreWaysOfPairs}
use Rattle.fvn_purify.specs.Cursor.{BeginsWith}
use Rattle.fvn_purify.specs.declared.classes.Head.{Head}
use Rattle.fvn_purify.proofs.Elements.{slice_get-left}

longer : {A : Type 0} (front list : List A) → BeginsWith front list → (k : ℕ) (x : A) → slice_get front k ≡ Some x → slice_get list k ≡ Some x
longer front list b k x e = ap (λ l. slice_get l k) b.1 ∙ slice_get-left front b.0 k x e

module _ (d : Declarations) (c : Outline) (class : ℕ → ℕ) where
  pub heads_front : (nodes : List ℕ) (front list : List Head) → BeginsWith front list → AreHeadsOfParts d c class nodes list → AreHeadsOfParts d c class nodes front
  heads_front nodes front list b are = record {
    can = λ k i h at. are.can k i h (at.0, longer front list b k h at.1);
    one = λ k l i j h g at there e. are.one k l i j h g (at.0, longer front list b k h at.1) (there.0, longer front list b l g there.1) e;
  }

  pub ways_front : (pairs : List (ℕ × ℕ)) (front list : List Bool) → BeginsWith front list → AreWaysOfPairs d c class pairs list → AreWaysOfPairs d c class pairs front
  ways_front pairs front list b are k p w at = are k p w (at.0, longer front list b k w at.1)
