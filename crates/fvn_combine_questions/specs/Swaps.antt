-- Which way commutative nodes of one class meet, where that is open.
use Rattle.std.specs.Prelude.{◌≡◌, ℕ, [], ◌∷◌, Option, Some, None}
use Rattle.fvn_terms.specs.declared.plain.OpId.{OpId}
use Rattle.fvn_terms.specs.declared.declarations.Axioms.TheVariants.{Comm}
use Rattle.fvn_terms.specs.declared.declarations.Declarations.{Declarations}
use Rattle.fvn_terms.specs.Signature.{axioms}
use Rattle.fvn_combine_nodes.specs.Table.{NodeTable, IsOver}
use Rattle.fvn_combine_nodes.specs.Classes.{MeetEitherWay, IsNodePartition}
use Rattle.fvn_combine_nodes.specs.States.{IsOpen, class_of}
use Rattle.fvn_combine_nodes.specs.declared.state.State.{State}

module _ (d : Declarations) (t : NodeTable) where
  -- The two are the first arguments of two commutative nodes of one class, whose arguments are not yet together, neither
  -- in order nor crosswise; and it is open whether the two are in one class.
  pub record IsSwap (s : State) (p : ℕ × ℕ) : Type 0 where
    pub left : ℕ
    pub right : ℕ
    pub operator : OpId
    pub left_second : ℕ
    pub right_second : ℕ
    pub commutative : axioms d operator ≡ Comm
    pub left_is : IsOver t.nodes left operator (p.0 ∷ left_second ∷ [])
    pub right_is : IsOver t.nodes right operator (p.1 ∷ right_second ∷ [])
    pub same : class_of s left ≡ class_of s right
    pub undecided : IsOpen s p.0 p.1
    pub neither : MeetEitherWay (class_of s) p.0 left_second p.1 right_second → ⊥

  -- two nodes whose answer decides which way commutative nodes meet; none where the classes are a partition
  abbrev pub IsUndecided : State → Option (ℕ × ℕ) → Type 0
  IsUndecided s None = IsNodePartition d t (class_of s)
  IsUndecided s (Some p) = IsSwap s p
