-- What it means that a substitution obeys a split.
use Rattle.std.specs.Prelude.{◌≡◌, ◌≢◌, ◌↔◌, ℕ, Bool, true, false, [], ◌∷◌, length, Some, Contains}
use Rattle.fvn_terms.specs.declared.plain.OpId.{OpId}
use Rattle.fvn_terms.specs.declared.declarations.Declarations.{Declarations}
use Rattle.fvn_terms.specs.Substitution.{Substitution, apply}
use Rattle.fvn_terms.specs.Equality.{BEqual}
use Rattle.fvn_forms.specs.Flat.{FlatTerm, fconstant}
use Rattle.fvn_flat.specs.Forms.{head_of}
use Rattle.fvn_combine_nodes.specs.Table.{IsOver, term_at}
use Rattle.fvn_combine_nodes.specs.Unifiers.{value_at}
use Rattle.fvn_purify.specs.Parts.{Outline, StandBeside}
use Rattle.fvn_purify.specs.Heads.{operator_head, IsTheory, IsUnitNode}
use Rattle.fvn_purify.specs.declared.classes.Head.{Head}
use Rattle.fvn_purify.specs.declared.classes.Head.TheVariants.{Free, Pair, Sum, Identity}
use Rattle.fvn_purify.specs.declared.split.Split.{Split}

module _ (d : Declarations) (c : Outline) where
  -- e is the identity of an operator of the problem
  abbrev pub IsUnitName : OpId → Type 0
  IsUnitName e = (i : ℕ) × IsUnitNode c.table e i

  -- the value is no identity, and the theory is that of the operator that heads it, or any where it is a variable
  pub record AsksTheory (value : FlatTerm) (h : Head) : Type 0 where
    pub no_unit : (e : OpId) → IsUnitName e → value ≢ fconstant e
    pub theory : IsTheory d c.ops h
    -- an operator of a theory with axioms
    pub listed : (f : OpId) → head_of value ≡ Some f → Contains c.ops f → h ≡ operator_head d f
    -- any other operator
    pub free : (f : OpId) → head_of value ≡ Some f → (Contains c.ops f → ⊥) → h ≡ Free

  -- the value asks for this head
  abbrev pub AsksFor : FlatTerm → Head → Type 0
  AsksFor value Free = AsksTheory value Free
  AsksFor value (Pair f) = AsksTheory value (Pair f)
  AsksFor value (Sum f) = AsksTheory value (Sum f)
  AsksFor value (Identity e) = IsUnitName e × (value ≡ fconstant e)

  module _ (s : Substitution) where
    -- the instances of nodes i and j are equal modulo the axioms
    abbrev pub MakesEqual : ℕ → ℕ → Type 0
    MakesEqual i j = BEqual d (apply s (term_at c.table.nodes i)) (apply s (term_at c.table.nodes j))

    -- the arguments a and b equal v and w, where crossed w and v
    abbrev pub MeetsWay : Bool → (a b v w : ℕ) → Type 0
    MeetsWay true a b v w = MakesEqual a w × MakesEqual b v
    MeetsWay false a b v w = MakesEqual a v × MakesEqual b w

    -- a pair whose instances are equal is crossed only where the arguments are equal crosswise, and else equal place by place
    abbrev pub ObeysWay : ℕ × ℕ → Bool → Type 0
    ObeysWay p crossed =
        (f : OpId) (a b v w : ℕ) →
        IsOver c.table.nodes p.0 f (a ∷ b ∷ []) →
        IsOver c.table.nodes p.1 f (v ∷ w ∷ []) →
        MakesEqual p.0 p.1 →
        MeetsWay crossed a b v w

    -- the substitution obeys the split
    pub record ObeysSplit (split : Split) : Type 0 where
      -- two parts have one number just where their instances are equal
      pub numbers :
          (k l i j n m : ℕ) →
          StandBeside c.places.parts split.class_of k i n →
          StandBeside c.places.parts split.class_of l j m →
          (n ≡ m) ↔ MakesEqual i j
      pub all_numbers : length split.class_of ≡ length c.places.parts
      -- each part with a head has the one that its value asks for
      pub heads :
          (k i : ℕ) (h : Head) →
          StandBeside c.places.headed split.heads k i h →
          AsksFor (value_at d s c.table.nodes i) h
      pub all_heads : length split.heads ≡ length c.places.headed
      -- each pair of commutative nodes meets in its way
      pub swaps :
          (k : ℕ) (p : ℕ × ℕ) (crossed : Bool) →
          StandBeside c.places.pairs split.swaps k p crossed →
          ObeysWay p crossed
      pub all_swaps : length split.swaps ≡ length c.places.pairs
