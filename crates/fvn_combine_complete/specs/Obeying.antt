-- Values that go with a leaf, and operators that are noted, and tags, which they obey.
use Rattle.std.specs.Prelude.{◌≡◌, ◌≢◌, ◌⊎◌, ℕ, ◌<◌, true, List, [], ◌∷◌, length, Option, Some}
use Rattle.fvn_terms.specs.declared.plain.OpId.{OpId}
use Rattle.fvn_terms.specs.declared.declarations.Declarations.{Declarations}
use Rattle.fvn_terms.specs.Signature.{axioms}
use Rattle.fvn_terms.specs.Equality.{identity}
use Rattle.fvn_forms.specs.Flat.{FlatTerm, FlatTerms, fapp, fconstant}
use Rattle.fvn_combine_nodes.specs.Table.{NodeTable, IsOver}
use Rattle.fvn_combine_nodes.specs.States.{class_of, is_apart}
use Rattle.fvn_combine_nodes.specs.declared.state.State.{State}
use Rattle.fvn_combine_systems.specs.Values.{AreValues}
use Rattle.fvn_lindio.specs.declared.system.System.{System}
use Rattle.fvn_lindio.specs.Systems.{IsMinimal, rows_of}
use Rattle.fvn_flat.specs.SolvedLists.{component}
use Rattle.fvn_combine_systems.specs.NodeSystems.{IsNodeSystem}
use Rattle.fvn_combine_leaves.specs.Leaves.{IsSolid, IsSingle, Uses, IsShared, AreTouched, IsNotedSum, HasRoom}
use Rattle.fvn_combine_choices.specs.Binding.{IsConstant}
use Rattle.fvn_combine_complete.specs.Neutral.{IsNeutral}

-- of each class it is told whether an operator without an identity heads a member, and whether an operator other than a given one uses it
pub record IsTold (d : Declarations) (t : NodeTable) (class : ℕ → ℕ) : Type 0 where
  pub heads : (k : ℕ) → ((g : OpId) × IsSolid d t class g k) ⊎ ((g : OpId) → IsSolid d t class g k → ⊥)
  pub users : (f : OpId) (k : ℕ) → ((g : OpId) × (g ≢ f) × Uses d t class g k) ⊎ ((g : OpId) → Uses d t class g k → g ≡ f)

-- values of the classes of a state that go with the nodes, and differ where it keeps apart
pub record GoWith (d : Declarations) (t : NodeTable) (s : State) (values : ℕ → FlatTerm) : Type 0 where
  pub are : AreValues d t (class_of s) values
  pub differ : (i j : ℕ) → i < length t.nodes → j < length t.nodes → is_apart s i j ≡ true → values (class_of s i) ≢ values (class_of s j)

-- the form is a sum of f
abbrev pub IsSumOf : OpId → FlatTerm → Type 0
IsSumOf f v = (ts : FlatTerms) × (v ≡ fapp f true ts)

-- the form is a sum of f, or f's identity
abbrev pub IsSumOrIdentityOf : Declarations → OpId → FlatTerm → Type 0
IsSumOrIdentityOf d f v = IsSumOf f v ⊎ ((e : OpId) × (identity (axioms d f) ≡ Some e) × (v ≡ fconstant e))

module _ (d : Declarations) (t : NodeTable) (class : ℕ → ℕ) where
  -- no operator that uses class k, but f, makes the form a sum, or has it as its identity
  abbrev pub IsOfNoOther : OpId → ℕ → FlatTerm → Type 0
  IsOfNoOther f k v = (g : OpId) → g ≢ f → Uses d t class g k → IsSumOrIdentityOf d g v → ⊥

module _ (d : Declarations) (t : NodeTable) (s : State) (heads : List (Option OpId)) where
  -- f is a label of class k: its identity leaves sorts alone, the class has room for it, and no other operator that uses the class makes the value
  -- a sum
  pub record IsLabel (f : OpId) (k : ℕ) (v : FlatTerm) : Type 0 where
    pub neutral : IsNeutral d f
    pub room : HasRoom d t heads s f k
    pub other : IsOfNoOther d t (class_of s) f k v

  -- where an operator with an identity is noted of a class, the value is a sum of it, or the operator is a label
  abbrev pub ObeyHeads : (ℕ → FlatTerm) → Type 0
  ObeyHeads values = (k : ℕ) (f : OpId) → k < length t.nodes → IsNotedSum d t heads f k
      → IsSumOf f (values k) ⊎ IsLabel f k (values k)

module _ (d : Declarations) (t : NodeTable) (class : ℕ → ℕ) (tag : ℕ → Option OpId) (values : ℕ → FlatTerm) where
  -- a minimal solution of f's sum system has class z, and no constant of f
  pub record IsBare (f : OpId) (z : ℕ) : Type 0 where
    pub columns : List ℕ
    pub system : System
    pub is : IsNodeSystem t class f columns system
    pub solution : List ℕ
    pub minimal : IsMinimal system.columns (rows_of system) solution
    pub has : 0 < component columns solution z
    pub free : (l : ℕ) → IsConstant d t class tag f l → component columns solution l ≡ 0

  -- the single summands of f that a solution has, one part a column, have one value
  abbrev pub HasOneValue : OpId → (columns solution : List ℕ) → Type 0
  HasOneValue f columns solution = (k l : ℕ) → IsSingle d t class f k → IsSingle d t class f l
      → 0 < component columns solution k → 0 < component columns solution l → values k ≡ values l

  -- Class k is taken as a sum of f, though its value is one summand: no operator that uses the class makes it a sum. The identity of f leaves
  -- sorts alone, f heads a member, and each class that it adds is a constant, or a minimal solution without a constant has it. A shared constant
  -- that is in a minimal solution with k whose single summands have one value, and is taken as a sum too, differs.
  pub record IsTakenAsSum (f : OpId) (k : ℕ) : Type 0 where
    pub neutral : IsNeutral d f
    pub one : (g : OpId) → Uses d t class g k → IsSumOrIdentityOf d g (values k) → ⊥
    pub member : ℕ
    pub left : ℕ
    pub right : ℕ
    pub over : IsOver t.nodes member f (left ∷ right ∷ [])
    pub of : class member ≡ k
    pub left_taken : IsConstant d t class tag f (class left) ⊎ IsBare f (class left)
    pub right_taken : IsConstant d t class tag f (class right) ⊎ IsBare f (class right)
    pub differ : (l : ℕ) (g : OpId) → IsConstant d t class tag f l → IsShared d t class l → tag l ≡ Some g → (IsSumOrIdentityOf d g (values l) → ⊥)
        → (both : AreTouched d t class f k l) → HasOneValue f both.columns both.solution → values l ≢ values k

  -- f is the tag of class k where the value is a sum of it, or its identity; and where it is the tag, this holds, or the class is taken as a sum
  pub record ObeysTag (k : ℕ) (f : OpId) : Type 0 where
    pub found : IsSumOrIdentityOf d f (values k) → tag k ≡ Some f
    pub meant : tag k ≡ Some f → IsSumOrIdentityOf d f (values k) ⊎ IsTakenAsSum f k

  -- each shared class obeys its tag, by each operator that uses it
  abbrev pub ObeyTags : Type 0
  ObeyTags = (k : ℕ) (f : OpId) → IsShared d t class k → Uses d t class f k → ObeysTag k f

  -- f is the tag of class k where it is noted; and where it is the tag, it is noted, or the value is a sum of it, or its identity
  pub record FollowsHeads (heads : List (Option OpId)) (k : ℕ) (f : OpId) : Type 0 where
    pub noted : IsNotedSum d t heads f k → tag k ≡ Some f
    pub meant : tag k ≡ Some f → IsSumOrIdentityOf d f (values k) ⊎ IsNotedSum d t heads f k

  -- the tag of each shared class follows what is noted of it, by each operator that uses it
  abbrev pub TagsFollow : List (Option OpId) → Type 0
  TagsFollow heads = (k : ℕ) (f : OpId) → IsShared d t class k → Uses d t class f k → FollowsHeads heads k f
