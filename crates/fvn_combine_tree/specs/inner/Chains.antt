-- Chains of nodes with one key.
use Rattle.std.specs.Prelude.{◌≡◌, ℕ, ◌+◌, ◌*◌, ◌%◌, ◌<◌, List, [], ◌∷◌, length, slice_index}
use Rattle.fvn_terms.specs.declared.plain.OpId.{OpId}
use Rattle.fvn_combine_nodes.specs.Table.{IsOver}
use Rattle.fvn_combine_nodes.specs.declared.table.Node.{Node}
use Rattle.fvn_combine_tree.specs.declared.chains.By.{By}
use Rattle.fvn_combine_tree.specs.declared.chains.By.TheVariants.{Class, Arguments}
use Rattle.fvn_combine_tree.specs.declared.chains.Chains.{Chains}

-- there is room for n nodes
pub record HasRoom (n : ℕ) (c : Chains) : Type 0 where
  pub keys : length c.keys.items ≡ n
  pub last : length c.last.items ≡ n
  pub before : length c.before.items ≡ n

-- all nodes before node i that have its key stand below the number that is noted for it
abbrev pub IsChained : (n : ℕ) → (keys before : List ℕ) → Type 0
IsChained n keys before = (i j : ℕ) → i < n → j < i → slice_index keys j ≡ slice_index keys i → j < slice_index before i

-- all nodes before node j that have the key of node i stand below the number
abbrev pub IsEndFor : (keys : List ℕ) → (i j end : ℕ) → Type 0
IsEndFor keys i j end = (m : ℕ) → m < j → slice_index keys m ≡ slice_index keys i → m < end

-- a key and one more number
abbrev pub mixed : (key number : ℕ) → ℕ
mixed key number = key % 4294967296 * 31 + number % 4294967296

-- a key and the classes of these nodes
abbrev pub mixed_all : (ℕ → ℕ) → ℕ → List ℕ → ℕ
mixed_all class key [] = key
mixed_all class key (k ∷ ks) = mixed_all class (mixed key (class k)) ks

-- the key of node i, which is f over ks
abbrev pub key_of : (names : List ℕ) → By → ℕ → OpId → List ℕ → ℕ
key_of names Class i f ks = slice_index names i
key_of names Arguments i f ks = mixed_all (slice_index names) f.0 ks % length names

-- the keys of nodes that are no variables
abbrev pub AreKeys : List Node → (names : List ℕ) → By → List ℕ → Type 0
AreKeys nodes names by keys = (i : ℕ) (f : OpId) (ks : List ℕ) → IsOver nodes i f ks → slice_index keys i ≡ key_of names by i f ks
