-- What weights a text gives to the operators of a signature, and its first fault.
use Rattle.std.specs.Prelude.{◌≡◌, ◌≢◌, ◌⊎◌, ℕ, ◌+◌, List, [], ◌∷◌, ◌++◌, length, map, replicate, slice_get, Contains, Some, None}
use Rattle.std.specs.List.{AllByRecursion}
use Rattle.fvn_terms.specs.declared.plain.OpId.{OpId}
use Rattle.fvn_terms.specs.declared.declarations.Declarations.{Declarations}
use Rattle.fvn_signature.specs.Queries.{arity}
use Rattle.fvn_syntax.specs.declared.names.Names.{Names}
use Rattle.fvn_syntax.specs.Names.{op_named}
use Rattle.fvn_syntax.specs.Pieces.{Text}
use Rattle.fvn_problems.specs.declared.fault.ProblemFault.{ProblemFault}
use Rattle.fvn_problems.specs.declared.fault.ProblemFault.TheVariants.{UnknownName, Arity}
use Rattle.fvn_problems.specs.Faults.{IsFirstFault, ButForMemory}
use Rattle.fvn_weights.specs.declared.weights.Weight.{Weight}
use Rattle.fvn_weights.specs.declared.weights.Weights.{Weights}
use Rattle.fvn_weights_reading.specs.declared.entry.Entry.{Entry}
use Rattle.fvn_weights_reading.specs.Spelling.{number, IsWeightText}

-- the weight is what is written: the last number is its constant, those before it are its coefficients
abbrev pub IsWrittenWeight : Entry → Weight → Type 0
IsWrittenWeight e w = map (λ p. number p.text) e.numbers ≡ w.coefficients ++ (w.constant ∷ [])

-- each of so many arguments counts once, and nothing is added
abbrev pub plain_weight : ℕ → Weight
plain_weight n = record { coefficients = replicate n 1; constant = 0 }

module _ (d : Declarations) (names : Names) where
  -- the entry is of the operator
  abbrev pub IsOf : OpId → Entry → Type 0
  IsOf f e = op_named names e.name ≡ Some f

  -- and has a number for each of its arguments, and one more
  pub record IsFitting (e : Entry) (f : OpId) : Type 0 where
    pub named : IsOf f e
    pub count : length e.numbers ≡ arity d f + 1

  -- the first fault of an entry: no operator has its name, or it has too few or too many numbers
  pub data IsEntryFault (e : Entry) (fault : ProblemFault) : Type 0 where
    no_operator : op_named names e.name ≡ None → fault ≡ UnknownName → IsEntryFault e fault
    other_count : (f : OpId) → IsOf f e → length e.numbers ≢ arity d f + 1 → fault ≡ Arity → IsEntryFault e fault

  -- the first fault of entries, from left to right
  abbrev pub IsEntriesFault : List Entry → ProblemFault → Type 0
  IsEntriesFault [] fault = ⊥
  IsEntriesFault (e ∷ es) fault = IsEntryFault e fault ⊎ ((f : OpId) × (IsFitting e f × IsEntriesFault es fault))

  -- each entry fits an operator
  abbrev pub AreFitting : List Entry → Type 0
  AreFitting [] = Unit {0}
  AreFitting (e ∷ es) = ((f : OpId) × IsFitting e f) × AreFitting es

  -- the weight of an operator is what is written of it, or else the plain one
  pub record IsWeightOf (es : List Entry) (f : OpId) (w : Weight) : Type 0 where
    pub written : (e : Entry) → Contains es e → IsOf f e → IsWrittenWeight e w
    pub plain : ((e : Entry) → Contains es e → IsOf f e → ⊥) → w ≡ plain_weight (arity d f)

  -- these are the weights of all operators, in their order
  pub record AreWeights (es : List Entry) (ws : List Weight) : Type 0 where
    pub count : length ws ≡ length d.ops
    pub each : (f : OpId) (w : Weight) → slice_get ws f.0 ≡ Some w → IsWeightOf es f w

module _ (d : Declarations) (names : Names) (bytes : Text) where
  -- In the signature and its names, the bytes are entries that give operators these weights.
  pub record IsWeights (ws : Weights) : Type 0 where
    pub entries : List Entry
    pub text : IsWeightText bytes entries
    pub fitting : AreFitting d names entries
    pub weights : AreWeights d names entries ws.list

  -- The bytes give no other weights.
  abbrev pub IsOnlyWeights : Weights → Type 0
  IsOnlyWeights ws = (other : Weights) → IsWeights other → other ≡ ws

  -- The first fault of the bytes as weights.
  abbrev pub RefusesWeights : ProblemFault → Type 0
  RefusesWeights = IsFirstFault (IsWeightText bytes) (IsEntriesFault d names) bytes

  -- But for want of memory, the bytes give no weights.
  abbrev pub HasNoWeights : ProblemFault → Type 0
  HasNoWeights = ButForMemory ((ws : Weights) → IsWeights ws → ⊥)
