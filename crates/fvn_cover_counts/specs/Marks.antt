-- Marks of a list of flat forms: words of facts, by which most coverings are refused before anything is compared.
use Rattle.std.specs.Prelude.{◌≡◌, ◌≢◌, ◌⊎◌, ◌↔◌, ◌<◌, ℕ, List, [], length, Contains, Some}
use Rattle.std.specs.Int.{bit_at}
use Rattle.fvn_terms.specs.declared.plain.Var.{Var}
use Rattle.fvn_terms.specs.declared.plain.OpId.{OpId}
use Rattle.fvn_terms.specs.declared.declarations.Declarations.{Declarations}
use Rattle.fvn_terms.specs.Signature.{axioms}
use Rattle.fvn_terms.specs.Equality.{identity}
use Rattle.fvn_forms.specs.Flat.{FlatTerm}
use Rattle.fvn_match.specs.Matching.{HasNoMatcher}
use Rattle.fvn_cover_counts.specs.declared.symbols.Symbol.TheVariants.{Variable, Operator}
use Rattle.fvn_cover_counts.specs.declared.marks.Unkept.{Unkept}
use Rattle.fvn_cover_counts.specs.declared.marks.Marks.{Marks}
use Rattle.fvn_cover_counts.specs.Places.{places}
use Rattle.fvn_cover_counts.specs.inner.Bits.{operator_bit, place_bit, pair_bit}

-- the word has the bit
abbrev pub Has : ℕ → ℕ → Type 0
Has word b = bit_at word b ≡ 1

-- an operator that has an identity, or that identity, falls on the bit
pub record IsUnkeptBit (d : Declarations) (b : ℕ) : Type 0 where
  pub operator : OpId
  pub constant : OpId
  pub has_identity : identity (axioms d operator) ≡ Some constant
  pub falls : (operator_bit operator ≡ b) ⊎ (operator_bit constant ≡ b)

-- the bits on which operators fall that the axioms do not keep
abbrev pub AreUnkept : Declarations → Unkept → Type 0
AreUnkept d out = (b : ℕ) → Has out.bits b ↔ IsUnkeptBit d b

-- What an instance keeps: an operator that is not left out stands in the form of this number, and this falls on the bit.
pub record KeepsOperator (out : Unkept) (ts : List FlatTerm) (b : ℕ) : Type 0 where
  pub operator : OpId
  pub place : ℕ
  pub counted : Has out.bits (operator_bit operator) → ⊥
  pub stands : Contains (places (Operator operator) ts) place
  pub falls : place_bit operator place ≡ b

-- What an instance cannot gain: a variable stands in forms of these two numbers alone, and this falls on the bit.
pub record HasVariableAlone (ts : List FlatTerm) (b : ℕ) : Type 0 where
  pub variable : Var
  pub first : ℕ
  pub second : ℕ
  pub first_known : first < length ts
  pub second_known : second < length ts
  pub stands : places (Variable variable) ts ≢ []
  pub alone : (p : ℕ) → Contains (places (Variable variable) ts) p → (p ≡ first) ⊎ (p ≡ second)
  pub falls : pair_bit first second ≡ b

-- these facts hold of the forms, and their bits are set, and no others
pub record AreMarks (ts : List FlatTerm) (m : Marks) : Type 0 where
  pub up : (b : ℕ) → Has m.up b ↔ KeepsOperator m.out ts b
  pub down : (b : ℕ) → Has m.down b ↔ HasVariableAlone ts b

-- each bit of the first word is one of the second
abbrev pub IsWithin : ℕ → ℕ → Type 0
IsWithin v w = (b : ℕ) → Has v b → Has w b

-- the second have what the first have and an instance keeps, and the first what the second have and it cannot gain
abbrev pub IsBelow : Marks → Marks → Type 0
IsBelow m n = IsWithin m.up n.up × IsWithin n.down m.down

module _ (out : Unkept) (m n : Marks) where
  -- What marks ask where forms with the first are to match forms with the second, if both leave out the same operators:
  -- the second have what the first have and an instance keeps, and the first what the second have and it cannot gain.
  abbrev pub MarksAllow : Type 0
  MarksAllow = m.out ≡ out → n.out ≡ out → IsWithin m.up n.up × IsWithin n.down m.down

  -- where just the operators that the axioms keep are counted, forms with the second marks are matched by none with the first
  abbrev pub NeverMatchMarked : Type 0
  NeverMatchMarked = (d : Declarations) (ts us : List FlatTerm) → AreUnkept d out → AreMarks ts m → AreMarks us n → HasNoMatcher d ts us

-- forms with either of these marks are matched by none with the other
abbrev pub RefuseEachOther : Unkept → Marks → Marks → Type 0
RefuseEachOther out m n = NeverMatchMarked out m n × NeverMatchMarked out n m
