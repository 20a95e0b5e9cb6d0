-- Variables whose numbers can be exchanged: which of the two texts stands before the other.
use Rattle.std.specs.Prelude.{ℕ, ◌≡◌, ◌≢◌, ◌≤◌, ◌<◌, ◌⊎◌, ◌+◌, Bool, true, false, if◌then◌else◌, Option, Some, None, List, [], ◌∷◌, length, Contains, slice_index_or}
use Rattle.std.specs.Option.{is_some}
use Rattle.fvn_terms.specs.declared.plain.Var.{Var}
use Rattle.fvn_terms.specs.declared.declarations.Declarations.{Declarations}
use Rattle.fvn_terms.specs.Substitution.{same_var}
use Rattle.fvn_forms.specs.Flat.{FlatTerm}
use Rattle.fvn_flat.specs.Bindings.{Bindings, value}
use Rattle.fvn_flat.specs.Forms.{variable_of}
use Rattle.fvn_syntax.specs.declared.names.Names.{Names}
use Rattle.fvn_syntax.specs.Pieces.{Text}
use Rattle.fvn_answer.specs.declared.printed.Printed.{Printed}
use Rattle.fvn_answer.specs.declared.printed.Printed.TheVariants.{Alone, Values, Variant}
use Rattle.fvn_answer.specs.Numberings.{number}
use Rattle.fvn_answer.specs.Writing.{text_of, written}
use Rattle.fvn_answer.specs.Lines.{text}
use Rattle.fvn_answer.specs.inner.Readable.{AreReadable}
use Rattle.fvn_answer.specs.inner.Bytes.{IsPrintable}
use Rattle.fvn_answer.specs.inner.Fronts.{AtLeast}
use Rattle.fvn_answer.specs.inner.Shown.{shown, CanPrint}

-- The variables have one sort, the other order has their numbers exchanged, and all other variables have theirs.
pub record AreExchanged (x y : Var) (order other : List Var) : Type 0 where
  pub sort : x.sort ≡ y.sort
  pub first : number other x ≡ number order y
  pub second : number other y ≡ number order x
  pub same : (z : Var) → z ≢ x → z ≢ y → number other z ≡ number order z

-- The numbers of x and y are exchanged, of which x had the lesser one. No number has two digits.
pub record AreRaised (x y : Var) (order other : List Var) : Type 0 where
  pub exchanged : AreExchanged x y order other
  pub some : 0 < number order x
  pub lesser : number order x < number order y
  pub few : (z : Var) → number other z < 10

-- the second text has more at a byte up to which the two are one
abbrev pub Rises : Text → Text → Type 0
Rises [] w = ⊥
Rises (a ∷ v) [] = ⊥
Rises (a ∷ v) (b ∷ w) = (a < b) ⊎ ((a ≡ b) × Rises v w)

-- whether the variable is x
abbrev pub is_here : Var → Option Var → Bool
is_here x None = false
is_here x (Some z) = same_var z x

-- how often the variable is one of the forms
abbrev pub times : Var → List FlatTerm → ℕ
times x [] = 0
times x (t ∷ ts) = (if is_here x (variable_of t) then 1 else 0) + times x ts

module _ (d : Declarations) (x y : Var) where
  -- exchanging the numbers of the two variables leaves the text of the form as it is
  abbrev pub KeepsText : FlatTerm → Type 0
  KeepsText t = (names : Names) → AreReadable d names → IsPrintable d t → (order other : List Var) → AreExchanged x y order other →
      text_of (written d names other t) ≡ text_of (written d names order t)

  -- so it is of an argument, or it is a variable among arguments that may be exchanged
  abbrev pub KeepsArgument : (exchange : Bool) → FlatTerm → Type 0
  KeepsArgument exchange t = ((exchange ≡ true) × (is_some (variable_of t) ≡ true)) ⊎ KeepsText t

  -- so it is of the values of these variables
  abbrev pub KeepsTexts : Bindings → List Var → Type 0
  KeepsTexts s vars = (z : Var) → Contains vars z → KeepsText (value s z)

  -- giving x the greater one of the two numbers raises the text of the form
  abbrev pub RaisesText : FlatTerm → Type 0
  RaisesText t = (names : Names) → AreReadable d names → IsPrintable d t → (order other : List Var) → AreRaised x y order other →
      Rises (text_of (written d names order t)) (text_of (written d names other t))

  -- it raises the first of the texts of the values of these variables that it does not leave as it is
  pub record RaisesFirst (s : Bindings) (vars : List Var) : Type 0 where
    pub place : ℕ
    pub within : place < length vars
    pub kept : (i : ℕ) (v : Var) → i < place → KeepsText (value s (slice_index_or vars i v))
    pub raised : (v : Var) → RaisesText (value s (slice_index_or vars place v))

  -- it leaves the text of the form as it is, or raises it
  abbrev pub LowersNot : FlatTerm → Type 0
  LowersNot t = KeepsText t ⊎ RaisesText t

  -- it leaves the texts of the values of these variables as they are, or raises the first that it does not
  abbrev pub LowersNone : Bindings → List Var → Type 0
  LowersNone s vars = KeepsTexts s vars ⊎ RaisesFirst s vars

  -- it lowers no text of what is printed before it raises one
  abbrev pub LowersNoPrinted : Printed → Type 0
  LowersNoPrinted (Alone t) = LowersNot t.now
  LowersNoPrinted (Values s vars) = LowersNone s.now vars.now
  LowersNoPrinted (Variant t s vars) = RaisesText t.now ⊎ (KeepsText t.now × LowersNone s.now vars.now)

-- The variables have one sort, and where x has the lesser one of their numbers, exchanging these makes no text of what
-- is printed that stands before.
pub record GoesFirst (d : Declarations) (printed : Printed) (x y : Var) : Type 0 where
  pub sort : x.sort ≡ y.sort
  pub least : (names : Names) (texts : List Text) → AreReadable d names → CanPrint d texts printed →
      (order other : List Var) → AreRaised x y order other →
      AtLeast (text d names texts order (shown printed)) (text d names texts other (shown printed))

-- one of the tips stands in the order from k on and before j, and goes before x
pub record HasFirst (d : Declarations) (printed : Printed) (order : List Var) (k j : ℕ) (tips : List Var) (x : Var) : Type 0 where
  pub place : ℕ
  pub from : k ≤ place
  pub upto : place < j
  pub tip : (y : Var) → Contains tips (slice_index_or order place y)
  pub first : (y : Var) → GoesFirst d printed (slice_index_or order place y) x

-- the variable at j is no tip, or one among those before it goes before it
abbrev pub IsPassedOver : Declarations → Printed → List Var → ℕ → ℕ → List Var → Type 0
IsPassedOver d printed order k j tips = (x : Var) → Contains tips (slice_index_or order j x) →
    HasFirst d printed order k j tips (slice_index_or order j x)

-- the variable at k goes before each of those that stand behind it and before j
abbrev pub LeadsUpTo : Declarations → Printed → List Var → ℕ → ℕ → Type 0
LeadsUpTo d printed order k j = (i : ℕ) (x y : Var) → k < i → i < j → GoesFirst d printed (slice_index_or order k x) (slice_index_or order i y)
