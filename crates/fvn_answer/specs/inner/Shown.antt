-- What the program prints, and the order of its variables.
use Rattle.std.specs.Prelude.{ℕ, ◌≡◌, ◌<◌, ◌≤◌, ◌^◌, List, Option, Some, None, length, All, Contains, slice_index_or}
use Rattle.std.specs.Global.{Vec}
use Rattle.fvn_base.specs.Order.{IsBefore}
use Rattle.fvn_terms.specs.declared.plain.Var.{Var}
use Rattle.fvn_terms.specs.declared.declarations.Declarations.{Declarations}
use Rattle.fvn_forms.specs.Flat.{fpack}
use Rattle.fvn_flat.specs.Bindings.{Bindings, value}
use Rattle.fvn_flat.specs.Variables.{with_all_variables}
use Rattle.fvn_syntax.specs.declared.names.Names.{Names}
use Rattle.fvn_syntax.specs.Pieces.{Text}
use Rattle.fvn_problems.specs.Variables.{IsNamed}
use Rattle.fvn_answer.specs.declared.printed.Printed.{Printed}
use Rattle.fvn_answer.specs.declared.printed.Printed.TheVariants.{Alone, Values, Variant}
use Rattle.fvn_answer.specs.Numberings.{IsNumbering}
use Rattle.fvn_answer.specs.Writing.{text_of, sorted, written}
use Rattle.fvn_answer.specs.Lines.{Shown, alone, values, variant, forms_of, forms_in, values_of, asked_name, text, IsTextOf}
use Rattle.fvn_answer.specs.inner.Bytes.{IsPrintable}
use Rattle.fvn_answer.specs.inner.Fronts.{IsAtMost}

-- what is printed
abbrev pub shown : Printed → Shown
shown (Alone t) = alone t.now
shown (Values s vars) = values (values_of s.now vars.now)
shown (Variant t s vars) = variant t.now (values_of s.now vars.now)

-- the variables of the values of these variables, after those that are there
abbrev pub with_values : Bindings → List Var → List Var → List Var
with_values s xs vars = with_all_variables (fpack (forms_of (values_of s xs))) vars

module _ (d : Declarations) (texts : List Text) where
  -- the variables have names, and their values can be printed
  abbrev pub HavePrintable : Bindings → List Var → Type 0
  HavePrintable s vars = All (λ x. IsNamed d texts x × IsPrintable d (value s x)) vars

  -- all that is printed can be printed
  abbrev pub CanPrint : Printed → Type 0
  CanPrint (Alone t) = IsPrintable d t.now
  CanPrint (Values s vars) = HavePrintable s.now vars.now
  CanPrint (Variant t s vars) = IsPrintable d t.now × HavePrintable s.now vars.now

  module _ (names : Names) where
    -- the text of a variable and that of its value
    abbrev pub value_texts : List Var → Bindings → Var → Text × Text
    value_texts order s x =
        (text_of (sorted d names (asked_name d names texts x) x.sort), text_of (written d names order (value s x)))

    -- other is a numbering that begins as the order does, up to k
    pub record BeginsAs (it : Shown) (order : List Var) (k : ℕ) (other : List Var) : Type 0 where
      pub numbering : IsNumbering (forms_in it) other
      pub alike : (i : ℕ) (x : Var) → i < k → slice_index_or other i x ≡ slice_index_or order i x

    -- a numbering that begins as the order does, up to k, and has at k one of the tips, which the order has before i
    pub record Tried (it : Shown) (order : List Var) (k i : ℕ) (tips other : List Var) : Type 0 where
      pub begins : BeginsAs it order k other
      pub place : ℕ
      pub from : k ≤ place
      pub upto : place < i
      pub next : (x : Var) → slice_index_or other k x ≡ slice_index_or order place x
      pub tip : (x : Var) → Contains tips (slice_index_or order place x)

    -- w is the text under some numbering
    pub record IsTextOfSome (it : Shown) (w : Text) : Type 0 where
      pub order : List Var
      pub numbering : IsNumbering (forms_in it) order
      pub text_is : w ≡ text d names texts order it

    -- w is the text under some numbering, and no text under a numbering stands before it
    pub record IsLeastText (it : Shown) (w : Text) : Type 0 where
      pub one : IsTextOfSome it w
      pub least : (other : List Var) → IsNumbering (forms_in it) other → IsBefore (text d names texts other it) w → ⊥

    -- the best text, if there is one, is that under some numbering
    abbrev pub IsBestText : Shown → Option (Vec ℕ) → Type 0
    IsBestText it None = Unit {0}
    IsBestText it (Some line) = IsTextOfSome it line.items

    -- After a search of the numberings that begin as the order does, up to k, none of their texts stands before the
    -- best one, and no text that did not stand before the best one does so now.
    pub record IsSearched (it : Shown) (order : List Var) (k : ℕ) (old new : Option (Vec ℕ)) : Type 0 where
      pub one : IsBestText it new
      pub keeps : (w : Text) → IsAtMost old w → IsAtMost new w
      pub most : (other : List Var) → BeginsAs it order k other → IsAtMost new (text d names texts other it)

    -- So it is of the numberings that begin as the order does, up to k, and go on with one of the tips.
    pub record AreSearched (it : Shown) (order : List Var) (k : ℕ) (tips : List Var) (old new : Option (Vec ℕ)) : Type 0 where
      pub one : IsBestText it new
      pub keeps : (w : Text) → IsAtMost old w → IsAtMost new w
      pub most : (other : List Var) (x : Var) → BeginsAs it order k other → Contains tips (slice_index_or other k x) →
          IsAtMost new (text d names texts other it)

    -- w is the text of what is printed, and there are not more variables than numbers
    pub record IsNumberedText (it : Shown) (w : Text) : Type 0 where
      pub text_of_it : IsTextOf d names texts it w
      pub few : length text_of_it.order < 2 ^ 64
