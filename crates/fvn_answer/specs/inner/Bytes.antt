-- Texts byte by byte, as the code makes them.
use Rattle.std.specs.Prelude.{ℕ, ◌<◌, Bool, true, false, if◌then◌else◌, List, [], ◌∷◌, ◌++◌, length, codes}
use Rattle.fvn_lex.specs.Parts.{is_quoted_after}
use Rattle.fvn_lex.specs.Join.{space}
use Rattle.fvn_terms.specs.declared.declarations.Axioms.{Axioms}
use Rattle.fvn_terms.specs.declared.declarations.Declarations.{Declarations}
use Rattle.fvn_terms.specs.Signature.{IsSort}
use Rattle.fvn_forms.specs.Flat.{FlatTerm, FlatTerms, fvar, fapp, fnone, fmore}
use Rattle.fvn_syntax.specs.Pieces.{Text}
use Rattle.fvn_terms.specs.Equality.{is_commutative}
use Rattle.fvn_answer.specs.Writing.{is_after}

-- the text goes on with a special byte; after a backquote one space stands between
abbrev pub beside : Text → ℕ → Text
beside text special = text ++ (space (is_quoted_after false text) ++ special ∷ [])

-- texts, each after a special byte, which is a comma from the second on
abbrev pub with_each : ℕ → Text → List Text → Text
with_each special text [] = text
with_each special text (t ∷ ts) = with_each 44 (beside text special ++ t) ts

-- a name, and in parentheses the texts of arguments where there are any
abbrev pub over_texts : Text → List Text → Text
over_texts w [] = w
over_texts w (t ∷ ts) = beside (with_each 40 w (t ∷ ts)) 41

-- the texts with t put before the first one that it does not stand after
abbrev pub put_text : Text → List Text → List Text
put_text t [] = t ∷ []
put_text t (u ∷ us) = if is_after t u then u ∷ put_text t us else t ∷ u ∷ us

-- the texts in byte order
abbrev pub sorted_texts : List Text → List Text
sorted_texts [] = []
sorted_texts (t ∷ ts) = put_text t (sorted_texts ts)

-- the texts of an operator's arguments: in byte order where they may be exchanged
abbrev pub arranged_texts : Axioms → List Text → List Text
arranged_texts a ts = if is_commutative a then sorted_texts ts else ts

-- a variable's text, an arrow and the text of its value
abbrev pub pair_text : Text × Text → Text
pair_text p = p.0 ++ (codes " --> " ++ p.1)

-- what stands before a binding: nothing before the first, a comma and a space before each later one
abbrev pub between : (first : Bool) → Text → Text
between true text = text
between false text = beside text 44 ++ 32 ∷ []

-- bindings, of which the first is the first of all or not
abbrev pub with_pairs : (first : Bool) → Text → List (Text × Text) → Text
with_pairs first text [] = text
with_pairs first text (p ∷ ps) = with_pairs false (between first text ++ pair_text p) ps

module _ (d : Declarations) where
  abbrev mutual
    -- each operator of the form is declared, and each of its variables has a sort of the signature
    pub IsPrintable : FlatTerm → Type 0
    IsPrintable (fvar x) = IsSort d x.sort
    IsPrintable (fapp f joined ts) = (f.0 < length d.ops) × ArePrintable ts

    -- so it is in each of these forms
    pub ArePrintable : FlatTerms → Type 0
    ArePrintable fnone = Unit {0}
    ArePrintable (fmore t ts) = IsPrintable t × ArePrintable ts
