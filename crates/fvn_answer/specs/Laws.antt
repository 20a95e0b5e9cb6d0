-- What is proved of all lines.
use Rattle.std.specs.Prelude.{◌≡◌, List, [], ◌∷◌, Contains}
use Rattle.fvn_terms.specs.declared.plain.Var.{Var}
use Rattle.fvn_terms.specs.declared.declarations.Declarations.{Declarations}
use Rattle.fvn_terms.specs.Term.{Term}
use Rattle.fvn_terms.specs.Substitution.{Substitution}
use Rattle.fvn_terms.specs.Unifiers.{IsInstance}
use Rattle.fvn_terms.specs.Variants.{Covers}
use Rattle.fvn_syntax.specs.declared.names.Names.{Names}
use Rattle.fvn_syntax.specs.Pieces.{Text}
use Rattle.fvn_answer.specs.Denoting.{Denotes, DenotesVariant, Reads, ReadsVariant}

-- A line denotes one substitution on the variables.
abbrev pub LinesDenoteOneSubstitution : Type 0
LinesDenoteOneSubstitution =
    (d : Declarations) (names : Names) (texts : List Text) (vars : List Var) (line : Text) (s r : Substitution) →
    Denotes d names texts vars line s → Denotes d names texts vars line r →
    (x : Var) → Contains vars x → s x ≡ r x

-- A line denotes one variant.
abbrev pub LinesDenoteOneVariant : Type 0
LinesDenoteOneVariant =
    (d : Declarations) (names : Names) (texts : List Text) (vars : List Var) (line : Text) (t u : Term) (s r : Substitution) →
    DenotesVariant d names texts vars line t s → DenotesVariant d names texts vars line u r →
    (t ≡ u) × ((x : Var) → Contains vars x → s x ≡ r x)

-- Substitutions with one line are instances of each other, so that those that are not have different lines.
abbrev pub EqualLinesAreInstances : Type 0
EqualLinesAreInstances =
    (d : Declarations) (names : Names) (texts : List Text) (vars : List Var) (line : Text) (s r : Substitution) →
    Reads d names texts vars line s → Reads d names texts vars line r → IsInstance d vars s r

-- Variants with one line cover each other, so that those that do not have different lines.
abbrev pub EqualLinesCover : Type 0
EqualLinesCover =
    (d : Declarations) (names : Names) (texts : List Text) (vars : List Var) (line : Text) (t u : Term) (s r : Substitution) →
    ReadsVariant d names texts vars line t s → ReadsVariant d names texts vars line u r →
    Covers d vars (t ∷ []) s (u ∷ []) r
