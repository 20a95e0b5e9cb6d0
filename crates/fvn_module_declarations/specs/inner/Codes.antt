-- Declarations as texts.
use Rattle.std.specs.Prelude.{ℕ, ◌/◌, ◌%◌, Bool, true, false, List, [], ◌∷◌, ◌++◌}
use Rattle.fvn_terms.specs.declared.plain.SortId.{SortId}
use Rattle.fvn_terms.specs.declared.declarations.Axioms.{Axioms}
use Rattle.fvn_terms.specs.declared.declarations.Axioms.TheVariants.{Free, Comm, AssocComm, AssocCommId}
use Rattle.fvn_signature_draft.specs.declared.collected.Declaration.{Declaration}
use Rattle.fvn_syntax.specs.Pieces.{Text}

-- a number as two bytes
abbrev pub number_code : ℕ → Text
number_code n = n / 256 ∷ n % 256 ∷ []

-- the codes of sorts, one after the other
abbrev pub sorts_code : List SortId → Text
sorts_code [] = []
sorts_code (s ∷ ss) = number_code s.0 ++ sorts_code ss

-- whether a declaration is partial, as a byte
abbrev pub partial_code : Bool → ℕ
partial_code true = 1
partial_code false = 0

-- axioms as a byte, and the code of the identity or of 0
abbrev pub axioms_code : Axioms → Text
axioms_code Free = 0 ∷ number_code 0
axioms_code Comm = 1 ∷ number_code 0
axioms_code AssocComm = 2 ∷ number_code 0
axioms_code (AssocCommId e) = 3 ∷ number_code e.0

-- a declaration as a text, from which it can be told
abbrev pub code : Declaration → Text
code d = partial_code d.partial ∷ (number_code d.op.0 ++ (axioms_code d.axioms ++ (number_code d.rank.result.0 ++ sorts_code d.rank.args)))
