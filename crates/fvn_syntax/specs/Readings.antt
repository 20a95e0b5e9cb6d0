-- What is answered for a written term.
use Rattle.std.specs.Prelude.{ℕ, ◌≡◌, ◌≤◌, ◌+◌, ◌-◌, ◌^◌, min, List, Ok, Err}
use Rattle.fvn_lex.specs.Cut.{Piece}
use Rattle.fvn_terms.specs.Term.{nodes}
use Rattle.fvn_terms.specs.Plain.{term}
use Rattle.fvn_syntax.specs.declared.fault.TermFault.{TermFault}
use Rattle.fvn_syntax.specs.declared.seen.Seen.{Seen}
use Rattle.fvn_syntax.specs.declared.seen.Kinded.{Kinded}
use Rattle.fvn_syntax.specs.Pieces.{Text}
use Rattle.fvn_syntax.specs.Raw.{RawTerm, spell, IsWritten}
use Rattle.fvn_syntax.specs.Scope.{Scope}
use Rattle.fvn_syntax.specs.Resolve.{Resolved, resolve}

-- the sum, or the greatest number
abbrev pub sum_or_most : ℕ → ℕ → ℕ
sum_or_most a b = min (a + b) (2 ^ 64 - 1)

-- In the scope, and after what was seen before, the written term stands for what was read: its kind, the names of
-- the variables and the number of symbols are told in any case, the term only within the limit of symbols.
pub record IsReadAs (c : Scope) (limit : ℕ) (before : Seen) (t : RawTerm) (read : Kinded × Seen) : Type 0 where
  pub resolved : Resolved
  pub stands : resolve c before.texts t ≡ Ok resolved
  pub kind : read.0.kind ≡ resolved.kind
  pub texts : read.1.texts ≡ resolved.texts
  pub count : read.1.count ≡ sum_or_most before.count (nodes (term resolved.term))
  pub built : read.1.count ≤ limit → read.0.term ≡ resolved.term

-- each written term of these pieces stands for what was read
abbrev pub Reads : Scope → (limit : ℕ) → Seen → List Piece → Kinded × Seen → Type 0
Reads c limit before row read = (t : RawTerm) → IsWritten t → row ≡ spell t → IsReadAs c limit before t read

-- the fault is the first of each written term of these pieces
abbrev pub Refuses : Scope → List Text → List Piece → TermFault → Type 0
Refuses c texts row fault = (t : RawTerm) → IsWritten t → row ≡ spell t → resolve c texts t ≡ Err fault
