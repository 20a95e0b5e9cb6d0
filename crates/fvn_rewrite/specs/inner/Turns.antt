-- What comes of one turn.
use Rattle.std.specs.Prelude.{◌≤◌, ◌<◌, ℕ}
use Rattle.fvn_terms.specs.declared.declarations.Declarations.{Declarations}
use Rattle.fvn_terms.specs.Theory.{Equations}
use Rattle.fvn_forms.specs.Flat.{FlatTerm}
use Rattle.fvn_rewrite.specs.declared.normalising.Turn.{Turn}
use Rattle.fvn_rewrite.specs.declared.normalising.Turn.TheVariants.{Large, Irreducible, Next}
use Rattle.fvn_rewrite_laws.specs.Normalised.{counted, IsNormalForm}
use Rattle.fvn_rewrite.specs.inner.Walking.{IsNext}

-- the form is too large, or irreducible, or one step leads on
abbrev pub TurnAs : Declarations → Equations → FlatTerm → ℕ → Turn → Type 0
TurnAs d equations t size Large = size < counted t
TurnAs d equations t size Irreducible = (counted t ≤ size) × IsNormalForm d equations t
TurnAs d equations t size (Next u) = (counted t ≤ size) × IsNext d equations t u
