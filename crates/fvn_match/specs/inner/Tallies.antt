-- Lists of pieces, each with the number of times that it stands there.
use Rattle.std.specs.Prelude.{◌≡◌, ◌≤◌, ℕ, ◌+◌, if◌then◌else◌, List, [], ◌∷◌, ◌++◌, map, replicate}
use Rattle.fvn_terms.specs.declared.plain.Var.{Var}
use Rattle.fvn_terms.specs.declared.plain.OpId.{OpId}
use Rattle.fvn_terms.specs.declared.declarations.Declarations.{Declarations}
use Rattle.fvn_forms.specs.Flat.{FlatTerm}
use Rattle.fvn_forms.specs.Order.{same_flat}
use Rattle.fvn_forms.specs.InOrder.{count}
use Rattle.fvn_forms.specs.Canon.{all_parts, inst}

-- how often q stands there
abbrev pub tally : FlatTerm → List FlatTerm → List ℕ → ℕ
tally q [] ns = 0
tally q (t ∷ ts) [] = 0
tally q (t ∷ ts) (n ∷ ns) = (if same_flat q t then n else 0) + tally q ts ns

-- each piece as often as its number says
abbrev pub repeated : List FlatTerm → List ℕ → List FlatTerm
repeated [] ns = []
repeated (t ∷ ts) [] = []
repeated (t ∷ ts) (n ∷ ns) = replicate n t ++ repeated ts ns

-- no two pieces are one
abbrev pub AreDistinct : List FlatTerm → Type 0
AreDistinct ts = (q : FlatTerm) → count q ts ≤ 1

-- the summands under f of the patterns under c are the pieces, each as often as its number says
abbrev pub AddsUp : Declarations → OpId → List FlatTerm → List FlatTerm → List ℕ → (Var → FlatTerm) → Type 0
AddsUp d f patterns pieces left c = (q : FlatTerm) → count q (all_parts d f (map (inst d c) patterns)) ≡ tally q pieces left
