-- Variants whose marks are in a list.
use Rattle.std.specs.Prelude.{List, All, Any}
use Rattle.fvn_terms.specs.declared.declarations.Declarations.{Declarations}
use Rattle.fvn_cover_counts.specs.declared.marks.Marks.{Marks}
use Rattle.fvn_cover.specs.declared.variant.Variant.{Variant}
use Rattle.fvn_cover.specs.Covering.{CoversVariant}
use Rattle.fvn_cover.specs.inner.Profiled.{IsMarked}

-- the list has marks of each of the variants
abbrev pub HaveMarksIn : List Marks → List Variant → Type 0
HaveMarksIn marks list = All (λ v. Any (IsMarked v) marks) list
