-- Expansions of the members of a level.
use Rattle.std.specs.Prelude.{List, All}
use Rattle.std.specs.List.{AllZip}
use Rattle.fvn_base.specs.declared.limits.TheConstants.{EXPANDED_FRESH}
use Rattle.fvn_terms.specs.Substitution.{Substitution}
use Rattle.fvn_terms.specs.Unifiers.{Problem}
use Rattle.fvn_cover.specs.declared.variant.Variant.{Variant}
use Rattle.fvn_exploring.specs.declared.ends.Expansion.{Expansion}
use Rattle.fvn_exploring.specs.Setting.{Setting}
use Rattle.fvn_exploring.specs.Expansions.{IsExpandable, IsExpansionOf}

-- each may be expanded, with new variables of the numbers that no member has
abbrev pub AreExpandable : Setting → List Variant → Type 0
AreExpandable g members = All (IsExpandable g EXPANDED_FRESH) members

-- one expansion a member, in their order
abbrev pub AreExpansions : Setting → (Problem → Substitution → Type 0) → List Variant → List Expansion → Type 0
AreExpansions g drawn members es = AllZip (IsExpansionOf g drawn) members es
