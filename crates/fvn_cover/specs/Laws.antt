-- Laws of variants.
use Rattle.std.specs.Prelude.{◌≡◌, ◌↔◌, []}
use Rattle.fvn_terms.specs.declared.declarations.Declarations.{Declarations}
use Rattle.fvn_terms.specs.Unifiers.{IsInstance}
use Rattle.fvn_flat.specs.Solving.{substitution}
use Rattle.fvn_cover.specs.declared.variant.Variant.{Variant}
use Rattle.fvn_cover.specs.Covering.{CoversVariant, AreAlike}

-- for one signature
pub record CoveringIsAPreorder (d : Declarations) : Type 0 where
  pub reflexive : (a : Variant) → CoversVariant d a a
  pub transitive : (a b c : Variant) → AreAlike a b → CoversVariant d a b → CoversVariant d b c → CoversVariant d a c

-- for every signature
abbrev pub CoveringOfVariantsIsAPreorder : Type 0
CoveringOfVariantsIsAPreorder = (d : Declarations) → CoveringIsAPreorder d

-- Unifiers are variants without terms: one covers another exactly where the other is an instance of it.
abbrev pub CoveringOfUnifiersIsInstance : Type 0
CoveringOfUnifiersIsInstance =
    (d : Declarations) (a b : Variant) → a.terms ≡ [] → b.terms ≡ [] →
    CoversVariant d a b ↔ IsInstance d a.vars (substitution b.subst) (substitution a.subst)
