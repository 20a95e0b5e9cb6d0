-- What narrowing is set in.
use Rattle.std.specs.Prelude.{ℕ, []}
use Rattle.fvn_rewrite.specs.Usable.{Rewriting, equations_by}
use Rattle.fvn_exploring.specs.Setting.{Setting}

-- what rewrites, and at how many unifiers of a problem its solver stops; no term is asked to stay irreducible
abbrev pub narrowing_setting : Rewriting → ℕ → Setting
narrowing_setting r unifiers = record {
  declarations = r.signature;
  equations = equations_by r;
  fixed = [];
  bounds = r.bounds;
  unifiers = unifiers;
}
