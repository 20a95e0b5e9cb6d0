-- Laws of weights.
-- D. S. Lankford, On proving term rewriting systems are Noetherian, 1979.
use Rattle.std.specs.Prelude.{◌≡◌, Contains}
use Rattle.fvn_terms.specs.declared.plain.OpId.{OpId}
use Rattle.fvn_terms.specs.declared.declarations.Declarations.{Declarations}
use Rattle.fvn_terms.specs.Term.{Term}
use Rattle.fvn_terms.specs.Theory.{Equations}
use Rattle.fvn_terms.specs.Rewriting.{IsTerminating}
use Rattle.fvn_weights.specs.declared.limits.TheConstants.{MOST}
use Rattle.fvn_weights.specs.Values.{Linear, Fits, Falls}

-- where weights fit the axioms and each equation falls under them, the equations terminate
abbrev pub WeightsThatFitShowTermination : Type 0
WeightsThatFitShowTermination =
    (d : Declarations) (equations : Equations) (w : Linear) → ((f : OpId) → Fits d w f) →
    ((left right : Term) → Contains equations (left, right) → Falls w left right) →
    IsTerminating d equations

-- numbers of a value are compared up to this one
abbrev pub NumbersAreComparedUpTo : Type 0
NumbersAreComparedUpTo = MOST ≡ 9223372036854775807
