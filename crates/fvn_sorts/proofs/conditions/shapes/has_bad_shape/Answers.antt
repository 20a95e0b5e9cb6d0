-- A declaration is bad by what its arguments, its axioms and its result are.
use Rattle.std.proofs.Common.{refl}
use Rattle.std.proofs.lemmas.Bool.{false≢true}
use Rattle.fvn_sorts.proofs.ShapeLemmas.{bad_alone, never_bad, bad_result}
use Rattle.fvn_sorts.proofs.conditions.shapes.has_bad_shape.Goals as goal

pub returns-in-None : goal.returns-in-None
returns-in-None c = bad_alone c.args.collected.now c.args.declaration.now c.in-None.ensures c.is_commutative.ensures.holds

pub returns-then-not-is_sum : goal.returns-then-not-is_sum
returns-then-not-is_sum c = (
  λ h. absurd (false≢true h),
  λ w. absurd (never_bad c.args.collected.now c.args.declaration.now c.in-Some.kind c.in-Some.ensures (λ a. false≢true (c.if-not-is_sum.ensures.holds.1 a)) w),
)

pub returns : goal.returns
returns c = bad_result c.args.collected.now c.args.declaration.now c.in-Some.kind c.in-Some.ensures (c.if-not-is_sum.ensures.holds.0 refl) c.kind_meant.ensures c.ne.ensures
