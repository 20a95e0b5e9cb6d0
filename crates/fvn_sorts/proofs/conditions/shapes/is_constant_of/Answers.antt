-- Where no rank is one of a constant of the kind, there is no such constant.
use Rattle.std.proofs.Common.{◌≡◌, ap, ◌∙◌, arith}
use Rattle.std.proofs.lemmas.Bool.{false≢true}
use Rattle.fvn_terms.specs.declared.declarations.OpDecl.{OpDecl}
use Rattle.fvn_terms.specs.Signature.{declared}
use Rattle.fvn_sorts.proofs.ShapeLemmas.{no_constant}
use Rattle.fvn_sorts.proofs.conditions.shapes.is_constant_of.Goals as goal

pub returns : goal.returns
returns c =
    let all : c.as_slice-rank-items.result.now ≡ (declared c.args.declarations.now c.args.op).ranks = c.as_slice-rank-items.ensures ∙ ap (λ (o : OpDecl). o.ranks) c.in-Some.ensures in (
      λ h. absurd (false≢true h),
      λ w. absurd (no_constant c.args.declarations.now c.args.op c.args.kind (rw (← all) (λ i r l. c.loop-rank.invariant i r (let past = c.loop-rank-test.false in omega arith))) w),
    )
