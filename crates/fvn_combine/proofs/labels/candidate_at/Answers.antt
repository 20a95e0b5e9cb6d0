-- The node names its class; what is known to head it comes first.
use Rattle.std.proofs.Common.{List, subst, inl, arith, Option, Some, None}
use Rattle.std.specs.Prelude.{◌≡◌, slice_index_or}
use Rattle.fvn_terms.specs.declared.plain.OpId.{OpId}
use Rattle.fvn_combine.proofs.labels.candidate_at.Goals as goal

pub class_of-requires : goal.class_of-requires
class_of-requires c =
    let w = c.requires.closed.whole in
    let l = c.requires.within in
    omega (arith, w, l)

pub returns-in-Some : goal.returns-in-Some
returns-in-Some c = inl (subst (λ (l : List (Option OpId)). slice_index_or l c.args.k None ≡ Some c.in-Some.g) c.as_slice.ensures.value c.in-Some.is)
