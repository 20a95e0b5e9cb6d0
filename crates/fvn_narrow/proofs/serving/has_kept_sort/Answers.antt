-- What the tests told.
use Rattle.std.proofs.Common.{subst}
use Rattle.fvn_terms.specs.declared.plain.SortId.{SortId}
use Rattle.fvn_terms.specs.Signature.{AtOrBelow}
use Rattle.fvn_narrow.proofs.serving.has_kept_sort.Goals as goal

pub summands_keep-keep-requires : goal.summands_keep-keep-requires
summands_keep-keep-requires c = c.is_associative-associative.ensures c.if-not-associative.false

pub returns : goal.returns
returns c = λ yes. record {
  associative = c.is_associative-associative.ensures c.if-not-associative.false;
  neutral = c.has_low_identity-neutral.ensures c.if-not-neutral.false;
  keep = c.summands_keep-keep.ensures c.if-not-keep.false;
  low = subst (λ (q : SortId). AtOrBelow c.args.sig.now q c.args.s) c.least_sort.ensures.exact (c.leq.ensures.0 yes);
}
