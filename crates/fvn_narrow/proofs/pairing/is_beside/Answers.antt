-- What the tests told.
use Rattle.fvn_narrow.proofs.pairing.is_beside.Goals as goal

pub summands_keep-keep-requires : goal.summands_keep-keep-requires
summands_keep-keep-requires c = c.is_associative-associative.ensures c.if-not-associative.false

pub returns : goal.returns
returns c = λ yes. record {
  associative = c.is_associative-associative.ensures c.if-not-associative.false;
  no_identity = c.has_no_identity-lasting.ensures c.if-not-lasting.false;
  keep = c.summands_keep-keep.ensures c.if-not-keep.false;
  alone = c.is_one_summand.ensures yes;
}
