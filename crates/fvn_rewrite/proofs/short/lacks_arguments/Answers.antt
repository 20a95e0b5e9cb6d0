-- What the tests told.
use Rattle.std.proofs.Common.{◌<◌, ◌≤◌, length, sym, ◌∙◌, subst, arith}
use Rattle.fvn_flat.specs.Forms.{args_of}
use Rattle.fvn_rewrite.proofs.short.lacks_arguments.Goals as goal

pub returns : goal.returns
returns c = λ yes. record {
  operator = c.in-Some.f;
  heads = sym (c.head.ensures) ∙ c.in-Some.is;
  associative = c.makes_sums-sums.ensures c.if-not-sums.false;
  lasting = c.is_lasting.ensures yes;
  are_two = subst (λ l. 2 ≤ length l) c.args-ps.ensures.exact (omega arith);
  few = subst (λ l. length l < length (args_of c.args.p.now)) c.args-ts.ensures.exact (subst (λ l. length c.args-ts.result.now < length l) c.args-ps.ensures.exact (omega arith));
}
