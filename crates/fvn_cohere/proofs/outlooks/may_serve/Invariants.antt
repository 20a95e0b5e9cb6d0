-- The arguments that are left decide.
use Rattle.std.proofs.Common.{◌≡◌, length}
use Rattle.fvn_cohere.specs.inner.Outlooks.{may_serve, lows_of}
use Rattle.fvn_cohere.proofs.outlooks.may_serve.Given as goal

abbrev pub invariant-loop-part : goal.invariant-loop-part
invariant-loop-part l = record {
  as_long : length l.part-iterator.a.rest.now ≡ length l.part-iterator.b.rest.now;
  decide : may_serve l.sig (lows_of l.parts) l.args ≡ may_serve l.sig (lows_of l.part-iterator.a.rest.now) l.part-iterator.b.rest.now;
}
