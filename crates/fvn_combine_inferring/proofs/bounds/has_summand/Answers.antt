-- There is no identity, the value is one summand, or sorts have it.
use Rattle.std.proofs.Common.{List, length, ap, subst, arith}
use Rattle.std.specs.Prelude.{Bool}
use Rattle.fvn_flat.specs.Partitions.{HasNoIdentity}
use Rattle.fvn_combine_nodes.specs.States.{class_of}
use Rattle.fvn_combine_inferring.specs.inner.Bounds.{IsMarked}
use Rattle.fvn_combine_inferring.proofs.Values.{name_within, bare_summand}
use Rattle.fvn_combine_inferring.proofs.Marks.{other_summand}
use Rattle.fvn_combine_inferring.proofs.bounds.has_summand.Goals as goal

pub is_marked-requires : goal.is_marked-requires
is_marked-requires c =
    let w = c.requires.closed.whole in
    let k = c.requires.within in
    let n = c.requires.addition.other.as_many in
    let e = ap length c.as_slice.ensures in
    let m = name_within c.args.sig.now c.args.table.now c.args.state.now c.requires.closed c.args.k c.requires.within in
    record { within = omega (arith, w, k); marks = omega (arith, n, m, e) }

pub returns-then-has_no_identity : goal.returns-then-has_no_identity
returns-then-has_no_identity c t values go =
    bare_summand c.args.sig.now c.args.table.now c.requires.sums c.args.state.now c.requires.closed values go.go c.args.addition.now.operator c.args.k
    (subst HasNoIdentity c.axioms.ensures (c.has_no_identity.ensures.0 c.if-has_no_identity.true))

pub returns-then-is_headed : goal.returns-then-is_headed
returns-then-is_headed c t values go = let n = ap length (c.is_headed.ensures c.if-is_headed.true values go) in omega (arith, n)

pub returns-then-is_marked : goal.returns-then-is_marked
returns-then-is_marked c t values go =
    let a = c.args.addition.now in
    let marked = subst (λ (l : List Bool). IsMarked c.args.known.now.sorted l (class_of c.args.state.now c.args.k)) c.as_slice.ensures (c.is_marked.ensures c.if-is_marked.true) in
    other_summand c.args.sig.now c.args.table.now c.args.state.now c.args.known.now.sorted a.operator a.other c.requires.addition.other c.args.k marked values go

pub returns : goal.returns
returns c t values go = let n = ap length (c.is_possibly_headed.ensures t values go) in omega (arith, n)
