-- One class is the identity's, and the sum has the value of the other.
use Rattle.std.proofs.Common.{sym, ◌∙◌, arith}
use Rattle.fvn_combine_nodes.specs.States.{class_of}
use Rattle.fvn_combine_inferring.proofs.Values.{split_within}
use Rattle.fvn_combine_inferring.proofs.Added.{unit_associates, first_idle, second_idle}
use Rattle.fvn_combine_inferring.proofs.idle.idle_at.Goals as goal

pub is_same-requires : goal.is_same-requires
is_same-requires c =
    let w = c.requires.closed.whole in
    let n = c.requires.inside in
    let p = (split_within c.args.sig.now c.args.table.now c.args.state.now c.requires.closed c.recall_well_made.ensures c.args.f (class_of c.args.state.now c.args.i) c.in-Some.p c.in-Some.ensures).0 in
    record { left = omega (arith, w, p); right = omega (arith, w, n) }

pub met-requires : goal.met-requires
met-requires c =
    let d = c.args.sig.now in
    let t = c.args.table.now in
    let s = c.args.state.now in
    let made = c.recall_well_made.ensures in
    record {
      closed = c.requires.closed;
      left = c.requires.within;
      right = (split_within d t s c.requires.closed made c.args.f (class_of s c.args.i) c.in-Some.p c.in-Some.ensures).1;
      equal = first_idle d t made c.requires.sums s c.requires.closed c.args.f (unit_associates d t c.requires.sums c.args.f c.args.n c.requires.unit) c.args.i c.requires.within c.in-Some.p c.in-Some.ensures c.args.sorted c.args.n c.requires.unit
          (sym c.is_same.ensures ∙ c.if-is_same.true);
    }

pub is_same-requires-in-Some : goal.is_same-requires-in-Some
is_same-requires-in-Some c =
    let w = c.requires.closed.whole in
    let n = c.requires.inside in
    let p = (split_within c.args.sig.now c.args.table.now c.args.state.now c.requires.closed c.recall_well_made.ensures c.args.f (class_of c.args.state.now c.args.i) c.in-Some.p c.in-Some.ensures).1 in
    record { left = omega (arith, w, p); right = omega (arith, w, n) }

pub met-requires-then-is_same-2 : goal.met-requires-then-is_same-2
met-requires-then-is_same-2 c =
    let d = c.args.sig.now in
    let t = c.args.table.now in
    let s = c.args.state.now in
    let made = c.recall_well_made.ensures in
    record {
      closed = c.requires.closed;
      left = c.requires.within;
      right = (split_within d t s c.requires.closed made c.args.f (class_of s c.args.i) c.in-Some.p c.in-Some.ensures).0;
      equal = second_idle d t made c.requires.sums s c.requires.closed c.args.f (unit_associates d t c.requires.sums c.args.f c.args.n c.requires.unit) c.args.i c.requires.within c.in-Some.p c.in-Some.ensures c.args.sorted c.args.n c.requires.unit
          (sym c.is_same-in-Some.ensures ∙ c.if-is_same-2.true);
    }
