-- One more binding is new, or binds a variable twice.
use Rattle.std.proofs.Common.{Bool, true, false, List, subst}
use Rattle.fvn_lex.specs.Cut.{Piece}
use Rattle.fvn_syntax.specs.Pieces.{Text}
use Rattle.fvn_syntax.specs.Scope.{Scope}
use Rattle.std.proofs.Common.{◌≡◌}
use Rattle.fvn_problems.specs.Scopes.{unguarded}
use Rattle.fvn_problems.specs.inner.Bound.{Adds}
use Rattle.fvn_problems.proofs.Keys.{once-more, once-not, once-all}
use Rattle.fvn_problems.proofs.written.are_once.Goals as goal

adds-at : (s : Scope) (keys : List Text) (row left : List Piece) (b fresh : Bool) (after : List Text) → Adds s keys row b after → row ≡ left → b ≡ fresh → Adds s keys left fresh after
adds-at s keys row left b fresh after a e f = subst (λ x. Adds s keys left x after) f (subst (λ x. Adds s keys x b after) e a)

pub returns-then-not-fresh : goal.returns-then-not-fresh
returns-then-not-fresh c =
    once-not (unguarded c.args.signature.now c.args.names.now) c.args.list.now c.loop-halves.halves-index c.loop-halves.keys c.halves-item.result c.loop-halves.invariant c.loop-halves-test.true c.halves-item.is
    c.add_written.new.keys
    (adds-at (unguarded c.args.signature.now c.args.names.now) c.loop-halves.keys c.pieces.result.now c.halves-item.result.left c.in_ok-fresh.fresh false c.add_written.new.keys c.in_ok-fresh.ensures c.pieces.ensures c.if-not-fresh.true)

pub loop-halves-preserved : goal.loop-halves-preserved
loop-halves-preserved c =
    once-more (unguarded c.args.signature.now c.args.names.now) c.args.list.now c.loop-halves.halves-index c.loop-halves.keys c.halves-item.result c.loop-halves.invariant c.loop-halves-test.true c.halves-item.is
    c.add_written.new.keys
    (adds-at (unguarded c.args.signature.now c.args.names.now) c.loop-halves.keys c.pieces.result.now c.halves-item.result.left c.in_ok-fresh.fresh true c.add_written.new.keys c.in_ok-fresh.ensures c.pieces.ensures c.if-not-fresh.false)

pub returns : goal.returns
returns c = once-all (unguarded c.args.signature.now c.args.names.now) c.args.list.now c.loop-halves.halves-index c.loop-halves.keys c.loop-halves.invariant c.loop-halves-test.false
