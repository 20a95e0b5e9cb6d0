-- where none is covered, all are left
use Rattle.std.proofs.Common.{sym, ◌∙◌}
use Rattle.std.specs.Prelude.{◌↔◌, IsTrue, Any}
use Rattle.std.proofs.lemmas.Bool.{false≢true}
use Rattle.fvn_cover.specs.Covering.{CoversVariant}
use Rattle.fvn_cover.proofs.Leftovers.{left_whole}
use Rattle.fvn_cover.proofs.pruning.uncovered.Goals as goal

pub returns-then-not-some : goal.returns-then-not-some
returns-then-not-some c =
    let d = c.args.sig.now in
    let v = c.args.v.now in
    let covers : IsTrue c.in_ok-some.some ↔ Any (CoversVariant d v) c.args.list.items = rw c.as_slice.ensures.value at c.in_ok-some.ensures in
    left_whole (CoversVariant d v) c.args.list.items (λ a. false≢true (sym c.if-not-some.true ∙ covers.1 a))
