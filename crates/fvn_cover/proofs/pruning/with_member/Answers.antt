-- one that no member covers, and one that covers none besides
use Rattle.std.proofs.Common.{inr, sym, ◌∙◌}
use Rattle.std.specs.Prelude.{◌↔◌, IsTrue}
use Rattle.std.proofs.lemmas.Bool.{false≢true}
use Rattle.fvn_cover.specs.Covering.{CoversVariant}
use Rattle.fvn_cover.specs.Pruning.{IsCoveredBySome}
use Rattle.fvn_cover.proofs.Leftovers.{left_whole}
use Rattle.fvn_cover.proofs.pruning.with_member.Goals as goal

pub with_uncovered-requires-clause-free : goal.with_uncovered-requires-clause-free
with_uncovered-requires-clause-free c =
    let covered : IsTrue c.in_ok-look.look.covered ↔ IsCoveredBySome c.args.sig.now c.args.list.items c.args.v = rw c.as_slice.ensures.value at c.in_ok-look.ensures.covered in
    λ some. false≢true (sym c.if-look.false ∙ covered.1 some)

pub returns : goal.returns
returns c =
    let d = c.args.sig.now in
    let list = c.args.list.items in
    let v = c.args.v in
    let look = rw c.as_slice.ensures.value at c.in_ok-look.ensures in
    inr (λ some. false≢true (sym c.if-look.false ∙ look.covered.1 some), (list, left_whole (CoversVariant d v) list (look.open c.if-look-2.false), c.in_ok-push.ensures.items))
