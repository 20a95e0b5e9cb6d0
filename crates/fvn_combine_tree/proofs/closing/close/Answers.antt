-- What is settled without a clash is closed.
use Rattle.std.proofs.Common.{◌≡◌, length, sym, ◌∙◌, subst}
use Rattle.fvn_combine_tree.specs.inner.Closing.{state_of, IsClosureOf}
use Rattle.fvn_combine_tree.proofs.Settling.{closed_from, apart_clash, apart_kept, sides_kept}
use Rattle.std.specs.Prelude.{Some}
use Rattle.fvn_combine_tree.proofs.closing.close.Goals as goal

pub returns-then-meets_apart : goal.returns-then-meets_apart
returns-then-meets_apart c class partition admits =
    let settled = c.if-settle_fully.ensures in
    apart_clash (state_of c.settle_fully.new.self) class settled.0.naming (settled.1.forced class partition admits) (sym c.meets_apart.ensures ∙ c.if-meets_apart.true)

pub returns-then-settle_fully : goal.returns-then-settle_fully
returns-then-settle_fully c =
    let d = c.args.sig.now in
    let t = c.args.table.now in
    let before = state_of c.args.closing in
    let after = state_of c.settle_fully.new.self in
    let settled = c.if-settle_fully.ensures in
    let apart = apart_kept after (sym c.meets_apart.ensures ∙ c.if-meets_apart.false) in
    let sides = sides_kept before after settled.1.coarser (length t.nodes) c.requires.whole t.sides c.recall_well_made.ensures.sides c.requires.sides in
    let names = c.from_vec.ensures in
    let kept = c.from_vec-then-settle_fully.ensures in
    let is : after ≡ record { names = c.from_vec.result; apart = c.from_vec-then-settle_fully.result } = λ i. record { names = sym names i; apart = sym kept i } in
    subst (λ s. IsClosureOf d t before (Some s)) is (closed_from d t after (settled.0.whole ∙ c.requires.whole) settled.0.naming sides settled.2 apart, settled.0, settled.1)

pub returns : goal.returns
returns c = c.if-settle_fully.ensures
