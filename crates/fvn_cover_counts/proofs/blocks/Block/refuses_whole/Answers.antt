-- neither above the lowest nor below the highest
use Rattle.std.proofs.Common.{◌≡◌, false, not, sym, ◌∙◌}
use Rattle.std.specs.Prelude.{◌||◌}
use Rattle.std.proofs.lemmas.Bool.{false≢true, not-true, or_parts}
use Rattle.fvn_cover_counts.proofs.Holding.{all_refused}
use Rattle.fvn_cover_counts.proofs.blocks.Block.refuses_whole.Goals as goal

pub returns-then-not-are_without : goal.returns-then-not-are_without
returns-then-not-are_without c = λ t. absurd (false≢true t)

pub returns : goal.returns
returns c = λ t.
    let a = c.are_within-there.result in
    let b = c.are_within-back.result in
    let refused : (a ≡ false) × (b ≡ false) = or_parts a b (not-true (a || b) t) in
    let same = c.are_without.ensures.0 c.if-not-are_without.false in
    all_refused c.args.out c.args.self.now.low c.args.self.now.high c.args.m.now same.0 same.1
    (λ under. false≢true (sym refused.0 ∙ c.are_within-there.ensures.1 under)) (λ under. false≢true (sym refused.1 ∙ c.are_within-back.ensures.1 under))
    c.args.self.now.marks.items c.requires
