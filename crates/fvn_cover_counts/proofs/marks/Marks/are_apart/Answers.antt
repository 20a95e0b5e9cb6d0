-- the words refuse both
use Rattle.std.proofs.Common.{◌≡◌, false, not}
use Rattle.std.specs.Prelude.{◌||◌, IsTrue}
use Rattle.std.proofs.lemmas.Bool.{false≢true, not-true, or_parts}
use Rattle.fvn_cover_counts.proofs.MarkRefusals.{words_refuse}
use Rattle.fvn_cover_counts.proofs.marks.Marks.are_apart.Goals as goal

pub returns-then-not-are_without : goal.returns-then-not-are_without
returns-then-not-are_without c = record { there = λ t. absurd (false≢true t); back = λ t. absurd (false≢true t) }

pub returns : goal.returns
returns c =
    let out = c.args.out in
    let m = c.args.self.now in
    let n = c.args.other.now in
    let a = c.are_within-there.result in
    let b = c.are_within-back.result in
    let same = c.are_without.ensures.0 c.if-not-are_without.false in
    let refused : IsTrue (not (a || b)) → (a ≡ false) × (b ≡ false) = λ t. or_parts a b (not-true (a || b) t) in
    record {
      there = λ t. words_refuse out m n a c.are_within-there.ensures same (refused t).0;
      back = λ t. words_refuse out n m b c.are_within-back.ensures (same.1, same.0) (refused t).1;
    }
