-- other operators, or the words decide
use Rattle.std.proofs.Common.{refl}
use Rattle.fvn_cover_counts.proofs.MarkRefusals.{others_allow, words_decide, words_refuse}
use Rattle.fvn_cover_counts.proofs.marks.Marks.may_cover.Goals as goal

pub returns-then-not-are_without : goal.returns-then-not-are_without
returns-then-not-are_without c = record {
  exact = (λ t. others_allow c.args.out c.args.self.now c.args.other.now c.are_without.result (let f = c.if-not-are_without.true in cc) c.are_without.ensures, λ h. refl);
  none = λ e. cc;
}

pub returns : goal.returns
returns c =
    let out = c.args.out in
    let m = c.args.self.now in
    let n = c.args.other.now in
    let same = c.are_without.ensures.0 c.if-not-are_without.false in
    record {
      exact = words_decide out m n c.are_within.result c.are_within.ensures same;
      none = words_refuse out m n c.are_within.result c.are_within.ensures same;
    }
