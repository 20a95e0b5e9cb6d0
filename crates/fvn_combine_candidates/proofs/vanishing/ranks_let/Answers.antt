-- One rank more, and in the end all.
use Rattle.std.proofs.Common.{◌≡◌, ℕ, Some, length, refl, sym, ap, ◌∙◌, arith}
use Rattle.std.specs.Prelude.{slice_get}
use Rattle.std.proofs.lemmas.Bool.{iff_false}
use Rattle.std.proofs.lemmas.Option.{slice_get_within}
use Rattle.fvn_terms.specs.declared.declarations.Rank.{Rank}
use Rattle.fvn_combine_complete.specs.Neutral.{Absorbs}
use Rattle.fvn_combine_candidates.specs.inner.Letting.{RankLets}
use Rattle.fvn_combine_candidates.proofs.Entries.{read_at}
use Rattle.fvn_combine_candidates.proofs.Letting.{one_more}
use Rattle.fvn_combine_candidates.proofs.vanishing.ranks_let.Goals as goal

pub returns-then-not-rank_lets : goal.returns-then-not-rank_lets
returns-then-not-rank_lets c =
    let r = c.index-ranks-j.result in
    let at = read_at c.args.ranks.now c.loop-j.j r c.loop-j-test.true c.index-ranks-j.is in
    (λ e. cc, λ h. absurd (iff_false c.rank_lets.ensures c.if-not-rank_lets.true (h c.loop-j.j r at)))

pub loop-j-preserved : goal.loop-j-preserved
loop-j-preserved c =
    let r = c.index-ranks-j.result in
    let at = read_at c.args.ranks.now c.loop-j.j r c.loop-j-test.true c.index-ranks-j.is in
    one_more (λ (j : ℕ) (s : Rank). RankLets (Absorbs c.args.sig.now c.args.f c.args.e) c.args.swaps c.args.p s) c.args.ranks.now c.loop-j.j r at
    (c.rank_lets.ensures.0 c.if-not-rank_lets.false) c.loop-j.invariant

pub returns : goal.returns
returns c = (
  λ _ j r is.
      let l = slice_get_within c.args.ranks.now j r is in
      let past = c.loop-j-test.false in
      c.loop-j.invariant j r (omega (arith, l, past)) is,
  λ _. refl,
)
