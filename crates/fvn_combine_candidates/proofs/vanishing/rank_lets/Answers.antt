-- One place more, and in the end all.
use Rattle.std.proofs.Common.{◌≡◌, ◌⊎◌, ℕ, true, Some, length, refl, ap, arith}
use Rattle.std.specs.Prelude.{IsTrue}
use Rattle.std.proofs.lemmas.Bool.{iff_false}
use Rattle.std.proofs.lemmas.Option.{slice_get_within}
use Rattle.fvn_terms.specs.declared.plain.SortId.{SortId}
use Rattle.fvn_combine_complete.specs.Neutral.{Absorbs}
use Rattle.fvn_combine_candidates.proofs.Letting.{one_place, sort_iff}
use Rattle.fvn_combine_candidates.proofs.vanishing.rank_lets.Goals as goal

pub returns-then-not-sort_lets : goal.returns-then-not-sort_lets
returns-then-not-sort_lets c =
    let q = c.loop-q.q in
    let iff = sort_iff (IsTrue c.sort_lets.result) (λ (a : SortId). (c.args.p ≡ q) ⊎ (c.args.swaps ≡ true) → Absorbs c.args.sig.now c.args.f c.args.e a) c.as_slice-sorts.result.now c.args.rank.now.args c.as_slice-sorts.ensures q _ c.loop-q-test.true c.sort_lets.ensures in
    (λ e. cc, λ h. absurd (iff_false iff c.if-not-sort_lets.true (h q)))

pub loop-q-preserved : goal.loop-q-preserved
loop-q-preserved c =
    let q = c.loop-q.q in
    let iff = sort_iff (IsTrue c.sort_lets.result) (λ (a : SortId). (c.args.p ≡ q) ⊎ (c.args.swaps ≡ true) → Absorbs c.args.sig.now c.args.f c.args.e a) c.as_slice-sorts.result.now c.args.rank.now.args c.as_slice-sorts.ensures q _ c.loop-q-test.true c.sort_lets.ensures in
    one_place (λ (j : ℕ) (b : SortId). (c.args.p ≡ j) ⊎ (c.args.swaps ≡ true) → Absorbs c.args.sig.now c.args.f c.args.e b) c.args.rank.now.args q (iff.0 c.if-not-sort_lets.false) c.loop-q.invariant

pub returns : goal.returns
returns c = (
  λ _ q a is may.
      let l = slice_get_within c.args.rank.now.args q a is in
      let past = c.loop-q-test.false in
      let long = ap length c.as_slice-sorts.ensures in
      c.loop-q.invariant q a (omega (arith, l, past, long)) is may,
  λ _. refl,
)
