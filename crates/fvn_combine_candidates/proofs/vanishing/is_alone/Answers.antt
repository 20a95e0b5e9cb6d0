-- One operator more, and in the end all.
use Rattle.std.proofs.Common.{◌≡◌, ℕ, Some, length, refl, sym, ap, ◌∙◌, subst, arith}
use Rattle.std.specs.Prelude.{slice_get}
use Rattle.std.proofs.lemmas.Bool.{iff_false}
use Rattle.std.proofs.lemmas.Option.{slice_get_within}
use Rattle.fvn_combine_nodes.specs.States.{class_of}
use Rattle.fvn_combine_leaves.specs.Leaves.{Uses}
use Rattle.fvn_combine_leaves.specs.declared.reading.Sums.{Sums}
use Rattle.fvn_combine_candidates.proofs.Entries.{read_at, listed_at, within_other, read_of_other}
use Rattle.fvn_combine_candidates.proofs.Letting.{one_more, alone_by}
use Rattle.fvn_combine_candidates.proofs.vanishing.is_alone.Goals as goal

pub is_user_only-requires-clause-listed : goal.is_user_only-requires-clause-listed
is_user_only-requires-clause-listed c =
    let xs = c.args.reading.now.sums in
    let i = c.loop-i.i in
    let e = c.index-sums-i.result in
    let l = within_other c.as_slice-sums.result.now xs i c.as_slice-sums.ensures c.loop-i-test.true in
    listed_at xs i e (read_at xs i e l (read_of_other c.as_slice-sums.result.now xs i e c.as_slice-sums.ensures c.index-sums-i.is))

pub returns-then-not-is_user_only : goal.returns-then-not-is_user_only
returns-then-not-is_user_only c =
    let e = c.index-sums-i.result in
    (λ t. cc, λ h. absurd (iff_false c.is_user_only.ensures c.if-not-is_user_only.true (h e.operator)))

pub loop-i-preserved : goal.loop-i-preserved
loop-i-preserved c =
    let xs = c.args.reading.now.sums in
    let i = c.loop-i.i in
    let e = c.index-sums-i.result in
    let l = within_other c.as_slice-sums.result.now xs i c.as_slice-sums.ensures c.loop-i-test.true in
    let at = read_at xs i e l (read_of_other c.as_slice-sums.result.now xs i e c.as_slice-sums.ensures c.index-sums-i.is) in
    one_more (λ (j : ℕ) (x : Sums). Uses c.args.sig.now c.args.table.now (class_of c.args.state.now) x.operator c.args.k → x.operator ≡ c.args.f) xs i e at
    (c.is_user_only.ensures.0 c.if-not-is_user_only.false) c.loop-i.invariant

pub returns : goal.returns
returns c = (
  λ _. alone_by c.args.sig.now c.args.table.now (class_of c.args.state.now) c.args.reading.now c.requires.reading c.args.f c.args.k (λ i e is.
      let l = slice_get_within c.args.reading.now.sums i e is in
      let past = c.loop-i-test.false in
      let long = ap length c.as_slice-sums.ensures in
      c.loop-i.invariant i e (omega (arith, l, past, long)) is),
  λ _. refl,
)
