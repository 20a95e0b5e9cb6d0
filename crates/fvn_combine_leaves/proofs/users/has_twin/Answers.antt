-- One more operator that is no twin.
use Rattle.std.proofs.Common.{refl, sym, ap, ◌∙◌, arith, Some}
use Rattle.std.proofs.lemmas.Bool.{false≢true}
use Rattle.std.proofs.lemmas.Option.{slice_get-get_or}
use Rattle.fvn_combine_leaves.specs.Users.{IsTwin}
use Rattle.fvn_combine_leaves.proofs.Using.{none_more}
use Rattle.fvn_combine_leaves.proofs.users.has_twin.Goals as goal

pub returns-then-is_twin : goal.returns-then-is_twin
returns-then-is_twin c = (
  λ _. record {
    entry = c.index-sums-i.result;
    listed = (c.loop-i.i, (let t = c.loop-i-test.true in omega (arith, t)), sym c.index-sums-i.is);
    twin = c.is_twin.ensures.0 c.if-is_twin.true;
  },
  λ _. refl,
)

pub loop-i-preserved : goal.loop-i-preserved
loop-i-preserved c =
    none_more (IsTwin c.args.sig.now c.args.f c.args.k) c.args.sums.now c.loop-i.i c.index-sums-i.result (let t = c.loop-i-test.true in omega (arith, t)) c.index-sums-i.is
    (λ w. false≢true (sym c.if-is_twin.false ∙ c.is_twin.ensures.1 w)) c.loop-i.invariant

pub returns : goal.returns
returns c = (
  λ e. absurd (false≢true e),
  λ h. absurd (c.loop-i.invariant h.listed.0 h.entry (let t = c.loop-i-test.false in let l = h.listed.1 in omega (arith, t, l))
      (slice_get-get_or c.args.sums.now h.listed.0 h.entry h.listed.1 ∙ ap Some h.listed.2) h.twin),
)
