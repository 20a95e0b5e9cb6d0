-- One more operator that does not use the class.
use Rattle.std.proofs.Common.{sym, ◌∙◌, arith}
use Rattle.std.proofs.lemmas.Bool.{false≢true}
use Rattle.fvn_combine_leaves.proofs.Using.{no_user_more, no_user_all}
use Rattle.fvn_combine_leaves.proofs.users.first_user.Goals as goal

pub loop-i-preserved : goal.loop-i-preserved
loop-i-preserved c = no_user_more c.args.sums.now c.args.start c.args.k c.loop-i.i c.index-sums-i.result (let t = c.loop-i-test.true in omega (arith, t)) c.index-sums-i.is (λ m. false≢true (sym c.if-is_user.false ∙ c.is_user.ensures.1 m)) c.loop-i.invariant

pub returns : goal.returns
returns c = no_user_all c.args.sums.now c.args.start c.args.k c.loop-i.i (let t = c.loop-i-test.false in omega (arith, t)) c.loop-i.invariant
