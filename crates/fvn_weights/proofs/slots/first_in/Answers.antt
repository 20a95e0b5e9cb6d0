-- What is noted leads to a variable of the slot, or to none.
use Rattle.std.proofs.Common.{refl, sym, ◌∙◌, arith}
use Rattle.fvn_weights.proofs.Starting.{noted_here, noted_past, noted_other}
use Rattle.fvn_weights.proofs.slots.first_in.Goals as goal

pub bounds-starts-s : goal.bounds-starts-s
bounds-starts-s c = let n = c.requires.starts.count in let l = c.requires.within in omega (arith, n, l)

pub returns-then-i-factors : goal.returns-then-i-factors
returns-then-i-factors c = sym (noted_past c.args.factors.now c.args.starts.now c.requires.starts c.args.s _ refl (omega (arith, c.if-i-factors.true)))

pub returns-then-own-s : goal.returns-then-own-s
returns-then-own-s c = sym (noted_other c.args.factors.now c.args.starts.now c.requires.starts c.args.s _ refl _ (λ e. c.if-own-s.true (c.slot_of-own.ensures.exact ∙ e)))

pub returns : goal.returns
returns c = sym (noted_here c.args.factors.now c.args.starts.now c.requires.starts c.args.s _ refl _ (omega (arith, c.if-i-factors.false)) (sym c.slot_of-own.ensures.exact ∙ c.if-own-s.false))
