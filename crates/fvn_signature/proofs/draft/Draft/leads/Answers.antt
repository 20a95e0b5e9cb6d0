-- What is no sort leads only to itself.
use Rattle.std.proofs.Common.{◌≡◌, ◌<◌, ◌≤◌, inl, inr, arith, length, ap}
use Rattle.fvn_signature.proofs.Orders.{reaches-range}
use Rattle.fvn_signature.proofs.draft.Draft.leads.Goals as goal

pub returns-else-high-lt64-clause-complete : goal.returns-else-high-lt64-clause-complete
returns-else-high-lt64-clause-complete c h = elim (reaches-range c.args.self.now.declarations.sorts c.args.self.now.declarations.below c.args.self.now.sound.in_range c.args.low c.args.high h) [
  | inl e ↦ inl e
  | inr r ↦ absurd (let high : c.args.high.0 < c.args.self.now.declarations.sorts = r.1 in omega arith)
]

pub returns-in-None-clause-complete : goal.returns-in-None-clause-complete
returns-in-None-clause-complete c h = elim (reaches-range c.args.self.now.declarations.sorts c.args.self.now.declarations.below c.args.self.now.sound.in_range c.args.low c.args.high h) [
  | inl e ↦ inl e
  | inr r ↦ absurd (
      let low : c.args.low.0 < c.args.self.now.declarations.sorts = r.0 in
      let long : length c.args.self.now.words.items ≡ c.args.self.now.declarations.sorts = c.args.self.now.sound.words.as_long in
      let past : length c.deref.result.now ≤ c.from.result = c.in-None.ensures.lookup.3 in
      let all : length c.deref.result.now ≡ length c.args.self.now.words.items = ap length c.deref.ensures.value in
      omega arith
      )
]
