-- A point that is let in is there, and another is kept out for what covers it.
use Rattle.std.proofs.Common.{◌≡◌, subst, refl, ap, of_z, w64}
use Rattle.fvn_lindio.proofs.LevelLemmas.{Grows-ahead, covered_found, covered_ahead, covered_at, once_push}
use Rattle.fvn_lindio.proofs.LeastLemmas.{not_false}
use Rattle.std.specs.List.{Contains}
use Rattle.fvn_lindio.specs.declared.level.Point.{Point}
use Rattle.fvn_lindio.proofs.level.Level.admit.Goals as goal

pub returns-then-point-eq0-clause-covered : goal.returns-then-point-eq0-clause-covered
returns-then-point-eq0-clause-covered c =
    covered_found record { found = c.push.new.self; ahead = c.args.self.now.ahead } c.args.self.now.found.items c.args.point c.in_ok-push.ensures.items

pub returns-then-has_at-clause-covered : goal.returns-then-has_at-clause-covered
returns-then-has_at-clause-covered c =
    covered_at record { found = c.args.self.now.found; ahead = c.args.self.now.ahead } c.as_slice-3.result.now c.as_slice-4.result.now c.args.point.parts.items c.as_slice-3.ensures.value c.as_slice-4.ensures (c.if-has_at.ensures.0 refl)

pub returns-clause-grows : goal.returns-clause-grows
returns-clause-grows c =
    Grows-ahead c.args.self.now record { found = c.args.self.now.found; ahead = c.push-2.new.self } c.args.point c.in_ok-push-2.ensures.items refl (λ e. c.if-point-eq0.false (ap (of_z w64) e))

pub returns-clause-covered : goal.returns-clause-covered
returns-clause-covered c =
    covered_ahead record { found = c.args.self.now.found; ahead = c.push-2.new.self } c.args.self.now.ahead.items c.args.point c.in_ok-push-2.ensures.items

pub returns-clause-once : goal.returns-clause-once
returns-clause-once c =
    let points = c.args.self.now.ahead.items in
    let none = not_false c.has_at.result c.if-has_at.false c.has_at.ensures.1 in
    let fresh = subst (λ z. ((p : Point) × Contains points p × (p.parts.items ≡ z)) → ⊥) c.as_slice-4.ensures (subst (λ ps. ((p : Point) × Contains ps p × (p.parts.items ≡ c.as_slice-4.result.now)) → ⊥) c.as_slice-3.ensures.value none) in
    once_push c.args.self.now record { found = c.args.self.now.found; ahead = c.push-2.new.self } c.args.point c.in_ok-push-2.ensures.items (λ p h e. fresh (p, h, e))
