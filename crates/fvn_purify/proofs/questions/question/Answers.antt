-- Parts, then identities, then pairs.
use Rattle.std.proofs.Common.{◌≡◌, ℕ, subst, inl, inr, Contains}
use Rattle.fvn_terms.specs.declared.plain.OpId.{OpId}
use Rattle.fvn_combine_nodes.specs.States.{IsOpen, class_of}
use Rattle.std.specs.Prelude.{MatchOption}
use Rattle.fvn_purify.specs.Parts.{outline}
use Rattle.fvn_purify.specs.inner.Options.{AreFirst}
use Rattle.fvn_purify.proofs.Firsts.{ways_last}
use Rattle.fvn_purify.proofs.questions.question.Goals as goal

pub returns-in-Some-open_units : goal.returns-in-Some-open_units
returns-in-Some-open_units c =
    let h = c.in-Some-open_units.ensures in
    let found = c.in-Some-open_units.found in
    (inr (inl (subst (λ l. Contains l found.0) c.as_slice-in-None.ensures h.0, subst (λ l. (p : OpId × ℕ) × Contains l p × (p.1 ≡ found.1)) c.units.ensures h.1)), h.2)

pub returns-in-None-open_units : goal.returns-in-None-open_units
returns-in-None-open_units c =
    let o = outline c.args.classes.now in
    let s = c.args.state.now in
    let parts = subst (λ l. (x y : ℕ) → Contains l x → Contains l y → IsOpen s x y → ⊥) c.as_slice.ensures c.in-None.ensures in
    let units = subst (λ l. (x : ℕ) → Contains l x → (p : OpId × ℕ) → Contains o.table.units p → IsOpen s x p.1 → ⊥) c.as_slice-in-None.ensures
    (subst (λ us. (x : ℕ) → Contains c.as_slice-in-None.result.now x → (p : OpId × ℕ) → Contains us p → IsOpen s x p.1 → ⊥) c.units.ensures c.in-None-open_units.ensures) in
    ways_last o s parts units c.open_ways.result (subst (λ l. MatchOption c.open_ways.result ((p : ℕ × ℕ) (x y : ℕ) → Contains l p → class_of s p.0 ≡ class_of s p.1 → AreFirst o.table p x y → IsOpen s x y → ⊥)
    (λ q. ((p : ℕ × ℕ) × Contains l p × (class_of s p.0 ≡ class_of s p.1) × AreFirst o.table p q.0 q.1) × IsOpen s q.0 q.1)) c.as_slice-in-None-open_units.ensures c.open_ways.ensures)
