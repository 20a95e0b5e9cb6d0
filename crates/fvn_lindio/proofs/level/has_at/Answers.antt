-- One point more is not at the vector; and in the end none is.
use Rattle.std.proofs.Common.{◌≡◌, ◌∙◌, ℕ, List}
use Rattle.std.specs.Prelude.{IsTrue}
use Rattle.fvn_lindio.specs.declared.level.Point.{Point}
use Rattle.fvn_lindio.proofs.LevelLemmas.{each_more, each_all}
use Rattle.fvn_lindio.proofs.level.has_at.Goals as goal

abbrev IsNotAt : List ℕ → Point → Type 0
IsNotAt v p = p.parts.items ≡ v → ⊥

pub loop-p-preserved : goal.loop-p-preserved
loop-p-preserved c =
    each_more (IsNotAt c.args.parts.now) c.args.points.now c.loop-p.p-index c.p-item.result c.loop-p-test.true c.p-item.is (λ e. let same : IsTrue c.is_same.result = c.is_same.ensures.1 (c.as_slice.ensures ∙ e) in cc) c.loop-p.invariant

pub returns : goal.returns
returns c = (λ h. absurd (let k = h in cc), λ h. absurd (each_all (IsNotAt c.args.parts.now) c.args.points.now c.loop-p.p-index c.loop-p-test.false c.loop-p.invariant h.0 h.1 h.2))
