-- The sum is let in, with the sum of the values, which fits.
use Rattle.std.proofs.Common.{◌≡◌, ◌∙◌, ℤ, ◌+ℤ◌, to_z, of_z, w64, ap, subst, refl, FitsSigned, rules}
use Rattle.std.proofs.lemmas.Int.{to_z-of_z}
use Rattle.fvn_lindio.proofs.LevelLemmas.{Grows-step_by}
use Rattle.fvn_lindio.proofs.ValueLemmas.{sum_read}
use Rattle.fvn_lindio.specs.inner.Levels.{IsCovered}
use Rattle.fvn_lindio.specs.Vectors.{add}
use Rattle.fvn_lindio.specs.inner.Search.{IsOpposite}
use Rattle.fvn_lindio.proofs.level.Level.step_by.Goals as goal

-- what is let in is the sum
parts : (c : goal.In_ok-admit) → c.in_ok-parts.parts.items ≡ add c.args.x.now.parts.items c.args.g.now.parts.items
parts c = c.in_ok-parts.ensures ∙ (ap (λ v. add v c.as_slice-2.result.now) c.as_slice.ensures ∙ ap (add c.args.x.now.parts.items) c.as_slice-2.ensures)

pub returns-clause-grows : goal.returns-clause-grows
returns-clause-grows c =
    let x = c.args.x.now in
    let g = c.args.g.now in
    let x_fits : FitsSigned w64 x.value = search rules in
    let g_fits : FitsSigned w64 g.value = search rules in
    let read = c.if-not-is_opposite.ensures.0 refl in
    let x_read = subst (λ (z : ℤ). IsOpposite z (to_z w64 (of_z w64 g.value))) (to_z-of_z w64 x.value x_fits) read in
    let opposite = subst (λ (z : ℤ). IsOpposite x.value z) (to_z-of_z w64 g.value g_fits) x_read in
    Grows-step_by x g record { parts = c.in_ok-parts.parts; value = to_z w64 (of_z w64 (to_z w64 (of_z w64 x.value) +ℤ to_z w64 (of_z w64 g.value))) } c.args.self.now c.admit.new.self opposite (parts c) (sum_read x.value g.value x_fits g_fits opposite) c.in_ok-admit.ensures.grows

pub returns-clause-covered : goal.returns-clause-covered
returns-clause-covered c = λ o. subst (IsCovered c.admit.new.self) (parts c) c.in_ok-admit.ensures.covered
