-- The sum is put in where the values are on those sides, as the code reads them.
use Rattle.std.proofs.Common.{◌≡◌, ◌<◌, ◌∙◌, ℤ, length, to_z, of_z, w64, ap, sym, subst, refl, FitsSigned, rules}
use Rattle.std.proofs.lemmas.Int.{to_z-of_z}
use Rattle.fvn_lindio.specs.Systems.{above, below}
use Rattle.fvn_lindio.specs.Vectors.{add}
use Rattle.fvn_lindio.specs.inner.Generators.{vectors_in}
use Rattle.fvn_lindio.specs.inner.Least.{IsOrderedOf}
use Rattle.fvn_lindio.specs.inner.Paired.{IsSum}
use Rattle.fvn_lindio.proofs.VectorLemmas.{length-add}
use Rattle.fvn_lindio.proofs.LeastLemmas.{not_false}
use Rattle.fvn_lindio.proofs.PairLemmas.{grown_by_sum, grows_never, signs_read}
use Rattle.fvn_lindio.proofs.paired.add_sum.Goals as goal

pub returns-then-not-falls_and_rises-clause-exact : goal.returns-then-not-falls_and_rises-clause-exact
returns-then-not-falls_and_rises-clause-exact c =
    let x = c.args.x.now in
    let u = c.args.u.now in
    let x_fits : FitsSigned w64 x.value = search rules in
    let u_fits : FitsSigned w64 u.value = search rules in
    let never = not_false c.falls_and_rises.result c.if-not-falls_and_rises.true c.falls_and_rises.ensures.1 in
    let read = subst (λ (z : ℤ). (0 < below z) × (0 < above (to_z w64 (of_z w64 u.value))) → ⊥) (to_z-of_z w64 x.value x_fits) never in
    let both = subst (λ (z : ℤ). (0 < below x.value) × (0 < above z) → ⊥) (to_z-of_z w64 u.value u_fits) read in
    grows_never (IsSum x u) (vectors_in c.args.list.now.items) (λ w s. both s.0)

pub insert-requires : goal.insert-requires
insert-requires c =
    let x = c.args.x.now in
    let e = c.in_ok-sum.ensures ∙ (ap (λ v. add v c.as_slice-2.result.now) c.as_slice.ensures ∙ ap (add x.parts.items) c.as_slice-2.ensures) in
    let sized = ap length e ∙ length-add x.parts.items c.args.u.now.parts.items c.requires.can_add.sized in
    record { ordered = subst (λ n. IsOrderedOf n (vectors_in c.args.list.now.items)) (sym sized) c.requires.ordered }

pub returns-clause-ordered : goal.returns-clause-ordered
returns-clause-ordered c =
    let x = c.args.x.now in
    let e = c.in_ok-sum.ensures ∙ (ap (λ v. add v c.as_slice-2.result.now) c.as_slice.ensures ∙ ap (add x.parts.items) c.as_slice-2.ensures) in
    let sized = ap length e ∙ length-add x.parts.items c.args.u.now.parts.items c.requires.can_add.sized in
    subst (λ n. IsOrderedOf n (vectors_in c.insert.new.list.items)) sized c.in_ok-insert.ensures.ordered

pub returns-clause-exact : goal.returns-clause-exact
returns-clause-exact c =
    let x = c.args.x.now in
    let u = c.args.u.now in
    let x_fits : FitsSigned w64 x.value = search rules in
    let u_fits : FitsSigned w64 u.value = search rules in
    let signs = signs_read x.value u.value x_fits u_fits (c.if-not-falls_and_rises.ensures.0 refl) in
    let e = c.in_ok-sum.ensures ∙ (ap (λ v. add v c.as_slice-2.result.now) c.as_slice.ensures ∙ ap (add x.parts.items) c.as_slice-2.ensures) in
    grown_by_sum x u (vectors_in c.args.list.now.items) (vectors_in c.insert.new.list.items) c.in_ok-sum.sum.items e signs c.in_ok-insert.ensures.exact
