-- A point at zero is put in itself, and has no sums; of another the sums alone are put in.
use Rattle.std.proofs.Common.{◌≡◌, ◌∙◌, pos, length, to_z, of_z, w64, ap, sym, subst, FitsSigned, rules}
use Rattle.std.proofs.lemmas.Int.{to_z-of_z}
use Rattle.fvn_lindio.specs.inner.Generators.{vectors_in}
use Rattle.fvn_lindio.specs.inner.Least.{IsOrderedOf}
use Rattle.fvn_lindio.proofs.PairLemmas.{from_zero, from_sums, grown_by_point}
use Rattle.fvn_lindio.proofs.paired.add_from.Goals as goal

pub insert-requires : goal.insert-requires
insert-requires c = record { ordered = subst (λ n. IsOrderedOf n (vectors_in c.args.list.now.items)) (sym (ap length (c.in_ok-v.ensures.ok ∙ c.as_slice.ensures))) c.requires.ordered }

pub returns-then-x-eq0-clause-ordered : goal.returns-then-x-eq0-clause-ordered
returns-then-x-eq0-clause-ordered c =
    subst (λ n. IsOrderedOf n (vectors_in c.insert.new.list.items)) (ap length (c.in_ok-v.ensures.ok ∙ c.as_slice.ensures)) c.in_ok-insert.ensures.ordered

pub returns-then-x-eq0-clause-exact : goal.returns-then-x-eq0-clause-exact
returns-then-x-eq0-clause-exact c =
    let x = c.args.x.now in
    let fits : FitsSigned w64 x.value = search rules in
    let zero : x.value ≡ pos 0 = sym (to_z-of_z w64 x.value fits) ∙ ap (to_z w64) c.if-x-eq0.true in
    from_zero c.args.points.now x (vectors_in c.args.list.now.items) (vectors_in c.insert.new.list.items) zero
    (grown_by_point x (vectors_in c.args.list.now.items) (vectors_in c.insert.new.list.items) c.in_ok-v.v.items (c.in_ok-v.ensures.ok ∙ c.as_slice.ensures) c.in_ok-insert.ensures.exact)

pub returns-clause-exact : goal.returns-clause-exact
returns-clause-exact c =
    let x = c.args.x.now in
    from_sums c.args.points.now x (vectors_in c.args.list.now.items) (vectors_in c.add_sums.new.list.items) (λ e. c.if-x-eq0.false (ap (of_z w64) e)) c.in_ok-add_sums.ensures.exact
