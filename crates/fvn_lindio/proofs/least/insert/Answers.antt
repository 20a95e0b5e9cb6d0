-- The vector stands at its place.
use Rattle.std.proofs.Common.{◌≡◌, length, ap, subst, sym}
use Rattle.std.specs.List.{All, AllPairs}
use Rattle.fvn_base.specs.Order.{IsBefore}
use Rattle.fvn_lindio.specs.inner.Generators.{vectors_in}
use Rattle.fvn_lindio.specs.inner.Least.{IsPlace, StandsAt}
use Rattle.fvn_lindio.proofs.LeastLemmas.{insert_ordered, insert_exact, not_false}
use Rattle.fvn_lindio.proofs.PairLemmas.{ordered_more}
use Rattle.fvn_lindio.proofs.least.insert.Goals as goal

-- the place is the vector's, and it does not stand there
placed : (c : goal.In_ok-insert) → IsPlace (vectors_in c.args.list.now.items) c.args.v.items c.place_of-place.result
placed c =
    let place = c.place_of-place.result in
    subst (λ z. IsPlace (vectors_in c.args.list.now.items) z place) c.as_slice-2.ensures
    (subst (λ z. IsPlace (vectors_in z) c.as_slice-2.result.now place) c.as_slice.ensures.value c.place_of-place.ensures)

absent : (c : goal.In_ok-insert) → StandsAt (vectors_in c.args.list.now.items) c.place_of-place.result c.args.v.items → ⊥
absent c =
    let place = c.place_of-place.result in
    let fresh = not_false c.stands_at.result c.if-stands_at.false c.stands_at.ensures.1 in
    subst (λ z. StandsAt (vectors_in c.args.list.now.items) place z → ⊥) c.as_slice-4.ensures
    (subst (λ z. StandsAt (vectors_in z) place c.as_slice-4.result.now → ⊥) c.as_slice-3.ensures.value fresh)

pub place_of-place-requires-clause-ordered : goal.place_of-place-requires-clause-ordered
place_of-place-requires-clause-ordered c = subst (λ z. AllPairs IsBefore (vectors_in z)) (sym c.as_slice.ensures.value) c.requires.ordered.ordered

pub place_of-place-requires-clause-sized : goal.place_of-place-requires-clause-sized
place_of-place-requires-clause-sized c =
    subst (λ z. All (λ w. length w ≡ length z) (vectors_in c.as_slice.result.now)) (sym c.as_slice-2.ensures)
    (subst (λ z. All (λ w. length w ≡ length c.args.v.items) (vectors_in z)) (sym c.as_slice.ensures.value) c.requires.ordered.sized)

pub returns-clause-ordered : goal.returns-clause-ordered
returns-clause-ordered c =
    let list = c.args.list.now.items in
    let new = c.insert.new.self.items in
    let v = c.args.v in
    let o = c.requires.ordered in
    ordered_more (length v.items) (λ w. v.items ≡ w) (vectors_in list) (vectors_in new) (λ w p. ap length (sym p)) o
    (insert_ordered list new v c.place_of-place.result c.in_ok-insert.ensures.items o.sized o.ordered (placed c) (absent c))
    (insert_exact list new v c.place_of-place.result c.in_ok-insert.ensures.items o.sized o.ordered (placed c) (absent c))

pub returns-clause-exact : goal.returns-clause-exact
returns-clause-exact c =
    insert_exact c.args.list.now.items c.insert.new.self.items c.args.v c.place_of-place.result c.in_ok-insert.ensures.items c.requires.ordered.sized c.requires.ordered.ordered (placed c) (absent c)
