-- The solution stands at its place.
use Rattle.std.proofs.Common.{◌≡◌, length, ap, ◌∙◌, subst, sym}
use Rattle.std.specs.List.{All, AllPairs, insert}
use Rattle.fvn_base.specs.Order.{IsBefore}
use Rattle.fvn_lindio.specs.Systems.{vectors_of}
use Rattle.fvn_combine_candidates.specs.inner.Placed.{IsPlace, StandsAt, GrowsBy}
use Rattle.fvn_combine_candidates.proofs.Inserted.{insert_ordered, insert_exact, ordered_more, not_false}
use Rattle.fvn_combine_candidates.proofs.alive.put_in.Goals as goal
use Rattle.fvn_combine_candidates.proofs.alive.put_in.Goals.{In_ok-insert}

-- the place is the solution's, and it does not stand there
placed : (c : In_ok-insert) → IsPlace (vectors_of c.args.list.now.items) c.args.more.now.parts c.place_of-place.result
placed c =
    let place = c.place_of-place.result in
    subst (λ z. IsPlace (vectors_of c.args.list.now.items) z place) c.as_slice-parts.ensures
    (subst (λ z. IsPlace (vectors_of z) c.as_slice-parts.result.now place) c.as_slice.ensures.value c.place_of-place.ensures)

absent : (c : In_ok-insert) → StandsAt (vectors_of c.args.list.now.items) c.place_of-place.result c.args.more.now.parts → ⊥
absent c =
    let place = c.place_of-place.result in
    let fresh = not_false c.stands_at.result c.if-stands_at.false c.stands_at.ensures.1 in
    subst (λ z. StandsAt (vectors_of c.args.list.now.items) place z → ⊥) c.as_slice-parts.ensures
    (subst (λ z. StandsAt (vectors_of z) place c.as_slice-parts.result.now → ⊥) c.as_slice-2.ensures.value fresh)

inserted : (c : In_ok-insert) → c.insert.new.self.items ≡ insert c.args.list.now.items c.place_of-place.result c.args.more.now
inserted c = c.in_ok-insert.ensures.items ∙ ap (insert c.args.list.now.items c.place_of-place.result) c.in_ok-copy.ensures

pub place_of-place-requires-clause-ordered : goal.place_of-place-requires-clause-ordered
place_of-place-requires-clause-ordered c = subst (λ z. AllPairs IsBefore (vectors_of z)) (sym c.as_slice.ensures.value) c.requires.ordered

pub place_of-place-requires-clause-sized : goal.place_of-place-requires-clause-sized
place_of-place-requires-clause-sized c =
    subst (λ z. All (λ w. length w ≡ length z) (vectors_of c.as_slice.result.now)) (sym c.as_slice-parts.ensures)
    (subst (λ z. All (λ w. length w ≡ length c.args.more.now.parts) (vectors_of z)) (sym c.as_slice.ensures.value) c.requires.sized)

grown : (c : In_ok-insert) → GrowsBy (λ w. c.args.more.now.parts ≡ w) (vectors_of c.args.list.now.items) (vectors_of c.insert.new.self.items)
grown c =
    insert_exact c.args.list.now.items c.insert.new.self.items c.args.more.now c.place_of-place.result (inserted c) c.requires.sized c.requires.ordered (placed c) (absent c)

pub returns-clause-ordered : goal.returns-clause-ordered
returns-clause-ordered c =
    let list = c.args.list.now.items in
    let new = c.insert.new.self.items in
    let v = c.args.more.now in
    ordered_more (length v.parts) (λ w. v.parts ≡ w) (vectors_of list) (vectors_of new) (λ w p. ap length (sym p)) c.requires
    (insert_ordered list new v c.place_of-place.result (inserted (goal.at.returns-clause-ordered c).In_ok-insert) c.requires.sized c.requires.ordered (placed ((goal.at.returns-clause-ordered c).In_ok-insert)) (absent ((goal.at.returns-clause-ordered c).In_ok-insert)))
    (grown (goal.at.returns-clause-ordered c).In_ok-insert)

pub returns-clause-exact : goal.returns-clause-exact
returns-clause-exact c = grown (goal.at.returns-clause-exact c).In_ok-insert
