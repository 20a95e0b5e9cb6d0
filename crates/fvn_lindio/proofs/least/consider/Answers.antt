-- A vector with no other below it is put in.
use Rattle.std.proofs.Common.{◌≡◌, ◌↔◌, ◌⊎◌, List, ℕ, length, sym, subst, ◌∙◌}
use Rattle.std.specs.List.{Contains}
use Rattle.fvn_lindio.specs.inner.Generators.{vectors_in}
use Rattle.fvn_lindio.specs.inner.Least.{HasOther, IsOrderedOf}
use Rattle.fvn_lindio.proofs.LeastLemmas.{consider_kept, not_false}
use Rattle.fvn_lindio.proofs.least.consider.Goals as goal

pub insert-requires : goal.insert-requires
insert-requires c = record { ordered = subst (λ z. IsOrderedOf (length z) (vectors_in c.args.list.now.items)) (sym (c.in_ok-v.ensures.ok ∙ c.as_slice-2.ensures)) c.requires.ordered }

pub returns-clause-ordered : goal.returns-clause-ordered
returns-clause-ordered c = subst (λ z. IsOrderedOf (length z) (vectors_in c.insert.new.list.items)) (c.in_ok-v.ensures.ok ∙ c.as_slice-2.ensures) c.in_ok-insert.ensures.ordered

pub returns-clause-exact : goal.returns-clause-exact
returns-clause-exact c =
    let list = c.args.list.now.items in
    let new = c.insert.new.list.items in
    let points = c.args.points.now in
    let parts = c.args.p.now.parts.items in
    let none = not_false c.has_other_below.result c.if-has_other_below.false c.has_other_below.ensures.1 in
    let alone = subst (λ z. HasOther points z → ⊥) c.as_slice.ensures none in
    let exact = subst (λ z. (w : List ℕ) → Contains (vectors_in new) w ↔ Contains (vectors_in list) w ⊎ (z ≡ w)) (c.in_ok-v.ensures.ok ∙ c.as_slice-2.ensures) c.in_ok-insert.ensures.exact in
    consider_kept list new points parts exact alone
