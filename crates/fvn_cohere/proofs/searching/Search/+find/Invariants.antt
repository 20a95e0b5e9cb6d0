-- The choices that are left decide, and the measures.
use Rattle.std.proofs.Common.{◌≡◌, ◌+◌, ◌-◌, ◌*◌, length, drop}
use Rattle.std.specs.List.{list_any}
use Rattle.fvn_terms.specs.Plain.{term}
use Rattle.fvn_cohere.specs.inner.Searching.{shapes_by, is_met, with_shape, some_choice}
use Rattle.fvn_cohere.proofs.searching.Search.+find.Given as goal

abbrev pub decreases-find : goal.decreases-find
decreases-find l = 2 * (length l.self.now.unchosen.now - l.from) + 1

abbrev pub decreases-find_for : goal.decreases-find_for
decreases-find_for l = 2 * (length l.self.now.unchosen.now - l.from)

abbrev pub invariant-find_for-loop-o : goal.invariant-find_for-loop-o
invariant-find_for-loop-o l =
    let test = is_met l.self.sig.now l.self.sought l.self.identities.now (term l.self.left.now) (term l.self.right.now) in
    let rest = drop (l.from + 1) l.self.unchosen.now in
    list_any (λ o. some_choice test rest (with_shape (shapes_by l.chosen) l.x o)) l.fn.shapes ≡ list_any (λ o. some_choice test rest (with_shape (shapes_by l.chosen) l.x o)) (drop l.o-index l.shapes)
