-- Bindings are pairs in braces.
use Rattle.std.proofs.Common.{◌≡◌, Bool, true, false, IsTrue, List, ◌∷◌, ◌↔◌, sym, ap, subst, ◌∙◌}
use Rattle.std.specs.List.{list_all}
use Rattle.fvn_lex.specs.Cut.{Piece}
use Rattle.fvn_syntax.specs.Pieces.{left_brace, comma}
use Rattle.fvn_problems.specs.declared.split.Halves.{Halves}
use Rattle.fvn_problems.specs.Spelling.{goes_to}
use Rattle.fvn_problems.specs.inner.Split.{is_alone, ArePairsSplit, BeginsWithNoPairs}
use Rattle.fvn_problems.proofs.TextSplits.{bindings-no-pairs, bindings-not-closed, bindings-not-alone, bindings-split}
use Rattle.fvn_problems.proofs.split.split_bindings.Goals as goal

-- a test that failed
failed : {P : Type 0} (b : Bool) → IsTrue b ↔ P → b ≡ false → P → ⊥
failed b h n p = (let t : b ≡ true = h.1 p in let f : true ≡ false = sym t ∙ n in cc)

pairs-at : (sep : Piece) (row inner : List Piece) (list : List Halves) (after : List Piece) → ArePairsSplit goes_to sep row list after → sep ≡ comma → row ≡ inner →
    ArePairsSplit goes_to comma inner list after
pairs-at sep row inner list after a s r = subst (λ x. ArePairsSplit goes_to comma x list after) r (subst (λ x. ArePairsSplit goes_to x row list after) s a)

no-pairs-at : (sep : Piece) (row inner : List Piece) → BeginsWithNoPairs goes_to sep row → sep ≡ comma → row ≡ inner → BeginsWithNoPairs goes_to comma inner
no-pairs-at sep row inner a s r = subst (BeginsWithNoPairs goes_to comma) r (subst (λ x. BeginsWithNoPairs goes_to x row) s a)

opened : (p : Piece) (row inner : List Piece) → row ≡ p ∷ inner → p ≡ left_brace → row ≡ left_brace ∷ inner
opened p row inner e f = e ∙ ap (λ x. x ∷ inner) f

pub returns-in-None-clause-none : goal.returns-in-None-clause-none
returns-in-None-clause-none c =
    let inner : List Piece = c.in-Some.inner in
    let e = opened c.new.result c.args.row.now inner c.in-Some.ensures.some c.new.ensures in
    let n = rw c.in-None.is at c.in_ok-split_pairs.ensures.none in
    bindings-no-pairs c.args.row.now inner e (λ h. failed c.is_closed.result c.is_closed.ensures c.if-is_closed.false (c.pieces.ensures ∙ h))
    (no-pairs-at c.new-separator.result c.pieces-2.result.now inner n c.new-separator.ensures c.pieces-2.ensures)

pub returns-then-not-is_closed-clause-none : goal.returns-then-not-is_closed-clause-none
returns-then-not-is_closed-clause-none c =
    let inner : List Piece = c.in-Some.inner in
    let e = opened c.new.result c.args.row.now inner c.in-Some.ensures.some c.new.ensures in
    let a = rw c.in-Some-2.is at c.in_ok-split_pairs.ensures.some in
    bindings-not-closed c.args.row.now inner e (λ h. failed c.is_closed.result c.is_closed.ensures c.if-is_closed.false (c.pieces.ensures ∙ h)) c.in-Some-2.list c.in-Some-2.after
    (pairs-at c.new-separator.result c.pieces-2.result.now inner c.in-Some-2.list c.in-Some-2.after a c.new-separator.ensures c.pieces-2.ensures)
    (λ h. failed c.is_closed-in-Some-2.result c.is_closed-in-Some-2.ensures c.if-not-is_closed.true (c.pieces-in-Some-2.ensures ∙ h))

pub returns-then-not-are_alone-clause-none : goal.returns-then-not-are_alone-clause-none
returns-then-not-are_alone-clause-none c =
    let inner : List Piece = c.in-Some.inner in
    let e = opened c.new.result c.args.row.now inner c.in-Some.ensures.some c.new.ensures in
    let a = rw c.in-Some-2.is at c.in_ok-split_pairs.ensures.some in
    let closed = sym c.pieces-in-Some-2.ensures ∙ c.is_closed-in-Some-2.ensures.0 c.if-not-is_closed.false in
    bindings-not-alone c.args.row.now inner e (λ h. failed c.is_closed.result c.is_closed.ensures c.if-is_closed.false (c.pieces.ensures ∙ h)) c.in-Some-2.list c.in-Some-2.after
    (pairs-at c.new-separator.result c.pieces-2.result.now inner c.in-Some-2.list c.in-Some-2.after a c.new-separator.ensures c.pieces-2.ensures)
    closed (ap (list_all (λ h. is_alone h.left)) (sym c.as_slice.ensures) ∙ sym c.are_alone.ensures ∙ c.if-not-are_alone.true)

pub returns-else-not-are_alone-clause-some : goal.returns-else-not-are_alone-clause-some
returns-else-not-are_alone-clause-some c =
    let inner : List Piece = c.in-Some.inner in
    let e = opened c.new.result c.args.row.now inner c.in-Some.ensures.some c.new.ensures in
    let a = rw c.in-Some-2.is at c.in_ok-split_pairs.ensures.some in
    let closed = sym c.pieces-in-Some-2.ensures ∙ c.is_closed-in-Some-2.ensures.0 c.if-not-is_closed.false in
    bindings-split c.args.row.now inner e (λ h. failed c.is_closed.result c.is_closed.ensures c.if-is_closed.false (c.pieces.ensures ∙ h)) c.in-Some-2.list c.in-Some-2.after
    (pairs-at c.new-separator.result c.pieces-2.result.now inner c.in-Some-2.list c.in-Some-2.after a c.new-separator.ensures c.pieces-2.ensures)
    closed (ap (list_all (λ h. is_alone h.left)) (sym c.as_slice.ensures) ∙ sym c.are_alone.ensures ∙ c.if-not-are_alone.false)
