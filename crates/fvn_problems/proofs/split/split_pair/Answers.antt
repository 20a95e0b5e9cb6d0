-- A pair is a term, the word between, and a term.
use Rattle.std.proofs.Common.{◌≡◌, List, ◌∷◌, sym, ap, subst, ◌∙◌}
use Rattle.fvn_lex.specs.Cut.{Piece}
use Rattle.fvn_syntax.specs.Pieces.{word}
use Rattle.fvn_syntax.specs.Raw.{BeginsWithNoTerm}
use Rattle.fvn_problems.specs.inner.Split.{IsTermSplit}
use Rattle.fvn_problems.proofs.Splitting.{no-left, no-word, no-right, pair-split}
use Rattle.fvn_problems.proofs.split.split_pair.Goals as goal

pub returns-in_default-clause-none : goal.returns-in_default-clause-none
returns-in_default-clause-none c = no-left c.args.between.now c.args.row.now (rw c.in_default.is at c.in_ok-left.ensures.none)

pub returns-in_default-behind-clause-none : goal.returns-in_default-behind-clause-none
returns-in_default-behind-clause-none c =
    let a = rw c.in-Some.is at c.in_ok-left.ensures.some in
    no-word c.args.between.now c.args.row.now c.in-Some.left c.in-Some.rest a
    (λ r e. c.in_default-behind.ensures.none r (c.pieces.ensures ∙ e ∙ ap (λ p. p ∷ r) (sym c.new.ensures)))

pub returns-in_default-2-clause-none : goal.returns-in_default-2-clause-none
returns-in_default-2-clause-none c =
    let a = rw c.in-Some.is at c.in_ok-left.ensures.some in
    let second : List Piece = c.in-Some-behind.second in
    let e : c.in-Some.rest ≡ word c.args.between.now ∷ second = sym c.pieces.ensures ∙ c.in-Some-behind.ensures.some ∙ ap (λ p. p ∷ second) c.new.ensures in
    let n = rw c.in_default-2.is at c.in_ok-right.ensures.none in
    no-right c.args.between.now c.args.row.now c.in-Some.left c.in-Some.rest a second e (subst BeginsWithNoTerm c.pieces-2.ensures n)

pub returns-clause-some : goal.returns-clause-some
returns-clause-some c =
    let a = rw c.in-Some.is at c.in_ok-left.ensures.some in
    let second : List Piece = c.in-Some-behind.second in
    let e : c.in-Some.rest ≡ word c.args.between.now ∷ second = sym c.pieces.ensures ∙ c.in-Some-behind.ensures.some ∙ ap (λ p. p ∷ second) c.new.ensures in
    let b = rw c.in-Some-2.is at c.in_ok-right.ensures.some in
    pair-split c.args.between.now c.args.row.now c.in-Some.left c.in-Some.rest a second c.in-Some-2.right c.in-Some-2.rest e
    (subst (λ x. IsTermSplit x c.in-Some-2.right c.in-Some-2.rest) c.pieces-2.ensures b)
