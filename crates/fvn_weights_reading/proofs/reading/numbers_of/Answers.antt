-- One number more.
use Rattle.std.proofs.Common.{◌≡◌, true, [], ◌∷◌, ◌++◌, sym, ap, ◌∙◌, subst}
use Rattle.fvn_weights_reading.specs.Spelling.{is_number_text, is_number, number}
use Rattle.fvn_weights_reading.proofs.Digits.{value, each-at, number-text, one-value, all-values}
use Rattle.fvn_weights_reading.proofs.reading.numbers_of.Goals as goal

pub number-value-requires : goal.number-value-requires
number-value-requires c =
    subst (λ t. is_number_text t ≡ true) (sym c.text.ensures)
    (number-text c.piece-item.result
    (subst (λ p. is_number p ≡ true) (sym c.piece-item.is)
    (each-at (λ p. is_number p ≡ true) c.args.pieces.now c.loop-piece.piece-index c.piece-item.result c.requires c.loop-piece-test.true)))

pub loop-piece-preserved : goal.loop-piece-preserved
loop-piece-preserved c =
    one-value c.args.pieces.now c.loop-piece.piece-index c.piece-item.result c.loop-piece.list.items c.push.new.self.items c.loop-piece-test.true c.loop-piece.invariant
    (c.in_ok-push.ensures.items ∙ ap (λ n. c.loop-piece.list.items ++ (n ∷ [])) (c.number-value.ensures ∙ ap number c.text.ensures ∙ ap value c.piece-item.is))

pub returns : goal.returns
returns c = all-values c.args.pieces.now c.loop-piece.piece-index c.loop-piece.list.items c.loop-piece-test.false c.loop-piece.invariant
