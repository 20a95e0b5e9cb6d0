-- The last number is the constant.
use Rattle.std.proofs.Common.{◌≡◌, true, sym, ap, map, ◌∙◌, subst}
use Rattle.std.specs.List.{AllByRecursion}
use Rattle.fvn_weights_reading.specs.Spelling.{is_number}
use Rattle.fvn_weights_reading.proofs.Digits.{value, popped}
use Rattle.fvn_weights_reading.proofs.reading.written_weight.Goals as goal

pub numbers_of-requires : goal.numbers_of-requires
numbers_of-requires c = subst (AllByRecursion (λ p. is_number p ≡ true)) (sym c.pieces.ensures) c.requires.numbers

pub returns : goal.returns
returns c =
    popped c.args.entry.now c.in_ok-numbers.numbers c.pop.new.self c.pop.result c.requires (c.in_ok-numbers.ensures ∙ ap (map value) c.pieces.ensures) c.pop.ensures.items
    c.pop.ensures.variant _ c.from_vec.ensures c.unwrap_or-constant.ensures
