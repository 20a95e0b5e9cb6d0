-- What is left decides.
use Rattle.std.proofs.Common.{inl, inr, refl, sym, ◌∙◌, arith}
use Rattle.fvn_cmd_words.proofs.Spelling.{ten_more, nine_digits, digit_step, bad_digit}
use Rattle.fvn_cmd_words.proofs.numbers.digits.Goals as goal

pub loop-byte-init : goal.loop-byte-init
loop-byte-init c = (refl, omega arith)

pub loop-byte-preserved : goal.loop-byte-preserved
loop-byte-preserved c = (
  c.loop-byte.invariant.0 ∙ digit_step c.args.word.now c.loop-byte.n c.loop-byte.byte-index c.from.result c.loop-byte-test.true c.if-byte-lt48.false c.if-byte-gt57.false c.from.ensures,
  (let more = ten_more c.loop-byte.byte-index in let below = c.loop-byte.invariant.1 in omega (arith, more, below, c.if-byte-gt57.false, c.from.ensures)),
)

pub returns-then-byte-lt48 : goal.returns-then-byte-lt48
returns-then-byte-lt48 c = sym (c.loop-byte.invariant.0 ∙ bad_digit c.args.word.now c.loop-byte.n c.loop-byte.byte-index c.loop-byte-test.true (inl c.if-byte-lt48.true))

pub returns-then-byte-gt57 : goal.returns-then-byte-gt57
returns-then-byte-gt57 c = sym (c.loop-byte.invariant.0 ∙ bad_digit c.args.word.now c.loop-byte.n c.loop-byte.byte-index c.loop-byte-test.true (inr c.if-byte-gt57.true))

pub overflow_add-n : goal.overflow_add-n
overflow_add-n c = let s = nine_digits c.loop-byte.byte-index (omega (arith, c.loop-byte-test.true, c.requires)) in omega (arith, s, c.loop-byte.invariant.1, c.if-byte-gt57.false, c.from.ensures)
