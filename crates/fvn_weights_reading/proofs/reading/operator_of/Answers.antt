-- The operator that an entry names takes as many numbers, or the entry has a fault.
use Rattle.std.proofs.Common.{◌≡◌, length, Some, None, refl, sym, ap, ◌∙◌, arith}
use Rattle.fvn_syntax.specs.Names.{op_named}
use Rattle.fvn_weights_reading.specs.Reading.{no_operator, other_count}
use Rattle.fvn_weights_reading.proofs.Weighed.{named-within}
use Rattle.fvn_weights_reading.proofs.reading.operator_of.Goals as goal
use Rattle.fvn_weights_reading.proofs.reading.operator_of.Goals.{In-Some}

-- the operator of the entry's name
module _ (c : In-Some) where
  named : op_named c.args.names.now c.args.entry.now.name ≡ Some c.in-Some.f
  named = ap (op_named c.args.names.now) (sym c.bytes.ensures) ∙ sym c.find_operator.ensures ∙ c.in-Some.is

pub returns-in_default-clause-err : goal.returns-in_default-clause-err
returns-in_default-clause-err c = no_operator (ap (op_named c.args.names.now) (sym c.bytes.ensures) ∙ sym c.find_operator.ensures ∙ c.in_default.is) refl

pub returns-then-few-clause-err : goal.returns-then-few-clause-err
returns-then-few-clause-err c =
    other_count c.in-Some.f (named (goal.at.returns-then-few-clause-err c).In-Some)
    (λ e. omega (arith, e, ap length c.pieces-count.ensures, c.arity-arity.ensures, c.if-few.true)) refl

pub returns-then-other-clause-err : goal.returns-then-other-clause-err
returns-then-other-clause-err c =
    other_count c.in-Some.f (named (goal.at.returns-then-other-clause-err c).In-Some)
    (λ e. omega (arith, e, ap length c.pieces-count.ensures, c.arity-arity.ensures, c.if-few.false, c.if-other.true)) refl

pub returns-clause-ok : goal.returns-clause-ok
returns-clause-ok c = record {
  named = named (goal.at.returns-clause-ok c).In-Some;
  count = omega (arith, ap length c.pieces-count.ensures, c.arity-arity.ensures, c.if-few.false, c.if-other.false);
}

pub returns-clause-within : goal.returns-clause-within
returns-clause-within c =
    named-within c.args.signature.now c.args.names.now c.requires c.args.entry.now.name c.in-Some.f (named (goal.at.returns-clause-within c).In-Some)
