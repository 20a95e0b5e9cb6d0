-- The reading of what is left, after the tokens made so far, is the reading of the text.
use Rattle.std.proofs.Common.{◌≡◌, ◌⊎◌, inl, inr, Err, rules, sym, ◌∙◌, arith}
use Rattle.fvn_lex.specs.Cut.{lex}
use Rattle.fvn_lex.specs.declared.token.LexFault.TheVariants.{NoMemory}
use Rattle.fvn_lex.proofs.CutLemmas.{cut-lex, first-fault}
use Rattle.fvn_lex.proofs.SpanLemmas.{cut-within, cut-ordered}
use Rattle.fvn_lex.proofs.Reading.{pieces_of-ok, prepend-nil, step-go, step-stop, step-end}
use Rattle.fvn_lex.proofs.cut.tokens.Goals as goal

pub loop-offset-init : goal.loop-offset-init
unfolding lex
loop-offset-init c = rw c.new-list.ensures.items (sym (prepend-nil _))

-- the fault at a byte is that of the text, or want of memory
fault : (c : goal.After-drop-list) →
    (c.in_err-place.field-0.0 ≡ NoMemory) ⊎ (lex c.args.bytes.now ≡ Err c.in_err-place.field-0.0)
fault c = elim c.in_err-place.ensures.err [
  | inl e ↦ inl e
  | inr stops ↦ inr (c.loop-offset.invariant ∙ step-stop _ _ _ _ _ (omega arith) stops)
]

pub returns-in_err-place-clause-err : goal.returns-in_err-place-clause-err
returns-in_err-place-clause-err c = let told = fault c in search (rules, told)

pub returns-in_err-place-clause-first : goal.returns-in_err-place-clause-first
returns-in_err-place-clause-first c =
    let told = first-fault c.args.bytes.now _ (fault c) in search (rules, told)

pub loop-offset-preserved : goal.loop-offset-preserved
loop-offset-preserved c = c.loop-offset.invariant ∙ step-go _ _ _ _ _ _ (omega arith) c.in_ok-place.ensures.ok

pub returns-clause-ok : goal.returns-clause-ok
returns-clause-ok c =
    c.loop-offset.invariant
    ∙ step-end c.args.bytes.now c.loop-offset.place c.loop-offset.offset c.loop-offset.list.items _
    (omega arith) c.in_ok-finish.ensures.ok

pub returns-clause-pieces : goal.returns-clause-pieces
returns-clause-pieces c = pieces_of-ok c.args.bytes.now _ (returns-clause-ok c)

pub returns-clause-cut : goal.returns-clause-cut
returns-clause-cut c = cut-lex c.args.bytes.now _ (returns-clause-ok c)

pub returns-clause-within : goal.returns-clause-within
returns-clause-within c = cut-within c.args.bytes.now _ (returns-clause-cut c)

pub returns-clause-ordered : goal.returns-clause-ordered
returns-clause-ordered c = cut-ordered c.args.bytes.now _ (returns-clause-cut c)
