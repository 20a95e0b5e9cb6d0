-- The variable comes behind the others, and its slot is noted.
use Rattle.std.proofs.Common.{List, ℕ, ap, ◌∙◌, arith}
use Rattle.fvn_terms.specs.declared.plain.Var.{Var}
use Rattle.fvn_weights.specs.inner.Numbers.{slot, slot_place, start_or}
use Rattle.fvn_weights.proofs.Starting.{raised_last}
use Rattle.fvn_weights.proofs.slots.put_new.Goals as goal

pub first_in-first-requires-clause-starts : goal.first_in-first-requires-clause-starts
first_in-first-requires-clause-starts c = rw (c.as_slice.ensures.value, c.as_slice-2.ensures.value) c.requires.starts

pub note-requires : goal.note-requires
note-requires c = let small = c.slot_of-s.ensures.small in let n = c.requires.starts.count in omega (arith, small, n)

pub returns : goal.returns
returns c =
    let ps = c.args.factors.now.items in
    let starts = c.args.starts.now.items in
    let first = c.first_in-first.ensures ∙ ap (λ (l : List (Var × ℕ)). slot_place l c.slot_of-s.result) c.as_slice.ensures.value ∙ ap (slot_place ps) c.slot_of-s.ensures.exact in
    let start = c.start_or-start.ensures ∙ ap (λ o. start_or o c.len.result) first ∙ ap (start_or (slot_place ps (slot c.args.x))) (c.len.ensures ∙ c.args.factors.now.ok.0) in
    rw (c.in_ok-push.ensures.items, c.note.ensures, c.slot_of-s.ensures.exact) (raised_last c.args.x ps starts c.requires.starts c.args.number c.start_or-start.result c.requires.new start)
