-- It is in one list, or not in one more.
use Rattle.std.proofs.Common.{refl, sym, ◌∙◌, take}
use Rattle.std.proofs.lemmas.Bool.{false≢true}
use Rattle.std.proofs.lemmas.List.{take_all}
use Rattle.fvn_combine_triangular.proofs.Notes.{listed_at, none_more, none_of_all}
use Rattle.fvn_combine_triangular.proofs.order.is_in_none.Goals as goal

pub returns-then-is_listed : goal.returns-then-is_listed
returns-then-is_listed c = (
  λ h. absurd (false≢true h),
  λ none. absurd (listed_at c.args.notes.now c.loop-note.note-index c.note-item.result c.as_slice.result.now c.args.x c.loop-note-test.true c.note-item.is c.as_slice.ensures (c.is_listed.ensures.0 c.if-is_listed.true) none),
)

pub loop-note-preserved : goal.loop-note-preserved
loop-note-preserved c = none_more c.args.notes.now c.loop-note.note-index c.note-item.result c.as_slice.result.now c.args.x c.loop-note-test.true c.note-item.is c.as_slice.ensures (λ m. false≢true (sym c.if-is_listed.false ∙ c.is_listed.ensures.1 m)) c.loop-note.invariant

pub returns : goal.returns
returns c = (
  λ h. none_of_all c.args.notes.now (take c.loop-note.note-index c.args.notes.now) c.args.x (take_all c.loop-note.note-index c.args.notes.now c.loop-note-test.false) c.loop-note.invariant,
  λ none. refl,
)
