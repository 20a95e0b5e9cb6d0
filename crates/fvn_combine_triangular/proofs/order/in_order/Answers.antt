-- One more is placed.
use Rattle.std.proofs.Common.{length, sym, ap, ◌∙◌, subst, arith}
use Rattle.std.specs.Prelude.{◌==◌}
use Rattle.std.proofs.lemmas.Option.{slice_get_within}
use Rattle.fvn_combine_triangular.specs.inner.Ordering.{IsSourceAt, HasNoSource, AreNotes}
use Rattle.fvn_combine_triangular.proofs.Summing.{none_of_length, some_of_length}
use Rattle.fvn_combine_triangular.proofs.Ordering.{nothing_placed, place_more, all_placed, no_order}
use Rattle.fvn_combine_triangular.proofs.Notes.{notes_length, notes_removed}
use Rattle.fvn_combine_triangular.proofs.order.in_order.Goals as goal

pub source_of-requires : goal.source_of-requires
source_of-requires c = subst (λ l. AreNotes l c.as_slice-in-loop-i-2.result.now) (sym c.as_slice-in-loop-i.ensures.value) (subst (AreNotes c.loop-i.rest.items) (sym c.as_slice-in-loop-i-2.ensures.value) c.loop-i.invariant.noted)

pub remove-note-requires : goal.remove-note-requires
remove-note-requires c =
    let n = notes_length c.loop-i.rest.items c.loop-i.notes.items c.loop-i.invariant.noted in
    let s = subst (λ l. IsSourceAt l c.in-Some.i) c.as_slice-in-loop-i.ensures.value c.in-Some.ensures in
    let l = slice_get_within c.loop-i.rest.items c.in-Some.i s.0 s.1 in
    omega (arith, n, l)

pub loop-i-init : goal.loop-i-init
loop-i-init c = record {
  placing = nothing_placed c.args.bindings.items c.in_ok-placed.placed.items c.in_ok-placed.ensures.items c.requires;
  noted = subst (λ l. AreNotes l c.in_ok-notes.notes.items) c.as_slice.ensures.value c.in_ok-notes.ensures;
}

pub loop-i-preserved : goal.loop-i-preserved
loop-i-preserved c = record {
  placing = place_more c.args.bindings.items c.loop-i.placed.items c.loop-i.rest.items c.push.new.self.items c.remove-binding.new.self.items c.in-Some.i c.remove-binding.result c.loop-i.invariant.placing (subst (λ l. IsSourceAt l c.in-Some.i) c.as_slice-in-loop-i.ensures.value c.in-Some.ensures) c.remove-binding.ensures.value c.in_ok-push.ensures.items c.remove-binding.ensures.items;
  noted = notes_removed c.loop-i.rest.items c.remove-binding.new.self.items c.loop-i.notes.items c.remove-note.new.self.items c.in-Some.i c.remove-binding.ensures.items c.remove-note.ensures.items c.loop-i.invariant.noted;
}

pub returns-then-is_empty : goal.returns-then-is_empty
returns-then-is_empty c = all_placed c.args.bindings.items c.loop-i.placed.items c.loop-i.rest.items c.loop-i.invariant.placing (ap length (none_of_length c.loop-i.rest.items (c.if-is_empty.ensures ∙ ap (λ n. n == 0) c.loop-i.rest.ok.0)))

pub returns : goal.returns
returns c = no_order c.args.bindings.items c.loop-i.placed.items c.loop-i.rest.items c.loop-i.invariant.placing (some_of_length c.loop-i.rest.items (c.if-is_empty.ensures ∙ ap (λ n. n == 0) c.loop-i.rest.ok.0)) (subst HasNoSource c.as_slice-in-loop-i.ensures.value c.in_default.ensures)
