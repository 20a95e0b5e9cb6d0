-- The next tags are made the current ones, or passed over with all that agree with them up to a place.
use Rattle.std.proofs.Common.{◌≡◌, List, length, sym, ap, ◌∙◌, subst, Option}
use Rattle.std.proofs.Math.Nat.{le_trans}
use Rattle.fvn_terms.specs.declared.plain.OpId.{OpId}
use Rattle.fvn_combine_nodes.specs.States.{IsClosed, class_of}
use Rattle.fvn_combine_leaves.specs.Bases.{AreBases}
use Rattle.fvn_combine_leaves.specs.Readings.{IsReading}
use Rattle.fvn_combine_drawing.specs.CombineAdmissibleListed.{tag_in}
use Rattle.fvn_combine_drawing.specs.CombineCandidatesTags.{AreTags}
use Rattle.fvn_combine_drawing.specs.CombineCandidatesTurning.{AreWheels, HaveBounds}
use Rattle.fvn_combine.specs.Tasks.{Combining}
use Rattle.fvn_combine.specs.inner.Against.{IsAgainstAt}
use Rattle.fvn_combine.proofs.Less.{few_numbers}
use Rattle.fvn_combine.proofs.Turned.{turned}
use Rattle.fvn_combine.proofs.PassedTags.{classes_within, whole_of, place_within, passed}
use Rattle.fvn_combine.proofs.walking.turn.Goals as goal

pub returns-clause-turned : goal.returns-clause-turned
returns-clause-turned c =
    let o = c.args.opened.now in
    let wheels = c.in_ok-wheels.wheels in
    let are = subst (AreTags o.shared c.in-Some.options.now) (sym c.from_vec.ensures) (subst (λ shared. AreTags shared c.in-Some.options.now c.in_ok-tags.tags.items) c.as_slice.ensures c.in_ok-tags.ensures.exact) in
    let asked = subst (λ (k : Combining). AreWheels k.declarations k.table (class_of c.args.state.now) (tag_in c.from_vec.result) o.reading.sums o.bases wheels.wheels) c.task.view_is
    (subst (λ l. AreWheels c.task.inside.sig.now c.task.inside.table (class_of c.args.state.now) (tag_in l) o.reading.sums o.bases wheels.wheels) (c.as_slice-4.ensures.value ∙ sym c.from_vec.ensures)
    (subst (λ b. AreWheels c.task.inside.sig.now c.task.inside.table (class_of c.args.state.now) (tag_in c.as_slice-4.result.now) o.reading.sums b wheels.wheels) c.as_slice-3.ensures c.in_ok-wheels.ensures.asked)) in
    let bounds = subst (λ (k : Combining). HaveBounds k.declarations k.table (class_of c.args.state.now) k.sorted o.reading.sums wheels.wheels) c.task.view_is c.in_ok-wheels.ensures.bounds in
    turned c.args.task.now c.recall.ensures c.listed_choices_are_possible.ensures c.sorted_choices_are_within.ensures c.args.state.now o c.requires.opened c.from_vec.result c.in-Some.options.now are wheels asked bounds c.in_ok-wheels.ensures.all_pending
    c.advance.new.self c.advance.ensures.counts c.in-Some.ensures.value c.advance.ensures.taken (c.advance.ensures.falls c.in-Some.options.now c.in-Some.ensures.value)
    (le_trans c.in_ok-wheels.ensures.bounded
    (few_numbers c.args.task.now c.sum_operators_are_few.ensures c.args.state.now o.reading c.requires.opened.reading o.bases c.requires.opened.bases (tag_in c.from_vec.result) wheels.wheels asked))

pub first_against-requires : goal.first_against-requires
first_against-requires c =
    let k = c.args.task.now in
    let s = c.args.state.now in
    let o = c.args.opened.now in
    let nodes = subst (λ (k : Combining). length c.nodes.result.now ≡ length k.table.nodes) c.task.view_is (ap length c.nodes.ensures) in
    record {
      labels = classes_within k s o c.requires.opened (length o.labels) c.requires.opened.as_many;
      tags = classes_within k s o c.requires.opened (length c.as_slice-2.result.now) (ap length c.as_slice-2.ensures.value ∙ c.in_ok-tags.ensures.as_many ∙ nodes);
      whole = whole_of k s o c.requires.opened c.recall.ensures;
      bases = c.requires.opened.bases.as_many;
    }

pub skip-requires : goal.skip-requires
skip-requires c = record { within = place_within c.args.task.now c.args.state.now c.args.opened.now c.requires.opened c.in-Some-first_against.place c.in-Some-first_against.ensures.within }

pub returns-in-Some-first_against-clause-turned : goal.returns-in-Some-first_against-clause-turned
returns-in-Some-first_against-clause-turned c =
    let o = c.args.opened.now in
    let tags = c.in_ok-tags.tags.items in
    let are = subst (λ shared. AreTags shared c.in-Some.options.now tags) c.as_slice.ensures c.in_ok-tags.ensures.exact in
    let place = c.in-Some-first_against.place in
    let against = subst (λ (k : Combining). IsAgainstAt k.declarations o tags place) c.task.view_is
    (subst (λ (l : List (Option OpId)). IsAgainstAt c.task.inside.sig.now o l place) c.as_slice-2.ensures.value c.in-Some-first_against.ensures) in
    passed c.args.task.now c.args.state.now o c.requires.opened c.recall.ensures c.in-Some.options.now c.in-Some.ensures.greatest.0 tags are place against
    c.skip.new.self c.skip.ensures.counts c.in-Some.ensures.value c.skip.ensures.taken c.skip.ensures.kept (c.skip.ensures.falls c.in-Some.options.now c.in-Some.ensures.value)

pub wheels-requires : goal.wheels-requires
wheels-requires c =
    let o = c.requires.opened in
    record {
      closed = subst (λ (k : Combining). IsClosed k.declarations k.table c.args.state.now) (sym c.task.view_is) o.ready.closed;
      reading = subst (λ (k : Combining). IsReading k.declarations k.table (class_of c.args.state.now) c.args.opened.now.reading) (sym c.task.view_is) o.reading;
      bases = subst (λ l. AreBases c.args.opened.now.reading.sums l) (sym c.as_slice-3.ensures) o.bases;
    }
