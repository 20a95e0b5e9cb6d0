-- The options are few, and each choice that covers a unifier is listed by options and numbers.
use Rattle.std.proofs.Common.{◌*◌, ◌<◌, ◌≤◌, length, sym, ap, ◌∙◌, subst, All}
use Rattle.std.proofs.Math.Nat.{le_trans, mul-le-mul_right}
use Rattle.fvn_combine_nodes.specs.States.{class_of, IsClosed}
use Rattle.fvn_acunify_product.specs.Weight.{product}
use Rattle.fvn_acunify_product.specs.Tags.{tags_left}
use Rattle.fvn_combine_drawing.specs.CombineCandidatesSharing.{AreSharedClasses}
use Rattle.fvn_combine_drawing.specs.CombineCandidatesTags.{tag_counts}
use Rattle.fvn_combine_drawing.specs.CombineCandidatesDeclared.sharing.SharedClass.{SharedClass}
use Rattle.fvn_combine_leaves.specs.Bases.{AreBases, HaveAlive}
use Rattle.fvn_combine_leaves.specs.Leaves.{IsLeaf}
use Rattle.fvn_combine_inferring.specs.Inferred.{TellLabels}
use Rattle.fvn_combine_loose.specs.Loose.{IsLooseClass}
use Rattle.fvn_combine.specs.Tasks.{Combining}
use Rattle.fvn_combine.specs.Work.{most_tags, most_numbers}
use Rattle.fvn_combine_leaves.specs.Readings.{IsReading}
use Rattle.fvn_combine.proofs.Less.{few_tags, alone-le}
use Rattle.fvn_combine.proofs.Opening.{few_users, all_to_come}
use Rattle.fvn_combine.proofs.opened.open.Goals as goal

pub option_counts-requires : goal.option_counts-requires
option_counts-requires c = record {
  few = subst (All (λ (a : SharedClass). length a.users < 4294967295)) (sym c.as_slice.ensures.value)
      (few_users c.args.task.now c.recall.ensures c.args.state.now c.tables_are_small.ensures c.args.reading c.requires.reading c.in_ok-classes.classes.items c.in_ok-classes.ensures.few);
}

pub loose_of-requires : goal.loose_of-requires
loose_of-requires c = record { closed = c.requires.ready.closed }

pub returns-clause-opened : goal.returns-clause-opened
returns-clause-opened c =
    let k = c.args.task.now in
    let s = c.args.state.now in
    let exact = subst (λ (k : Combining). AreSharedClasses k.declarations k.table (class_of s) k.sorted c.in_ok-classes.classes.items) c.task.view_is c.in_ok-classes.ensures.exact in
    record {
      ready = c.requires.ready;
      leaf = subst (λ labels. IsLeaf k.declarations k.table labels s) (sym c.from_vec.ensures) c.requires.leaf;
      reading = c.requires.reading;
      labels = subst (TellLabels k.declarations k.table s k.sorted) (sym c.from_vec.ensures) c.requires.labels;
      as_many = ap length c.from_vec.ensures ∙ c.requires.as_many;
      bases = subst (AreBases c.args.reading.sums) (sym c.from_vec-2.ensures) c.requires.bases;
      alive = subst (HaveAlive k.declarations k.table s c.args.reading.sums) (sym c.from_vec-2.ensures) c.requires.alive;
      shared = subst (AreSharedClasses k.declarations k.table (class_of s) k.sorted) (sym c.from_vec-3.ensures) exact;
      counts = c.in_ok-tags.ensures.counts ∙ c.in_ok-counts.ensures ∙ ap tag_counts (c.as_slice.ensures.value ∙ sym c.from_vec-3.ensures);
      turning = λ v e. cc;
      loose = subst (All (IsLooseClass k.declarations k.table s)) (sym c.from_vec-4.ensures) c.in_ok-loose.ensures.loose;
      none_loose = λ e. c.from_vec-4.ensures ∙ c.in_ok-loose.ensures.none e;
    }

pub returns-clause-all : goal.returns-clause-all
returns-clause-all c =
    let classes = c.in_ok-classes.classes.items in
    let exact = subst (λ (k : Combining). AreSharedClasses k.declarations k.table (class_of c.args.state.now) k.sorted classes) c.task.view_is c.in_ok-classes.ensures.exact in
    let counts = c.in_ok-tags.ensures.counts ∙ c.in_ok-counts.ensures ∙ ap tag_counts (c.as_slice.ensures.value ∙ sym c.from_vec-3.ensures) in
    all_to_come c.args.task.now c.recall.ensures c.args.state.now c.args.reading c.from_vec.result c.from_vec-2.result c.from_vec-3.result c.in_ok-tags.tags c.from_vec-4.result c.requires.ready c.requires.reading
    (subst (AreSharedClasses c.args.task.now.declarations c.args.task.now.table (class_of c.args.state.now) c.args.task.now.sorted) (sym c.from_vec-3.ensures) exact)
    c.covering_choices_are_listed.ensures counts c.in_ok-tags.ensures.all_pending

pub returns-clause-few : goal.returns-clause-few
returns-clause-few c =
    let k = c.args.task.now in
    let classes = c.in_ok-classes.classes.items in
    let exact = subst (λ (k : Combining). AreSharedClasses k.declarations k.table (class_of c.args.state.now) k.sorted classes) c.task.view_is c.in_ok-classes.ensures.exact in
    let counts = c.in_ok-tags.ensures.counts ∙ c.in_ok-counts.ensures ∙ ap tag_counts c.as_slice.ensures.value in
    let few = few_tags k c.sum_operators_are_few.ensures c.args.state.now c.args.reading c.requires.reading classes exact c.in_ok-classes.ensures.few in
    let bounded = subst (λ l. tags_left c.in_ok-tags.tags ≤ product l) counts c.in_ok-tags.ensures.bounded in
    let all : tags_left c.in_ok-tags.tags ≤ most_tags k = le_trans bounded few in
    alone-le (tags_left c.in_ok-tags.tags * most_numbers k) (most_tags k * most_numbers k) (mul-le-mul_right (most_numbers k) all)

pub shared-requires-clause-closed : goal.shared-requires-clause-closed
shared-requires-clause-closed c = subst (λ (k : Combining). IsClosed k.declarations k.table c.args.state.now) (sym c.task.view_is) c.requires.ready.closed

pub shared-requires-clause-reading : goal.shared-requires-clause-reading
shared-requires-clause-reading c = subst (λ (k : Combining). IsReading k.declarations k.table (class_of c.args.state.now) c.args.reading) (sym c.task.view_is) c.requires.reading
