-- The members of one class have the label of the other.
use Rattle.std.proofs.Common.{◌≡◌, ℕ, ◌<◌, List, [], ◌++◌, length, get_or, set, take, drop, sym, ap, subst, ◌∙◌, arith}
use Rattle.std.specs.List.{All}
use Rattle.std.proofs.lemmas.List.{with_items_is, set-set, get_or-set_other, get_or_default}
use Rattle.fvn_module_names.specs.inner.Classes.{IsRelabelled}
use Rattle.fvn_module_names.proofs.ClassLemmas.{moved-in_range, merged, classed-merged}
use Rattle.fvn_module_names.proofs.classes.Classes.merge.Goals as goal
use Rattle.fvn_module_names.proofs.classes.Classes.merge.Goals.{After-as_slice-2, After-relabel}

module _ (c : After-as_slice-2) where
  old : List ℕ
  old = c.self.inside.labels.items

  low : c.args.from < length c.self.inside.labels.items
  low = subst (λ l. c.args.from < length l) (sym c.self.view_is) c.requires.from

  high : c.args.into < length c.self.inside.labels.items
  high = subst (λ l. c.args.into < length l) (sym c.self.view_is) c.requires.into

  moved_is : c.as_slice-2.result.now ≡ get_or c.self.inside.members.items c.args.from []
  moved_is =
      c.as_slice-2.ensures ∙ c.replace-moved.ensures.value ∙ c.index_mut.ensures.value
      ∙ get_or_default c.self.inside.members.items c.args.from c.index_mut.result.now [] (let m = c.self.invariant.as_many in let l = low in omega arith)

  staying_is : c.into_vec-all.result.items ≡ get_or c.self.inside.members.items c.args.into []
  staying_is =
      c.into_vec-all.ensures ∙ c.replace.ensures.value ∙ c.index_mut-2.ensures.value
      ∙ get_or-set_other c.self.inside.members.items c.args.from c.args.into c.replace-moved.new.dest c.index_mut-2.result.now (λ e. c.requires.other (sym e))
      ∙ get_or_default c.self.inside.members.items c.args.into c.index_mut-2.result.now [] (let m = c.self.invariant.as_many in let l = high in omega arith)

  pub in_range : All (λ i. i < length c.as_mut_slice.result.now) c.as_slice-2.result.now
  in_range = rw (moved_is, c.as_mut_slice.ensures.value)
      (moved-in_range c.self.inside.labels.items c.self.inside.labels.items c.self.inside.members.items c.args.from c.args.into c.self.invariant low high c.requires.other)

  members_are : set (set (set c.self.inside.members.items c.args.from c.replace-moved.new.dest) c.args.into c.replace.new.dest) c.args.into c.from_vec.result
      ≡ set (set c.self.inside.members.items c.args.from []) c.args.into (get_or c.self.inside.members.items c.args.into [] ++ get_or c.self.inside.members.items c.args.from [])
  members_are =
      set-set (set c.self.inside.members.items c.args.from c.replace-moved.new.dest) c.args.into c.replace.new.dest c.from_vec.result
      ∙ ap (λ m. set (set c.self.inside.members.items c.args.from m) c.args.into c.from_vec.result) (c.replace-moved.ensures.after ∙ c.new.ensures)
      ∙ ap (set (set c.self.inside.members.items c.args.from []) c.args.into) (c.from_vec.ensures ∙ c.in_ok-extend_from_slice.ensures.items ∙ ap (λ a. a ++ c.as_slice.result.now) staying_is ∙ ap (λ a. get_or c.self.inside.members.items c.args.into [] ++ a) (c.as_slice.ensures ∙ sym c.as_slice-2.ensures ∙ moved_is))

pub relabel-requires : goal.relabel-requires
relabel-requires c = in_range c

module _ (c : After-relabel) where
  labels_are : take c.self.inside.labels.len (c.relabel.new.labels ++ drop (length c.relabel.new.labels) c.self.inside.labels.items) ≡ c.relabel.new.labels
  labels_are = with_items_is c.self.inside.labels c.relabel.new.labels (c.relabel.auto.labels ∙ c.as_mut_slice.ensures.len)

  relabelled : c.as_slice-2.result.now ≡ get_or c.self.inside.members.items c.args.from [] → IsRelabelled c.self.inside.labels.items c.relabel.new.labels (get_or c.self.inside.members.items c.args.from []) c.args.into
  relabelled is = subst (λ m. IsRelabelled c.self.inside.labels.items c.relabel.new.labels m c.args.into) is
      (subst (λ l. IsRelabelled l c.relabel.new.labels c.as_slice-2.result.now c.args.into) c.as_mut_slice.ensures.value c.relabel.ensures)

pub invariant_of-result : goal.invariant_of-result
invariant_of-result c =
    let d = (goal.at.invariant_of-result c).After-as_slice-2 in
    let e = (goal.at.invariant_of-result c).After-relabel in
    rw (labels_are e, members_are d)
    (classed-merged c.self.inside.labels.items c.relabel.new.labels c.self.inside.members.items c.args.from c.args.into c.self.invariant (low d) (high d) c.requires.other (relabelled e (moved_is d)))

pub returns : goal.returns
returns c =
    let d = (goal.at.returns c).After-as_slice-2 in
    let e = (goal.at.returns c).After-relabel in
    rw (labels_are e, ← c.self.view_is)
    (merged c.self.inside.labels.items c.relabel.new.labels c.self.inside.members.items c.args.from c.args.into c.self.invariant (low d) (high d) c.requires.other (relabelled e (moved_is d)))
