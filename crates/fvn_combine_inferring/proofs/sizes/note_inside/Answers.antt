-- Two pairs more.
use Rattle.std.proofs.Common.{sym, ap, ◌∙◌, subst, ◌++◌, ◌∷◌, []}
use Rattle.fvn_combine_nodes.specs.States.{class_of}
use Rattle.fvn_combine_inferring.specs.inner.Sizes.{AreInside}
use Rattle.fvn_combine_inferring.specs.declared.sizes.Inside.{Inside}
use Rattle.fvn_combine_inferring.proofs.Values.{split_within}
use Rattle.fvn_combine_inferring.proofs.Sizing.{both_said}
use Rattle.fvn_combine_inferring.proofs.sizes.note_inside.Goals as goal

pub have_both-proper-requires-clause-first : goal.have_both-proper-requires-clause-first
have_both-proper-requires-clause-first c =
    (split_within c.args.sig.now c.args.table.now c.args.state.now c.requires.closed c.recall_well_made.ensures c.args.f (class_of c.args.state.now c.args.i) c.in-Some.p c.in-Some.ensures).0

pub have_both-proper-requires-clause-second : goal.have_both-proper-requires-clause-second
have_both-proper-requires-clause-second c =
    (split_within c.args.sig.now c.args.table.now c.args.state.now c.requires.closed c.recall_well_made.ensures c.args.f (class_of c.args.state.now c.args.i) c.in-Some.p c.in-Some.ensures).1

pub returns-in_ok-push-in-Some-2 : goal.returns-in_ok-push-in-Some-2
returns-in_ok-push-in-Some-2 c =
    let two : Inside = record { small = c.in-Some.p.1; large = c.class_of-large.result; proper = c.have_both-proper.result } in
    subst (AreInside c.args.sig.now c.args.table.now c.args.state.now c.args.known.now.sorted)
    (sym (c.in_ok-push-in-Some-2.ensures.items ∙ ap (λ l. l ++ two ∷ []) c.in_ok-push-in-Some.ensures.items))
    (both_said c.args.sig.now c.args.table.now c.recall_well_made.ensures c.requires.sums c.args.state.now c.requires.closed c.args.known.now.sorted c.args.f c.requires.associative c.args.i c.in-Some.p c.in-Some.ensures
    c.have_both-proper.result c.have_both-proper.ensures c.class_of-large.result c.class_of-large.ensures c.args.list.now.items c.requires.list)
