-- The walk goes on.
use Rattle.std.proofs.Common.{◌≡◌, ◌<◌, ℕ, [], ◌∷◌, length, map, take, All, refl, sym, ap, ◌∙◌, subst, arith}
use Rattle.std.proofs.lemmas.List.{take_all, length_push, length-append}
use Rattle.std.proofs.lemmas.List.Elements.{All-nil, All-push}
use Rattle.fvn_terms.specs.Term.{app, pack, nodes_all}
use Rattle.fvn_terms.specs.Plain.{term, terms}
use Rattle.fvn_terms.specs.Falls.{deep_le_nodes}
use Rattle.fvn_flat.specs.Problems.{subterms, subterms_among}
use Rattle.fvn_combine_nodes.specs.Table.{term_at}
use Rattle.fvn_combine_tree.specs.declared.building.Draft.{Draft}
use Rattle.fvn_combine_nodes.specs.declared.table.Node.TheVariants.{Var, App}
use Rattle.fvn_combine_tree.specs.inner.Drafts.{HasWalked}
use Rattle.fvn_combine_tree.proofs.Walking.{IsNoted, noted, walked-none, walked-then, walked_within, nodes-argument, subterms_among-more, places-more}
use Rattle.fvn_combine_tree.proofs.building.Draft.+add.Goals as goal
use Rattle.fvn_combine_tree.proofs.building.Draft.+add.Goals.{add-In_ok-place-in-Var, add-In_ok-place-in-App, add_all-After-loop-u}

-- the draft with a place for the node
variable_noted : (t : ℕ) (c : goal.add-In_ok-place-in-Var t) → IsNoted c.args.self.now c.note.new.self [] (term c.args.t.now) c.in_ok-place-in-Var.place
variable_noted t c =
    let before = c.args.self.now in
    let begun : Draft = record { nodes = before.nodes; walk = c.push.new.self } in
    noted before begun begun c.note.new.self [] (Var c.in-Var.x) (term c.args.t.now) c.in_ok-place-in-Var.place c.len-start.result refl c.in_ok-push.ensures.items (c.len-start.ensures ∙ before.walk.ok.0) (walked-none begun) c.requires.nodes tt c.in_ok-place-in-Var.ensures.entered c.in_ok-place-in-Var.ensures.noted
    (sym (ap term c.in-Var.is))

application_noted : (t : ℕ) (c : goal.add-In_ok-place-in-App t) → IsNoted c.args.self.now c.note-in-App.new.self (subterms_among c.in-App.us) (term c.args.t.now) c.in_ok-place-in-App.place
application_noted t c =
    let before = c.args.self.now in
    let begun : Draft = record { nodes = before.nodes; walk = c.push.new.self } in
    let after = c.add_all.new.self in
    let kids = c.in_ok-kids-in-App.ensures in
    let arguments = subst (All (λ k. k < length after.nodes.items)) (sym c.from_vec.ensures) kids.within in
    noted before begun after c.note-in-App.new.self (subterms_among c.in-App.us) (App c.in-App.f c.from_vec.result) (term c.args.t.now) c.in_ok-place-in-App.place c.len-start.result refl c.in_ok-push.ensures.items (c.len-start.ensures ∙ before.walk.ok.0) kids.walked kids.nodes arguments c.in_ok-place-in-App.ensures.entered c.in_ok-place-in-App.ensures.noted
    (ap (λ ks. app c.in-App.f (pack (map (term_at after.nodes.items) ks))) c.from_vec.ensures ∙ ap (app c.in-App.f) kids.are ∙ sym (ap term c.in-App.is))

pub add-returns-in_ok-place-in-Var-clause-nodes : goal.add-returns-in_ok-place-in-Var-clause-nodes
add-returns-in_ok-place-in-Var-clause-nodes t c = (variable_noted t (goal.at.add-returns-in_ok-place-in-Var-clause-nodes t c).In_ok-place-in-Var).nodes

pub add-returns-in_ok-place-in-Var-clause-walked : goal.add-returns-in_ok-place-in-Var-clause-walked
add-returns-in_ok-place-in-Var-clause-walked t c =
    let is = ap term c.in-Var.is in
    subst (HasWalked c.args.self.now c.note.new.self) (ap (λ u. u ∷ []) is ∙ sym (ap subterms is)) (variable_noted t (goal.at.add-returns-in_ok-place-in-Var-clause-walked t c).In_ok-place-in-Var).walked

pub add-returns-in_ok-place-in-Var-clause-within : goal.add-returns-in_ok-place-in-Var-clause-within
add-returns-in_ok-place-in-Var-clause-within t c = (variable_noted t (goal.at.add-returns-in_ok-place-in-Var-clause-within t c).In_ok-place-in-Var).within

pub add-returns-in_ok-place-in-Var-clause-is : goal.add-returns-in_ok-place-in-Var-clause-is
add-returns-in_ok-place-in-Var-clause-is t c = (variable_noted t (goal.at.add-returns-in_ok-place-in-Var-clause-is t c).In_ok-place-in-Var).is

pub add-returns-in_ok-place-in-App-clause-nodes : goal.add-returns-in_ok-place-in-App-clause-nodes
add-returns-in_ok-place-in-App-clause-nodes t c = (application_noted t (goal.at.add-returns-in_ok-place-in-App-clause-nodes t c).In_ok-place-in-App).nodes

pub add-returns-in_ok-place-in-App-clause-walked : goal.add-returns-in_ok-place-in-App-clause-walked
add-returns-in_ok-place-in-App-clause-walked t c =
    let is = ap term c.in-App.is in
    subst (HasWalked c.args.self.now c.note-in-App.new.self) (ap (λ u. u ∷ subterms_among c.in-App.us) is ∙ sym (ap subterms is)) (application_noted t (goal.at.add-returns-in_ok-place-in-App-clause-walked t c).In_ok-place-in-App).walked

pub add-returns-in_ok-place-in-App-clause-within : goal.add-returns-in_ok-place-in-App-clause-within
add-returns-in_ok-place-in-App-clause-within t c = (application_noted t (goal.at.add-returns-in_ok-place-in-App-clause-within t c).In_ok-place-in-App).within

pub add-returns-in_ok-place-in-App-clause-is : goal.add-returns-in_ok-place-in-App-clause-is
add-returns-in_ok-place-in-App-clause-is t c = (application_noted t (goal.at.add-returns-in_ok-place-in-App-clause-is t c).In_ok-place-in-App).is

pub add-note-requires : goal.add-note-requires
add-note-requires t c =
    let n = ap length c.in_ok-push.ensures.items ∙ length_push c.args.self.now.walk.items 0 in
    let e = c.len-start.ensures ∙ c.args.self.now.walk.ok.0 in
    omega arith

pub add-note-requires-in-App : goal.add-note-requires-in-App
add-note-requires-in-App t c =
    let n = ap length c.in_ok-push.ensures.items ∙ length_push c.args.self.now.walk.items 0 in
    let e = c.len-start.ensures ∙ c.args.self.now.walk.ok.0 in
    let w = ap length c.in_ok-kids-in-App.ensures.walked.walk ∙ length-append c.push.new.self.items c.in_ok-kids-in-App.ensures.walked.steps in
    omega arith

pub add_all-add-requires : goal.add_all-add-requires
add_all-add-requires t c = (
  let deep = deep_le_nodes c.u-item.result in
      let e = nodes-argument c.deref-u-items.result.now c.loop-u.u-index c.u-item.result c.loop-u-test.true c.u-item.is in
      let whole = ap (λ xs. nodes_all (terms xs)) c.deref-u-items.ensures.value ∙ ap nodes_all c.us.view_is in
      omega (arith, deep, e, whole),
  c.loop-u.invariant.nodes,
)

pub add_all-loop-u-init : goal.add_all-loop-u-init
add_all-loop-u-init t c = record {
  nodes = c.requires.nodes;
  walked = walked-none c.args.self.now;
  within = subst (All (λ k. k < length c.args.self.now.nodes.items)) (sym c.new-kids.ensures.items) (All-nil (λ k. k < length c.args.self.now.nodes.items));
  are = ap (λ ks. pack (map (term_at c.args.self.now.nodes.items) ks)) c.new-kids.ensures.items;
}

pub add_all-loop-u-preserved : goal.add_all-loop-u-preserved
add_all-loop-u-preserved t c =
    let items = c.deref-u-items.result.now in
    let i = c.loop-u.u-index in
    let u = c.u-item.result in
    let within = c.loop-u-test.true in
    let start = c.args.self.now in
    let before = c.loop-u.self in
    let after = c.add.new.self in
    let so_far = c.loop-u.invariant in
    let added = c.in_ok-place.ensures in
    let pushed = c.in_ok-push.ensures.items in
    record {
      nodes = added.nodes;
      walked =
          subst (HasWalked start after) (sym (subterms_among-more items i u within c.u-item.is)) (walked-then start before after (subterms_among (terms (take i items))) (subterms (term u)) so_far.walked added.walked);
      within =
          subst (All (λ k. k < length after.nodes.items)) (sym pushed)
          (All-push (λ k. k < length after.nodes.items) c.loop-u.kids.items c.in_ok-place.place (walked_within before after (subterms (term u)) added.walked c.loop-u.kids.items so_far.within) added.within);
      are = ap (λ ks. pack (map (term_at after.nodes.items) ks)) pushed ∙ places-more items i u within c.u-item.is before after added.walked c.loop-u.kids.items c.in_ok-place.place so_far.within so_far.are added.is;
    }

-- the arguments as they were given
whole_items : (t : ℕ) (c : goal.add_all-After-loop-u t) → terms (take c.loop-u.u-index c.deref-u-items.result.now) ≡ c.args.us.now
whole_items t c = ap terms (take_all c.loop-u.u-index c.deref-u-items.result.now c.loop-u-test.false ∙ c.deref-u-items.ensures.value) ∙ c.us.view_is

pub add_all-returns-clause-walked : goal.add_all-returns-clause-walked
add_all-returns-clause-walked t c =
    subst (λ us. HasWalked c.args.self.now c.loop-u.self (subterms_among us)) (whole_items t (goal.at.add_all-returns-clause-walked t c).After-loop-u) c.loop-u.invariant.walked

pub add_all-returns-clause-are : goal.add_all-returns-clause-are
add_all-returns-clause-are t c = c.loop-u.invariant.are ∙ whole_items t (goal.at.add_all-returns-clause-are t c).After-loop-u
