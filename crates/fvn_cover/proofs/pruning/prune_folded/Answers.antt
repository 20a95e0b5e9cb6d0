-- one more member, which none before it covers
use Rattle.std.proofs.Common.{◌≡◌, List, [], ◌∷◌, ◌++◌, length, take, refl, sym, ◌∙◌, subst, arith}
use Rattle.std.specs.Prelude.{All, Contains}
use Rattle.std.proofs.lemmas.List.{map-id}
use Rattle.std.proofs.lemmas.List.Elements.{All-nil, All-take, All-weaker, Contains-append_left, Contains-append_right}
use Rattle.std.proofs.lemmas.Iterator.Adapters.{YieldsList-from_vec}
use Rattle.std.proofs.lemmas.Iterator.Consumers.{YieldsList-turn, YieldsList-so_far}
use Rattle.fvn_base.proofs.Membership.{contains_here}
use Rattle.fvn_cover.specs.declared.variant.Variant.{Variant}
use Rattle.fvn_cover.specs.Covering.{AreAlike, IsFlatVariant}
use Rattle.fvn_cover.specs.Pruning.{IsCoveredBySome, IsPruned}
use Rattle.fvn_cover.specs.Adding.{IsAdded}
use Rattle.fvn_cover.proofs.Leftovers.{all_at}
use Rattle.fvn_cover.proofs.Additions.{added_all}
use Rattle.fvn_cover.proofs.Folded.{next_is_free}
use Rattle.fvn_cover.proofs.Prunings.{alike_sym, pruned_more}
use Rattle.fvn_cover.proofs.pruning.prune_folded.Goals as goal

pub loop-v-init : goal.loop-v-init
loop-v-init c =
    let d = c.args.sig.now in
    let Mine : Variant → Type 0 = λ k. IsFlatVariant d k × All (AreAlike k) c.args.list.items in
    let none : IsPruned d [] [] = record {
      choices = [];
      whole = refl;
      sublist = refl;
      apart = λ i j e l m. absurd (omega (arith, m));
      dropped = All-nil (IsCoveredBySome d []);
      earlier = λ i j e l m. absurd (omega (arith, m));
    } in
    subst (λ l. IsPruned d [] l × All Mine l × All (Contains []) l) (sym c.new-kept.ensures.items) (none, All-nil Mine, All-nil (Contains []))

pub with_uncovered-requires-clause-free : goal.with_uncovered-requires-clause-free
with_uncovered-requires-clause-free c =
    let all = c.args.list.items in
    let v = c.in-Some.v in
    let gives = c.into_iter-v-iterator.ensures.into_iter_gives in
    let road = YieldsList-from_vec all gives.0 (gives.1 ∙ c.args.list.ok.0) in
    let turn = YieldsList-turn road c.loop-v.yielded c.loop-v.v-iterator c.loop-v.yielded_by c.next.result c.next.new.self v c.in-Some.is c.next.ensures.steps in
    let so_far : c.loop-v.yielded ≡ take (length c.loop-v.yielded) all = sym (map-id c.loop-v.yielded) ∙ YieldsList-so_far road c.loop-v.yielded c.loop-v.v-iterator c.loop-v.yielded_by in
    next_is_free c.args.sig.now all c.loop-v.yielded v so_far c.loop-v.kept.items turn.0 turn.1 c.requires.folded c.loop-v.invariant.2

pub loop-v-preserved : goal.loop-v-preserved
loop-v-preserved c =
    let d = c.args.sig.now in
    let all = c.args.list.items in
    let v = c.in-Some.v in
    let seen = c.loop-v.yielded in
    let gives = c.into_iter-v-iterator.ensures.into_iter_gives in
    let road = YieldsList-from_vec all gives.0 (gives.1 ∙ c.args.list.ok.0) in
    let turn = YieldsList-turn road c.loop-v.yielded c.loop-v.v-iterator c.loop-v.yielded_by c.next.result c.next.new.self v c.in-Some.is c.next.ensures.steps in
    let so_far : c.loop-v.yielded ≡ take (length c.loop-v.yielded) all = sym (map-id c.loop-v.yielded) ∙ YieldsList-so_far road c.loop-v.yielded c.loop-v.v-iterator c.loop-v.yielded_by in
    let mine : All (AreAlike v) all = all_at (λ a. All (AreAlike a) all) all (length c.loop-v.yielded) v c.requires.alike turn.0 turn.1 in
    let flat : IsFlatVariant d v = all_at (IsFlatVariant d) all (length c.loop-v.yielded) v c.requires.flat turn.0 turn.1 in
    let given_alike : All (AreAlike v) c.loop-v.yielded = subst (All (AreAlike v)) (sym so_far) (All-take (AreAlike v) (length c.loop-v.yielded) all mine) in
    let kept_alike : All (AreAlike v) c.loop-v.kept.items =
    All-weaker (λ k. IsFlatVariant d k × All (AreAlike k) all) (AreAlike v) (λ k h. alike_sym k v (all_at (AreAlike k) all (length c.loop-v.yielded) v h.1 turn.0 turn.1)) c.loop-v.kept.items c.loop-v.invariant.1 in
    let added : IsAdded d c.loop-v.kept.items v c.in_ok-kept.kept.items = c.in_ok-kept.ensures in
    let among : All (Contains (seen ++ v ∷ [])) c.loop-v.kept.items =
    All-weaker (Contains seen) (Contains (seen ++ v ∷ [])) (λ k m. Contains-append_left seen (v ∷ []) k m) c.loop-v.kept.items c.loop-v.invariant.2 in (
      pruned_more d (c.covering_of_variants_is_a_preorder.ensures d) c.loop-v.yielded c.loop-v.kept.items v c.loop-v.invariant.0 kept_alike given_alike c.in_ok-kept.kept.items added,
      added_all d (λ k. IsFlatVariant d k × All (AreAlike k) all) c.loop-v.kept.items v c.in_ok-kept.kept.items added c.loop-v.invariant.1 (flat, mine),
      added_all d (Contains (seen ++ v ∷ [])) c.loop-v.kept.items v c.in_ok-kept.kept.items added among (Contains-append_right seen (v ∷ []) v (contains_here v [])),
    )
