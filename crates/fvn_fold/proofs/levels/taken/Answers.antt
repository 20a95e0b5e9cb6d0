-- one more candidate
use Rattle.std.proofs.Common.{◌≡◌, ◌+◌, ◌<◌, length, get_or, take, refl, sym, ap, ◌∙◌, subst, arith}
use Rattle.std.specs.Prelude.{◌↔◌, IsTrue}
use Rattle.std.proofs.lemmas.List.{map-id, length_push}
use Rattle.std.proofs.lemmas.Iterator.Adapters.{YieldsList-from_vec}
use Rattle.std.proofs.lemmas.Iterator.Consumers.{YieldsList-turn, YieldsList-so_far}
use Rattle.fvn_cover.specs.Pruning.{IsCoveredBySome}
use Rattle.fvn_fold.proofs.Takings.{none_taken, taken_one, zip_at, zip_length, taking_facts}
use Rattle.fvn_fold.proofs.levels.taken.Goals as goal

pub loop-candidate-init : goal.loop-candidate-init
loop-candidate-init c = (none_taken c.args.sig.now c.args.kept.now c.args.before.items c.requires.apart, refl)

pub bounds-marks-i : goal.bounds-marks-i
bounds-marks-i c =
    let all = c.args.candidates.items in
    let seen = c.loop-candidate.yielded in
    let v = c.in-Some.candidate in
    let gives = c.into_iter-candidate-iterator.ensures.into_iter_gives in
    let road = YieldsList-from_vec all gives.0 (gives.1 ∙ c.args.candidates.ok.0) in
    let turn = YieldsList-turn road seen c.loop-candidate.candidate-iterator c.loop-candidate.yielded_by c.next.result c.next.new.self v c.in-Some.is c.next.ensures.steps in
    let same = zip_length (λ w m. IsTrue m ↔ IsCoveredBySome c.args.sig.now c.args.kept.now w) all c.args.marks.now c.requires.marks in
    let at = c.loop-candidate.invariant.1 in
    let low = turn.0 in
    omega (arith, same, at, low)

pub with_candidate-requires-clause-flat : goal.with_candidate-requires-clause-flat
with_candidate-requires-clause-flat c =
    let all = c.args.candidates.items in
    let seen = c.loop-candidate.yielded in
    let v = c.in-Some.candidate in
    let gives = c.into_iter-candidate-iterator.ensures.into_iter_gives in
    let road = YieldsList-from_vec all gives.0 (gives.1 ∙ c.args.candidates.ok.0) in
    let turn = YieldsList-turn road seen c.loop-candidate.candidate-iterator c.loop-candidate.yielded_by c.next.result c.next.new.self v c.in-Some.is c.next.ensures.steps in
    let so_far : seen ≡ take (length seen) all = sym (map-id seen) ∙ YieldsList-so_far road seen c.loop-candidate.candidate-iterator c.loop-candidate.yielded_by in
    let facts = taking_facts c.args.sig.now c.args.kept.now c.args.before.items all seen c.loop-candidate.after.items v c.loop-candidate.invariant.0 so_far turn.0 turn.1 c.requires.comparable.candidates_flat c.requires.flat c.requires.alike c.requires.candidates in
    facts.flat

pub with_candidate-requires-clause-alike : goal.with_candidate-requires-clause-alike
with_candidate-requires-clause-alike c =
    let all = c.args.candidates.items in
    let seen = c.loop-candidate.yielded in
    let v = c.in-Some.candidate in
    let gives = c.into_iter-candidate-iterator.ensures.into_iter_gives in
    let road = YieldsList-from_vec all gives.0 (gives.1 ∙ c.args.candidates.ok.0) in
    let turn = YieldsList-turn road seen c.loop-candidate.candidate-iterator c.loop-candidate.yielded_by c.next.result c.next.new.self v c.in-Some.is c.next.ensures.steps in
    let so_far : seen ≡ take (length seen) all = sym (map-id seen) ∙ YieldsList-so_far road seen c.loop-candidate.candidate-iterator c.loop-candidate.yielded_by in
    let facts = taking_facts c.args.sig.now c.args.kept.now c.args.before.items all seen c.loop-candidate.after.items v c.loop-candidate.invariant.0 so_far turn.0 turn.1 c.requires.comparable.candidates_flat c.requires.flat c.requires.alike c.requires.candidates in
    facts.alike

pub loop-candidate-preserved : goal.loop-candidate-preserved
loop-candidate-preserved c =
    let all = c.args.candidates.items in
    let seen = c.loop-candidate.yielded in
    let v = c.in-Some.candidate in
    let gives = c.into_iter-candidate-iterator.ensures.into_iter_gives in
    let road = YieldsList-from_vec all gives.0 (gives.1 ∙ c.args.candidates.ok.0) in
    let turn = YieldsList-turn road seen c.loop-candidate.candidate-iterator c.loop-candidate.yielded_by c.next.result c.next.new.self v c.in-Some.is c.next.ensures.steps in
    let so_far : seen ≡ take (length seen) all = sym (map-id seen) ∙ YieldsList-so_far road seen c.loop-candidate.candidate-iterator c.loop-candidate.yielded_by in
    let facts = taking_facts c.args.sig.now c.args.kept.now c.args.before.items all seen c.loop-candidate.after.items v c.loop-candidate.invariant.0 so_far turn.0 turn.1 c.requires.comparable.candidates_flat c.requires.flat c.requires.alike c.requires.candidates in
    let exact = zip_at (λ w m. IsTrue m ↔ IsCoveredBySome c.args.sig.now c.args.kept.now w) all c.args.marks.now c.requires.marks c.loop-candidate.i v _ (subst (λ n. n < length all) (sym c.loop-candidate.invariant.1) turn.0) (subst (λ n. v ≡ get_or all n v) (sym c.loop-candidate.invariant.1) turn.1) in (
      taken_one c.args.sig.now c.args.kept.now c.args.before.items (c.covering_of_variants_is_a_preorder.ensures c.args.sig.now) seen c.loop-candidate.after.items v c.in_ok-after.after.items _ exact c.in_ok-after.ensures facts.like c.loop-candidate.invariant.0,
      ap (λ n. n + 1) c.loop-candidate.invariant.1 ∙ sym (length_push seen v),
    )
