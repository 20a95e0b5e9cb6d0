-- what was noted of one list and then of the other, in order
use Rattle.std.proofs.Common.{[], length, rules, subst}
use Rattle.std.proofs.lemmas.List.Sorted.{IsNonDecreasingBy-from_sort_by_key}
use Rattle.fvn_cover_counts.specs.Places.{column, places_from}
use Rattle.fvn_cover_counts.specs.inner.Rows.{Notes}
use Rattle.fvn_cover_counts.proofs.Profiling.{profile_each, profile_every}
use Rattle.fvn_cover_counts.proofs.profile.Profile.of.Goals as goal

pub returns : goal.returns
returns c =
    let ts = c.args.terms.now in
    let us = c.args.values.now in
    let some = c.in_ok-some.some.items in
    let rows = c.in_ok-rows.rows.items in
    let sorted = c.sort_by_key.new.self.items in
    let order = c.in_ok-sort_by_key.ensures.permutation in
    let first : Notes [] (λ s. places_from 0 (column s ts)) some = subst (λ l. Notes l (λ s. places_from 0 (column s ts)) some) c.new-none.ensures.items c.in_ok-some.ensures in
    let second : Notes some (λ s. places_from (length ts) (column s us)) rows = c.in_ok-rows.ensures in
    record {
      profile = record {
        each = profile_each ts us some rows sorted first second order;
        every = profile_every ts us some rows sorted first second order;
        ordered = IsNonDecreasingBy-from_sort_by_key (λ r. length r.places) _ c.in_ok-sort_by_key.ensures.sorted (λ a r q k. search rules);
      };
    }
