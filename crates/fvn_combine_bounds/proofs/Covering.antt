-- A unifier is covered by the choice that its values obey, whose tags follow the heads, and which keeps to what sorts ask.
use Rattle.fvn_combine_nodes.specs.Unifiers.{value_at}
use Rattle.fvn_combine_complete.specs.Laws.{UnifiersGoWith, TablesHaveSums, ValuesObeyChoices, ObeyedChoicesFall, ObeyedChoicesCover}
use Rattle.fvn_combine_bounds.specs.Laws.{ObeyedChoicesKeepBounds, SortedLeavesCover}

pub sorted_cover : UnifiersGoWith → TablesHaveSums → ValuesObeyChoices → ObeyedChoicesFall → ObeyedChoicesCover → ObeyedChoicesKeepBounds → SortedLeavesCover
sorted_cover go_with sums obey fall cover keep d good problem kinded t made table s heads leaf told y systems alive u unifier admits obey_heads =
    let has = sums d good.fits problem kinded t made table in
    let values = go_with d good.fits problem kinded t made table u unifier s leaf.closed admits in
    let chosen = obey d good t made has s heads leaf told y systems alive (value_at d u t.nodes) values obey_heads in
    let c = chosen.0 in
    let ranked = fall d t made has s heads leaf told y systems (value_at d u t.nodes) values c chosen.3 in (
      c,
      record {
        possible = chosen.1;
        full = chosen.2;
        rank = ranked.0;
        falls = ranked.1;
        covers = λ first next plan after plan_by bindings by. cover d good problem kinded t made table s heads leaf told y systems u unifier admits c chosen.3 first next plan after plan_by bindings by;
      },
      λ sorted. keep d problem t s u
          record {
            good = good;
            is_problem = kinded;
            well_made = made;
            table = table;
            closed = leaf.closed;
            unifies = unifier;
            sorted = sorted;
            admits = admits;
          }
          y c chosen.3,
      chosen.4,
    )
