-- The values of a unifier have the summands that the sorts of the problem's variables allow.
use Rattle.fvn_combine_bounds.specs.CombineCompleteLaws.{UnifiersGoWith}
use Rattle.fvn_combine_bounds.specs.Narrow.{IsSortedAt}
use Rattle.fvn_combine_bounds.specs.Laws.{NarrowClassesHaveOneSummand, OtherClassesHaveSomeSummand}
use Rattle.fvn_combine_inferring.specs.Laws.{SortedUnifiersGoWith}

pub sorted_values : UnifiersGoWith → NarrowClassesHaveOneSummand → OtherClassesHaveSomeSummand → SortedUnifiersGoWith
sorted_values law narrow other d good problem is_problem t made table s closed u unifies admits sorted keeps = record {
  go = law d good.fits problem is_problem t made table u unifies s closed admits;
  heeded = λ heeded.
      let at : IsSortedAt d problem t s u = record {
        good = good;
        is_problem = is_problem;
        well_made = made;
        table = table;
        closed = closed;
        unifies = unifies;
        sorted = keeps heeded;
        admits = admits;
      } in
      record {
        once = λ f assoc k h. narrow d problem t s u at f assoc k h;
        some = λ f k h. other d problem t s u at f k h;
      };
}
