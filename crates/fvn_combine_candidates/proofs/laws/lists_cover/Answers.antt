-- A choice that covers, listed.
use Rattle.fvn_combine_nodes.specs.States.{class_of}
use Rattle.fvn_combine_admissible.specs.Listed.{systems_of}
use Rattle.fvn_combine_candidates.proofs.Systems.{make_systems, lists_alive}
use Rattle.fvn_combine_candidates.proofs.laws.lists_cover.Goals as goal

pub returns : goal.returns
returns c d good problem is_problem t made table s heads leaf r reading bases are have sorted shared are_shared u unifier admits obey_heads keeps =
    let y = systems_of r bases in
    let systems = make_systems d t (class_of s) r reading bases are in
    let alive = lists_alive d t (class_of s) r reading s bases are have in
    let told = c.readings_tell.ensures d t s leaf.closed r reading in
    let covering = c.sorted_leaves_cover.ensures d good problem is_problem t made table s heads leaf told y systems alive u unifier admits obey_heads in
    let l = c.covering_choices_are_listed.ensures d problem t made s leaf.closed r reading sorted shared are_shared y u covering.0 covering.1 (λ e. covering.2 (keeps e)) in (
      l.0,
      l.1,
      l.2,
      λ tags are_tags.
          let listed = l.4 tags are_tags in (
            listed.0,
            λ wheels are_wheels bounds.
                let within = c.sorted_choices_are_within.ensures d t (class_of s) r reading bases are tags wheels are_wheels sorted bounds l.1 l.3 listed.1 in
                let possible = c.listed_choices_are_possible.ensures d good.fits problem is_problem t made table (class_of s) r reading bases are sorted shared are_shared l.0 tags are_tags wheels are_wheels l.1 l.3 in
                possible.0 (listed.0.possible, listed.0.full, within),
          ),
    )
