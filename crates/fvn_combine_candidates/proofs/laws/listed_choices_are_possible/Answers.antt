-- The lemmas on choices by lists.
use Rattle.fvn_combine_candidates.proofs.Possible.{to_wheels, from_wheels}
use Rattle.fvn_combine_candidates.proofs.laws.listed_choices_are_possible.Goals as goal

pub returns : goal.returns
returns c d fits problem is_problem t made table class r reading bases are sorted shared are_shared options tags are_tags wheels are_wheels numbers numbered =
    let valid = c.valid_choices_are_acceptable.ensures in (
      to_wheels d t class r reading bases are tags numbers numbered valid fits problem is_problem made table wheels are_wheels,
      from_wheels d t class r reading bases are tags numbers numbered valid fits problem is_problem made table wheels are_wheels sorted shared are_shared options are_tags,
    )
