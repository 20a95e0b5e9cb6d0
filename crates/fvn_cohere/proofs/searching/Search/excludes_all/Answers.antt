-- The sides are those of the search.
use Rattle.fvn_cohere.proofs.searching.Search.excludes_all.Goals as goal

pub excludes-requires : goal.excludes-requires
excludes-requires c = record {
  identities = c.requires.posed.identities_are;
  left = c.requires.posed.left_term;
  right = c.requires.posed.right_term;
}

pub returns : goal.returns
returns c = c.excludes.ensures
