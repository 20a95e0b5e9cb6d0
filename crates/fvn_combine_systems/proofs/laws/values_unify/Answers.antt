-- The law, by its lemma.
use Rattle.fvn_combine_systems.proofs.Substituted.{values_unify}
use Rattle.fvn_combine_systems.proofs.laws.values_unify.Goals as goal

pub returns : goal.returns
returns c = λ d fits problem is_problem t made table class sides value are s keeps gives. values_unify d t made class value are s gives fits problem is_problem table sides keeps
