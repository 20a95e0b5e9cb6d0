-- The lemma on systems.
use Rattle.fvn_combine_nodes.specs.States.{class_of}
use Rattle.fvn_combine_candidates.proofs.Systems.{lists_alive}
use Rattle.fvn_combine_candidates.proofs.laws.alive_bases_make_alive.Goals as goal

pub returns : goal.returns
returns c = λ d t s r reading bases are have. lists_alive d t (class_of s) r reading s bases are have
