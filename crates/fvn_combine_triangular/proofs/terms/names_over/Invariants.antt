-- The names so far.
use Rattle.std.proofs.Common.{◌≡◌, map, take, slice_index_or}
use Rattle.fvn_forms.specs.Flat.{fvar}
use Rattle.fvn_combine_nodes.specs.States.{class_of}
use Rattle.fvn_combine_triangular.specs.inner.Planning.{no_name}
use Rattle.fvn_combine_triangular.proofs.terms.names_over.Given as goal

abbrev pub invariant-loop-k : goal.invariant-loop-k
invariant-loop-k l = l.args.items ≡ map (λ k. fvar (slice_index_or l.names (class_of l.state k) no_name)) (take l.k-index l.ks)
