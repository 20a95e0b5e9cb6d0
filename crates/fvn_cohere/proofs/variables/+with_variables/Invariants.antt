-- The variables of the arguments so far, and the measures.
use Rattle.std.proofs.Common.{◌≡◌, ◌+◌, ◌*◌, take}
use Rattle.std.specs.Prelude.{fold}
use Rattle.fvn_terms.specs.Term.{nodes, nodes_all}
use Rattle.fvn_terms.specs.Plain.{term, terms}
use Rattle.fvn_flat.specs.Problems.{variables_among}
use Rattle.fvn_flat.specs.Variables.{with_variable}
use Rattle.fvn_cohere.proofs.variables.+with_variables.Given as goal

abbrev pub decreases-with_variables : goal.decreases-with_variables
decreases-with_variables l = 2 * nodes (term l.t.now)

abbrev pub decreases-with_variables_among : goal.decreases-with_variables_among
decreases-with_variables_among l = 2 * nodes_all l.us.now + 1

abbrev pub invariant-with_variables_among-loop-u : goal.invariant-with_variables_among-loop-u
invariant-with_variables_among-loop-u l = l.all.items ≡ fold with_variable l.initial.all.items (variables_among (terms (take l.u-index l.u-items)))
