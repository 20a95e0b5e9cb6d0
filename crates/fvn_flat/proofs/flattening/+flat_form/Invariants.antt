-- The forms of the arguments so far, and the measures of the recursion.
use Rattle.std.proofs.Common.{◌≡◌, ◌+◌, ◌*◌, ◌++◌, take}
use Rattle.fvn_terms.specs.Term.{nodes, nodes_all}
use Rattle.fvn_terms.specs.Plain.{term, terms}
use Rattle.fvn_flat.specs.inner.Gathered.{gathered}
use Rattle.fvn_flat.proofs.flattening.+flat_form.Given as goal

abbrev pub invariant-add_forms-loop-u : goal.invariant-add_forms-loop-u
invariant-add_forms-loop-u l = l.forms.items ≡ l.initial.forms.items ++ gathered l.sig l.f (terms (take l.u-index l.u-items))

-- twice the nodes, and one more for arguments
abbrev pub decreases-flat_form : goal.decreases-flat_form
decreases-flat_form l = 2 * nodes (term l.t.now)

abbrev pub decreases-add_forms : goal.decreases-add_forms
decreases-add_forms l = 2 * nodes_all l.us.now + 1
