-- The arguments so far are added, and the measures.
use Rattle.std.proofs.Common.{◌≡◌, ◌+◌, ◌*◌, take}
use Rattle.fvn_terms.specs.Term.{nodes, nodes_all}
use Rattle.fvn_terms.specs.Plain.{term, terms}
use Rattle.fvn_weights.specs.Weighing.{linear}
use Rattle.fvn_weights.specs.inner.Forms.{AreAdded}
use Rattle.fvn_weights.proofs.forms.+add.Given as goal

-- twice the nodes, and one more for arguments
abbrev pub decreases-add_term : goal.decreases-add_term
decreases-add_term l = 2 * nodes (term l.t.now)

abbrev pub decreases-add_all : goal.decreases-add_all
decreases-add_all l = 2 * nodes_all l.us.now + 1

abbrev pub invariant-add_all-loop-t : goal.invariant-add_all-loop-t
invariant-add_all-loop-t l = record {
  count : l.i ≡ l.t-index;
  added : AreAdded (linear l.weights.list) l.factor l.fn.f (terms (take l.t-index l.t-items)) l.initial.form l.form;
}
