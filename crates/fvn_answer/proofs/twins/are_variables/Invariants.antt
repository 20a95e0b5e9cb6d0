-- those so far are variables
use Rattle.std.proofs.Common.{◌≡◌, true, ℕ, ◌<◌, get_or}
use Rattle.std.specs.Option.{is_some}
use Rattle.fvn_forms.specs.Flat.{FlatTerm}
use Rattle.fvn_flat.specs.Forms.{variable_of}
use Rattle.fvn_answer.proofs.twins.are_variables.Given as goal

abbrev pub invariant-loop-u : goal.invariant-loop-u
invariant-loop-u l = (i : ℕ) (z : FlatTerm) → i < l.u-index → is_some (variable_of (get_or l.args i z)) ≡ true
