-- What is left of the path decides.
use Rattle.std.specs.Prelude.{◌↔◌, drop}
use Rattle.fvn_forms.specs.Flat.{FlatTerm}
use Rattle.fvn_places.specs.Paths.{LeadsTo}
use Rattle.fvn_places.proofs.leading.form_at.Given as goal

abbrev pub invariant-loop-i : goal.invariant-loop-i
invariant-loop-i l = (x : FlatTerm) → LeadsTo l.path l.t x ↔ LeadsTo (drop l.i-index l.path) l.at x
