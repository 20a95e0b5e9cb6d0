-- Which variables a substitution binds.
use Rattle.std.specs.Prelude.{List, map}
use Rattle.fvn_terms.specs.declared.plain.Var.{Var}
use Rattle.fvn_flat.specs.Bindings.{Bindings}

-- the variables of the pairs, in their order
abbrev pub bound_variables : Bindings → List Var
bound_variables s = map (λ p. p.0) s
