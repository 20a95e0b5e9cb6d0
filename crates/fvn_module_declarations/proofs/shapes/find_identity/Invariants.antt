-- The attributes that are left have the first identity.
use Rattle.std.proofs.Common.{◌≡◌, drop}
use Rattle.fvn_module_declarations.specs.Operators.{identity_in}
use Rattle.fvn_module_declarations.proofs.shapes.find_identity.Given as goal

-- the attributes that are left have the first identity
abbrev pub invariant-loop-attribute : goal.invariant-loop-attribute
invariant-loop-attribute l = identity_in (drop l.attribute-index l.attributes) ≡ identity_in l.attributes
