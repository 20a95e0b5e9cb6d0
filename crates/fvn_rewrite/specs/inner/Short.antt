-- Sums with more arguments than another form.
use Rattle.std.specs.Prelude.{◌≡◌, ◌<◌, ◌≤◌, length, Some, None}
use Rattle.fvn_terms.specs.declared.plain.OpId.{OpId}
use Rattle.fvn_terms.specs.declared.declarations.Declarations.{Declarations}
use Rattle.fvn_terms.specs.Signature.{axioms}
use Rattle.fvn_terms.specs.Equality.{IsAssociative, identity}
use Rattle.fvn_forms.specs.Flat.{FlatTerm}
use Rattle.fvn_flat.specs.Forms.{head_of, args_of}

-- the first is a sum without an identity, and has more arguments than the second
pub record LacksArguments (d : Declarations) (p t : FlatTerm) : Type 0 where
  pub operator : OpId
  pub heads : head_of p ≡ Some operator
  pub associative : IsAssociative (axioms d operator)
  pub lasting : identity (axioms d operator) ≡ None
  pub are_two : 2 ≤ length (args_of p)
  pub few : length (args_of t) < length (args_of p)
