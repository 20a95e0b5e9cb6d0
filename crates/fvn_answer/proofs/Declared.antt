-- Operators with axioms are declared.
use Rattle.std.proofs.Common.{ℕ, ◌<◌, length, subst, inl, inr}
use Rattle.std.proofs.lemmas.Bool.{cases_lt}
use Rattle.std.proofs.lemmas.List.{get_or_past}
use Rattle.fvn_terms.specs.declared.plain.OpId.{OpId}
use Rattle.fvn_terms.specs.declared.declarations.OpDecl.{OpDecl}
use Rattle.fvn_terms.specs.declared.declarations.Declarations.{Declarations}
use Rattle.fvn_terms.specs.Signature.{axioms, unknown}
use Rattle.fvn_terms.specs.Equality.{IsAssociative}

-- an associative operator is declared
pub associative-declared : (d : Declarations) (f : OpId) → IsAssociative (axioms d f) → f.0 < length d.ops
associative-declared d f a = elim (cases_lt f.0 (length d.ops)) [
  | inl low ↦ low
  | inr high ↦ absurd (subst (λ (o : OpDecl). IsAssociative o.axioms) (get_or_past d.ops f.0 unknown high) a)
]
