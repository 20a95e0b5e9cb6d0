-- What a search that ends at a partition of a problem's terms came to before: all that joins more.
use Rattle.std.specs.Prelude.{◌≡◌, ◌≢◌, ◌⊎◌, ◌<◌, ℕ, List, All, Any}
use Rattle.fvn_terms.specs.declared.plain.OpId.{OpId}
use Rattle.fvn_terms.specs.declared.declarations.Declarations.{Declarations}
use Rattle.fvn_terms.specs.Term.{Term, Terms, app}
use Rattle.fvn_terms.specs.Signature.{axioms}
use Rattle.fvn_terms.specs.Substitution.{Substitution, apply}
use Rattle.fvn_terms.specs.Equality.{BEqual}
use Rattle.fvn_terms.specs.Unifiers.{Problem}
use Rattle.fvn_lindio.specs.declared.system.System.{System}
use Rattle.fvn_lindio.specs.Systems.{IsMinimal, rows_of}
use Rattle.fvn_flat.specs.Partitions.{IsNode, HasNoIdentity}
use Rattle.fvn_flat.specs.SolvedLists.{component}
use Rattle.fvn_flat.specs.Solving.{problem_of, IsBasisCause}
use Rattle.fvn_flat.specs.declared.solver.Pairs.{Pairs}

-- u makes equal the terms of the problem that are in one class
abbrev pub Joins : Declarations → Problem → (Term → ℕ) → Substitution → Type 0
Joins d problem class u = (s t : Term) → IsNode d problem s → IsNode d problem t → class s ≡ class t → BEqual d (apply u s) (apply u t)

-- u makes the terms of some of these pairs equal
abbrev pub JoinsSome : Declarations → List (Term × Term) → Substitution → Type 0
JoinsSome d pairs u = Any (λ p. BEqual d (apply u p.0) (apply u p.1)) pairs

-- The partition at which a search ends: f's sum system under it is refused; and terms that were decided to be apart before.
pub record IsEndedAt (d : Declarations) (given : Pairs) (f : OpId) (system : System) : Type 0 where
  pub cause : IsBasisCause d given f system
  pub apart : List (Term × Term)
  pub nodes : All (λ p. IsNode d (problem_of given) p.0 × IsNode d (problem_of given) p.1) apart
  pub different : All (λ p. cause.class p.0 ≢ cause.class p.1) apart

-- the term is headed by an operator other than f that has no identity
pub record IsAlien (d : Declarations) (f : OpId) (t : Term) : Type 0 where
  pub operator : OpId
  pub arguments : Terms
  pub is : t ≡ app operator arguments
  pub other : operator ≢ f
  pub no_identity : HasNoIdentity (axioms d operator)

-- some minimal solution of the system has both classes
pub record AreTakenTogether (columns : List ℕ) (system : System) (k l : ℕ) : Type 0 where
  pub solution : List ℕ
  pub minimal : IsMinimal system.columns (rows_of system) solution
  pub left : 0 < component columns solution k
  pub right : 0 < component columns solution l

-- u makes equal two aliens of two classes that a minimal solution of the refused system has both
pub record JoinsAliens (d : Declarations) (given : Pairs) (f : OpId) (system : System) (cause : IsBasisCause d given f system) (u : Substitution) : Type 0 where
  pub first : Term
  pub second : Term
  pub first_node : IsNode d (problem_of given) first
  pub second_node : IsNode d (problem_of given) second
  pub first_alien : IsAlien d f first
  pub second_alien : IsAlien d f second
  pub different : cause.class first ≢ cause.class second
  pub taken : AreTakenTogether cause.columns system (cause.class first) (cause.class second)
  pub equal : BEqual d (apply u first) (apply u second)

-- u makes more equal than the partition does: terms that are apart, or such aliens
abbrev pub JoinsMore : (d : Declarations) (given : Pairs) (f : OpId) (system : System) → IsEndedAt d given f system → Substitution → Type 0
JoinsMore d given f system at u = JoinsSome d at.apart u ⊎ JoinsAliens d given f system at.cause u

-- What is to come is finer: where it joins all that the partition joins, it joins no more.
pub record IsFinerToCome (d : Declarations) (given : Pairs) (f : OpId) (system : System) (IsToCome : Substitution → Type 0) : Type 0 where
  pub at : IsEndedAt d given f system
  pub finer : (u : Substitution) → IsToCome u → Joins d (problem_of given) at.cause.class u → JoinsMore d given f system at u → ⊥
