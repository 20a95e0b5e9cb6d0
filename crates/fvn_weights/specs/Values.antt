-- The value of a term under linear weights of operators.
-- D. S. Lankford, On proving term rewriting systems are Noetherian, 1979.
use Rattle.std.specs.Prelude.{◌≡◌, ◌≤◌, ◌<◌, ℕ, ◌+◌, ◌*◌, Bool, true, false, Some}
use Rattle.fvn_terms.specs.declared.plain.Var.{Var}
use Rattle.fvn_terms.specs.declared.plain.OpId.{OpId}
use Rattle.fvn_terms.specs.declared.declarations.Declarations.{Declarations}
use Rattle.fvn_terms.specs.Term.{Term, Terms, var, app, none, more}
use Rattle.fvn_terms.specs.Signature.{axioms}
use Rattle.fvn_terms.specs.Substitution.{same_var}
use Rattle.fvn_terms.specs.Equality.{identity, IsCommutative, IsAssociative}

-- what each operator adds, and by what it multiplies the value of the argument at each place
pub record Linear : Type 0 where
  pub constant : OpId → ℕ
  pub coefficient : OpId → ℕ → ℕ

abbrev mutual
  -- the value of a term, where each variable has a value
  pub value : Linear → (Var → ℕ) → Term → ℕ
  value w at (var x) = at x
  value w at (app f ts) = w.constant f + value_from w at f 0 ts

  -- what the arguments of f from the place i on add
  pub value_from : Linear → (Var → ℕ) → OpId → ℕ → Terms → ℕ
  value_from w at f i none = 0
  value_from w at f i (more t ts) = w.coefficient f i * value w at t + value_from w at f (i + 1) ts

-- the value is a linear form over the variables: this is its constant
abbrev pub constant_of : Linear → Term → ℕ
constant_of w = value w (λ x. 0)

-- one where the two variables are one, else nothing
abbrev pub one_at : Var → Var → ℕ
one_at x y = one_if (same_var x y) where
  one_if : Bool → ℕ
  one_if true = 1
  one_if false = 0

-- the same weights, but that no operator adds anything
abbrev pub without_constants : Linear → Linear
without_constants w = record { constant = λ f. 0; coefficient = w.coefficient }

-- the coefficient of x in the linear form
abbrev pub factor_of : Linear → Var → Term → ℕ
factor_of w x = value (without_constants w) (one_at x)

-- f takes its two arguments once each
abbrev pub HasOnes : Linear → OpId → Type 0
HasOnes w f = (w.coefficient f 0 ≡ 1) × (w.coefficient f 1 ≡ 1)

-- f takes its two arguments once each and adds nothing, and e adds nothing
abbrev pub IsNeutral : Linear → OpId → OpId → Type 0
IsNeutral w f e = (w.coefficient f 0 ≡ 1) × ((w.coefficient f 1 ≡ 1) × ((w.constant f ≡ 0) × (w.constant e ≡ 0)))

-- The coefficients are positive. Where f is commutative, they are equal; where it is associative or has an identity,
-- they are one; an identity, and what has one, add nothing.
pub record Fits (d : Declarations) (w : Linear) (f : OpId) : Type 0 where
  pub positive : (i : ℕ) → 1 ≤ w.coefficient f i
  pub alike : IsCommutative (axioms d f) → w.coefficient f 0 ≡ w.coefficient f 1
  pub ones : IsAssociative (axioms d f) → HasOnes w f
  pub neutral : (e : OpId) → identity (axioms d f) ≡ Some e → IsNeutral w f e

-- the left side has a greater constant than the right one, and no smaller coefficient of any variable
pub record Falls (w : Linear) (left right : Term) : Type 0 where
  pub constant : constant_of w right < constant_of w left
  pub factors : (x : Var) → factor_of w x right ≤ factor_of w x left
