-- The variables of sums, and of free and commutative operators over variables.
use Rattle.std.proofs.Common.{ℕ, zero, suc, ◌<◌, List, [], ◌∷◌, replicate, true, false, inl, inr, arith, Contains, Option, Some, None}
use Rattle.std.specs.List.{AllByRecursion}
use Rattle.fvn_base.proofs.Membership.{contains_here, contains_later}
use Rattle.fvn_terms.specs.declared.plain.Var.{Var as Variable}
use Rattle.fvn_terms.specs.declared.plain.OpId.{OpId}
use Rattle.fvn_terms.specs.declared.declarations.Axioms.{Axioms}
use Rattle.fvn_terms.specs.declared.declarations.Axioms.TheVariants.{Free, Comm, AssocComm, AssocCommId}
use Rattle.fvn_terms.specs.declared.declarations.Declarations.{Declarations}
use Rattle.fvn_terms.specs.Substitution.{Occurs}
use Rattle.fvn_terms.specs.Signature.{axioms}
use Rattle.fvn_forms.specs.Flat.{FlatTerm, fvar, fpack, plain}
use Rattle.fvn_forms.specs.InOrder.{sort}
use Rattle.fvn_forms.specs.Canon.{empty_sum, joined, sum, built, build}
use Rattle.fvn_terms.specs.Equality.{identity}
use Rattle.fvn_forms.proofs.InOrder.{each_append, each_sort}
use Rattle.fvn_flat.proofs.Occurrences.{OccursIn, occurs_in_app}
use Rattle.fvn_flat.specs.SolvedLists.{Part, component, members, IsSimple}

-- what holds of the variable of each part that a class has holds of the members of its sum
pub each_member : (P : FlatTerm → Type 0) (columns : List ℕ) (parts : List Part) (k : ℕ) → ((p : Part) → Contains parts p → 0 < component columns p.solution k → P (fvar p.variable)) → AllByRecursion P (members columns parts k)
each_member P columns [] k h = tt
each_member P columns (p ∷ parts) k h =
    each_append P (replicate (component columns p.solution k) (fvar p.variable)) (members columns parts k)
    (copies (component columns p.solution k) (h p (contains_here p parts)))
    (each_member P columns parts k (λ q m. h q (contains_later p parts q m)))
  where
    copies : (n : ℕ) → (0 < n → P (fvar p.variable)) → AllByRecursion P (replicate n (fvar p.variable))
    copies zero one = tt
    copies (suc n) one = (one (omega arith), copies n (λ l. one (omega arith)))

module _ (Q : Variable → Type 0) where
  -- what holds of each variable in the form
  abbrev pub Holds : FlatTerm → Type 0
  Holds u = (x : Variable) → Occurs x (plain u) → Q x

  holds_in : (l : List FlatTerm) → AllByRecursion Holds l → (x : Variable) → OccursIn x l → Q x
  holds_in [] h x o = absurd o
  holds_in (u ∷ l) h x (inl o) = h.0 x o
  holds_in (u ∷ l) h x (inr o) = holds_in l h.1 x o

  module _ (d : Declarations) (f : OpId) where
    holds_empty : (i : Option OpId) → Holds (empty_sum d f i)
    holds_empty None x o = absurd o
    holds_empty (Some e) x o = absurd o

    holds_joined : (l : List FlatTerm) → AllByRecursion Holds l → Holds (joined d f l)
    holds_joined [] h x o = holds_empty (identity (axioms d f)) x o
    holds_joined (u ∷ []) h x o = h.0 x o
    holds_joined (u ∷ v ∷ l) h x o = holds_in (u ∷ v ∷ l) h x ((occurs_in_app x f true (fpack (u ∷ v ∷ l))).0 o)

    -- what holds of the variables of each summand holds of those of the sum
    pub holds_sum : (l : List FlatTerm) → AllByRecursion Holds l → Holds (sum d f l)
    holds_sum l h = holds_joined (sort l) (each_sort Holds l h)

    holds_built : (a : Axioms) → IsSimple a → (l : List FlatTerm) → AllByRecursion Holds l → Holds (built d a f l)
    holds_built Free s l h x o = holds_in l h x ((occurs_in_app x f false (fpack l)).0 o)
    holds_built Comm s l h x o = holds_in (sort l) (each_sort Holds l h) x ((occurs_in_app x f false (fpack (sort l))).0 o)
    holds_built AssocComm s l h x o = absurd s
    holds_built (AssocCommId e) s l h x o = absurd s

    -- and of a free or commutative operator over them
    pub holds_build : IsSimple (axioms d f) → (l : List FlatTerm) → AllByRecursion Holds l → Holds (build d f l)
    holds_build simple [] h x o = absurd o
    holds_build simple (u ∷ l) h x o = holds_built (axioms d f) simple (u ∷ l) h x o
