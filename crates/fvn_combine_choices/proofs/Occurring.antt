-- The variables of a sum are those of its members, and those of a flat form are among those of its term.
use Rattle.std.proofs.Common.{Bool, true, false, List, [], ◌∷◌, ◌⊎◌, inl, inr, Option, Some, None}
use Rattle.std.specs.Prelude.{if◌then◌else◌}
use Rattle.std.specs.Ordering.{is_gt}
use Rattle.fvn_terms.specs.declared.plain.Var.{Var}
use Rattle.fvn_terms.specs.declared.plain.OpId.{OpId}
use Rattle.fvn_terms.specs.declared.plain.SortId.{SortId}
use Rattle.fvn_terms.specs.declared.declarations.Declarations.{Declarations}
use Rattle.fvn_terms.specs.Term.{Term}
use Rattle.fvn_terms.specs.Substitution.{Occurs}
use Rattle.fvn_terms.specs.Signature.{axioms, HasKind}
use Rattle.fvn_terms.proofs.Occurrences.{BEqual-occurs}
use Rattle.fvn_forms.specs.Flat.{FlatTerm, fpack, plain}
use Rattle.fvn_forms.specs.Order.{flat_cmp}
use Rattle.fvn_forms.specs.InOrder.{insert, sort}
use Rattle.fvn_forms.specs.Canon.{empty_sum, joined, sum, canon}
use Rattle.fvn_terms.specs.Equality.{identity}
use Rattle.fvn_forms.specs.FitsKinds.{FitsKinds}
use Rattle.fvn_forms.proofs.ToCanon.{to_canon}
use Rattle.fvn_flat.proofs.Occurrences.{OccursIn, occurs_in_app}

-- a variable of the flat form of a well-kinded term stands in the term
pub canon_occurs : (d : Declarations) → FitsKinds d → (z : Var) (u : Term) (k : SortId) → HasKind d u k → Occurs z (plain (canon d u)) → Occurs z u
canon_occurs d fits z u k h o = BEqual-occurs z d u (plain (canon d u)) (to_canon d fits u k h) o

module _ (z : Var) where
  insert_out : (u : FlatTerm) (l : List FlatTerm) → OccursIn z (insert u l) → Occurs z (plain u) ⊎ OccursIn z l
  insert_out u [] (inl o) = inl o
  insert_out u [] (inr o) = absurd o
  insert_out u (v ∷ l) o = go (is_gt (flat_cmp u v)) o (insert_out u l)
    where
      go : (b : Bool) → OccursIn z (if b then v ∷ insert u l else u ∷ v ∷ l) → (OccursIn z (insert u l) → Occurs z (plain u) ⊎ OccursIn z l) → Occurs z (plain u) ⊎ OccursIn z (v ∷ l)
      go true (inl p) rest = inr (inl p)
      go true (inr p) rest = elim (rest p) [ inl q ↦ inl q | inr q ↦ inr (inr q) ]
      go false p rest = p

  insert_in : (u : FlatTerm) (l : List FlatTerm) → Occurs z (plain u) ⊎ OccursIn z l → OccursIn z (insert u l)
  insert_in u [] o = o
  insert_in u (v ∷ l) o = go (is_gt (flat_cmp u v)) (insert_in u l) o
    where
      go : (b : Bool) → (Occurs z (plain u) ⊎ OccursIn z l → OccursIn z (insert u l)) → Occurs z (plain u) ⊎ OccursIn z (v ∷ l) → OccursIn z (if b then v ∷ insert u l else u ∷ v ∷ l)
      go true rest (inl p) = inr (rest (inl p))
      go true rest (inr (inl p)) = inl p
      go true rest (inr (inr p)) = inr (rest (inr p))
      go false rest p = p

  sort_out : (l : List FlatTerm) → OccursIn z (sort l) → OccursIn z l
  sort_out [] o = o
  sort_out (u ∷ l) o = elim (insert_out u (sort l) o) [ inl p ↦ inl p | inr p ↦ inr (sort_out l p) ]

  sort_in : (l : List FlatTerm) → OccursIn z l → OccursIn z (sort l)
  sort_in [] o = o
  sort_in (u ∷ l) (inl o) = insert_in u (sort l) (inl o)
  sort_in (u ∷ l) (inr o) = insert_in u (sort l) (inr (sort_in l o))

  module _ (d : Declarations) (f : OpId) where
    empty_occurs : (i : Option OpId) → Occurs z (plain (empty_sum d f i)) → ⊥
    empty_occurs None o = o
    empty_occurs (Some e) o = o

    joined_out : (l : List FlatTerm) → Occurs z (plain (joined d f l)) → OccursIn z l
    joined_out [] o = absurd (empty_occurs (identity (axioms d f)) o)
    joined_out (u ∷ []) o = inl o
    joined_out (u ∷ v ∷ l) o = (occurs_in_app z f true (fpack (u ∷ v ∷ l))).0 o

    joined_in : (l : List FlatTerm) → OccursIn z l → Occurs z (plain (joined d f l))
    joined_in [] o = absurd o
    joined_in (u ∷ []) (inl o) = o
    joined_in (u ∷ []) (inr o) = absurd o
    joined_in (u ∷ v ∷ l) o = (occurs_in_app z f true (fpack (u ∷ v ∷ l))).1 o

    -- a variable of a sum is one of a member
    pub sum_occurs : (l : List FlatTerm) → Occurs z (plain (sum d f l)) → OccursIn z l
    sum_occurs l o = sort_out l (joined_out (sort l) o)

    -- and the other way round
    pub occurs_sum : (l : List FlatTerm) → OccursIn z l → Occurs z (plain (sum d f l))
    occurs_sum l o = joined_in (sort l) (sort_in l o)
