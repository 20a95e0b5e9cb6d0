-- Patterns whose instances are one summand.
use Rattle.std.proofs.Common.{◌≡◌, ◌≤◌, Bool, true, false, [], ◌∷◌, length, map, Some, refl, sym, ap, ◌∙◌, subst, arith}
use Rattle.std.specs.Prelude.{if◌then◌else◌}
use Rattle.fvn_terms.specs.declared.plain.Var.{Var}
use Rattle.fvn_terms.specs.declared.plain.OpId.{OpId}
use Rattle.fvn_terms.specs.declared.plain.SortId.{SortId}
use Rattle.fvn_terms.specs.declared.declarations.Axioms.TheVariants.{Free, Comm, AssocComm}
use Rattle.fvn_terms.specs.declared.declarations.Declarations.{Declarations}
use Rattle.fvn_terms.specs.Signature.{axioms, HasKind}
use Rattle.fvn_terms.specs.Equality.{IsAssociative, identity, is_sum, is_commutative}
use Rattle.fvn_forms.specs.Flat.{FlatTerm, FlatTerms, fvar, fapp, fnone, fmore, fpack, funpack, fconstant, plain}
use Rattle.fvn_forms.specs.InOrder.{sort}
use Rattle.fvn_forms.specs.Canon.{same_op, is_identity, parts, all_parts, inst}
use Rattle.fvn_forms.specs.Settled.{FitsUnjoined, Settled, SettledValues}
use Rattle.fvn_forms.specs.FitsKinds.{FitsKinds}
use Rattle.fvn_forms.proofs.Sums.{same_op_is}
use Rattle.fvn_forms.proofs.Instances.{inst_free, inst_commutative, parts_inst}
use Rattle.fvn_flat.specs.Forms.{head_of, args_of}
use Rattle.fvn_match.proofs.AxiomTests.{free_if, commutative_if}
use Rattle.fvn_match.proofs.Tallies.{same_length}
use Rattle.fvn_match.proofs.SummandLists.{unjoined_none}
use Rattle.fvn_match.proofs.PairSteps.{not_joined}
use Rattle.fvn_match.proofs.SumSteps.{as_many}
use Rattle.fvn_match.proofs.SumFitting.{some_args, parts_are_args}

module _ (d : Declarations) (f : OpId) where
  pub few_unjoined : (g : OpId) (ts : FlatTerms) → length (parts d f (fapp g false ts)) ≤ 1
  few_unjoined g fnone = go (is_identity (identity (axioms d f)) g)
    where
      go : (b : Bool) → length (if b then [] else fconstant g ∷ []) ≤ 1
      go true = omega arith
      go false = omega arith
  few_unjoined g (fmore t ts) = omega arith

  -- a sum of another operator is one summand
  few_other : (t : FlatTerm) (g : OpId) → (g ≡ f → ⊥) → 2 ≤ length (parts d g t) → length (parts d f t) ≤ 1
  few_other (fvar x) g n two = omega arith
  few_other (fapp h true ts) g n two = go (same_op f h) refl (same_op g h) refl
    where
      go : (b : Bool) → same_op f h ≡ b → (e : Bool) → same_op g h ≡ e → length (if b then funpack ts else fapp h true ts ∷ []) ≤ 1
      go true p true q = absurd (n (same_op_is g h q ∙ sym (same_op_is f h p)))
      go true p false q = let one : 2 ≤ 1 = rw q at two in absurd (omega arith)
      go false p e q = omega arith
  few_other (fapp h false ts) g n two = few_unjoined h ts

  module _ (fits : FitsKinds d) (p : FlatTerm) (g : OpId) (head : head_of p ≡ Some g) (s : Settled d p) (c : Var → FlatTerm) (settled : SettledValues d c) where
    free_is_one : axioms d g ≡ Free → length (parts d f (inst d c p)) ≤ 1
    free_is_one e = let n = not_joined d Free (λ a. a) g e p s head in
        subst (λ t. length (parts d f t) ≤ 1) (sym (ap (inst d c) n.1 ∙ inst_free d c settled g e n.0)) (few_unjoined g (fpack (map (inst d c) (funpack n.0))))

    commutative_is_one : axioms d g ≡ Comm → length (parts d f (inst d c p)) ≤ 1
    commutative_is_one e = let n = not_joined d Comm (λ a. a) g e p s head in
        subst (λ t. length (parts d f t) ≤ 1) (sym (ap (inst d c) n.1 ∙ inst_commutative d c settled g e n.0)) (few_unjoined g (fpack (sort (map (inst d c) (funpack n.0)))))

    pub unjoined_is_one : is_sum (axioms d g) ≡ false → length (parts d f (inst d c p)) ≤ 1
    unjoined_is_one s = go (is_commutative (axioms d g)) refl
      where
        go : (b : Bool) → is_commutative (axioms d g) ≡ b → length (parts d f (inst d c p)) ≤ 1
        go true e = commutative_is_one (commutative_if (axioms d g) s e)
        go false e = free_is_one (free_if (axioms d g) s e)

    module _ (k : SortId) (h : HasKind d (plain p) k) (e : axioms d g ≡ AssocComm) where
      assoc : IsAssociative (axioms d g)
      assoc = rw e tt

      two_args : 2 ≤ length (args_of p)
      two_args = go p head s (some_args d fits g assoc p s k h head)
        where
          go : (t : FlatTerm) → head_of t ≡ Some g → Settled d t → (args_of t ≡ [] → ⊥) → 2 ≤ length (args_of t)
          go (fvar x) q z n = cc
          go (fapp o true ts) q z n = z.0.two_or_more
          go (fapp o false ts) q z n = let w : o ≡ g = cc in absurd (n (unjoined_none d g (axioms d g) (funpack ts) assoc (subst (λ a. FitsUnjoined d (axioms d a) (funpack ts)) w z.0)))

      pub many : 2 ≤ length (parts d g (inst d c p))
      many =
          let a = same_length (parts d g (inst d c p)) (all_parts d g (map (inst d c) (parts d g p))) (parts_inst d c settled g assoc p s) in
          let b = as_many d g c settled (ap identity e) (parts d g p) in
          let x = ap length (parts_are_args d fits g assoc p s k h head) in
          let y = two_args in
          omega arith

      pub sum_is_one : (g ≡ f → ⊥) → length (parts d f (inst d c p)) ≤ 1
      sum_is_one n = few_other (inst d c p) g n many
