-- Instances by values that are no identities: their heads stay, and none becomes an identity that was none.
use Rattle.std.proofs.Common.{◌≡◌, ◌≤◌, true, false, List, [], ◌∷◌, length, Some, None, refl, sym, ap, ◌∙◌, inl, inr, arith}
use Rattle.std.specs.List.{AllByRecursion}
use Rattle.std.proofs.lemmas.List.{length-append}
use Rattle.fvn_terms.specs.declared.plain.Var.{Var}
use Rattle.fvn_terms.specs.declared.plain.OpId.{OpId}
use Rattle.fvn_terms.specs.declared.declarations.Axioms.{Axioms}
use Rattle.fvn_terms.specs.declared.declarations.Axioms.TheVariants.{Free, Comm, AssocComm, AssocCommId}
use Rattle.fvn_terms.specs.declared.declarations.Declarations.{Declarations}
use Rattle.fvn_terms.specs.Substitution.{Occurs, OccursAmong}
use Rattle.fvn_terms.specs.Signature.{axioms}
use Rattle.fvn_terms.specs.Equality.{IsAssociative}
use Rattle.fvn_forms.specs.Flat.{FlatTerm, FlatTerms, fvar, fapp, fnone, fmore, fpack, funpack, fconstant, plain, plain_all}
use Rattle.fvn_forms.specs.InOrder.{sort}
use Rattle.fvn_forms.specs.Canon.{as_constant, parts, all_parts, joined, sum, built, build, eval_all, inst}
use Rattle.fvn_forms.specs.Settled.{IsPiece, FitsUnjoined, Settled, SettledAll, SettledValues}
use Rattle.fvn_forms.proofs.InOrder.{length_sort}
use Rattle.fvn_forms.proofs.Sums.{funpack-fpack, same_op_itself}
use Rattle.fvn_forms.proofs.Build.{parts_none_iff, build_sum, build_unjoined_some}
use Rattle.fvn_forms.proofs.Eval.{eval_nest}
use Rattle.fvn_forms.proofs.Instances.{inst_settled}
use Rattle.fvn_forms.proofs.LeastSortOf.{IsIdentityOf}
use Rattle.fvn_flat.specs.Forms.{head_of}
use Rattle.fvn_flat.proofs.Occurrences.{occurs_in_app}

-- what is not nothing has a member
pub some_length : (l : List FlatTerm) → (l ≡ [] → ⊥) → 1 ≤ length l
some_length [] n = absurd (n refl)
some_length (t ∷ l) n = omega arith

module _ (d : Declarations) where
  -- the form is the identity of some operator
  abbrev pub IsIdentityForm : FlatTerm → Type 0
  IsIdentityForm t = (f : OpId) × IsIdentityOf d f t

  joined_form : (f : OpId) (l : List FlatTerm) → 2 ≤ length l → joined d f l ≡ fapp f true (fpack l)
  joined_form f [] n = absurd (omega arith)
  joined_form f (t ∷ []) n = absurd (omega arith)
  joined_form f (t ∷ u ∷ us) n = refl

  -- a sum of two or more summands
  pub sum_form : (f : OpId) (l : List FlatTerm) → 2 ≤ length l → sum d f l ≡ fapp f true (fpack (sort l))
  sum_form f l n = let e = length_sort l in joined_form f (sort l) (omega arith)

  -- a sum of two forms with two or more summands together
  pub sum_of_two_form : (f : OpId) → IsAssociative (axioms d f) → (a o : FlatTerm) → 2 ≤ length (all_parts d f (a ∷ o ∷ [])) → build d f (a ∷ o ∷ []) ≡ fapp f true (fpack (sort (all_parts d f (a ∷ o ∷ []))))
  sum_of_two_form f assoc a o two = build_sum d f assoc a (o ∷ []) ∙ sum_form f (all_parts d f (a ∷ o ∷ [])) two

  -- the summands of a joined sum
  pub parts_joined : (f : OpId) (ts : FlatTerms) → parts d f (fapp f true ts) ≡ funpack ts
  parts_joined f ts = rw (same_op_itself f) refl

  pub unjoined_free : (f : OpId) (a : Axioms) (t : FlatTerm) (l : List FlatTerm) → FitsUnjoined d a (t ∷ l) → IsAssociative a → ⊥
  unjoined_free f Free t l h i = i
  unjoined_free f Comm t l h i = i
  unjoined_free f AssocComm t l h i = cc
  unjoined_free f (AssocCommId e) t l h i = cc

  built_head : (f : OpId) (a : Axioms) (t : FlatTerm) (l : List FlatTerm) → (IsAssociative a → ⊥) → (ts : FlatTerms) × (built d a f (t ∷ l) ≡ fapp f false ts)
  built_head f Free t l n = (fpack (t ∷ l), refl)
  built_head f Comm t l n = (fpack (sort (t ∷ l)), refl)
  built_head f AssocComm t l n = absurd (n tt)
  built_head f (AssocCommId e) t l n = absurd (n tt)

  piece_stays : (f : OpId) (t : FlatTerm) → Settled d t → IsPiece d f t → IsIdentityOf d f t → ⊥
  piece_stays f t h p i = let e : [] ≡ t ∷ [] = sym ((parts_none_iff d f t h).1 i) ∙ p in cc

  module _ (v : Var → FlatTerm) where
    -- no variable of the form stands for an identity
    abbrev mutual
      pub IsTight : FlatTerm → Type 0
      IsTight (fvar x) = IsIdentityForm (v x) → ⊥
      IsTight (fapp f joined ts) = AreTight ts

      -- the same of a list of forms
      pub AreTight : FlatTerms → Type 0
      AreTight fnone = Unit {0}
      AreTight (fmore t ts) = IsTight t × AreTight ts

    mutual
      pub tight_where : (t : FlatTerm) → ((x : Var) → Occurs x (plain t) → IsIdentityForm (v x) → ⊥) → IsTight t
      tight_where (fvar x) n = n x refl
      tight_where (fapp f joined ts) n = all_tight_where ts (λ x o. n x ((occurs_in_app x f joined ts).1 o))

      all_tight_where : (ts : FlatTerms) → ((x : Var) → OccursAmong x (plain_all ts) → IsIdentityForm (v x) → ⊥) → AreTight ts
      all_tight_where fnone n = tt
      all_tight_where (fmore t ts) n = (tight_where t (λ x o. n x (inl o)), all_tight_where ts (λ x o. n x (inr o)))

    module _ (settled : SettledValues d v) where
      joined_instance : (g : OpId) → IsAssociative (axioms d g) → (t : FlatTerm) (ts : FlatTerms) → 2 ≤ length (all_parts d g (eval_all d v (plain_all (fmore t ts)))) →
          inst d v (fapp g true (fmore t ts)) ≡ fapp g true (fpack (sort (all_parts d g (eval_all d v (plain_all (fmore t ts))))))
      joined_instance g assoc t ts two =
          eval_nest d v settled g assoc (plain t) (plain_all ts)
          ∙ sum_form g (all_parts d g (eval_all d v (plain_all (fmore t ts)))) two

      mutual
        -- an instance that is an identity comes from one
        pub identity_back : (f : OpId) (t : FlatTerm) → Settled d t → IsTight t → IsIdentityOf d f (inst d v t) → IsIdentityOf d f t
        identity_back f (fvar x) h n i = absurd (n (f, i))
        identity_back f (fapp g true fnone) h n i = let m : 2 ≤ 0 = h.0.two_or_more in absurd (omega arith)
        identity_back f (fapp g true (fmore t ts)) h n i =
            let few = enough_parts g (fmore t ts) h.1 n h.0.pieces in
            let two = h.0.two_or_more in
            let e : None ≡ Some i.0 = sym (ap as_constant (joined_instance g h.0.associative t ts (omega arith))) ∙ i.2 in cc
        identity_back f (fapp g false fnone) h n i = i
        identity_back f (fapp g false (fmore t ts)) h n i =
            let e : None ≡ Some i.0 = sym (build_unjoined_some d g (unjoined_free g (axioms d g) t (funpack ts) h.0) (inst d v t) (eval_all d v (plain_all ts))) ∙ i.2 in cc

        enough_parts : (g : OpId) (ts : FlatTerms) → SettledAll d ts → AreTight ts → AllByRecursion (IsPiece d g) (funpack ts) → length (funpack ts) ≤ length (all_parts d g (eval_all d v (plain_all ts)))
        enough_parts g fnone h n p = omega arith
        enough_parts g (fmore t ts) h n p =
            let one = some_length (parts d g (inst d v t)) (λ e. piece_stays g t h.0 p.0 (identity_back g t h.0 n.0 ((parts_none_iff d g (inst d v t) (inst_settled d v settled t)).0 e))) in
            let rest = enough_parts g ts h.1 n.1 p.1 in
            let both = length-append (parts d g (inst d v t)) (all_parts d g (eval_all d v (plain_all ts))) in
            omega arith

      -- an instance of a joined sum is one over all summands of the summands' instances
      pub inst_joined_form : (g : OpId) (t : FlatTerm) (ts : FlatTerms) → Settled d (fapp g true (fmore t ts)) → IsTight (fapp g true (fmore t ts)) →
          inst d v (fapp g true (fmore t ts)) ≡ fapp g true (fpack (sort (all_parts d g (eval_all d v (plain_all (fmore t ts))))))
      inst_joined_form g t ts h n =
          let few = enough_parts g (fmore t ts) h.1 n h.0.pieces in
          let two = h.0.two_or_more in
          joined_instance g h.0.associative t ts (omega arith)

      -- so it has at least two summands
      pub instance_parts : (g : OpId) (ts : FlatTerms) → Settled d (fapp g true ts) → IsTight (fapp g true ts) → 2 ≤ length (parts d g (inst d v (fapp g true ts)))
      instance_parts g fnone h n = let m : 2 ≤ 0 = h.0.two_or_more in absurd (omega arith)
      instance_parts g (fmore t ts) h n =
          let few = enough_parts g (fmore t ts) h.1 n h.0.pieces in
          let two = h.0.two_or_more in
          let all = all_parts d g (eval_all d v (plain_all (fmore t ts))) in
          let e = ap length (ap (parts d g) (inst_joined_form g t ts h n) ∙ parts_joined g (fpack (sort all)) ∙ funpack-fpack (sort all)) in
          let s = length_sort all in
          omega arith

      inst_unjoined_form : (g : OpId) (t : FlatTerm) (ts : FlatTerms) → Settled d (fapp g false (fmore t ts)) → (us : FlatTerms) × (inst d v (fapp g false (fmore t ts)) ≡ fapp g false us)
      inst_unjoined_form g t ts h = built_head g (axioms d g) (inst d v t) (eval_all d v (plain_all ts)) (unjoined_free g (axioms d g) t (funpack ts) h.0)

      -- the operator at the head stays
      pub head_stays : (f : OpId) (t : FlatTerm) → Settled d t → IsTight t → head_of t ≡ Some f → head_of (inst d v t) ≡ Some f
      head_stays f (fvar x) h n e = cc
      head_stays f (fapp g true fnone) h n e = let m : 2 ≤ 0 = h.0.two_or_more in absurd (omega arith)
      head_stays f (fapp g true (fmore t ts)) h n e = ap head_of (inst_joined_form g t ts h n) ∙ e
      head_stays f (fapp g false fnone) h n e = e
      head_stays f (fapp g false (fmore t ts)) h n e = ap head_of (inst_unjoined_form g t ts h).1 ∙ e

      -- what becomes a joined sum is one, or a variable
      pub joined_back : (f : OpId) (us : FlatTerms) (t : FlatTerm) → Settled d t → IsTight t → inst d v t ≡ fapp f true us → ((x : Var) → t ≡ fvar x → ⊥) → (ts : FlatTerms) × (t ≡ fapp f true ts)
      joined_back f us (fvar x) h n e stays = absurd (stays x refl)
      joined_back f us (fapp g true fnone) h n e stays = let m : 2 ≤ 0 = h.0.two_or_more in absurd (omega arith)
      joined_back f us (fapp g true (fmore t ts)) h n e stays =
          let p : fapp g true (fpack (sort (all_parts d g (eval_all d v (plain_all (fmore t ts)))))) ≡ fapp f true us = sym (inst_joined_form g t ts h n) ∙ e in
          let q : g ≡ f = cc in
          (fmore t ts, ap (λ o. fapp o true (fmore t ts)) q)
      joined_back f us (fapp g false fnone) h n e stays = let p : fconstant g ≡ fapp f true us = e in cc
      joined_back f us (fapp g false (fmore t ts)) h n e stays =
          let w = inst_unjoined_form g t ts h in
          let p : fapp g false w.0 ≡ fapp f true us = sym w.1 ∙ e in cc
