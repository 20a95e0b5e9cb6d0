-- Renaming keeps the operator that heads a form.
use Rattle.std.proofs.Common.{◌≡◌, ◌≤◌, true, false, List, [], ◌∷◌, length, Some, None, refl, sym, ap, ◌∙◌, arith}
use Rattle.std.specs.List.{AllByRecursion}
use Rattle.std.proofs.lemmas.List.{length-append}
use Rattle.fvn_terms.specs.declared.plain.Var.{Var}
use Rattle.fvn_terms.specs.declared.plain.OpId.{OpId}
use Rattle.fvn_terms.specs.declared.declarations.Axioms.{Axioms}
use Rattle.fvn_terms.specs.declared.declarations.Axioms.TheVariants.{Free, Comm, AssocComm, AssocCommId}
use Rattle.fvn_terms.specs.declared.declarations.Declarations.{Declarations}
use Rattle.fvn_terms.specs.Term.{var}
use Rattle.fvn_terms.specs.Signature.{axioms}
use Rattle.fvn_terms.specs.Equality.{IsAssociative}
use Rattle.fvn_forms.specs.Flat.{FlatTerm, FlatTerms, fvar, fapp, fnone, fmore, fpack, funpack, plain, plain_all}
use Rattle.fvn_forms.specs.InOrder.{sort}
use Rattle.fvn_forms.specs.Canon.{as_constant, parts, all_parts, joined, sum, built, eval_all, inst}
use Rattle.fvn_forms.specs.Settled.{IsPiece, FitsUnjoined, Settled, SettledAll, SettledValues}
use Rattle.fvn_forms.proofs.InOrder.{length_sort}
use Rattle.fvn_forms.proofs.Build.{parts_none_iff, build_unjoined_some}
use Rattle.fvn_forms.proofs.Eval.{eval_apply, eval_nest}
use Rattle.fvn_forms.proofs.Instances.{inst_settled}
use Rattle.fvn_forms.proofs.LeastSortOf.{IsIdentityOf}
use Rattle.fvn_flat.specs.Drawn.{Renaming}
use Rattle.fvn_flat.specs.Forms.{head_of}
use Rattle.fvn_flat.specs.Successors.{renamed_form}

some_length : (l : List FlatTerm) → (l ≡ [] → ⊥) → 1 ≤ length l
some_length [] n = absurd (n refl)
some_length (t ∷ l) n = omega arith

module _ (d : Declarations) where
  sum_head : (f : OpId) (l : List FlatTerm) → 2 ≤ length l → (ts : FlatTerms) × (sum d f l ≡ fapp f true ts)
  sum_head f l n = go (sort l) (let e = length_sort l in omega arith)
    where
      go : (m : List FlatTerm) → 2 ≤ length m → (ts : FlatTerms) × (joined d f m ≡ fapp f true ts)
      go [] k = absurd (omega arith)
      go (t ∷ []) k = absurd (omega arith)
      go (t ∷ u ∷ us) k = (fpack (t ∷ u ∷ us), refl)

  unjoined_free : (a : Axioms) (t : FlatTerm) (l : List FlatTerm) → FitsUnjoined d a (t ∷ l) → IsAssociative a → ⊥
  unjoined_free Free t l h i = i
  unjoined_free Comm t l h i = i
  unjoined_free AssocComm t l h i = cc
  unjoined_free (AssocCommId e) t l h i = cc

  built_head : (f : OpId) (a : Axioms) (t : FlatTerm) (l : List FlatTerm) → (IsAssociative a → ⊥) → (ts : FlatTerms) × (built d a f (t ∷ l) ≡ fapp f false ts)
  built_head f Free t l n = (fpack (t ∷ l), refl)
  built_head f Comm t l n = (fpack (sort (t ∷ l)), refl)
  built_head f AssocComm t l n = absurd (n tt)
  built_head f (AssocCommId e) t l n = absurd (n tt)

  piece_stays : (f : OpId) (t : FlatTerm) → Settled d t → IsPiece d f t → IsIdentityOf d f t → ⊥
  piece_stays f t h p i = let e : [] ≡ t ∷ [] = sym ((parts_none_iff d f t h).1 i) ∙ p in cc

  module _ (by : Renaming) where
    abbrev v : Var → FlatTerm
    v x = fvar (by x)

    settled : SettledValues d v
    settled x = tt

    mutual
      -- a renamed form is an identity only where the form is one
      identity_back : (f : OpId) (t : FlatTerm) → Settled d t → IsIdentityOf d f (inst d v t) → IsIdentityOf d f t
      identity_back f (fvar x) h i = let e : None ≡ Some i.0 = i.2 in cc
      identity_back f (fapp g true fnone) h i = let m : 2 ≤ 0 = h.0.two_or_more in absurd (omega arith)
      identity_back f (fapp g true (fmore t ts)) h i =
          let few = enough_parts g (fmore t ts) h.1 h.0.pieces in
          let two = h.0.two_or_more in
          let s = sum_head g (all_parts d g (eval_all d v (plain_all (fmore t ts)))) (omega arith) in
          let e : None ≡ Some i.0 = sym (ap as_constant (eval_nest d v settled g h.0.associative (plain t) (plain_all ts) ∙ s.1)) ∙ i.2 in cc
      identity_back f (fapp g false fnone) h i = i
      identity_back f (fapp g false (fmore t ts)) h i =
          let e : None ≡ Some i.0 = sym (build_unjoined_some d g (unjoined_free (axioms d g) t (funpack ts) h.0) (inst d v t) (eval_all d v (plain_all ts))) ∙ i.2 in cc

      enough_parts : (g : OpId) (ts : FlatTerms) → SettledAll d ts → AllByRecursion (IsPiece d g) (funpack ts) → length (funpack ts) ≤ length (all_parts d g (eval_all d v (plain_all ts)))
      enough_parts g fnone h p = omega arith
      enough_parts g (fmore t ts) h p =
          let one = some_length (parts d g (inst d v t)) (λ e. piece_stays g t h.0 p.0 (identity_back g t h.0 ((parts_none_iff d g (inst d v t) (inst_settled d v settled t)).0 e))) in
          let rest = enough_parts g ts h.1 p.1 in
          let both = length-append (parts d g (inst d v t)) (all_parts d g (eval_all d v (plain_all ts))) in
          omega arith

    -- a renamed sum is one
    sum_instance : (g : OpId) (t : FlatTerm) (ts : FlatTerms) → Settled d (fapp g true (fmore t ts)) → (us : FlatTerms) × (inst d v (fapp g true (fmore t ts)) ≡ fapp g true us)
    sum_instance g t ts h =
        let few = enough_parts g (fmore t ts) h.1 h.0.pieces in
        let two = h.0.two_or_more in
        let all = all_parts d g (eval_all d v (plain_all (fmore t ts))) in
        let s = sum_head g all (omega arith) in
        (s.0, eval_nest d v settled g h.0.associative (plain t) (plain_all ts) ∙ s.1)

    instance_head : (f : OpId) (t : FlatTerm) → Settled d t → head_of t ≡ Some f → head_of (inst d v t) ≡ Some f
    instance_head f (fvar x) h e = cc
    instance_head f (fapp g true fnone) h e = let m : 2 ≤ 0 = h.0.two_or_more in absurd (omega arith)
    instance_head f (fapp g true (fmore t ts)) h e = ap head_of (sum_instance g t ts h).1 ∙ e
    instance_head f (fapp g false fnone) h e = e
    instance_head f (fapp g false (fmore t ts)) h e =
        let b = built_head g (axioms d g) (inst d v t) (eval_all d v (plain_all ts)) (unjoined_free (axioms d g) t (funpack ts) h.0) in
        ap head_of b.1 ∙ e

    pub renamed_head : (f : OpId) (t : FlatTerm) → Settled d t → head_of t ≡ Some f → head_of (renamed_form d by t) ≡ Some f
    renamed_head f t h e = ap head_of (eval_apply d fvar (λ x. var (by x)) (plain t)) ∙ instance_head f t h e

    -- and has none where the form has none
    pub head_before : (f : OpId) (t : FlatTerm) → Settled d t → head_of (renamed_form d by t) ≡ Some f → head_of t ≡ Some f
    head_before f (fvar x) h e = let q : None ≡ Some f = e in cc
    head_before f (fapp g joined ts) h e = sym (renamed_head g (fapp g joined ts) h refl) ∙ e
