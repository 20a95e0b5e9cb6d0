-- An operator takes arguments of its kinds.
use Rattle.std.proofs.Common.{◌≡◌, ℕ, ◌+◌, ◌≤◌, Bool, true, false, List, [], ◌∷◌, ◌++◌, length, get_or, None, refl, sym, ap, ◌∙◌, subst, append_assoc, map}
use Rattle.std.specs.Prelude.{◌&&◌, ◌==◌, nat_le, Contains}
use Rattle.std.proofs.lemmas.Bool.{eq-eqb, le-leb}
use Rattle.std.proofs.Math.Seq.{get_or-append_seam}
use Rattle.std.proofs.lemmas.List.{length-append, length-map}
use Rattle.fvn_base.proofs.Membership.{contains_here, contains_none}
use Rattle.fvn_terms.specs.declared.plain.OpId.{OpId}
use Rattle.fvn_terms.specs.declared.plain.SortId.{SortId}
use Rattle.fvn_terms.specs.declared.declarations.Rank.{Rank}
use Rattle.fvn_terms.specs.declared.declarations.Declarations.{Declarations}
use Rattle.fvn_terms.specs.Signature.{kind, declared, axioms}
use Rattle.fvn_terms.proofs.AxiomWords.{associative_sums}
use Rattle.fvn_terms.specs.Equality.{IsAssociative, is_sum}
use Rattle.fvn_forms.specs.FitsKinds.{FitsKinds}
use Rattle.fvn_syntax.specs.Names.{first_args, first_result, args_of, arity_of, result_of, same_sort}
use Rattle.fvn_syntax.specs.Resolve.{fits_number, wanted, fit_from, application_fault}

same-number : (n : ℕ) → (n == n) ≡ true
same-number n = eq-eqb n n refl

both : (a b : Bool) → a ≡ true → b ≡ true → (a && b) ≡ true
both a b e f = rw (e, f) refl

module _ (d : Declarations) (fits : FitsKinds d) (f : OpId) where
  -- the first rank has the kinds of each
  pub record First (r : Rank) : Type 0 where
    pub args : map (kind d) (args_of d f) ≡ map (kind d) r.args
    pub result : result_of d f ≡ kind d r.result

  pub first : (r : Rank) → Contains (declared d f).ranks r → First r
  first r h = go (declared d f).ranks refl
    where
      go : (rs : List Rank) → (declared d f).ranks ≡ rs → First r
      go [] e = absurd (contains_none r (subst (λ rs. Contains rs r) e h))
      go (q ∷ rs) e =
          let agree = fits.agree f q r (subst (λ qs. Contains qs q) (sym e) (contains_here q rs)) h in
          record {
            args = ap (λ qs. map (kind d) (first_args qs)) e ∙ agree.0;
            result = ap (λ qs. kind d (first_result qs)) e ∙ agree.1;
          }

  pub args-of : (r : Rank) → Contains (declared d f).ranks r → map (kind d) (args_of d f) ≡ map (kind d) r.args
  args-of r h = (first r h).args

  pub result-of : (r : Rank) → Contains (declared d f).ranks r → result_of d f ≡ kind d r.result
  result-of r h = (first r h).result

  pub arity-of : (r : Rank) → Contains (declared d f).ranks r → arity_of d f ≡ length (map (kind d) r.args)
  arity-of r h = sym (length-map (args_of d f) (kind d)) ∙ ap length (args-of r h)

  none-of : (sum : Bool) (ks : List SortId) → fits_number sum (arity_of d f) (length ks) ≡ true → fit_from d sum f 0 ks ≡ true → application_fault d sum f ks ≡ None
  none-of sum ks n k = rw (n, k) refl

  -- Other operators.

  fit-behind : (before rest : List SortId) → args_of d f ≡ before ++ rest → fit_from d false f (length before) (map (kind d) rest) ≡ true
  fit-behind before [] e = refl
  fit-behind before (s ∷ rest) e =
      let place : get_or (args_of d f) (length before) (record { 0 = 0 }) ≡ s = ap (λ ss. get_or ss (length before) (record { 0 = 0 })) e ∙ get_or-append_seam before s rest (record { 0 = 0 }) in
      let later = fit-behind (before ++ s ∷ []) rest (e ∙ sym (append_assoc before (s ∷ []) rest)) in
      both (same_sort (kind d s) (kind d (get_or (args_of d f) (length before) (record { 0 = 0 })))) (fit_from d false f (length before + 1) (map (kind d) rest))
      (ap (λ (q : SortId). same_sort (kind d s) (kind d q)) place ∙ same-number (kind d s).0)
      (subst (λ i. fit_from d false f i (map (kind d) rest) ≡ true) (length-append before (s ∷ [])) later)

  pub takes-its-own : (r : Rank) → Contains (declared d f).ranks r → is_sum (axioms d f) ≡ false → application_fault d (is_sum (axioms d f)) f (map (kind d) r.args) ≡ None
  takes-its-own r h free = rw free (
      subst (λ ks. application_fault d false f ks ≡ None) (args-of r h)
      (none-of false (map (kind d) (args_of d f))
      (ap (λ n. arity_of d f == n) (length-map (args_of d f) (kind d)) ∙ same-number (arity_of d f))
      (fit-behind [] (args_of d f) refl))
      )

  -- Sums.

  -- these are all of the kind
  abbrev pub AllAre : SortId → List SortId → Type 0
  AllAre k [] = Unit {0}
  AllAre k (q ∷ qs) = (q ≡ k) × AllAre k qs

  fit-all : (k : SortId) → wanted d true f 0 ≡ k → (ks : List SortId) → AllAre k ks → (i : ℕ) → fit_from d true f i ks ≡ true
  fit-all k w [] h i = refl
  fit-all k w (q ∷ qs) h i =
      both (same_sort q (wanted d true f i)) (fit_from d true f (i + 1) qs)
      (ap (λ (p : SortId). same_sort p (wanted d true f i)) h.0 ∙ ap (λ (p : SortId). same_sort k p) w ∙ same-number k.0)
      (fit-all k w qs h.1 (i + 1))

  first-is : (ss : List SortId) (k q : SortId) → map (kind d) ss ≡ k ∷ q ∷ [] → kind d (get_or ss 0 (record { 0 = 0 })) ≡ k
  first-is [] k q e = cc
  first-is (s ∷ ss) k q e = ap (λ ks. get_or ks 0 k) e

  -- two or more are not too few
  two-or-more : (n : ℕ) → 2 ≤ n → nat_le 2 n ≡ true
  two-or-more n h = le-leb 2 n h

  pub takes-sum : (r : Rank) → Contains (declared d f).ranks r → IsAssociative (axioms d f) → (ks : List SortId) → 2 ≤ length ks → AllAre (kind d r.result) ks →
      application_fault d (is_sum (axioms d f)) f ks ≡ None
  takes-sum r h a ks long all =
      let wants : wanted d true f 0 ≡ kind d r.result = first-is (args_of d f) (kind d r.result) (kind d r.result) (args-of r h ∙ fits.associative f r a h) in
      rw (associative_sums (axioms d f) a) (none-of true ks (two-or-more (length ks) long) (fit-all (kind d r.result) wants ks all 0))
