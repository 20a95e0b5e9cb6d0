-- Induction over a step at one place of a term, on the flat forms before and after it.
use Rattle.std.proofs.Common.{◌≡◌, List, [], ◌∷◌, ◌++◌, refl, sym, ap, subst}
use Rattle.std.specs.List.{AllByRecursion}
use Rattle.fvn_terms.specs.declared.plain.OpId.{OpId}
use Rattle.fvn_terms.specs.declared.plain.SortId.{SortId}
use Rattle.fvn_terms.specs.declared.declarations.Axioms.{Axioms}
use Rattle.fvn_terms.specs.declared.declarations.Axioms.TheVariants.{Free, Comm, AssocComm, AssocCommId}
use Rattle.fvn_terms.specs.declared.declarations.Declarations.{Declarations}
use Rattle.fvn_terms.specs.Term.{Term, Terms, app}
use Rattle.fvn_terms.specs.Signature.{kind, axioms, HasKind, HaveKinds}
use Rattle.fvn_terms.specs.Places.{AtOnePlace, AmongOnePlace, here, inside, first, later}
use Rattle.fvn_terms.specs.Equality.{two, IsCommutative, IsAssociative}
use Rattle.fvn_forms.specs.Flat.{FlatTerm, fvar, fpack, plain, plain_all}
use Rattle.fvn_forms.specs.Canon.{build, eval_all, canon}
use Rattle.fvn_forms.specs.Settled.{Settled}
use Rattle.fvn_forms.specs.Good.{IsGood}
use Rattle.fvn_forms.proofs.Build.{build_swap}
use Rattle.fvn_forms.proofs.Eval.{fvar_settled, eval_all_settled}
use Rattle.fvn_forms.proofs.KindsKept.{swapped_of_kind}
use Rattle.fvn_forms.proofs.LeastSort.{fvar_flat, evals_of_kinds}

pub commutes : (a : Axioms) → IsAssociative a → IsCommutative a
commutes Free h = h
commutes Comm h = tt
commutes AssocComm h = tt
commutes (AssocCommId e) h = tt

-- an operator over plain terms of forms
abbrev pub app_of : OpId → List FlatTerm → Term
app_of f l = app f (plain_all (fpack l))

module _ (d : Declarations) (P : FlatTerm → FlatTerm → Type 0) where
  -- what an operator that joins nothing has to keep
  abbrev pub KeptUnjoined : Type 0
  KeptUnjoined = (f : OpId) → (IsAssociative (axioms d f) → ⊥) → (before : List FlatTerm) (a b : FlatTerm) (after : List FlatTerm) →
      AllByRecursion (Settled d) (before ++ a ∷ after) → AllByRecursion (Settled d) (before ++ b ∷ after) →
      (k : SortId) → HasKind d (app_of f (before ++ a ∷ after)) k → HasKind d (app_of f (before ++ b ∷ after)) k → P a b → P (build d f (before ++ a ∷ after)) (build d f (before ++ b ∷ after))

  -- what a sum of two has to keep
  abbrev pub KeptBeside : Type 0
  KeptBeside = (f : OpId) → IsAssociative (axioms d f) → (a b o : FlatTerm) → Settled d a → Settled d b → Settled d o →
      (k : SortId) → HasKind d (two f (plain a) (plain o)) k → HasKind d (two f (plain b) (plain o)) k → P a b → P (build d f (a ∷ o ∷ [])) (build d f (b ∷ o ∷ []))

  module _ (good : IsGood d) (unjoined : KeptUnjoined) (beside : KeptBeside) where
    -- one member of a list of forms changes
    record ChangesMember (ts us : List FlatTerm) : Type 0 where
      before : List FlatTerm
      form : FlatTerm
      given : FlatTerm
      after : List FlatTerm
      from : ts ≡ before ++ form ∷ after
      to : us ≡ before ++ given ∷ after
      inner : P form given

    module _ (f : OpId) (assoc : IsAssociative (axioms d f)) where
      two_arguments : (ts : Terms) (k : SortId) → (h : HasKind d (app f ts) k) → HaveKinds d ts (kind d h.rank.result ∷ kind d h.rank.result ∷ [])
      two_arguments ts k h = subst (HaveKinds d ts) (good.fits.associative f h.rank assoc h.listed) h.args

      -- of two summands the other stands on either side
      in_sum : (before : List FlatTerm) (a b : FlatTerm) (after : List FlatTerm) → AllByRecursion (Settled d) (before ++ a ∷ after) → AllByRecursion (Settled d) (before ++ b ∷ after) →
          (k : SortId) → HasKind d (app_of f (before ++ a ∷ after)) k → HasKind d (app_of f (before ++ b ∷ after)) k → P a b → P (build d f (before ++ a ∷ after)) (build d f (before ++ b ∷ after))
      in_sum [] a b [] h g k i j p = absurd (two_arguments (plain_all (fpack (a ∷ []))) k i).1
      in_sum [] a b (o ∷ []) h g k i j p = beside f assoc a b o h.0 g.0 h.1.0 k i j p
      in_sum [] a b (o ∷ x ∷ l) h g k i j p = absurd (two_arguments (plain_all (fpack (a ∷ o ∷ x ∷ l))) k i).1.1
      in_sum (o ∷ []) a b [] h g k i j p =
          let c = commutes (axioms d f) assoc in
          let turned = beside f assoc a b o h.1.0 g.1.0 h.0 k (swapped_of_kind d good.fits f c (plain o) (plain a) k i) (swapped_of_kind d good.fits f c (plain o) (plain b) k j) p in
          subst (λ z. P z (build d f (o ∷ b ∷ []))) (build_swap d f c a o) (subst (P (build d f (a ∷ o ∷ []))) (build_swap d f c b o) turned)
      in_sum (o ∷ []) a b (x ∷ l) h g k i j p = absurd (two_arguments (plain_all (fpack (o ∷ a ∷ x ∷ l))) k i).1.1
      in_sum (o ∷ x ∷ []) a b after h g k i j p = absurd (two_arguments (plain_all (fpack (o ∷ x ∷ a ∷ after))) k i).1.1
      in_sum (o ∷ x ∷ y ∷ before) a b after h g k i j p = absurd (two_arguments (plain_all (fpack (o ∷ x ∷ y ∷ (before ++ a ∷ after)))) k i).1.1

    in_any : (f : OpId) (before : List FlatTerm) (a b : FlatTerm) (after : List FlatTerm) → AllByRecursion (Settled d) (before ++ a ∷ after) → AllByRecursion (Settled d) (before ++ b ∷ after) →
        (k : SortId) → HasKind d (app_of f (before ++ a ∷ after)) k → HasKind d (app_of f (before ++ b ∷ after)) k → P a b → P (build d f (before ++ a ∷ after)) (build d f (before ++ b ∷ after))
    in_any f before a b after h g k i j p = go (axioms d f) refl where
      go : (x : Axioms) → axioms d f ≡ x → P (build d f (before ++ a ∷ after)) (build d f (before ++ b ∷ after))
      go Free e = unjoined f (λ n. subst IsAssociative e n) before a b after h g k i j p
      go Comm e = unjoined f (λ n. subst IsAssociative e n) before a b after h g k i j p
      go AssocComm e = in_sum f (rw e tt) before a b after h g k i j p
      go (AssocCommId o) e = in_sum f (rw e tt) before a b after h g k i j p

    in_app : (f : OpId) (ts us : List FlatTerm) → AllByRecursion (Settled d) ts → AllByRecursion (Settled d) us → (k : SortId) → HasKind d (app_of f ts) k → HasKind d (app_of f us) k → ChangesMember ts us → P (build d f ts) (build d f us)
    in_app f ts us h g k i j c =
        let whole = in_any f c.before c.form c.given c.after (subst (AllByRecursion (Settled d)) c.from h) (subst (AllByRecursion (Settled d)) c.to g) k (subst (λ l. HasKind d (app_of f l) k) c.from i) (subst (λ l. HasKind d (app_of f l) k) c.to j) c.inner in
        subst (λ l. P (build d f l) (build d f us)) (sym c.from) (subst (λ l. P (build d f (c.before ++ c.form ∷ c.after)) (build d f l)) (sym c.to) whole)

    module _ (R : Term → Term → Type 0) (keeps : (t u : Term) → AtOnePlace R t u → (k : SortId) → HasKind d t k → HasKind d u k) (root : (t u : Term) → R t u → (k : SortId) → HasKind d t k → P (canon d t) (canon d u)) where
      forms_of_kind : (f : OpId) (ts : Terms) (k : SortId) → HasKind d (app f ts) k → HasKind d (app_of f (eval_all d fvar ts)) k
      forms_of_kind f ts k h = record { rank = h.rank; listed = h.listed; args = evals_of_kinds d good fvar (fvar_flat d good) ts _ h.args; result = h.result }

      mutual
        pub at_one_place : {t u : Term} → AtOnePlace R t u → (k : SortId) → HasKind d t k → P (canon d t) (canon d u)
        at_one_place (here {t} {u} r) k h = root t u r k h
        at_one_place (inside {f} {ts} {us} p) k h =
            in_app f (eval_all d fvar ts) (eval_all d fvar us) (eval_all_settled d fvar (fvar_settled d) ts) (eval_all_settled d fvar (fvar_settled d) us) k
            (forms_of_kind f ts k h) (forms_of_kind f us k (keeps (app f ts) (app f us) (inside p) k h)) (among_one_place p _ h.args)

        among_one_place : {ts us : Terms} → AmongOnePlace R ts us → (ks : List SortId) → HaveKinds d ts ks → ChangesMember (eval_all d fvar ts) (eval_all d fvar us)
        among_one_place (first p) [] h = absurd h
        among_one_place (first {t} {u} {ts} p) (k ∷ ks) h = record { before = []; form = canon d t; given = canon d u; after = eval_all d fvar ts; from = refl; to = refl; inner = at_one_place p k h.0 }
        among_one_place (later p) [] h = absurd h
        among_one_place (later {t} {ts} {us} p) (k ∷ ks) h =
            let c = among_one_place p ks h.1 in record {
              before = canon d t ∷ c.before;
              form = c.form;
              given = c.given;
              after = c.after;
              from = ap (λ l. canon d t ∷ l) c.from;
              to = ap (λ l. canon d t ∷ l) c.to;
              inner = c.inner;
            }
