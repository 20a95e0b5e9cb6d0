-- The least sort of a term, by those of its arguments.
use Rattle.std.proofs.Common.{◌≡◌, ℕ, zero, suc, ◌<◌, ◌≤◌, List, [], ◌∷◌, map, length, get_or, refl, sym, ap, subst, ◌∙◌, arith}
use Rattle.std.specs.List.{AllByRecursion}
use Rattle.std.specs.Prelude.{Some, None}
use Rattle.std.proofs.lemmas.List.{length-map}
use Rattle.fvn_terms.specs.declared.plain.OpId.{OpId}
use Rattle.fvn_terms.specs.declared.plain.SortId.{SortId}
use Rattle.fvn_terms.specs.declared.plain.Plain.{Plain}
use Rattle.fvn_terms.specs.declared.declarations.Axioms.{Axioms}
use Rattle.fvn_terms.specs.declared.declarations.Axioms.TheVariants.{Free, Comm, AssocComm, AssocCommId}
use Rattle.fvn_terms.specs.declared.declarations.Declarations.{Declarations}
use Rattle.fvn_terms.specs.Term.{Term, Terms, app, none, more, nodes, nodes_all}
use Rattle.fvn_terms.specs.Plain.{term, terms}
use Rattle.fvn_terms.specs.Signature.{kind, axioms, HaveKinds, IsTerm}
use Rattle.fvn_terms.specs.Equality.{two, IsAssociative, identity}
use Rattle.fvn_forms.specs.Flat.{fvar}
use Rattle.fvn_forms.specs.Canon.{as_constant, eval_all, canon}
use Rattle.fvn_forms.specs.Ranks.{result}
use Rattle.fvn_forms.specs.Good.{IsGood}
use Rattle.fvn_forms.specs.LeastSort.{least_sort}
use Rattle.fvn_forms.proofs.Build.{build_unjoined_some}
use Rattle.fvn_forms.proofs.LeastSortOf.{IsIdentityOf, canon_left_identity, canon_right_identity, least_sort_of_app, canon_joined}

each : {A : Type 0} (P : A → Type 0) → ((a : A) → P a) → (l : List A) → AllByRecursion P l
each P h [] = tt
each P h (a ∷ l) = (h a, each P h l)

no_identity : (a : Axioms) (e : OpId) → (IsAssociative a → ⊥) → identity a ≡ Some e → ⊥
no_identity Free e n h = let q : None ≡ Some e = h in cc
no_identity Comm e n h = let q : None ≡ Some e = h in cc
no_identity AssocComm e n h = n tt
no_identity (AssocCommId g) e n h = n tt

-- an argument has no more nodes than all
pub nodes_at : (items : List Plain) (us : Terms) (i : ℕ) (t : Plain) → terms items ≡ us → i < length items → t ≡ get_or items i t → nodes (term t) ≤ nodes_all us
nodes_at items us i t view l e = subst (λ ts. nodes (term t) ≤ nodes_all ts) view (go items i l e) where
  go : (items : List Plain) (i : ℕ) → i < length items → t ≡ get_or items i t → nodes (term t) ≤ nodes_all (terms items)
  go [] i l e = absurd (omega arith)
  go (u ∷ us) zero l e = let q : nodes (term t) ≡ nodes (term u) = ap (λ v. nodes (term v)) e in omega arith
  go (u ∷ us) (suc i) l e = let q = go us i (omega arith) e in omega arith

module _ (d : Declarations) where
  pub term_at : (items : List Plain) (ks : List SortId) → HaveKinds d (terms items) ks → (i : ℕ) (t : Plain) → i < length items → t ≡ get_or items i t → IsTerm d (term t)
  term_at [] ks h i t l e = absurd (omega arith)
  term_at (u ∷ us) [] h i t l e = absurd h
  term_at (u ∷ us) (k ∷ ks) h zero t l e = subst (λ v. IsTerm d (term v)) (sym e) (k, h.0)
  term_at (u ∷ us) (k ∷ ks) h (suc i) t l e = term_at us ks h.1 i t (omega arith) e

  pub terms_as_long : (items : List Plain) (ks : List SortId) → HaveKinds d (terms items) ks → length items ≡ length ks
  terms_as_long [] [] h = refl
  terms_as_long [] (k ∷ ks) h = absurd h
  terms_as_long (u ∷ us) [] h = absurd h
  terms_as_long (u ∷ us) (k ∷ ks) h = ap suc (terms_as_long us ks h.1)

  pub argument_is_term : (f : OpId) (items : List Plain) → IsTerm d (app f (terms items)) → (i : ℕ) (t : Plain) → i < length items → t ≡ get_or items i t → IsTerm d (term t)
  argument_is_term f items h = term_at items (map (kind d) h.1.rank.args) h.1.args

  pub sorts_of_arguments : (items : List Plain) → map (least_sort d) (eval_all d fvar (terms items)) ≡ map (λ (t : Plain). least_sort d (canon d (term t))) items
  sorts_of_arguments [] = refl
  sorts_of_arguments (t ∷ ts) = ap (λ l. least_sort d (canon d (term t)) ∷ l) (sorts_of_arguments ts)

  module _ (good : IsGood d) (f : OpId) (items : List Plain) (is_term : IsTerm d (app f (terms items))) where
    pub few_arguments : length items ≤ 8
    few_arguments =
        let a = terms_as_long items (map (kind d) is_term.1.rank.args) is_term.1.args in
        let b = length-map is_term.1.rank.args (kind d) in
        let c = good.limits.arguments f is_term.1.rank is_term.1.listed in
        omega arith

    pub two_arguments : IsAssociative (axioms d f) → length items ≡ 2
    two_arguments assoc = terms_as_long items (map (kind d) is_term.1.rank.args) is_term.1.args ∙ ap length (good.fits.associative f is_term.1.rank assoc is_term.1.listed)

    pub plain_sort : (IsAssociative (axioms d f) → ⊥) → least_sort d (canon d (app f (terms items))) ≡ result d f (map (λ (t : Plain). least_sort d (canon d (term t))) items)
    plain_sort plain = least_sort_of_app d good f (terms items) is_term.0 is_term.1 (each (λ t. IsIdentityOf d f t → ⊥) (λ t w. no_identity (axioms d f) w.0 plain w.1) (eval_all d fvar (terms items))) ∙ ap (result d f) (sorts_of_arguments items)

  pub plain_constant_some : (f : OpId) → (IsAssociative (axioms d f) → ⊥) → (items : List Plain) → 0 < length items → as_constant (canon d (app f (terms items))) ≡ None
  plain_constant_some f plain [] h = absurd (omega arith)
  plain_constant_some f plain (t ∷ ts) h = build_unjoined_some d f plain (canon d (term t)) (eval_all d fvar (terms ts))

  module _ (good : IsGood d) (f : OpId) (t u : Term) (assoc : IsAssociative (axioms d f)) where
    pub sum_left : IsIdentityOf d f (canon d t) → canon d (two f t u) ≡ canon d u
    sum_left = canon_left_identity d f t u

    pub sum_right : IsIdentityOf d f (canon d u) → canon d (two f t u) ≡ canon d t
    sum_right = canon_right_identity d f t u

    pub sum_sort : IsTerm d (two f t u) → (IsIdentityOf d f (canon d t) → ⊥) → (IsIdentityOf d f (canon d u) → ⊥) → least_sort d (canon d (two f t u)) ≡ result d f (least_sort d (canon d t) ∷ least_sort d (canon d u) ∷ [])
    sum_sort h a b = least_sort_of_app d good f (more t (more u none)) h.0 h.1 (a, (b, tt))

    pub sum_constant : (IsIdentityOf d f (canon d t) → ⊥) → (IsIdentityOf d f (canon d u) → ⊥) → as_constant (canon d (two f t u)) ≡ None
    sum_constant = canon_joined d f assoc t u
