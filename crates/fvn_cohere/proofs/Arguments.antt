-- Arguments of terms: their nodes, their kinds, and how many there are.
use Rattle.std.proofs.Common.{◌≡◌, ℕ, zero, suc, ◌<◌, ◌≤◌, List, [], ◌∷◌, map, length, take, get_or, refl, sym, ap, subst, arith}
use Rattle.std.proofs.lemmas.List.{length-map, length-take}
use Rattle.std.proofs.Math.Nat.{min-le_right}
use Rattle.fvn_terms.specs.declared.plain.OpId.{OpId}
use Rattle.fvn_terms.specs.declared.plain.SortId.{SortId}
use Rattle.fvn_terms.specs.declared.plain.Plain.{Plain}
use Rattle.fvn_terms.specs.declared.declarations.Declarations.{Declarations}
use Rattle.fvn_terms.specs.Term.{Terms, app, nodes, nodes_all}
use Rattle.fvn_terms.specs.Plain.{term, terms}
use Rattle.fvn_terms.specs.Signature.{kind, HaveKinds, IsTerm}
use Rattle.fvn_forms.specs.Good.{IsGood}

-- the front of a list is no longer than the list
pub take_short : {A : Type 0} (i : ℕ) (l : List A) (n : ℕ) → length l ≡ n → length (take i l) ≤ n
take_short i l n e = subst (λ m. length (take i l) ≤ m) e (subst (λ m. m ≤ length l) (sym (length-take i l)) (min-le_right i (length l)))

-- an argument has no more nodes than all
pub nodes_at : (items : List Plain) (us : Terms) (i : ℕ) (t : Plain) → terms items ≡ us → i < length items → t ≡ get_or items i t → nodes (term t) ≤ nodes_all us
nodes_at items us i t view l e = subst (λ ts. nodes (term t) ≤ nodes_all ts) view (go items i l e) where
  go : (items : List Plain) (i : ℕ) → i < length items → t ≡ get_or items i t → nodes (term t) ≤ nodes_all (terms items)
  go [] i l e = absurd (omega arith)
  go (u ∷ us) zero l e = let q : nodes (term t) ≡ nodes (term u) = ap (λ v. nodes (term v)) e in omega arith
  go (u ∷ us) (suc i) l e = let q = go us i (omega arith) e in omega arith

module _ (d : Declarations) where
  term_at : (items : List Plain) (ks : List SortId) → HaveKinds d (terms items) ks → (i : ℕ) (t : Plain) → i < length items → t ≡ get_or items i t → IsTerm d (term t)
  term_at [] ks h i t l e = absurd (omega arith)
  term_at (u ∷ us) [] h i t l e = absurd h
  term_at (u ∷ us) (k ∷ ks) h zero t l e = subst (λ v. IsTerm d (term v)) (sym e) (k, h.0)
  term_at (u ∷ us) (k ∷ ks) h (suc i) t l e = term_at us ks h.1 i t (omega arith) e

  terms_as_long : (items : List Plain) (ks : List SortId) → HaveKinds d (terms items) ks → length items ≡ length ks
  terms_as_long [] [] h = refl
  terms_as_long [] (k ∷ ks) h = absurd h
  terms_as_long (u ∷ us) [] h = absurd h
  terms_as_long (u ∷ us) (k ∷ ks) h = ap suc (terms_as_long us ks h.1)

  -- what is known of the arguments of a term
  module _ (f : OpId) (items : List Plain) (us : Terms) (view : terms items ≡ us) (is_term : IsTerm d (app f us)) where
    is_app : IsTerm d (app f (terms items))
    is_app = subst (λ ts. IsTerm d (app f ts)) (sym view) is_term

    pub argument : (i : ℕ) (u : Plain) → i < length items → u ≡ get_or items i u → (nodes (term u) ≤ nodes_all us) × IsTerm d (term u)
    argument i u within is = (nodes_at items us i u view within is, term_at items (map (kind d) is_app.1.rank.args) is_app.1.args i u within is)

    pub few : IsGood d → length items ≤ 8
    few good =
        let a = terms_as_long items (map (kind d) is_app.1.rank.args) is_app.1.args in
        let b = length-map is_app.1.rank.args (kind d) in
        let c = good.limits.arguments f is_app.1.rank is_app.1.listed in
        omega arith
