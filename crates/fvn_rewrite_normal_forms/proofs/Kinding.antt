-- Kinds and sorts of terms are decided.
use Rattle.std.proofs.Common.{◌≡◌, ◌<◌, true, List, [], ◌∷◌, map, length, subst, arith, ◌⊎◌, inl, inr}
use Rattle.std.specs.List.{Contains}
use Rattle.std.proofs.lemmas.Bool.{cases_lt}
use Rattle.std.proofs.lemmas.List.{get_or_past}
use Rattle.fvn_base.specs.Decided.{Decided}
use Rattle.fvn_base.proofs.Decided.{decided_by, both_or, some_or_none}
use Rattle.fvn_base.proofs.Membership.{contains_none}
use Rattle.fvn_terms.specs.declared.plain.OpId.{OpId}
use Rattle.fvn_terms.specs.declared.plain.SortId.{SortId}
use Rattle.fvn_terms.specs.declared.declarations.Rank.{Rank}
use Rattle.fvn_terms.specs.declared.declarations.OpDecl.{OpDecl}
use Rattle.fvn_terms.specs.declared.declarations.Declarations.{Declarations}
use Rattle.fvn_terms.specs.Term.{Term, Terms, var, app, none, more}
use Rattle.fvn_terms.specs.Signature.{unknown, kind, declared, IsSort, HasKind, HaveKinds, IsTerm}
use Rattle.fvn_terms.specs.Sorts.{HasSort}
use Rattle.fvn_forms.specs.Canon.{canon}
use Rattle.fvn_forms.specs.SortOrder.{same_sort, at_or_below}
use Rattle.fvn_forms.specs.Good.{IsGood}
use Rattle.fvn_forms.specs.LeastSort.{least_sort}
use Rattle.fvn_forms.proofs.SortTests.{same_sort-true, same_sort-self, at_or_below-true, at_or_below-complete}
use Rattle.fvn_forms.proofs.LeastSort.{least_sort_exact}

same_or_not : (s q : SortId) → Decided (s ≡ q)
same_or_not s q = decided_by (same_sort s q) (same_sort-true s q) (λ e. subst (λ z. same_sort s z ≡ true) e (same_sort-self s))

module _ (d : Declarations) where
  pub sort_or_not : (s : SortId) → Decided (IsSort d s)
  sort_or_not s = elim (cases_lt s.0 (length d.kinds)) as (λ _. Decided (IsSort d s)) [ inl l ↦ inl l | inr m ↦ inr (λ (l : s.0 < length d.kinds). omega arith) ]

  mutual
    pub kind_or_not : (t : Term) (k : SortId) → Decided (HasKind d t k)
    kind_or_not (var x) k = both_or (sort_or_not x.sort) (same_or_not (kind d x.sort) k)
    kind_or_not (app f ts) k = go (some_or_none Fit (λ r. both_or (kinds_or_not ts (map (kind d) r.args)) (same_or_not (kind d r.result) k)) (declared d f).ranks) where
      Fit : Rank → Type 0
      Fit r = HaveKinds d ts (map (kind d) r.args) × (kind d r.result ≡ k)

      go : ((r : Rank) × (Contains (declared d f).ranks r × Fit r)) ⊎ ((r : Rank) → Contains (declared d f).ranks r → Fit r → ⊥) → Decided (HasKind d (app f ts) k)
      go (inl w) = inl record { rank = w.0; listed = w.1.0; args = w.1.1.0; result = w.1.1.1 }
      go (inr n) = inr (λ h. n h.rank h.listed (h.args, h.result))

    kinds_or_not : (ts : Terms) (ks : List SortId) → Decided (HaveKinds d ts ks)
    kinds_or_not none [] = inl tt
    kinds_or_not none (k ∷ ks) = inr (λ h. h)
    kinds_or_not (more t ts) [] = inr (λ h. h)
    kinds_or_not (more t ts) (k ∷ ks) = both_or (kind_or_not t k) (kinds_or_not ts ks)

  -- a declared operator is in the signature's list
  pub operator_known : (f : OpId) (r : Rank) → Contains (declared d f).ranks r → f.0 < length d.ops
  operator_known f r listed = elim (cases_lt f.0 (length d.ops)) as (λ _. f.0 < length d.ops) [
    | inl l ↦ l
    | inr m ↦ absurd (contains_none r (subst (λ (o : OpDecl). Contains o.ranks r) (get_or_past d.ops f.0 unknown m) listed))
  ]

  pub has_sort_or_not : IsGood d → (t : Term) → IsTerm d t → (s : SortId) → Decided (HasSort d t s)
  has_sort_or_not good t h s =
      let exact = least_sort_exact d good t h s in
      decided_by (at_or_below d (least_sort d (canon d t)) s) (λ e. exact.1 (at_or_below-true d (least_sort d (canon d t)) s e)) (λ p. at_or_below-complete d (exact.0 p))
