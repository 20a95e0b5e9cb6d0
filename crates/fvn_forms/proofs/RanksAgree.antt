-- The list of ranks of an operator has the ranks that sorts are computed from.
use Rattle.std.proofs.Common.{◌≡◌, List, [], ◌∷◌, map, refl, sym, ap, subst, ◌∙◌, ◌⊎◌, inl, inr}
use Rattle.std.specs.List.{Contains}
use Rattle.std.proofs.lemmas.List.Elements.{Contains-append_left, Contains-append_right, Contains-append_cases}
use Rattle.fvn_terms.specs.declared.plain.OpId.{OpId}
use Rattle.fvn_terms.specs.declared.plain.SortId.{SortId}
use Rattle.fvn_terms.specs.declared.declarations.Axioms.{Axioms}
use Rattle.fvn_terms.specs.declared.declarations.Axioms.TheVariants.{Free, Comm, AssocComm, AssocCommId}
use Rattle.fvn_terms.specs.declared.declarations.Rank.{Rank}
use Rattle.fvn_terms.specs.declared.declarations.Declarations.{Declarations}
use Rattle.fvn_terms.specs.Signature.{kind, declared, axioms}
use Rattle.fvn_terms.specs.Equality.{IsCommutative}
use Rattle.fvn_terms.specs.Sorts.{HasRank, is_declared, on_kinds, swapped}
use Rattle.fvn_forms.specs.Ranks.{swapped_args, swapped_ranks, swaps, kind_rank, written_ranks, ranks_of}
use Rattle.fvn_base.proofs.Membership.{contains_here, contains_later, contains_cases, contains_none, contains_map, map_contains}

abbrev pub rank_of : List SortId → SortId → Rank
rank_of ss s = record { args = ss; result = s }

-- swapped ranks are the two-place ranks with their arguments swapped
pub swapped_ranks-has : (rs : List Rank) (s q r : SortId) → Contains rs (rank_of (s ∷ q ∷ []) r) → Contains (swapped_ranks rs) (rank_of (q ∷ s ∷ []) r)
swapped_ranks-has [] s q r h = absurd (contains_none _ h)
swapped_ranks-has (t ∷ rs) s q r h = elim (contains_cases t rs _ h) [
  | inl e ↦ Contains-append_left (swapped_args t.args t.result) (swapped_ranks rs) _ (subst (λ z. Contains (swapped_args z.args z.result) (rank_of (q ∷ s ∷ []) r)) (sym e) (contains_here _ []))
  | inr i ↦ Contains-append_right (swapped_args t.args t.result) (swapped_ranks rs) _ (swapped_ranks-has rs s q r i)
]

pub record IsSwapOf (rs : List Rank) (p : Rank) : Type 0 where
  pub first : SortId
  pub second : SortId
  pub listed : Contains rs (rank_of (first ∷ second ∷ []) p.result)
  pub is : p.args ≡ second ∷ first ∷ []

swapped_args-is : (ss : List SortId) (r : SortId) (p : Rank) → Contains (swapped_args ss r) p → (s : SortId) × ((q : SortId) × ((ss ≡ s ∷ q ∷ []) × (p ≡ rank_of (q ∷ s ∷ []) r)))
swapped_args-is [] r p h = absurd (contains_none p h)
swapped_args-is (s ∷ []) r p h = absurd (contains_none p h)
swapped_args-is (s ∷ q ∷ []) r p h = elim (contains_cases (rank_of (q ∷ s ∷ []) r) [] p h) [ inl e ↦ (s, (q, (refl, sym e))) | inr i ↦ absurd (contains_none p i) ]
swapped_args-is (s ∷ q ∷ u ∷ us) r p h = absurd (contains_none p h)

pub swapped_ranks-is : (rs : List Rank) (p : Rank) → Contains (swapped_ranks rs) p → IsSwapOf rs p
swapped_ranks-is [] p h = absurd (contains_none p h)
swapped_ranks-is (t ∷ rs) p h = elim (Contains-append_cases (swapped_args t.args t.result) (swapped_ranks rs) p h) [
  | inl e ↦ let w = swapped_args-is t.args t.result p e in record {
    first = w.0;
    second = w.1.0;
    listed = let same : t ≡ rank_of (w.0 ∷ w.1.0 ∷ []) p.result = ap (λ a. rank_of a t.result) w.1.1.0 ∙ ap (λ (z : Rank). rank_of (w.0 ∷ w.1.0 ∷ []) z.result) (sym w.1.1.1) in subst (Contains (t ∷ rs)) same (contains_here t rs);
    is = ap (λ (z : Rank). z.args) w.1.1.1;
  }
  | inr i ↦ let w = swapped_ranks-is rs p i in record { first = w.first; second = w.second; listed = contains_later t rs _ w.listed; is = w.is }
]

pub swaps-has : (a : Axioms) (rs : List Rank) (s q r : SortId) → IsCommutative a → Contains rs (rank_of (s ∷ q ∷ []) r) → Contains (swaps a rs) (rank_of (q ∷ s ∷ []) r)
swaps-has Free rs s q r c h = absurd c
swaps-has Comm rs s q r c h = swapped_ranks-has rs s q r h
swaps-has AssocComm rs s q r c h = swapped_ranks-has rs s q r h
swaps-has (AssocCommId e) rs s q r c h = swapped_ranks-has rs s q r h

pub swaps-is : (a : Axioms) (rs : List Rank) (p : Rank) → Contains (swaps a rs) p → IsCommutative a × IsSwapOf rs p
swaps-is Free rs p h = absurd (contains_none p h)
swaps-is Comm rs p h = (tt, swapped_ranks-is rs p h)
swaps-is AssocComm rs p h = (tt, swapped_ranks-is rs p h)
swaps-is (AssocCommId e) rs p h = (tt, swapped_ranks-is rs p h)

module _ (d : Declarations) (f : OpId) where
  pub written_ranks-cases : (p : Rank) → Contains (written_ranks d f) p → (r : Rank) × (Contains (declared d f).ranks r × ((r ≡ p) ⊎ (kind_rank d r ≡ p)))
  written_ranks-cases p h = elim (Contains-append_cases (declared d f).ranks (map (kind_rank d) (declared d f).ranks) p h) [
    | inl i ↦ (p, (i, inl refl))
    | inr i ↦ let w = map_contains (kind_rank d) (declared d f).ranks p i in (w.0, (w.1.0, inr w.1.1))
  ]

  pub written-declared : (r : Rank) → Contains (declared d f).ranks r → Contains (ranks_of d f) r
  written-declared r h = Contains-append_left (written_ranks d f) _ r (Contains-append_left (declared d f).ranks _ r h)

  pub written-on_kinds : (r : Rank) → Contains (declared d f).ranks r → Contains (ranks_of d f) (kind_rank d r)
  written-on_kinds r h = Contains-append_left (written_ranks d f) _ _ (Contains-append_right (declared d f).ranks (map (kind_rank d) (declared d f).ranks) _ (contains_map (kind_rank d) (declared d f).ranks r h))

  -- a rank of a commutative operator with its arguments swapped is one
  pub ranks_of-swapped : (s q r : SortId) → IsCommutative (axioms d f) → Contains (ranks_of d f) (rank_of (s ∷ q ∷ []) r) → Contains (ranks_of d f) (rank_of (q ∷ s ∷ []) r)
  ranks_of-swapped s q r c h = elim (Contains-append_cases (written_ranks d f) (swaps (axioms d f) (written_ranks d f)) _ h) [
    | inl i ↦ Contains-append_right (written_ranks d f) (swaps (axioms d f) (written_ranks d f)) _ (swaps-has (axioms d f) (written_ranks d f) s q r c i)
    | inr i ↦ Contains-append_left (written_ranks d f) (swaps (axioms d f) (written_ranks d f)) _ (back (swaps-is (axioms d f) (written_ranks d f) _ i).1)
  ] where
    back : IsSwapOf (written_ranks d f) (rank_of (s ∷ q ∷ []) r) → Contains (written_ranks d f) (rank_of (q ∷ s ∷ []) r)
    back w = let e : w.first ∷ w.second ∷ [] ≡ q ∷ s ∷ [] = cc w.is in subst (λ l. Contains (written_ranks d f) (rank_of l r)) e w.listed

  -- the list has each rank by which terms get sorts
  pub ranks_of-complete : {ss : List SortId} {s : SortId} → HasRank d f ss s → Contains (ranks_of d f) (rank_of ss s)
  ranks_of-complete (is_declared r h e g) = subst (Contains (ranks_of d f)) (ap (λ a. rank_of a r.result) e ∙ ap (rank_of _) g) (written-declared r h)
  ranks_of-complete (on_kinds r h e g) = subst (Contains (ranks_of d f)) (ap (λ a. rank_of a (kind d r.result)) e ∙ ap (rank_of _) g) (written-on_kinds r h)
  ranks_of-complete (swapped {s} {q} {r} c h) = ranks_of-swapped s q r c (ranks_of-complete h)

  -- and no other
  written-sound : (p : Rank) → Contains (written_ranks d f) p → HasRank d f p.args p.result
  written-sound p h = let w = written_ranks-cases p h in go w.0 w.1.0 w.1.1 where
    go : (r : Rank) → Contains (declared d f).ranks r → (r ≡ p) ⊎ (kind_rank d r ≡ p) → HasRank d f p.args p.result
    go r i (inl e) = is_declared r i (ap (λ (z : Rank). z.args) e) (ap (λ (z : Rank). z.result) e)
    go r i (inr e) = on_kinds r i (ap (λ (z : Rank). z.args) e) (ap (λ (z : Rank). z.result) e)

  pub ranks_of-sound : (p : Rank) → Contains (ranks_of d f) p → HasRank d f p.args p.result
  ranks_of-sound p h = elim (Contains-append_cases (written_ranks d f) (swaps (axioms d f) (written_ranks d f)) p h) [
    | inl i ↦ written-sound p i
    | inr i ↦ let w = swaps-is (axioms d f) (written_ranks d f) p i in subst (λ l. HasRank d f l p.result) (sym w.1.is) (swapped w.0 (written-sound (rank_of (w.1.first ∷ w.1.second ∷ []) p.result) w.1.listed))
  ]
