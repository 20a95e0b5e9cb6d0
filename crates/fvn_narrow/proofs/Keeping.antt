-- Where each rank keeps a sort, so do the sums of the operator.
use Rattle.std.proofs.Common.{◌≡◌, ◌<◌, ◌≤◌, ◌+◌, ℕ, List, [], ◌∷◌, take, length, get_or, Some, refl, sym, ◌∙◌, subst, inl, inr, arith}
use Rattle.std.specs.Prelude.{All, slice_get}
use Rattle.std.specs.List.{AllZip}
use Rattle.std.proofs.lemmas.List.{take_more}
use Rattle.std.proofs.lemmas.Option.{slice_get_read}
use Rattle.std.proofs.lemmas.List.Elements.{All-nil, All-cons, All-append, All-head, All-tail}
use Rattle.fvn_terms.specs.declared.plain.OpId.{OpId}
use Rattle.fvn_terms.specs.declared.plain.SortId.{SortId}
use Rattle.fvn_terms.specs.declared.declarations.Rank.{Rank}
use Rattle.fvn_terms.specs.declared.declarations.Declarations.{Declarations}
use Rattle.fvn_terms.specs.Signature.{axioms, AtOrBelow}
use Rattle.fvn_terms.specs.Equality.{IsAssociative}
use Rattle.fvn_forms.specs.Ranks.{ranks_of}
use Rattle.fvn_forms.specs.Good.{IsGood}
use Rattle.fvn_forms.proofs.Results.{result-is, TakesKinds-pair}
use Rattle.fvn_forms.proofs.SortOrder.{AtOrBelow-trans}
use Rattle.fvn_lifting.specs.Pairs.{SummandsKeep}
use Rattle.fvn_narrow.specs.inner.Pairing.{RankKeeps}
use Rattle.fvn_narrow.proofs.Joined.{less_or_equal}

-- what holds of the first, and of one more
pub all_more : {A : Type 0} (P : A → Type 0) (xs : List A) (i : ℕ) (e : A) → i < length xs → All P (take i xs) → P (get_or xs i e) → All P (take (i + 1) xs)
all_more P xs i e within h p = subst (All P) (sym (take_more xs i e within)) (All-append P (take i xs) (get_or xs i e ∷ []) h (All-cons P (get_or xs i e) [] p (All-nil P)))

-- the first ranks of the operator keep the sort
abbrev pub FirstKeep : Declarations → OpId → SortId → ℕ → Type 0
FirstKeep d f s count = (k : ℕ) (r : Rank) → k < count → slice_get (ranks_of d f) k ≡ Some r → RankKeeps d s r

one_rank : (a b : Rank) → Some a ≡ Some b → a ≡ b
one_rank a b e = cc

pub none_keep : (d : Declarations) (f : OpId) (s : SortId) → FirstKeep d f s 0
none_keep d f s k r low e = absurd (omega (arith, low))

-- one rank more
pub more_keep : (d : Declarations) (f : OpId) (s : SortId) (i : ℕ) → FirstKeep d f s i → (t : Rank) → slice_get (ranks_of d f) i ≡ Some t → RankKeeps d s t → FirstKeep d f s (i + 1)
more_keep d f s i before t at keeps k r low e = elim (less_or_equal k i low) [
  | inl l ↦ before k r l e
  | inr q ↦ subst (RankKeeps d s) (one_rank t r (sym at ∙ subst (λ n. slice_get (ranks_of d f) n ≡ Some r) q e)) keeps
]

module _ (d : Declarations) (good : IsGood d) (f : OpId) (assoc : IsAssociative (axioms d f)) (s : SortId) where
  both_below : (a b : SortId) (args : List SortId) → AllZip (AtOrBelow d) (a ∷ b ∷ []) args → All (λ q. AtOrBelow d q s) args → AtOrBelow d a s × AtOrBelow d b s
  both_below a b [] h k = absurd h
  both_below a b (p ∷ []) h k = absurd h.1
  both_below a b (p ∷ q ∷ args) h k = (
    AtOrBelow-trans d h.0 (All-head (λ z. AtOrBelow d z s) p (q ∷ args) k),
    AtOrBelow-trans d h.1.0 (All-head (λ z. AtOrBelow d z s) q args (All-tail (λ z. AtOrBelow d z s) p (q ∷ args) k)),
  )

  pub all_keep : (count : ℕ) → length (ranks_of d f) ≤ count → FirstKeep d f s count → SummandsKeep d f s
  all_keep count enough keeps a b ia ib low =
      let w = (result-is d good f (a ∷ b ∷ []) (TakesKinds-pair d good f a b assoc ia ib)).serves in
      let at = slice_get_read (ranks_of d f) (length (ranks_of d f)) w.listed.0 w.rank refl w.listed.1 (sym w.listed.2) in
      both_below a b w.rank.args w.fits (keeps w.listed.0 w.rank (let within = w.listed.1 in omega (arith, within, enough)) at (subst (λ z. AtOrBelow d z s) (sym w.gives) low))
