-- Level runs with one more member.
use Rattle.std.proofs.Common.{◌≡◌, ◌⊎◌, ◌+◌, ◌≤◌, List, [], ◌∷◌, ◌++◌, length, get_or, refl, sym, ap, ◌∙◌, subst, inl, inr, arith}
use Rattle.std.specs.Prelude.{Contains}
use Rattle.std.proofs.lemmas.List.{length-append}
use Rattle.std.proofs.lemmas.List.Elements.{Contains-get_or}
use Rattle.std.proofs.lemmas.List.Quantifiers.{all_pairs_push}
use Rattle.fvn_terms.specs.Substitution.{Substitution}
use Rattle.fvn_terms.specs.Unifiers.{Problem}
use Rattle.fvn_forms.specs.Flat.{FlatTerm}
use Rattle.fvn_exploring.specs.declared.ends.Deep.{Deep}
use Rattle.fvn_exploring.specs.Setting.{Setting}
use Rattle.fvn_exploring.specs.LevelRuns.{IsStart, HasParent, AreFolded, IsLevelRun}

module _ {A : Type 0} where
  heads : (x y : A) (xs ys : List A) → x ∷ xs ≡ y ∷ ys → x ≡ y
  heads x y xs ys e = cc

  tails : (x y : A) (xs ys : List A) → x ∷ xs ≡ y ∷ ys → xs ≡ ys
  tails x y xs ys e = cc

  -- how a list with one more splits
  split_last : (xs : List A) (n : A) (before : List A) (m : A) (after : List A) → xs ++ n ∷ [] ≡ before ++ m ∷ after →
      ((before ≡ xs) × (m ≡ n)) ⊎ ((rest : List A) × (xs ≡ before ++ m ∷ rest))
  split_last [] n [] m after e = inl (refl, heads m n after [] (sym e))
  split_last [] n (b ∷ before) m after e = absurd (let l = ap length e in let k = length-append before (m ∷ after) in omega (arith, l, k))
  split_last (x ∷ xs) n [] m after e = inr (xs, ap (λ y. y ∷ xs) (heads x m (xs ++ n ∷ []) after e))
  split_last (x ∷ xs) n (b ∷ before) m after e = go (split_last xs n before m after (tails x b (xs ++ n ∷ []) (before ++ m ∷ after) e)) where
    same : x ≡ b
    same = heads x b (xs ++ n ∷ []) (before ++ m ∷ after) e

    go : ((before ≡ xs) × (m ≡ n)) ⊎ ((rest : List A) × (xs ≡ before ++ m ∷ rest)) → ((b ∷ before ≡ x ∷ xs) × (m ≡ n)) ⊎ ((rest : List A) × (x ∷ xs ≡ b ∷ (before ++ m ∷ rest)))
    go (inl h) = inl (ap (λ l. b ∷ l) h.0 ∙ ap (λ y. y ∷ xs) (sym same), h.1)
    go (inr h) = inr (h.0, ap (λ y. y ∷ xs) same ∙ ap (λ l. b ∷ l) h.1)

module _ (g : Setting) (drawn : Problem → Substitution → Type 0) (start : List FlatTerm) where
  -- a level run with one more member
  pub run_push : (run : List Deep) (m : Deep) → 1 ≤ length run → IsLevelRun g drawn start run → HasParent g drawn run m → ((a : Deep) → Contains run a → (a.depth ≤ m.depth) × AreFolded g a m) → IsLevelRun g drawn start (run ++ m ∷ [])
  run_push run m some h parent folds = record {
    first = λ n rest e. first run n rest some (λ k l p. h.first k l p) e;
    parents = λ before n after e. go before n (split_last run m before n after e);
    sorted = all_pairs_push (λ a b. a.depth ≤ b.depth) run m h.sorted (λ k e l. (folds (get_or run k e) (Contains-get_or run k e l)).0);
    folded = all_pairs_push (AreFolded g) run m h.folded (λ k e l. (folds (get_or run k e) (Contains-get_or run k e l)).1);
  } where
    first : (list : List Deep) (n : Deep) (rest : List Deep) → 1 ≤ length list → ((k : Deep) (l : List Deep) → list ≡ k ∷ l → (k.depth ≡ 0) × IsStart g start k.variant) → list ++ m ∷ [] ≡ n ∷ rest → (n.depth ≡ 0) × IsStart g start n.variant
    first [] n rest l f e = absurd (omega (arith, l))
    first (x ∷ xs) n rest l f e = f n xs (ap (λ y. y ∷ xs) (heads x n (xs ++ m ∷ []) rest e))

    go : (before : List Deep) (n : Deep) → ((before ≡ run) × (n ≡ m)) ⊎ ((rest : List Deep) × (run ≡ before ++ n ∷ rest)) → (before ≡ []) ⊎ HasParent g drawn before n
    go before n (inl p) = inr (subst (λ l. HasParent g drawn l n) (sym p.0) (subst (HasParent g drawn run) (sym p.1) parent))
    go before n (inr p) = h.parents before n p.0 p.1
