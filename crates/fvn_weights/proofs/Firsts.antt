-- Where the first variable stands that passes a test.
use Rattle.std.proofs.Common.{◌≡◌, ◌<◌, ℕ, zero, suc, Bool, true, false, List, [], ◌∷◌, ◌++◌, set, Option, Some, None, length, refl, sym, subst, ap, ◌∙◌, arith}
use Rattle.std.specs.Prelude.{get_or, option_map, if◌then◌else◌}
use Rattle.fvn_base.proofs.Options.{Some-injective}
use Rattle.fvn_terms.specs.declared.plain.Var.{Var}
use Rattle.fvn_weights.specs.inner.Numbers.{first_at}
use Rattle.fvn_weights.proofs.FitTests.{contradicts}

fails : (b : Bool) → (b ≡ true → ⊥) → b ≡ false
fails true h = absurd (h refl)
fails false h = refl

none_of : (o : Option ℕ) → option_map suc o ≡ None → o ≡ None
none_of None e = refl
none_of (Some i) e = cc

counted : (b : Bool) (n : ℕ) → option_map suc (if b then Some n else None) ≡ (if b then Some (suc n) else None)
counted true n = refl
counted false n = refl

module _ (test : Var → Bool) where
  pub first_within : (ps : List (Var × ℕ)) (i : ℕ) → first_at test ps ≡ Some i → i < length ps
  first_within [] i e = cc
  first_within (p ∷ ps) i e = go (test p.0) e (first_within ps) where
    go : (b : Bool) → (if b then Some 0 else option_map suc (first_at test ps)) ≡ Some i → ((j : ℕ) → first_at test ps ≡ Some j → j < length ps) → i < length (p ∷ ps)
    go true q rest = let zero_is : 0 ≡ i = Some-injective q in omega arith
    go false q rest = later (first_at test ps) refl q rest where
      later : (o : Option ℕ) → first_at test ps ≡ o → option_map suc o ≡ Some i → ((j : ℕ) → first_at test ps ≡ Some j → j < length ps) → i < length (p ∷ ps)
      later None is r h = cc
      later (Some j) is r h = let next : suc j ≡ i = Some-injective r in let less = h j is in omega arith

  -- the variable there passes
  pub first_passes : (ps : List (Var × ℕ)) (i : ℕ) (d : Var × ℕ) → first_at test ps ≡ Some i → test (get_or ps i d).0 ≡ true
  first_passes [] i d e = cc
  first_passes (p ∷ ps) i d e = go (test p.0) refl e (λ j. first_passes ps j d) where
    go : (b : Bool) → test p.0 ≡ b → (if b then Some 0 else option_map suc (first_at test ps)) ≡ Some i → ((j : ℕ) → first_at test ps ≡ Some j → test (get_or ps j d).0 ≡ true) →
        test (get_or (p ∷ ps) i d).0 ≡ true
    go true t q rest = ap (λ k. test (get_or (p ∷ ps) k d).0) (sym (Some-injective q)) ∙ t
    go false t q rest = later (first_at test ps) refl q where
      later : (o : Option ℕ) → first_at test ps ≡ o → option_map suc o ≡ Some i → test (get_or (p ∷ ps) i d).0 ≡ true
      later None is r = cc
      later (Some j) is r = ap (λ k. test (get_or (p ∷ ps) k d).0) (sym (Some-injective r)) ∙ rest j is

  -- where none is found, none passes
  pub first_none : (ps : List (Var × ℕ)) (i : ℕ) (d : Var × ℕ) → first_at test ps ≡ None → i < length ps → test (get_or ps i d).0 ≡ false
  first_none [] i d e l = elim l [ ]
  first_none (p ∷ ps) i d e l = go (test p.0) refl e (λ j. first_none ps j d) i l where
    go : (b : Bool) → test p.0 ≡ b → (if b then Some 0 else option_map suc (first_at test ps)) ≡ None → ((j : ℕ) → first_at test ps ≡ None → j < length ps → test (get_or ps j d).0 ≡ false) →
        (m : ℕ) → m < length (p ∷ ps) → test (get_or (p ∷ ps) m d).0 ≡ false
    go true t q rest m l = cc
    go false t q rest zero l = t
    go false t q rest (suc m) l = rest m (none_of (first_at test ps) q) (omega arith)

  -- a number that is written at a variable's place leaves all places
  pub first_set : (ps : List (Var × ℕ)) (i : ℕ) (x : Var) (n : ℕ) (d : Var × ℕ) → (get_or ps i d).0 ≡ x → first_at test (set ps i (x, n)) ≡ first_at test ps
  first_set [] i x n d e = refl
  first_set (p ∷ ps) zero x n d e = ap (λ y. if test y then Some 0 else option_map suc (first_at test ps)) (sym e)
  first_set (p ∷ ps) (suc i) x n d e = ap (λ o. if test p.0 then Some 0 else option_map suc o) (first_set ps i x n d e)

  -- with one more behind
  pub push_some : (ps : List (Var × ℕ)) (q : Var × ℕ) (i : ℕ) → first_at test ps ≡ Some i → first_at test (ps ++ q ∷ []) ≡ Some i
  push_some [] q i e = cc
  push_some (p ∷ ps) q i e = go (test p.0) refl e (push_some ps q) where
    go : (b : Bool) → test p.0 ≡ b → (if b then Some 0 else option_map suc (first_at test ps)) ≡ Some i → ((j : ℕ) → first_at test ps ≡ Some j → first_at test (ps ++ q ∷ []) ≡ Some j) →
        first_at test ((p ∷ ps) ++ q ∷ []) ≡ Some i
    go true t r rest = ap (λ b. if b then Some 0 else option_map suc (first_at test (ps ++ q ∷ []))) t ∙ r
    go false t r rest = later (first_at test ps) refl r where
      later : (o : Option ℕ) → first_at test ps ≡ o → option_map suc o ≡ Some i → first_at test ((p ∷ ps) ++ q ∷ []) ≡ Some i
      later None is s = cc
      later (Some j) is s = ap (λ b. if b then Some 0 else option_map suc (first_at test (ps ++ q ∷ []))) t ∙ ap (option_map suc) (rest j is) ∙ s

  pub push_none : (ps : List (Var × ℕ)) (q : Var × ℕ) → first_at test ps ≡ None → first_at test (ps ++ q ∷ []) ≡ (if test q.0 then Some (length ps) else None)
  push_none [] q e = refl
  push_none (p ∷ ps) q e = go (test p.0) refl e (push_none ps q) where
    go : (b : Bool) → test p.0 ≡ b → (if b then Some 0 else option_map suc (first_at test ps)) ≡ None → (first_at test ps ≡ None → first_at test (ps ++ q ∷ []) ≡ (if test q.0 then Some (length ps) else None)) →
        first_at test ((p ∷ ps) ++ q ∷ []) ≡ (if test q.0 then Some (suc (length ps)) else None)
    go true t r rest = cc
    go false t r rest =
        ap (λ b. if b then Some 0 else option_map suc (first_at test (ps ++ q ∷ []))) t
        ∙ ap (option_map suc) (rest (none_of (first_at test ps) r))
        ∙ counted (test q.0) (length ps)

-- a test that passes less
module _ (narrow wide : Var → Bool) (implies : (y : Var) → narrow y ≡ true → wide y ≡ true) where
  not_here : (y : Var) → wide y ≡ false → narrow y ≡ false
  not_here y w = fails (narrow y) (λ t. contradicts (wide y) (implies y t) w)

  pub narrow_here : (ps : List (Var × ℕ)) (i : ℕ) (d : Var × ℕ) → first_at wide ps ≡ Some i → narrow (get_or ps i d).0 ≡ true → first_at narrow ps ≡ Some i
  narrow_here [] i d e h = cc
  narrow_here (p ∷ ps) i d e h = go (wide p.0) refl e (λ j. narrow_here ps j d) where
    go : (b : Bool) → wide p.0 ≡ b → (if b then Some 0 else option_map suc (first_at wide ps)) ≡ Some i → ((j : ℕ) → first_at wide ps ≡ Some j → narrow (get_or ps j d).0 ≡ true → first_at narrow ps ≡ Some j) →
        first_at narrow (p ∷ ps) ≡ Some i
    go true w q rest =
        let here : narrow p.0 ≡ true = subst (λ k. narrow (get_or (p ∷ ps) k d).0 ≡ true) (sym (Some-injective q)) h in
        ap (λ b. if b then Some 0 else option_map suc (first_at narrow ps)) here ∙ q
    go false w q rest = later (first_at wide ps) refl q where
      later : (o : Option ℕ) → first_at wide ps ≡ o → option_map suc o ≡ Some i → first_at narrow (p ∷ ps) ≡ Some i
      later None is r = cc
      later (Some j) is r =
          let there : narrow (get_or ps j d).0 ≡ true = subst (λ k. narrow (get_or (p ∷ ps) k d).0 ≡ true) (sym (Some-injective r)) h in
          ap (λ b. if b then Some 0 else option_map suc (first_at narrow ps)) (not_here p.0 w) ∙ ap (option_map suc) (rest j is there) ∙ r

  pub narrow_none : (ps : List (Var × ℕ)) → first_at wide ps ≡ None → first_at narrow ps ≡ None
  narrow_none [] e = refl
  narrow_none (p ∷ ps) e = go (wide p.0) refl e (narrow_none ps) where
    go : (b : Bool) → wide p.0 ≡ b → (if b then Some 0 else option_map suc (first_at wide ps)) ≡ None → (first_at wide ps ≡ None → first_at narrow ps ≡ None) → first_at narrow (p ∷ ps) ≡ None
    go true w q rest = cc
    go false w q rest = ap (λ b. if b then Some 0 else option_map suc (first_at narrow ps)) (not_here p.0 w) ∙ ap (option_map suc) (rest (none_of (first_at wide ps) q))
