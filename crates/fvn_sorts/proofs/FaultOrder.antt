-- The order in which faults are told.
use Rattle.std.proofs.Common.{◌≡◌, ℕ, ◌+◌, ◌<◌, ◌≤◌, List, [], ◌∷◌, Option, Some, None, MatchBool, nat_eq, refl, subst, ◌∙◌, ◌⊎◌, ◌↔◌, inl, inr, arith}
use Rattle.std.specs.List.{Contains}
use Rattle.std.proofs.lemmas.Bool.{cases_lt}
use Rattle.fvn_terms.specs.declared.plain.OpId.{OpId}
use Rattle.fvn_terms.specs.declared.plain.SortId.{SortId}
use Rattle.fvn_terms.specs.declared.declarations.Rank.{Rank}
use Rattle.fvn_terms.specs.Signature.{declared}
use Rattle.fvn_signature_draft.specs.declared.collected.Collected.{Collected}
use Rattle.fvn_sorts.specs.declared.conditions.shapes.Condition.{Condition}
use Rattle.fvn_sorts.specs.declared.conditions.shapes.Condition.TheVariants.{Kinds, Shape, Same, Identity}
use Rattle.fvn_sorts.specs.declared.conditions.brackets.Triple.{Triple}
use Rattle.fvn_sorts.specs.declared.conditions.fault.SigFault.{SigFault}
use Rattle.fvn_sorts.specs.declared.conditions.fault.SigFault.TheVariants.{SortCycle, KindsDiffer, AxiomShape, AxiomsDiffer, IdentityBad, NotPreregular, NotAssocSorts, NotCollapsing, TooMany, NoMemory}
use Rattle.fvn_sorts.specs.Faults.{HasFault, condition, witness, IsEarlier, HasNoFault}
use Rattle.fvn_base.specs.Order.{IsBefore}
use Rattle.fvn_sorts.specs.inner.Searches.{IsFirstFrom, fault_at, place_of, IsFirstList}
use Rattle.fvn_signature_draft.specs.Collected.{op_number, completed}
use Rattle.fvn_sorts.proofs.ShapeLemmas.{no_rank}

-- the fault is the one, or one of those, of the n-th condition
abbrev pub IsOf : ℕ → SigFault → Type 0
IsOf n j =
    MatchBool (nat_eq n 0) (j ≡ TooMany) (
    MatchBool (nat_eq n 1) ((s : SortId) × (j ≡ SortCycle s)) (
    MatchBool (nat_eq n 2) ((f : OpId) × (j ≡ KindsDiffer f)) (
    MatchBool (nat_eq n 3) ((f : OpId) × (j ≡ AxiomShape f)) (
    MatchBool (nat_eq n 4) ((f : OpId) × (j ≡ AxiomsDiffer f)) (
    MatchBool (nat_eq n 5) ((f : OpId) × (j ≡ IdentityBad f)) (
    MatchBool (nat_eq n 6) ((p : OpId × List SortId) × (j ≡ NotPreregular p.0 p.1)) (
    MatchBool (nat_eq n 7) ((p : OpId × Triple) × (j ≡ NotAssocSorts p.0 p.1.first p.1.second p.1.third)) (
    MatchBool (nat_eq n 8) ((p : OpId × SortId) × (j ≡ NotCollapsing p.0 p.1)) (
    j ≡ NoMemory)))))))))

is_of_condition : (j : SigFault) → IsOf (condition j) j
is_of_condition TooMany = refl
is_of_condition (SortCycle s) = (s, refl)
is_of_condition (KindsDiffer f) = (f, refl)
is_of_condition (AxiomShape f) = (f, refl)
is_of_condition (AxiomsDiffer f) = (f, refl)
is_of_condition (IdentityBad f) = (f, refl)
is_of_condition (NotPreregular f ss) = ((f, ss), refl)
is_of_condition (NotAssocSorts f s q r) = ((f, record { first = s; second = q; third = r }), refl)
is_of_condition (NotCollapsing f s) = ((f, s), refl)
is_of_condition NoMemory = refl

pub only : (n : ℕ) (j : SigFault) → condition j ≡ n → IsOf n j
only n j e = subst (λ m. IsOf m j) e (is_of_condition j)

module _ (c : Collected) where
  abbrev pub NoneFrom : ℕ → ℕ → Type 0
  NoneFrom n m = (j : SigFault) → n ≤ condition j → condition j < m → HasFault c j → ⊥

  pub none_then_none : (n m p : ℕ) → NoneFrom n m → NoneFrom m p → NoneFrom n p
  none_then_none n m p a b j l h f = go (cases_lt (condition j) m) where
    go : (condition j < m) ⊎ (m ≤ condition j) → ⊥
    go (inl x) = a j l x f
    go (inr x) = b j x h f

  abbrev pub FirstFrom : ℕ → ℕ → SigFault → Type 0
  FirstFrom n m k = HasFault c k × ((n ≤ condition k) × ((condition k < m) × ((j : SigFault) → n ≤ condition j → IsEarlier j k → HasFault c j → ⊥)))

  pub none_then_first : (n m p q : ℕ) (k : SigFault) → n ≤ m → p ≤ q → NoneFrom n m → FirstFrom m p k → FirstFrom n q k
  none_then_first n m p q k nm pq a b = (b.0, (let x = b.1.0 in omega arith, (let x = b.1.1.0 in omega arith, earlier))) where
    earlier : (j : SigFault) → n ≤ condition j → IsEarlier j k → HasFault c j → ⊥
    earlier j l e f = go (cases_lt (condition j) m) where
      go : (condition j < m) ⊎ (m ≤ condition j) → ⊥
      go (inl x) = a j l x f
      go (inr x) = b.1.1.1 j x e f

  -- the faults of one condition, told by what shows them
  pub none_of_one : {A : Type 0} (n : ℕ) (make : A → SigFault) → ((j : SigFault) → condition j ≡ n → (a : A) × (j ≡ make a)) → ((a : A) → HasFault c (make a) → ⊥) → NoneFrom n (n + 1)
  none_of_one n make only none j l h f = let w = only j (omega arith) in none w.0 (subst (HasFault c) w.1 f)

  pub first_of_one : {A : Type 0} (n : ℕ) (make : A → SigFault) → ((j : SigFault) → condition j ≡ n → (a : A) × (j ≡ make a)) → ((a : A) → condition (make a) ≡ n) → (a : A) → HasFault c (make a) → ((b : A) → IsBefore (witness (make b)) (witness (make a)) → HasFault c (make b) → ⊥) → FirstFrom n (n + 1) (make a)
  first_of_one n make only at a fault first = (fault, (let e = at a in omega arith, (let e = at a in omega arith, earlier))) where
    earlier : (j : SigFault) → n ≤ condition j → IsEarlier j (make a) → HasFault c j → ⊥
    earlier j l (inl x) f = let e = at a in omega arith
    earlier j l (inr p) f =
        let e = at a in
        let w = only j (p.0 ∙ e) in
        first w.0 (subst (λ z. IsBefore (witness z) (witness (make a))) w.1 p.1) (subst (HasFault c) w.1 f)

  -- the same for the conditions that speak of declarations alone
  pub declared_none : (k : Condition) → ((f : OpId) → HasFault c (fault_at k f) → ⊥) → NoneFrom (place_of k) (place_of k + 1)
  declared_none Kinds h = none_of_one 2 KindsDiffer (only 2) h
  declared_none Shape h = none_of_one 3 AxiomShape (only 3) h
  declared_none Same h = none_of_one 4 AxiomsDiffer (only 4) h
  declared_none Identity h = none_of_one 5 IdentityBad (only 5) h

  pub single : (a b : ℕ) → IsBefore (a ∷ []) (b ∷ []) → a < b
  single a b (inl l) = l
  single a b (inr p) = absurd p.1

  pub declared_first : (k : Condition) (f : OpId) → HasFault c (fault_at k f) → ((g : OpId) → g.0 < f.0 → HasFault c (fault_at k g) → ⊥) → FirstFrom (place_of k) (place_of k + 1) (fault_at k f)
  declared_first Kinds f h first = first_of_one 2 KindsDiffer (only 2) (λ _. refl) f h (λ g b. first g (single g.0 f.0 b))
  declared_first Shape f h first = first_of_one 3 AxiomShape (only 3) (λ _. refl) f h (λ g b. first g (single g.0 f.0 b))
  declared_first Same f h first = first_of_one 4 AxiomsDiffer (only 4) (λ _. refl) f h (λ g b. first g (single g.0 f.0 b))
  declared_first Identity f h first = first_of_one 5 IdentityBad (only 5) (λ _. refl) f h (λ g b. first g (single g.0 f.0 b))

  -- the conditions that speak of sorts, told by the operator and what shows them: only an operator with a rank can fail
  pub none_of_operators : {X : Type 0} (n : ℕ) (make : OpId → X → SigFault) → ((j : SigFault) → condition j ≡ n → (p : OpId × X) × (j ≡ make p.0 p.1)) → ((f : OpId) (x : X) → HasFault c (make f x) → (r : Rank) × Contains (declared (completed c) f).ranks r) → (bound : ℕ) → c.operators ≤ bound → ((f : OpId) → f.0 < bound → (x : X) → HasFault c (make f x) → ⊥) → NoneFrom n (n + 1)
  none_of_operators {X} n make only ranked bound all before = none_of_one n (λ (p : OpId × X). make p.0 p.1) only (λ p h. go p h (cases_lt p.0.0 bound)) where
    go : (p : OpId × X) → HasFault c (make p.0 p.1) → (p.0.0 < bound) ⊎ (bound ≤ p.0.0) → ⊥
    go p h (inl l) = before p.0 l p.1 h
    go p h (inr l) = let r = ranked p.0 p.1 h in no_rank c p.0 (omega arith) r.0 r.1

  pub first_of_operators : {X : Type 0} (n : ℕ) (make : OpId → X → SigFault) (nums : X → List ℕ) → ((j : SigFault) → condition j ≡ n → (p : OpId × X) × (j ≡ make p.0 p.1)) → ((f : OpId) (x : X) → condition (make f x) ≡ n) → ((f : OpId) (x : X) → witness (make f x) ≡ f.0 ∷ nums x) → (f : ℕ) (x : X) → HasFault c (make (op_number f) x) → ((b : X) → IsBefore (nums b) (nums x) → HasFault c (make (op_number f) b) → ⊥) → ((g : OpId) → g.0 < f → (b : X) → HasFault c (make g b) → ⊥) → FirstFrom n (n + 1) (make (op_number f) x)
  first_of_operators {X} n make nums only at shown f x fault here before = first_of_one n (λ (p : OpId × X). make p.0 p.1) only (λ p. at p.0 p.1) (op_number f, x) fault (λ p b. compare p.0 p.1 (subst (λ z. IsBefore z (f ∷ nums x)) (shown p.0 p.1) (subst (IsBefore (witness (make p.0 p.1))) (shown (op_number f) x) b))) where
    compare : (g : OpId) (b : X) → IsBefore (g.0 ∷ nums b) (f ∷ nums x) → HasFault c (make g b) → ⊥
    compare g b (inl l) h = before g l b h
    compare g b (inr p) h = here b p.1 (subst (λ k. HasFault c (make (op_number k) b)) p.0 h)

  -- what is found later comes first, where nothing was found before
  pub found_later : (n m p : ℕ) → n ≤ m → NoneFrom n m → (r : Option SigFault) → IsFirstFrom c m p r → IsFirstFrom c n p r
  found_later n m p l h None f = none_then_none n m p h f
  found_later n m p l h (Some k) f = none_then_first n m p p k l (omega arith) h f

  -- what is too large is told first
  pub none_too_large : (HasFault c TooMany → ⊥) → NoneFrom 0 1
  none_too_large h j l m f = h (subst (HasFault c) (only 0 j (omega arith)) f)

  no_fault_at : NoneFrom 0 9 → (k : SigFault) → HasFault c k → ⊥
  no_fault_at h NoMemory f = f
  no_fault_at h k f = h k (omega arith) (omega arith) f

  pub no_fault : NoneFrom 0 1 → NoneFrom 1 9 → HasNoFault c
  no_fault a b = no_fault_at (none_then_none 0 1 9 a b)

-- what is found of an equivalent property
pub IsFirstList-same : {A : Type 0} (sorts : A → List SortId) (P Q : A → Type 0) → ((a : A) → P a ↔ Q a) → (r : Option A) → IsFirstList sorts P r → IsFirstList sorts Q r
IsFirstList-same sorts P Q same None h = λ a q. h a ((same a).1 q)
IsFirstList-same sorts P Q same (Some a) h = ((same a).0 h.0, λ b before q. h.1 b before ((same b).1 q))
