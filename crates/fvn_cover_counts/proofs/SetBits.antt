-- Which bits are set in the words that are made of rows and operators.
use Rattle.std.proofs.Common.{◌≡◌, ℕ, zero, suc, ◌+◌, ◌%◌, ◌<◌, Bool, true, false, nat_eq, ◌||◌, if◌then◌else◌, List, [], ◌∷◌, length, get_or, Option, Some, None, refl, sym, ap, subst, ◌∙◌, ◌⊎◌, ◌↔◌, inl, inr, arith}
use Rattle.std.specs.Prelude.{Contains}
use Rattle.std.proofs.lemmas.Bool.{eqb-true, eq-eqb, false≢true}
use Rattle.fvn_base.proofs.Membership.{contains_here, contains_later, contains_cases, contains_none}
use Rattle.fvn_terms.specs.declared.plain.OpId.{OpId}
use Rattle.fvn_terms.specs.declared.declarations.OpDecl.{OpDecl}
use Rattle.fvn_terms.specs.Signature.{unknown}
use Rattle.fvn_terms.specs.Equality.{identity}
use Rattle.fvn_cover_counts.specs.declared.symbols.Symbol.{Symbol}
use Rattle.fvn_cover_counts.specs.declared.symbols.Symbol.TheVariants.{Variable, Operator}
use Rattle.fvn_cover_counts.specs.declared.rows.Row.{Row}
use Rattle.fvn_cover_counts.specs.Marks.{Has}
use Rattle.fvn_cover_counts.specs.inner.Bits.{operator_bit, has_operator, place_bit, pair_bit, with_bit, with_places, with_symbol_places, with_operators, are_among, with_pair, with_pairs, with_symbol_pairs, with_variables, with_identity, with_identities}
use Rattle.fvn_cover_counts.proofs.WordBits.{Among, has_with_bit, gained_none, gained_more}

-- the operator at some of the places falls on the bit
abbrev pub IsPlaceBit : OpId → List ℕ → ℕ → Type 0
IsPlaceBit f is b = Among (λ i. place_bit f i ≡ b) is

has_places : (f : OpId) (is : List ℕ) (w b : ℕ) → Has (with_places f is w) b ↔ (Has w b ⊎ IsPlaceBit f is b)
has_places f [] w b = gained_none (λ i. place_bit f i ≡ b) (Has w b)
has_places f (i ∷ is) w b = gained_more (λ j. place_bit f j ≡ b) i is (Has w b) (Has (with_bit (place_bit f i) w) b) (Has (with_places f (i ∷ is) w) b) (has_places f is (with_bit (place_bit f i) w) b) (has_with_bit (place_bit f i) w b)

-- the symbol is an operator that is not left out, and at some of the places it falls on the bit
abbrev pub IsSymbolBit : ℕ → Symbol → List ℕ → ℕ → Type 0
IsSymbolBit out (Variable x) is b = ⊥
IsSymbolBit out (Operator f) is b = (Has out (operator_bit f) → ⊥) × (IsPlaceBit f is b)

has_symbol_places : (out : ℕ) (s : Symbol) (is : List ℕ) (w b : ℕ) → Has (with_symbol_places out s is w) b ↔ (Has w b ⊎ IsSymbolBit out s is b)
has_symbol_places out (Variable x) is w b = (λ h. inl h, back)
  where
    back : Has w b ⊎ ⊥ → Has w b
    back (inl h) = h
    back (inr k) = absurd k
has_symbol_places out (Operator f) is w b = go (has_operator out f) refl
  where
    left : Has out (operator_bit f) → Has w b ⊎ IsSymbolBit out (Operator f) is b → Has w b
    left o (inl h) = h
    left o (inr k) = absurd (k.0 o)

    forth : (Has out (operator_bit f) → ⊥) → Has w b ⊎ IsPlaceBit f is b → Has w b ⊎ IsSymbolBit out (Operator f) is b
    forth n (inl h) = inl h
    forth n (inr k) = inr (n, k)

    back : Has w b ⊎ IsSymbolBit out (Operator f) is b → Has w b ⊎ IsPlaceBit f is b
    back (inl h) = inl h
    back (inr k) = inr k.1

    go : (t : Bool) → has_operator out f ≡ t → Has (if t then w else with_places f is w) b ↔ (Has w b ⊎ IsSymbolBit out (Operator f) is b)
    go true e = (λ h. inl h, left (eqb-true _ _ e))
    go false e = let n : Has out (operator_bit f) → ⊥ = λ o. false≢true (sym e ∙ eq-eqb _ _ o) in let all = has_places f is w b in (λ h. forth n (all.0 h), λ h. all.1 (back h))

-- the same of some row
pub has_operators : (out : ℕ) (rows : List Row) (w b : ℕ) → Has (with_operators out rows w) b ↔ (Has w b ⊎ Among (λ r. IsSymbolBit out r.symbol r.places b) rows)
has_operators out [] w b = gained_none (λ r. IsSymbolBit out r.symbol r.places b) (Has w b)
has_operators out (r ∷ rows) w b =
    let more = with_symbol_places out r.symbol r.places w in
    gained_more (λ q. IsSymbolBit out q.symbol q.places b) r rows (Has w b) (Has more b) (Has (with_operators out (r ∷ rows) w) b) (has_operators out rows more b) (has_symbol_places out r.symbol r.places w b)

-- places that are among two
pub among_all : (i j : ℕ) (ps : List ℕ) → are_among i j ps ≡ true → (p : ℕ) → Contains ps p → (p ≡ i) ⊎ (p ≡ j)
among_all i j [] t p m = absurd (contains_none p m)
among_all i j (q ∷ ps) t p m = go (nat_eq q i) (nat_eq q j) refl refl (contains_cases q ps p m) (among_all i j ps)
  where
    go : (a b : Bool) → nat_eq q i ≡ a → nat_eq q j ≡ b → (q ≡ p) ⊎ Contains ps p → (are_among i j ps ≡ true → (r : ℕ) → Contains ps r → (r ≡ i) ⊎ (r ≡ j)) → (p ≡ i) ⊎ (p ≡ j)
    go true b e f (inl s) k = inl (sym s ∙ eqb-true q i e)
    go true b e f (inr n) k = k (rw e at t) p n
    go false true e f (inl s) k = inr (sym s ∙ eqb-true q j f)
    go false true e f (inr n) k = k (rw (e, f) at t) p n
    go false false e f s k = absurd (false≢true (rw (e, f) at t))

pass_or : (a b : Bool) → (a ≡ true) ⊎ (b ≡ true) → (a || b) ≡ true
pass_or true b h = refl
pass_or false b (inl e) = absurd (false≢true e)
pass_or false b (inr e) = e

pass_one : (q i j : ℕ) → (q ≡ i) ⊎ (q ≡ j) → (nat_eq q i || nat_eq q j) ≡ true
pass_one q i j (inl e) = pass_or (nat_eq q i) (nat_eq q j) (inl (eq-eqb q i e))
pass_one q i j (inr e) = pass_or (nat_eq q i) (nat_eq q j) (inr (eq-eqb q j e))

pub all_among : (i j : ℕ) (ps : List ℕ) → ((p : ℕ) → Contains ps p → (p ≡ i) ⊎ (p ≡ j)) → are_among i j ps ≡ true
all_among i j [] h = refl
all_among i j (q ∷ ps) h = ap (λ c. if c then are_among i j ps else false) (pass_one q i j (h q (contains_here q ps))) ∙ all_among i j ps (λ p m. h p (contains_later q ps p m))

-- the places are among the two, which fall on the bit
abbrev pub IsPairBit : ℕ → List ℕ → ℕ → ℕ → Type 0
IsPairBit i ps b j = (are_among i j ps ≡ true) × (pair_bit i j ≡ b)

has_pair : (i j : ℕ) (ps : List ℕ) (w b : ℕ) → Has (with_pair i j ps w) b ↔ (Has w b ⊎ IsPairBit i ps b j)
has_pair i j ps w b = go (are_among i j ps) refl
  where
    one : Has (with_bit (pair_bit i j) w) b ↔ (Has w b ⊎ (pair_bit i j ≡ b))
    one = has_with_bit (pair_bit i j) w b

    forth : are_among i j ps ≡ true → Has w b ⊎ (pair_bit i j ≡ b) → Has w b ⊎ IsPairBit i ps b j
    forth e (inl h) = inl h
    forth e (inr k) = inr (e, k)

    back : Has w b ⊎ IsPairBit i ps b j → Has w b ⊎ (pair_bit i j ≡ b)
    back (inl h) = inl h
    back (inr k) = inr k.1

    stay : are_among i j ps ≡ false → Has w b ⊎ IsPairBit i ps b j → Has w b
    stay e (inl h) = h
    stay e (inr k) = absurd (false≢true (sym e ∙ k.0))

    go : (t : Bool) → are_among i j ps ≡ t → Has (if t then with_bit (pair_bit i j) w else w) b ↔ (Has w b ⊎ IsPairBit i ps b j)
    go true e = (λ h. forth e (one.0 h), λ h. one.1 (back h))
    go false e = (λ h. inl h, stay e)

-- a number below n with which they are
abbrev pub IsPairBelow : ℕ → List ℕ → ℕ → ℕ → Type 0
IsPairBelow i ps n b = (j : ℕ) × (j < n) × (IsPairBit i ps b j)

below_cases : (j n : ℕ) → j < suc n → (j < n) ⊎ (j ≡ n)
below_cases zero zero l = inr refl
below_cases zero (suc n) l = inl (omega arith)
below_cases (suc j) zero l = absurd (omega (arith, l))
below_cases (suc j) (suc n) l = elim (below_cases j n (omega (arith, l))) [ inl k ↦ inl (omega (arith, k)) | inr e ↦ inr (ap suc e) ]

pairs_more : (i : ℕ) (ps : List ℕ) (n b : ℕ) (H M W : Type 0) → M ↔ (H ⊎ IsPairBelow i ps n b) → W ↔ (M ⊎ IsPairBit i ps b n) → W ↔ (H ⊎ IsPairBelow i ps (suc n) b)
pairs_more i ps n b H M W below one = (λ h. forth (one.0 h), back)
  where
    early : H ⊎ IsPairBelow i ps n b → H ⊎ IsPairBelow i ps (suc n) b
    early (inl h) = inl h
    early (inr k) = inr (k.0, (let l = k.1 in omega (arith, l)), k.2)

    forth : M ⊎ IsPairBit i ps b n → H ⊎ IsPairBelow i ps (suc n) b
    forth (inl m) = early (below.0 m)
    forth (inr k) = inr (n, omega arith, k)

    late : (j : ℕ) → (j < n) ⊎ (j ≡ n) → IsPairBit i ps b j → W
    late j (inl l) k = one.1 (inl (below.1 (inr (j, l, k))))
    late j (inr e) k = one.1 (inr (subst (IsPairBit i ps b) e k))

    back : H ⊎ IsPairBelow i ps (suc n) b → W
    back (inl h) = one.1 (inl (below.1 (inl h)))
    back (inr k) = late k.0 (below_cases k.0 n k.1) k.2

has_pairs : (i : ℕ) (ps : List ℕ) (n w b : ℕ) → Has (with_pairs i ps n w) b ↔ (Has w b ⊎ IsPairBelow i ps n b)
has_pairs i ps zero w b = (λ h. inl h, back)
  where
    back : Has w b ⊎ IsPairBelow i ps zero b → Has w b
    back (inl h) = h
    back (inr k) = let l = k.1 in absurd (omega (arith, l))
has_pairs i ps (suc n) w b = pairs_more i ps n b (Has w b) (Has (with_pairs i ps n w) b) (Has (with_pairs i ps (suc n) w) b) (has_pairs i ps n w b) (has_pair i n ps (with_pairs i ps n w) b)

-- one number more
pub with_pairs_more : (i : ℕ) (ps : List ℕ) (j w more new : ℕ) → more ≡ with_pairs i ps j w → new ≡ with_pair i j ps more → new ≡ with_pairs i ps (j + 1) w
with_pairs_more i ps j w more new e f = subst (λ n. new ≡ with_pairs i ps n w) (next j) (f ∙ ap (with_pair i j ps) e)
  where
    next : (n : ℕ) → suc n ≡ n + 1
    next n = omega arith

-- the first of the places, and the symbol of a row
abbrev pub IsFirstPairBit : ℕ → List ℕ → ℕ → Type 0
IsFirstPairBit n [] b = ⊥
IsFirstPairBit n (i ∷ is) b = IsPairBelow i (i ∷ is) n b

abbrev pub IsVariableBit : ℕ → Symbol → List ℕ → ℕ → Type 0
IsVariableBit n (Variable x) is b = IsFirstPairBit n is b
IsVariableBit n (Operator f) is b = ⊥

has_nothing_more : (H : Type 0) → H ↔ (H ⊎ ⊥)
has_nothing_more H = (λ h. inl h, back)
  where
    back : H ⊎ ⊥ → H
    back (inl h) = h
    back (inr k) = absurd k

has_symbol_pairs : (n : ℕ) (s : Symbol) (is : List ℕ) (w b : ℕ) → Has (with_symbol_pairs n s is w) b ↔ (Has w b ⊎ IsVariableBit n s is b)
has_symbol_pairs n (Operator f) is w b = has_nothing_more (Has w b)
has_symbol_pairs n (Variable x) [] w b = has_nothing_more (Has w b)
has_symbol_pairs n (Variable x) (i ∷ is) w b = has_pairs i (i ∷ is) n w b

pub has_variables : (n : ℕ) (rows : List Row) (w b : ℕ) → Has (with_variables n rows w) b ↔ (Has w b ⊎ Among (λ r. IsVariableBit n r.symbol r.places b) rows)
has_variables n [] w b = gained_none (λ r. IsVariableBit n r.symbol r.places b) (Has w b)
has_variables n (r ∷ rows) w b =
    let more = with_symbol_pairs n r.symbol r.places w in
    gained_more (λ q. IsVariableBit n q.symbol q.places b) r rows (Has w b) (Has more b) (Has (with_variables n (r ∷ rows) w) b) (has_variables n rows more b) (has_symbol_pairs n r.symbol r.places w b)

-- operator number g or its identity falls on the bit
abbrev pub IsIdentityBit : ℕ → Option OpId → ℕ → Type 0
IsIdentityBit g None b = ⊥
IsIdentityBit g (Some e) b = (g % 64 ≡ b) ⊎ (operator_bit e ≡ b)

has_identity : (g : ℕ) (o : Option OpId) (w b : ℕ) → Has (with_identity g o w) b ↔ (Has w b ⊎ IsIdentityBit g o b)
has_identity g None w b = has_nothing_more (Has w b)
has_identity g (Some e) w b = (λ h. forth (two.0 h), back)
  where
    one : Has (with_bit (g % 64) w) b ↔ (Has w b ⊎ (g % 64 ≡ b))
    one = has_with_bit (g % 64) w b

    two : Has (with_bit (operator_bit e) (with_bit (g % 64) w)) b ↔ (Has (with_bit (g % 64) w) b ⊎ (operator_bit e ≡ b))
    two = has_with_bit (operator_bit e) (with_bit (g % 64) w) b

    first : Has w b ⊎ (g % 64 ≡ b) → Has w b ⊎ IsIdentityBit g (Some e) b
    first (inl h) = inl h
    first (inr q) = inr (inl q)

    forth : Has (with_bit (g % 64) w) b ⊎ (operator_bit e ≡ b) → Has w b ⊎ IsIdentityBit g (Some e) b
    forth (inl h) = first (one.0 h)
    forth (inr q) = inr (inr q)

    back : Has w b ⊎ IsIdentityBit g (Some e) b → Has (with_identity g (Some e) w) b
    back (inl h) = two.1 (inl (one.1 (inl h)))
    back (inr (inl q)) = two.1 (inl (one.1 (inr q)))
    back (inr (inr q)) = two.1 (inr q)

-- some of the operators, from number g on, or its identity falls on the bit
abbrev pub IsSomeIdentityBit : ℕ → List OpDecl → ℕ → Type 0
IsSomeIdentityBit g os b = (k : ℕ) × (k < length os) × (IsIdentityBit (g + k) (identity (get_or os k unknown).axioms) b)

identities_more : (g : ℕ) (o : OpDecl) (os : List OpDecl) (b : ℕ) (H M W : Type 0) → W ↔ (M ⊎ IsSomeIdentityBit (g + 1) os b) → M ↔ (H ⊎ IsIdentityBit g (identity o.axioms) b) → W ↔ (H ⊎ IsSomeIdentityBit g (o ∷ os) b)
identities_more g o os b H M W whole one = (λ h. forth (whole.0 h), back)
  where
    here : (n : ℕ) → n ≡ n + 0
    here n = omega arith

    next : (n k : ℕ) → n + 1 + k ≡ n + suc k
    next n k = omega arith

    first : H ⊎ IsIdentityBit g (identity o.axioms) b → H ⊎ IsSomeIdentityBit g (o ∷ os) b
    first (inl h) = inl h
    first (inr q) = inr (0, omega arith, subst (λ n. IsIdentityBit n (identity o.axioms) b) (here g) q)

    forth : M ⊎ IsSomeIdentityBit (g + 1) os b → H ⊎ IsSomeIdentityBit g (o ∷ os) b
    forth (inl m) = first (one.0 m)
    forth (inr k) = inr (suc k.0, (let l = k.1 in omega (arith, l)), subst (λ n. IsIdentityBit n (identity (get_or os k.0 unknown).axioms) b) (next g k.0) k.2)

    back : H ⊎ IsSomeIdentityBit g (o ∷ os) b → W
    back (inl h) = whole.1 (inl (one.1 (inl h)))
    back (inr (zero, l, q)) = whole.1 (inl (one.1 (inr (subst (λ n. IsIdentityBit n (identity o.axioms) b) (sym (here g)) q))))
    back (inr (suc k, l, q)) = whole.1 (inr (k, omega (arith, l), subst (λ n. IsIdentityBit n (identity (get_or os k unknown).axioms) b) (sym (next g k)) q))

pub has_identities : (g : ℕ) (os : List OpDecl) (w b : ℕ) → Has (with_identities g os w) b ↔ (Has w b ⊎ IsSomeIdentityBit g os b)
has_identities g [] w b = (λ h. inl h, back)
  where
    back : Has w b ⊎ IsSomeIdentityBit g [] b → Has w b
    back (inl h) = h
    back (inr k) = let l = k.1 in absurd (omega (arith, l))
has_identities g (o ∷ os) w b =
    let more = with_identity g (identity o.axioms) w in
    identities_more g o os b (Has w b) (Has more b) (Has (with_identities g (o ∷ os) w) b) (has_identities (g + 1) os more b) (has_identity g (identity o.axioms) w b)
