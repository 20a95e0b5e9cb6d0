-- Words that are made of a profile are marks of its forms.
use Rattle.std.proofs.Common.{◌≡◌, ◌≢◌, ℕ, zero, suc, ◌+◌, ◌*◌, ◌%◌, ◌<◌, ◌≤◌, min, max, List, [], ◌∷◌, ◌++◌, length, replicate, Option, Some, None, refl, sym, ap, subst, ◌∙◌, ◌⊎◌, ◌↔◌, inl, inr, arith}
use Rattle.std.specs.Prelude.{Contains}
use Rattle.std.proofs.Math.ListN.{get_or-eq_default}
use Rattle.std.proofs.lemmas.List.{length-map}
use Rattle.std.proofs.lemmas.List.Elements.{Contains-append_left, Contains-append_right, Contains-append_cases}
use Rattle.fvn_base.proofs.Membership.{contains_here, contains_cases, contains_none}
use Rattle.fvn_terms.specs.declared.plain.OpId.{OpId}
use Rattle.fvn_terms.specs.declared.declarations.Declarations.{Declarations}
use Rattle.fvn_terms.specs.Signature.{unknown, axioms}
use Rattle.fvn_terms.specs.Equality.{identity}
use Rattle.fvn_forms.specs.Flat.{FlatTerm, plain}
use Rattle.fvn_cover_counts.specs.declared.symbols.Symbol.{Symbol}
use Rattle.fvn_cover_counts.specs.declared.symbols.Symbol.TheVariants.{Variable, Operator}
use Rattle.fvn_cover_counts.specs.declared.profile.Profile.{Profile}
use Rattle.fvn_cover_counts.specs.declared.marks.Unkept.{Unkept}
use Rattle.fvn_cover_counts.specs.Weights.{times}
use Rattle.fvn_cover_counts.specs.Places.{column, places_from, places}
use Rattle.fvn_cover_counts.specs.Profiles.{IsProfile, AreAtMost}
use Rattle.fvn_cover_counts.specs.Marks.{Has, IsUnkeptBit, AreUnkept, KeepsOperator, HasVariableAlone, AreMarks}
use Rattle.fvn_cover_counts.specs.inner.Bits.{operator_bit, pair_bit, with_operators, with_variables, with_identities}
use Rattle.fvn_cover_counts.proofs.Parts.{at_most_or_more}
use Rattle.fvn_cover_counts.proofs.WordBits.{Among, has_none}
use Rattle.fvn_cover_counts.proofs.SetBits.{IsSymbolBit, IsVariableBit, IsFirstPairBit, IsIdentityBit, IsSomeIdentityBit, has_operators, has_variables, has_identities, among_all, all_among}

copies : (m i p : ℕ) → Contains (replicate m i) p → (i ≡ p) × (1 ≤ m)
copies zero i p h = absurd (contains_none p h)
copies (suc m) i p h = elim (contains_cases i (replicate m i) p h) [ inl e ↦ (e, omega arith) | inr k ↦ ((copies m i p k).0, omega arith) ]

one_copy : (n i : ℕ) → 1 ≤ n → Contains (replicate n i) i
one_copy zero i l = absurd (omega (arith, l))
one_copy (suc n) i l = contains_here i (replicate n i)

-- where no count is less, each place is there too
pub at_most_places : (i : ℕ) (ms ns : List ℕ) → AreAtMost ms ns → (p : ℕ) → Contains (places_from i ms) p → Contains (places_from i ns) p
at_most_places i [] ns h p m = absurd (contains_none p m)
at_most_places i (m ∷ ms) [] h p c = go (Contains-append_cases (replicate m i) (places_from (i + 1) ms) p c) (at_most_places (i + 1) ms [] h.1 p)
  where
    go : Contains (replicate m i) p ⊎ Contains (places_from (i + 1) ms) p → (Contains (places_from (i + 1) ms) p → Contains [] p) → Contains [] p
    go (inl k) f = let l = (copies m i p k).1 in let e = h.0 in absurd (omega (arith, l, e))
    go (inr k) f = f k
at_most_places i (m ∷ ms) (n ∷ ns) h p c = go (Contains-append_cases (replicate m i) (places_from (i + 1) ms) p c) (at_most_places (i + 1) ms ns h.1 p)
  where
    go : Contains (replicate m i) p ⊎ Contains (places_from (i + 1) ms) p → (Contains (places_from (i + 1) ms) p → Contains (places_from (i + 1) ns) p) → Contains (replicate n i ++ places_from (i + 1) ns) p
    go (inl k) f =
        let w = copies m i p k in
        let l = w.1 in
        let le = h.0 in
        Contains-append_left (replicate n i) (places_from (i + 1) ns) p (subst (Contains (replicate n i)) w.0 (one_copy n i (omega (arith, l, le))))
    go (inr k) f = Contains-append_right (replicate n i) (places_from (i + 1) ns) p (f k)

-- places are numbers of the forms
places_below : (i : ℕ) (ns : List ℕ) (p : ℕ) → Contains (places_from i ns) p → p < i + length ns
places_below i [] p c = absurd (contains_none p c)
places_below i (n ∷ ns) p c = go (Contains-append_cases (replicate n i) (places_from (i + 1) ns) p c) (places_below (i + 1) ns p)
  where
    go : Contains (replicate n i) p ⊎ Contains (places_from (i + 1) ns) p → (Contains (places_from (i + 1) ns) p → p < i + 1 + length ns) → p < i + length (n ∷ ns)
    go (inl k) f = let e = (copies n i p k).0 in omega (arith, e)
    go (inr k) f = let l = f k in omega (arith, l)

place_known : (s : Symbol) (ts : List FlatTerm) (p : ℕ) → Contains (places s ts) p → p < length ts
place_known s ts p c = let l = places_below 0 (column s ts) p c in let e = length-map ts (λ t. times s (plain t)) in omega (arith, l, e)

some_place : (is : List ℕ) (p : ℕ) → Contains is p → is ≢ []
some_place is p c e = contains_none p (subst (λ l. Contains l p) e c)

pair_either : (i j : ℕ) → pair_bit i j ≡ pair_bit j i
pair_either i j =
    let a : min i j ≡ min j i = omega arith in
    let b : max i j ≡ max j i = omega arith in
    ap (λ m. (m % 64 * 11 + max i j % 64) % 64) a ∙ ap (λ m. (min j i % 64 * 11 + m % 64) % 64) b

module _ (out : Unkept) (p : Profile) (ts : List FlatTerm) (is_profile : IsProfile ts p) (b : ℕ) where
  row_keeps : (s : Symbol) (is : List ℕ) → is ≡ places s ts → IsSymbolBit out.bits s is b → KeepsOperator out ts b
  row_keeps (Variable x) is e k = absurd k
  row_keeps (Operator f) is e k = record { operator = f; place = k.1.0; counted = k.0; stands = subst (λ l. Contains l k.1.0) e k.1.1; falls = k.1.2 }

  pub operators_are : Has (with_operators out.bits p.rows.items 0) b ↔ KeepsOperator out ts b
  operators_are = (λ h. forth (all.0 h), back)
    where
      all : Has (with_operators out.bits p.rows.items 0) b ↔ (Has 0 b ⊎ Among (λ r. IsSymbolBit out.bits r.symbol r.places b) p.rows.items)
      all = has_operators out.bits p.rows.items 0 b

      forth : Has 0 b ⊎ Among (λ r. IsSymbolBit out.bits r.symbol r.places b) p.rows.items → KeepsOperator out ts b
      forth (inl h) = absurd (has_none b h)
      forth (inr k) = row_keeps k.0.symbol k.0.places (is_profile.each k.0 k.1).0 k.2

      back : KeepsOperator out ts b → Has (with_operators out.bits p.rows.items 0) b
      back k =
          let r = is_profile.every (Operator k.operator) (some_place (places (Operator k.operator) ts) k.place k.stands) in
          let u : r.0.places ≡ places (Operator k.operator) ts = (is_profile.each r.0 r.1).0 ∙ ap (λ s. places s ts) r.2 in
          all.1 (inr (r.0, r.1, subst (λ s. IsSymbolBit out.bits s r.0.places b) (sym r.2) (k.counted, (k.place, subst (λ l. Contains l k.place) (sym u) k.stands, k.falls))))

  module _ (n : ℕ) (long : length ts ≡ n) where
    row_alone : (s : Symbol) (is : List ℕ) → is ≡ places s ts → IsVariableBit n s is b → HasVariableAlone ts b
    row_alone (Operator f) is e k = absurd k
    row_alone (Variable x) [] e k = absurd k
    row_alone (Variable x) (i ∷ is) e k =
        let here : Contains (places (Variable x) ts) i = subst (λ l. Contains l i) e (contains_here i is) in
        record {
          variable = x;
          first = i;
          second = k.0;
          first_known = place_known (Variable x) ts i here;
          second_known = subst (λ m. k.0 < m) (sym long) k.1;
          stands = some_place (places (Variable x) ts) i here;
          alone = λ q c. among_all i k.0 (i ∷ is) k.2.0 q (subst (λ l. Contains l q) (sym e) c);
          falls = k.2.1;
        }

    first_alone : (is : List ℕ) → is ≢ [] → (i j : ℕ) → i < n → j < n → ((q : ℕ) → Contains is q → (q ≡ i) ⊎ (q ≡ j)) → pair_bit i j ≡ b → IsFirstPairBit n is b
    first_alone [] ne i j l m h f = absurd (ne refl)
    first_alone (a ∷ is) ne i j l m h f = go (h a (contains_here a is))
      where
        turned : a ≡ j → (q : ℕ) → (q ≡ i) ⊎ (q ≡ j) → (q ≡ a) ⊎ (q ≡ i)
        turned e q (inl x) = inr x
        turned e q (inr x) = inl (x ∙ sym e)

        straight : a ≡ i → (q : ℕ) → (q ≡ i) ⊎ (q ≡ j) → (q ≡ a) ⊎ (q ≡ j)
        straight e q (inl x) = inl (x ∙ sym e)
        straight e q (inr x) = inr x

        go : (a ≡ i) ⊎ (a ≡ j) → IsFirstPairBit n (a ∷ is) b
        go (inl e) = (j, m, (all_among a j (a ∷ is) (λ q c. straight e q (h q c)), ap (λ z. pair_bit z j) e ∙ f))
        go (inr e) = (i, l, (all_among a i (a ∷ is) (λ q c. turned e q (h q c)), ap (λ z. pair_bit z i) e ∙ pair_either j i ∙ f))

    pub variables_are : Has (with_variables n p.rows.items 0) b ↔ HasVariableAlone ts b
    variables_are = (λ h. forth (all.0 h), back)
      where
        all : Has (with_variables n p.rows.items 0) b ↔ (Has 0 b ⊎ Among (λ r. IsVariableBit n r.symbol r.places b) p.rows.items)
        all = has_variables n p.rows.items 0 b

        forth : Has 0 b ⊎ Among (λ r. IsVariableBit n r.symbol r.places b) p.rows.items → HasVariableAlone ts b
        forth (inl h) = absurd (has_none b h)
        forth (inr k) = row_alone k.0.symbol k.0.places (is_profile.each k.0 k.1).0 k.2

        back : HasVariableAlone ts b → Has (with_variables n p.rows.items 0) b
        back k =
            let r = is_profile.every (Variable k.variable) k.stands in
            let u : r.0.places ≡ places (Variable k.variable) ts = (is_profile.each r.0 r.1).0 ∙ ap (λ s. places s ts) r.2 in
            let alone = first_alone r.0.places (λ z. k.stands (sym u ∙ z)) k.first k.second (subst (λ m. k.first < m) long k.first_known) (subst (λ m. k.second < m) long k.second_known) (λ q c. k.alone q (subst (λ l. Contains l q) u c)) k.falls in
            all.1 (inr (r.0, r.1, subst (λ s. IsVariableBit n s r.0.places b) (sym r.2) alone))

-- the two words
pub marks_are : (out : Unkept) (p : Profile) (n up down : ℕ) → up ≡ with_operators out.bits p.rows.items 0 → down ≡ with_variables n p.rows.items 0 → (ts : List FlatTerm) → IsProfile ts p → length ts ≡ n → AreMarks ts (record { out = out; up = up; down = down })
marks_are out p n up down u v ts is_profile long = record {
  up = λ b. subst (λ w. Has w b ↔ KeepsOperator out ts b) (sym u) (operators_are out p ts is_profile b);
  down = λ b. subst (λ w. Has w b ↔ HasVariableAlone ts b) (sym v) (variables_are out p ts is_profile b n long);
}

module _ (d : Declarations) (b : ℕ) where
  named : (k : ℕ) (o : Option OpId) → identity (axioms d (record { 0 = k })) ≡ o → IsIdentityBit (0 + k) o b → IsUnkeptBit d b
  named k None e h = absurd h
  named k (Some c) e h = record { operator = record { 0 = k }; constant = c; has_identity = e; falls = subst (λ n. (n % 64 ≡ b) ⊎ (operator_bit c ≡ b)) (alone k) h }
    where
      alone : (n : ℕ) → 0 + n ≡ n
      alone n = omega arith

  listed : (g e : OpId) → identity (axioms d g) ≡ Some e → (length d.ops ≤ g.0) ⊎ (g.0 < length d.ops) → g.0 < length d.ops
  listed g e is (inl l) = let u : identity (axioms d g) ≡ None = ap (λ z. identity z.axioms) (get_or-eq_default d.ops unknown l) in let clash : None ≡ Some e = sym u ∙ is in cc
  listed g e is (inr l) = l

  pub identities_are : Has (with_identities 0 d.ops 0) b ↔ IsUnkeptBit d b
  identities_are = (λ h. forth (all.0 h), back)
    where
      all : Has (with_identities 0 d.ops 0) b ↔ (Has 0 b ⊎ IsSomeIdentityBit 0 d.ops b)
      all = has_identities 0 d.ops 0 b

      alone : (n : ℕ) → n ≡ 0 + n
      alone n = omega arith

      forth : Has 0 b ⊎ IsSomeIdentityBit 0 d.ops b → IsUnkeptBit d b
      forth (inl h) = absurd (has_none b h)
      forth (inr k) = named k.0 (identity (axioms d (record { 0 = k.0 }))) refl k.2

      back : IsUnkeptBit d b → Has (with_identities 0 d.ops 0) b
      back u =
          let g = u.operator in
          let falls : IsIdentityBit (0 + g.0) (Some u.constant) b = subst (λ n. (n % 64 ≡ b) ⊎ (operator_bit u.constant ≡ b)) (alone g.0) u.falls in
          all.1 (inr (g.0, listed g u.constant u.has_identity (at_most_or_more (length d.ops) g.0), subst (λ o. IsIdentityBit (0 + g.0) o b) (sym u.has_identity) falls))

pub unkept_are : (d : Declarations) (bits : ℕ) → bits ≡ with_identities 0 d.ops 0 → AreUnkept d (record { bits = bits })
unkept_are d bits e b = subst (λ w. Has w b ↔ IsUnkeptBit d b) (sym e) (identities_are d b)
