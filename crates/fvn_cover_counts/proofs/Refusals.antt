-- Where forms are matched, the counts of the targets are those of the patterns or greater.
use Rattle.std.proofs.Common.{◌≡◌, ◌≤◌, ℕ, ◌+◌, zero, suc, ◌<◌, Bool, true, false, List, [], ◌∷◌, ◌++◌, length, map, take, get_or, Some, refl, sym, ap, ◌∙◌, subst, inl, inr, arith}
use Rattle.std.specs.Prelude.{◌↔◌, ◌⊎◌, nat_lt, All, Any, Contains, IsTrue}
use Rattle.std.specs.List.{AllZip}
use Rattle.std.specs.List.Sorted.{IsNonDecreasingBy}
use Rattle.std.proofs.lemmas.Bool.{false≢true, ltb-true}
use Rattle.std.proofs.lemmas.List.Elements.{All-contains, All-contains_itself, All-push}
use Rattle.std.proofs.lemmas.List.{take_more}
use Rattle.fvn_base.proofs.Membership.{contains_cases, contains_none, contains_here, contains_later}
use Rattle.fvn_terms.specs.declared.plain.Var.{Var}
use Rattle.fvn_terms.specs.declared.plain.OpId.{OpId}
use Rattle.fvn_terms.specs.declared.declarations.Declarations.{Declarations}
use Rattle.fvn_terms.specs.Signature.{axioms}
use Rattle.fvn_terms.specs.Term.{Term}
use Rattle.fvn_terms.specs.Substitution.{Substitution, apply, Occurs}
use Rattle.fvn_terms.specs.Equality.{BEqual, identity}
use Rattle.fvn_terms.specs.Variants.{OccursInSome}
use Rattle.fvn_terms.proofs.Occurrences.{BEqual-occurs, occurs_value}
use Rattle.fvn_forms.specs.Flat.{FlatTerm, plain}
use Rattle.fvn_forms.specs.Canon.{same_op}
use Rattle.fvn_forms.proofs.Sums.{same_op_is}
use Rattle.fvn_cover_counts.specs.declared.symbols.Symbol.{Symbol}
use Rattle.fvn_cover_counts.specs.declared.symbols.Symbol.TheVariants.{Variable, Operator}
use Rattle.fvn_cover_counts.specs.declared.rows.Row.{Row}
use Rattle.fvn_cover_counts.specs.declared.profile.Profile.{Profile}
use Rattle.fvn_cover_counts.specs.Weights.{one_if, of_symbol, times, same_symbol, IsKept, AreKept}
use Rattle.fvn_cover_counts.specs.Places.{column, places}
use Rattle.fvn_cover_counts.specs.Profiles.{IsProfile, AreAtMost, CountsAllow, AllowsMatching, NeverMatch}
use Rattle.fvn_cover_counts.specs.inner.Comparing.{has_nothing, is_part, IsOwn, AllowsSymbol, AllowsOperator, is_symbol_below, is_below, is_above_some, allows_symbol, allows_variable}
use Rattle.fvn_cover_counts.proofs.SameSymbols.{same_symbol_is, same_symbol_itself}
use Rattle.fvn_cover_counts.proofs.Parts.{none_left, part_columns, part_length, part_of_none, part_same}
use Rattle.fvn_cover_counts.proofs.Steps.{equal_weights}
use Rattle.fvn_cover_counts.proofs.Instances.{fewer_occurrences, fewer_operators}
use Rattle.fvn_cover_counts.proofs.Occurring.{occurs_places, places_occur}

module _ (d : Declarations) where
  -- the axioms keep the count of such an operator
  kept_weights : (f : OpId) → IsKept d f → AreKept d (of_symbol (Operator f))
  kept_weights f k g e is = (top (same_op f g) refl, constant (same_op f e) refl)
    where
      top : (b : Bool) → same_op f g ≡ b → one_if b ≡ 0
      top true q = absurd (k.without_identity e (subst (λ h. identity (axioms d h) ≡ Some e) (sym (same_op_is f g q)) is))
      top false q = refl

      constant : (b : Bool) → same_op f e ≡ b → one_if b ≡ 0
      constant true q = absurd (k.no_identity g (subst (λ h. identity (axioms d g) ≡ Some h) (sym (same_op_is f e q)) is))
      constant false q = refl

  module _ (s : Substitution) where
    abbrev pub Makes : Term → Term → Type 0
    Makes p t = BEqual d (apply s p) t

    one_operator : (f : OpId) → IsKept d f → (t u : Term) → Makes t u → times (Operator f) t ≤ times (Operator f) u
    one_operator f k t u m =
        let e = fewer_operators s f t in
        let q = equal_weights d (of_symbol (Operator f)) (kept_weights f k) (apply s t) u m in
        omega arith

    one_occurrence : (x y : Var) → Occurs y (s x) → (t u : Term) → Makes t u → times (Variable x) t ≤ times (Variable y) u
    one_occurrence x y o t u m =
        let e = fewer_occurrences s x y o t in
        let q = equal_weights d (of_symbol (Variable y)) (λ f e is. (refl, refl)) (apply s t) u m in
        omega arith

    column_at_most : (a b : Symbol) → ((t u : Term) → Makes t u → times a t ≤ times b u) → (ts us : List FlatTerm) → AllZip Makes (map plain ts) (map plain us) → AreAtMost (column a ts) (column b us)
    column_at_most a b h [] us m = tt
    column_at_most a b h (t ∷ ts) [] m = absurd m
    column_at_most a b h (t ∷ ts) (u ∷ us) m = (h (plain t) (plain u) m.0, column_at_most a b h ts us m.1)

    -- a variable of the targets stands in the value of one of the patterns
    source : (y : Var) (ts us : List FlatTerm) → AllZip Makes (map plain ts) (map plain us) → OccursInSome y (map plain us) → (x : Var) × (OccursInSome x (map plain ts) × Occurs y (s x))
    source y ts [] m o = absurd (omega (arith, o.2))
    source y [] (u ∷ us) m o = absurd m
    source y (t ∷ ts) (u ∷ us) m (zero, v, within, e, o) =
        let q = BEqual-occurs y d (apply s (plain t)) (plain u) m.0 (subst (Occurs y) (sym e) o) in
        let r = occurs_value y s (plain t) q in
        (r.0, ((0, plain t, omega arith, refl, r.1.0), r.1.1))
    source y (t ∷ ts) (u ∷ us) m (suc n, v, within, e, o) =
        let r = source y ts us m.1 (n, v, omega (arith, within), e, o) in
        let h = r.1.0 in
        (r.0, ((suc h.0, h.1, omega (arith, h.2), h.3, h.4), r.1.1))

    -- the counts allow what is so
    pub matched_allow : (ts us : List FlatTerm) → AllZip Makes (map plain ts) (map plain us) → CountsAllow d ts us
    matched_allow ts us m = record {
      operators = λ f k. column_at_most (Operator f) (Operator f) (one_operator f k) ts us m;
      variables = λ y o. let x = source y ts us m o in (x.0, x.1.0, column_at_most (Variable x.0) (Variable y) (one_occurrence x.0 y x.1.1) ts us m);
    }

-- rows that are ordered by their numbers of places
abbrev AreOrdered : List Row → Type 0
AreOrdered = IsNonDecreasingBy (λ r. length r.places)

ordered_rest : (r : Row) (rs : List Row) → AreOrdered (r ∷ rs) → AreOrdered rs
ordered_rest r rs h i j e l m = h (suc i) (suc j) e (omega (arith, l)) (omega (arith, m))

ordered_first : (r : Row) (rs : List Row) (c : Row) → AreOrdered (r ∷ rs) → Contains rs c → length r.places ≤ length c.places
ordered_first r rs c h m = subst (λ z. length r.places ≤ length z.places) m.2 (h 0 (suc m.0) c (omega arith) (let l = m.1 in omega (arith, l)))

-- some row below, found in order
above_found : (o : Row) (rows : List Row) → IsTrue (is_above_some o rows) → (c : Row) × Contains rows c × IsTrue (is_below o c)
above_found o [] t = absurd (false≢true t)
above_found o (r ∷ rs) t = go (nat_lt (length o.places) (length r.places)) (is_below o r) refl refl (above_found o rs)
  where
    go : (a b : Bool) → nat_lt (length o.places) (length r.places) ≡ a → is_below o r ≡ b → (IsTrue (is_above_some o rs) → (c : Row) × Contains rs c × IsTrue (is_below o c)) → (c : Row) × Contains (r ∷ rs) c × IsTrue (is_below o c)
    go true b p q k = absurd (false≢true (rw p at t))
    go false true p q k = (r, contains_here r rs, q)
    go false false p q k = let w = k (rw (p, q) at t) in (w.0, contains_later r rs w.0 w.1, w.2)

below_length : (o c : Row) (s : Symbol) → IsTrue (is_symbol_below o c s) → length c.places ≤ length o.places
below_length o c (Variable x) t = part_length c.places o.places t
below_length o c (Operator f) t = absurd (false≢true t)

found_above : (o : Row) (rows : List Row) → AreOrdered rows → (c : Row) → Contains rows c → IsTrue (is_below o c) → IsTrue (is_above_some o rows)
found_above o [] h c m t = absurd (contains_none c m)
found_above o (r ∷ rs) h c m t = go (nat_lt (length o.places) (length r.places)) (is_below o r) refl refl (contains_cases r rs c m) (λ n. found_above o rs (ordered_rest r rs h) c n t)
  where
    small : length c.places ≤ length o.places
    small = below_length o c c.symbol t

    first : (r ≡ c) ⊎ Contains rs c → length r.places ≤ length c.places
    first (inl e) = subst (λ z. length r.places ≤ length z.places) e (omega arith)
    first (inr n) = ordered_first r rs c h n

    go : (a b : Bool) → nat_lt (length o.places) (length r.places) ≡ a → is_below o r ≡ b → (r ≡ c) ⊎ Contains rs c → (Contains rs c → IsTrue (is_above_some o rs)) → IsTrue (is_above_some o (r ∷ rs))
    go true b p q w k = let l = ltb-true _ _ p in let m = small in let n = first w in absurd (omega (arith, l, m, n))
    go false true p q w k = rw (p, q) refl
    go false false p q (inl e) k = absurd (false≢true (sym q ∙ subst (λ z. IsTrue (is_below o z)) (sym e) t))
    go false false p q (inr n) k = rw (p, q) (k n)

module _ (d : Declarations) (p q : Profile) (ts us : List FlatTerm) (a : IsProfile ts p) (b : IsProfile us q) where
  allowed : All (AllowsOperator d q.rows.items) p.rows.items → All (λ o. IsTrue (allows_variable p.rows.items o)) q.rows.items → CountsAllow d ts us
  allowed h k = record { operators = by_operator; variables = by_variable }
    where
      own : (f : OpId) → IsKept d f → (r : Row) → Contains p.rows.items r → r.symbol ≡ Operator f → IsTrue (is_part (places (Operator f) ts) (places (Operator f) us))
      own f kept r m e =
          let some : Any (IsOwn r) q.rows.items = subst (AllowsSymbol d q.rows.items r) e (All-contains (AllowsOperator d q.rows.items) p.rows.items r h m) kept in
          let o = some.1 in
          let w = b.each o (some.0, some.2, some.3) in
          let x = a.each r m in
          let g : o.symbol ≡ Operator f = sym (same_symbol_is r.symbol o.symbol some.4.0) ∙ e in
          let u : r.places ≡ places (Operator f) ts = x.0 ∙ ap (λ s. places s ts) e in
          let v : o.places ≡ places (Operator f) us = w.0 ∙ ap (λ s. places s us) g in
          part_same r.places o.places (places (Operator f) ts) (places (Operator f) us) u v some.4.1

      by_operator : (f : OpId) → IsKept d f → AreAtMost (column (Operator f) ts) (column (Operator f) us)
      by_operator f kept = (part_columns 0 (column (Operator f) ts) (column (Operator f) us)).0 (go (places (Operator f) ts) refl)
        where
          go : (l : List ℕ) → places (Operator f) ts ≡ l → IsTrue (is_part (places (Operator f) ts) (places (Operator f) us))
          go [] e = rw e (ap has_nothing (none_left (places (Operator f) us)))
          go (n ∷ l) e = let r = a.every (Operator f) (λ z. cc) in own f kept r.0 r.1 r.2

      below : (y : Var) (o : Row) → o.places ≡ places (Variable y) us → (c : Row) → Contains p.rows.items c → (s : Symbol) → c.symbol ≡ s → IsTrue (is_symbol_below o c s) → (x : Var) × OccursInSome x (map plain ts) × AreAtMost (column (Variable x) ts) (column (Variable y) us)
      below y o v c m (Operator f) e t = absurd (false≢true t)
      below y o v c m (Variable x) e t =
          let w = a.each c m in
          let u : c.places ≡ places (Variable x) ts = w.0 ∙ ap (λ s. places s ts) e in
          (x, places_occur x 0 ts (λ z. w.1 (u ∙ z)), (part_columns 0 (column (Variable x) ts) (column (Variable y) us)).0 (part_same c.places o.places (places (Variable x) ts) (places (Variable y) us) u v t))

      by_variable : (y : Var) → OccursInSome y (map plain us) → (x : Var) × OccursInSome x (map plain ts) × AreAtMost (column (Variable x) ts) (column (Variable y) us)
      by_variable y occurs =
          let r = b.every (Variable y) (occurs_places y 0 us occurs) in
          let o = r.0 in
          let v : o.places ≡ places (Variable y) us = (b.each o r.1).0 ∙ ap (λ s. places s us) r.2 in
          let t : IsTrue (is_above_some o p.rows.items) = subst (λ s. IsTrue (allows_symbol p.rows.items o s)) r.2 (All-contains (λ z. IsTrue (allows_variable p.rows.items z)) q.rows.items o k r.1) in
          let c = above_found o p.rows.items t in
          below y o v c.0 c.1 c.0.symbol refl c.2

  module _ (allow : CountsAllow d ts us) where
    operator_row : (r : Row) → Contains p.rows.items r → (s : Symbol) → r.symbol ≡ s → AllowsSymbol d q.rows.items r s
    operator_row r m (Variable x) e = tt
    operator_row r m (Operator f) e = λ kept.
        let w = a.each r m in
        let u : r.places ≡ places (Operator f) ts = w.0 ∙ ap (λ s. places s ts) e in
        let t : IsTrue (is_part (places (Operator f) ts) (places (Operator f) us)) = (part_columns 0 (column (Operator f) ts) (column (Operator f) us)).1 (allow.operators f kept) in
        let o = b.every (Operator f) (λ z. w.1 (u ∙ part_of_none (places (Operator f) ts) (rw z at t))) in
        let v : o.0.places ≡ places (Operator f) us = (b.each o.0 o.1).0 ∙ ap (λ s. places s us) o.2 in
        let same : same_symbol r.symbol o.0.symbol ≡ true = ap (λ z. same_symbol z o.0.symbol) e ∙ ap (λ z. same_symbol (Operator f) z) o.2 ∙ same_symbol_itself (Operator f) in
        (o.1.0, o.0, o.1.1, o.1.2, (same, part_same (places (Operator f) ts) (places (Operator f) us) r.places o.0.places (sym u) (sym v) t))

    variable_row : (o : Row) → Contains q.rows.items o → (s : Symbol) → o.symbol ≡ s → IsTrue (allows_symbol p.rows.items o s)
    variable_row o m (Operator f) e = refl
    variable_row o m (Variable y) e =
        let w = b.each o m in
        let v : o.places ≡ places (Variable y) us = w.0 ∙ ap (λ s. places s us) e in
        let x = allow.variables y (places_occur y 0 us (λ z. w.1 (v ∙ z))) in
        let c = a.every (Variable x.0) (occurs_places x.0 0 ts x.1) in
        let u : c.0.places ≡ places (Variable x.0) ts = (a.each c.0 c.1).0 ∙ ap (λ s. places s ts) c.2 in
        let t : IsTrue (is_part (places (Variable x.0) ts) (places (Variable y) us)) = (part_columns 0 (column (Variable x.0) ts) (column (Variable y) us)).1 x.2 in
        found_above o p.rows.items a.ordered c.0 c.1 (subst (λ s. IsTrue (is_symbol_below o c.0 s)) (sym c.2) (part_same (places (Variable x.0) ts) (places (Variable y) us) c.0.places o.places (sym u) (sym v) t))

    operators_all : All (AllowsOperator d q.rows.items) p.rows.items
    operators_all i r within = operator_row (get_or p.rows.items i r) (All-contains_itself p.rows.items i r within) (get_or p.rows.items i r).symbol refl

    variables_all : All (λ o. IsTrue (allows_variable p.rows.items o)) q.rows.items
    variables_all i o within = variable_row (get_or q.rows.items i o) (All-contains_itself q.rows.items i o within) (get_or q.rows.items i o).symbol refl

-- the two tests
pub refused_by_operators : (d : Declarations) (p q : Profile) → (All (AllowsOperator d q.rows.items) p.rows.items → ⊥) → AllowsMatching d p q (IsTrue false)
refused_by_operators d p q n ts us a b = (λ f. absurd (false≢true f), λ h. absurd (n (operators_all d p q ts us a b h)))

pub decided_by_variables : (d : Declarations) (p q : Profile) (r : Bool) → All (AllowsOperator d q.rows.items) p.rows.items → IsTrue r ↔ All (λ o. IsTrue (allows_variable p.rows.items o)) q.rows.items → AllowsMatching d p q (IsTrue r)
decided_by_variables d p q r small decides ts us a b = (λ t. allowed d p q ts us a b small (decides.0 t), λ h. decides.1 (variables_all d p q ts us a b h))

-- what the counts do not allow is not so
pub never_matched : (d : Declarations) (p q : Profile) (r : Bool) → AllowsMatching d p q (IsTrue r) → r ≡ false → NeverMatch d p q
never_matched d p q r exact e ts us a b s m = false≢true (sym e ∙ (exact ts us a b).1 (matched_allow d s ts us m.1))

-- what holds of each so far
pub more_hold : {X : Type 0} (P : X → Type 0) (xs : List X) (i : ℕ) (x : X) → i < length xs → x ≡ get_or xs i x → All P (take i xs) → P x → All P (take (i + 1) xs)
more_hold P xs i x within is h p = subst (All P) (sym (take_more xs i x within ∙ ap (λ z. take i xs ++ z ∷ []) (sym is))) (All-push P (take i xs) x h p)

pub one_holds : {X : Type 0} (P : X → Type 0) (xs : List X) (i : ℕ) (x : X) → i < length xs → x ≡ get_or xs i x → All P xs → P x
one_holds P xs i x within is h = subst P (sym is) (h i x within)
