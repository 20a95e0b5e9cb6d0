-- What a sum has of the two classes that it adds.
use Rattle.std.proofs.Common.{◌≡◌, ◌≢◌, ℕ, ◌+◌, ◌<◌, ◌≤◌, true, List, [], ◌∷◌, length, refl, sym, ap, ◌∙◌, arith}
use Rattle.std.specs.Prelude.{Bool, sum_by}
use Rattle.std.proofs.lemmas.Bool.{eqb-true}
use Rattle.std.proofs.lemmas.List.Sums.{sum_by-cons}
use Rattle.fvn_terms.specs.declared.plain.OpId.{OpId}
use Rattle.fvn_terms.specs.declared.declarations.Declarations.{Declarations}
use Rattle.fvn_terms.specs.Signature.{axioms}
use Rattle.fvn_terms.specs.Equality.{IsAssociative, identity}
use Rattle.fvn_terms.proofs.AxiomWords.{identity_associates}
use Rattle.fvn_forms.specs.Flat.{FlatTerm}
use Rattle.fvn_forms.specs.InOrder.{count}
use Rattle.fvn_forms.specs.Canon.{parts}
use Rattle.fvn_forms.proofs.Build.{parts_identity}
use Rattle.fvn_forms.proofs.Sums.{sum_parts, sum_same_counts}
use Rattle.fvn_combine_nodes.specs.Table.{NodeTable, IsWellMade}
use Rattle.fvn_combine_nodes.specs.States.{IsClosed, class_of, is_same}
use Rattle.fvn_combine_nodes.specs.declared.state.State.{State}
use Rattle.fvn_combine_bounds.specs.CombineChoicesTables.{HasSums}
use Rattle.fvn_combine_bounds.specs.CombineCompleteObeying.{GoWith}
use Rattle.fvn_combine_inferring.specs.Inferred.{HaveOneValue, HaveTwoValues}
use Rattle.fvn_combine_inferring.specs.Rows.{summands, times, many, HaveSameSummands, HasSummand}
use Rattle.fvn_combine_inferring.specs.inner.Bounds.{HasTwoSummands, IsPart}
use Rattle.fvn_combine_inferring.specs.inner.Splits.{IsUnitNode, IsSplit}
use Rattle.fvn_combine_inferring.proofs.Values.{own_name, split_adds, unit_value}
use Rattle.fvn_combine_inferring.proofs.Told.{same_many}

-- an operator whose identity is a node is associative
pub unit_associates : (d : Declarations) (t : NodeTable) → HasSums d t → (f : OpId) (n : ℕ) → IsUnitNode t f n → IsAssociative (axioms d f)
unit_associates d t has f n (j, p, l, at, same) =
    let unit = has.units p (j, l, at) in
    identity_associates (axioms d f) unit.0 (ap (λ o. identity (axioms d o)) (sym same.0) ∙ unit.1)

module _ (d : Declarations) (t : NodeTable) (s : State) (f : OpId) (values : ℕ → FlatTerm) (go_with : GoWith d t s values) where
  -- node i has the summands of a and those of b
  abbrev pub Adds : (i a b : ℕ) → Type 0
  Adds i a b = (q : FlatTerm) → times d s f values q i ≡ times d s f values q a + times d s f values q b

  pub turned : (i a b : ℕ) → Adds i a b → Adds i b a
  turned i a b h q = let e = h q in omega (arith, e)

  pub many_adds : (i a b : ℕ) → Adds i a b → many d s f values i ≡ many d s f values a + many d s f values b
  many_adds i a b h =
      let m = many d s f values in
      let x = sum_by-cons m i [] in
      let z : sum_by m [] ≡ 0 = refl in
      let y = sum_by-cons m a (b ∷ []) in
      let v = sum_by-cons m b [] in
      let e = same_many d t s true f values (i ∷ []) (a ∷ b ∷ []) both in
      omega (arith, x, z, y, v, e)
    where
      both : HaveSameSummands d s f values (i ∷ []) (a ∷ b ∷ [])
      both q =
          let w = times d s f values q in
          let x = sum_by-cons w i [] in
          let z : sum_by w [] ≡ 0 = refl in
          let y = sum_by-cons w a (b ∷ []) in
          let v = sum_by-cons w b [] in
          let e = h q in
          omega (arith, x, z, y, v, e)

  -- where b has none, it has the value of a
  pub alone : (i a b : ℕ) → Adds i a b → summands d s f values b ≡ [] → values (class_of s i) ≡ values (class_of s a)
  alone i a b h none =
      sym (sum_parts d f (values (class_of s i)) (go_with.are.settled (class_of s i)))
      ∙ sum_same_counts d f (summands d s f values i) (summands d s f values a) same
      ∙ sum_parts d f (values (class_of s a)) (go_with.are.settled (class_of s a))
    where
      same : (q : FlatTerm) → times d s f values q i ≡ times d s f values q a
      same q =
          let e = h q in
          let z : times d s f values q b ≡ 0 = ap (count q) none in
          omega (arith, e, z)

  -- where a has a summand, and another value, there are two
  beside : (i a b : ℕ) → Adds i a b → 1 ≤ many d s f values a → values (class_of s a) ≢ values (class_of s i) → 2 ≤ many d s f values i
  beside i a b h some other = at (summands d s f values b) refl
    where
      at : (l : List FlatTerm) → summands d s f values b ≡ l → 2 ≤ many d s f values i
      at [] e = absurd (other (sym (alone i a b h e)))
      at (x ∷ l) e =
          let m = many_adds i a b h in
          let n = ap length e in
          omega (arith, m, n, some)

module _ (d : Declarations) (t : NodeTable) (made : IsWellMade t) (has : HasSums d t) (s : State) (closed : IsClosed d t s) (f : OpId) (assoc : IsAssociative (axioms d f)) (i : ℕ) (within : i < length t.nodes) (p : ℕ × ℕ) (split : IsSplit t s f (class_of s i) p) where
  pub adds : (values : ℕ → FlatTerm) (go_with : GoWith d t s values) → Adds d t s f values go_with i p.0 p.1
  adds values go_with q =
      let e = split_adds d t has s closed values go_with made f assoc (class_of s i) p split q in
      let n = ap (λ k. count q (parts d f (values k))) (own_name d t s closed i within) in
      omega (arith, e, n)

  module _ (sorted : Bool) where
    -- a sum of which the first class, or the second, is a part has two summands
    pub first_part : IsPart d t s sorted f p.0 i → HasTwoSummands d t s sorted f i
    first_part h values go = beside d t s f values go.go i p.0 p.1 (adds values go.go) (h.some values go) (h.other values go)

    pub second_part : IsPart d t s sorted f p.1 i → HasTwoSummands d t s sorted f i
    second_part h values go = beside d t s f values go.go i p.1 p.0 (turned d t s f values go.go i p.0 p.1 (adds values go.go)) (h.some values go) (h.other values go)

    -- and it has one where either has
    pub first_some : HasSummand d t s sorted f p.0 → HasSummand d t s sorted f i
    first_some h values go = let a = many_adds d t s f values go.go i p.0 p.1 (adds values go.go) in let b = h values go in omega (arith, a, b)

    pub second_some : HasSummand d t s sorted f p.1 → HasSummand d t s sorted f i
    second_some h values go = let a = many_adds d t s f values go.go i p.0 p.1 (adds values go.go) in let b = h values go in omega (arith, a, b)

    module _ (n : ℕ) (unit : IsUnitNode t f n) where
      -- what is in the class of the identity has no summands
      unit_bare : (k : ℕ) → is_same s k n ≡ true → (values : ℕ → FlatTerm) → GoWith d t s values → summands d s f values k ≡ []
      unit_bare k same values go_with =
          let u = unit_value d t has s closed values go_with f n unit in
          let c = eqb-true (class_of s k) (class_of s n) same in
          ap (parts d f) (ap values c ∙ u.2) ∙ parts_identity d f u.0 u.1

      -- where the first class, or the second, is that of the identity, the sum has the value of the other one
      pub first_idle : is_same s p.0 n ≡ true → HaveOneValue d t s sorted i p.1
      first_idle same values go =
          alone d t s f values go.go i p.1 p.0 (turned d t s f values go.go i p.0 p.1 (adds values go.go)) (unit_bare p.0 same values go.go)

      pub second_idle : is_same s p.1 n ≡ true → HaveOneValue d t s sorted i p.0
      second_idle same values go = alone d t s f values go.go i p.0 p.1 (adds values go.go) (unit_bare p.1 same values go.go)

module _ (d : Declarations) (t : NodeTable) (s : State) (sorted : Bool) (f : OpId) where
  -- what a class has holds of its members
  pub member_some : (i k : ℕ) → class_of s i ≡ class_of s k → HasSummand d t s sorted f i → HasSummand d t s sorted f k
  member_some i k same h values go =
      let a = ap (λ c. length (parts d f (values c))) same in
      let b = h values go in
      omega (arith, a, b)

  -- what has a summand is not the identity
  pub unlike : HasSums d t → IsClosed d t s → (n i j : ℕ) → IsUnitNode t f n → is_same s j n ≡ true → HasSummand d t s sorted f i → HaveTwoValues d t s sorted i j
  unlike has closed n i j unit same h values go e =
      let u = unit_value d t has s closed values go.go f n unit in
      let c = eqb-true (class_of s j) (class_of s n) same in
      let v = e ∙ ap values c ∙ u.2 in
      let z = ap length (ap (parts d f) v ∙ parts_identity d f u.0 u.1) in
      let a = h values go in
      omega (arith, z, a)
