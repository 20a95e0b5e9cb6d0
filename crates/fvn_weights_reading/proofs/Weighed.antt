-- Weights are those of the entries so far; what is left decides whether all entries fit.
use Rattle.std.proofs.Common.{◌≡◌, ◌≢◌, ◌⊎◌, inl, inr, ℕ, zero, suc, ◌+◌, ◌<◌, ◌≤◌, Bool, true, false, List, [], ◌∷◌, ◌++◌, length, take, drop, get_or, set, Option, Some, None, refl, sym, ap, ◌∙◌, subst, arith, eqb-true, eq-eqb, length-append}
use Rattle.std.specs.Prelude.{slice_get, Contains, nat_eq}
use Rattle.std.specs.List.{AllByRecursion}
use Rattle.std.proofs.lemmas.List.{drop_more, drop_all, take_more, take_all, length-set}
use Rattle.std.proofs.lemmas.Option.{slice_get_within}
use Rattle.fvn_base.proofs.Membership.{contains_here, contains_later, contains_cases, contains_none}
use Rattle.fvn_terms.specs.declared.plain.OpId.{OpId}
use Rattle.fvn_terms.specs.declared.declarations.Rank.{Rank}
use Rattle.fvn_terms.specs.declared.declarations.OpDecl.{OpDecl}
use Rattle.fvn_terms.specs.declared.declarations.Declarations.{Declarations}
use Rattle.fvn_terms.specs.Signature.{declared, unknown}
use Rattle.fvn_signature.specs.Queries.{arity}
use Rattle.fvn_syntax.specs.declared.names.Names.{Names}
use Rattle.fvn_syntax.specs.Names.{op_named, op_at}
use Rattle.fvn_syntax.specs.Pieces.{Text}
use Rattle.fvn_syntax.specs.Texts.{place}
use Rattle.fvn_syntax.proofs.TextLemmas.{place-below}
use Rattle.fvn_problems.specs.declared.fault.ProblemFault.{ProblemFault}
use Rattle.fvn_problems.specs.declared.fault.ProblemFault.TheVariants.{UnknownName, Arity, NoMemory}
use Rattle.fvn_problems.specs.Scopes.{AreNamesOf}
use Rattle.fvn_weights.specs.declared.weights.Weight.{Weight}
use Rattle.fvn_weights_reading.specs.declared.entry.Entry.{Entry}
use Rattle.fvn_weights_reading.specs.Spelling.{AreOnce}
use Rattle.fvn_weights_reading.specs.Reading.{IsWrittenWeight, plain_weight, IsOf, IsFitting, IsEntryFault, no_operator, other_count, IsEntriesFault, AreFitting, IsWeightOf, AreWeights}
use Rattle.fvn_weights_reading.specs.inner.Steps.{ArePlain, Weigh, WeighNothing}
use Rattle.fvn_weights_reading.proofs.Places.{place-text}

-- what is written into a list stands there, and nothing else changes
set-same : {A : Type 0} (xs : List A) (i : ℕ) (x y : A) → slice_get (set xs i x) i ≡ Some y → x ≡ y
set-same [] i x y h = cc
set-same (z ∷ xs) zero x y h = (let e : Some x ≡ Some y = h in cc)
set-same (z ∷ xs) (suc i) x y h = set-same xs i x y h

set-other : {A : Type 0} (xs : List A) (i j : ℕ) (x : A) → (j ≡ i → ⊥) → slice_get (set xs i x) j ≡ slice_get xs j
set-other [] i j x n = refl
set-other (z ∷ xs) zero zero x n = absurd (n refl)
set-other (z ∷ xs) zero (suc j) x n = refl
set-other (z ∷ xs) (suc i) zero x n = refl
set-other (z ∷ xs) (suc i) (suc j) x n = set-other xs i j x (λ e. n (ap suc e))

contains-last : {A : Type 0} (xs : List A) (x y : A) → Contains (xs ++ (x ∷ [])) y → Contains xs y ⊎ (x ≡ y)
contains-last [] x y h = elim (contains_cases x [] y h) [ inl e ↦ inr e | inr l ↦ absurd (contains_none y l) ]
contains-last (z ∷ xs) x y h =
    elim (contains_cases z (xs ++ (x ∷ [])) y h) [
      | inl e ↦ inl (subst (Contains (z ∷ xs)) e (contains_here z xs))
      | inr l ↦ elim (contains-last xs x y l) [ inl i ↦ inl (contains_later z xs y i) | inr e ↦ inr e ]
    ]

longer-contains : {A : Type 0} (xs : List A) (x y : A) → Contains xs y → Contains (xs ++ (x ∷ [])) y
longer-contains [] x y h = absurd (contains_none y h)
longer-contains (z ∷ xs) x y h =
    elim (contains_cases z xs y h) [
      | inl e ↦ subst (Contains (z ∷ (xs ++ (x ∷ [])))) e (contains_here z (xs ++ (x ∷ [])))
      | inr l ↦ contains_later z (xs ++ (x ∷ [])) y (longer-contains xs x y l)
    ]

last-contains : {A : Type 0} (xs : List A) (x : A) → Contains (xs ++ (x ∷ [])) x
last-contains [] x = contains_here x []
last-contains (z ∷ xs) x = contains_later z (xs ++ (x ∷ [])) x (last-contains xs x)

each-of : {A : Type 0} (P : A → Type 0) (xs : List A) (i : ℕ) (d : A) → AllByRecursion P xs → i < length xs → P (get_or xs i d)
each-of P [] i d h l = absurd (omega arith)
each-of P (x ∷ xs) zero d h l = h.0
each-of P (x ∷ xs) (suc i) d h l = each-of P xs i d h.1 (omega arith)

-- no entry has the name of one before it
pub once-before : (es : List Entry) (i : ℕ) (d g : Entry) → i < length es → AreOnce es → Contains (take i es) g → g.name ≢ (get_or es i d).name
once-before [] i d g l o h e = omega arith
once-before (x ∷ es) zero d g l o h e = contains_none g h
once-before (x ∷ es) (suc i) d g l o h e =
    elim (contains_cases x (take i es) g h) [
      | inl f ↦ each-of (λ y. y.name ≢ x.name) es i d o.0 (omega arith) (sym e ∙ ap (λ y. y.name) (sym f))
      | inr c ↦ once-before es i d g (omega arith) o.1 c e
    ]

-- plain weights

get-last : {A : Type 0} (xs : List A) (x y : A) (k : ℕ) → slice_get (xs ++ (x ∷ [])) k ≡ Some y → (slice_get xs k ≡ Some y) ⊎ ((k ≡ length xs) × (x ≡ y))
get-last [] x y zero h = inr (refl, (let e : Some x ≡ Some y = h in cc))
get-last [] x y (suc k) h = (let e : None ≡ Some y = h in cc)
get-last (z ∷ xs) x y zero h = inl h
get-last (z ∷ xs) x y (suc k) h = elim (get-last xs x y k h) [ inl e ↦ inl e | inr p ↦ inr (ap suc p.0, p.1) ]

module _ (d : Declarations) where
  -- the operators before the place have plain weights
  abbrev pub ArePlainSoFar : List Weight → ℕ → Type 0
  ArePlainSoFar ws n = (length ws ≡ n) × ((f : OpId) (w : Weight) → slice_get ws f.0 ≡ Some w → w ≡ plain_weight (arity d f))

  pub none-plain : (ws : List Weight) → ws ≡ [] → ArePlainSoFar ws 0
  none-plain ws e = (ap length e, λ f w h. (let g : None ≡ Some w = sym (ap (λ xs. slice_get xs f.0) e) ∙ h in cc))

  pub one-plain : (ws : List Weight) (n : ℕ) → ArePlainSoFar ws n → (g : OpId) → g.0 ≡ n → (w : Weight) → w ≡ plain_weight (arity d g) →
      (after : List Weight) → after ≡ ws ++ (w ∷ []) → ArePlainSoFar after (n + 1)
  one-plain ws n so g is w plain after e = (ap length e ∙ length-append ws (w ∷ []) ∙ ap (λ k. k + 1) so.0, each) where
    each : (f : OpId) (v : Weight) → slice_get after f.0 ≡ Some v → v ≡ plain_weight (arity d f)
    each f v h =
        elim (get-last ws w v f.0 (sym (ap (λ xs. slice_get xs f.0) e) ∙ h)) [
          | inl k ↦ so.1 f v k
          | inr p ↦ (let m : g.0 ≡ f.0 = is ∙ sym so.0 ∙ sym p.0 in let q : g ≡ f = λ i. record { 0 = m i } in sym p.1 ∙ plain ∙ ap (λ x. plain_weight (arity d x)) q)
        ]

  pub all-plain : (ws : List Weight) (n : ℕ) → ArePlainSoFar ws n → n ≡ length d.ops → ArePlain d ws
  all-plain ws n so e = record { count = so.0 ∙ e; each = so.1 }

same-number : (m n : ℕ) → m ≡ n → nat_eq m n ≡ true
same-number m n e = eq-eqb m n e

-- the operator of this number
abbrev op : ℕ → OpId
op n = record { 0 = n }

module _ (d : Declarations) (names : Names) where
  one-operator : (e : Entry) (f g : OpId) → IsOf d names f e → IsOf d names g e → f ≡ g
  one-operator e f g a b = (let h : Some f ≡ Some g = sym a ∙ b in cc)

  -- the place of the name is the operator's number
  named-at : (o : Option ℕ) (f : OpId) → op_at o ≡ Some f → o ≡ Some f.0
  named-at None f h = (let e : None ≡ Some f = h in cc)
  named-at (Some i) f h = (let e : Some (op i) ≡ Some f = h in let k : op i ≡ f = cc in ap (λ x. Some x.0) k)

  one-name : (a b : Entry) (f : OpId) → IsOf d names f a → IsOf d names f b → a.name ≡ b.name
  one-name a b f h k =
      let x = place-text names.ops a.name f.0 (named-at (place names.ops a.name) f h) in
      let y = place-text names.ops b.name f.0 (named-at (place names.ops b.name) f k) in
      (let e : Some a.name ≡ Some b.name = sym x ∙ y in cc)

  -- an operator that is named is declared
  there : (xs : List OpDecl) (i : ℕ) (r : Rank) → Contains (get_or xs i unknown).ranks r → i < length xs
  there [] i r h = absurd (contains_none r h)
  there (x ∷ xs) zero r h = omega arith
  there (x ∷ xs) (suc i) r h = let g = there xs i r h in omega (arith, g)

  pub named-within : AreNamesOf d names → (name : Text) (f : OpId) → op_named names name ≡ Some f → f.0 < length d.ops
  named-within are name f h =
      let l = place-below names.ops name f.0 (named-at (place names.ops name) f h) in
      let r = are.fitting.ops f.0 l in
      there d.ops f.0 r.0 r.1

  -- an entry more

  module _ (xs : List Entry) (e : Entry) (f : OpId) (w : Weight) (ws : List Weight) (are : AreWeights d names xs ws)
      (new : (g : Entry) → Contains xs g → g.name ≢ e.name) (of : IsOf d names f e) (writes : IsWrittenWeight e w) where
    at-own : IsWeightOf d names (xs ++ (e ∷ [])) f w
    at-own = record {
      written = λ g c o. elim (contains-last xs e g c) [ inl i ↦ absurd (new g i (one-name g e f o of)) | inr q ↦ subst (λ x. IsWrittenWeight x w) q writes ];
      plain = λ n. absurd (n e (last-contains xs e) of);
    }

    at-other : (g : OpId) (v : Weight) → (g ≡ f → ⊥) → IsWeightOf d names xs g v → IsWeightOf d names (xs ++ (e ∷ [])) g v
    at-other g v n h = record {
      written = λ x c o. elim (contains-last xs e x c) [ inl i ↦ h.written x i o | inr q ↦ absurd (n (one-operator e g f (subst (λ y. IsOf d names g y) (sym q) o) of)) ];
      plain = λ m. h.plain (λ x c o. m x (longer-contains xs e x c) o);
    }

    next-at : (g : OpId) (v : Weight) → slice_get (set ws f.0 w) g.0 ≡ Some v → IsWeightOf d names (xs ++ (e ∷ [])) g v
    next-at g v h = go (nat_eq g.0 f.0) refl where
      go : (b : Bool) → nat_eq g.0 f.0 ≡ b → IsWeightOf d names (xs ++ (e ∷ [])) g v
      go true t =
          let n : g.0 ≡ f.0 = eqb-true g.0 f.0 t in
          let q : g ≡ f = λ i. record { 0 = n i } in
          let k : w ≡ v = set-same ws f.0 w v (subst (λ m. slice_get (set ws f.0 w) m ≡ Some v) n h) in
          subst (λ x. IsWeightOf d names (xs ++ (e ∷ [])) x v) (sym q) (subst (IsWeightOf d names (xs ++ (e ∷ [])) f) k at-own)
      go false t =
          let n : g.0 ≡ f.0 → ⊥ = λ q. (let k : true ≡ false = sym (same-number g.0 f.0 q) ∙ t in cc) in
          at-other g v (λ q. n (ap (λ x. x.0) q)) (are.each g v (sym (set-other ws f.0 g.0 w n) ∙ h))

    next-weights : AreWeights d names (xs ++ (e ∷ [])) (set ws f.0 w)
    next-weights = record { count = length-set ws f.0 w ∙ are.count; each = next-at }

  -- the entries so far

  -- the weights are those of the entries before the place, which all fit
  pub record IsWeighed (es : List Entry) (i : ℕ) (ws : List Weight) : Type 0 where
    pub weights : AreWeights d names (take i es) ws
    pub fitting : AreFitting d names (drop i es) → AreFitting d names es
    pub faults : (fault : ProblemFault) → IsEntriesFault d names (drop i es) fault → IsEntriesFault d names es fault

  pub none-weighed : (es : List Entry) (ws : List Weight) → ArePlain d ws → IsWeighed es 0 ws
  none-weighed es ws are = record {
    weights = record {
      count = are.count;
      each = λ f w h. record { written = λ e c o. absurd (contains_none e c); plain = λ n. are.each f w h };
    };
    fitting = λ h. h;
    faults = λ fault h. h;
  }

  module _ (es : List Entry) (i : ℕ) (ws : List Weight) (so : IsWeighed es i ws) (e : Entry) (within : i < length es) (is : get_or es i e ≡ e) where
    dropped : drop i es ≡ e ∷ drop (i + 1) es
    dropped = drop_more es i e within ∙ ap (λ x. x ∷ drop (i + 1) es) is

    pub one-weighed : (f : OpId) → IsFitting d names e f → AreOnce es → (w : Weight) → IsWrittenWeight e w → IsWeighed es (i + 1) (set ws f.0 w)
    one-weighed f fits once w writes = record {
      weights =
          subst (λ xs. AreWeights d names xs (set ws f.0 w)) (sym (take_more es i e within ∙ ap (λ x. take i es ++ (x ∷ [])) is))
          (next-weights (take i es) e f w ws so.weights (λ g c q. once-before es i e g within once c (q ∙ ap (λ x. x.name) (sym is))) fits.named writes);
      fitting = λ h. so.fitting (subst (AreFitting d names) (sym dropped) ((f, fits), h));
      faults = λ fault h. so.faults fault (subst (λ xs. IsEntriesFault d names xs fault) (sym dropped) (inr (f, (fits, h))));
    }

    pub one-refused : (fault : ProblemFault) → IsEntryFault d names e fault → WeighNothing d names es fault
    one-refused fault h = inr (so.faults fault (subst (λ xs. IsEntriesFault d names xs fault) (sym dropped) (inl h)))

  pub all-weighed : (es : List Entry) (i : ℕ) (ws : List Weight) → IsWeighed es i ws → length es ≤ i → Weigh d names es ws
  all-weighed es i ws so l = (
    so.fitting (subst (AreFitting d names) (sym (drop_all i es l)) tt),
    subst (λ xs. AreWeights d names xs ws) (take_all i es l) so.weights,
  )
