-- A text gives one list of weights, or has one first fault, and not both.
use Rattle.std.proofs.Common.{◌≡◌, ◌≢◌, ◌⊎◌, inl, inr, ℕ, zero, suc, ◌+◌, ◌<◌, ◌≤◌, Bool, true, false, List, [], ◌∷◌, ◌++◌, length, get_or, map, Option, Some, None, refl, sym, ap, ◌∙◌, subst, arith, eqb-true, eq-eqb}
use Rattle.std.specs.Prelude.{slice_get, Contains, nat_eq}
use Rattle.fvn_base.proofs.Membership.{contains_here, contains_later, contains_cases, contains_none}
use Rattle.fvn_lex.specs.declared.token.LexFault.{LexFault}
use Rattle.fvn_lex.specs.Cut.{Piece}
use Rattle.fvn_lex.specs.Parts.{HasPieces, IsFirstFault as IsFirstLexFault}
use Rattle.fvn_lex.proofs.RowPieces.{pieces-once, no-pieces, first-once}
use Rattle.fvn_terms.specs.declared.plain.OpId.{OpId}
use Rattle.fvn_terms.specs.declared.declarations.Declarations.{Declarations}
use Rattle.fvn_signature.specs.Queries.{arity}
use Rattle.fvn_syntax.specs.declared.names.Names.{Names}
use Rattle.fvn_syntax.specs.Names.{op_named}
use Rattle.fvn_syntax.specs.Pieces.{Text}
use Rattle.fvn_problems.specs.declared.fault.ProblemFault.{ProblemFault}
use Rattle.fvn_problems.specs.declared.fault.ProblemFault.TheVariants.{Lex, Text as NoText, UnknownName, Arity, WrongKind, TooLarge, ReservedName, WrongSort, NoMemory}
use Rattle.fvn_problems.specs.Faults.{HasTokens, IsFirstFault, AreOneFault, ButForMemory}
use Rattle.fvn_weights.specs.declared.weights.Weight.{Weight}
use Rattle.fvn_weights.specs.declared.weights.Weights.{Weights}
use Rattle.fvn_weights.specs.Weighing.{AreWeightsOf}
use Rattle.fvn_weights_reading.specs.declared.entry.Entry.{Entry}
use Rattle.fvn_weights_reading.specs.Spelling.{number, spell_entries, AreOnce, IsWeightText}
use Rattle.fvn_weights_reading.specs.Reading.{IsWrittenWeight, plain_weight, IsOf, IsFitting, IsEntryFault, no_operator, other_count, IsEntriesFault, AreFitting, IsWeightOf, AreWeights, IsWeights, IsOnlyWeights, RefusesWeights, HasNoWeights}
use Rattle.fvn_weights_reading.specs.Laws.{WeightsAreDetermined, WeightFaultsAreDetermined, RefusedTextsWeighNothing}
use Rattle.fvn_weights_reading.specs.inner.Split.{IsEntriesRow, IsNoEntriesRow}
use Rattle.fvn_weights_reading.specs.inner.Steps.{are_new, IsLexFault, Weigh, WeighNothing}
use Rattle.fvn_weights_reading.proofs.Splitting.{entries-once}
use Rattle.fvn_weights_reading.proofs.NewNames.{new-is-once, not-once}

no-tokens : (bytes : Text) (fault : LexFault) → IsFirstLexFault bytes fault → HasTokens bytes → ⊥
no-tokens bytes fault h t = no-pieces bytes fault t.0 h t.1

-- what is written

pub text-once : (bytes : Text) (a b : List Entry) → IsWeightText bytes a → IsWeightText bytes b → a ≡ b
text-once bytes a b s t = entries-once a b s.entries t.entries (pieces-once bytes (spell_entries a) (spell_entries b) s.spelled t.spelled)

-- the last number of two lists
last-same : (xs ys : List ℕ) (a b : ℕ) → xs ++ (a ∷ []) ≡ ys ++ (b ∷ []) → (xs ≡ ys) × (a ≡ b)
last-same [] [] a b h = (refl, (let e : a ∷ [] ≡ b ∷ [] = h in cc))
last-same [] (y ∷ []) a b h = (let e : a ∷ [] ≡ y ∷ (b ∷ []) = h in cc)
last-same [] (y ∷ z ∷ ys) a b h = (let e : a ∷ [] ≡ y ∷ (z ∷ (ys ++ (b ∷ []))) = h in cc)
last-same (x ∷ []) [] a b h = (let e : x ∷ (a ∷ []) ≡ b ∷ [] = h in cc)
last-same (x ∷ z ∷ xs) [] a b h = (let e : x ∷ (z ∷ (xs ++ (a ∷ []))) ≡ b ∷ [] = h in cc)
last-same (x ∷ xs) (y ∷ ys) a b h =
    let e : x ≡ y = (let f : x ∷ (xs ++ (a ∷ [])) ≡ y ∷ (ys ++ (b ∷ [])) = h in cc) in
    let t : xs ++ (a ∷ []) ≡ ys ++ (b ∷ []) = (let f : x ∷ (xs ++ (a ∷ [])) ≡ y ∷ (ys ++ (b ∷ [])) = h in cc) in
    let g = last-same xs ys a b t in
    (ap (λ z. z ∷ xs) e ∙ ap (λ zs. y ∷ zs) g.0, g.1)

abbrev pub weight : List ℕ → ℕ → Weight
weight cs n = record { coefficients = cs; constant = n }

written-same : (e : Entry) (v w : Weight) → IsWrittenWeight e v → IsWrittenWeight e w → v ≡ w
written-same e v w a b =
    let g = last-same v.coefficients w.coefficients v.constant w.constant (sym a ∙ b) in
    ap (λ cs. weight cs v.constant) g.0 ∙ ap (weight w.coefficients) g.1

-- a number is itself
itself : (m : ℕ) → nat_eq m m ≡ true
itself m = eq-eqb m m refl

same-lists : {A : Type 0} (xs ys : List A) → length xs ≡ length ys → ((k : ℕ) (x y : A) → slice_get xs k ≡ Some x → slice_get ys k ≡ Some y → x ≡ y) → xs ≡ ys
same-lists [] [] l h = refl
same-lists [] (y ∷ ys) l h = absurd (omega arith)
same-lists (x ∷ xs) [] l h = absurd (omega arith)
same-lists (x ∷ xs) (y ∷ ys) l h = ap (λ z. z ∷ xs) (h zero x y refl refl) ∙ ap (λ zs. y ∷ zs) (same-lists xs ys (omega (arith, l)) (λ k. h (suc k)))

module _ (d : Declarations) (names : Names) where
  abbrev Named : List Entry → OpId → Type 0
  Named es f = ((e : Entry) × Contains es e × IsOf d names f e) ⊎ ((e : Entry) → Contains es e → IsOf d names f e → ⊥)

  is-of : (e : Entry) (f : OpId) → IsOf d names f e ⊎ (IsOf d names f e → ⊥)
  is-of e f = go (op_named names e.name) refl where
    go : (o : Option OpId) → op_named names e.name ≡ o → IsOf d names f e ⊎ (IsOf d names f e → ⊥)
    go None h = inr (λ k. (let q : None ≡ Some f = sym h ∙ k in cc))
    go (Some g) h = one (nat_eq g.0 f.0) refl where
      one : (b : Bool) → nat_eq g.0 f.0 ≡ b → IsOf d names f e ⊎ (IsOf d names f e → ⊥)
      one true t = (let n : g.0 ≡ f.0 = eqb-true g.0 f.0 t in let q : g ≡ f = λ i. record { 0 = n i } in inl (h ∙ ap Some q))
      one false t = inr (λ k. (
          let q : Some g ≡ Some f = sym h ∙ k in
          let r : g ≡ f = cc in
          let s : true ≡ false = sym (itself g.0) ∙ ap (λ x. nat_eq g.0 x.0) r ∙ t in
          cc
          ))

  named : (es : List Entry) (f : OpId) → Named es f
  named [] f = inr (λ e c o. contains_none e c)
  named (x ∷ es) f = go (is-of x f) (named es f) where
    go : IsOf d names f x ⊎ (IsOf d names f x → ⊥) → Named es f → Named (x ∷ es) f
    go (inl h) r = inl (x, contains_here x es, h)
    go (inr n) (inl t) = inl (t.0, contains_later x es t.0 t.1, t.2)
    go (inr n) (inr m) = inr (λ e c o. elim (contains_cases x es e c) [ inl q ↦ n (subst (IsOf d names f) (sym q) o) | inr l ↦ m e l o ])

  one-weight : (es : List Entry) (f : OpId) (v w : Weight) → IsWeightOf d names es f v → IsWeightOf d names es f w → v ≡ w
  one-weight es f v w a b = go (named es f) where
    go : Named es f → v ≡ w
    go (inl t) = written-same t.0 v w (a.written t.0 t.1 t.2) (b.written t.0 t.1 t.2)
    go (inr n) = a.plain n ∙ sym (b.plain n)

  weights-once : (es : List Entry) (vs ws : List Weight) → AreWeights d names es vs → AreWeights d names es ws → vs ≡ ws
  weights-once es vs ws a b = same-lists vs ws (a.count ∙ sym b.count) (λ k v w h g. one-weight es (record { 0 = k }) v w (a.each (record { 0 = k }) v h) (b.each (record { 0 = k }) w g))

  -- first faults

  one-operator : (e : Entry) (f g : OpId) → IsOf d names f e → IsOf d names g e → f ≡ g
  one-operator e f g a b = (let h : Some f ≡ Some g = sym a ∙ b in cc)

  entry-faultless : (e : Entry) (f : OpId) (fault : ProblemFault) → IsFitting d names e f → IsEntryFault d names e fault → ⊥
  entry-faultless e f fault h (no_operator n is) = (let q : None ≡ Some f = sym n ∙ h.named in cc)
  entry-faultless e f fault h (other_count g o n is) = n (subst (λ x. length e.numbers ≡ arity d x + 1) (one-operator e f g h.named o) h.count)

  pub faultless : (es : List Entry) (fault : ProblemFault) → AreFitting d names es → IsEntriesFault d names es fault → ⊥
  faultless [] fault h k = k
  faultless (e ∷ es) fault h (inl k) = entry-faultless e h.0.0 fault h.0.1 k
  faultless (e ∷ es) fault h (inr k) = faultless es fault h.1 k.1.1

  entry-same : (e : Entry) (f g : ProblemFault) → IsEntryFault d names e f → IsEntryFault d names e g → f ≡ g
  entry-same e f g (no_operator n is) (no_operator m are) = is ∙ sym are
  entry-same e f g (no_operator n is) (other_count q o m are) = (let h : None ≡ Some q = sym n ∙ o in cc)
  entry-same e f g (other_count q o n is) (no_operator m are) = (let h : None ≡ Some q = sym m ∙ o in cc)
  entry-same e f g (other_count q o n is) (other_count p k m are) = is ∙ sym are

  fault-same : (es : List Entry) (f g : ProblemFault) → IsEntriesFault d names es f → IsEntriesFault d names es g → f ≡ g
  fault-same [] f g h k = absurd h
  fault-same (e ∷ es) f g (inl h) (inl k) = entry-same e f g h k
  fault-same (e ∷ es) f g (inl h) (inr k) = absurd (entry-faultless e k.0 f k.1.0 h)
  fault-same (e ∷ es) f g (inr h) (inl k) = absurd (entry-faultless e h.0 g h.1.0 k)
  fault-same (e ∷ es) f g (inr h) (inr k) = fault-same es f g h.1.1 k.1.1

  module _ (bytes : Text) where
    abbrev text-tokens : (raw : List Entry) → IsWeightText bytes raw → HasTokens bytes
    text-tokens raw t = (spell_entries raw, t.spelled)

    never : (raw : List Entry) → IsWeightText bytes raw → (fault : ProblemFault) → IsEntriesFault d names raw fault → (ws : Weights) → IsWeights d names bytes ws → ⊥
    never raw t fault h ws w = faultless raw fault (subst (AreFitting d names) (text-once bytes w.entries raw w.text t) w.fitting) h

    pub refuted : (fault : ProblemFault) → RefusesWeights d names bytes fault → HasNoWeights d names bytes fault
    refuted (Lex fault) h = inr (λ ws w. no-tokens bytes fault h (text-tokens w.entries w.text))
    refuted NoText h = inr (λ ws w. h.1 w.entries w.text)
    refuted UnknownName h = inr (never h.0 h.1 UnknownName h.2)
    refuted Arity h = inr (never h.0 h.1 Arity h.2)
    refuted WrongKind h = inr (never h.0 h.1 WrongKind h.2)
    refuted TooLarge h = inr (never h.0 h.1 TooLarge h.2)
    refuted ReservedName h = inr (never h.0 h.1 ReservedName h.2)
    refuted WrongSort h = inr (never h.0 h.1 WrongSort h.2)
    refuted NoMemory h = inl refl

    -- what a first fault is told of: the bytes, the form, what is written, or nothing
    data Told (fault : ProblemFault) : Type 0 where
      by_bytes : (first : LexFault) → IsFirstLexFault bytes first → fault ≡ Lex first → Told fault
      by_form : HasTokens bytes → ((raw : List Entry) → IsWeightText bytes raw → ⊥) → fault ≡ NoText → Told fault
      by_text : (raw : List Entry) → IsWeightText bytes raw → IsEntriesFault d names raw fault → Told fault
      by_memory : fault ≡ NoMemory → Told fault

    told : (fault : ProblemFault) → RefusesWeights d names bytes fault → Told fault
    told (Lex first) h = by_bytes first h refl
    told NoText h = by_form h.0 h.1 refl
    told UnknownName h = by_text h.0 h.1 h.2
    told Arity h = by_text h.0 h.1 h.2
    told WrongKind h = by_text h.0 h.1 h.2
    told TooLarge h = by_text h.0 h.1 h.2
    told ReservedName h = by_text h.0 h.1 h.2
    told WrongSort h = by_text h.0 h.1 h.2
    told NoMemory h = by_memory refl

    same : (f g : ProblemFault) → Told f → Told g → AreOneFault f g
    same f g (by_memory e) b = inl e
    same f g (by_bytes first h e) (by_memory k) = inr (inl k)
    same f g (by_bytes first h e) (by_bytes second k i) =
        inr (inr (e ∙ ap Lex (first-once bytes first second h k) ∙ sym i))
    same f g (by_bytes first h e) (by_form t n i) = absurd (no-tokens bytes first h t)
    same f g (by_bytes first h e) (by_text raw t b) = absurd (no-tokens bytes first h (text-tokens raw t))
    same f g (by_form t n e) (by_memory k) = inr (inl k)
    same f g (by_form t n e) (by_bytes second k i) = absurd (no-tokens bytes second k t)
    same f g (by_form t n e) (by_form u m i) = inr (inr (e ∙ sym i))
    same f g (by_form t n e) (by_text raw u b) = absurd (n raw u)
    same f g (by_text raw t a) (by_memory k) = inr (inl k)
    same f g (by_text raw t a) (by_bytes second k i) = absurd (no-tokens bytes second k (text-tokens raw t))
    same f g (by_text raw t a) (by_form u m i) = absurd (m raw t)
    same f g (by_text raw t a) (by_text other u b) =
        inr (inr (fault-same other f g (subst (λ r. IsEntriesFault d names r f) (text-once bytes raw other t u) a) b))

    -- a text that is read, step by step

    pub cut-fault : (fault : ProblemFault) → IsLexFault bytes fault → RefusesWeights d names bytes fault
    cut-fault (Lex fault) h = h
    cut-fault NoText h = absurd h
    cut-fault UnknownName h = absurd h
    cut-fault Arity h = absurd h
    cut-fault WrongKind h = absurd h
    cut-fault TooLarge h = absurd h
    cut-fault ReservedName h = absurd h
    cut-fault WrongSort h = absurd h
    cut-fault NoMemory h = tt

    no-lex : (es : List Entry) (fault : LexFault) → IsEntriesFault d names es (Lex fault) → ⊥
    no-lex [] fault h = h
    no-lex (e ∷ es) fault (inl (no_operator n is)) = cc
    no-lex (e ∷ es) fault (inl (other_count f o n is)) = cc
    no-lex (e ∷ es) fault (inr h) = no-lex es fault h.1.1

    no-form : (es : List Entry) → IsEntriesFault d names es NoText → ⊥
    no-form [] h = h
    no-form (e ∷ es) (inl (no_operator n is)) = cc
    no-form (e ∷ es) (inl (other_count f o n is)) = cc
    no-form (e ∷ es) (inr h) = no-form es h.1.1

    pub entries-fault : (es : List Entry) → IsWeightText bytes es → (fault : ProblemFault) → IsEntriesFault d names es fault → RefusesWeights d names bytes fault
    entries-fault es t (Lex fault) h = absurd (no-lex es fault h)
    entries-fault es t NoText h = absurd (no-form es h)
    entries-fault es t UnknownName h = (es, t, h)
    entries-fault es t Arity h = (es, t, h)
    entries-fault es t WrongKind h = (es, t, h)
    entries-fault es t TooLarge h = (es, t, h)
    entries-fault es t ReservedName h = (es, t, h)
    entries-fault es t WrongSort h = (es, t, h)
    entries-fault es t NoMemory h = tt

    module _ (row : List Piece) (cut : HasPieces bytes row) where
      pub no-form-fault : IsNoEntriesRow row → RefusesWeights d names bytes NoText
      no-form-fault n = ((row, cut), λ es t. n es (record { entries = t.entries; spelled = pieces-once bytes row (spell_entries es) cut t.spelled }))

      module _ (es : List Entry) (is : IsEntriesRow row es) where
        pub twice-fault : are_new [] es ≡ false → RefusesWeights d names bytes NoText
        twice-fault n = (
          (row, cut),
          λ fs t.
              not-once es n
              (subst AreOnce (entries-once fs es t.entries is.entries (pieces-once bytes (spell_entries fs) row t.spelled cut ∙ is.spelled)) t.once),
        )

        pub is-text : are_new [] es ≡ true → IsWeightText bytes es
        is-text h = record { entries = is.entries; spelled = subst (HasPieces bytes) is.spelled cut; once = new-is-once es h }

        pub is-weights : are_new [] es ≡ true → (ws : Weights) → Weigh d names es ws.list → IsWeights d names bytes ws
        is-weights h ws w = record { entries = es; text = is-text h; fitting = w.0; weights = w.1 }

        pub weighs-nothing : are_new [] es ≡ true → (fault : ProblemFault) → WeighNothing d names es fault → RefusesWeights d names bytes fault
        weighs-nothing h fault (inl m) = subst (RefusesWeights d names bytes) (sym m) tt
        weighs-nothing h fault (inr k) = entries-fault es (is-text h) fault k

    pub all-weights : (ws : Weights) → IsWeights d names bytes ws → AreWeightsOf d ws.list
    all-weights ws w = w.weights.count

abbrev weights : List Weight → Weights
weights ws = record { list = ws }

pub determined : WeightsAreDetermined
determined d names bytes ws a other b =
    ap weights
    (weights-once d names a.entries other.list ws.list (subst (λ es. AreWeights d names es other.list) (text-once bytes b.entries a.entries b.text a.text) b.weights) a.weights)

pub faults-determined : WeightFaultsAreDetermined
faults-determined d names bytes f g h k = same d names bytes f g (told d names bytes f h) (told d names bytes g k)

pub nothing : RefusedTextsWeighNothing
nothing d names bytes fault h = refuted d names bytes fault h
