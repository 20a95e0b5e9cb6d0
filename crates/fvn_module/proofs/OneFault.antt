-- There is one first fault at most, among names, of a signature, and among equations.
use Rattle.std.proofs.Common.{◌≡◌, ◌⊎◌, ℕ, zero, suc, ◌+◌, ◌<◌, Bool, true, List, [], ◌∷◌, ◌++◌, length, map, Ok, Err, inl, inr, refl, sym, ap, ◌∙◌, subst}
use Rattle.fvn_base.specs.Order.{IsBefore}
use Rattle.std.proofs.lemmas.Bool.{cases_order}
use Rattle.fvn_terms.specs.declared.plain.OpId.{OpId}
use Rattle.fvn_terms.specs.declared.plain.SortId.{SortId}
use Rattle.fvn_signature_draft.specs.declared.collected.Collected.{Collected}
use Rattle.fvn_sorts.specs.declared.conditions.fault.SigFault.{SigFault}
use Rattle.fvn_sorts.specs.declared.conditions.fault.SigFault.TheVariants.{SortCycle, KindsDiffer, AxiomShape, AxiomsDiffer, IdentityBad, NotPreregular, NotAssocSorts, NotCollapsing, TooMany, NoMemory}
use Rattle.fvn_sorts.specs.Faults.{IsEarlier, IsFirstFault as IsFirstSignatureFault, condition, witness, sort_numbers}
use Rattle.fvn_syntax.specs.declared.fault.TermFault.{TermFault}
use Rattle.fvn_syntax.specs.Pieces.{Text}
use Rattle.fvn_syntax.specs.Raw.{RawTerm}
use Rattle.fvn_syntax.specs.Scope.{Scope}
use Rattle.fvn_syntax.specs.Resolve.{Resolved, resolve}
use Rattle.fvn_module_syntax.specs.declared.statement.Statement.{Statement}
use Rattle.fvn_module_names.specs.declared.fault.NameFault.{NameFault}
use Rattle.fvn_module_names.specs.declared.fault.NameFault.TheVariants as name
use Rattle.fvn_module_names.specs.Names.{sorts_of, operators_of}
use Rattle.fvn_module_names.specs.Order.{kinds_in}
use Rattle.fvn_module_names.specs.Faults.{names_unknown, declares_twice, AreNamed, IsFirstAt, NamesUnknown, DeclaresTwice, IsFirstFault as IsFirstNameFault}
use Rattle.fvn_module.specs.declared.sides.Sides.{Sides}
use Rattle.fvn_theory.specs.declared.equation.Equation.{Equation}
use Rattle.fvn_module.specs.declared.fault.ModuleFault.{ModuleFault}
use Rattle.fvn_module.specs.Equations.{AreWrittenAs, StandFor, IsEquationOf, AreEquationsOf, IsFaultOf, in_left, in_right, two_kinds, too_large, extra_variable, fault_of, IsLarge, IsFirstFaultOf}
use Rattle.fvn_module.proofs.Determined.{left-once, right-once, first-once, stand-first, stand-second}
use Rattle.fvn_module.proofs.Excluded.{named-at, not-both, clash, not-large, equation-at, no-fault-of}

-- Places in a list.

-- two places of one list are one, or one comes before the other
pub data Places {A : Type 0} (a b c d : List A) (x y : A) : Type 0 where
  one : a ≡ c → x ≡ y → Places a b c d x y
  earlier : (more : List A) → c ≡ a ++ (x ∷ more) → Places a b c d x y
  later : (more : List A) → a ≡ c ++ (y ∷ more) → Places a b c d x y

pub places : {A : Type 0} (a b c d : List A) (x y : A) → a ++ (x ∷ b) ≡ c ++ (y ∷ d) → Places a b c d x y
places {A} [] b [] d x y e = one refl (let f : x ∷ b ≡ y ∷ d = e in cc)
places {A} [] b (z ∷ c) d x y e = earlier c (let f : x ∷ b ≡ z ∷ (c ++ (y ∷ d)) = e in let g : x ≡ z = cc in ap (λ w. w ∷ c) (sym g))
places {A} (z ∷ a) b [] d x y e = later a (let f : z ∷ (a ++ (x ∷ b)) ≡ y ∷ d = e in let g : z ≡ y = cc in ap (λ w. w ∷ a) g)
places {A} (z ∷ a) b (w ∷ c) d x y e = go (places a b c d x y (let f : z ∷ (a ++ (x ∷ b)) ≡ w ∷ (c ++ (y ∷ d)) = e in cc)) where
  g : z ≡ w
  g = let f : z ∷ (a ++ (x ∷ b)) ≡ w ∷ (c ++ (y ∷ d)) = e in cc

  go : Places a b c d x y → Places (z ∷ a) b (w ∷ c) d x y
  go (one p q) = one (ap (λ v. v ∷ a) g ∙ ap (λ vs. w ∷ vs) p) q
  go (earlier more p) = earlier more (ap (λ v. v ∷ c) (sym g) ∙ ap (λ vs. z ∷ vs) p)
  go (later more p) = later more (ap (λ v. v ∷ a) g ∙ ap (λ vs. w ∷ vs) p)

-- Names.

module _ (sts : List Statement) where
  abbrev Unknown : List Statement → Statement → Bool
  Unknown b st = names_unknown (sorts_of sts) (operators_of sts) (kinds_in sts) b st

  abbrev Double : List Statement → Statement → Bool
  Double b st = declares_twice (sorts_of sts) (operators_of sts) (kinds_in sts) b st

  abbrev Named : List Statement → Type 0
  Named b = AreNamed (sorts_of sts) (operators_of sts) (kinds_in sts) [] b

  -- something is wrong with the statement
  abbrev Wrong : List Statement → Statement → Type 0
  Wrong b st = (Unknown b st ≡ true) ⊎ (Double b st ≡ true)

  not-wrong : (b : List Statement) (st : Statement) (more : List Statement) → Named (b ++ (st ∷ more)) → Wrong b st → ⊥
  not-wrong b st more h (inl g) = not-both sts (Unknown b st) g (named-at sts [] b st more h).0
  not-wrong b st more h (inr g) = not-both sts (Double b st) g (named-at sts [] b st more h).1

  -- two statements that are first at fault are one
  same-statement : {V W : List Statement → Statement → Type 0} (n m : ℕ) → ((b : List Statement) (st : Statement) → V b st → Wrong b st) → ((b : List Statement) (st : Statement) → W b st → Wrong b st) →
      (g : IsFirstAt sts n V) (h : IsFirstAt sts m W) → (n ≡ m) × (g.before ≡ h.before) × (g.statement ≡ h.statement)
  same-statement {V} {W} n m v w g h = go (places g.before g.after h.before h.after g.statement h.statement (sym g.split ∙ h.split)) where
    go : Places g.before g.after h.before h.after g.statement h.statement → (n ≡ m) × (g.before ≡ h.before) × (g.statement ≡ h.statement)
    go (one p q) = (g.number ∙ ap (λ x. length x + 1) p ∙ sym h.number, p, q)
    go (earlier more p) = absurd (not-wrong g.before g.statement more (subst Named p h.named) (v g.before g.statement g.wrong))
    go (later more p) = absurd (not-wrong h.before h.statement more (subst Named p g.named) (w h.before h.statement h.wrong))

  unknown-wrong : (b : List Statement) (st : Statement) → NamesUnknown sts b st → Wrong b st
  unknown-wrong b st h = inl h

  twice-wrong : (b : List Statement) (st : Statement) → DeclaresTwice sts b st → Wrong b st
  twice-wrong b st h = inr h.1

  unknown-or-twice : (n m : ℕ) → IsFirstAt sts n (NamesUnknown sts) → IsFirstAt sts m (DeclaresTwice sts) → ⊥
  unknown-or-twice n m g h =
      let e = same-statement n m unknown-wrong twice-wrong g h in
      let x : Unknown h.before h.statement ≡ true = subst (λ st. Unknown h.before st ≡ true) e.2 (subst (λ b. Unknown b g.statement ≡ true) e.1 g.wrong) in
      not-both sts (Unknown h.before h.statement) x h.wrong.0

  pub name-fault-once : (f g : NameFault) → IsFirstNameFault sts f → IsFirstNameFault sts g → f ≡ g
  name-fault-once (name.UnknownName n) (name.UnknownName m) h k = ap name.UnknownName (same-statement n m unknown-wrong unknown-wrong h k).0
  name-fault-once (name.UnknownName n) (name.Twice m) h k = absurd (unknown-or-twice n m h k)
  name-fault-once (name.Twice n) (name.UnknownName m) h k = absurd (unknown-or-twice m n k h)
  name-fault-once (name.Twice n) (name.Twice m) h k = ap name.Twice (same-statement n m twice-wrong twice-wrong h k).0
  name-fault-once name.NoMemory g h k = absurd h
  name-fault-once f name.NoMemory h k = absurd k

-- Signatures.

before-or-after : (xs ys : List ℕ) → IsBefore xs ys ⊎ ((xs ≡ ys) ⊎ IsBefore ys xs)
before-or-after [] [] = inr (inl refl)
before-or-after [] (y ∷ ys) = inl tt
before-or-after (x ∷ xs) [] = inr (inr tt)
before-or-after (x ∷ xs) (y ∷ ys) = go (cases_order x y) (before-or-after xs ys) where
  go : (x ≡ y) ⊎ ((x < y) ⊎ (y < x)) → IsBefore xs ys ⊎ ((xs ≡ ys) ⊎ IsBefore ys xs) → IsBefore (x ∷ xs) (y ∷ ys) ⊎ ((x ∷ xs ≡ y ∷ ys) ⊎ IsBefore (y ∷ ys) (x ∷ xs))
  go (inr (inl l)) rest = inl (inl l)
  go (inr (inr l)) rest = inr (inr (inl l))
  go (inl e) (inl l) = inl (inr (e, l))
  go (inl e) (inr (inl f)) = inr (inl (ap (λ v. v ∷ xs) e ∙ ap (λ vs. y ∷ vs) f))
  go (inl e) (inr (inr l)) = inr (inr (inr (sym e, l)))

abbrev sorts-of : List ℕ → List SortId
sorts-of = map (λ n. record { 0 = n })

abbrev op-at : List ℕ → OpId
op-at [] = record { 0 = 0 }
op-at (n ∷ ns) = record { 0 = n }

abbrev sort-at : List ℕ → SortId
sort-at [] = record { 0 = 0 }
sort-at (n ∷ ns) = record { 0 = n }

abbrev rest : List ℕ → List ℕ
rest [] = []
rest (n ∷ ns) = ns

-- the fault of a condition and a witness
abbrev decoded : ℕ → List ℕ → SigFault
decoded zero w = TooMany
decoded (suc zero) w = SortCycle (sort-at w)
decoded (suc (suc zero)) w = KindsDiffer (op-at w)
decoded (suc (suc (suc zero))) w = AxiomShape (op-at w)
decoded (suc (suc (suc (suc zero)))) w = AxiomsDiffer (op-at w)
decoded (suc (suc (suc (suc (suc zero))))) w = IdentityBad (op-at w)
decoded (suc (suc (suc (suc (suc (suc zero)))))) w = NotPreregular (op-at w) (sorts-of (rest w))
decoded (suc (suc (suc (suc (suc (suc (suc zero))))))) w = NotAssocSorts (op-at w) (sort-at (rest w)) (sort-at (rest (rest w))) (sort-at (rest (rest (rest w))))
decoded (suc (suc (suc (suc (suc (suc (suc (suc zero)))))))) w = NotCollapsing (op-at w) (sort-at (rest w))
decoded (suc (suc (suc (suc (suc (suc (suc (suc (suc n))))))))) w = NoMemory

sorts-back : (ss : List SortId) → sorts-of (sort_numbers ss) ≡ ss
sorts-back [] = refl
sorts-back (s ∷ ss) = ap (λ x. s ∷ x) (sorts-back ss)

decoded-back : (f : SigFault) → decoded (condition f) (witness f) ≡ f
decoded-back TooMany = refl
decoded-back (SortCycle s) = refl
decoded-back (KindsDiffer f) = refl
decoded-back (AxiomShape f) = refl
decoded-back (AxiomsDiffer f) = refl
decoded-back (IdentityBad f) = refl
decoded-back (NotPreregular f ss) = ap (NotPreregular f) (sorts-back ss)
decoded-back (NotAssocSorts f s q r) = refl
decoded-back (NotCollapsing f s) = refl
decoded-back NoMemory = refl

abbrev head-of : List ℕ → ℕ
head-of [] = 0
head-of (n ∷ ns) = n

pub signature-fault-once : (c : Collected) (f g : SigFault) → IsFirstSignatureFault c f → IsFirstSignatureFault c g → f ≡ g
signature-fault-once c f g h k = go (before-or-after (condition f ∷ witness f) (condition g ∷ witness g)) where
  go : IsEarlier f g ⊎ ((condition f ∷ witness f ≡ condition g ∷ witness g) ⊎ IsEarlier g f) → f ≡ g
  go (inl l) = absurd (k.1 f l h.0)
  go (inr (inr l)) = absurd (h.1 g l k.0)
  go (inr (inl e)) =
      let a : condition f ≡ condition g = ap head-of e in
      let b : witness f ≡ witness g = ap rest e in
      sym (decoded-back f) ∙ ap (λ n. decoded n (witness f)) a ∙ ap (decoded (condition g)) b ∙ decoded-back g

-- Equations.

module _ (c : Scope) where
  module _ (n k : ℕ) (l r : RawTerm) where
    errors-once : (before : List Text) (t : RawTerm) (a b : TermFault) → resolve c before t ≡ Err a → resolve c before t ≡ Err b → a ≡ b
    errors-once before t a b g h = cc

    second-err : (x y : Resolved) (a b : TermFault) → resolve c [] l ≡ Ok x → resolve c [] l ≡ Ok y → resolve c x.texts r ≡ Err a → resolve c y.texts r ≡ Err b → a ≡ b
    second-err x y a b g h i j =
        let e : x.texts ≡ y.texts = ap (λ z. z.texts) (first-once c l x y [] g h) in
        errors-once y.texts r a b (subst (λ t. resolve c t r ≡ Err a) e i) j

    second-clash : (x : Resolved) (a : TermFault) → resolve c [] l ≡ Ok x → resolve c x.texts r ≡ Err a → StandFor c l r → ⊥
    second-clash x a g i s =
        let e : x.texts ≡ s.first.texts = ap (λ z. z.texts) (first-once c l x s.first [] g s.left_stands) in
        clash c s.second a s.first.texts r s.right_stands (subst (λ t. resolve c t r ≡ Err a) e i)

    one-kind : (s t : StandFor c l r) → s.first.kind ≡ s.second.kind → t.first.kind ≡ t.second.kind
    one-kind s t e = ap (λ x. x.kind) (stand-first c l r t s) ∙ e ∙ ap (λ x. x.kind) (stand-second c l r s t)

    large-moves : (s t : StandFor c l r) → IsLarge s.first s.second → IsLarge t.first t.second
    large-moves s t h = subst (λ y. IsLarge t.first y) (stand-second c l r s t) (subst (λ x. IsLarge x s.second) (stand-first c l r s t) h)

    pub fault-of-once : (f g : ModuleFault) → IsFaultOf c n k l r f → IsFaultOf c n k l r g → f ≡ g
    fault-of-once f g (in_left a h e) (in_left b i d) = e ∙ ap (fault_of n) (errors-once [] l a b h i) ∙ sym d
    fault-of-once f g (in_left a h e) (in_right x i b j d) = absurd (clash c x a [] l i h)
    fault-of-once f g (in_left a h e) (two_kinds s i d) = absurd (clash c s.first a [] l s.left_stands h)
    fault-of-once f g (in_left a h e) (too_large s i j d) = absurd (clash c s.first a [] l s.left_stands h)
    fault-of-once f g (in_left a h e) (extra_variable s i j m d) = absurd (clash c s.first a [] l s.left_stands h)
    fault-of-once f g (in_right x i b j d) (in_left a h e) = absurd (clash c x a [] l i h)
    fault-of-once f g (in_right x i a j e) (in_right y p b q d) = e ∙ ap (fault_of n) (second-err x y a b i p j q) ∙ sym d
    fault-of-once f g (in_right x i a j e) (two_kinds s p d) = absurd (second-clash x a i j s)
    fault-of-once f g (in_right x i a j e) (too_large s p q d) = absurd (second-clash x a i j s)
    fault-of-once f g (in_right x i a j e) (extra_variable s p q m d) = absurd (second-clash x a i j s)
    fault-of-once f g (two_kinds s i d) (in_left a h e) = absurd (clash c s.first a [] l s.left_stands h)
    fault-of-once f g (two_kinds s p d) (in_right x i a j e) = absurd (second-clash x a i j s)
    fault-of-once f g (two_kinds s p e) (two_kinds t q d) = e ∙ sym d
    fault-of-once f g (two_kinds s p e) (too_large t q m d) = absurd (p (one-kind t s q))
    fault-of-once f g (two_kinds s p e) (extra_variable t q m o d) = absurd (p (one-kind t s q))
    fault-of-once f g (too_large s i j d) (in_left a h e) = absurd (clash c s.first a [] l s.left_stands h)
    fault-of-once f g (too_large s p q d) (in_right x i a j e) = absurd (second-clash x a i j s)
    fault-of-once f g (too_large t q m d) (two_kinds s p e) = absurd (p (one-kind t s q))
    fault-of-once f g (too_large s q m e) (too_large t p o d) = e ∙ sym d
    fault-of-once f g (too_large s q m e) (extra_variable t p o v d) = absurd (not-large c t.first t.second o (large-moves s t m))
    fault-of-once f g (extra_variable s i j m d) (in_left a h e) = absurd (clash c s.first a [] l s.left_stands h)
    fault-of-once f g (extra_variable s p q m d) (in_right x i a j e) = absurd (second-clash x a i j s)
    fault-of-once f g (extra_variable t q m o d) (two_kinds s p e) = absurd (p (one-kind t s q))
    fault-of-once f g (extra_variable t p o v d) (too_large s q m e) = absurd (not-large c t.first t.second o (large-moves s t m))
    fault-of-once f g (extra_variable s q m o e) (extra_variable t p v w d) = e ∙ sym d

  pub first-fault-once : (es : List Sides) (f g : ModuleFault) → IsFirstFaultOf c es f → IsFirstFaultOf c es g → f ≡ g
  first-fault-once es f g h k = go (places h.before h.after k.before k.after h.sides k.sides (sym h.split ∙ k.split)) where
    never : (e : Sides) (before more : List Sides) (x : ModuleFault) (i : IsFirstFaultOf c es x) → i.sides ≡ e → (found : List Equation) → AreEquationsOf c (before ++ (e ∷ more)) found → ⊥
    never e before more x i s found a =
        let q = equation-at c before e more found a in
        no-fault-of c i.sides q.0 (subst (λ y. IsEquationOf c y q.0) (sym s) q.1) i.left i.right i.written i.sides.number (length i.before + 1) x i.wrong

    go : Places h.before h.after k.before k.after h.sides k.sides → f ≡ g
    go (earlier more p) = absurd (never h.sides h.before more f h refl k.found (subst (λ b. AreEquationsOf c b k.found) p k.faultless))
    go (later more p) = absurd (never k.sides k.before more g k refl h.found (subst (λ b. AreEquationsOf c b h.found) p h.faultless))
    go (one p q) =
        let w : AreWrittenAs h.sides k.left k.right = subst (λ e. AreWrittenAs e k.left k.right) (sym q) k.written in
        let a : k.left ≡ h.left = left-once h.sides k.left k.right h.left h.right w h.written in
        let b : k.right ≡ h.right = right-once h.sides k.left k.right h.left h.right w h.written in
        let x : IsFaultOf c h.sides.number (length k.before + 1) k.left k.right g = subst (λ e. IsFaultOf c e.number (length k.before + 1) k.left k.right g) (sym q) k.wrong in
        let y : IsFaultOf c h.sides.number (length h.before + 1) k.left k.right g = subst (λ d. IsFaultOf c h.sides.number (length d + 1) k.left k.right g) (sym p) x in
        let z : IsFaultOf c h.sides.number (length h.before + 1) h.left h.right g =
        subst (λ t. IsFaultOf c h.sides.number (length h.before + 1) h.left t g) b
        (subst (λ t. IsFaultOf c h.sides.number (length h.before + 1) t k.right g) a y) in
        fault-of-once h.sides.number (length h.before + 1) h.left h.right f g h.wrong z
