-- What is noted are the sizes of what variables unfold to.
use Rattle.std.proofs.Common.{◌≡◌, ◌≢◌, ℕ, suc, ◌+◌, ◌-◌, ◌^◌, ◌<◌, ◌≤◌, Bool, true, false, List, [], ◌∷◌, ◌++◌, length, get_or, drop, Option, Some, None, refl, sym, ap, ◌∙◌, subst, arith, All}
use Rattle.std.specs.Prelude.{if◌then◌else◌, Any, Contains}
use Rattle.std.proofs.Math.Seq.{drop-cons}
use Rattle.std.proofs.lemmas.List.{append-nil, drop_all}
use Rattle.std.proofs.lemmas.List.Elements.{All-head, All-tail, All-contains}
use Rattle.fvn_terms.specs.declared.plain.Var.{Var}
use Rattle.fvn_terms.specs.declared.declarations.Declarations.{Declarations}
use Rattle.fvn_terms.specs.Term.{var}
use Rattle.fvn_terms.specs.Substitution.{Occurs, apply, same_var}
use Rattle.fvn_forms.specs.Flat.{FlatTerm, plain, symbols}
use Rattle.fvn_forms.specs.Canon.{canon}
use Rattle.fvn_flat.specs.Bindings.{Bindings, bound}
use Rattle.fvn_flat.specs.SolvedLists.{IsTriangular, unfolded}
use Rattle.fvn_flat.proofs.Binding.{same_var_is}
use Rattle.fvn_combine_choices.specs.Plans.{unfolds_to, size_in}
use Rattle.fvn_combine_unfolding.specs.Sizes.{AddUp}
use Rattle.fvn_combine_unfolding.specs.inner.Noted.{capped, noted_size, noted_sizes}
use Rattle.fvn_combine_unfolding.proofs.Measuring.{size_agrees}
use Rattle.fvn_combine_unfolding.proofs.Noting.{first_note, noted_free, noted_bound, noted_first}

-- the first binding and the others of a triangular list
pub first_not_later : (b : Var × FlatTerm) (bindings : Bindings) → IsTriangular (b ∷ bindings) → All (λ c. (b.0 ≢ c.0) × (Occurs b.0 (plain c.1) → ⊥)) bindings
first_not_later b bindings h = λ k d l. h.not_later 0 (suc k) d (omega arith) (omega arith)

pub first_not_itself : (b : Var × FlatTerm) (bindings : Bindings) → IsTriangular (b ∷ bindings) → Occurs b.0 (plain b.1) → ⊥
first_not_itself b bindings h = All-head (λ (c : Var × FlatTerm). Occurs c.0 (plain c.1) → ⊥) b bindings h.not_itself

pub triangular_rest : (b : Var × FlatTerm) (bindings : Bindings) → IsTriangular (b ∷ bindings) → IsTriangular bindings
triangular_rest b bindings h = record {
  not_itself = All-tail (λ (c : Var × FlatTerm). Occurs c.0 (plain c.1) → ⊥) b bindings h.not_itself;
  not_later = λ i j d l m. h.not_later (suc i) (suc j) d (omega arith) (omega arith);
}

-- a variable that is not bound stays
pub unfolded_free : (bindings : Bindings) (x : Var) → bound bindings x ≡ None → unfolded bindings x ≡ var x
unfolded_free [] x free = refl
unfolded_free (b ∷ bindings) x free = go (unfolded_free bindings x) (same_var b.0 x) refl free
  where
    go : (bound bindings x ≡ None → unfolded bindings x ≡ var x) → (c : Bool) → same_var b.0 x ≡ c → (if c then Some b.1 else bound bindings x) ≡ None → apply (unfolded bindings) (if same_var b.0 x then plain b.1 else var x) ≡ var x
    go ih true e f = let k : Some b.1 ≡ None = f in cc
    go ih false e f = ap (λ c. apply (unfolded bindings) (if c then plain b.1 else var x)) e ∙ ih f

-- sizes of variables that add up along bindings, where variables that are bound no more count one
pub record AddUpIn (size : Var → ℕ) (bindings : Bindings) : Type 0 where
  pub each : All (λ b. size b.0 ≡ size_in size b.1) bindings
  pub free : (b : Var × FlatTerm) (z : Var) → Contains bindings b → Occurs z (plain b.1) → bound bindings z ≡ None → size z ≡ 1

later : {A : Type 0} (x : A) (xs : List A) (y : A) → Contains xs y → Contains (x ∷ xs) y
later x xs y m = (suc m.0, (let l = m.1 in omega arith), m.2)

module _ (size : Var → ℕ) where
  rest_free : (b : Var × FlatTerm) (bindings : Bindings) → IsTriangular (b ∷ bindings) → AddUpIn size (b ∷ bindings) → AddUpIn size bindings
  rest_free b bindings h a = record {
    each = All-tail (λ (c : Var × FlatTerm). size c.0 ≡ size_in size c.1) b bindings a.each;
    free = λ c z m o f. a.free c z (later b bindings c m) o (go c z m o f (same_var b.0 z) refl);
  }
    where
      go : (c : Var × FlatTerm) (z : Var) → Contains bindings c → Occurs z (plain c.1) → bound bindings z ≡ None → (e : Bool) → same_var b.0 z ≡ e → (if same_var b.0 z then Some b.1 else bound bindings z) ≡ None
      go c z m o f true e =
          absurd ((All-contains (λ (c : Var × FlatTerm). (b.0 ≢ c.0) × (Occurs b.0 (plain c.1) → ⊥)) bindings c (first_not_later b bindings h) m).1 (subst (λ y. Occurs y (plain c.1)) (sym (same_var_is b.0 z e)) o))
      go c z m o f false e = ap (λ c. if c then Some b.1 else bound bindings z) e ∙ f

  -- of each bound variable its size is noted
  abbrev pub AreNoted : Bindings → Type 0
  AreNoted bindings = (x : Var) (u : FlatTerm) → bound bindings x ≡ Some u → noted_size (noted_sizes bindings) x ≡ capped (size x)

  nothing_noted : (bindings : Bindings) (x : Var) → bound bindings x ≡ None → noted_size (noted_sizes bindings) x ≡ 1
  nothing_noted bindings x free = ap (λ l. noted_size l x) (sym (append-nil (noted_sizes bindings))) ∙ noted_free bindings x free []

  one_more : (b : Var × FlatTerm) (bindings : Bindings) → IsTriangular (b ∷ bindings) → AddUpIn size (b ∷ bindings) → AreNoted bindings → AreNoted (b ∷ bindings)
  one_more b bindings h a noted x u is = go (bound bindings x) refl (same_var b.0 x) refl is
    where
      no_first : (z : Var) → Occurs z (plain b.1) → bound bindings z ≡ None → (e : Bool) → same_var b.0 z ≡ e → (if same_var b.0 z then Some b.1 else bound bindings z) ≡ None
      no_first z o f true e = absurd (first_not_itself b bindings h (subst (λ y. Occurs y (plain b.1)) (sym (same_var_is b.0 z e)) o))
      no_first z o f false e = ap (λ c. if c then Some b.1 else bound bindings z) e ∙ f

      agree : (z : Var) → Occurs z (plain b.1) → (o : Option FlatTerm) → bound bindings z ≡ o → capped (noted_size (noted_sizes bindings) z) ≡ capped (size z)
      agree z occurs (Some v) e = let n = noted z v e in omega arith
      agree z occurs None e =
          let m : size z ≡ 1 = a.free b z (0, omega arith, refl) occurs (no_first z occurs e (same_var b.0 z) refl) in
          ap capped (nothing_noted bindings z e ∙ sym m)

      go : (o : Option FlatTerm) → bound bindings x ≡ o → (c : Bool) → same_var b.0 x ≡ c → (if c then Some b.1 else bound bindings x) ≡ Some u → noted_size (noted_sizes (b ∷ bindings)) x ≡ capped (size x)
      go (Some v) e c same f = noted_bound bindings x v e (first_note b bindings ∷ []) ∙ noted x v e
      go None e true same f =
          noted_first b bindings x e same
          ∙ size_agrees (noted_size (noted_sizes bindings)) size b.1 (λ z o. agree z o (bound bindings z) refl)
          ∙ ap capped (sym (All-head (λ (c : Var × FlatTerm). size c.0 ≡ size_in size c.1) b bindings a.each))
          ∙ ap (λ y. capped (size y)) (same_var_is b.0 x same)
      go None e false same f = let k : None ≡ Some u = sym e ∙ f in cc

  pub noted_is : (bindings : Bindings) → IsTriangular bindings → AddUpIn size bindings → AreNoted bindings
  noted_is [] h a x u is = cc
  noted_is (b ∷ bindings) h a x u is = one_more b bindings h a (noted_is bindings (triangular_rest b bindings h) (rest_free b bindings h a)) x u is

module _ (d : Declarations) (bindings : Bindings) where
  abbrev pub unfolded_size : Var → ℕ
  unfolded_size x = symbols (unfolds_to d bindings x)

  size_of_free : (x : Var) → bound bindings x ≡ None → unfolded_size x ≡ 1
  size_of_free x free = ap (λ t. symbols (canon d t)) (unfolded_free bindings x free)

  -- of each variable the size of what it unfolds to is noted
  pub noted_unfolded : IsTriangular bindings → AddUp d bindings → (x : Var) → noted_size (noted_sizes bindings) x ≡ capped (unfolded_size x)
  noted_unfolded h a x = go (bound bindings x) refl
    where
      go : (o : Option FlatTerm) → bound bindings x ≡ o → noted_size (noted_sizes bindings) x ≡ capped (unfolded_size x)
      go (Some u) e = noted_is unfolded_size bindings h record { each = a; free = λ b z m o f. size_of_free z f } x u e
      go None e =
          let n = nothing_noted unfolded_size bindings x e in
          let s = size_of_free x e in
          omega arith

-- the notes of one more binding, from the last one on
pub noted_more : (bindings : Bindings) (i : ℕ) (p : Var × FlatTerm) (old now : List (Var × ℕ)) (size : ℕ) → i < length bindings → p ≡ get_or bindings i p → old ≡ noted_sizes (drop (i + 1) bindings) → size ≡ capped (size_in (noted_size old) p.1) → now ≡ old ++ (p.0, size) ∷ [] → now ≡ noted_sizes (drop i bindings)
noted_more bindings i p old now size l is before e pushed =
    let rest = drop (i + 1) bindings in
    let next : suc i ≡ i + 1 = omega arith in
    let first : drop i bindings ≡ p ∷ rest =
    drop-cons bindings i p l ∙ ap (λ (k : ℕ). get_or bindings i p ∷ drop k bindings) next ∙ ap (λ (q : Var × FlatTerm). q ∷ rest) (sym is) in
    pushed
    ∙ ap (λ (n : ℕ). old ++ (p.0, n) ∷ []) e
    ∙ ap (λ (o : List (Var × ℕ)). o ++ (p.0, capped (size_in (noted_size o) p.1)) ∷ []) before
    ∙ ap noted_sizes (sym first)

pub noted_none : (bindings : Bindings) (i : ℕ) → length bindings ≤ i → [] ≡ noted_sizes (drop i bindings)
noted_none bindings i l = ap noted_sizes (sym (drop_all i bindings l))

-- a capped number is above a limit exactly where the number is
pub over_limit : (n limit : ℕ) → limit < capped n → limit < n
over_limit n limit h = omega arith

pub within_limit : (n limit : ℕ) → capped n ≤ limit → limit < 2 ^ 64 - 1 → limit < n → ⊥
within_limit n limit h l m = omega arith

module _ (d : Declarations) (bindings : Bindings) (triangular : IsTriangular bindings) (add_up : AddUp d bindings) (sizes : List (Var × ℕ)) (noted : sizes ≡ noted_sizes bindings) (limit : ℕ) (small : limit < 2 ^ 64 - 1) where
  note_is : (x : Var) → noted_size sizes x ≡ capped (unfolded_size d bindings x)
  note_is x = ap (λ l. noted_size l x) noted ∙ noted_unfolded d bindings triangular add_up x

  pub too_large_at : (vars : List Var) (i : ℕ) (x : Var) → i < length vars → get_or vars i x ≡ x → limit < noted_size sizes x → Any (λ x. limit < unfolded_size d bindings x) vars
  too_large_at vars i x l is h = (i, x, l, is, over_limit (unfolded_size d bindings x) limit (let e = note_is x in omega (arith, e, h)))

  pub none_too_large : (vars : List Var) → All (λ x. noted_size sizes x ≤ limit) vars → Any (λ x. limit < unfolded_size d bindings x) vars → ⊥
  none_too_large vars h (i, x, l, is, m) =
      let here = subst (λ y. noted_size sizes y ≤ limit) is (h i x l) in
      within_limit (unfolded_size d bindings x) limit (let e = note_is x in omega (arith, e, here)) small m
