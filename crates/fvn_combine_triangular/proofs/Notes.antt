-- The variables of forms, listed.
use Rattle.std.proofs.Common.{◌≡◌, ◌⊎◌, ℕ, zero, suc, ◌+◌, ◌<◌, List, [], ◌∷◌, ◌++◌, length, take, get_or, Some, None, refl, sym, ap, ◌∙◌, subst, inl, inr, arith, All, Contains}
use Rattle.std.specs.Prelude.{◌↔◌}
use Rattle.std.specs.List.{remove}
use Rattle.std.proofs.lemmas.List.{take_more}
use Rattle.std.proofs.lemmas.List.Elements.{All-push, Contains-append_left, Contains-push, Contains-push_cases}
use Rattle.fvn_base.proofs.Membership.{contains_none}
use Rattle.fvn_terms.specs.declared.plain.Var.{Var}
use Rattle.fvn_terms.specs.Substitution.{Occurs}
use Rattle.fvn_forms.specs.Flat.{FlatTerm, fvar, fapp, plain}
use Rattle.fvn_flat.specs.Bindings.{Bindings}
use Rattle.fvn_flat.specs.Forms.{variable_of, args_of}
use Rattle.fvn_flat.proofs.Occurrences.{OccursIn, occurs_in_args}
use Rattle.fvn_combine_triangular.specs.inner.Ordering.{OccursNowhere, HasListed, AreVarsOf, AreNotes}

-- one that is there already
pub listed_already : (vars : List Var) (x : Var) → Contains vars x → HasListed vars vars (λ y. y ≡ x)
listed_already vars x m y = (λ h. inl h, λ h. elim h [ inl old ↦ old | inr e ↦ subst (Contains vars) (sym e) m ])

-- one put at the end
pub listed_last : (vars now : List Var) (x : Var) → now ≡ vars ++ x ∷ [] → HasListed vars now (λ y. y ≡ x)
listed_last vars now x e = subst (λ l. HasListed vars l (λ y. y ≡ x)) (sym e) (λ y. (
  λ h. elim (Contains-push_cases vars x y h) [ inl old ↦ inl old | inr same ↦ inr (sym same) ],
  λ h. elim h [
    | inl old ↦ Contains-append_left vars (x ∷ []) y old
    | inr same ↦ subst (Contains (vars ++ x ∷ [])) (sym same) (Contains-push vars x)
  ],
))

-- of a variable, it alone
pub listed_variable : (vars now : List Var) (x : Var) (t : FlatTerm) → variable_of t ≡ Some x → HasListed vars now (λ y. y ≡ x) → HasListed vars now (λ y. Occurs y (plain t))
listed_variable vars now x (fvar z) e h = subst (λ v. HasListed vars now (λ y. y ≡ v)) (sym (some_is z x e)) h
  where
    some_is : (z x : Var) → Some z ≡ Some x → z ≡ x
    some_is z x e = cc
listed_variable vars now x (fapp f joined ts) e h = cc

occurs_in_push : (y : Var) (l : List FlatTerm) (u : FlatTerm) → OccursIn y (l ++ u ∷ []) ↔ (OccursIn y l ⊎ Occurs y (plain u))
occurs_in_push y [] u = (λ h. elim h [ inl a ↦ inr a | inr b ↦ absurd b ], λ h. elim h [ inl a ↦ absurd a | inr b ↦ inl b ])
occurs_in_push y (t ∷ l) u =
    let p = occurs_in_push y l u in (
      λ h. elim h [ inl a ↦ inl (inl a) | inr b ↦ elim (p.0 b) [ inl c ↦ inl (inr c) | inr d ↦ inr d ] ],
      λ h. elim h [ inl a ↦ elim a [ inl c ↦ inl c | inr d ↦ inr (p.1 (inl d)) ] | inr b ↦ inr (p.1 (inr b)) ],
    )

-- of no argument
pub none_listed : (vars : List Var) (l : List FlatTerm) → HasListed vars vars (λ y. OccursIn y (take 0 l))
none_listed vars l y = (λ h. inl h, λ h. elim h [ inl a ↦ a | inr b ↦ absurd b ])

-- of one more argument
pub listed_more : (first vars now : List Var) (l : List FlatTerm) (i : ℕ) (u : FlatTerm) → i < length l → u ≡ get_or l i u → HasListed first vars (λ y. OccursIn y (take i l)) → HasListed vars now (λ y. Occurs y (plain u)) → HasListed first now (λ y. OccursIn y (take (i + 1) l))
listed_more first vars now l i u within is h g = subst (λ m. HasListed first now (λ y. OccursIn y m)) (sym (take_more l i u within ∙ ap (λ v. take i l ++ v ∷ []) (sym is))) (λ y. let p = occurs_in_push y (take i l) u in (
  λ m. elim ((g y).0 m) [
    | inl old ↦ elim ((h y).0 old) [ inl a ↦ inl a | inr b ↦ inr (p.1 (inl b)) ]
    | inr o ↦ inr (p.1 (inr o))
  ],
  λ m. elim m [
    | inl a ↦ (g y).1 (inl ((h y).1 (inl a)))
    | inr b ↦ elim (p.0 b) [ inl c ↦ (g y).1 (inl ((h y).1 (inr c))) | inr d ↦ (g y).1 (inr d) ]
  ],
))

-- of all arguments
pub listed_all : (first now : List Var) (t : FlatTerm) (l : List FlatTerm) → l ≡ args_of t → variable_of t ≡ None → HasListed first now (λ y. OccursIn y l) → HasListed first now (λ y. Occurs y (plain t))
listed_all first now t l e none h y =
    let p = occurs_in_args y t none in
    let q = subst (λ m. Contains now y ↔ (Contains first y ⊎ OccursIn y m)) e (h y) in (
      λ m. elim (q.0 m) [ inl a ↦ inl a | inr b ↦ inr (p.1 b) ],
      λ m. elim m [ inl a ↦ q.1 (inl a) | inr b ↦ q.1 (inr (p.0 b)) ],
    )

-- what is added to nothing
pub listed_alone : (first now : List Var) (t : FlatTerm) → first ≡ [] → HasListed first now (λ y. Occurs y (plain t)) → AreVarsOf t now
listed_alone first now t e h y =
    let q = subst (λ m. Contains now y ↔ (Contains m y ⊎ Occurs y (plain t))) e (h y) in
    (λ m. elim (q.0 m) [ inl a ↦ absurd (contains_none y a) | inr b ↦ b ], λ o. q.1 (inr o))

push_notes : (bindings : Bindings) (notes : List (List Var)) (b : Var × FlatTerm) (w : List Var) → AreNotes bindings notes → AreVarsOf b.1 w → AreNotes (bindings ++ b ∷ []) (notes ++ w ∷ [])
push_notes [] [] b w h g = (g, tt)
push_notes [] (v ∷ notes) b w h g = absurd h
push_notes (c ∷ bindings) [] b w h g = absurd h
push_notes (c ∷ bindings) (v ∷ notes) b w h g = (h.0, push_notes bindings notes b w h.1 g)

-- one more form
pub notes_more : (bindings : Bindings) (notes now : List (List Var)) (i : ℕ) (b : Var × FlatTerm) (w : List Var) → i < length bindings → b ≡ get_or bindings i b → now ≡ notes ++ w ∷ [] → AreNotes (take i bindings) notes → AreVarsOf b.1 w → AreNotes (take (i + 1) bindings) now
notes_more bindings notes now i b w within is pushed h g = subst (AreNotes (take (i + 1) bindings)) (sym pushed) (subst (λ l. AreNotes l (notes ++ w ∷ [])) (sym (take_more bindings i b within ∙ ap (λ v. take i bindings ++ v ∷ []) (sym is))) (push_notes (take i bindings) notes b w h g))

-- none for no form
pub no_notes : (bindings : Bindings) (notes : List (List Var)) → notes ≡ [] → AreNotes (take 0 bindings) notes
no_notes bindings notes e = subst (AreNotes []) (sym e) tt

-- for all forms
pub all_notes : (bindings : Bindings) (notes : List (List Var)) (l : Bindings) → l ≡ bindings → AreNotes l notes → AreNotes bindings notes
all_notes bindings notes l e h = subst (λ m. AreNotes m notes) e h

-- as many as forms
pub notes_length : (bindings : Bindings) (notes : List (List Var)) → AreNotes bindings notes → length notes ≡ length bindings
notes_length [] [] h = refl
notes_length [] (w ∷ notes) h = absurd h
notes_length (b ∷ bindings) [] h = absurd h
notes_length (b ∷ bindings) (w ∷ notes) h = ap suc (notes_length bindings notes h.1)

remove_both : (bindings : Bindings) (notes : List (List Var)) (i : ℕ) → AreNotes bindings notes → AreNotes (remove bindings i) (remove notes i)
remove_both [] [] zero h = tt
remove_both [] [] (suc i) h = tt
remove_both [] (w ∷ notes) i h = absurd h
remove_both (b ∷ bindings) [] i h = absurd h
remove_both (b ∷ bindings) (w ∷ notes) zero h = h.1
remove_both (b ∷ bindings) (w ∷ notes) (suc i) h = (h.0, remove_both bindings notes i h.1)

-- with one form less
pub notes_removed : (bindings left : Bindings) (notes now : List (List Var)) (i : ℕ) → left ≡ remove bindings i → now ≡ remove notes i → AreNotes bindings notes → AreNotes left now
notes_removed bindings left notes now i e f h = subst (λ l. AreNotes l now) (sym e) (subst (AreNotes (remove bindings i)) (sym f) (remove_both bindings notes i h))

note_at : (bindings : Bindings) (notes : List (List Var)) (k : ℕ) (d : Var × FlatTerm) (w : List Var) → AreNotes bindings notes → k < length bindings → AreVarsOf (get_or bindings k d).1 (get_or notes k w)
note_at [] notes k d w h l = absurd (omega (arith, l))
note_at (b ∷ bindings) [] k d w h l = absurd h
note_at (b ∷ bindings) (v ∷ notes) zero d w h l = h.0
note_at (b ∷ bindings) (v ∷ notes) (suc k) d w h l = note_at bindings notes k d w h.1 (omega (arith, l))

-- in no list, in no form
pub nowhere_by : (bindings : Bindings) (notes : List (List Var)) (x : Var) → AreNotes bindings notes → All (λ w. Contains w x → ⊥) notes → OccursNowhere bindings x
nowhere_by bindings notes x h none k b l o =
    let n = notes_length bindings notes h in
    none k [] (omega (arith, n, l)) ((note_at bindings notes k b [] h l x).1 o)

-- in no form, in no list
pub nowhere_back : (bindings : Bindings) (notes : List (List Var)) (x : Var) → AreNotes bindings notes → OccursNowhere bindings x → All (λ w. Contains w x → ⊥) notes
nowhere_back bindings notes x h nowhere k w l m =
    let n = notes_length bindings notes h in
    let within : k < length bindings = omega (arith, n, l) in
    nowhere k (x, fvar x) within ((note_at bindings notes k (x, fvar x) w h within x).0 m)

-- where one list has it, not in none
pub listed_at : (notes : List (List Var)) (i : ℕ) (w vars : List Var) (x : Var) → i < length notes → w ≡ get_or notes i w → vars ≡ w → Contains vars x → All (λ w. Contains w x → ⊥) notes → ⊥
listed_at notes i w vars x within is e m none = none i w within (subst (λ v. Contains v x) (e ∙ is) m)

-- in none, and not in one more
pub none_more : (notes : List (List Var)) (i : ℕ) (w vars : List Var) (x : Var) → i < length notes → w ≡ get_or notes i w → vars ≡ w → (Contains vars x → ⊥) → All (λ w. Contains w x → ⊥) (take i notes) → All (λ w. Contains w x → ⊥) (take (i + 1) notes)
none_more notes i w vars x within is e absent none = subst (All (λ (w : List Var). Contains w x → ⊥)) (sym (take_more notes i w within ∙ ap (λ v. take i notes ++ v ∷ []) (sym is))) (All-push (λ (w : List Var). Contains w x → ⊥) (take i notes) w none (subst (λ v. Contains v x → ⊥) e absent))

-- in none at the end
pub none_of_all : (notes : List (List Var)) (l : List (List Var)) (x : Var) → l ≡ notes → All (λ w. Contains w x → ⊥) l → All (λ w. Contains w x → ⊥) notes
none_of_all notes l x e none = subst (All (λ (w : List Var). Contains w x → ⊥)) e none
