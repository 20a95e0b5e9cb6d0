-- What is noted of bound variables.
use Rattle.std.proofs.Common.{◌≡◌, ℕ, Bool, true, false, List, [], ◌∷◌, ◌++◌, Option, Some, None, refl, sym, ap, ◌∙◌, append_assoc}
use Rattle.std.specs.Prelude.{if◌then◌else◌}
use Rattle.fvn_terms.specs.declared.plain.Var.{Var}
use Rattle.fvn_terms.specs.Substitution.{same_var}
use Rattle.fvn_forms.specs.Flat.{FlatTerm}
use Rattle.fvn_flat.specs.Bindings.{Bindings, bound}
use Rattle.fvn_combine_choices.specs.Plans.{size_in}
use Rattle.fvn_combine_unfolding.specs.inner.Noted.{capped, noted_size, noted_sizes}

-- what is noted of the variable of the first binding
abbrev pub first_note : Var × FlatTerm → Bindings → Var × ℕ
first_note b bindings = (b.0, capped (size_in (noted_size (noted_sizes bindings)) b.1))

-- of a variable that is not bound nothing is noted
abbrev pub NothingNoted : Bindings → Var → Type 0
NothingNoted bindings x = (rest : List (Var × ℕ)) → noted_size (noted_sizes bindings ++ rest) x ≡ noted_size rest x

pub noted_free : (bindings : Bindings) (x : Var) → bound bindings x ≡ None → NothingNoted bindings x
noted_free [] x free rest = refl
noted_free (b ∷ bindings) x free rest =
    ap (λ l. noted_size l x) (append_assoc (noted_sizes bindings) (first_note b bindings ∷ []) rest) ∙ go (noted_free bindings x) (same_var b.0 x) refl free
  where
    go : (bound bindings x ≡ None → NothingNoted bindings x) → (c : Bool) → same_var b.0 x ≡ c → (if c then Some b.1 else bound bindings x) ≡ None → noted_size (noted_sizes bindings ++ first_note b bindings ∷ rest) x ≡ noted_size rest x
    go ih true e f = let k : Some b.1 ≡ None = f in cc
    go ih false e f = ih f (first_note b bindings ∷ rest) ∙ ap (λ c. if c then capped (size_in (noted_size (noted_sizes bindings)) b.1) else noted_size rest x) e

-- of one that is bound all is noted
abbrev pub AllNoted : Bindings → Var → Type 0
AllNoted bindings x = (rest : List (Var × ℕ)) → noted_size (noted_sizes bindings ++ rest) x ≡ noted_size (noted_sizes bindings) x

-- what is noted of the variable of the first binding, where it is bound no more
noted_here : (b : Var × FlatTerm) (bindings : Bindings) (x : Var) → bound bindings x ≡ None → same_var b.0 x ≡ true → (rest : List (Var × ℕ)) → noted_size (noted_sizes bindings ++ first_note b bindings ∷ rest) x ≡ capped (size_in (noted_size (noted_sizes bindings)) b.1)
noted_here b bindings x free same rest =
    noted_free bindings x free (first_note b bindings ∷ rest) ∙ ap (λ c. if c then capped (size_in (noted_size (noted_sizes bindings)) b.1) else noted_size rest x) same

pub noted_bound : (bindings : Bindings) (x : Var) (u : FlatTerm) → bound bindings x ≡ Some u → AllNoted bindings x
noted_bound [] x u is rest = cc
noted_bound (b ∷ bindings) x u is rest =
    ap (λ l. noted_size l x) (append_assoc (noted_sizes bindings) (first_note b bindings ∷ []) rest) ∙ go (noted_bound bindings x) (bound bindings x) (same_var b.0 x) refl refl is
  where
    go : ((v : FlatTerm) → bound bindings x ≡ Some v → AllNoted bindings x) → (o : Option FlatTerm) (c : Bool) → bound bindings x ≡ o → same_var b.0 x ≡ c → (if c then Some b.1 else bound bindings x) ≡ Some u
        → noted_size (noted_sizes bindings ++ first_note b bindings ∷ rest) x ≡ noted_size (noted_sizes bindings ++ first_note b bindings ∷ []) x
    go ih (Some v) c e f is = ih v e (first_note b bindings ∷ rest) ∙ sym (ih v e (first_note b bindings ∷ []))
    go ih None true e f is = noted_here b bindings x e f rest ∙ sym (noted_here b bindings x e f [])
    go ih None false e f is = let k : None ≡ Some u = sym e ∙ is in cc

pub noted_first : (b : Var × FlatTerm) (bindings : Bindings) (x : Var) → bound bindings x ≡ None → same_var b.0 x ≡ true → noted_size (noted_sizes (b ∷ bindings)) x ≡ capped (size_in (noted_size (noted_sizes bindings)) b.1)
noted_first b bindings x free same = noted_here b bindings x free same []
