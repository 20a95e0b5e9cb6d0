-- Where a variable occurs in a flat form.
use Rattle.std.proofs.Common.{◌≡◌, ℕ, ◌+◌, ◌<◌, Bool, true, false, List, [], ◌∷◌, length, drop, get_or, None, sym, ap, ◌∙◌, subst, inl, inr, add-one}
use Rattle.std.specs.Prelude.{◌↔◌}
use Rattle.std.proofs.Math.Seq.{drop-cons}
use Rattle.fvn_terms.specs.declared.plain.Var.{Var}
use Rattle.fvn_terms.specs.declared.plain.OpId.{OpId}
use Rattle.fvn_terms.specs.Substitution.{Occurs, OccursAmong}
use Rattle.fvn_forms.specs.Flat.{FlatTerm, FlatTerms, fvar, fapp, fnone, fmore, fpack, nest, plain, plain_all}
use Rattle.fvn_forms.proofs.Sums.{fpack-funpack}
use Rattle.fvn_flat.specs.Forms.{variable_of, args_of}

-- the variable occurs in one of the forms
abbrev pub OccursIn : Var → List FlatTerm → Type 0
OccursIn x l = OccursAmong x (plain_all (fpack l))

into_nest : (x : Var) (f : OpId) (t : FlatTerm) (ts : FlatTerms) → OccursAmong x (plain_all (fmore t ts)) → Occurs x (nest f (plain t) (plain_all ts))
into_nest x f t fnone (inl h) = h
into_nest x f t fnone (inr h) = absurd h
into_nest x f t (fmore u us) (inl h) = inl h
into_nest x f t (fmore u us) (inr h) = inr (inl (into_nest x f u us h))

out_of_nest : (x : Var) (f : OpId) (t : FlatTerm) (ts : FlatTerms) → Occurs x (nest f (plain t) (plain_all ts)) → OccursAmong x (plain_all (fmore t ts))
out_of_nest x f t fnone h = inl h
out_of_nest x f t (fmore u us) (inl h) = inl h
out_of_nest x f t (fmore u us) (inr (inl h)) = inr (out_of_nest x f u us h)
out_of_nest x f t (fmore u us) (inr (inr h)) = absurd h

pub occurs_in_app : (x : Var) (f : OpId) (joined : Bool) (ts : FlatTerms) → Occurs x (plain (fapp f joined ts)) ↔ OccursAmong x (plain_all ts)
occurs_in_app x f false ts = (λ h. h, λ h. h)
occurs_in_app x f true fnone = (λ h. h, λ h. h)
occurs_in_app x f true (fmore t ts) = (out_of_nest x f t ts, into_nest x f t ts)

-- of a form that is no variable, in one of its arguments
pub occurs_in_args : (x : Var) (t : FlatTerm) → variable_of t ≡ None → Occurs x (plain t) ↔ OccursIn x (args_of t)
occurs_in_args x (fvar y) e = cc
occurs_in_args x (fapp f joined ts) e = subst (λ us. Occurs x (plain (fapp f joined ts)) ↔ OccursAmong x (plain_all us)) (sym (fpack-funpack ts)) (occurs_in_app x f joined ts)

first_dropped : (l : List FlatTerm) (i : ℕ) (t : FlatTerm) → i < length l → t ≡ get_or l i t → drop i l ≡ t ∷ drop (i + 1) l
first_dropped l i t within is = rw add-one (drop-cons l i t within) ∙ ap (λ u. u ∷ drop (i + 1) l) (sym is)

pub occurs_now : (x : Var) (l : List FlatTerm) (i : ℕ) (t : FlatTerm) → i < length l → t ≡ get_or l i t → Occurs x (plain t) → OccursIn x (drop i l)
occurs_now x l i t within is h = subst (OccursIn x) (sym (first_dropped l i t within is)) (inl h)

later_only : (x : Var) (t : FlatTerm) (l : List FlatTerm) → (Occurs x (plain t) → ⊥) → OccursIn x (t ∷ l) ↔ OccursIn x l
later_only x t l n = (λ h. elim h [ inl a ↦ absurd (n a) | inr b ↦ b ], λ h. inr h)

pub occurs_later : (x : Var) (l : List FlatTerm) (i : ℕ) (t : FlatTerm) → i < length l → t ≡ get_or l i t → (Occurs x (plain t) → ⊥) → OccursIn x (drop i l) ↔ OccursIn x (drop (i + 1) l)
occurs_later x l i t within is n = subst (λ m. OccursIn x m ↔ OccursIn x (drop (i + 1) l)) (sym (first_dropped l i t within is)) (later_only x t (drop (i + 1) l) n)

pub occurs_never : (x : Var) (l : List FlatTerm) → OccursIn x (drop (length l) l) → ⊥
occurs_never x [] h = h
occurs_never x (t ∷ l) h = occurs_never x l h
