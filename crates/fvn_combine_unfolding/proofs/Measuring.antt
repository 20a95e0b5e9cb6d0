-- The symbols of a form, from those of its arguments.
use Rattle.std.proofs.Common.{◌≡◌, ℕ, ◌+◌, ◌-◌, ◌^◌, ◌<◌, Bool, true, false, List, [], ◌∷◌, ◌++◌, length, take, get_or, Some, None, refl, sym, ap, ◌∙◌, inl, inr, arith}
use Rattle.std.specs.Prelude.{nat_eq, if◌then◌else◌}
use Rattle.std.specs.List.{AllByRecursion}
use Rattle.std.proofs.lemmas.Bool.{eqb-true}
use Rattle.std.proofs.lemmas.List.{take_more}
use Rattle.fvn_terms.specs.declared.plain.Var.{Var}
use Rattle.fvn_terms.specs.declared.plain.OpId.{OpId}
use Rattle.fvn_terms.specs.declared.declarations.Axioms.{Axioms}
use Rattle.fvn_terms.specs.declared.declarations.Axioms.TheVariants.{Free, Comm, AssocComm, AssocCommId}
use Rattle.fvn_terms.specs.declared.declarations.Declarations.{Declarations}
use Rattle.fvn_terms.specs.Signature.{axioms}
use Rattle.fvn_terms.specs.Substitution.{Occurs, OccursAmong}
use Rattle.fvn_terms.specs.Equality.{is_sum}
use Rattle.fvn_terms.proofs.AxiomWords.{associative_sums}
use Rattle.fvn_forms.specs.Flat.{FlatTerm, FlatTerms, fvar, fapp, fnone, fmore, fpack, funpack, plain, plain_all}
use Rattle.fvn_forms.specs.Settled.{Settled, FitsUnjoined}
use Rattle.fvn_forms.proofs.Sums.{fpack-funpack, SettledAll-funpack}
use Rattle.fvn_flat.specs.Forms.{variable_of, head_of, args_of}
use Rattle.fvn_flat.specs.Own.{own}
use Rattle.fvn_flat.proofs.Occurrences.{occurs_in_app}
use Rattle.fvn_combine_choices.specs.Plans.{size_in, sizes_in, joined_in}
use Rattle.fvn_combine_unfolding.specs.inner.Noted.{capped, between, own_size}

-- the arguments of a settled form are settled
pub args_settled : (d : Declarations) (t : FlatTerm) → Settled d t → AllByRecursion (Settled d) (args_of t)
args_settled d (fvar x) h = tt
args_settled d (fapp f joined ts) h = SettledAll-funpack d ts h.1

between_is : (t : FlatTerm) (ts : FlatTerms) → between (fmore t ts) ≡ length (funpack ts)
between_is t fnone = refl
between_is t (fmore u us) = let e = between_is u us in omega arith

-- with no operator a form has one symbol of its own
pub own_of_variable : (t : FlatTerm) → head_of t ≡ None → 1 ≡ own_size t
own_of_variable (fvar x) e = refl
own_of_variable (fapp f joined ts) e = cc

own_of_nothing : (joined : Bool) → own joined 0 ≡ 1
own_of_nothing true = refl
own_of_nothing false = refl

own_of_some_arguments : (n m : ℕ) → n ≡ m + 1 → own true n ≡ m
own_of_some_arguments n m e = go (nat_eq n 0) refl
  where
    go : (b : Bool) → nat_eq n 0 ≡ b → (if b then 1 else n - 1) ≡ m
    go true f = let z = eqb-true n 0 f in absurd (omega (arith, z, e))
    go false f = omega (arith, e)

sums_unless : (d : Declarations) (a : Axioms) (t : FlatTerm) (l : List FlatTerm) → FitsUnjoined d a (t ∷ l) → is_sum a ≡ false
sums_unless d Free t l h = refl
sums_unless d Comm t l h = refl
sums_unless d AssocComm t l h = cc
sums_unless d (AssocCommId i) t l h = cc

module _ (d : Declarations) where
  -- an operator has those of its place over the arguments
  own_of_app : (g : OpId) (joined : Bool) (ts : FlatTerms) → Settled d (fapp g joined ts) → own (is_sum (axioms d g)) (length (funpack ts)) ≡ own_size (fapp g joined ts)
  own_of_app g true fnone h = own_of_nothing (is_sum (axioms d g))
  own_of_app g false fnone h = own_of_nothing (is_sum (axioms d g))
  own_of_app g true (fmore t ts) h =
      let b = between_is t ts in
      ap (λ j. own j (length (t ∷ funpack ts))) (associative_sums (axioms d g) h.0.associative) ∙ own_of_some_arguments (length (t ∷ funpack ts)) (length (funpack ts)) (omega arith) ∙ sym b
  own_of_app g false (fmore t ts) h = ap (λ j. own j (length (t ∷ funpack ts))) (sums_unless d (axioms d g) t (funpack ts) h.0)

  pub own_of_some : (t : FlatTerm) (f : OpId) → Settled d t → head_of t ≡ Some f → own (is_sum (axioms d f)) (length (args_of t)) ≡ own_size t
  own_of_some (fvar x) f h e = cc
  own_of_some (fapp g joined ts) f h e =
      let same : g ≡ f = cc in
      ap (λ k. own (is_sum (axioms d k)) (length (funpack ts))) (sym same) ∙ own_of_app g joined ts h

module _ (env : Var → ℕ) where
  -- the symbols of the forms of a list together
  abbrev pub size_of_all : List FlatTerm → ℕ
  size_of_all l = sizes_in env (fpack l)

  size_of_all-push : (l : List FlatTerm) (t : FlatTerm) → size_of_all (l ++ t ∷ []) ≡ size_of_all l + size_in env t
  size_of_all-push [] t = omega arith
  size_of_all-push (u ∷ l) t = let e = size_of_all-push l t in omega arith

  pub size_of_all-take_more : (l : List FlatTerm) (i : ℕ) (t : FlatTerm) → i < length l → t ≡ get_or l i t → size_of_all (take (i + 1) l) ≡ size_of_all (take i l) + size_in env t
  size_of_all-take_more l i t within is = ap size_of_all (take_more l i t within) ∙ ap (λ u. size_of_all (take i l ++ u ∷ [])) (sym is) ∙ size_of_all-push (take i l) t

  joined_in_is : (t : FlatTerm) (ts : FlatTerms) → joined_in env (fmore t ts) ≡ between (fmore t ts) + sizes_in env (fmore t ts)
  joined_in_is t fnone = omega arith
  joined_in_is t (fmore u us) = let e = joined_in_is u us in omega arith

  -- the symbols of a form are its own and those of its arguments
  pub size_in_is : (t : FlatTerm) → variable_of t ≡ None → own_size t + size_of_all (args_of t) ≡ size_in env t
  size_in_is (fvar x) e = cc
  size_in_is (fapp f false ts) e = ap (λ us. 1 + sizes_in env us) (fpack-funpack ts)
  size_in_is (fapp f true fnone) e = refl
  size_in_is (fapp f true (fmore t ts)) e = ap (λ us. between (fmore t ts) + sizes_in env us) (fpack-funpack (fmore t ts)) ∙ sym (joined_in_is t ts)

  pub size_of_variable : (x : Var) (t : FlatTerm) → variable_of t ≡ Some x → size_in env t ≡ env x
  size_of_variable x (fvar y) e = let k : y ≡ x = cc in ap env k
  size_of_variable x (fapp f joined ts) e = cc

-- a sum of capped numbers
cap_sum : (a b a' b' : ℕ) → capped a ≡ capped a' → capped b ≡ capped b' → capped (a + b) ≡ capped (a' + b')
cap_sum a b a' b' p q = omega arith

-- a form has as many symbols, capped, where its variables have
module _ (env other : Var → ℕ) where
  mutual
    pub size_agrees : (t : FlatTerm) → ((z : Var) → Occurs z (plain t) → capped (env z) ≡ capped (other z)) → capped (size_in env t) ≡ capped (size_in other t)
    size_agrees (fvar x) h = h x refl
    size_agrees (fapp f false ts) h = cap_sum 1 (sizes_in env ts) 1 (sizes_in other ts) refl (sizes_agree ts (λ z o. h z ((occurs_in_app z f false ts).1 o)))
    size_agrees (fapp f true ts) h = joined_agree ts (λ z o. h z ((occurs_in_app z f true ts).1 o))

    sizes_agree : (ts : FlatTerms) → ((z : Var) → OccursAmong z (plain_all ts) → capped (env z) ≡ capped (other z)) → capped (sizes_in env ts) ≡ capped (sizes_in other ts)
    sizes_agree fnone h = refl
    sizes_agree (fmore t ts) h = cap_sum (size_in env t) (sizes_in env ts) (size_in other t) (sizes_in other ts) (size_agrees t (λ z o. h z (inl o))) (sizes_agree ts (λ z o. h z (inr o)))

    joined_agree : (ts : FlatTerms) → ((z : Var) → OccursAmong z (plain_all ts) → capped (env z) ≡ capped (other z)) → capped (joined_in env ts) ≡ capped (joined_in other ts)
    joined_agree fnone h = refl
    joined_agree (fmore t fnone) h = size_agrees t (λ z o. h z (inl o))
    joined_agree (fmore t (fmore u us)) h =
        cap_sum (size_in env t) (1 + joined_in env (fmore u us)) (size_in other t) (1 + joined_in other (fmore u us)) (size_agrees t (λ z o. h z (inl o)))
        (cap_sum 1 (joined_in env (fmore u us)) 1 (joined_in other (fmore u us)) refl (joined_agree (fmore u us) (λ z o. h z (inr o))))

-- a number that is no greater than the greatest
pub capped_itself : (env : Var → ℕ) (x : Var) (t : FlatTerm) → variable_of t ≡ Some x → (n : ℕ) → n ≡ env x → n < 2 ^ 64 → n ≡ capped (size_in env t)
capped_itself env x t is n e l = let s = size_of_variable env x t is in omega (arith, s, e, l)
