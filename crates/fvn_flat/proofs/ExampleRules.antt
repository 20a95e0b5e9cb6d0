-- The rules that come from the equation X ; a = b, where mt is the identity of the sum ; of sets.
use Rattle.std.proofs.Common.{◌≡◌, ℕ, zero, suc, Bool, true, false, List, [], ◌∷◌, Some, refl, sym, ap, ◌∙◌, subst, inl, inr, arith, lit<}
use Rattle.std.specs.Prelude.{◌⊎◌}
use Rattle.fvn_terms.specs.declared.plain.Var.{Var}
use Rattle.fvn_terms.specs.declared.plain.OpId.{OpId}
use Rattle.fvn_terms.specs.declared.declarations.Axioms.TheVariants.{Free, AssocCommId}
use Rattle.fvn_terms.specs.declared.declarations.Rank.{Rank}
use Rattle.fvn_terms.specs.declared.declarations.Declarations.{Declarations}
use Rattle.fvn_terms.specs.Term.{Term, var}
use Rattle.fvn_terms.specs.Substitution.{Occurs, same_var}
use Rattle.fvn_terms.specs.Signature.{axioms, same, HasKind}
use Rattle.fvn_terms.specs.Places.{stop}
use Rattle.fvn_terms.specs.Equality.{two, constant, identity}
use Rattle.fvn_terms.specs.Sorts.{HasSort, is_declared}
use Rattle.fvn_forms.specs.Flat.{FlatTerm, fvar, fapp, fnone, fmore, fconstant, plain}
use Rattle.fvn_forms.specs.Canon.{canon}
use Rattle.fvn_flat.specs.SolvedLists.{only}
use Rattle.fvn_flat.specs.Rules.{IsIdentity, GoesToIdentity, IsIdentityChoice, IsIdentityInstance, IsExtension, IsRuleOf}
use Rattle.fvn_flat.proofs.Binding.{same_var_is}
use Rattle.fvn_flat.proofs.Examples.{op, s, binary, variable}

abbrev constants : List Rank
constants = record { args = []; result = s } ∷ []

-- one sort and its kind; a sum with the identity mt; the constants mt, a and b; a free operator g of one argument
abbrev pub sets : Declarations
sets = record {
  sorts = 1;
  kinds = record { 0 = 1 } ∷ record { 0 = 1 } ∷ [];
  below = [];
  ops =
      record { axioms = AssocCommId (op 1); ranks = binary }
      ∷ record { axioms = Free; ranks = constants }
      ∷ record { axioms = Free; ranks = constants }
      ∷ record { axioms = Free; ranks = constants }
      ∷ record { axioms = Free; ranks = record { args = s ∷ []; result = s } ∷ [] }
      ∷ [];
}

abbrev pub x : Var
x = variable 0

-- a variable of the kind
abbrev z : Var
z = record { name = 1; sort = record { 0 = 1 }; fresh = false }

abbrev mt : Term
mt = constant (op 1)

abbrev pub a : Term
a = constant (op 2)

abbrev b : Term
b = constant (op 3)

abbrev pub form_a : FlatTerm
form_a = fconstant (op 2)

abbrev pub form_b : FlatTerm
form_b = fconstant (op 3)

-- X ; a = b
abbrev pub equation : Term × Term
equation = (two (op 0) (var x) a, b)

abbrev pub x_and_a : FlatTerm
x_and_a = fapp (op 0) true (fmore (fvar x) (fmore form_a fnone))

-- with no variable replaced: X ; a = b
pub as_it_is : IsIdentityInstance sets equation x_and_a form_b
as_it_is = record { by = var; choice = λ y. inl refl; left = refl; right = refl }

mt_is_an_identity : IsIdentity sets (op 1)
mt_is_an_identity = (op 0, refl)

mt_of_sort : HasSort sets mt s
mt_of_sort = record { form = mt; equal = stop; gets = record { sort = s; gets = record { sorts = []; rank = is_declared (record { args = []; result = s }) (0, lit< tt, refl) refl refl; args = tt }; below = same } }

x_to_mt : IsIdentityChoice sets equation.0 (only x mt)
x_to_mt y = go (same_var x y) refl
  where
    go : (c : Bool) → same_var x y ≡ c → (only x mt y ≡ var y) ⊎ (Occurs y equation.0 × GoesToIdentity sets (only x mt) y)
    go true e =
        let is : x ≡ y = same_var_is x y e in
        inr (subst (λ v. Occurs v equation.0 × GoesToIdentity sets (only x mt) v) is (inl refl, record { operator = op 1; identity = mt_is_an_identity; sorted = mt_of_sort; is = refl }))
    go false e = inl (rw e refl)

-- with X replaced by mt, which then goes: a = b
without_x : IsIdentityInstance sets equation form_a form_b
without_x = record { by = only x mt; choice = x_to_mt; left = refl; right = refl }

of_the_kind : HasKind sets (plain x_and_a) (record { 0 = 1 })
of_the_kind = record {
  rank = record { args = s ∷ s ∷ []; result = s };
  listed = (0, lit< tt, refl);
  args = ((lit< tt, refl), (record { rank = record { args = []; result = s }; listed = (0, lit< tt, refl); args = tt; result = refl }, tt));
  result = refl;
}

other_name : z ≡ x → ⊥
other_name e = let n = ap (λ v. v.name) e in omega arith

-- the extension of the first one: X ; Z ; a = Z ; b
extended : IsExtension sets equation (fapp (op 0) true (fmore (fvar x) (fmore (fvar z) (fmore form_a fnone)))) (fapp (op 0) true (fmore (fvar z) (fmore form_b fnone)))
extended = record {
  inner_left = x_and_a;
  inner_right = form_b;
  instance_of = as_it_is;
  operator = op 0;
  arguments = _;
  head = refl;
  associative = tt;
  beside = z;
  new_left = λ o. elim o [ inl e ↦ other_name e | inr r ↦ elim r [ inl e ↦ e | inr n ↦ n ] ];
  new_right = λ o. o;
  is_kind = refl;
  of_kind = of_the_kind;
  left = refl;
  right = refl;
}

-- mt is the only identity
identity_is_mt : (e : OpId) → IsIdentity sets e → op 1 ≡ e
identity_is_mt e (f, is) = go f.0 is
  where
    go : (n : ℕ) → identity (axioms sets (op n)) ≡ Some e → op 1 ≡ e
    go zero p = cc
    go (suc zero) p = cc
    go (suc (suc zero)) p = cc
    go (suc (suc (suc zero))) p = cc
    go (suc (suc (suc (suc zero)))) p = cc
    go (suc (suc (suc (suc (suc n))))) p = cc

-- so there is no other instance than these two
two_instances : (l r : FlatTerm) → IsIdentityInstance sets equation l r → ((l ≡ x_and_a) ⊎ (l ≡ form_a)) × (r ≡ form_b)
two_instances l r h = (go (h.choice x), h.right)
  where
    left_at : (t : Term) → h.by x ≡ t → l ≡ canon sets (two (op 0) t a)
    left_at t e = h.left ∙ ap (λ u. canon sets (two (op 0) u a)) e

    go : (h.by x ≡ var x) ⊎ (Occurs x equation.0 × GoesToIdentity sets h.by x) → (l ≡ x_and_a) ⊎ (l ≡ form_a)
    go (inl e) = inl (left_at (var x) e)
    go (inr g) = inr (left_at mt (g.1.is ∙ ap constant (sym (identity_is_mt g.1.operator g.1.identity))))

-- a rule of the module
first_rule : IsRuleOf sets (equation ∷ []) x_and_a form_b
first_rule = (equation, (0, lit< tt, refl), inl as_it_is)
