-- The operators of what was collected, and their declarations.
use Rattle.std.proofs.Common.{◌≡◌, ℕ, ◌+◌, ◌<◌, ◌≤◌, true, length, sym, ap, subst, ◌⊎◌, inl, inr, arith}
use Rattle.std.specs.List.{Contains}
use Rattle.std.proofs.lemmas.Bool.{eq-eqb, eqb-true, cases_lt}
use Rattle.std.proofs.lemmas.List.FromFn.{length-map-range_with_len}
use Rattle.fvn_terms.specs.declared.plain.OpId.{OpId}
use Rattle.fvn_base.proofs.Membership.{filter_contains}
use Rattle.fvn_signature_draft.specs.declared.collected.Declaration.{Declaration}
use Rattle.fvn_signature_draft.specs.declared.collected.Collected.{Collected}
use Rattle.fvn_signature_draft.specs.Collected.{op_number, same_op, declarations_of, operator_meant, completed}

pub same_op-self : (f g : OpId) → f ≡ g → same_op f g ≡ true
same_op-self f g e = eq-eqb f.0 g.0 (ap (λ (o : OpId). o.0) e)

pub same_op-true : (f g : OpId) → same_op f g ≡ true → f ≡ g
same_op-true f g e = ap op_number (eqb-true f.0 g.0 e)

pub operators-long : (c : Collected) → length (completed c).ops ≡ c.operators
operators-long c = length-map-range_with_len (λ n. operator_meant c (declarations_of c (op_number n))) 0 c.operators

-- a declaration of an operator was collected
pub declared_of : (c : Collected) (f : OpId) (e : Declaration) → Contains (declarations_of c f) e → Contains c.declarations e × (e.op ≡ f)
declared_of c f e h = let w = filter_contains (λ e. same_op e.op f) c.declarations e h in (w.0, same_op-true e.op f w.1)

-- what holds of the first operators, one operator more
pub more_operators : (P : OpId → Type 0) (n : ℕ) → ((g : OpId) → g.0 < n → P g) → P (op_number n) → (g : OpId) → g.0 < n + 1 → P g
more_operators P n before here g l = go (cases_lt g.0 n) where
  go : (g.0 < n) ⊎ (n ≤ g.0) → P g
  go (inl m) = before g m
  go (inr m) = let e : g.0 ≡ n = omega arith in subst (λ k. P (op_number k)) (sym e) here
