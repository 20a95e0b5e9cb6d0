-- Variables and operators told apart by numbers, for types whose values are seen as terms.
use Rattle.std.specs.Prelude.{ℕ, Bool, refl}
use Rattle.std.specs.Coded.{Coded, code_by, coded×, coded_ℕ, coded_bool}
use Rattle.fvn_terms.specs.declared.plain.Var.{Var}
use Rattle.fvn_terms.specs.declared.plain.OpId.{OpId}

-- variables as two numbers and a mark
abbrev pub coded_var : Coded Var
coded_var =
    code_by (ℕ × (ℕ × Bool)) (coded× coded_ℕ (coded× coded_ℕ coded_bool)) (λ x. (x.name, (x.sort.0, x.fresh)))
    (λ p. record { name = p.0; sort = record { 0 = p.1.0 }; fresh = p.1.1 }) (λ _. refl)

-- operators as numbers
abbrev pub coded_op : Coded OpId
coded_op = code_by ℕ coded_ℕ (λ f. f.0) (λ n. record { 0 = n }) (λ _. refl)
