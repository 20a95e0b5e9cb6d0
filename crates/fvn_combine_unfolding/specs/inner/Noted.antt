-- Sizes that are noted of variables, from the last binding to the first.
use Rattle.std.specs.Prelude.{ℕ, ◌+◌, ◌-◌, ◌^◌, min, true, false, if◌then◌else◌, List, [], ◌∷◌, ◌++◌}
use Rattle.fvn_terms.specs.declared.plain.Var.{Var}
use Rattle.fvn_terms.specs.Substitution.{same_var}
use Rattle.fvn_forms.specs.Flat.{FlatTerm, FlatTerms, fvar, fapp, fnone, fmore}
use Rattle.fvn_flat.specs.Bindings.{Bindings}
use Rattle.fvn_combine_choices.specs.Plans.{size_in}

-- a number, or the greatest
abbrev pub capped : ℕ → ℕ
capped n = min n (2 ^ 64 - 1)

-- the operators between the arguments of a sum
abbrev pub between : FlatTerms → ℕ
between fnone = 1
between (fmore t fnone) = 0
between (fmore t (fmore u us)) = 1 + between (fmore u us)

-- the symbols besides those of the arguments
abbrev pub own_size : FlatTerm → ℕ
own_size (fvar x) = 1
own_size (fapp f false ts) = 1
own_size (fapp f true ts) = between ts

-- the size that is noted of x, or else 1
abbrev pub noted_size : List (Var × ℕ) → Var → ℕ
noted_size [] x = 1
noted_size (p ∷ sizes) x = if same_var p.0 x then p.1 else noted_size sizes x

-- the sizes of the bound variables, the last one first
abbrev pub noted_sizes : Bindings → List (Var × ℕ)
noted_sizes [] = []
noted_sizes (b ∷ bindings) = noted_sizes bindings ++ (b.0, capped (size_in (noted_size (noted_sizes bindings)) b.1)) ∷ []
