-- When two symbols are one.
use Rattle.std.proofs.Common.{◌≡◌, Bool, true, false, refl, sym, ap, ◌∙◌}
use Rattle.fvn_forms.proofs.Sums.{same_op_itself, same_op_is}
use Rattle.fvn_flat.proofs.Binding.{same_var_is, same_var_itself}
use Rattle.fvn_cover_counts.specs.declared.symbols.Symbol.{Symbol}
use Rattle.fvn_cover_counts.specs.declared.symbols.Symbol.TheVariants.{Variable, Operator}
use Rattle.fvn_cover_counts.specs.Weights.{same_symbol}

pub same_symbol_is : (s t : Symbol) → same_symbol s t ≡ true → s ≡ t
same_symbol_is (Variable x) (Variable y) e = ap Variable (same_var_is x y e)
same_symbol_is (Variable x) (Operator g) e = cc
same_symbol_is (Operator f) (Variable y) e = cc
same_symbol_is (Operator f) (Operator g) e = ap Operator (same_op_is f g e)

pub same_symbol_itself : (s : Symbol) → same_symbol s s ≡ true
same_symbol_itself (Variable x) = same_var_itself x
same_symbol_itself (Operator f) = same_op_itself f

-- one symbol, seen from a third
pub same_seen : (s t u : Symbol) → same_symbol s t ≡ true → same_symbol s u ≡ same_symbol t u
same_seen s t u e = ap (λ z. same_symbol z u) (same_symbol_is s t e)

pub same_symbol_sym : (s t : Symbol) → same_symbol s t ≡ same_symbol t s
same_symbol_sym s t = go (same_symbol s t) (same_symbol t s) refl refl
  where
    go : (a b : Bool) → same_symbol s t ≡ a → same_symbol t s ≡ b → same_symbol s t ≡ same_symbol t s
    go true b p q = let e = same_symbol_is s t p in ap (λ z. same_symbol z t) e ∙ ap (λ z. same_symbol t z) (sym e)
    go false true p q = let e = same_symbol_is t s q in ap (λ z. same_symbol s z) e ∙ ap (λ z. same_symbol z s) (sym e)
    go false false p q = p ∙ sym q
