-- The symbols of a flat form, from those of its arguments.
use Rattle.std.proofs.Common.{◌≡◌, ℕ, ◌+◌, ◌-◌, ◌<◌, Bool, true, false, List, [], ◌∷◌, ◌++◌, length, take, get_or, refl, sym, ap, ◌∙◌, arith}
use Rattle.std.proofs.lemmas.List.{take_more}
use Rattle.fvn_terms.specs.declared.plain.OpId.{OpId}
use Rattle.fvn_forms.specs.Flat.{FlatTerm, fapp, fpack, symbols}
use Rattle.fvn_forms.proofs.Sums.{funpack-fpack}
use Rattle.fvn_flat.specs.Own.{own}
use Rattle.fvn_forms.proofs.Sizes.{all_symbols, symbols_unjoined, symbols_joined}

all_symbols-push : (l : List FlatTerm) (t : FlatTerm) → all_symbols (l ++ t ∷ []) ≡ all_symbols l + symbols t
all_symbols-push [] t = omega arith
all_symbols-push (u ∷ l) t = let e = all_symbols-push l t in omega arith

pub all_symbols-take_more : (l : List FlatTerm) (i : ℕ) (t : FlatTerm) → i < length l → t ≡ get_or l i t → all_symbols (take (i + 1) l) ≡ all_symbols (take i l) + symbols t
all_symbols-take_more l i t within is = ap all_symbols (take_more l i t within) ∙ ap (λ u. all_symbols (take i l ++ u ∷ [])) (sym is) ∙ all_symbols-push (take i l) t

pub symbols_of_unjoined : (f : OpId) (l : List FlatTerm) → symbols (fapp f false (fpack l)) ≡ all_symbols l + 1
symbols_of_unjoined f l = symbols_unjoined f (fpack l) ∙ ap (λ m. all_symbols m + 1) (funpack-fpack l)

pub symbols_of_empty : (f : OpId) (l : List FlatTerm) → length l ≡ 0 → symbols (fapp f true (fpack l)) ≡ all_symbols l + 1
symbols_of_empty f [] e = refl
symbols_of_empty f (t ∷ l) e = absurd (omega arith)

pub symbols_of_joined : (f : OpId) (l : List FlatTerm) → 0 < length l → symbols (fapp f true (fpack l)) ≡ all_symbols l + (length l - 1)
symbols_of_joined f [] e = absurd (omega arith)
symbols_of_joined f (t ∷ l) e = symbols_joined f t (fpack l) ∙ ap (λ m. all_symbols (t ∷ m) + length m) (funpack-fpack l) ∙ omega arith

pub symbols_of_app : (f : OpId) (joined : Bool) (l : List FlatTerm) → symbols (fapp f joined (fpack l)) ≡ own joined (length l) + all_symbols l
symbols_of_app f false l = symbols_of_unjoined f l ∙ omega arith
symbols_of_app f true [] = refl
symbols_of_app f true (t ∷ l) = symbols_of_joined f (t ∷ l) (omega arith) ∙ grind arith
