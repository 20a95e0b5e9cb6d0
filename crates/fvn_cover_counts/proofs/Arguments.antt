-- How often a symbol stands in a flat form, from its arguments.
use Rattle.std.proofs.Common.{◌≡◌, ℕ, suc, ◌+◌, ◌*◌, ◌-◌, ◌<◌, ◌≤◌, Bool, true, false, if◌then◌else◌, List, [], ◌∷◌, ◌++◌, length, take, get_or, refl, sym, ap, ◌∙◌, subst, arith}
use Rattle.std.proofs.lemmas.List.{take_more}
use Rattle.fvn_terms.specs.declared.plain.OpId.{OpId}
use Rattle.fvn_terms.specs.declared.declarations.Declarations.{Declarations}
use Rattle.fvn_forms.specs.Flat.{FlatTerm, FlatTerms, fvar, fapp, fnone, fmore, fpack, funpack, nest, plain, plain_all}
use Rattle.std.specs.List.{AllByRecursion}
use Rattle.fvn_forms.specs.Settled.{Settled}
use Rattle.fvn_forms.proofs.Sums.{fpack-funpack, SettledAll-funpack}
use Rattle.fvn_flat.specs.Forms.{args_of}
use Rattle.fvn_cover_counts.specs.declared.symbols.Symbol.{Symbol}
use Rattle.fvn_cover_counts.specs.declared.symbols.Symbol.TheVariants.{Variable, Operator}
use Rattle.fvn_cover_counts.specs.Weights.{Weights, weight, weight_all, one_if, of_symbol, times, same_symbol}
use Rattle.fvn_cover_counts.specs.inner.Heads.{symbol_of, further}
use Rattle.fvn_cover_counts.proofs.SameSymbols.{same_symbol_sym}

module _ (w : Weights) where
  -- a sum of one more term has one more operator
  nested_weight : (f : OpId) (t : FlatTerm) (ts : FlatTerms) → weight w (nest f (plain t) (plain_all ts)) ≡ length (funpack ts) * w.operator f + weight_all w (plain_all (fmore t ts))
  nested_weight f t fnone = omega arith
  nested_weight f t (fmore u us) = let k = nested_weight f u us in omega arith

  -- what the forms weigh
  abbrev pub weight_in : List FlatTerm → ℕ
  weight_in l = weight_all w (plain_all (fpack l))

  weight_in-push : (l : List FlatTerm) (t : FlatTerm) → weight_in (l ++ t ∷ []) ≡ weight_in l + weight w (plain t)
  weight_in-push [] t = omega arith
  weight_in-push (u ∷ l) t = let e = weight_in-push l t in omega arith

  pub weight_in-take_more : (l : List FlatTerm) (i : ℕ) (t : FlatTerm) → i < length l → t ≡ get_or l i t → weight_in (take (i + 1) l) ≡ weight_in (take i l) + weight w (plain t)
  weight_in-take_more l i t within is = ap weight_in (take_more l i t within) ∙ ap (λ u. weight_in (take i l ++ u ∷ [])) (sym is) ∙ weight_in-push (take i l) t

-- how often the symbol stands at the top of the form
abbrev pub own_times : Symbol → FlatTerm → ℕ
own_times s t = if same_symbol (symbol_of t) s then further t + 1 else 0

-- n times one or nothing
alone : (b c : Bool) (n : ℕ) → b ≡ c → n ≡ 0 → one_if b ≡ if c then n + 1 else 0
alone b c n e z = subst (λ x. one_if b ≡ if x then n + 1 else 0) e (go b)
  where
    go : (t : Bool) → one_if t ≡ if t then n + 1 else 0
    go true = omega (arith, z)
    go false = refl

over_sum : (b c : Bool) (n : ℕ) → b ≡ c → 1 ≤ n → n * one_if b ≡ if c then (suc n - 2) + 1 else 0
over_sum b c n e h = subst (λ x. n * one_if b ≡ if x then (suc n - 2) + 1 else 0) e (go b)
  where
    go : (t : Bool) → n * one_if t ≡ if t then (suc n - 2) + 1 else 0
    go true = omega (arith, h)
    go false = omega arith

module _ (d : Declarations) (s : Symbol) where
  abbrev of_args : FlatTerm → ℕ
  of_args t = weight_in (of_symbol s) (args_of t)

  same_operator : (f : OpId) → same_symbol s (Operator f) ≡ same_symbol (Operator f) s
  same_operator f = same_symbol_sym s (Operator f)

  arguments_are : (f : OpId) (joined : Bool) (t : FlatTerm) (ts : FlatTerms) → of_args (fapp f joined (fmore t ts)) ≡ weight_all (of_symbol s) (plain_all (fmore t ts))
  arguments_are f joined t ts = ap (λ us. weight_all (of_symbol s) (plain_all us)) (fpack-funpack (fmore t ts))

  pub times_are : (t : FlatTerm) → Settled d t → times s (plain t) ≡ own_times s t + of_args t
  times_are (fvar x) h =
      let own : times s (plain (fvar x)) ≡ own_times s (fvar x) = alone (same_symbol s (Variable x)) (same_symbol (Variable x) s) 0 (same_symbol_sym s (Variable x)) refl in
      let none : of_args (fvar x) ≡ 0 = refl in
      omega (arith, own, none)
  times_are (fapp f true fnone) h =
      let own : times s (plain (fapp f true fnone)) ≡ own_times s (fapp f true fnone) = alone (same_symbol s (Operator f)) (same_symbol (Operator f) s) (0 - 2) (same_operator f) (omega arith) in
      let none : of_args (fapp f true fnone) ≡ 0 = refl in
      omega (arith, own, none)
  times_are (fapp f false fnone) h =
      let own : times s (plain (fapp f false fnone)) ≡ own_times s (fapp f false fnone) = alone (same_symbol s (Operator f)) (same_symbol (Operator f) s) 0 (same_operator f) refl in
      let none : of_args (fapp f false fnone) ≡ 0 = refl in
      omega (arith, own, none)
  times_are (fapp f false (fmore t ts)) h =
      let whole : times s (plain (fapp f false (fmore t ts))) ≡ one_if (same_symbol s (Operator f)) + weight_all (of_symbol s) (plain_all (fmore t ts)) = refl in
      let own : one_if (same_symbol s (Operator f)) ≡ own_times s (fapp f false (fmore t ts)) = alone (same_symbol s (Operator f)) (same_symbol (Operator f) s) 0 (same_operator f) refl in
      let args = arguments_are f false t ts in
      omega (arith, whole, own, args)
  times_are (fapp f true (fmore t ts)) h =
      let many = h.0.two_or_more in
      let whole : times s (plain (fapp f true (fmore t ts))) ≡ length (funpack ts) * one_if (same_symbol s (Operator f)) + weight_all (of_symbol s) (plain_all (fmore t ts)) = nested_weight (of_symbol s) f t ts in
      let own : length (funpack ts) * one_if (same_symbol s (Operator f)) ≡ own_times s (fapp f true (fmore t ts)) = over_sum (same_symbol s (Operator f)) (same_symbol (Operator f) s) (length (funpack ts)) (same_operator f) (omega (arith, many)) in
      let args = arguments_are f true t ts in
      omega (arith, whole, own, args)

-- the arguments of a settled form are settled
pub args_settled : (d : Declarations) (t : FlatTerm) → Settled d t → AllByRecursion (Settled d) (args_of t)
args_settled d (fvar x) h = tt
args_settled d (fapp f joined ts) h = SettledAll-funpack d ts h.1
