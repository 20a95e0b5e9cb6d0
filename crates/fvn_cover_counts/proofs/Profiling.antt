-- What was noted of forms is their profile.
use Rattle.std.proofs.Common.{◌≡◌, ◌≢◌, ℕ, ◌+◌, ◌<◌, Bool, true, false, if◌then◌else◌, List, [], ◌∷◌, ◌++◌, length, take, get_or, replicate, sym, ap, ◌∙◌, arith}
use Rattle.std.specs.Prelude.{Contains}
use Rattle.std.specs.List.Sorted.{IsPermutation}
use Rattle.std.proofs.lemmas.List.{append-nil, append_assoc, map-append, replicate-append-replicate, length-map, length-take-le, take_more}
use Rattle.std.proofs.lemmas.List.Sorted.{Contains-permutation, IsPermutation-sym}
use Rattle.fvn_terms.specs.declared.declarations.Declarations.{Declarations}
use Rattle.fvn_forms.specs.Flat.{FlatTerm, plain}
use Rattle.fvn_forms.specs.Settled.{Settled}
use Rattle.fvn_flat.specs.Forms.{args_of}
use Rattle.fvn_cover_counts.specs.declared.symbols.Symbol.{Symbol}
use Rattle.fvn_cover_counts.specs.declared.rows.Row.{Row}
use Rattle.fvn_cover_counts.specs.Weights.{of_symbol, times, same_symbol}
use Rattle.fvn_cover_counts.specs.Places.{column, places_from, places}
use Rattle.fvn_cover_counts.specs.inner.Heads.{symbol_of, further}
use Rattle.fvn_cover_counts.specs.inner.Rows.{places_at, Notes}
use Rattle.fvn_cover_counts.proofs.Arguments.{weight_in, weight_in-take_more, times_are}
use Rattle.fvn_cover_counts.proofs.Noting.{for_one, notes_then, notes_same, distinct_each, at_every}

-- copies for one symbol, and copies for its arguments
own_copies : (b : Bool) (m n i : ℕ) → (if b then replicate m i else []) ++ replicate n i ≡ replicate ((if b then m else 0) + n) i
own_copies true m n i = replicate-append-replicate m n i
own_copies false m n i = ap (λ k. replicate k i) (let e : n ≡ 0 + n = omega arith in e)

module _ (d : Declarations) (t : FlatTerm) (i : ℕ) where
  -- a form is noted with its top and its arguments
  pub notes_form : (a b c : List Row) → Settled d t → Notes a (for_one (symbol_of t) (replicate (further t + 1) i)) b → Notes b (λ s. replicate (weight_in (of_symbol s) (args_of t)) i) c → Notes a (λ s. replicate (times s (plain t)) i) c
  notes_form a b c settled h k =
      notes_same a c (λ s. for_one (symbol_of t) (replicate (further t + 1) i) s ++ replicate (weight_in (of_symbol s) (args_of t)) i) (λ s. replicate (times s (plain t)) i)
      (λ s. own_copies (same_symbol (symbol_of t) s) (further t + 1) (weight_in (of_symbol s) (args_of t)) i ∙ ap (λ n. replicate n i) (sym (times_are d s t settled)))
      (notes_then a b c (for_one (symbol_of t) (replicate (further t + 1) i)) (λ s. replicate (weight_in (of_symbol s) (args_of t)) i) h k)

-- one more argument
pub notes_argument : (a b c : List Row) (us : List FlatTerm) (k : ℕ) (u : FlatTerm) (i : ℕ) → k < length us → u ≡ get_or us k u → Notes a (λ s. replicate (weight_in (of_symbol s) (take k us)) i) b → Notes b (λ s. replicate (times s (plain u)) i) c → Notes a (λ s. replicate (weight_in (of_symbol s) (take (k + 1) us)) i) c
notes_argument a b c us k u i within is g h =
    notes_same a c (λ s. replicate (weight_in (of_symbol s) (take k us)) i ++ replicate (times s (plain u)) i) (λ s. replicate (weight_in (of_symbol s) (take (k + 1) us)) i)
    (λ s. replicate-append-replicate (weight_in (of_symbol s) (take k us)) (times s (plain u)) i ∙ ap (λ n. replicate n i) (sym (weight_in-take_more (of_symbol s) us k u within is)))
    (notes_then a b c (λ s. replicate (weight_in (of_symbol s) (take k us)) i) (λ s. replicate (times s (plain u)) i) g h)

-- places of counts one after another
places_append : (i : ℕ) (ms ns : List ℕ) → places_from i (ms ++ ns) ≡ places_from i ms ++ places_from (i + length ms) ns
places_append i [] ns = ap (λ k. places_from k ns) (let e : i ≡ i + 0 = omega arith in e)
places_append i (m ∷ ms) ns =
    let e : places_from (i + 1 + length ms) ns ≡ places_from (i + length (m ∷ ms)) ns = ap (λ n. places_from n ns) (omega arith) in
    ap (λ l. replicate m i ++ l) (places_append (i + 1) ms ns ∙ ap (λ l. places_from (i + 1) ms ++ l) e) ∙ sym (append_assoc (replicate m i) (places_from (i + 1) ms) (places_from (i + length (m ∷ ms)) ns))

length_column : (s : Symbol) (ts : List FlatTerm) → length (column s ts) ≡ length ts
length_column s ts = length-map ts (λ t. times s (plain t))

pub places_both : (s : Symbol) (i : ℕ) (ts us : List FlatTerm) → places_from i (column s ts) ++ places_from (i + length ts) (column s us) ≡ places_from i (column s (ts ++ us))
places_both s i ts us =
    ap (λ n. places_from i (column s ts) ++ places_from (i + n) (column s us)) (sym (length_column s ts))
    ∙ sym (places_append i (column s ts) (column s us))
    ∙ ap (places_from i) (sym (map-append (λ t. times s (plain t)) ts us))

-- one more form
pub notes_one : (a b c : List Row) (ts : List FlatTerm) (k : ℕ) (t : FlatTerm) (i : ℕ) → k < length ts → t ≡ get_or ts k t → Notes a (λ s. places_from i (column s (take k ts))) b → Notes b (λ s. replicate (times s (plain t)) (i + k)) c → Notes a (λ s. places_from i (column s (take (k + 1) ts))) c
notes_one a b c ts k t i within is g h =
    notes_same a c (λ s. places_from i (column s (take k ts)) ++ replicate (times s (plain t)) (i + k)) (λ s. places_from i (column s (take (k + 1) ts)))
    (λ s.
    let long : length (take k ts) ≡ k = length-take-le k ts (omega (arith, within)) in
    let e = places_both s i (take k ts) (t ∷ []) in
    ap (λ l. places_from i (column s (take k ts)) ++ l) (sym (append-nil (replicate (times s (plain t)) (i + k))) ∙ ap (λ n. replicate (times s (plain t)) (i + n) ++ []) (sym long)) ∙ e ∙ ap (λ l. places_from i (column s l)) (sym (take_more ts k t within ∙ ap (λ u. take k ts ++ u ∷ []) (sym is))))
    (notes_then a b c (λ s. places_from i (column s (take k ts))) (λ s. replicate (times s (plain t)) (i + k)) g h)

module _ (ts us : List FlatTerm) (some rows sorted : List Row) (g : Notes [] (λ s. places_from 0 (column s ts)) some) (h : Notes some (λ s. places_from (length ts) (column s us)) rows) (p : IsPermutation rows sorted) where
  noted_places : (s : Symbol) → places_at s rows ≡ places s (ts ++ us)
  noted_places s =
      let from : length ts ≡ 0 + length ts = omega arith in
      h.at s
      ∙ ap (λ l. l ++ places_from (length ts) (column s us)) (g.at s)
      ∙ ap (λ n. places_from 0 (column s ts) ++ places_from n (column s us)) from
      ∙ places_both s 0 ts us

  pub profile_each : (r : Row) → Contains sorted r → (r.places ≡ places r.symbol (ts ++ us)) × (r.places ≢ [])
  profile_each r m =
      let k = distinct_each rows (h.distinct (g.distinct tt)) r (Contains-permutation sorted rows r (IsPermutation-sym rows sorted p) m) in
      (k.0 ∙ noted_places r.symbol, k.1)

  pub profile_every : (s : Symbol) → places s (ts ++ us) ≢ [] → (r : Row) × Contains sorted r × (r.symbol ≡ s)
  profile_every s n = let k = at_every rows s (λ e. n (sym (noted_places s) ∙ e)) in (k.0, Contains-permutation rows sorted k.0 p k.1, k.2)
