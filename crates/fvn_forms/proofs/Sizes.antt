-- The symbols of sums.
use Rattle.std.proofs.Common.{◌≡◌, ℕ, ◌+◌, ◌≤◌, ◌<◌, Bool, true, false, List, [], ◌∷◌, length, refl, sym, ap, ◌∙◌, arith}
use Rattle.std.specs.Prelude.{if◌then◌else◌}
use Rattle.std.specs.List.{AllByRecursion}
use Rattle.std.specs.Ordering.{is_gt}
use Rattle.fvn_terms.specs.declared.plain.OpId.{OpId}
use Rattle.fvn_terms.specs.declared.declarations.Declarations.{Declarations}
use Rattle.fvn_terms.specs.Term.{Term, var, app, nodes, nodes_all}
use Rattle.fvn_terms.specs.Signature.{axioms}
use Rattle.fvn_forms.specs.Flat.{FlatTerm, FlatTerms, fvar, fapp, fnone, fmore, fpack, funpack, fconstant, nest, plain, plain_all, symbols}
use Rattle.fvn_forms.specs.Order.{flat_cmp}
use Rattle.fvn_forms.specs.InOrder.{insert, sort}
use Rattle.fvn_forms.specs.Canon.{same_op, is_identity, parts, joined, sum}
use Rattle.fvn_terms.specs.Equality.{identity}
use Rattle.fvn_forms.proofs.InOrder.{length_sort}
use Rattle.fvn_forms.proofs.Sums.{funpack-fpack}
use Rattle.fvn_forms.proofs.Nests.{insert_some}

-- the symbols of all
abbrev pub all_symbols : List FlatTerm → ℕ
all_symbols [] = 0
all_symbols (t ∷ l) = symbols t + all_symbols l

pub some_nodes : (t : Term) → 1 ≤ nodes t
some_nodes (var x) = omega arith
some_nodes (app f ts) = omega arith

all_symbols-insert : (t : FlatTerm) (l : List FlatTerm) → all_symbols (insert t l) ≡ symbols t + all_symbols l
all_symbols-insert t [] = refl
all_symbols-insert t (u ∷ l) = go (is_gt (flat_cmp t u)) refl (all_symbols-insert t l)
  where
    go : (a : Bool) → is_gt (flat_cmp t u) ≡ a → all_symbols (insert t l) ≡ symbols t + all_symbols l → all_symbols (insert t (u ∷ l)) ≡ symbols t + (symbols u + all_symbols l)
    go true p ih = rw p (omega arith)
    go false p ih = rw p refl

pub all_symbols-sort : (l : List FlatTerm) → all_symbols (sort l) ≡ all_symbols l
all_symbols-sort [] = refl
all_symbols-sort (t ∷ l) = all_symbols-insert t (sort l) ∙ ap (λ n. symbols t + n) (all_symbols-sort l)

-- the nodes of a nested sum: those of its members, and one for each but the first
symbols_nest : (f : OpId) (t : FlatTerm) (ts : FlatTerms) → nodes (nest f (plain t) (plain_all ts)) ≡ all_symbols (t ∷ funpack ts) + length (funpack ts)
symbols_nest f t fnone = omega arith
symbols_nest f t (fmore u us) = let e = symbols_nest f u us in omega arith

pub symbols_all : (ts : FlatTerms) → nodes_all (plain_all ts) ≡ all_symbols (funpack ts)
symbols_all fnone = refl
symbols_all (fmore t ts) = ap (λ n. symbols t + n) (symbols_all ts)

-- an operator that joins nothing has one symbol
pub symbols_unjoined : (f : OpId) (ts : FlatTerms) → symbols (fapp f false ts) ≡ all_symbols (funpack ts) + 1
symbols_unjoined f ts = ap (λ n. n + 1) (symbols_all ts)

pub symbols_joined : (f : OpId) (t : FlatTerm) (ts : FlatTerms) → symbols (fapp f true (fmore t ts)) ≡ all_symbols (t ∷ funpack ts) + length (funpack ts)
symbols_joined f t ts = symbols_nest f t ts

module _ (d : Declarations) (f : OpId) where
  symbols_of_joined : (t : FlatTerm) (l : List FlatTerm) → symbols (joined d f (t ∷ l)) ≡ all_symbols (t ∷ l) + length l
  symbols_of_joined t [] = omega arith
  symbols_of_joined t (u ∷ us) = symbols_nest f t (fpack (u ∷ us)) ∙ ap (λ m. all_symbols (t ∷ u ∷ m) + length (u ∷ m)) (funpack-fpack us)

  -- the symbols of a sum of some summands
  pub symbols_sum : (t : FlatTerm) (l : List FlatTerm) → symbols (sum d f (t ∷ l)) ≡ all_symbols (t ∷ l) + length l
  symbols_sum t l = go (sort (t ∷ l)) refl
    where
      go : (m : List FlatTerm) → sort (t ∷ l) ≡ m → symbols (joined d f (sort (t ∷ l))) ≡ all_symbols (t ∷ l) + length l
      go [] e = absurd (insert_some t (sort l) e)
      go (u ∷ m) e =
          let a : symbols (joined d f (sort (t ∷ l))) ≡ all_symbols (u ∷ m) + length m = ap (λ n. symbols (joined d f n)) e ∙ symbols_of_joined u m in
          let b : all_symbols (t ∷ l) ≡ all_symbols (u ∷ m) = sym (all_symbols-sort (t ∷ l)) ∙ ap all_symbols e in
          let c : length (t ∷ l) ≡ length (u ∷ m) = sym (length_sort (t ∷ l)) ∙ ap length e in
          omega arith

  each_within : (l : List FlatTerm) (n : ℕ) → all_symbols l < n → AllByRecursion (λ q. symbols q < n) l
  each_within [] n h = tt
  each_within (t ∷ l) n h = (omega arith, each_within l n (omega arith))

  -- of two or more summands each has fewer symbols than the form
  pub piece_smaller : (t : FlatTerm) → 2 ≤ length (parts d f t) → AllByRecursion (λ q. symbols q < symbols t) (parts d f t)
  piece_smaller (fvar x) h = absurd (omega arith)
  piece_smaller (fapp g true fnone) h = go (same_op f g) refl
    where
      go : (b : Bool) → same_op f g ≡ b → AllByRecursion (λ q. symbols q < symbols (fapp g true fnone)) (parts d f (fapp g true fnone))
      go true e = rw e tt
      go false e = let k : 2 ≤ 1 = rw e at h in absurd (omega arith)
  piece_smaller (fapp g true (fmore t ts)) h = go (same_op f g) refl
    where
      go : (b : Bool) → same_op f g ≡ b → AllByRecursion (λ q. symbols q < symbols (fapp g true (fmore t ts))) (parts d f (fapp g true (fmore t ts)))
      go true e =
          let k : 2 ≤ length (t ∷ funpack ts) = rw e at h in
          let n = symbols_nest g t ts in
          rw e (each_within (t ∷ funpack ts) (symbols (fapp g true (fmore t ts))) (omega arith))
      go false e = let k : 2 ≤ 1 = rw e at h in absurd (omega arith)
  piece_smaller (fapp g false fnone) h = go (is_identity (identity (axioms d f)) g) h
    where
      go : (b : Bool) → 2 ≤ length (if b then [] else fconstant g ∷ []) → AllByRecursion (λ q. symbols q < symbols (fconstant g)) (parts d f (fconstant g))
      go true k = absurd (omega arith)
      go false k = absurd (omega arith)
  piece_smaller (fapp g false (fmore t ts)) h = absurd (omega arith)
