-- How the weight of goals falls.
use Rattle.std.proofs.Common.{◌≡◌, ℕ, ◌+◌, ◌≤◌, zero, suc, List, [], ◌∷◌, length, drop, get_or, Some, refl, ap, arith}
use Rattle.fvn_terms.specs.declared.plain.OpId.{OpId}
use Rattle.fvn_forms.specs.Flat.{FlatTerm, FlatTerms, fvar, fapp, fnone, fmore, funpack}
use Rattle.fvn_forms.specs.InOrder.{SameCounts}
use Rattle.fvn_flat.specs.Forms.{head_of, args_of}
use Rattle.fvn_match.specs.inner.Goals.{weight, weights, weight_of}
use Rattle.fvn_match.proofs.PatternOrder.{adds_same}

weight_of_funpack : (ts : FlatTerms) → weight_of (funpack ts) ≡ weights ts
weight_of_funpack fnone = refl
weight_of_funpack (fmore t ts) = ap (λ n. weight t + 2 + n) (weight_of_funpack ts)

-- arguments weigh one less than the form
pub weight_args : (p : FlatTerm) (f : OpId) → head_of p ≡ Some f → weight_of (args_of p) + 1 ≡ weight p
weight_args (fvar x) f e = cc
weight_args (fapp g joined ts) f e = ap (λ n. n + 1) (weight_of_funpack ts)

-- in another order they weigh the same
pub weight_of-same : (l m : List FlatTerm) → SameCounts l m → weight_of l ≡ weight_of m
weight_of-same l m same = adds_same weight_of (λ t. weight t + 2) (λ t l. refl) l m same

pub weight_of-first : (l : List FlatTerm) (t : FlatTerm) → 1 ≤ length l → t ≡ get_or l 0 t → weight t + 2 + weight_of (drop 1 l) ≡ weight_of l
weight_of-first [] t some e = absurd (omega arith)
weight_of-first (u ∷ l) t some e = ap (λ v. weight v + 2 + weight_of l) e

pub weight_of-drop : (k : ℕ) (l : List FlatTerm) → weight_of (drop k l) ≤ weight_of l
weight_of-drop zero l = omega arith
weight_of-drop (suc k) [] = omega arith
weight_of-drop (suc k) (t ∷ l) = let a = weight_of-drop k l in omega arith

-- a group and what is behind it
pub weight_of-group : (k : ℕ) (ps : List FlatTerm) (p : FlatTerm) (others : List FlatTerm) → 1 ≤ k → ps ≡ p ∷ others → weight p + 2 + weight_of (drop k ps) ≤ weight_of ps
weight_of-group zero ps p others some e = absurd (omega arith)
weight_of-group (suc k) [] p others some e = let n = ap length e in absurd (omega arith)
weight_of-group (suc k) (u ∷ ps) p others some e =
    let h : u ≡ p = cc in
    let a = ap weight h in
    let b = weight_of-drop k ps in
    omega arith
