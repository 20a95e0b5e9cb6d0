-- How many subterms a problem has.
use Rattle.std.proofs.Common.{◌≡◌, ◌+◌, ◌≤◌, Bool, true, false, not, List, [], ◌∷◌, ◌++◌, length, refl, ap, arith}
use Rattle.std.specs.Prelude.{cond}
use Rattle.std.specs.List.{filter}
use Rattle.std.proofs.lemmas.List.{length-append, length-map}
use Rattle.std.proofs.lemmas.List.Sums.{sum_by-cons}
use Rattle.fvn_terms.specs.declared.declarations.Declarations.{Declarations}
use Rattle.fvn_terms.specs.Term.{Term, Terms, var, app, none, more, nodes, nodes_all}
use Rattle.fvn_forms.specs.Flat.{FlatTerm, plain, symbols}
use Rattle.fvn_combine_nodes.specs.FlatProblems.{subterms, subterms_among, subterms_of, same_term, once, plain_pairs}
use Rattle.fvn_combine_nodes.specs.FlatSolving.{FlatPairs, symbols_of_pairs}
use Rattle.fvn_combine_nodes.specs.Table.{NodeTable, IsTableOf, term_at}

mutual
  length-subterms : (t : Term) → length (subterms t) ≡ nodes t
  length-subterms (var x) = refl
  length-subterms (app f ts) = let r = length-subterms_among ts in omega (arith, r)

  length-subterms_among : (ts : Terms) → length (subterms_among ts) ≡ nodes_all ts
  length-subterms_among none = refl
  length-subterms_among (more t ts) = let a = length-append (subterms t) (subterms_among ts) in let b = length-subterms t in let r = length-subterms_among ts in omega (arith, a, b, r)

length-filter_le : {A : Type 0} (p : A → Bool) (xs : List A) → length (filter p xs) ≤ length xs
length-filter_le p [] = omega arith
length-filter_le p (x ∷ xs) = go (p x) (length-filter_le p xs)
  where
    go : (b : Bool) → length (filter p xs) ≤ length xs → length (cond b (x ∷ filter p xs) (filter p xs)) ≤ length (x ∷ xs)
    go true r = omega (arith, r)
    go false r = omega (arith, r)

length-once_le : (ts : List Term) → length (once ts) ≤ length ts
length-once_le [] = omega arith
length-once_le (t ∷ ts) = let a = length-filter_le (λ u. not (same_term t u)) (once ts) in let r = length-once_le ts in omega (arith, a, r)

length-subterms_of : (pairs : FlatPairs) → length (subterms_of (plain_pairs pairs)) ≡ symbols_of_pairs pairs
length-subterms_of [] = refl
length-subterms_of (p ∷ pairs) =
    let a = length-append (subterms (plain p.0) ++ subterms (plain p.1)) (subterms_of (plain_pairs pairs)) in
    let b = length-append (subterms (plain p.0)) (subterms (plain p.1)) in
    let left = length-subterms (plain p.0) in
    let right = length-subterms (plain p.1) in
    let rest = length-subterms_of pairs in
    let whole = sum_by-cons (λ (p : FlatTerm × FlatTerm). symbols p.0 + symbols p.1) p pairs in
    omega (arith, a, b, left, right, rest, whole)

-- no subterm stands twice in a table
pub tables_small : (d : Declarations) (pairs : FlatPairs) (t : NodeTable) → IsTableOf d (plain_pairs pairs) t → length t.subterms ≤ symbols_of_pairs pairs
tables_small d pairs t table =
    let a = length-map t.subterms (term_at t.nodes) in
    let b = ap length table.subterms in
    let c = length-once_le (subterms_of (plain_pairs pairs)) in
    let e = length-subterms_of pairs in
    omega (arith, a, b, c, e)
