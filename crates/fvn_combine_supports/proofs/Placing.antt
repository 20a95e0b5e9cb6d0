-- Pieces for counts that solve a system.
use Rattle.std.proofs.Common.{◌≡◌, ℕ, zero, suc, false, List, [], ◌∷◌, ◌++◌, length, map, replicate, refl, sym, ap, ◌∙◌, subst, inl, inr, arith, Contains}
use Rattle.std.specs.Prelude.{ℤ}
use Rattle.std.proofs.lemmas.Bool.{false_from_ne_true}
use Rattle.std.proofs.lemmas.List.Elements.{All-weaker, All-contains_itself}
use Rattle.fvn_base.proofs.Decided.{some_or_none}
use Rattle.fvn_base.proofs.Membership.{contains_here, contains_later, contains_cases, contains_none}
use Rattle.fvn_forms.specs.Flat.{FlatTerm}
use Rattle.fvn_forms.specs.Order.{same_flat}
use Rattle.fvn_forms.specs.InOrder.{one_if, count}
use Rattle.fvn_forms.proofs.Order.{same_flat_is, same_flat_itself, flat_equal_decided}
use Rattle.fvn_forms.proofs.InOrder.{count_append}
use Rattle.fvn_lindio.specs.Vectors.{IsAtOrBelow}
use Rattle.fvn_lindio.specs.Systems.{Solves, IsMinimal}
use Rattle.fvn_lindio.specs.Laws.{combination, MinimalBelow}
use Rattle.fvn_combine_supports.specs.Pieces.{AreMadeUp}
use Rattle.fvn_combine_supports.proofs.Combining.{Sized, combination-nothing}
use Rattle.fvn_combine_supports.proofs.Summing.{sum_of_listed}

same_false : (q t : FlatTerm) → (t ≡ q → ⊥) → same_flat q t ≡ false
same_false q t n = false_from_ne_true (same_flat q t) (λ e. n (sym (same_flat_is q t e)))

count_replicate_other : (q t : FlatTerm) (n : ℕ) → (t ≡ q → ⊥) → count q (replicate n t) ≡ 0
count_replicate_other q t zero n = refl
count_replicate_other q t (suc m) n = let a = ap one_if (same_false q t n) in let b = count_replicate_other q t m n in omega (arith, a, b)

count_replicate_same : (t : FlatTerm) (n : ℕ) → count t (replicate n t) ≡ n
count_replicate_same t zero = refl
count_replicate_same t (suc n) = let a = ap one_if (same_flat_itself t) in let b = count_replicate_same t n in omega (arith, a, b)

-- t put before each list, so many times
abbrev placed : FlatTerm → List ℕ → List (List FlatTerm) → List (List FlatTerm)
placed t [] pieces = pieces
placed t (n ∷ times) [] = []
placed t (n ∷ times) (z ∷ pieces) = (replicate n t ++ z) ∷ placed t times pieces

length-placed : (t : FlatTerm) (times : List ℕ) (pieces : List (List FlatTerm)) → length (placed t times pieces) ≡ length pieces
length-placed t [] pieces = refl
length-placed t (n ∷ times) [] = refl
length-placed t (n ∷ times) (z ∷ pieces) = ap suc (length-placed t times pieces)

count-placed_other : (q t : FlatTerm) → (t ≡ q → ⊥) → (times : List ℕ) (pieces : List (List FlatTerm)) → map (count q) (placed t times pieces) ≡ map (count q) pieces
count-placed_other q t o [] pieces = refl
count-placed_other q t o (n ∷ times) [] = refl
count-placed_other q t o (n ∷ times) (z ∷ pieces) =
    let a = count_append q (replicate n t) z in
    let b = count_replicate_other q t n o in
    let first : count q (replicate n t ++ z) ≡ count q z = omega (arith, a, b) in
    ap (λ k. k ∷ map (count q) (placed t times pieces)) first ∙ ap (λ l. count q z ∷ l) (count-placed_other q t o times pieces)

count-placed_same : (t : FlatTerm) (times : List ℕ) (pieces : List (List FlatTerm)) → length times ≡ length pieces → map (count t) pieces ≡ replicate (length pieces) 0 → map (count t) (placed t times pieces) ≡ times
count-placed_same t [] [] e h = refl
count-placed_same t [] (z ∷ pieces) e h = absurd (omega (arith, e))
count-placed_same t (n ∷ times) [] e h = absurd (omega (arith, e))
count-placed_same t (n ∷ times) (z ∷ pieces) e h =
    let none : count t z ≡ 0 = cc in
    let rest : map (count t) pieces ≡ replicate (length pieces) 0 = cc in
    let a = count_append t (replicate n t) z in
    let b = count_replicate_same t n in
    let first : count t (replicate n t ++ z) ≡ n = omega (arith, a, b, none) in
    ap (λ k. k ∷ map (count t) (placed t times pieces)) first ∙ ap (λ l. n ∷ l) (count-placed_same t times pieces (omega (arith, e)) rest)

nothing_counted : (q : FlatTerm) (n : ℕ) → map (count q) (replicate n []) ≡ replicate n 0
nothing_counted q zero = refl
nothing_counted q (suc n) = ap (λ l. 0 ∷ l) (nothing_counted q n)

length_nothing : (n : ℕ) → length {A = List FlatTerm} (replicate n []) ≡ n
length_nothing zero = refl
length_nothing (suc n) = ap suc (length_nothing n)

module _ (law : MinimalBelow) (columns : ℕ) (rows : List (List ℤ)) (basis : List (List ℕ)) (minimal : (v : List ℕ) → Contains basis v → IsMinimal columns rows v) (counted : FlatTerm → List ℕ) (solves : (q : FlatTerm) → Solves columns rows (counted q))
    (among : (q : FlatTerm) (v : List ℕ) → IsMinimal columns rows v → IsAtOrBelow v (counted q) → Contains basis v) where
  -- pieces for the listed flat forms, and for no others
  record PiecesFor (listed : List FlatTerm) : Type 0 where
    pieces : List (List FlatTerm)
    as_many : length pieces ≡ length basis
    inside : (q : FlatTerm) → Contains listed q → combination columns (map (count q) pieces) basis ≡ counted q
    outside : (q : FlatTerm) → (Contains listed q → ⊥) → map (count q) pieces ≡ replicate (length basis) 0

  pieces_for : (listed : List FlatTerm) → PiecesFor listed
  pieces_for [] = record {
    pieces = replicate (length basis) [];
    as_many = length_nothing (length basis);
    inside = λ q c. absurd (contains_none q c);
    outside = λ q n. nothing_counted q (length basis);
  }
  pieces_for (t ∷ listed) =
      let r = pieces_for listed in
      elim (some_or_none (λ u. u ≡ t) (λ u. flat_equal_decided u t) listed) [
        | inl there ↦ again t listed r (subst (Contains listed) there.1.1 there.1.0)
        | inr not_there ↦ more t listed r (λ c. not_there t c refl)
      ]
    where
      again : (t : FlatTerm) (listed : List FlatTerm) → PiecesFor listed → Contains listed t → PiecesFor (t ∷ listed)
      again t listed r c = record {
        pieces = r.pieces;
        as_many = r.as_many;
        inside = λ q i. elim (contains_cases t listed q i) [ inl e ↦ r.inside q (subst (Contains listed) e c) | inr o ↦ r.inside q o ];
        outside = λ q n. r.outside q (λ o. n (contains_later t listed q o));
      }

      more : (t : FlatTerm) (listed : List FlatTerm) → PiecesFor listed → (Contains listed t → ⊥) → PiecesFor (t ∷ listed)
      more t listed r new =
          let s = sum_of_listed law columns rows basis minimal (counted t) (solves t) (among t) in
          let times = s.0 in
          let as_long : length times ≡ length r.pieces = s.1 ∙ sym r.as_many in
          let none : map (count t) r.pieces ≡ replicate (length r.pieces) 0 = r.outside t new ∙ ap (λ n. replicate n 0) (sym r.as_many) in
          record {
            pieces = placed t times r.pieces;
            as_many = length-placed t times r.pieces ∙ r.as_many;
            inside = λ q i. elim (flat_equal_decided t q) [
              | inl e ↦ subst (λ u. combination columns (map (count u) (placed t times r.pieces)) basis ≡ counted u) e (ap (λ l. combination columns l basis) (count-placed_same t times r.pieces as_long none) ∙ s.2)
              | inr o ↦ ap (λ l. combination columns l basis) (count-placed_other q t o times r.pieces) ∙ (elim (contains_cases t listed q i) [ inl e ↦ absurd (o e) | inr c ↦ r.inside q c ])
            ];
            outside = λ q n. count-placed_other q t (λ e. n (subst (Contains (t ∷ listed)) e (contains_here t listed))) times r.pieces ∙ r.outside q (λ c. n (contains_later t listed q c));
          }

  sized : Sized columns basis
  sized = All-weaker (Contains basis) (λ v. length v ≡ columns) (λ v c. (minimal v c).solves.sized) basis (All-contains_itself basis)

  pub made_up : (listed : List FlatTerm) → ((q : FlatTerm) → (Contains listed q → ⊥) → counted q ≡ replicate columns 0) → (pieces : List (List FlatTerm)) × AreMadeUp columns basis counted pieces
  made_up listed nothing =
      let r = pieces_for listed in (
        r.pieces,
        record {
          as_many = r.as_many;
          made_up = λ q. elim (some_or_none (λ u. u ≡ q) (λ u. flat_equal_decided u q) listed) [
            | inl there ↦ r.inside q (subst (Contains listed) there.1.1 there.1.0)
            | inr not_there ↦
                let out : Contains listed q → ⊥ = λ c. not_there q c refl in
                ap (λ l. combination columns l basis) (r.outside q out) ∙ combination-nothing columns (length basis) basis sized ∙ sym (nothing q out)
          ];
        },
      )
