-- Solutions that the bits of a number take.
use Rattle.std.proofs.Common.{◌≡◌, ℕ, suc, ◌+◌, ◌/◌, ◌%◌, ◌<◌, ◌≤◌, Bool, true, false, List, [], ◌∷◌, ◌++◌, length, get_or, drop, refl, sym, ap, ◌∙◌, append_assoc, arith, All}
use Rattle.std.specs.Prelude.{if◌then◌else◌, ◌==◌}
use Rattle.std.proofs.lemmas.Bool.{eq-eqb, ne_eqb}
use Rattle.std.proofs.lemmas.List.{append-nil, drop_all}
use Rattle.std.proofs.lemmas.List.Elements.{All-nil, All-cons}
use Rattle.std.proofs.Math.Numerals.{suc-eq-add-one}
use Rattle.std.proofs.Math.Seq.{drop-cons}
use Rattle.fvn_lindio.specs.Systems.{vectors_of}
use Rattle.fvn_lindio.specs.declared.system.Solution.{Solution}
use Rattle.fvn_acunify.specs.ValidChoice.{chosen}
use Rattle.fvn_combine_admissible.specs.inner.Reads.{taken_if}

pub not_taken : (b : ℕ) (v : List ℕ) → (b % 2 ≡ 1 → ⊥) → taken_if b v ≡ []
not_taken b v n = ap (λ c. if c then v ∷ [] else []) (ne_eqb (b % 2) 1 n)

pub is_taken : (b : ℕ) (v : List ℕ) → b % 2 ≡ 1 → taken_if b v ≡ v ∷ []
is_taken b v e = ap (λ c. if c then v ∷ [] else []) (eq-eqb (b % 2) 1 e)

chosen_first : (b : ℕ) (v : List ℕ) (vs : List (List ℕ)) → chosen b (v ∷ vs) ≡ taken_if b v ++ chosen (b / 2) vs
chosen_first b v vs = go (b % 2 == 1)
  where
    go : (c : Bool) → (if c then v ∷ chosen (b / 2) vs else chosen (b / 2) vs) ≡ (if c then v ∷ [] else []) ++ chosen (b / 2) vs
    go true = refl
    go false = refl

-- one more solution
pub taking_more : (old now whole : List (List ℕ)) (b : ℕ) (basis : List Solution) (i : ℕ) (v : Solution) → i < length basis → v ≡ get_or basis i v → now ≡ old ++ taken_if b v.parts
    → old ++ chosen b (vectors_of (drop i basis)) ≡ whole → now ++ chosen (b / 2) (vectors_of (drop (i + 1) basis)) ≡ whole
taking_more old now whole b basis i v l is pushed h =
    let rest = vectors_of (drop (i + 1) basis) in
    let first : drop i basis ≡ v ∷ drop (i + 1) basis = drop-cons basis i v l ∙ ap (λ n. get_or basis i v ∷ drop n basis) (suc-eq-add-one i) ∙ ap (λ w. w ∷ drop (i + 1) basis) (sym is) in
    ap (λ m. m ++ chosen (b / 2) rest) pushed
    ∙ append_assoc old (taken_if b v.parts) (chosen (b / 2) rest)
    ∙ ap (λ m. old ++ m) (sym (chosen_first b v.parts rest) ∙ ap (λ m. chosen b (vectors_of m)) (sym first))
    ∙ h

-- all of them
pub taking_all : (all whole : List (List ℕ)) (b : ℕ) (basis : List Solution) (i : ℕ) → length basis ≤ i → all ++ chosen b (vectors_of (drop i basis)) ≡ whole → all ≡ whole
taking_all all whole b basis i l h = sym (append-nil all) ∙ ap (λ m. all ++ chosen b (vectors_of m)) (sym (drop_all i basis l)) ∙ h

-- what all have, the solutions that are taken have
pub chosen_all : (P : List ℕ → Type 0) (b : ℕ) (basis : List (List ℕ)) → All P basis → All P (chosen b basis)
chosen_all P b [] all = All-nil P
chosen_all P b (v ∷ basis) all = go (b % 2 == 1) (chosen_all P (b / 2) basis (λ k d l. all (suc k) d (omega (arith, l))))
  where
    go : (c : Bool) → All P (chosen (b / 2) basis) → All P (if c then v ∷ chosen (b / 2) basis else chosen (b / 2) basis)
    go true rest = All-cons P v (chosen (b / 2) basis) (all 0 v (omega arith)) rest
    go false rest = rest
