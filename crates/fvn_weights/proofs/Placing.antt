-- Where a variable stands in a list, and its number.
use Rattle.std.proofs.Common.{◌≡◌, ◌<◌, ◌+◌, ◌*◌, ℕ, zero, suc, Bool, true, false, List, [], ◌∷◌, ◌++◌, set, Option, Some, None, length, refl, sym, ap, ◌∙◌, arith}
use mathlib.Core.Bool.{beq}
use Rattle.fvn_base.proofs.Options.{Some-injective}
use Rattle.std.specs.Prelude.{◌&&◌, drop, get_or, option_map, if◌then◌else◌}
use Rattle.fvn_terms.specs.declared.plain.Var.{Var}
use Rattle.fvn_terms.specs.Substitution.{same_var, same_truth}
use Rattle.fvn_terms.proofs.Variables.{same_var_is, same_var_itself}
use Rattle.fvn_weights.specs.Values.{one_at}
use Rattle.fvn_weights.specs.inner.Numbers.{place, found, capped, IsMore}
use Rattle.fvn_weights.proofs.Capping.{capped_twice}
use Rattle.fvn_weights.proofs.Firsts.{first_within, first_passes}

same_truths : (c d : Bool) → beq c d ≡ same_truth c d
same_truths true true = refl
same_truths true false = refl
same_truths false true = refl
same_truths false false = refl

-- the test of three fields, grouped in either way
pub grouped : (a b c d : Bool) → (a && (b && beq c d)) ≡ ((a && b) && same_truth c d)
grouped true true c d = same_truths c d
grouped true false c d = refl
grouped false b c d = refl

module _ (x : Var) where
  -- the next pair decides, or what follows it
  pub next_place : (ps : List (Var × ℕ)) (i : ℕ) (d : Var × ℕ) → i < length ps →
      place (drop i ps) x ≡ (if same_var (get_or ps i d).0 x then Some 0 else option_map suc (place (drop (suc i) ps) x))
  next_place [] i d h = elim h [ ]
  next_place (p ∷ ps) zero d h = refl
  next_place (p ∷ ps) (suc i) d h = next_place ps i d (omega arith)

  -- counted on from a place
  further : (i : ℕ) (o : Option ℕ) → option_map (λ n. i + n) (option_map suc o) ≡ option_map (λ n. (i + 1) + n) o
  further i None = refl
  further i (Some n) = ap Some (omega arith)

  pub found_here : (ps : List (Var × ℕ)) (i : ℕ) (d : Var × ℕ) → i < length ps → same_var (get_or ps i d).0 x ≡ true →
      place ps x ≡ option_map (λ n. i + n) (place (drop i ps) x) → place ps x ≡ Some i
  found_here ps i d h e is =
      is ∙ ap (option_map (λ n. i + n)) (next_place ps i d h ∙ ap (λ b. if b then Some 0 else option_map suc (place (drop (suc i) ps) x)) e) ∙ ap Some (omega arith)

  pub passed_on : (ps : List (Var × ℕ)) (i : ℕ) (d : Var × ℕ) → i < length ps → same_var (get_or ps i d).0 x ≡ false →
      place ps x ≡ option_map (λ n. i + n) (place (drop i ps) x) → place ps x ≡ option_map (λ n. (i + 1) + n) (place (drop (i + 1) ps) x)
  passed_on ps i d h e is =
      let on : suc i ≡ i + 1 = omega arith in
      is ∙ ap (option_map (λ n. i + n)) (next_place ps i d h ∙ ap (λ b. if b then Some 0 else option_map suc (place (drop (suc i) ps) x)) e)
      ∙ further i (place (drop (suc i) ps) x) ∙ ap (λ k. option_map (λ n. (i + 1) + n) (place (drop k ps) x)) on

  -- what is placed stands there
  pub placed_within : (ps : List (Var × ℕ)) (i : ℕ) → place ps x ≡ Some i → i < length ps
  placed_within ps i e = first_within (λ y. same_var y x) ps i e

  pub placed_variable : (ps : List (Var × ℕ)) (i : ℕ) (d : Var × ℕ) → place ps x ≡ Some i → (get_or ps i d).0 ≡ x
  placed_variable ps i d e = same_var_is (get_or ps i d).0 x (first_passes (λ y. same_var y x) ps i d e)

  -- its number is the one that is found
  pub placed_number : (ps : List (Var × ℕ)) (i : ℕ) (d : Var × ℕ) → place ps x ≡ Some i → found ps x ≡ (get_or ps i d).1
  placed_number [] i d e = cc
  placed_number (p ∷ ps) i d e = go (same_var p.0 x) e (placed_number ps) where
    go : (b : Bool) → (if b then Some 0 else option_map suc (place ps x)) ≡ Some i → ((j : ℕ) (d : Var × ℕ) → place ps x ≡ Some j → found ps x ≡ (get_or ps j d).1) →
        (if b then p.1 else found ps x) ≡ (get_or (p ∷ ps) i d).1
    go true q rest = ap (λ k. (get_or (p ∷ ps) k d).1) (Some-injective q)
    go false q rest = later (place ps x) refl q rest where
      later : (o : Option ℕ) → place ps x ≡ o → option_map suc o ≡ Some i → ((j : ℕ) (d : Var × ℕ) → place ps x ≡ Some j → found ps x ≡ (get_or ps j d).1) → found ps x ≡ (get_or (p ∷ ps) i d).1
      later None is r h = cc
      later (Some j) is r h = h j d is ∙ ap (λ k. (get_or (p ∷ ps) k d).1) (Some-injective r)

  -- what is placed nowhere has no number
  pub unplaced_number : (ps : List (Var × ℕ)) → place ps x ≡ None → found ps x ≡ 0
  unplaced_number [] e = refl
  unplaced_number (p ∷ ps) e = go (same_var p.0 x) e (unplaced_number ps) where
    go : (b : Bool) → (if b then Some 0 else option_map suc (place ps x)) ≡ None → (place ps x ≡ None → found ps x ≡ 0) → (if b then p.1 else found ps x) ≡ 0
    go true q rest = cc
    go false q rest = later (place ps x) refl q rest where
      later : (o : Option ℕ) → place ps x ≡ o → option_map suc o ≡ None → (place ps x ≡ None → found ps x ≡ 0) → found ps x ≡ 0
      later None is r h = h is
      later (Some j) is r h = cc

  -- written at its place, the number is found
  set_here : (ps : List (Var × ℕ)) (i n : ℕ) → place ps x ≡ Some i → found (set ps i (x, n)) x ≡ n
  set_here [] i n e = cc
  set_here (p ∷ ps) i n e = go (same_var p.0 x) refl e (set_here ps) where
    go : (b : Bool) → same_var p.0 x ≡ b → (if b then Some 0 else option_map suc (place ps x)) ≡ Some i → ((j m : ℕ) → place ps x ≡ Some j → found (set ps j (x, m)) x ≡ m) →
        found (set (p ∷ ps) i (x, n)) x ≡ n
    go true s q rest = ap (λ k. found (set (p ∷ ps) k (x, n)) x) (sym (Some-injective q)) ∙ ap (λ b. if b then n else found ps x) (same_var_itself x)
    go false s q rest = later (place ps x) refl q where
      later : (o : Option ℕ) → place ps x ≡ o → option_map suc o ≡ Some i → found (set (p ∷ ps) i (x, n)) x ≡ n
      later None is r = cc
      later (Some j) is r =
          ap (λ k. found (set (p ∷ ps) k (x, n)) x) (sym (Some-injective r))
          ∙ ap (λ b. if b then p.1 else found (set ps j (x, n)) x) s
          ∙ rest j n is

  -- and the numbers of others are as before
  set_other : (ps : List (Var × ℕ)) (i n : ℕ) (y : Var) → place ps x ≡ Some i → same_var x y ≡ false → found (set ps i (x, n)) y ≡ found ps y
  set_other [] i n y e other = refl
  set_other (p ∷ ps) i n y e other = go (same_var p.0 x) refl e (λ j q. set_other ps j n y q other) where
    go : (b : Bool) → same_var p.0 x ≡ b → (if b then Some 0 else option_map suc (place ps x)) ≡ Some i → ((j : ℕ) → place ps x ≡ Some j → found (set ps j (x, n)) y ≡ found ps y) →
        found (set (p ∷ ps) i (x, n)) y ≡ found (p ∷ ps) y
    go true s q rest =
        ap (λ k. found (set (p ∷ ps) k (x, n)) y) (sym (Some-injective q))
        ∙ ap (λ b. if b then n else found ps y) other
        ∙ sym (ap (λ b. if b then p.1 else found ps y) (ap (λ z. same_var z y) (same_var_is p.0 x s) ∙ other))
    go false s q rest = later (place ps x) refl q where
      later : (o : Option ℕ) → place ps x ≡ o → option_map suc o ≡ Some i → found (set (p ∷ ps) i (x, n)) y ≡ found (p ∷ ps) y
      later None is r = cc
      later (Some j) is r =
          ap (λ k. found (set (p ∷ ps) k (x, n)) y) (sym (Some-injective r))
          ∙ ap (λ v. if same_var p.0 y then p.1 else v) (rest j is)

  -- a number that is put behind the others is found, where the variable stood nowhere
  pushed_here : (ps : List (Var × ℕ)) (n : ℕ) → place ps x ≡ None → found (ps ++ (x, n) ∷ []) x ≡ n
  pushed_here [] n e = ap (λ b. if b then n else 0) (same_var_itself x)
  pushed_here (p ∷ ps) n e = go (same_var p.0 x) refl e (pushed_here ps n) where
    go : (b : Bool) → same_var p.0 x ≡ b → (if b then Some 0 else option_map suc (place ps x)) ≡ None → (place ps x ≡ None → found (ps ++ (x, n) ∷ []) x ≡ n) →
        found ((p ∷ ps) ++ (x, n) ∷ []) x ≡ n
    go true s q rest = cc
    go false s q rest = later (place ps x) refl q where
      later : (o : Option ℕ) → place ps x ≡ o → option_map suc o ≡ None → found ((p ∷ ps) ++ (x, n) ∷ []) x ≡ n
      later None is r = ap (λ b. if b then p.1 else found (ps ++ (x, n) ∷ []) x) s ∙ rest is
      later (Some j) is r = cc

  pushed_other : (ps : List (Var × ℕ)) (n : ℕ) (y : Var) → same_var x y ≡ false → found (ps ++ (x, n) ∷ []) y ≡ found ps y
  pushed_other [] n y other = ap (λ b. if b then n else 0) other
  pushed_other (p ∷ ps) n y other = ap (λ v. if same_var p.0 y then p.1 else v) (pushed_other ps n y other)

one_here : (y x : Var) → same_var y x ≡ true → one_at y x ≡ 1
one_here y x e = rw e refl

one_there : (y x : Var) → same_var y x ≡ false → one_at y x ≡ 0
one_there y x e = rw e refl

-- once more
with_one : (n m o : ℕ) → o ≡ 1 → n + m ≡ n + m * o
with_one n m o e = let whole : n + m ≡ n + m * 1 = omega arith in whole ∙ ap (λ k. n + m * k) (sym e)

-- not at all
with_none : (n m o : ℕ) → o ≡ 0 → n ≡ n + m * o
with_none n m o e = let whole : n ≡ n + m * 0 = omega arith in whole ∙ ap (λ k. n + m * k) (sym e)

-- two variables differ in either order
other_way : (x y : Var) → same_var y x ≡ false → same_var x y ≡ false
other_way x y e = go (same_var x y) refl where
  go : (b : Bool) → same_var x y ≡ b → b ≡ false
  go true s = sym (ap (λ z. same_var z x) (sym (same_var_is x y s)) ∙ same_var_itself x) ∙ e
  go false s = refl

module _ (x : Var) where
  -- the number at its place is raised
  pub raised_at : (ps : List (Var × ℕ)) (i m sum : ℕ) → place ps x ≡ Some i → sum ≡ capped (found ps x + m) → IsMore x m ps (set ps i (x, sum))
  raised_at ps i m sum e is y = go (same_var y x) refl where
    go : (b : Bool) → same_var y x ≡ b → capped (found (set ps i (x, sum)) y) ≡ capped (found ps y + m * one_at y x)
    go true s =
        ap (λ z. capped (found (set ps i (x, sum)) z)) (same_var_is y x s)
        ∙ ap capped (set_here x ps i sum e ∙ is)
        ∙ capped_twice (found ps x + m)
        ∙ ap (λ z. capped (found ps z + m)) (sym (same_var_is y x s))
        ∙ ap capped (with_one (found ps y) m (one_at y x) (one_here y x s))
    go false s =
        ap capped (set_other x ps i sum y e (other_way x y s))
        ∙ ap capped (with_none (found ps y) m (one_at y x) (one_there y x s))

  -- a number is put behind the others
  pub raised_new : (ps : List (Var × ℕ)) (m : ℕ) → place ps x ≡ None → IsMore x m ps (ps ++ (x, m) ∷ [])
  raised_new ps m e y = go (same_var y x) refl where
    go : (b : Bool) → same_var y x ≡ b → capped (found (ps ++ (x, m) ∷ []) y) ≡ capped (found ps y + m * one_at y x)
    go true s =
        let nothing : found ps x ≡ 0 = unplaced_number x ps e in
        let whole : m ≡ found ps x + m = omega arith in
        ap (λ z. capped (found (ps ++ (x, m) ∷ []) z)) (same_var_is y x s)
        ∙ ap capped (pushed_here x ps m e ∙ whole)
        ∙ ap (λ z. capped (found ps z + m)) (sym (same_var_is y x s))
        ∙ ap capped (with_one (found ps y) m (one_at y x) (one_here y x s))
    go false s =
        ap capped (pushed_other x ps m y (other_way x y s))
        ∙ ap capped (with_none (found ps y) m (one_at y x) (one_there y x s))
