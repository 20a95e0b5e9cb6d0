-- The symbols of instances of forms over variables.
use Rattle.std.proofs.Common.{◌≡◌, ℕ, ◌+◌, false, List, [], ◌∷◌, length, map, refl, sym, ap, ◌∙◌, subst, arith}
use Rattle.std.specs.List.{AllByRecursion}
use Rattle.std.proofs.lemmas.List.{length-map}
use Rattle.fvn_terms.specs.declared.plain.Var.{Var}
use Rattle.fvn_terms.specs.declared.plain.OpId.{OpId}
use Rattle.fvn_terms.specs.declared.declarations.Axioms.{Axioms}
use Rattle.fvn_terms.specs.declared.declarations.Axioms.TheVariants.{Free, Comm, AssocComm, AssocCommId}
use Rattle.fvn_terms.specs.declared.declarations.Declarations.{Declarations}
use Rattle.fvn_terms.specs.Signature.{axioms}
use Rattle.fvn_terms.specs.Equality.{IsAssociative}
use Rattle.fvn_forms.specs.Flat.{FlatTerm, fvar, fapp, fpack, funpack, symbols}
use Rattle.fvn_forms.specs.InOrder.{sort}
use Rattle.fvn_forms.specs.Canon.{empty_sum, joined, sum, inst}
use Rattle.fvn_forms.specs.Settled.{SettledValues, IsPiece}
use Rattle.fvn_forms.proofs.InOrder.{sort_same_counts, each_sort, length_sort}
use Rattle.fvn_forms.proofs.Sums.{funpack-fpack, all_parts-pieces}
use Rattle.fvn_forms.proofs.Build.{HasIdentity, sort_is_nil}
use Rattle.fvn_forms.proofs.Instances.{count_map_sort, inst_sum, inst_free, inst_commutative}
use Rattle.fvn_forms.proofs.Sizes.{all_symbols, all_symbols-sort, symbols_unjoined, symbols_sum}
use Rattle.fvn_flat.specs.SolvedLists.{IsSimple}
use Rattle.fvn_combine_choices.specs.Plans.{size_in, sizes_in, joined_in}

-- the form is a variable
abbrev pub IsVariable : FlatTerm → Type 0
IsVariable u = (x : Var) × (u ≡ fvar x)

module _ (d : Declarations) (s : Var → FlatTerm) (settled : SettledValues d s) where
  abbrev env : Var → ℕ
  env x = symbols (s x)

  one_size : (u : FlatTerm) → IsVariable u → size_in env u ≡ symbols (inst d s u)
  one_size u v = ap (size_in env) v.1 ∙ ap (λ w. symbols (inst d s w)) (sym v.1)

  sizes_are : (l : List FlatTerm) → AllByRecursion IsVariable l → sizes_in env (fpack l) ≡ all_symbols (map (inst d s) l)
  sizes_are [] all = refl
  sizes_are (u ∷ l) all = ap (λ n. n + sizes_in env (fpack l)) (one_size u all.0) ∙ ap (λ n. symbols (inst d s u) + n) (sizes_are l all.1)

  joined_are : (u : FlatTerm) (l : List FlatTerm) → AllByRecursion IsVariable (u ∷ l) → joined_in env (fpack (u ∷ l)) ≡ all_symbols (map (inst d s) (u ∷ l)) + length l
  joined_are u [] all = one_size u all.0 ∙ omega arith
  joined_are u (w ∷ l) all =
      let a = one_size u all.0 in
      let r = joined_are w l all.1 in
      omega (arith, a, r)

  -- sorted or not
  symbols_sorted : (l : List FlatTerm) → all_symbols (map (inst d s) (sort l)) ≡ all_symbols (map (inst d s) l)
  symbols_sorted l =
      sym (all_symbols-sort (map (inst d s) (sort l))) ∙ ap all_symbols (sort_same_counts (map (inst d s) (sort l)) (map (inst d s) l) (count_map_sort (inst d s) l)) ∙ all_symbols-sort (map (inst d s) l)

  -- a free or commutative operator over variables
  pub size_unjoined : (g : OpId) → IsSimple (axioms d g) → (l : List FlatTerm) → AllByRecursion IsVariable l → symbols (inst d s (fapp g false (fpack l))) ≡ size_in env (fapp g false (fpack l))
  size_unjoined g simple l all = go (axioms d g) refl
    where
      from : (m : List FlatTerm) → inst d s (fapp g false (fpack l)) ≡ fapp g false (fpack m) → all_symbols m ≡ all_symbols (map (inst d s) l) → symbols (inst d s (fapp g false (fpack l))) ≡ size_in env (fapp g false (fpack l))
      from m e same =
          let a = ap symbols e ∙ symbols_unjoined g (fpack m) in
          let b = ap all_symbols (funpack-fpack m) in
          let r = sizes_are l all in
          omega (arith, a, b, same, r)

      unpacked : map (inst d s) (funpack (fpack l)) ≡ map (inst d s) l
      unpacked = ap (map (inst d s)) (funpack-fpack l)

      go : (a : Axioms) → axioms d g ≡ a → symbols (inst d s (fapp g false (fpack l))) ≡ size_in env (fapp g false (fpack l))
      go Free e = from (map (inst d s) l) (inst_free d s settled g e (fpack l) ∙ ap (λ m. fapp g false (fpack m)) unpacked) refl
      go Comm e = from (sort (map (inst d s) l)) (inst_commutative d s settled g e (fpack l) ∙ ap (λ m. fapp g false (fpack (sort m))) unpacked) (all_symbols-sort (map (inst d s) l))
      go AssocComm e = absurd (subst IsSimple e simple)
      go (AssocCommId o) e = absurd (subst IsSimple e simple)

  -- a sum of variables whose instances are single summands
  pub size_sum : (f : OpId) → IsAssociative (axioms d f) → (l : List FlatTerm) → (l ≡ [] → HasIdentity d f) → AllByRecursion IsVariable l → AllByRecursion (IsPiece d f) (map (inst d s) l) → symbols (inst d s (sum d f l)) ≡ size_in env (sum d f l)
  size_sum f assoc [] nonempty all pieces = let i = nonempty refl in ap (λ o. symbols (inst d s (empty_sum d f o))) i.1 ∙ sym (ap (λ o. size_in env (empty_sum d f o)) i.1)
  size_sum f assoc (u ∷ l) nonempty all pieces =
      let made = ap symbols (inst_sum d s settled f assoc (u ∷ l) nonempty ∙ ap (sum d f) (all_parts-pieces d f (map (inst d s) (u ∷ l)) pieces)) ∙ symbols_sum d f (inst d s u) (map (inst d s) l) in
      let n = length-map l (inst d s) in
      let r = go (sort (u ∷ l)) refl (each_sort IsVariable (u ∷ l) all) in
      omega (arith, made, n, r)
    where
      at : (w : FlatTerm) (m : List FlatTerm) → AllByRecursion IsVariable (w ∷ m) → size_in env (joined d f (w ∷ m)) ≡ all_symbols (map (inst d s) (w ∷ m)) + length m
      at w [] v = one_size w v.0 ∙ omega arith
      at w (z ∷ m) v = joined_are w (z ∷ m) v

      go : (m : List FlatTerm) → sort (u ∷ l) ≡ m → AllByRecursion IsVariable (sort (u ∷ l)) → size_in env (joined d f (sort (u ∷ l))) ≡ all_symbols (map (inst d s) (u ∷ l)) + length l
      go [] e v = absurd (let none = sort_is_nil (u ∷ l) e in cc)
      go (w ∷ m) e v =
          let a = ap (λ m. size_in env (joined d f m)) e ∙ at w m (subst (AllByRecursion IsVariable) e v) in
          let b = ap (λ m. all_symbols (map (inst d s) m)) (sym e) ∙ symbols_sorted (u ∷ l) in
          let k = ap length (sym e) in
          let n = length_sort (u ∷ l) in
          omega (arith, a, b, k, n)
