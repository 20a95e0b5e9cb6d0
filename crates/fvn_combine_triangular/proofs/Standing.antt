-- What stands for solutions: the name of a constant, or a new variable.
use Rattle.std.proofs.Common.{◌≡◌, ℕ, ◌+◌, ◌<◌, ◌≤◌, ◌/◌, ◌%◌, Bool, true, false, List, [], ◌∷◌, ◌++◌, length, map, take, drop, get_or, slice_index, refl, sym, ap, ◌∙◌, subst, inl, inr, arith, Contains, Option, Some}
use Rattle.std.specs.Prelude.{◌==◌, if◌then◌else◌, slice_get}
use Rattle.std.proofs.lemmas.Bool.{cases_lt, lt-ltb, le-ltb}
use Rattle.std.proofs.lemmas.List.{get_or_default, get_or_append_left, get_or_push, length_push, drop_all, take_all, take_more, map-append, length-map, length-take-le}
use Rattle.std.proofs.lemmas.Option.{slice_get_within, slice_get-get_or, get_or_from_slice_get}
use Rattle.fvn_base.proofs.Drops.{drop-at}
use Rattle.fvn_base.proofs.Membership.{contains_here, contains_later, contains_cases, contains_none}
use Rattle.fvn_terms.specs.declared.plain.Var.{Var as Variable}
use Rattle.fvn_terms.specs.declared.plain.OpId.{OpId}
use Rattle.fvn_terms.specs.declared.declarations.Declarations.{Declarations}
use Rattle.fvn_acunify.specs.ValidChoice.{chosen}
use Rattle.fvn_flat.specs.SolvedLists.{component}
use Rattle.fvn_combine_nodes.specs.Table.{NodeTable}
use Rattle.fvn_combine_systems.proofs.Weighing.{component_at}
use Rattle.fvn_combine_leaves.specs.declared.reading.Sums.{Sums}
use Rattle.fvn_combine_leaves.specs.Readings.{AreSums}
use Rattle.fvn_combine_choices.specs.Binding.{IsConstant, AreAsked}
use Rattle.fvn_combine_triangular.specs.declared.shares.Share.{Share}
use Rattle.fvn_combine_triangular.specs.inner.Planning.{name_in, variable_for, IsNewAt, StandsAt, AreShares}

pub length-chosen : (b : ℕ) (basis : List (List ℕ)) → length (chosen b basis) ≤ length basis
length-chosen b [] = omega arith
length-chosen b (u ∷ basis) = go (b % 2 == 1) (length-chosen (b / 2) basis)
  where
    go : (t : Bool) → length (chosen (b / 2) basis) ≤ length basis → length (if t then u ∷ chosen (b / 2) basis else chosen (b / 2) basis) ≤ length (u ∷ basis)
    go true l = omega (arith, l)
    go false l = omega (arith, l)

module _ (columns : List ℕ) (names : List Variable) (v : List ℕ) (fresh : Variable) where
  -- a constant that the vector has, and one that it has not
  pub variable_for_here : (constants : List ℕ) (i c : ℕ) → i < length constants → c ≡ get_or constants i c → 0 < slice_index v c → variable_for (drop i constants) columns names v fresh ≡ name_in names (slice_index columns c)
  variable_for_here constants i c l is some =
      ap (λ cs. variable_for cs columns names v fresh) (drop-at constants i c l is)
      ∙ ap (λ b. if b then name_in names (slice_index columns c) else variable_for (drop (i + 1) constants) columns names v fresh) (lt-ltb 0 (slice_index v c) some)

  pub variable_for_other : (constants : List ℕ) (i c : ℕ) → i < length constants → c ≡ get_or constants i c → slice_index v c ≤ 0 → variable_for (drop i constants) columns names v fresh ≡ variable_for (drop (i + 1) constants) columns names v fresh
  variable_for_other constants i c l is none =
      ap (λ cs. variable_for cs columns names v fresh) (drop-at constants i c l is)
      ∙ ap (λ b. if b then name_in names (slice_index columns c) else variable_for (drop (i + 1) constants) columns names v fresh) (le-ltb 0 (slice_index v c) none)

  pub variable_for_none : (constants : List ℕ) (i : ℕ) → length constants ≤ i → variable_for (drop i constants) columns names v fresh ≡ fresh
  variable_for_none constants i l = ap (λ cs. variable_for cs columns names v fresh) (drop_all i constants l)

  -- the first constant that the vector has, or none
  pub data Found (constants : List ℕ) : Type 0 where
    one : (c : ℕ) → Contains constants c → 0 < slice_index v c → variable_for constants columns names v fresh ≡ name_in names (slice_index columns c) → Found constants
    no_one : ((c : ℕ) → Contains constants c → slice_index v c ≡ 0) → variable_for constants columns names v fresh ≡ fresh → Found constants

  pub find : (constants : List ℕ) → Found constants
  find [] = no_one (λ c m. absurd (contains_none c m)) refl
  find (c ∷ constants) = go (find constants)
    where
      go : Found constants → Found (c ∷ constants)
      go rest = elim (cases_lt 0 (slice_index v c)) [
        | inl some ↦ one c (contains_here c constants) some (ap (λ b. if b then name_in names (slice_index columns c) else variable_for constants columns names v fresh) (lt-ltb 0 (slice_index v c) some))
        | inr none ↦
            let skip : variable_for (c ∷ constants) columns names v fresh ≡ variable_for constants columns names v fresh =
            ap (λ b. if b then name_in names (slice_index columns c) else variable_for constants columns names v fresh) (le-ltb 0 (slice_index v c) none)
            in
            elim rest [
              | one e m some is ↦ one e (contains_later c constants e m) some (skip ∙ is)
              | no_one all is ↦ no_one (λ e m. elim (contains_cases c constants e m) [
                | inl same ↦ let z = ap (slice_index v) same in omega (arith, none, z)
                | inr r ↦ all e r
              ]) (skip ∙ is)
            ]
      ]

module _ (d : Declarations) (t : NodeTable) (class : ℕ → ℕ) (tag : ℕ → Option OpId) (s : Sums) (are : AreSums d t class s) (names : List Variable) where
  -- what stands for a solution
  pub stands : (constants : List ℕ) (may_be_zero : List Bool) → AreAsked d t class tag s.operator s.columns constants may_be_zero → (number : ℕ) (p : Share) (fresh : Variable)
      → p.variable ≡ variable_for constants s.columns names p.solution fresh → IsNewAt d t class tag number s.operator fresh → StandsAt d t class tag s names number p
  stands constants may_be_zero asked number p fresh is new = go (find s.columns names p.solution fresh constants)
    where
      value : (j : ℕ) → j < length s.columns → component s.columns p.solution (slice_index s.columns j) ≡ slice_index p.solution j
      value j l = component_at s.columns p.solution are.is_system.distinct j l

      go : Found s.columns names p.solution fresh constants → StandsAt d t class tag s names number p
      go (one c m some e) =
          let r = (asked.are_constant c).0 m in
          let n = value c r.0 in
          inl (slice_index s.columns c, r.1, omega (arith, some, n), is ∙ e)
      go (no_one none e) = inr (
        λ k constant.
            let m = (are.is_system.exact k).1 constant.used.column in
            let at : slice_index s.columns m.0 ≡ k = get_or_default s.columns m.0 0 k m.1 ∙ m.2 in
            let listed = (asked.are_constant m.0).1 (m.1, subst (IsConstant d t class tag s.operator) (sym at) constant) in
            ap (component s.columns p.solution) (sym at) ∙ value m.0 m.1 ∙ none m.0 listed,
        subst (IsNewAt d t class tag number s.operator) (sym (is ∙ e)) new,
      )

  module _ (start : ℕ) (vectors : List (List ℕ)) where
    -- the shares of the vectors before this one
    pub record AreSharesFront (n : ℕ) (shares : List Share) : Type 0 where
      pub solutions : map (λ p. p.solution) shares ≡ take n vectors
      pub standing : (j : ℕ) (p : Share) → slice_get shares j ≡ Some p → StandsAt d t class tag s names (start + j) p

    pub no_shares : (shares : List Share) → shares ≡ [] → AreSharesFront 0 shares
    no_shares shares none = subst (AreSharesFront 0) (sym none) record {
      solutions = refl;
      standing = λ j p e. let l = slice_get_within [] j p e in absurd (omega (arith, l));
    }

    pub one_share : (n : ℕ) (shares now : List Share) (p : Share) → n < length vectors → p.solution ≡ get_or vectors n p.solution → StandsAt d t class tag s names (start + n) p → now ≡ shares ++ p ∷ [] → AreSharesFront n shares → AreSharesFront (n + 1) now
    one_share n shares now p l is at pushed h = subst (AreSharesFront (n + 1)) (sym pushed) record {
      solutions = map-append (λ (p : Share). p.solution) shares (p ∷ []) ∙ ap (λ vs. vs ++ p.solution ∷ []) h.solutions ∙ sym (take_more vectors n p.solution l ∙ ap (λ v. take n vectors ++ v ∷ []) (sym is));
      standing = λ j q e. elim (cases_lt j (length shares)) [
        | inl below ↦ h.standing j q (slice_get-get_or shares j q below ∙ ap Some (sym (get_or_append_left shares (p ∷ []) q j below) ∙ get_or_from_slice_get (shares ++ p ∷ []) j q q e))
        | inr above ↦
            let w = slice_get_within (shares ++ p ∷ []) j q e in
            let m = length_push shares p in
            let last : length shares ≡ j = omega (arith, above, w, m) in
            let same : p ≡ q = sym (get_or_push shares p q j last) ∙ get_or_from_slice_get (shares ++ p ∷ []) j q q e in
            let many : length shares ≡ n = many_shares in
            subst (λ m. StandsAt d t class tag s names (start + m) q) (sym many ∙ last) (subst (StandsAt d t class tag s names (start + n)) same at)
      ];
    }
      where
        many_shares : length shares ≡ n
        many_shares =
            let a = length-map shares (λ (p : Share). p.solution) in
            let b = ap length h.solutions in
            let c = length-take-le n vectors (omega (arith, l)) in
            omega (arith, a, b, c)

    pub all_of_shares : (n : ℕ) (shares : List Share) → length vectors ≤ n → AreSharesFront n shares → AreShares d t class tag s names start vectors shares
    all_of_shares n shares l h = record { solutions = h.solutions ∙ take_all n vectors l; standing = h.standing }
