-- What is said of all values that go with a state is said of each unifier that it admits.
use Rattle.std.proofs.Common.{◌≡◌, ◌≢◌, ℕ, ◌<◌, List, [], ◌∷◌, ◌++◌, length, All, refl, sym, ap, ◌∙◌, subst, arith}
use Rattle.std.proofs.lemmas.List.Elements.{All-push, All-weaker, Contains-push}
use Rattle.fvn_terms.specs.Substitution.{Substitution}
use Rattle.fvn_flat.specs.Solving.{problem_of}
use Rattle.fvn_combine_nodes.specs.States.{IsClosed, class_of}
use Rattle.fvn_combine_nodes.specs.Unifiers.{value_at, kernel}
use Rattle.fvn_combine_nodes.specs.declared.state.State.{State}
use Rattle.fvn_combine_nodes.proofs.Kernels.{same_class, same_value}
use Rattle.fvn_combine_inferring.specs.Laws.{SortedUnifiersGoWith}
use Rattle.fvn_combine_inferring.specs.Sorted.{GoWithSorts}
use Rattle.fvn_combine_inferring.specs.Inferred.{HasNoValues, HaveOneValue, HaveTwoValues, MustMeet, IsEqualPair, AreEqualPairs}
use Rattle.fvn_combine.specs.Tasks.{Combining, IsCombining}
use Rattle.fvn_combine.specs.inner.Found.{IsAdmittedBy, MeetUnderAll, IsLookedAt, IsLooked}
use Rattle.fvn_combine.specs.declared.looking.Looked.{Looked}
use Rattle.fvn_combine.specs.declared.looking.Looked.TheVariants.{Over, Open, Together, Apart, Parted, PartedAll, Passed, Refused, Leaf}

module _ (k : Combining) (is : IsCombining k) (law : SortedUnifiersGoWith) (s : State) (closed : IsClosed k.declarations k.table s) where
  -- the values of such a unifier go with the state
  pub values_admitted : (u : Substitution) → IsAdmittedBy k s u → GoWithSorts k.declarations k.table s k.sorted (value_at k.declarations u k.table.nodes)
  values_admitted u h = law k.declarations is.good (problem_of k.given) is.is_given.kinds k.table is.well_made is.table_of s closed u h.0.unifies h.1 k.sorted h.0.keeps_sorts

  pub none_admitted : HasNoValues k.declarations k.table s k.sorted → (u : Substitution) → IsAdmittedBy k s u → ⊥
  none_admitted none u h = none (value_at k.declarations u k.table.nodes) (values_admitted u h)

  module _ (i j : ℕ) (l : i < length k.table.nodes) (m : j < length k.table.nodes) where
    -- nodes that have one value under all are in one class of its partition
    pub together_admitted : HaveOneValue k.declarations k.table s k.sorted i j → (u : Substitution) → IsAdmittedBy k s u → kernel k.declarations u k.table.nodes i ≡ kernel k.declarations u k.table.nodes j
    together_admitted one u h =
        let w = closed.whole in
        let e = one (value_at k.declarations u k.table.nodes) (values_admitted u h) in
        h.1.together i (omega (arith, l, w)) ∙ same_class k.declarations u k.table.nodes (class_of s i) (class_of s j) e ∙ sym (h.1.together j (omega (arith, m, w)))

    -- nodes that have two values under all are in two classes
    pub apart_admitted : HaveTwoValues k.declarations k.table s k.sorted i j → (u : Substitution) → IsAdmittedBy k s u → kernel k.declarations u k.table.nodes i ≢ kernel k.declarations u k.table.nodes j
    apart_admitted two u h e =
        let w = closed.whole in
        two (value_at k.declarations u k.table.nodes) (values_admitted u h)
        (same_value k.declarations u k.table.nodes (class_of s i) (class_of s j) (sym (h.1.together i (omega (arith, l, w))) ∙ e ∙ h.1.together j (omega (arith, m, w))))

  abbrev Within : ℕ × ℕ → Type 0
  Within p = (p.0 < length k.table.nodes) × (p.1 < length k.table.nodes)

  -- two nodes and further pairs that have one value each under all
  pub pairs_admitted : (others pairs : List (ℕ × ℕ)) (i j : ℕ) → pairs ≡ others ++ (i, j) ∷ [] → AreEqualPairs k.declarations k.table s k.sorted others → MustMeet k.declarations k.table s k.sorted i j → MeetUnderAll k s pairs
  pairs_admitted others pairs i j longer equal must = subst (MeetUnderAll k s) (sym longer) record {
    within = All-push Within others (i, j) (All-weaker (IsEqualPair k.declarations k.table s k.sorted) Within (λ p h. (h.0, h.1)) others equal) (must.open_pair.left, must.open_pair.right);
    some_open = (i, j, Contains-push others (i, j), must.open_pair.undecided);
    met = λ u h.
        All-push (λ p. kernel k.declarations u k.table.nodes p.0 ≡ kernel k.declarations u k.table.nodes p.1) others (i, j)
        (All-weaker (IsEqualPair k.declarations k.table s k.sorted) (λ p. kernel k.declarations u k.table.nodes p.0 ≡ kernel k.declarations u k.table.nodes p.1) (λ p e. together_admitted p.0 p.1 e.0 e.1 e.2 u h) others equal) (together_admitted i j must.open_pair.left must.open_pair.right must.equal u h);
  }

-- what is asked for by the last state is asked for by the tree
pub looked_last : (k : Combining) (states below : List State) (s : State) → states ≡ below ++ s ∷ [] → (r : Looked) → IsLookedAt k s r → IsLooked k states r
looked_last k states below s is Over h = absurd h
looked_last k states below s is (Open i j) h = record { below = below; last = s; is = is; looked = h }
looked_last k states below s is (Together pairs) h = record { below = below; last = s; is = is; looked = h }
looked_last k states below s is (Apart i j) h = record { below = below; last = s; is = is; looked = h }
looked_last k states below s is (Parted i j) h = record { below = below; last = s; is = is; looked = h }
looked_last k states below s is (PartedAll pairs) h = record { below = below; last = s; is = is; looked = h }
looked_last k states below s is Passed h = record { below = below; last = s; is = is; looked = h }
looked_last k states below s is (Refused f system) h = record { below = below; last = s; is = is; looked = h }
looked_last k states below s is (Leaf o) h = record { below = below; last = s; is = is; looked = h }
