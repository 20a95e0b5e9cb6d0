-- Where loose classes part the nodes of each pair, each unifier of the state has a more general one under which all of them are apart.
use Rattle.std.proofs.Common.{◌≡◌, ◌≢◌, ℕ, Bool, true, List, [], ◌∷◌, get_or, All}
use Rattle.std.proofs.lemmas.List.Elements.{All-nil, All-cons, All-head, All-tail}
use Rattle.fvn_terms.specs.declared.declarations.Declarations.{Declarations}
use Rattle.fvn_terms.specs.Substitution.{Substitution}
use Rattle.fvn_terms.specs.Unifiers.{Problem}
use Rattle.fvn_forms.specs.Good.{IsGood}
use Rattle.fvn_flat.specs.Problems.{IsProblem, variables_of}
use Rattle.fvn_flat.specs.SolvedLists.{IsKindUnifier}
use Rattle.fvn_combine_nodes.specs.Table.{NodeTable, IsWellMade, IsTableOf}
use Rattle.fvn_combine_nodes.specs.States.{Admits, IsClosed}
use Rattle.fvn_combine_nodes.specs.Unifiers.{kernel}
use Rattle.fvn_combine_nodes.specs.declared.state.State.{State}
use Rattle.fvn_combine_inferring.specs.Laws.{SortedUnifiersGoWith}
use Rattle.fvn_combine_loose.specs.MoreGeneral.{KeepsSorts}
use Rattle.fvn_combine_loose.specs.Loose.{AreParted}
use Rattle.fvn_combine_loose.specs.Laws.{IsLoosened, LooseClassesPart}
use Rattle.fvn_combine_loose.proofs.Setting.{Setting}
use Rattle.fvn_combine_loose.proofs.Loosened.{loosened}
use Rattle.fvn_combine_loose.proofs.Admitted.{before, loosened_apart}
use Rattle.fvn_combine_loose.proofs.Loosening.{is_loosened}
use Rattle.fvn_combine_loose.proofs.Spreading.{loosened_itself, loosened_chain}

-- the nodes of a pair are in two classes under v
abbrev AreApartUnder : Declarations → NodeTable → Substitution → ℕ × ℕ → Type 0
AreApartUnder d t v p = kernel d v t.nodes p.0 ≢ kernel d v t.nodes p.1

-- a loose class parts the nodes of a pair
abbrev IsPartedPair : Declarations → NodeTable → State → Bool → ℕ × ℕ → Type 0
IsPartedPair d t s sorted p = AreParted d t s sorted p.0 p.1

module _ {d : Declarations} {problem : Problem} {t : NodeTable} {s : State} {z : ℕ} {heights : List ℕ} {u : Substitution} (g : Setting d problem t s z heights u) where
  -- what was apart is so still
  all_kept : (sorted : Bool) (pairs : List (ℕ × ℕ)) → All (IsPartedPair d t s sorted) pairs → All (AreApartUnder d t u) pairs → All (AreApartUnder d t (loosened g)) pairs
  all_kept sorted pairs own old = λ k e l same.
      let p = get_or pairs k e in
      let h : IsPartedPair d t s sorted p = own k e l in
      old k e l (before g p.0 p.1 h.left h.right same)

module _ (law : SortedUnifiersGoWith) (d : Declarations) (good : IsGood d) (problem : Problem) (kinded : IsProblem d problem) (t : NodeTable) (made : IsWellMade t) (table : IsTableOf d problem t) (s : State) (closed : IsClosed d t s) (sorted : Bool) where
  -- sorts are kept where they are heeded
  abbrev Heeds : Substitution → Type 0
  Heeds v = sorted ≡ true → KeepsSorts d (variables_of problem) v

  -- one pair more
  one_parted : (p : ℕ × ℕ) (pairs : List (ℕ × ℕ)) → IsPartedPair d t s sorted p → All (IsPartedPair d t s sorted) pairs → (u v : Substitution) → Heeds v → IsLoosened d problem t s u v → All (AreApartUnder d t v) pairs
      → (w : Substitution) × IsLoosened d problem t s u w × All (AreApartUnder d t w) (p ∷ pairs)
  one_parted p pairs own others u v heeds first apart =
      let g : Setting d problem t s own.bottom own.heights v =
      record {
        good = good;
        kinded = kinded;
        made = made;
        table = table;
        closed = closed;
        sums = own.sums;
        sorted = sorted;
        loose = own.loose;
        unifier = first.unifies;
        admits = first.admits;
        values_go = law d good problem kinded t made table s closed v first.unifies first.admits sorted heeds;
      }
      in (
        loosened g,
        loosened_chain d good problem kinded t made table s closed u v (loosened g) first (is_loosened g),
        All-cons (AreApartUnder d t (loosened g)) p pairs (loosened_apart g p.0 p.1 own.left own.right own.one) (all_kept g sorted pairs others apart),
      )

  all_parted : (pairs : List (ℕ × ℕ)) → All (IsPartedPair d t s sorted) pairs → (u : Substitution) → IsKindUnifier d problem u → Admits s (kernel d u t.nodes) → Heeds u
      → (v : Substitution) × IsLoosened d problem t s u v × All (AreApartUnder d t v) pairs
  all_parted [] own u unifier admits heeds = (u, loosened_itself d good problem kinded t made table s closed u unifier admits, All-nil (AreApartUnder d t u))
  all_parted (p ∷ pairs) own u unifier admits heeds =
      let r = all_parted pairs (All-tail (IsPartedPair d t s sorted) p pairs own) u unifier admits heeds in
      one_parted p pairs (All-head (IsPartedPair d t s sorted) p pairs own) (All-tail (IsPartedPair d t s sorted) p pairs own) u r.0 (λ e. r.1.more_general.sorts (heeds e)) r.1 r.2

pub loose_classes : SortedUnifiersGoWith → LooseClassesPart
loose_classes law d good problem kinded t made table s closed sorted pairs own u unifier admits heeds = all_parted law d good problem kinded t made table s closed sorted pairs own u unifier admits heeds
