-- What is known of rewriting with some equations.
use Rattle.std.proofs.Common.{List, [], ◌∷◌, ◌⊎◌, inl, inr}
use Rattle.std.specs.List.{All}
use Rattle.std.proofs.lemmas.List.Elements.{All-cons, All-head, All-tail}
use Rattle.fvn_terms.specs.declared.declarations.Declarations.{Declarations}
use Rattle.fvn_terms.specs.Term.{Term}
use Rattle.fvn_terms.specs.Signature.{IsTerm}
use Rattle.fvn_terms.specs.Places.{stop}
use Rattle.fvn_terms.specs.Theory.{Equations}
use Rattle.fvn_terms.specs.Rewriting.{ListRewrites, IsReducible, IsIrreducible, IsIrreducibleList}
use Rattle.fvn_terms.specs.Laws.{RewritingLaws, TheoryLaws, RewritingIsLawful, TheoryEqualityIsLawful}
use Rattle.fvn_forms.specs.FitsKinds.{FitsKinds}
use Rattle.fvn_rewrite_laws.specs.Kinds.{HaveOneKind}
use Rattle.fvn_rewrite_laws.specs.Laws.{SequenceLaws, ListLaws, KindedLaws, SequencesAreLawful, ListsAreLawful, KindedTheoriesAreLawful}
use Rattle.fvn_rewrite_laws.proofs.Lists.{each_equal_itself}

-- the laws of rewriting, of the theory, of sequences, of lists and of kinds
pub record AreKnown (d : Declarations) (equations : Equations) : Type 0 where
  pub rewriting : RewritingLaws d equations
  pub theory : TheoryLaws d equations
  pub sequences : SequenceLaws d equations
  pub lists : ListLaws d equations
  pub kinded : KindedLaws d equations

pub known_of : RewritingIsLawful → TheoryEqualityIsLawful → SequencesAreLawful → ListsAreLawful → KindedTheoriesAreLawful →
    (d : Declarations) → FitsKinds d → (equations : Equations) → HaveOneKind d equations → AreKnown d equations
known_of rewriting theory sequences lists kinded d fits equations kinds = record {
  rewriting = rewriting d equations;
  theory = theory d equations;
  sequences = sequences d equations;
  lists = lists d equations;
  kinded = kinded d fits equations kinds;
}

module _ (d : Declarations) (equations : Equations) (laws : RewritingLaws d equations)
    (decided : (t : Term) → IsTerm d t → IsReducible d equations t ⊎ IsIrreducible d equations t) where
  abbrev IsDecided : List Term → Type 0
  IsDecided ts = ((us : List Term) × ListRewrites d equations ts us) ⊎ IsIrreducibleList d equations ts

  -- where it is decided of terms whether they are reducible, it is so of lists
  pub lists_decided : (ts : List Term) → All (IsTerm d) ts → ((us : List Term) × ListRewrites d equations ts us) ⊎ IsIrreducibleList d equations ts
  lists_decided [] h = inr (λ us r. r)
  lists_decided (t ∷ ts) h = go (decided t (All-head (IsTerm d) t ts h)) (lists_decided ts (All-tail (IsTerm d) t ts h)) where
    go : IsReducible d equations t ⊎ IsIrreducible d equations t → IsDecided ts → IsDecided (t ∷ ts)
    go (inl w) rest = inl (w.0 ∷ ts, inl (w.1, each_equal_itself d ts))
    go (inr n) (inl w) = inl (t ∷ w.0, inr (stop, w.1))
    go (inr n) (inr m) = inr ((laws.lists (t ∷ ts)).1 (All-cons (IsIrreducible d equations) t ts n ((laws.lists ts).0 m)))
