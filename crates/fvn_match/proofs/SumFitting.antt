-- Sums of a search fit.
use Rattle.std.proofs.Common.{◌≡◌, ℕ, ◌≤◌, ◌<◌, ◌^◌, true, false, List, [], ◌∷◌, length, take, drop, Some, refl, sym, ap, ◌∙◌, subst, arith}
use Rattle.std.specs.Prelude.{Contains, sum as std_sum}
use Rattle.std.specs.List.{AllByRecursion}
use denote.Ref.{Bor}
use Rattle.std.proofs.lemmas.List.{take-append-drop}
use Rattle.fvn_terms.specs.declared.plain.OpId.{OpId}
use Rattle.fvn_terms.specs.declared.plain.SortId.{SortId}
use Rattle.fvn_terms.specs.declared.declarations.Axioms.{Axioms}
use Rattle.fvn_terms.specs.declared.declarations.Axioms.TheVariants.{Free, Comm, AssocComm, AssocCommId}
use Rattle.fvn_terms.specs.declared.declarations.Rank.{Rank}
use Rattle.fvn_terms.specs.declared.declarations.Declarations.{Declarations}
use Rattle.fvn_terms.specs.Term.{none}
use Rattle.fvn_terms.specs.Signature.{kind, declared, axioms, HasKind, HaveKinds}
use Rattle.fvn_terms.specs.Equality.{IsAssociative, constant, identity}
use Rattle.fvn_forms.specs.Flat.{FlatTerm, FlatTerms, fvar, fapp, fnone, fmore, funpack, plain}
use Rattle.fvn_forms.specs.InOrder.{count, SameCounts}
use Rattle.fvn_forms.specs.Canon.{parts, empty_sum, sum, build}
use Rattle.fvn_forms.specs.Settled.{IsPiece, FitsUnjoined, Settled}
use Rattle.fvn_forms.specs.FitsKinds.{FitsKinds}
use Rattle.fvn_forms.proofs.InOrder.{count_append}
use Rattle.fvn_forms.proofs.Sums.{parts_are_pieces, parts_are_settled, all_parts-pieces}
use Rattle.fvn_forms.proofs.Build.{HasIdentity, sum_settled, build_sum}
use Rattle.fvn_forms.proofs.KindsOfSums.{parts_of_kind, sum_of_forms_of_kind}
use Rattle.fvn_flat.specs.Forms.{head_of, args_of}
use Rattle.fvn_flat.specs.Fits.{AllFit, TakesAsDeclared, Takes}
use Rattle.fvn_match.specs.inner.Summands.{references, IsCounted}
use Rattle.fvn_match.specs.inner.Goals.{patterns_of, IsPair, IsFlatOf, SumFits}
use Rattle.fvn_match.specs.declared.goals.SumGoal.{SumGoal}
use Rattle.fvn_match.specs.declared.summands.Counted.{Counted}
use Rattle.fvn_match.proofs.Runs.{each_among}
use Rattle.fvn_match.proofs.SummandLists.{unjoined_none, parts_headed}

module _ (d : Declarations) where
  each_flat : (k : SortId) (l : List FlatTerm) → AllByRecursion (Settled d) l → AllByRecursion (λ p. HasKind d (plain p) k) l → AllByRecursion (IsFlatOf d k) l
  each_flat k [] s h = tt
  each_flat k (t ∷ l) s h = (record { flat = s.0; has_kind = h.0 }, each_flat k l s.1 h.1)

  pub flat_settled : (k : SortId) (l : List FlatTerm) → AllByRecursion (IsFlatOf d k) l → AllByRecursion (Settled d) l
  flat_settled k [] h = tt
  flat_settled k (t ∷ l) h = (h.0.flat, flat_settled k l h.1)

  pub flat_of_kind : (k : SortId) (l : List FlatTerm) → AllByRecursion (IsFlatOf d k) l → AllByRecursion (λ p. HasKind d (plain p) k) l
  flat_of_kind k [] h = tt
  flat_of_kind k (t ∷ l) h = (h.0.has_kind, flat_of_kind k l h.1)

  pub flat_fit : (k : SortId) (l : List FlatTerm) → AllByRecursion (IsFlatOf d k) l → AllFit d l
  flat_fit k [] h = tt
  flat_fit k (t ∷ l) h = (record { flat = h.0.flat; kinded = (k, h.0.has_kind) }, flat_fit k l h.1)

  module _ (fits : FitsKinds d) (f : OpId) (assoc : IsAssociative (axioms d f)) where
    no_constant : (k : SortId) → HasKind d (plain (fapp f false fnone)) k → ⊥
    no_constant k h = let e = fits.associative f h.rank assoc h.listed in subst (HaveKinds d none) e h.args

    -- a form headed by f is a sum
    module _ (p : FlatTerm) (s : Settled d p) (k : SortId) (h : HasKind d (plain p) k) (head : head_of p ≡ Some f) where
      pub some_args : args_of p ≡ [] → ⊥
      some_args = go p s h head
        where
          go : (t : FlatTerm) → Settled d t → HasKind d (plain t) k → head_of t ≡ Some f → args_of t ≡ [] → ⊥
          go (fvar x) s h e a = cc
          go (fapp g true ts) s h e a = let none : length (funpack ts) ≡ 0 = ap length a in let two = s.0.two_or_more in omega arith
          go (fapp g false fnone) s h e a = let q : g ≡ f = cc in no_constant k (subst (λ o. HasKind d (plain (fapp o false fnone)) k) q h)
          go (fapp g false (fmore t ts)) s h e a = cc

      pub parts_are_args : parts d f p ≡ args_of p
      parts_are_args = parts_headed d f p head some_args s assoc

      pub record HasRankOf : Type 0 where
        pub rank : Rank
        pub listed : Contains (declared d f).ranks rank
        pub gives : kind d rank.result ≡ k

      pub rank_of : HasRankOf
      rank_of = go p s h head
        where
          go : (t : FlatTerm) → Settled d t → HasKind d (plain t) k → head_of t ≡ Some f → HasRankOf
          go (fvar x) s h e = cc
          go (fapp g true fnone) s h e = let two : 2 ≤ 0 = s.0.two_or_more in absurd (omega arith)
          go (fapp g true (fmore t fnone)) s h e = let two : 2 ≤ 1 = s.0.two_or_more in absurd (omega arith)
          go (fapp g true (fmore t (fmore u us))) s h e = let q : g ≡ f = cc in record { rank = h.rank; listed = subst (λ o. Contains (declared d o).ranks h.rank) q h.listed; gives = h.result }
          go (fapp g false ts) s h e = absurd (none_joined ts (unjoined_none d f (axioms d f) (funpack ts) assoc (subst (λ o. FitsUnjoined d (axioms d o) (funpack ts)) (let q : g ≡ f = cc in q) s.0)) g (let q : g ≡ f = cc in q) h)
            where
              none_joined : (ts : FlatTerms) → funpack ts ≡ [] → (g : OpId) → g ≡ f → HasKind d (plain (fapp g false ts)) k → ⊥
              none_joined fnone a g q h = no_constant k (subst (λ o. HasKind d (plain (fapp o false fnone)) k) q h)
              none_joined (fmore t ts) a g q h = cc

    -- the summands of a pair as a sum
    pub started_fits : (p t : FlatTerm) → IsPair d p t → head_of p ≡ Some f → (patterns : Bor (List (Bor FlatTerm))) → SameCounts (references patterns.now) (args_of p) → (r : Counted) → IsCounted (parts d f t) r →
        (pieces : Bor (List (Bor FlatTerm))) → pieces.now ≡ r.pieces.items → (left : Bor (List ℕ)) → left.now ≡ r.left.items → std_sum left.now < 2 ^ 64 → (seen : ℕ) → SumFits d (record { op = f; patterns = patterns; pieces = pieces; left = left; seen = seen })
    started_fits p t pair head patterns same r counted pieces pieces_are left left_is small seen =
        let s = pair.pattern in
        let k = rank_of p s pair.of_kind pair.pattern_kind head in
        let named = ap references pieces_are in
        record {
          associative = assoc;
          rank = k.rank;
          listed = k.listed;
          patterns = each_among (IsFlatOf d (kind d k.rank.result)) (args_of p) (references patterns.now) (λ q some. let e = same q in omega arith) (subst (AllByRecursion (IsFlatOf d (kind d k.rank.result))) (parts_are_args p s pair.of_kind pair.pattern_kind head) (summands_flat (kind d k.rank.result) p s (subst (HasKind d (plain p)) (sym k.gives) pair.pattern_kind)));
          pieces = subst (AllByRecursion (IsFlatOf d (kind d k.rank.result))) (sym named) (each_among (IsFlatOf d (kind d k.rank.result)) (parts d f t) (references r.pieces.items) counted.among (summands_flat (kind d k.rank.result) t pair.target (subst (HasKind d (plain t)) (sym k.gives) pair.target_kind)));
          each_is_one = subst (AllByRecursion (IsPiece d f)) (sym named) (each_among (IsPiece d f) (parts d f t) (references r.pieces.items) counted.among (parts_are_pieces d f t pair.target));
          distinct = λ q. subst (λ l. count q l ≤ 1) (sym named) (counted.distinct q);
          long = ap length left_is ∙ counted.long ∙ sym (ap length pieces_are);
          small = small;
        }
      where
        summands_flat : (k : SortId) (u : FlatTerm) → Settled d u → HasKind d (plain u) k → AllByRecursion (IsFlatOf d k) (parts d f u)
        summands_flat k u s h = each_flat k (parts d f u) (parts_are_settled d f u s) (parts_of_kind d fits f assoc k u h)

    -- the chosen pieces are of the kind of f
    module _ (r : Rank) (listed : Contains (declared d f).ranks r) (l : List FlatTerm) (flat : AllByRecursion (IsFlatOf d (kind d r.result)) l) (pieces : AllByRecursion (IsPiece d f) l) where
      pub whole_settled : (l ≡ [] → HasIdentity d f) → Settled d (sum d f l)
      whole_settled i = sum_settled d f assoc l pieces (flat_settled (kind d r.result) l flat) i

      pub whole_of_kind : (l ≡ [] → HasIdentity d f) → HasKind d (plain (sum d f l)) (kind d r.result)
      whole_of_kind i = go l flat i
        where
          go : (m : List FlatTerm) → AllByRecursion (IsFlatOf d (kind d r.result)) m → (m ≡ [] → HasIdentity d f) → HasKind d (plain (sum d f m)) (kind d r.result)
          go [] h n =
              let e = n refl in
              subst (λ o. HasKind d (plain (empty_sum d f o)) (kind d r.result)) (sym e.1) (fits.identity f e.0 r e.1 listed)
          go (t ∷ m) h n = sum_of_forms_of_kind d fits f assoc (kind d r.result) r listed refl t m (flat_of_kind (kind d r.result) (t ∷ m) h)

      -- f takes two or more
      pub takes_pieces : 2 ≤ length l → Takes d f l
      takes_pieces two = record { rank = r; listed = listed; args = go (axioms d f) assoc }
        where
          go : (a : Axioms) → IsAssociative a → TakesAsDeclared d a r l
          go Free i = absurd i
          go Comm i = absurd i
          go AssocComm i = (two, flat_of_kind (kind d r.result) l flat)
          go (AssocCommId e) i = (two, flat_of_kind (kind d r.result) l flat)

      pub built_is_sum : 2 ≤ length l → build d f l ≡ sum d f l
      built_is_sum two = go l two pieces
        where
          go : (m : List FlatTerm) → 2 ≤ length m → AllByRecursion (IsPiece d f) m → build d f m ≡ sum d f m
          go [] n h = absurd (omega arith)
          go (t ∷ m) n h = build_sum d f assoc t m ∙ ap (sum d f) (all_parts-pieces d f (t ∷ m) h)

    -- an identity takes nothing
    pub takes_nothing : (r : Rank) → Contains (declared d f).ranks r → (e : OpId) → identity (axioms d f) ≡ Some e → Takes d e []
    takes_nothing r listed e ax = record { rank = h.rank; listed = h.listed; args = go (axioms d e) refl }
      where
        h : HasKind d (constant e) (kind d r.result)
        h = fits.identity f e r ax listed

        never : IsAssociative (axioms d e) → ⊥
        never i = subst (HaveKinds d none) (fits.associative e h.rank i h.listed) h.args

        go : (a : Axioms) → axioms d e ≡ a → TakesAsDeclared d a h.rank []
        go Free q = h.args
        go Comm q = h.args
        go AssocComm q = absurd (never (rw q tt))
        go (AssocCommId o) q = absurd (never (rw q tt))

  -- fewer patterns and fewer pieces of a sum fit too
  pub smaller_fits : (goal : SumGoal) → SumFits d goal → (patterns : Bor (List (Bor FlatTerm))) → ((q : FlatTerm) → 1 ≤ count q (references patterns.now) → 1 ≤ count q (patterns_of goal)) → (left : Bor (List ℕ)) → length left.now ≡ length goal.left.now → std_sum left.now ≤ std_sum goal.left.now → (seen : ℕ) →
      SumFits d (record { op = goal.op; patterns = patterns; pieces = goal.pieces; left = left; seen = seen })
  smaller_fits goal h patterns among left long fewer seen = record {
    associative = h.associative;
    rank = h.rank;
    listed = h.listed;
    patterns = each_among (IsFlatOf d (kind d h.rank.result)) (patterns_of goal) (references patterns.now) among h.patterns;
    pieces = h.pieces;
    each_is_one = h.each_is_one;
    distinct = h.distinct;
    long = long ∙ h.long;
    small = let a = h.small in omega arith;
  }

pub count_drop_le : (q : FlatTerm) (k : ℕ) (l : List FlatTerm) → count q (drop k l) ≤ count q l
count_drop_le q k l = let a = ap (count q) (take-append-drop k l) in let b = count_append q (take k l) (drop k l) in omega arith
