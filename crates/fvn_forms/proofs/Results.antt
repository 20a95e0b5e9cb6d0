-- Laws of the least results of a good signature.
use Rattle.std.proofs.Common.{◌≡◌, true, List, [], ◌∷◌, map, refl, sym, ap, subst, ◌∙◌}
use Rattle.std.specs.List.{Contains, AllZip, filter}
use Rattle.std.specs.Prelude.{find, unwrap_or}
use Rattle.std.proofs.lemmas.Bool.{and_parts, and_from, false≢true}
use Rattle.fvn_terms.specs.declared.plain.OpId.{OpId}
use Rattle.fvn_terms.specs.declared.plain.SortId.{SortId}
use Rattle.fvn_terms.specs.declared.declarations.Rank.{Rank}
use Rattle.fvn_terms.specs.declared.declarations.Declarations.{Declarations}
use Rattle.fvn_terms.specs.Signature.{kind, declared, axioms, AtOrBelow, same}
use Rattle.fvn_terms.specs.Equality.{IsCommutative, IsAssociative}
use Rattle.fvn_terms.specs.Sorts.{HasRank, is_declared, on_kinds, swapped}
use Rattle.fvn_forms.specs.SortOrder.{at_or_below}
use Rattle.fvn_forms.specs.Ranks.{Serves, IsResult, ranks_of, results, is_lowest, pass_together, first_result, result}
use Rattle.fvn_forms.specs.Good.{TakesKinds, IsOfKind, IsGood}
use Rattle.fvn_base.proofs.Membership.{filter_contains, contains_filter, list_all_gives, list_all_from, find_or, contains_map, map_contains}
use Rattle.fvn_forms.proofs.SortOrder.{AtOrBelow-trans, AtOrBelow-kind, AtOrBelow-antisym, AtOrBelow-one_kind}
use Rattle.fvn_forms.proofs.SortTests.{at_or_below-true, at_or_below-complete}
use Rattle.fvn_forms.proofs.RanksAgree.{ranks_of-sound, ranks_of-swapped, rank_of}

module _ (d : Declarations) where
  pass_together-true : (ss qs : List SortId) → pass_together (at_or_below d) ss qs ≡ true → AllZip (AtOrBelow d) ss qs
  pass_together-true [] [] h = tt
  pass_together-true [] (q ∷ qs) h = absurd (false≢true h)
  pass_together-true (s ∷ ss) [] h = absurd (false≢true h)
  pass_together-true (s ∷ ss) (q ∷ qs) h =
      let p = and_parts (at_or_below d s q) (pass_together (at_or_below d) ss qs) h in
      (at_or_below-true d s q p.0, pass_together-true ss qs p.1)

  pass_together-complete : (ss qs : List SortId) → AllZip (AtOrBelow d) ss qs → pass_together (at_or_below d) ss qs ≡ true
  pass_together-complete [] [] h = refl
  pass_together-complete [] (q ∷ qs) h = absurd h
  pass_together-complete (s ∷ ss) [] h = absurd h
  pass_together-complete (s ∷ ss) (q ∷ qs) h = and_from (at_or_below d s q) (pass_together (at_or_below d) ss qs) (at_or_below-complete d h.0) (pass_together-complete ss qs h.1)

  -- places at or below places that are at or below others
  pub AllBelow-trans : (ss qs rs : List SortId) → AllZip (AtOrBelow d) ss qs → AllZip (AtOrBelow d) qs rs → AllZip (AtOrBelow d) ss rs
  AllBelow-trans [] [] rs h k = k
  AllBelow-trans [] (q ∷ qs) rs h k = absurd h
  AllBelow-trans (s ∷ ss) [] rs h k = absurd h
  AllBelow-trans (s ∷ ss) (q ∷ qs) [] h k = absurd k
  AllBelow-trans (s ∷ ss) (q ∷ qs) (r ∷ rs) h k = (AtOrBelow-trans d h.0 k.0, AllBelow-trans ss qs rs h.1 k.1)

  pub AllBelow-self : (ss : List SortId) → AllZip (AtOrBelow d) ss ss
  AllBelow-self [] = tt
  AllBelow-self (s ∷ ss) = (same, AllBelow-self ss)

  pub AllBelow-kinds : (ss : List SortId) → AllZip (AtOrBelow d) ss (map (kind d) ss)
  AllBelow-kinds [] = tt
  AllBelow-kinds (s ∷ ss) = (AtOrBelow-kind d s, AllBelow-kinds ss)

  module _ (f : OpId) (args : List SortId) where
    pub Serves-contains : (r : SortId) → Serves d f args r → Contains (results d (ranks_of d f) args) r
    Serves-contains r h =
        let kept = contains_filter (λ (p : Rank). pass_together (at_or_below d) args p.args) (ranks_of d f) h.rank h.listed (pass_together-complete args h.rank.args h.fits) in
        subst (Contains (results d (ranks_of d f) args)) h.gives (contains_map (λ (p : Rank). p.result) _ h.rank kept)

    pub contains-Serves : (r : SortId) → Contains (results d (ranks_of d f) args) r → Serves d f args r
    contains-Serves r h =
        let w = map_contains (λ (p : Rank). p.result) (filter (λ (p : Rank). pass_together (at_or_below d) args p.args) (ranks_of d f)) r h in
        let k = filter_contains (λ (p : Rank). pass_together (at_or_below d) args p.args) (ranks_of d f) w.0 w.1.0 in
        record { rank = w.0; listed = k.0; fits = pass_together-true args w.0.args k.1; gives = w.1.1 }

    -- where there is a least result, `result` is one
    pub result-is_least : (r : SortId) → IsResult d f args r → IsResult d f args (result d f args)
    unfolding result
    result-is_least r h =
        let rs : List SortId = results d (ranks_of d f) args in
        let lowest = list_all_from (at_or_below d r) rs (λ q i. at_or_below-complete d (h.least q (contains-Serves q i))) in
        let found = find_or (is_lowest d rs) rs r (first_result d (declared d f).ranks) (Serves-contains r h.serves) lowest in
        record {
          serves = contains-Serves _ found.0;
          least = λ q s. at_or_below-true d _ q (list_all_gives (at_or_below d (unwrap_or (find (is_lowest d rs) rs) (first_result d (declared d f).ranks))) rs q found.1 (Serves-contains q s));
        }

  -- fewer arguments' sorts are served by what serves more
  pub Serves-lower : (f : OpId) (ss qs : List SortId) (r : SortId) → AllZip (AtOrBelow d) ss qs → Serves d f qs r → Serves d f ss r
  Serves-lower f ss qs r below h = record { rank = h.rank; listed = h.listed; fits = AllBelow-trans ss qs h.rank.args below h.fits; gives = h.gives }

  AllZip-swap : (s q : SortId) (l : List SortId) → AllZip (AtOrBelow d) (s ∷ q ∷ []) l → (a : SortId) × ((b : SortId) × ((l ≡ a ∷ b ∷ []) × AllZip (AtOrBelow d) (q ∷ s ∷ []) (b ∷ a ∷ [])))
  AllZip-swap s q [] h = absurd h
  AllZip-swap s q (a ∷ []) h = absurd h.1
  AllZip-swap s q (a ∷ b ∷ []) h = (a, (b, (refl, (h.1.0, (h.0, tt)))))
  AllZip-swap s q (a ∷ b ∷ c ∷ l) h = absurd h.1.1

  -- a commutative operator serves swapped arguments
  pub Serves-swap : (f : OpId) (s q r : SortId) → IsCommutative (axioms d f) → Serves d f (s ∷ q ∷ []) r → Serves d f (q ∷ s ∷ []) r
  Serves-swap f s q r c h =
      let w = AllZip-swap s q h.rank.args h.fits in
      record {
        rank = rank_of (w.1.0 ∷ w.0 ∷ []) h.rank.result;
        listed = ranks_of-swapped d f w.0 w.1.0 h.rank.result c (subst (λ l. Contains (ranks_of d f) (rank_of l h.rank.result)) w.1.1.0 h.listed);
        fits = w.1.1.1;
        gives = h.gives;
      }

  module _ (good : IsGood d) where
    pub result-is : (f : OpId) (args : List SortId) → TakesKinds d f args → IsResult d f args (result d f args)
    result-is f args h = let w = good.preregular f args h in result-is_least f args w.0 w.1

    -- there is one least result
    pub result-unique : (f : OpId) (args : List SortId) (r : SortId) → IsResult d f args r → result d f args ≡ r
    result-unique f args r h =
        let w = result-is_least f args r h in
        AtOrBelow-antisym d good.kinded good.acyclic (w.least r h.serves) (h.least _ w.serves)

    -- a result has the kind that the operator's declarations give
    HasRank-kind : (f : OpId) (ss : List SortId) (s : SortId) (r : Rank) → Contains (declared d f).ranks r → HasRank d f ss s → kind d s ≡ kind d r.result
    HasRank-kind f ss s r i (is_declared p h e g) = ap (kind d) (sym g) ∙ (good.fits.agree f p r h i).1
    HasRank-kind f ss s r i (on_kinds p h e g) = ap (kind d) (sym g) ∙ good.kinded.own p.result ∙ (good.fits.agree f p r h i).1
    HasRank-kind f ss s r i (swapped c h) = HasRank-kind f _ s r i h

    pub Serves-kind : (f : OpId) (args : List SortId) (s : SortId) (r : Rank) → Contains (declared d f).ranks r → Serves d f args s → kind d s ≡ kind d r.result
    Serves-kind f args s r i h = ap (kind d) (sym h.gives) ∙ HasRank-kind f h.rank.args h.rank.result r i (ranks_of-sound d f h.rank h.listed)

    pub result-kind : (f : OpId) (args : List SortId) (r : Rank) → TakesKinds d f args → Contains (declared d f).ranks r → kind d (result d f args) ≡ kind d r.result
    result-kind f args r t i = Serves-kind f args _ r i (result-is f args t).serves

    pub result-of_kind : (f : OpId) (args : List SortId) → TakesKinds d f args → IsOfKind d f (result d f args)
    result-of_kind f args t = record { rank = t.rank; listed = t.listed; kind_is = result-kind f args t.rank t t.listed }

    -- kinds of arguments in order
    AllBelow-one_kind : (ss qs : List SortId) → AllZip (AtOrBelow d) ss qs → map (kind d) ss ≡ map (kind d) qs
    AllBelow-one_kind [] [] h = refl
    AllBelow-one_kind [] (q ∷ qs) h = absurd h
    AllBelow-one_kind (s ∷ ss) [] h = absurd h
    AllBelow-one_kind (s ∷ ss) (q ∷ qs) h = ap (λ k. k ∷ map (kind d) ss) (AtOrBelow-one_kind d good.kinded h.0) ∙ ap (λ ks. kind d q ∷ ks) (AllBelow-one_kind ss qs h.1)

    pub TakesKinds-lower : (f : OpId) (ss qs : List SortId) → AllZip (AtOrBelow d) ss qs → TakesKinds d f qs → TakesKinds d f ss
    TakesKinds-lower f ss qs h t = record { rank = t.rank; listed = t.listed; kinds = AllBelow-one_kind ss qs h ∙ t.kinds }

    -- lower arguments have a lower result
    pub result_monotone : (f : OpId) (ss qs : List SortId) → AllZip (AtOrBelow d) ss qs → TakesKinds d f qs → AtOrBelow d (result d f ss) (result d f qs)
    result_monotone f ss qs h t =
        (result-is f ss (TakesKinds-lower f ss qs h t)).least _ (Serves-lower f ss qs _ h (result-is f qs t).serves)

    -- a commutative operator gives one result for swapped arguments
    pub result_swap : (f : OpId) (s q : SortId) → IsCommutative (axioms d f) → TakesKinds d f (s ∷ q ∷ []) → result d f (s ∷ q ∷ []) ≡ result d f (q ∷ s ∷ [])
    result_swap f s q c t =
        let w = result-is f (s ∷ q ∷ []) t in
        sym (result-unique f (q ∷ s ∷ []) _ record { serves = Serves-swap f s q _ c w.serves; least = λ r h. w.least r (Serves-swap f q s r c h) })

    -- an associative operator takes two sorts of its kind, and gives one
    pub TakesKinds-pair : (f : OpId) (a b : SortId) → IsAssociative (axioms d f) → IsOfKind d f a → IsOfKind d f b → TakesKinds d f (a ∷ b ∷ [])
    TakesKinds-pair f a b s h k = record {
      rank = h.rank;
      listed = h.listed;
      kinds = let e : kind d b ≡ kind d h.rank.result = k.kind_is ∙ (good.fits.agree f k.rank h.rank k.listed h.listed).1 in
          ap (λ x. x ∷ kind d b ∷ []) h.kind_is ∙ ap (λ y. kind d h.rank.result ∷ y ∷ []) e ∙ sym (good.fits.associative f h.rank s h.listed);
    }

    pub result-pair : (f : OpId) (a b : SortId) → IsAssociative (axioms d f) → IsOfKind d f a → IsOfKind d f b → IsOfKind d f (result d f (a ∷ b ∷ []))
    result-pair f a b s h k = result-of_kind f (a ∷ b ∷ []) (TakesKinds-pair f a b s h k)
