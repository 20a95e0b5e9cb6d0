-- Sums of variables whose values are sums of pieces.
use Rattle.std.proofs.Common.{◌≡◌, List, [], ◌∷◌, ◌++◌, map, refl, sym, ap, ◌∙◌, subst, arith, Contains, Option, Some, None, append-nil}
use Rattle.std.specs.List.{AllByRecursion}
use Rattle.fvn_terms.specs.declared.plain.Var.{Var}
use Rattle.fvn_terms.specs.declared.plain.OpId.{OpId}
use Rattle.fvn_terms.specs.declared.plain.SortId.{SortId}
use Rattle.fvn_terms.specs.declared.declarations.Rank.{Rank}
use Rattle.fvn_terms.specs.declared.declarations.Declarations.{Declarations}
use Rattle.fvn_terms.specs.Term.{var}
use Rattle.fvn_terms.specs.Signature.{kind, declared, axioms, HasKind, AtOrBelow}
use Rattle.fvn_terms.specs.Equality.{IsAssociative, identity}
use Rattle.fvn_terms.proofs.AxiomWords.{identity_commutes}
use Rattle.fvn_forms.specs.Flat.{FlatTerm, fvar, fpack, plain}
use Rattle.fvn_forms.specs.InOrder.{count, sort, SameCounts}
use Rattle.fvn_forms.specs.Canon.{parts, all_parts, joined, sum, build, inst, empty_sum}
use Rattle.fvn_forms.specs.Settled.{Settled, IsPiece}
use Rattle.fvn_forms.specs.Good.{IsGood, IsOfKind, TakesKinds}
use Rattle.fvn_forms.specs.LeastSort.{sum_sort, sort_in, sorts_in, least_sort, KeepsKindsOfVariables, IsFlatSubstitution}
use Rattle.fvn_forms.proofs.InOrder.{count_append, count_sort, each_append, each_sort}
use Rattle.fvn_forms.proofs.Sums.{parts_sum, sum_same_counts}
use Rattle.fvn_forms.proofs.Build.{HasIdentity, build_sum, sum_settled, sort_is_nil}
use Rattle.fvn_forms.proofs.Instances.{inst_sum}
use Rattle.fvn_forms.proofs.KindsOfSums.{two_of_kind, sum_of_forms_of_kind}
use Rattle.fvn_forms.proofs.LeastSort.{sort_in-kind, sort_of_build, sort_lowers}
use Rattle.fvn_forms.proofs.Results.{result_monotone, result_swap, TakesKinds-pair}
use Rattle.fvn_forms.proofs.SortOrder.{AtOrBelow-trans, AtOrBelow-from_same}
use Rattle.fvn_forms.specs.Ranks.{result}
use Rattle.fvn_combine_complete.specs.Neutral.{Absorbs}

-- the variables of the entries, and their pieces, one after another
abbrev pub variables_in : List (Var × List FlatTerm) → List FlatTerm
variables_in [] = []
variables_in (e ∷ es) = fvar e.0 ∷ variables_in es

abbrev pub spread : List (Var × List FlatTerm) → List FlatTerm
spread [] = []
spread (e ∷ es) = e.1 ++ spread es

-- f has an identity, and the sort has each sum by f of a term of the sort with it
pub record Absorbing (d : Declarations) (f : OpId) (s : SortId) : Type 0 where
  pub unit : OpId
  pub is_identity : identity (axioms d f) ≡ Some unit
  pub absorbs : Absorbs d f unit s

-- two lists of pieces are summands of a sum of two
sum_of_two : (d : Declarations) (f : OpId) → IsAssociative (axioms d f) → (l m : List FlatTerm) → AllByRecursion (IsPiece d f) l → AllByRecursion (IsPiece d f) m → sum d f (l ++ m) ≡ build d f (sum d f l ∷ sum d f m ∷ [])
sum_of_two d f assoc l m hl hm = sum_same_counts d f (l ++ m) (all_parts d f (sum d f l ∷ sum d f m ∷ [])) same ∙ sym (build_sum d f assoc (sum d f l) (sum d f m ∷ []))
  where
    same : SameCounts (l ++ m) (all_parts d f (sum d f l ∷ sum d f m ∷ []))
    same q =
        let a = count_append q l m in
        let b = count_append q (parts d f (sum d f l)) (parts d f (sum d f m) ++ []) in
        let e = count_append q (parts d f (sum d f m)) [] in
        let g = ap (count q) (parts_sum d f l hl) ∙ count_sort q l in
        let h = ap (count q) (parts_sum d f m hm) ∙ count_sort q m in
        omega (arith, a, b, e, g, h)

-- a sum of variables has one sort for sorts of variables that agree on them
module _ (d : Declarations) (f : OpId) (low high : Var → SortId) where
  abbrev Agrees : FlatTerm → Type 0
  Agrees q = sort_in d high q ≡ sort_in d low q

  sorts_agree : (l : List FlatTerm) → AllByRecursion Agrees l → sorts_in d high (fpack l) ≡ sorts_in d low (fpack l)
  sorts_agree [] h = refl
  sorts_agree (q ∷ l) h = ap (λ s. s ∷ sorts_in d high (fpack l)) h.0 ∙ ap (λ ss. sort_in d low q ∷ ss) (sorts_agree l h.1)

  joined_agrees : (l : List FlatTerm) → AllByRecursion Agrees l → Agrees (joined d f l)
  joined_agrees [] h = go (identity (axioms d f))
    where
      go : (o : Option OpId) → Agrees (empty_sum d f o)
      go None = refl
      go (Some e) = refl
  joined_agrees (q ∷ []) h = h.0
  joined_agrees (q ∷ p ∷ l) h = ap (sum_sort d f) (sorts_agree (q ∷ p ∷ l) h)

  pub sum_agrees : (es : List (Var × List FlatTerm)) → AllByRecursion (λ e. high e.0 ≡ low e.0) es → sort_in d high (sum d f (variables_in es)) ≡ sort_in d low (sum d f (variables_in es))
  sum_agrees es h = joined_agrees (sort (variables_in es)) (each_sort Agrees (variables_in es) (each es h))
    where
      each : (es : List (Var × List FlatTerm)) → AllByRecursion (λ e. high e.0 ≡ low e.0) es → AllByRecursion Agrees (variables_in es)
      each [] h = tt
      each (e ∷ es) h = (h.0, each es h.1)

module _ (d : Declarations) (good : IsGood d) (w : Var → FlatTerm) (flat : IsFlatSubstitution d w) (f : OpId) (assoc : IsAssociative (axioms d f)) (k : SortId) (r : Rank) (listed : Contains (declared d f).ranks r) (gives : kind d r.result ≡ k) where
  -- the value of the variable is the sum of its pieces, of which there are some, or f has an identity
  pub record Stands (e : Var × List FlatTerm) : Type 0 where
    pub value : w e.0 ≡ sum d f e.1
    pub some : e.1 ≡ [] → HasIdentity d f
    pub pieces : AllByRecursion (IsPiece d f) e.1
    pub settled : AllByRecursion (Settled d) e.1
    pub kinded : AllByRecursion (λ q. HasKind d (plain q) k) e.1
    pub variable : HasKind d (var e.0) k

  variable_pieces : (es : List (Var × List FlatTerm)) → AllByRecursion (IsPiece d f) (variables_in es)
  variable_pieces [] = tt
  variable_pieces (e ∷ es) = (refl, variable_pieces es)

  variables_settled : (es : List (Var × List FlatTerm)) → AllByRecursion (Settled d) (variables_in es)
  variables_settled [] = tt
  variables_settled (e ∷ es) = (tt, variables_settled es)

  variables_kinded : (es : List (Var × List FlatTerm)) → AllByRecursion Stands es → AllByRecursion (λ q. HasKind d (plain q) k) (variables_in es)
  variables_kinded [] h = tt
  variables_kinded (e ∷ es) h = (h.0.variable, variables_kinded es h.1)

  spread_pieces : (es : List (Var × List FlatTerm)) → AllByRecursion Stands es → AllByRecursion (IsPiece d f) (spread es)
  spread_pieces [] h = tt
  spread_pieces (e ∷ es) h = each_append (IsPiece d f) e.1 (spread es) h.0.pieces (spread_pieces es h.1)

  spread_settled : (es : List (Var × List FlatTerm)) → AllByRecursion Stands es → AllByRecursion (Settled d) (spread es)
  spread_settled [] h = tt
  spread_settled (e ∷ es) h = each_append (Settled d) e.1 (spread es) h.0.settled (spread_settled es h.1)

  spread_kinded : (es : List (Var × List FlatTerm)) → AllByRecursion Stands es → AllByRecursion (λ q. HasKind d (plain q) k) (spread es)
  spread_kinded [] h = tt
  spread_kinded (e ∷ es) h = each_append (λ q. HasKind d (plain q) k) e.1 (spread es) h.0.kinded (spread_kinded es h.1)

  left_nil : (l m : List FlatTerm) → l ++ m ≡ [] → l ≡ []
  left_nil [] m e = refl
  left_nil (x ∷ l) m e = cc

  -- the value of the sum of the variables is the sum of all pieces
  pub value_of_sum : (es : List (Var × List FlatTerm)) → AllByRecursion Stands es → (variables_in es ≡ [] → HasIdentity d f) → inst d w (sum d f (variables_in es)) ≡ sum d f (spread es)
  value_of_sum es h named = inst_sum d w flat.settled f assoc (variables_in es) named ∙ sum_same_counts d f (all_parts d f (map (inst d w) (variables_in es))) (spread es) (same es h)
    where
      same : (es : List (Var × List FlatTerm)) → AllByRecursion Stands es → SameCounts (all_parts d f (map (inst d w) (variables_in es))) (spread es)
      same [] h q = refl
      same (e ∷ es) h q =
          let a = count_append q (parts d f (w e.0)) (all_parts d f (map (inst d w) (variables_in es))) in
          let b = count_append q e.1 (spread es) in
          let g = ap (λ v. count q (parts d f v)) h.0.value ∙ ap (count q) (parts_sum d f e.1 h.0.pieces) ∙ count_sort q e.1 in
          let rest = same es h.1 q in
          omega (arith, a, b, g, rest)

  own_keeps : KeepsKindsOfVariables d (λ x. x.sort)
  own_keeps x i = refl

  sum_kinded : (l : List FlatTerm) → (l ≡ [] → HasIdentity d f) → AllByRecursion (λ q. HasKind d (plain q) k) l → HasKind d (plain (sum d f l)) k
  sum_kinded [] n h =
      let i = n refl in
      subst (HasKind d (plain (empty_sum d f (identity (axioms d f))))) gives
      (subst (λ o. HasKind d (plain (empty_sum d f o)) (kind d r.result)) (sym i.1) (good.fits.identity f i.0 r i.1 listed))
  sum_kinded (x ∷ xs) n h = sum_of_forms_of_kind d good.fits f assoc k r listed gives x xs h

  of_kind : (env : Var → SortId) → KeepsKindsOfVariables d env → (t : FlatTerm) → Settled d t → HasKind d (plain t) k → IsOfKind d f (sort_in d env t)
  of_kind env keeps t h j = record { rank = r; listed = listed; kind_is = sort_in-kind d good env keeps t h k j ∙ sym gives }

  some_summand : (l : List FlatTerm) → (l ≡ [] → ⊥) → AllByRecursion (IsPiece d f) l → parts d f (sum d f l) ≡ [] → ⊥
  some_summand l n p e = n (sort_is_nil l (sym (parts_sum d f l p) ∙ e))

  -- pieces of a sum, of which there are some
  record ArePieces (l : List FlatTerm) : Type 0 where
    are : AllByRecursion (IsPiece d f) l
    settled : AllByRecursion (Settled d) l
    kinded : AllByRecursion (λ q. HasKind d (plain q) k) l
    some : l ≡ [] → ⊥

  pieces_settled : (l : List FlatTerm) → ArePieces l → Settled d (sum d f l)
  pieces_settled l h = sum_settled d f assoc l h.are h.settled (λ e. absurd (h.some e))

  pieces_kinded : (l : List FlatTerm) → ArePieces l → HasKind d (plain (sum d f l)) k
  pieces_kinded l h = sum_kinded l (λ e. absurd (h.some e)) h.kinded

  pieces_of_kind : (l : List FlatTerm) → ArePieces l → IsOfKind d f (least_sort d (sum d f l))
  pieces_of_kind l h = of_kind (λ x. x.sort) own_keeps (sum d f l) (pieces_settled l h) (pieces_kinded l h)

  pieces_take : (l m : List FlatTerm) → ArePieces l → ArePieces m → TakesKinds d f (least_sort d (sum d f l) ∷ least_sort d (sum d f m) ∷ [])
  pieces_take l m hl hm = TakesKinds-pair d good f (least_sort d (sum d f l)) (least_sort d (sum d f m)) assoc (pieces_of_kind l hl) (pieces_of_kind m hm)

  -- f over the least sorts of two sums gives no sort above that of the sum of all their pieces
  over_two : (l m : List FlatTerm) → ArePieces l → ArePieces m → AtOrBelow d (result d f (least_sort d (sum d f l) ∷ least_sort d (sum d f m) ∷ [])) (least_sort d (sum d f (l ++ m)))
  over_two l m hl hm =
      let a = sum d f l in
      let b = sum d f m in
      let exact = sort_of_build d good (λ z. z.sort) own_keeps f (a ∷ b ∷ []) (pieces_settled l hl, (pieces_settled m hm, tt)) (some_summand l hl.some hl.are, (some_summand m hm.some hm.are, tt)) k
      (two_of_kind d good.fits f assoc k r listed gives (plain a) (plain b) (pieces_kinded l hl) (pieces_kinded m hm)) in
      AtOrBelow-from_same d (sym (ap (least_sort d) (sum_of_two d f assoc l m hl.are hm.are) ∙ exact))

  -- sorts of variables, which are the values' least sorts for those of the entries
  module _ (upper : Var → SortId) (upper_keeps : KeepsKindsOfVariables d upper) where
    abbrev pub HasValueSort : Var × List FlatTerm → Type 0
    HasValueSort e = upper e.0 ≡ least_sort d (w e.0)

    abbrev HasPieces : Var × List FlatTerm → Type 0
    HasPieces e = e.1 ≡ [] → ⊥

    -- where each variable has pieces, the sum of the variables has no least sort above that of the sum of all pieces
    sort_of_sum : (e : Var × List FlatTerm) (es : List (Var × List FlatTerm)) → AllByRecursion Stands (e ∷ es) → AllByRecursion HasValueSort (e ∷ es) → AllByRecursion HasPieces (e ∷ es)
        → AtOrBelow d (sort_in d upper (sum d f (variables_in (e ∷ es)))) (least_sort d (sum d f (spread (e ∷ es))))
    sort_of_sum e [] h a n = AtOrBelow-from_same d (a.0 ∙ ap (least_sort d) (h.0.value ∙ ap (sum d f) (sym (append-nil e.1))))
    sort_of_sum e (o ∷ es) h a n =
        let vs = variables_in (o ∷ es) in
        let zs = spread (o ∷ es) in
        let x = fvar e.0 in
        let some_vs : vs ≡ [] → ⊥ = λ m. cc in
        let named : vs ≡ [] → HasIdentity d f = λ m. absurd (some_vs m) in
        let left_settled = sum_settled d f assoc vs (variable_pieces (o ∷ es)) (variables_settled (o ∷ es)) named in
        let left_kinded = sum_kinded vs named (variables_kinded (o ∷ es) h.1) in
        let here : ArePieces e.1 = record { are = h.0.pieces; settled = h.0.settled; kinded = h.0.kinded; some = n.0 } in
        let rest : ArePieces zs = record {
          are = spread_pieces (o ∷ es) h.1;
          settled = spread_settled (o ∷ es) h.1;
          kinded = spread_kinded (o ∷ es) h.1;
          some = λ m. n.1.0 (left_nil o.1 (spread es) m);
        } in
        let lower = sort_lowers d good upper upper_keeps f (x ∷ sum d f vs ∷ []) (tt, (left_settled, tt)) k (two_of_kind d good.fits f assoc k r listed gives (plain x) (plain (sum d f vs)) h.0.variable left_kinded) in
        let between = result_monotone d good f (upper e.0 ∷ sort_in d upper (sum d f vs) ∷ []) (least_sort d (sum d f e.1) ∷ least_sort d (sum d f zs) ∷ [])
        (AtOrBelow-from_same d (a.0 ∙ ap (least_sort d) h.0.value), (sort_of_sum o es h.1 a.1 n.1, tt)) (pieces_take e.1 zs here rest) in
        subst (λ t. AtOrBelow d (sort_in d upper t) (least_sort d (sum d f (e.1 ++ zs)))) (sym (sum_of_two d f assoc (x ∷ []) vs (refl, tt) (variable_pieces (o ∷ es))))
        (AtOrBelow-trans d (AtOrBelow-trans d lower between) (over_two e.1 zs here rest))

    module _ (s : SortId) (of : IsOfKind d f s) where
      -- without pieces it stands for the identity, which the sort absorbs
      abbrev pub AbsorbsNothing : Var × List FlatTerm → Type 0
      AbsorbsNothing e = e.1 ≡ [] → Absorbing d f s

      -- a variable without pieces leaves a sum below a sort that absorbs the identity
      one_more : (e : Var × List FlatTerm) → Stands e → HasValueSort e → e.1 ≡ [] → Absorbing d f s → (l : List FlatTerm) → AllByRecursion (IsPiece d f) l → AllByRecursion (Settled d) l → AllByRecursion (λ q. HasKind d (plain q) k) l
          → AtOrBelow d (sort_in d upper (sum d f l)) s → AtOrBelow d (sort_in d upper (sum d f (fvar e.0 ∷ l))) s
      one_more e h a empty n l are settled kinded below =
          let x = fvar e.0 in
          let unit = result d n.unit [] in
          let named : (m : List FlatTerm) → m ≡ [] → HasIdentity d f = λ m z. h.some empty in
          let nothing : least_sort d (sum d f []) ≡ unit = ap (λ o. least_sort d (empty_sum d f o)) n.is_identity in
          let sort_is : upper e.0 ≡ unit = a ∙ ap (least_sort d) (h.value ∙ ap (sum d f) empty) ∙ nothing in
          let unit_kind : IsOfKind d f unit = subst (IsOfKind d f) nothing (of_kind (λ z. z.sort) own_keeps (sum d f []) (sum_settled d f assoc [] tt tt (named [])) (sum_kinded [] (named []) tt)) in
          let takes = TakesKinds-pair d good f unit s assoc unit_kind of in
          let lower = sort_lowers d good upper upper_keeps f (x ∷ sum d f l ∷ []) (tt, (sum_settled d f assoc l are settled (named l), tt)) k
          (two_of_kind d good.fits f assoc k r listed gives (plain x) (plain (sum d f l)) h.variable (sum_kinded l (named l) kinded)) in
          let between = result_monotone d good f (upper e.0 ∷ sort_in d upper (sum d f l) ∷ []) (unit ∷ s ∷ []) (AtOrBelow-from_same d sort_is, (below, tt)) takes in
          let swap = result_swap d good f unit s (identity_commutes (axioms d f) n.unit n.is_identity) takes in
          subst (λ t. AtOrBelow d (sort_in d upper t) s) (sym (sum_of_two d f assoc (x ∷ []) l (refl, tt) are))
          (AtOrBelow-trans d (AtOrBelow-trans d lower between) (AtOrBelow-trans d (AtOrBelow-from_same d swap) n.absorbs))

      empty_sort : (o : Option OpId) → sort_in d upper (empty_sum d f o) ≡ least_sort d (empty_sum d f o)
      empty_sort None = refl
      empty_sort (Some e) = refl

      -- the same, with entries that have pieces put by
      below_sort : (es done : List (Var × List FlatTerm)) → AllByRecursion Stands es → AllByRecursion HasValueSort es → AllByRecursion AbsorbsNothing es
          → AllByRecursion Stands done → AllByRecursion HasValueSort done → AllByRecursion HasPieces done
          → AtOrBelow d (least_sort d (sum d f (spread done ++ spread es))) s → AtOrBelow d (sort_in d upper (sum d f (variables_in es ++ variables_in done))) s
      below_sort [] [] h a n hd ad nd b = AtOrBelow-trans d (AtOrBelow-from_same d (empty_sort (identity (axioms d f)))) b
      below_sort [] (e ∷ done) h a n hd ad nd b =
          AtOrBelow-trans d (sort_of_sum e done hd ad nd) (subst (λ l. AtOrBelow d (least_sort d (sum d f l)) s) (append-nil (spread (e ∷ done))) b)
      below_sort ((x, []) ∷ es) done h a n hd ad nd b =
          one_more (x, []) h.0 a.0 refl (n.0 refl) (variables_in es ++ variables_in done)
          (each_append (IsPiece d f) (variables_in es) (variables_in done) (variable_pieces es) (variable_pieces done))
          (each_append (Settled d) (variables_in es) (variables_in done) (variables_settled es) (variables_settled done))
          (each_append (λ q. HasKind d (plain q) k) (variables_in es) (variables_in done) (variables_kinded es h.1) (variables_kinded done hd))
          (below_sort es done h.1 a.1 n.1 hd ad nd b)
      below_sort ((x, p ∷ ps) ∷ es) done h a n hd ad nd b =
          let before = variables_in es ++ (fvar x ∷ variables_in done) in
          let after = fvar x ∷ (variables_in es ++ variables_in done) in
          let given = spread done ++ ((p ∷ ps) ++ spread es) in
          let wanted = ((p ∷ ps) ++ spread done) ++ spread es in
          let shifted : SameCounts before after = λ q. (
          let i = count_append q (variables_in es) (fvar x ∷ variables_in done) in
          let j = count_append q (variables_in es) (variables_in done) in
          omega (arith, i, j)) in
          let swapped : SameCounts given wanted = λ q. (
          let i = count_append q (spread done) ((p ∷ ps) ++ spread es) in
          let j = count_append q (p ∷ ps) (spread es) in
          let m = count_append q ((p ∷ ps) ++ spread done) (spread es) in
          let o = count_append q (p ∷ ps) (spread done) in
          omega (arith, i, j, m, o)) in
          subst (λ t. AtOrBelow d (sort_in d upper t) s) (sum_same_counts d f before after shifted)
          (below_sort es ((x, p ∷ ps) ∷ done) h.1 a.1 n.1 (h.0, hd) (a.0, ad) ((λ m. cc), nd) (subst (λ t. AtOrBelow d (least_sort d t) s) (sum_same_counts d f given wanted swapped) b))

      -- where what has no pieces is absorbed by a sort that the sum of all pieces has, the sum of the variables has it too
      pub sum_below : (es : List (Var × List FlatTerm)) → AllByRecursion Stands es → AllByRecursion HasValueSort es → AllByRecursion AbsorbsNothing es
          → AtOrBelow d (least_sort d (sum d f (spread es))) s → AtOrBelow d (sort_in d upper (sum d f (variables_in es))) s
      sum_below es h a n b = subst (λ l. AtOrBelow d (sort_in d upper (sum d f l)) s) (append-nil (variables_in es)) (below_sort es [] h a n tt tt tt b)
