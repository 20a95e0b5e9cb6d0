-- What outlooks say of the shapes of terms.
use Rattle.std.proofs.Common.{◌≡◌, suc, ◌⊎◌, Bool, true, false, List, [], ◌∷◌, ◌++◌, map, length, get_or, arith, Option, Some, None, refl, sym, ap, ◌∙◌, subst, inl, inr}
use Rattle.std.specs.Prelude.{if◌then◌else◌, MatchOption}
use Rattle.std.specs.List.{Contains, All, AllZip, list_any, list_all}
use Rattle.std.proofs.lemmas.Bool.{false≢true, and_from, and_right}
use Rattle.std.proofs.lemmas.List.Elements.{All-cons, All-nil, All-head, All-tail}
use Rattle.fvn_base.proofs.Membership.{list_all_gives}
use Rattle.fvn_terms.specs.declared.plain.Var.{Var}
use Rattle.fvn_terms.specs.declared.plain.OpId.{OpId}
use Rattle.fvn_terms.specs.declared.plain.SortId.{SortId}
use Rattle.fvn_terms.specs.declared.plain.Plain.{Plain}
use Rattle.fvn_terms.specs.declared.declarations.Rank.{Rank}
use Rattle.fvn_terms.specs.declared.declarations.Declarations.{Declarations}
use Rattle.fvn_terms.specs.Term.{Term, Terms, var, app, none, more}
use Rattle.fvn_terms.specs.Plain.{term, terms}
use Rattle.fvn_terms.specs.Signature.{kind, declared, axioms, AtOrBelow, same, HasKind, HaveKinds}
use Rattle.fvn_terms.specs.Equality.{identity}
use Rattle.fvn_forms.specs.SortOrder.{at_or_below}
use Rattle.fvn_forms.specs.Ranks.{result, ranks_of}
use Rattle.fvn_forms.specs.Good.{IsGood, TakesKinds, IsOfKind}
use Rattle.fvn_forms.proofs.SortOrder.{AtOrBelow-trans, AtOrBelow-one_kind}
use Rattle.fvn_forms.proofs.SortTests.{at_or_below-true, at_or_below-complete}
use Rattle.fvn_forms.proofs.Results.{result_monotone, result_swap, result-kind, result-is}
use Rattle.fvn_forms.proofs.Sums.{same_op_is}
use Rattle.fvn_terms.proofs.AxiomWords.{identity_associates, identity_commutes}
use Rattle.fvn_rewrite_laws.specs.declared.shapes.Root.{Root}
use Rattle.fvn_rewrite_laws.specs.declared.shapes.Root.TheVariants.{Variable, Constant, Compound}
use Rattle.fvn_rewrite_laws.specs.declared.shapes.Shape.{Shape}
use Rattle.fvn_rewrite_laws.specs.Shapes.{is_root_of, sorts_of, compound, shape_over, shape_in, shapes_in}
use Rattle.fvn_rewrite_laws.specs.Identities.{identities, is_listed_op}
use Rattle.fvn_rewrite_laws.proofs.Identities.{identity_listed, listed_op}
use Rattle.fvn_cohere.specs.declared.outlooks.Outlook.{Outlook}
use Rattle.fvn_cohere.specs.inner.Searching.{is_variable_root}
use Rattle.fvn_cohere.specs.inner.Outlooks.{is_constant_root, is_at_least, may_serve, is_below_rank, lows_of, highs_of, HasConstantSort, AreAllowed, IsLow, Suits, AreArguments, IsJoined, Fills, offered}
use Rattle.fvn_cohere.proofs.Tests.{any_from}

-- the root of an operator's identity
root_identity : (i : Option OpId) (root : Root) → is_root_of i root ≡ true → (e : OpId) × ((i ≡ Some e) × (root ≡ Constant e))
root_identity None root h = absurd (false≢true h)
root_identity (Some e) Variable h = absurd (false≢true h)
root_identity (Some e) (Constant g) h = (e, (refl, ap Constant (sym (same_op_is e g h))))
root_identity (Some e) Compound h = absurd (false≢true h)

compound_constant : (e : OpId) → Compound ≡ Constant e → ⊥
compound_constant e h = cc

compound_variable : Compound ≡ Variable → ⊥
compound_variable h = cc

module _ (d : Declarations) where
  -- a lower bound of a sort is one of those above it
  pub low_above : (low : Option SortId) (s q : SortId) → IsLow d low s → AtOrBelow d s q → IsLow d low q
  low_above None s q h a = tt
  low_above (Some l) s q h a = AtOrBelow-trans d h a

  -- bounds that are known, place by place
  pub known_lows : (qs ss : List SortId) → AllZip (IsLow d) (map Some qs) ss → AllZip (AtOrBelow d) qs ss
  known_lows [] [] h = tt
  known_lows [] (s ∷ ss) h = absurd h
  known_lows (q ∷ qs) [] h = absurd h
  known_lows (q ∷ qs) (s ∷ ss) h = (h.0, known_lows qs ss h.1)

  pub lows_suit : (parts : List Outlook) (shapes : List Shape) → AllZip (Suits d) parts shapes → AllZip (IsLow d) (lows_of parts) (sorts_of shapes)
  lows_suit [] [] h = tt
  lows_suit [] (s ∷ ss) h = absurd h
  lows_suit (o ∷ os) [] h = absurd h
  lows_suit (o ∷ os) (s ∷ ss) h = (h.0.low, lows_suit os ss h.1)

  pub highs_suit : (parts : List Outlook) (shapes : List Shape) → AllZip (Suits d) parts shapes → AllZip (AtOrBelow d) (sorts_of shapes) (highs_of parts)
  highs_suit [] [] h = tt
  highs_suit [] (s ∷ ss) h = absurd h
  highs_suit (o ∷ os) [] h = absurd h
  highs_suit (o ∷ os) (s ∷ ss) h = (h.0.high, highs_suit os ss h.1)

  -- a rank with another number of arguments does not serve
  pub none_serves : (parts : List Outlook) (qs : List SortId) → (length parts ≡ length qs → ⊥) → may_serve d (lows_of parts) qs ≡ false
  none_serves [] [] h = absurd (h refl)
  none_serves [] (q ∷ qs) h = refl
  none_serves (p ∷ ps) [] h = refl
  none_serves (p ∷ ps) (q ∷ qs) h = and_right (is_at_least d p.low q) (may_serve d (lows_of ps) qs) (none_serves ps qs (λ e. h (ap suc e)))

  constant_compound : (s : SortId) → HasConstantSort d (compound s)
  constant_compound s e h = absurd (compound_constant e h)

  -- the outlook of an operator over arguments, none of which is its identity
  pub plain_suits : (s : SortId) (o : Outlook) → IsLow d o.low s → AtOrBelow d s o.high → Suits d o (compound s)
  plain_suits s o low high = record {
    variable = λ h. absurd (compound_variable h);
    identity = λ e c h. absurd (compound_constant e h);
    low = low;
    high = high;
  }

  -- the outlook of a shape
  pub shape_suits : (s : Shape) (v i : Bool) → v ≡ is_variable_root s.root → i ≡ is_constant_root s.root → Suits d (record { variable = v; identity = i; low = Some s.sort; high = s.sort }) s
  shape_suits s v i p q = record {
    variable = λ h. p ∙ ap is_variable_root h;
    identity = λ e c h. q ∙ ap is_constant_root h;
    low = same;
    high = same;
  }

  -- the outlook of a constant
  pub constant_suits : (f : OpId) (es : List OpId) (i : Bool) (s : SortId) → es ≡ identities d → i ≡ is_listed_op es f → s ≡ result d f [] →
      Suits d (record { variable = false; identity = i; low = Some s; high = s }) (record { root = Constant f; sort = result d f [] })
  constant_suits f es i s p q is = record {
    variable = λ h. let no : Constant f ≡ Variable = h in cc;
    identity = λ e c h. let r : f ≡ e = let no : Constant f ≡ Constant e = h in cc in q ∙ ap (λ l. is_listed_op l f) p ∙ ap (is_listed_op (identities d)) r ∙ listed_op (identities d) e c;
    low = subst (λ z. AtOrBelow d z (result d f [])) (sym is) same;
    high = subst (AtOrBelow d (result d f [])) (sym is) same;
  }

  pub none_suits : (f : OpId) (parts : List Outlook) (o : Outlook) → length parts ≡ 0 → Suits d o (shape_over d f []) → (shapes : List Shape) → AllZip (Suits d) parts shapes → Suits d o (shape_over d f shapes)
  none_suits f [] o e h [] w = h
  none_suits f [] o e h (s ∷ ss) w = absurd w
  none_suits f (p ∷ ps) o e h shapes w = absurd (omega (arith, e))

  -- one argument more
  pub suits_push : (parts : List Outlook) (shapes : List Shape) (o : Outlook) (s : Shape) → AllZip (Suits d) parts shapes → Suits d o s → AllZip (Suits d) (parts ++ o ∷ []) (shapes ++ s ∷ [])
  suits_push [] [] o s h p = (p, tt)
  suits_push [] (t ∷ ss) o s h p = absurd h
  suits_push (q ∷ ps) [] o s h p = absurd h
  suits_push (q ∷ ps) (t ∷ ss) o s h p = (h.0, suits_push ps ss o s h.1 p)

  -- what is known of a shape of this kind
  abbrev pub IsFitting : Shape → SortId → Type 0
  IsFitting s k = (kind d s.sort ≡ k) × HasConstantSort d s

  fitting_kinds : (shapes : List Shape) (ks : List SortId) → AllZip IsFitting shapes ks → map (kind d) (sorts_of shapes) ≡ ks
  fitting_kinds [] [] h = refl
  fitting_kinds [] (k ∷ ks) h = absurd h
  fitting_kinds (s ∷ ss) [] h = absurd h
  fitting_kinds (s ∷ ss) (k ∷ ks) h = ap (λ z. z ∷ map (kind d) (sorts_of ss)) h.0.0 ∙ ap (λ l. k ∷ l) (fitting_kinds ss ks h.1)

  fitting_constants : (shapes : List Shape) (ks : List SortId) → AllZip IsFitting shapes ks → All (HasConstantSort d) shapes
  fitting_constants [] [] h = All-nil (HasConstantSort d)
  fitting_constants [] (k ∷ ks) h = absurd h
  fitting_constants (s ∷ ss) [] h = absurd h
  fitting_constants (s ∷ ss) (k ∷ ks) h = All-cons (HasConstantSort d) s ss h.0.1 (fitting_constants ss ks h.1)

  module _ (good : IsGood d) where
    -- lower bounds of the arguments that are known give one of the result
    pub low_result : (f : OpId) (qs ss : List SortId) (low : Option SortId) → low ≡ Some (result d f qs) → AllZip (IsLow d) (map Some qs) ss → TakesKinds d f ss → IsLow d low (result d f ss)
    low_result f qs ss low e h t = subst (λ l. IsLow d l (result d f ss)) (sym e) (result_monotone d good f qs ss (known_lows qs ss h) t)

    -- a rank that serves may serve
    serving : (lows : List (Option SortId)) (ss qs : List SortId) → AllZip (IsLow d) lows ss → AllZip (AtOrBelow d) ss qs → may_serve d lows qs ≡ true
    serving [] [] [] h k = refl
    serving [] [] (q ∷ qs) h k = absurd k
    serving [] (s ∷ ss) qs h k = absurd h
    serving (l ∷ lows) [] qs h k = absurd h
    serving (l ∷ lows) (s ∷ ss) [] h k = absurd k
    serving (l ∷ lows) (s ∷ ss) (q ∷ qs) h k = and_from (is_at_least d l q) (may_serve d lows qs) (above l h.0) (serving lows ss qs h.1 k.1) where
      above : (l : Option SortId) → IsLow d l s → is_at_least d l q ≡ true
      above None i = refl
      above (Some p) i = at_or_below-complete d (AtOrBelow-trans d i k.0)

    -- a sort at or below the results of all ranks that may serve is one of the result
    pub low_by_rank : (f : OpId) (lows : List (Option SortId)) (low : SortId) (ss : List SortId) → list_all (is_below_rank d lows low) (ranks_of d f) ≡ true → AllZip (IsLow d) lows ss → TakesKinds d f ss → AtOrBelow d low (result d f ss)
    low_by_rank f lows low ss all h t =
        let r = (result-is d good f ss t).serves in
        let below : is_below_rank d lows low r.rank ≡ true = list_all_gives (is_below_rank d lows low) (ranks_of d f) r.rank all r.listed in
        subst (AtOrBelow d low) r.gives
        (at_or_below-true d low r.rank.result
        (sym (ap (λ b. if b then at_or_below d low r.rank.result else true) (serving lows ss r.rank.args h r.fits)) ∙ below))

    -- upper bounds of the arguments give one
    pub high_result : (f : OpId) (ss hs : List SortId) → AllZip (AtOrBelow d) ss hs → TakesKinds d f ss → AtOrBelow d (result d f ss) (result d f hs)
    high_result f ss hs h t = result_monotone d good f ss hs h (takes_higher ss hs h t) where
      one_kind : (ss hs : List SortId) → AllZip (AtOrBelow d) ss hs → map (kind d) hs ≡ map (kind d) ss
      one_kind [] [] h = refl
      one_kind [] (q ∷ hs) h = absurd h
      one_kind (s ∷ ss) [] h = absurd h
      one_kind (s ∷ ss) (q ∷ hs) h = ap (λ k. k ∷ map (kind d) hs) (sym (AtOrBelow-one_kind d good.kinded h.0)) ∙ ap (λ l. kind d s ∷ l) (one_kind ss hs h.1)

      takes_higher : (ss hs : List SortId) → AllZip (AtOrBelow d) ss hs → TakesKinds d f ss → TakesKinds d f hs
      takes_higher ss hs h t = record { rank = t.rank; listed = t.listed; kinds = one_kind ss hs h ∙ t.kinds }

    -- beside an identity, the other argument is at or below the sum
    module _ (f e : OpId) (a b : Shape) (is : identity (axioms d f) ≡ Some e) (takes : TakesKinds d f (a.sort ∷ b.sort ∷ [])) where
      both_kinds : kind d a.sort ∷ kind d b.sort ∷ [] ≡ kind d takes.rank.result ∷ kind d takes.rank.result ∷ []
      both_kinds = takes.kinds ∙ good.fits.associative f takes.rank (identity_associates (axioms d f) e is) takes.listed

      first_kind : IsOfKind d f a.sort
      first_kind = record { rank = takes.rank; listed = takes.listed; kind_is = let p = both_kinds in cc }

      second_kind : IsOfKind d f b.sort
      second_kind = record { rank = takes.rank; listed = takes.listed; kind_is = let p = both_kinds in cc }

      pub second_below : a.sort ≡ result d e [] → AtOrBelow d b.sort (result d f (a.sort ∷ b.sort ∷ []))
      second_below p =
          subst (AtOrBelow d b.sort)
          (ap (λ s. result d f (b.sort ∷ s ∷ [])) (sym p) ∙ sym (result_swap d good f a.sort b.sort (identity_commutes (axioms d f) e is) takes))
          (good.collapse f e b.sort is second_kind)

      pub first_below : b.sort ≡ result d e [] → AtOrBelow d a.sort (result d f (a.sort ∷ b.sort ∷ []))
      first_below p =
          subst (λ s. AtOrBelow d a.sort (result d f (a.sort ∷ s ∷ []))) (sym p) (good.collapse f e a.sort is first_kind)

    -- the outlook of two arguments, of which one may be the identity
    pub joined_suits : (f : OpId) (a b : Outlook) (low : Option SortId) (high : SortId) (o : Outlook) → IsJoined d a b low high o →
        (x y : Shape) → Suits d a x → Suits d b y → AreArguments d f (x ∷ y ∷ []) →
        IsLow d low (result d f (x.sort ∷ y.sort ∷ [])) → AtOrBelow d (result d f (x.sort ∷ y.sort ∷ [])) high →
        Suits d o (shape_over d f (x ∷ y ∷ []))
    joined_suits f a b low high o j x y p q args l h = go (is_root_of i x.root) refl (is_root_of i y.root) refl
      where
        i : Option OpId
        i = identity (axioms d f)

        constants : HasConstantSort d x × HasConstantSort d y
        constants = (two_heads x y args.constants) where
          two_heads : (x y : Shape) → All (HasConstantSort d) (x ∷ y ∷ []) → HasConstantSort d x × HasConstantSort d y
          two_heads x y h = (All-head (HasConstantSort d) x (y ∷ []) h, All-head (HasConstantSort d) y [] (All-tail (HasConstantSort d) x (y ∷ []) h))

        go : (v : Bool) → is_root_of i x.root ≡ v → (w : Bool) → is_root_of i y.root ≡ w → Suits d o (if v then y else if w then x else compound (result d f (x.sort ∷ y.sort ∷ [])))
        go true u w v =
            let r = root_identity i x.root u in
            j.first_vanishes y (p.identity r.0 (identity_listed d f r.0 r.1.0) r.1.1) q
            (AtOrBelow-trans d (second_below f r.0 x y r.1.0 args.kinds (constants.0 r.0 r.1.1)) h)
        go false u true v =
            let r = root_identity i y.root v in
            j.second_vanishes x (q.identity r.0 (identity_listed d f r.0 r.1.0) r.1.1) p
            (AtOrBelow-trans d (first_below f r.0 x y r.1.0 args.kinds (constants.1 r.0 r.1.1)) h)
        go false u false v = j.stays (result d f (x.sort ∷ y.sort ∷ [])) l h

    -- the bounds of an operator over arguments
    module _ (f : OpId) (parts : List Outlook) (low : Option SortId) (high : SortId) (lows : (ss : List SortId) → AllZip (IsLow d) (lows_of parts) ss → TakesKinds d f ss → IsLow d low (result d f ss)) (highs : high ≡ result d f (highs_of parts)) where
      bounds : (shapes : List Shape) → AllZip (Suits d) parts shapes → TakesKinds d f (sorts_of shapes) → IsLow d low (result d f (sorts_of shapes)) × AtOrBelow d (result d f (sorts_of shapes)) high
      bounds shapes h t = (
        lows (sorts_of shapes) (lows_suit parts shapes h) t,
        subst (AtOrBelow d (result d f (sorts_of shapes))) (sym highs) (high_result f (sorts_of shapes) (highs_of parts) (highs_suit parts shapes h) t),
      )

      -- arguments of which none can be an identity
      pub over_plain : (length parts ≡ 0 → ⊥) → (length parts ≡ 2 → ⊥) ⊎ ((e : OpId) → identity (axioms d f) ≡ Some e → ⊥) →
          (shapes : List Shape) → AllZip (Suits d) parts shapes → AreArguments d f shapes → Suits d (record { variable = false; identity = false; low = low; high = high }) (shape_over d f shapes)
      over_plain some free shapes h args = go parts some free shapes h (bounds shapes h args.kinds)
        where
          o : Outlook
          o = record { variable = false; identity = false; low = low; high = high }

          no_root : ((e : OpId) → identity (axioms d f) ≡ Some e → ⊥) → (root : Root) → is_root_of (identity (axioms d f)) root ≡ false
          no_root n root = at (is_root_of (identity (axioms d f)) root) refl where
            at : (v : Bool) → is_root_of (identity (axioms d f)) root ≡ v → v ≡ false
            at false p = refl
            at true p = let r = root_identity (identity (axioms d f)) root p in absurd (n r.0 r.1.0)

          two : (a b : Shape) → ((e : OpId) → identity (axioms d f) ≡ Some e → ⊥) → compound (result d f (a.sort ∷ b.sort ∷ [])) ≡ shape_over d f (a ∷ b ∷ [])
          two a b n =
              sym (
              ap (λ v. if v then b else if is_root_of (identity (axioms d f)) b.root then a else compound (result d f (a.sort ∷ b.sort ∷ []))) (no_root n a.root)
              ∙ ap (λ v. if v then a else compound (result d f (a.sort ∷ b.sort ∷ []))) (no_root n b.root))

          go : (parts : List Outlook) → (length parts ≡ 0 → ⊥) → (length parts ≡ 2 → ⊥) ⊎ ((e : OpId) → identity (axioms d f) ≡ Some e → ⊥) →
              (shapes : List Shape) → AllZip (Suits d) parts shapes → IsLow d low (result d f (sorts_of shapes)) × AtOrBelow d (result d f (sorts_of shapes)) high → Suits d o (shape_over d f shapes)
          go [] some free shapes h w = absurd (some refl)
          go (p ∷ ps) some free [] h w = absurd h
          go (p ∷ ps) some free (a ∷ []) h w = plain_suits (result d f (a.sort ∷ [])) o w.0 w.1
          go (p ∷ []) some free (a ∷ b ∷ ss) h w = absurd h.1
          go (p ∷ q ∷ []) some (inl n) (a ∷ b ∷ ss) h w = absurd (n refl)
          go (p ∷ q ∷ []) some (inr n) (a ∷ b ∷ []) h w = subst (Suits d o) (two a b n) (plain_suits (result d f (a.sort ∷ b.sort ∷ [])) o w.0 w.1)
          go (p ∷ q ∷ []) some (inr n) (a ∷ b ∷ c ∷ ss) h w = absurd h.1.1
          go (p ∷ q ∷ r ∷ ps) some free (a ∷ b ∷ []) h w = absurd h.1.1
          go (p ∷ q ∷ r ∷ ps) some free (a ∷ b ∷ c ∷ ss) h w = plain_suits (result d f (sorts_of (a ∷ b ∷ c ∷ ss))) o w.0 w.1

      -- two arguments, of which one can be the identity
      pub over_joined : (a b o : Outlook) → length parts ≡ 2 → a ≡ get_or parts 0 a → b ≡ get_or parts 1 b → IsJoined d a b low high o →
          (shapes : List Shape) → AllZip (Suits d) parts shapes → AreArguments d f shapes → Suits d o (shape_over d f shapes)
      over_joined a b o long p q j shapes h args = go parts long p q shapes h args (bounds shapes h args.kinds)
        where
          go : (parts : List Outlook) → length parts ≡ 2 → a ≡ get_or parts 0 a → b ≡ get_or parts 1 b →
              (shapes : List Shape) → AllZip (Suits d) parts shapes → AreArguments d f shapes → IsLow d low (result d f (sorts_of shapes)) × AtOrBelow d (result d f (sorts_of shapes)) high → Suits d o (shape_over d f shapes)
          go [] long p q shapes h args w = absurd (omega (arith, long))
          go (r ∷ []) long p q shapes h args w = absurd (omega (arith, long))
          go (r ∷ s ∷ t ∷ ps) long p q shapes h args w = absurd (omega (arith, long))
          go (r ∷ s ∷ []) long p q [] h args w = absurd h
          go (r ∷ s ∷ []) long p q (x ∷ []) h args w = absurd h.1
          go (r ∷ s ∷ []) long p q (x ∷ y ∷ z ∷ ss) h args w = absurd h.1.1
          go (r ∷ s ∷ []) long p q (x ∷ y ∷ []) h args w =
              joined_suits f a b low high o j x y (subst (λ (z : Outlook). Suits d z x) (sym p) h.0) (subst (λ (z : Outlook). Suits d z y) (sym q) h.1.0) args w.0 w.1

    -- the kind of a shape over others
    over_fitting : (f : OpId) (shapes : List Shape) (r : Rank) (k : SortId) → Contains (declared d f).ranks r → kind d r.result ≡ k → AllZip IsFitting shapes (map (kind d) r.args) → IsFitting (shape_over d f shapes) k
    over_fitting f shapes r k listed is h = go shapes h (takes shapes h)
      where
        takes : (shapes : List Shape) → AllZip IsFitting shapes (map (kind d) r.args) → TakesKinds d f (sorts_of shapes)
        takes shapes h = record { rank = r; listed = listed; kinds = fitting_kinds shapes (map (kind d) r.args) h }

        over : (ss : List SortId) → TakesKinds d f ss → kind d (result d f ss) ≡ k
        over ss t = result-kind d good f ss r t listed ∙ is

        beside : (a b : Shape) → AllZip IsFitting (a ∷ b ∷ []) (map (kind d) r.args) → TakesKinds d f (a.sort ∷ b.sort ∷ []) → (v : Bool) → is_root_of (identity (axioms d f)) a.root ≡ v → (w : Bool) → is_root_of (identity (axioms d f)) b.root ≡ w → IsFitting (if v then b else if w then a else compound (result d f (a.sort ∷ b.sort ∷ []))) k
        beside a b h t true p w q = let e = root_identity (identity (axioms d f)) a.root p in (second (kinds_are e.0 e.1.0) h)
          where
            second : map (kind d) r.args ≡ k ∷ k ∷ [] → AllZip IsFitting (a ∷ b ∷ []) (map (kind d) r.args) → IsFitting b k
            second p h = (subst (λ l. AllZip IsFitting (a ∷ b ∷ []) l) p h).1.0

            kinds_are : (e : OpId) → identity (axioms d f) ≡ Some e → map (kind d) r.args ≡ k ∷ k ∷ []
            kinds_are e p = good.fits.associative f r (identity_associates (axioms d f) e p) listed ∙ ap (λ z. z ∷ z ∷ []) is
        beside a b h t false p true q = let e = root_identity (identity (axioms d f)) b.root q in (first (kinds_are e.0 e.1.0) h)
          where
            first : map (kind d) r.args ≡ k ∷ k ∷ [] → AllZip IsFitting (a ∷ b ∷ []) (map (kind d) r.args) → IsFitting a k
            first p h = (subst (λ l. AllZip IsFitting (a ∷ b ∷ []) l) p h).0

            kinds_are : (e : OpId) → identity (axioms d f) ≡ Some e → map (kind d) r.args ≡ k ∷ k ∷ []
            kinds_are e p = good.fits.associative f r (identity_associates (axioms d f) e p) listed ∙ ap (λ z. z ∷ z ∷ []) is
        beside a b h t false p false q = (over (a.sort ∷ b.sort ∷ []) t, constant_compound (result d f (a.sort ∷ b.sort ∷ [])))

        go : (shapes : List Shape) → AllZip IsFitting shapes (map (kind d) r.args) → TakesKinds d f (sorts_of shapes) → IsFitting (shape_over d f shapes) k
        go [] h t = (over [] t, λ e p. let q : f ≡ e = cc in ap (λ z. result d z []) q)
        go (a ∷ []) h t = (over (a.sort ∷ []) t, constant_compound (result d f (a.sort ∷ [])))
        go (a ∷ b ∷ []) h t = beside a b h t (is_root_of (identity (axioms d f)) a.root) refl (is_root_of (identity (axioms d f)) b.root) refl
        go (a ∷ b ∷ c ∷ ss) h t = (over (sorts_of (a ∷ b ∷ c ∷ ss)) t, constant_compound (result d f (sorts_of (a ∷ b ∷ c ∷ ss))))

    -- shapes of terms under a choice keep their kinds
    module _ (filled : Var → Shape) (allowed : AreAllowed d filled) where
      mutual
        pub fitting : (t : Term) (k : SortId) → HasKind d t k → IsFitting (shape_in d filled t) k
        fitting (var x) k h = (AtOrBelow-one_kind d good.kinded (allowed x).below ∙ h.1, (allowed x).constant)
        fitting (app f ts) k h = over_fitting f (shapes_in d filled ts) h.rank k h.listed h.result (fitting_all ts (map (kind d) h.rank.args) h.args)

        fitting_all : (ts : Terms) (ks : List SortId) → HaveKinds d ts ks → AllZip IsFitting (shapes_in d filled ts) ks
        fitting_all none [] h = tt
        fitting_all none (k ∷ ks) h = absurd h
        fitting_all (more t ts) [] h = absurd h
        fitting_all (more t ts) (k ∷ ks) h = (fitting t k h.0, fitting_all ts ks h.1)

      -- the arguments of a term
      pub arguments_fit : (f : OpId) (ts : Terms) (k : SortId) → HasKind d (app f ts) k → AreArguments d f (shapes_in d filled ts)
      arguments_fit f ts k h =
          let all = fitting_all ts (map (kind d) h.rank.args) h.args in
          record {
            kinds = record { rank = h.rank; listed = h.listed; kinds = fitting_kinds (shapes_in d filled ts) (map (kind d) h.rank.args) all };
            constants = fitting_constants (shapes_in d filled ts) (map (kind d) h.rank.args) all;
          }

-- the shapes of items
pub shapes_of_terms : (d : Declarations) (env : Var → Shape) (items : List Plain) → map (λ (t : Plain). shape_in d env (term t)) items ≡ shapes_in d env (terms items)
shapes_of_terms d env [] = refl
shapes_of_terms d env (t ∷ items) = ap (λ l. shape_in d env (term t) ∷ l) (shapes_of_terms d env items)

module _ (d : Declarations) (unchosen : List (Var × List Shape)) (env filled : Var → Shape) (x : Var) where
  -- a variable that is chosen
  pub chosen_suits : (s : Shape) (o : Outlook) → Fills d unchosen env filled → offered unchosen x ≡ None → s ≡ env x → Suits d o s → Suits d o (filled x)
  chosen_suits s o h gone is p =
      let kept : filled x ≡ env x = subst (λ c. MatchOption c (filled x ≡ env x) (λ shapes. Contains shapes (filled x))) gone (h.each x) in
      subst (Suits d o) (is ∙ sym kept) p

  -- and one that is not
  pub offered_suits : (shapes : List Shape) (i : Bool) (low : Option SortId) (high : SortId) → Fills d unchosen env filled → offered unchosen x ≡ Some shapes →
      i ≡ list_any (λ (o : Shape). is_constant_root o.root) shapes → ((o : Shape) → Contains shapes o → IsLow d low o.sort) → ((o : Shape) → Contains shapes o → AtOrBelow d o.sort x.sort → AtOrBelow d o.sort high) →
      Suits d (record { variable = true; identity = i; low = low; high = high }) (filled x)
  offered_suits shapes i low high h some p q r =
      let c : Contains shapes (filled x) = subst (λ c. MatchOption c (filled x ≡ env x) (λ shapes. Contains shapes (filled x))) some (h.each x) in
      record {
        variable = λ e. refl;
        identity = λ e w is. p ∙ any_from (λ (o : Shape). is_constant_root o.root) shapes (filled x) c (ap is_constant_root is);
        low = q (filled x) c;
        high = r (filled x) c (h.allowed x).below;
      }
