-- A form with another one in place of an argument, or within it.
use Rattle.std.proofs.Common.{◌≡◌, ℕ, zero, suc, ◌+◌, ◌<◌, List, [], ◌∷◌, ◌++◌, take, drop, length, get_or, Some, refl, sym, ap, ◌∙◌, subst, arith}
use Rattle.std.specs.Prelude.{slice_get}
use Rattle.std.specs.List.{AllByRecursion}
use Rattle.std.proofs.lemmas.Option.{slice_get_within, get_or_from_slice_get}
use Rattle.fvn_terms.specs.declared.plain.OpId.{OpId}
use Rattle.fvn_terms.specs.declared.declarations.Declarations.{Declarations}
use Rattle.fvn_terms.specs.Signature.{HasKind}
use Rattle.fvn_forms.specs.Flat.{FlatTerm, FlatTerms, fvar, fapp, fnone, fmore, fpack, funpack, plain}
use Rattle.fvn_forms.specs.Canon.{build, canon}
use Rattle.fvn_forms.specs.Settled.{Settled}
use Rattle.fvn_forms.specs.FitsKinds.{FitsKinds}
use Rattle.fvn_forms.proofs.Sums.{fpack-funpack, SettledAll-funpack}
use Rattle.fvn_forms.proofs.Eval.{canon_plain}
use Rattle.fvn_forms.proofs.ToCanon.{canon_of_kind}
use Rattle.fvn_flat.specs.Forms.{head_of, args_of}
use Rattle.fvn_flat.specs.FlatPlaces.{IsReplaced, IsReplacedAmong, here, inside}
use Rattle.fvn_flat.specs.Fits.{Fits, AllFit, Takes}
use Rattle.fvn_flat.proofs.Fitting.{canon_fits}
use Rattle.fvn_places.specs.Paths.{LeadsTo}
use Rattle.fvn_places.specs.Putting.{put_along, put_among, KeepsKindsOf, CanPut, IsPut, PutAs}
use Rattle.fvn_places.specs.inner.Arguments.{MayStandFor}
use Rattle.fvn_places.proofs.PathFacts.{leads_once}
use Rattle.fvn_places.proofs.Replacing.{split_at, each_replaced, before_each, takes_replaced, replaced_among, replaced_keeps, canon_replaced}

-- the arguments around one that is put in
put_around : (rest : List ℕ) (given : FlatTerm) (ts : FlatTerms) (place : ℕ) (argument w : FlatTerm) → slice_get (funpack ts) place ≡ Some argument → w ≡ put_along rest argument given →
    fpack (take place (funpack ts) ++ w ∷ drop (place + 1) (funpack ts)) ≡ put_among place rest ts given
put_around rest given ts place argument w is made =
    let on : suc place ≡ place + 1 = omega arith in
    subst (λ n. fpack (take place (funpack ts) ++ w ∷ drop n (funpack ts)) ≡ put_among place rest ts given) on (go ts place is)
  where
    go : (us : FlatTerms) (i : ℕ) → slice_get (funpack us) i ≡ Some argument → fpack (take i (funpack us) ++ w ∷ drop (suc i) (funpack us)) ≡ put_among i rest us given
    go fnone i e = cc
    go (fmore x xs) zero e =
        let q : x ≡ argument = cc in
        ap (λ y. fmore w y) (fpack-funpack xs) ∙ ap (λ y. fmore y xs) (made ∙ ap (λ z. put_along rest z given) (sym q))
    go (fmore x xs) (suc i) e = ap (fmore x) (go xs i e)

module _ (d : Declarations) (fits : FitsKinds d) where
  module _ (t : FlatTerm) (f : OpId) (head : head_of t ≡ Some f) (h : Fits d t) (place : ℕ) (u : FlatTerm) (m : MayStandFor d t place u) where
    around : args_of t ≡ take place (args_of t) ++ m.argument ∷ drop (place + 1) (args_of t)
    around = split_at (args_of t) place m.argument m.is

    pub within : place < length (args_of t)
    within = slice_get_within (args_of t) place m.argument m.is

    pub arguments_fit : AllFit d (args_of t) → AllFit d (take place (args_of t) ++ u ∷ drop (place + 1) (args_of t))
    arguments_fit all = each_replaced (Fits d) (take place (args_of t)) m.argument u (drop (place + 1) (args_of t)) (subst (AllFit d) around all) m.fits

    pub arguments_taken : Takes d f (take place (args_of t) ++ u ∷ drop (place + 1) (args_of t))
    arguments_taken = takes_replaced d fits (take place (args_of t)) m.argument u (drop (place + 1) (args_of t)) m.keeps t f head around h

  -- at the end of the path
  pub put_here : (t at given : FlatTerm) → t ≡ at → Fits d given → KeepsKindsOf d at given → IsPut d [] at t given given
  put_here t at given e h keeps = record {
    replaced = given;
    along = refl;
    kinded = h.kinded;
    replaces = subst (λ z. IsReplaced at given z given) (sym e) here;
    is = sym (canon_plain d given h.flat);
    fits = h;
    keeps = subst (λ z. KeepsKindsOf d z given) (sym e) keeps;
  }

  -- in an argument
  module _ (rest : List ℕ) (at given argument u whole : FlatTerm) (place : ℕ) (p : IsPut d rest at argument given u) (keeps : KeepsKindsOf d at given) where
    put_joined : (f : OpId) (joined : _) (ts : FlatTerms) → Fits d (fapp f joined ts) → slice_get (funpack ts) place ≡ Some argument → whole ≡ build d f (take place (funpack ts) ++ u ∷ drop (place + 1) (funpack ts)) → IsPut d (place ∷ rest) at (fapp f joined ts) given whole
    put_joined f joined ts h is built =
        let before = take place (funpack ts) in
        let after = drop (place + 1) (funpack ts) in
        let split : funpack ts ≡ before ++ argument ∷ after = split_at (funpack ts) place argument is in
        let settled = before_each (Settled d) before argument after (subst (AllByRecursion (Settled d)) split (SettledAll-funpack d ts h.flat.1)) in
        let us = fpack (before ++ p.replaced ∷ after) in
        let among : IsReplacedAmong at given ts us = subst (λ vs. IsReplacedAmong at given vs us) (sym (ap fpack split) ∙ fpack-funpack ts) (replaced_among p.replaces before after) in
        let is_whole : whole ≡ canon d (plain (fapp f joined us)) = built ∙ sym (canon_replaced d f before p.replaced u after settled.0 settled.1 (sym p.is) joined ts h.flat) in
        let kept : KeepsKindsOf d (fapp f joined ts) (fapp f joined us) = replaced_keeps d at given (fapp f joined ts) (fapp f joined us) keeps (inside among) in record {
          replaced = fapp f joined us;
          along = ap (fapp f joined) (put_around rest given ts place argument p.replaced is p.along);
          kinded = (h.kinded.0, kept h.kinded.0 h.kinded.1);
          replaces = inside among;
          is = is_whole;
          fits = subst (Fits d) (sym is_whole) (canon_fits d fits (plain (fapp f joined us)) (h.kinded.0, kept h.kinded.0 h.kinded.1));
          keeps = λ k i. subst (λ z. HasKind d (plain z) k) (sym is_whole) (canon_of_kind d fits (plain (fapp f joined us)) k (kept k i));
        }

    pub put_within : (t : FlatTerm) (f : OpId) → head_of t ≡ Some f → Fits d t → slice_get (args_of t) place ≡ Some argument → whole ≡ build d f (take place (args_of t) ++ u ∷ drop (place + 1) (args_of t)) → IsPut d (place ∷ rest) at t given whole
    put_within (fvar x) f head h is built = cc
    put_within (fapp g joined ts) f head h is built =
        let q : f ≡ g = cc in
        put_joined g joined ts h is (built ∙ ap (λ o. build d o (take place (funpack ts) ++ u ∷ drop (place + 1) (funpack ts))) q)

-- along a path
module _ (d : Declarations) (path : List ℕ) (t given : FlatTerm) (can : CanPut d path t given) where
  module _ (i : ℕ) (rest : List ℕ) (e : path ≡ i ∷ rest) where
    pub leads_further : LeadsTo (i ∷ rest) t can.at
    leads_further = subst (λ p. LeadsTo p t can.at) e can.leads

    pub next_argument : slice_get (args_of t) i ≡ Some leads_further.0
    next_argument = leads_further.1

    pub can_put_further : CanPut d rest leads_further.0 given
    can_put_further = record { at = can.at; leads = leads_further.2; fits = can.fits; keeps = can.keeps }

    pub argument_is : (ts : List FlatTerm) (u : FlatTerm) → ts ≡ args_of t → u ≡ get_or ts i u → u ≡ leads_further.0
    argument_is ts u e is = is ∙ get_or_from_slice_get ts i leads_further.0 u (subst (λ l. slice_get l i ≡ Some leads_further.0) (sym e) leads_further.1)

    pub is_within : (ts : List FlatTerm) → ts ≡ args_of t → i < length ts
    is_within ts e = subst (λ l. i < length l) (sym e) (slice_get_within (args_of t) i leads_further.0 leads_further.1)

    -- what is put into the argument is put into the form
    pub put_further : FitsKinds d → Fits d t → (f : OpId) → head_of t ≡ Some f → (u whole : FlatTerm) → PutAs d rest leads_further.0 given u →
        whole ≡ build d f (take i (args_of t) ++ u ∷ drop (i + 1) (args_of t)) → PutAs d path t given whole
    put_further fits h f head u whole below built at leads =
        let same : can.at ≡ at = leads_once path t can.at at can.leads leads in
        let there : IsPut d (i ∷ rest) can.at t given whole =
        put_within d fits rest can.at given leads_further.0 u whole i (below can.at leads_further.2) can.keeps t f head h leads_further.1 built in
        subst (λ w. IsPut d path w t given whole) same (subst (λ p. IsPut d p can.at t given whole) (sym e) there)

    -- what comes in place of the argument
    pub may_stand : (u : FlatTerm) → PutAs d rest leads_further.0 given u → MayStandFor d t i u
    may_stand u below =
        let p = below can.at leads_further.2 in
        record { argument = leads_further.0; is = leads_further.1; fits = p.fits; keeps = p.keeps }

  -- a path without a step
  pub put_nowhere : FitsKinds d → path ≡ [] → PutAs d path t given given
  put_nowhere fits e at leads = subst (λ p. IsPut d p at t given given) (sym e) (put_here d fits t at given (subst (λ p. LeadsTo p t at) e leads) can.fits (subst (λ w. KeepsKindsOf d w given) (leads_once path t can.at at can.leads leads) can.keeps))
