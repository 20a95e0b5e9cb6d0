-- Forms as operators over their arguments, and one of the arguments replaced.
use Rattle.std.proofs.Common.{◌≡◌, ◌+◌, ◌≤◌, true, false, List, [], ◌∷◌, ◌++◌, map, length, Some, refl, sym, ap, ◌∙◌, subst, arith}
use Rattle.std.specs.Prelude.{Contains}
use Rattle.std.proofs.lemmas.List.{length-append}
use Rattle.fvn_terms.specs.declared.plain.OpId.{OpId}
use Rattle.fvn_terms.specs.declared.plain.SortId.{SortId}
use Rattle.fvn_terms.specs.declared.declarations.Axioms.{Axioms}
use Rattle.fvn_terms.specs.declared.declarations.Axioms.TheVariants.{Free, Comm, AssocComm, AssocCommId}
use Rattle.fvn_terms.specs.declared.declarations.Rank.{Rank}
use Rattle.fvn_terms.specs.declared.declarations.Declarations.{Declarations}
use Rattle.fvn_terms.specs.Term.{Term, app, none}
use Rattle.fvn_terms.specs.Signature.{kind, declared, axioms, HasKind, HaveKinds}
use Rattle.fvn_terms.specs.Places.{AtOnePlace, inside}
use Rattle.fvn_terms.specs.Equality.{IsAssociative}
use Rattle.fvn_forms.specs.Flat.{FlatTerm, FlatTerms, fvar, fapp, fnone, fmore, fpack, funpack, nest_all, plain, plain_all}
use Rattle.fvn_forms.specs.Settled.{FitsUnjoined}
use Rattle.fvn_forms.specs.FitsKinds.{FitsKinds}
use Rattle.fvn_forms.proofs.Sums.{fpack-funpack}
use Rattle.fvn_forms.proofs.KindsOfSums.{nest_parts_of_kind}
use Rattle.fvn_flat.specs.Forms.{head_of, args_of}
use Rattle.fvn_flat.specs.Fits.{Fits, AllOfKind, TakesAsDeclared, Takes, operator_over, plain_over}
use Rattle.fvn_places.proofs.Replacing.{each_replaced, member_of_each}
use Rattle.fvn_rewrite.proofs.Replacing.{among_arguments, nest_among}

module _ (d : Declarations) (fits : FitsKinds d) where
  -- an associative operator has arguments
  no_arguments : (f : OpId) (r : Rank) → Contains (declared d f).ranks r → IsAssociative (axioms d f) → (ts : FlatTerms) → funpack ts ≡ [] → HaveKinds d (plain_all ts) (map (kind d) r.args) → ⊥
  no_arguments f r listed assoc fnone e h = subst (HaveKinds d none) (fits.associative f r assoc listed) h
  no_arguments f r listed assoc (fmore t ts) e h = cc

  joined_taken : (f : OpId) (ts : FlatTerms) → Fits d (fapp f true ts) → Takes d f (funpack ts)
  joined_taken f fnone h = let n : 2 ≤ 0 = h.flat.0.two_or_more in absurd (omega arith)
  joined_taken f (fmore t fnone) h = let n : 2 ≤ 1 = h.flat.0.two_or_more in absurd (omega arith)
  joined_taken f (fmore t (fmore v vs)) h = record { rank = h.kinded.1.rank; listed = h.kinded.1.listed; args = go (axioms d f) h.flat.0.associative }
    where
      all : AllOfKind d (kind d h.kinded.1.rank.result) (funpack (fmore t (fmore v vs)))
      all = subst (λ k. AllOfKind d k (funpack (fmore t (fmore v vs)))) (sym h.kinded.1.result) (nest_parts_of_kind d fits f h.flat.0.associative h.kinded.0 t (fmore v vs) h.kinded.1)

      go : (x : Axioms) → IsAssociative x → TakesAsDeclared d x h.kinded.1.rank (funpack (fmore t (fmore v vs)))
      go Free i = absurd i
      go Comm i = absurd i
      go AssocComm i = (h.flat.0.two_or_more, all)
      go (AssocCommId o) i = (h.flat.0.two_or_more, all)

  unjoined_taken : (f : OpId) (ts : FlatTerms) → Fits d (fapp f false ts) → Takes d f (funpack ts)
  unjoined_taken f ts h = record { rank = h.kinded.1.rank; listed = h.kinded.1.listed; args = go (axioms d f) refl h.flat.0 }
    where
      kinds : HaveKinds d (plain_all (fpack (funpack ts))) (map (kind d) h.kinded.1.rank.args)
      kinds = subst (λ us. HaveKinds d (plain_all us) (map (kind d) h.kinded.1.rank.args)) (sym (fpack-funpack ts)) h.kinded.1.args

      go : (x : Axioms) → axioms d f ≡ x → FitsUnjoined d x (funpack ts) → TakesAsDeclared d x h.kinded.1.rank (funpack ts)
      go Free e i = kinds
      go Comm e i = kinds
      go AssocComm e i = absurd (no_arguments f h.kinded.1.rank h.kinded.1.listed (subst IsAssociative (sym e) tt) ts i h.kinded.1.args)
      go (AssocCommId o) e i = absurd (no_arguments f h.kinded.1.rank h.kinded.1.listed (subst IsAssociative (sym e) tt) ts i h.kinded.1.args)

  -- the operator that heads a form takes its arguments
  pub own_taken : (t : FlatTerm) (f : OpId) → head_of t ≡ Some f → Fits d t → Takes d f (args_of t)
  own_taken (fvar x) f head h = cc
  own_taken (fapp g true ts) f head h = let q : g ≡ f = cc in subst (λ o. Takes d o (funpack ts)) q (joined_taken g ts h)
  own_taken (fapp g false ts) f head h = let q : g ≡ f = cc in subst (λ o. Takes d o (funpack ts)) q (unjoined_taken g ts h)

  joined_plain : (f : OpId) (ts : FlatTerms) → IsAssociative (axioms d f) → nest_all f (plain_all ts) ≡ plain_over d f (funpack ts)
  joined_plain f ts assoc = ap (λ us. nest_all f (plain_all us)) (sym (fpack-funpack ts)) ∙ go (axioms d f) assoc
    where
      go : (x : Axioms) → IsAssociative x → nest_all f (plain_all (fpack (funpack ts))) ≡ operator_over x f (plain_all (fpack (funpack ts)))
      go Free i = absurd i
      go Comm i = absurd i
      go AssocComm i = refl
      go (AssocCommId o) i = refl

  unjoined_plain : (f : OpId) (ts : FlatTerms) → Fits d (fapp f false ts) → app f (plain_all ts) ≡ plain_over d f (funpack ts)
  unjoined_plain f ts h = ap (λ us. app f (plain_all us)) (sym (fpack-funpack ts)) ∙ go (axioms d f) refl h.flat.0
    where
      go : (x : Axioms) → axioms d f ≡ x → FitsUnjoined d x (funpack ts) → app f (plain_all (fpack (funpack ts))) ≡ operator_over x f (plain_all (fpack (funpack ts)))
      go Free e i = refl
      go Comm e i = refl
      go AssocComm e i = absurd (no_arguments f h.kinded.1.rank h.kinded.1.listed (subst IsAssociative (sym e) tt) ts i h.kinded.1.args)
      go (AssocCommId o) e i = absurd (no_arguments f h.kinded.1.rank h.kinded.1.listed (subst IsAssociative (sym e) tt) ts i h.kinded.1.args)

  -- its plain term is that operator over them
  pub own_plain : (t : FlatTerm) (f : OpId) → head_of t ≡ Some f → Fits d t → plain t ≡ plain_over d f (args_of t)
  own_plain (fvar x) f head h = cc
  own_plain (fapp g true ts) f head h = let q : g ≡ f = cc in subst (λ o. nest_all g (plain_all ts) ≡ plain_over d o (funpack ts)) q (joined_plain g ts h.flat.0.associative)
  own_plain (fapp g false ts) f head h = let q : g ≡ f = cc in subst (λ o. app g (plain_all ts) ≡ plain_over d o (funpack ts)) q (unjoined_plain g ts h)

module _ (d : Declarations) (before : List FlatTerm) (a u : FlatTerm) (after : List FlatTerm) where
  -- what relates an argument to another form relates the operator over the arguments to it over them with this form
  pub over_replaced : (R : Term → Term → Type 0) → R (plain a) (plain u) → (f : OpId) → AtOnePlace R (plain_over d f (before ++ a ∷ after)) (plain_over d f (before ++ u ∷ after))
  over_replaced R r f = go (axioms d f)
    where
      among : AtOnePlace R (nest_all f (plain_all (fpack (before ++ a ∷ after)))) (nest_all f (plain_all (fpack (before ++ u ∷ after))))
      among = nest_among R f (plain_all (fpack (before ++ a ∷ after))) (plain_all (fpack (before ++ u ∷ after))) (among_arguments R before a u after r)

      go : (x : Axioms) → AtOnePlace R (operator_over x f (plain_all (fpack (before ++ a ∷ after)))) (operator_over x f (plain_all (fpack (before ++ u ∷ after))))
      go Free = inside (among_arguments R before a u after r)
      go Comm = inside (among_arguments R before a u after r)
      go AssocComm = among
      go (AssocCommId o) = among

module _ (d : Declarations) (a u : FlatTerm) (keeps : (k : SortId) → HasKind d (plain a) k → HasKind d (plain u) k) where
  kinds_replaced : (before after : List FlatTerm) (ks : List SortId) → HaveKinds d (plain_all (fpack (before ++ a ∷ after))) ks → HaveKinds d (plain_all (fpack (before ++ u ∷ after))) ks
  kinds_replaced [] after [] h = absurd h
  kinds_replaced [] after (k ∷ ks) h = (keeps k h.0, h.1)
  kinds_replaced (t ∷ before) after [] h = absurd h
  kinds_replaced (t ∷ before) after (k ∷ ks) h = (h.0, kinds_replaced before after ks h.1)

  -- an operator takes a form of an argument's kind in place of it
  pub taken_replaced : (before after : List FlatTerm) (f : OpId) → Takes d f (before ++ a ∷ after) → Takes d f (before ++ u ∷ after)
  taken_replaced before after f h = record { rank = h.rank; listed = h.listed; args = go (axioms d f) h.args }
    where
      more_alike : (k : SortId) → (2 ≤ length (before ++ a ∷ after)) × AllOfKind d k (before ++ a ∷ after) → (2 ≤ length (before ++ u ∷ after)) × AllOfKind d k (before ++ u ∷ after)
      more_alike k j =
          let m = length-append before (a ∷ after) in
          let q = length-append before (u ∷ after) in (
            omega (arith, j.0),
            each_replaced (λ p. HasKind d (plain p) k) before a u after j.1 (keeps k (member_of_each (λ p. HasKind d (plain p) k) before a after j.1)),
          )

      go : (x : Axioms) → TakesAsDeclared d x h.rank (before ++ a ∷ after) → TakesAsDeclared d x h.rank (before ++ u ∷ after)
      go Free j = kinds_replaced before after (map (kind d) h.rank.args) j
      go Comm j = kinds_replaced before after (map (kind d) h.rank.args) j
      go AssocComm j = more_alike (kind d h.rank.result) j
      go (AssocCommId o) j = more_alike (kind d h.rank.result) j
