-- Forms that are flat and well-kinded in a signature can be printed.
use Rattle.std.proofs.Common.{◌≡◌, ◌<◌, inl, inr, true, false, List, [], ◌∷◌, length, get_or, subst}
use Rattle.std.specs.Prelude.{Contains}
use Rattle.std.proofs.lemmas.Bool.{cases_lt}
use Rattle.std.proofs.lemmas.List.{get_or_past}
use Rattle.std.proofs.lemmas.List.Elements.{Contains-get_or}
use Rattle.fvn_base.proofs.Membership.{contains_none}
use Rattle.fvn_terms.specs.declared.plain.Var.{Var}
use Rattle.fvn_terms.specs.declared.plain.OpId.{OpId}
use Rattle.fvn_terms.specs.declared.plain.SortId.{SortId}
use Rattle.fvn_terms.specs.declared.declarations.Rank.{Rank}
use Rattle.fvn_terms.specs.declared.declarations.OpDecl.{OpDecl}
use Rattle.fvn_terms.specs.declared.declarations.Declarations.{Declarations}
use Rattle.fvn_terms.specs.Signature.{declared, unknown, axioms, HaveKinds, IsTerm}
use Rattle.fvn_terms.specs.Equality.{IsAssociative}
use Rattle.fvn_terms.specs.Term.{Term, none, more}
use Rattle.fvn_forms.specs.Flat.{FlatTerm, FlatTerms, fvar, fapp, fnone, fmore, nest, plain, plain_all}
use Rattle.fvn_forms.specs.Settled.{Settled, SettledAll}
use Rattle.fvn_flat.specs.Fits.{Fits}
use Rattle.fvn_flat.specs.Bindings.{Bindings, value, BindingsFit}
use Rattle.fvn_syntax.specs.Pieces.{Text}
use Rattle.fvn_answer.specs.Asked.{AreAsked}
use Rattle.fvn_answer.specs.inner.Bytes.{IsPrintable, ArePrintable}
use Rattle.fvn_answer.specs.inner.Shown.{HavePrintable}

module _ (d : Declarations) where
  -- an operator of which something is declared has a number
  known : (f : OpId) → (declared d f ≡ unknown → ⊥) → f.0 < length d.ops
  known f n = elim (cases_lt f.0 (length d.ops)) [ inl low ↦ low | inr high ↦ absurd (n (get_or_past d.ops f.0 unknown high)) ]

  pub ranked : (f : OpId) (r : Rank) → Contains (declared d f).ranks r → f.0 < length d.ops
  ranked f r c = known f (λ e. contains_none r (subst (λ (o : OpDecl). Contains o.ranks r) e c))

  associative : (f : OpId) → IsAssociative (axioms d f) → f.0 < length d.ops
  associative f a = known f (λ e. subst (λ (o : OpDecl). IsAssociative o.axioms) e a)

  -- each form is well-kinded
  abbrev AreTerms : FlatTerms → Type 0
  AreTerms fnone = Unit {0}
  AreTerms (fmore t ts) = IsTerm d (plain t) × AreTerms ts

  of-kinds : (ts : FlatTerms) (ks : List SortId) → HaveKinds d (plain_all ts) ks → AreTerms ts
  of-kinds fnone ks h = tt
  of-kinds (fmore t ts) [] h = absurd h
  of-kinds (fmore t ts) (k ∷ ks) h = ((k, h.0), of-kinds ts ks h.1)

  first-two : (t u : Term) (ks : List SortId) → HaveKinds d (more t (more u none)) ks → IsTerm d t × IsTerm d u
  first-two t u [] h = absurd h
  first-two t u (k ∷ []) h = absurd h.1
  first-two t u (k ∷ q ∷ ks) h = ((k, h.0), (q, h.1.0))

  of-nest : (f : OpId) (t : FlatTerm) (ts : FlatTerms) → IsTerm d (nest f (plain t) (plain_all ts)) → AreTerms (fmore t ts)
  of-nest f t fnone h = (h, tt)
  of-nest f t (fmore u us) h =
      let both = first-two (plain t) (nest f (plain u) (plain_all us)) _ h.1.args in
      (both.0, of-nest f u us both.1)

  mutual
    pub printable : (t : FlatTerm) → Settled d t → IsTerm d (plain t) → IsPrintable d t
    printable (fvar x) s h = h.1.0
    printable (fapp f false ts) s h = (ranked f h.1.rank h.1.listed, all-printable ts s.1 (of-kinds ts _ h.1.args))
    printable (fapp f true fnone) s h = (associative f s.0.associative, tt)
    printable (fapp f true (fmore t ts)) s h = (associative f s.0.associative, all-printable (fmore t ts) s.1 (of-nest f t ts h))

    all-printable : (ts : FlatTerms) → SettledAll d ts → AreTerms ts → ArePrintable d ts
    all-printable fnone s h = tt
    all-printable (fmore t ts) s h = (printable t s.0 h.0, all-printable ts s.1 h.1)

  pub fits-printable : (t : FlatTerm) → Fits d t → IsPrintable d t
  fits-printable t f = printable t f.flat f.kinded

  -- the values of variables that have names and sorts
  pub values-printable : (texts : List Text) (s : Bindings) (vars : List Var) → BindingsFit d s → AreAsked d texts vars → HavePrintable d texts s vars
  values-printable texts s vars fit asked k x within =
      let y = get_or vars k x in
      let named = asked.named y (Contains-get_or vars k x within) in
      (named, printable (value s y) (fit.settled y) (_, fit.keeps_kinds y named.sort))
