-- Subterms of flat terms are flat, so that equal ones are one term.
use Rattle.std.proofs.Common.{◌≡◌, ◌≤◌, true, false, List, [], ◌∷◌, ◌++◌, length, refl, sym, ap, ◌∙◌, inl, inr, arith, All, Contains}
use Rattle.std.specs.List.{AllByRecursion}
use Rattle.std.proofs.lemmas.List.Elements.{All-head, All-tail, Contains-append_cases}
use Rattle.fvn_base.proofs.Membership.{contains_cases, contains_none}
use Rattle.fvn_terms.specs.declared.plain.OpId.{OpId}
use Rattle.fvn_terms.specs.declared.declarations.Declarations.{Declarations}
use Rattle.fvn_terms.specs.Term.{Term, var, app, none, more}
use Rattle.fvn_terms.specs.Signature.{axioms}
use Rattle.fvn_terms.specs.Equality.{BEqual, IsAssociative}
use Rattle.fvn_forms.specs.Flat.{FlatTerm, FlatTerms, fvar, fapp, fnone, fmore, funpack, fconstant, nest, nest_all, plain, plain_all}
use Rattle.fvn_forms.specs.InOrder.{InOrder}
use Rattle.fvn_forms.specs.Canon.{canon}
use Rattle.fvn_forms.specs.Settled.{Settled, SettledAll, IsPiece}
use Rattle.fvn_forms.proofs.Sums.{constant_settled}
use Rattle.fvn_forms.proofs.Eval.{canon_plain, canon_respects}
use Rattle.fvn_flat.specs.Fits.{Fits}
use Rattle.fvn_flat.specs.Problems.{subterms, subterms_among, subterms_of, plain_pairs}
use Rattle.fvn_flat.specs.Solving.{FlatPairs}
use Rattle.fvn_combine_nodes.proofs.Lists.{only_one}

module _ (d : Declarations) where
  -- the term is the plain one of a flat form
  pub record IsFlatTerm (u : Term) : Type 0 where
    pub form : FlatTerm
    pub settled : Settled d form
    pub is : plain form ≡ u

  -- a flat term is the plain one of its flat form
  pub flat_again : (u : Term) → IsFlatTerm u → plain (canon d u) ≡ u
  flat_again u h = ap (λ v. plain (canon d v)) (sym h.is) ∙ ap plain (canon_plain d h.form h.settled) ∙ h.is

  -- flat terms that are equal modulo the axioms are one
  pub flat_equal : (t u : Term) → IsFlatTerm t → IsFlatTerm u → BEqual d t u → t ≡ u
  flat_equal t u h k e = sym (flat_again t h) ∙ ap plain (canon_respects d e) ∙ flat_again u k

  in_order_tail : (t : FlatTerm) (l : List FlatTerm) → InOrder (t ∷ l) → InOrder l
  in_order_tail t [] h = tt
  in_order_tail t (u ∷ us) h = h.1

  mutual
    flat_subterms : (t : FlatTerm) → Settled d t → (u : Term) → Contains (subterms (plain t)) u → IsFlatTerm u
    flat_subterms (fvar x) h u c = record { form = fvar x; settled = tt; is = only_one u (var x) c }
    flat_subterms (fapp f false ts) h u c = elim (contains_cases (app f (plain_all ts)) (subterms_among (plain_all ts)) u c) [
      | inl e ↦ record { form = fapp f false ts; settled = h; is = e }
      | inr r ↦ flat_subterms_among ts h.1 u r
    ]
    flat_subterms (fapp f true ts) h u c = nested_subterms f ts h.0.associative h.0.pieces h.0.in_order h.1 (let n = h.0.two_or_more in omega arith) u c

    flat_subterms_among : (ts : FlatTerms) → SettledAll d ts → (u : Term) → Contains (subterms_among (plain_all ts)) u → IsFlatTerm u
    flat_subterms_among fnone h u c = absurd (contains_none u c)
    flat_subterms_among (fmore t ts) h u c = elim (Contains-append_cases (subterms (plain t)) (subterms_among (plain_all ts)) u c) [
      | inl l ↦ flat_subterms t h.0 u l
      | inr r ↦ flat_subterms_among ts h.1 u r
    ]

    -- the rests of a sum are sums
    nested_subterms : (f : OpId) (ts : FlatTerms) → IsAssociative (axioms d f) → AllByRecursion (IsPiece d f) (funpack ts) → InOrder (funpack ts) → SettledAll d ts → 1 ≤ length (funpack ts) → (u : Term) → Contains (subterms (nest_all f (plain_all ts))) u → IsFlatTerm u
    nested_subterms f fnone assoc pieces order h some u c = absurd (omega arith)
    nested_subterms f (fmore t fnone) assoc pieces order h some u c = flat_subterms t h.0 u c
    nested_subterms f (fmore t (fmore v vs)) assoc pieces order h some u c =
        let rest = nest f (plain v) (plain_all vs) in
        elim (contains_cases (nest f (plain t) (more (plain v) (plain_all vs))) (subterms (plain t) ++ (subterms rest ++ [])) u c) [
          | inl e ↦ record {
            form = fapp f true (fmore t (fmore v vs));
            settled = (record { associative = assoc; pieces = pieces; two_or_more = omega arith; in_order = order }, h);
            is = e;
          }
          | inr r ↦ elim (Contains-append_cases (subterms (plain t)) (subterms rest ++ []) u r) [
            | inl l ↦ flat_subterms t h.0 u l
            | inr m ↦ elim (Contains-append_cases (subterms rest) [] u m) [
              | inl n ↦ nested_subterms f (fmore v vs) assoc pieces.1 (in_order_tail t (v ∷ funpack vs) order) h.1 (omega arith) u n
              | inr z ↦ absurd (contains_none u z)
            ]
          ]
        ]

  -- the subterms of flat pairs are flat
  pub pairs_flat : (pairs : FlatPairs) → All (λ p. Fits d p.0 × Fits d p.1) pairs → (u : Term) → Contains (subterms_of (plain_pairs pairs)) u → IsFlatTerm u
  pairs_flat [] h u c = absurd (contains_none u c)
  pairs_flat (p ∷ pairs) h u c =
      let P = λ (p : FlatTerm × FlatTerm). Fits d p.0 × Fits d p.1 in
      let one = All-head P p pairs h in
      elim (Contains-append_cases (subterms (plain p.0) ++ subterms (plain p.1)) (subterms_of (plain_pairs pairs)) u c) [
        | inl l ↦ elim (Contains-append_cases (subterms (plain p.0)) (subterms (plain p.1)) u l) [
          | inl a ↦ flat_subterms p.0 one.0.flat u a
          | inr b ↦ flat_subterms p.1 one.1.flat u b
        ]
        | inr r ↦ pairs_flat pairs (All-tail P p pairs h) u r
      ]

  pub constant_flat : (e : OpId) → IsFlatTerm (app e none)
  constant_flat e = record { form = fconstant e; settled = constant_settled_here e; is = refl }
    where
      constant_settled_here : (e : OpId) → Settled d (fconstant e)
      constant_settled_here e = constant_settled d e e
