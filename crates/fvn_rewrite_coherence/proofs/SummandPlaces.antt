-- What is replaced in a summand of a form is replaced in the form.
use Rattle.std.proofs.Common.{◌≡◌, Bool, true, false, List, [], ◌∷◌, ◌++◌, refl, sym, ap, ◌∙◌, subst, arith}
use Rattle.std.specs.List.{AllByRecursion}
use Rattle.std.proofs.lemmas.List.{append-nil}
use Rattle.fvn_terms.specs.declared.plain.OpId.{OpId}
use Rattle.fvn_terms.specs.declared.declarations.Declarations.{Declarations}
use Rattle.fvn_terms.specs.Signature.{axioms}
use Rattle.fvn_forms.specs.Flat.{FlatTerm, FlatTerms, fvar, fapp, fnone, fmore, fpack, funpack, fconstant, plain}
use Rattle.fvn_forms.specs.InOrder.{count, SameCounts}
use Rattle.fvn_forms.specs.Canon.{same_op, is_identity, parts, all_parts, canon}
use Rattle.fvn_terms.specs.Equality.{identity}
use Rattle.fvn_forms.specs.Settled.{IsPiece, Settled}
use Rattle.fvn_forms.proofs.InOrder.{count_append, count_sort, each_append}
use Rattle.fvn_forms.proofs.Sums.{fpack-funpack, same_op_is, SettledAll-funpack, parts_sum, all_parts_are_pieces}
use Rattle.fvn_forms.proofs.Eval.{canon_settled}
use Rattle.fvn_flat.specs.FlatPlaces.{IsReplaced, inside}
use Rattle.fvn_rewrite_coherence.proofs.Members.{each_around, replaced_among, count_parts_around, canon_replaced}
use Rattle.fvn_rewrite_coherence.proofs.FormLists.{not_nothing}

-- a list of one member has no others
pub record IsAlone (t p : FlatTerm) (before after : List FlatTerm) : Type 0 where
  pub same : p ≡ t
  pub others : before ++ after ≡ []

is_alone : (t p : FlatTerm) (before after : List FlatTerm) → t ∷ [] ≡ before ++ p ∷ after → IsAlone t p before after
is_alone t p [] after e = record { same = cc; others = cc }
is_alone t p (u ∷ before) after e = let r : [] ≡ before ++ p ∷ after = cc in absurd (not_nothing before p after r)

module _ (d : Declarations) (u v : FlatTerm) where
  -- a place of a summand of t is one of t
  pub record ReplacesSummand (f : OpId) (new t : FlatTerm) (others : List FlatTerm) : Type 0 where
    pub whole : FlatTerm
    pub replaced : IsReplaced u v t whole
    pub is : SameCounts (parts d f (canon d (plain whole))) (parts d f (canon d (plain new)) ++ others)

  itself : (f : OpId) (part new t : FlatTerm) (front back : List FlatTerm) → IsReplaced u v part new → t ∷ [] ≡ front ++ part ∷ back → ReplacesSummand f new t (front ++ back)
  itself f part new t front back r e =
      let a = is_alone t part front back e in record {
        whole = new;
        replaced = subst (λ z. IsReplaced u v z new) a.same r;
        is = λ q. ap (count q) (sym (append-nil (parts d f (canon d (plain new)))) ∙ ap (λ l. parts d f (canon d (plain new)) ++ l) (sym a.others));
      }

  among_joined : (f : OpId) (ts : FlatTerms) (part new : FlatTerm) (front back : List FlatTerm) → Settled d (fapp f true ts) → IsReplaced u v part new → funpack ts ≡ front ++ part ∷ back → ReplacesSummand f new (fapp f true ts) (front ++ back)
  among_joined f ts part new front back h r e =
      let c = canon d (plain new) in
      let settled = each_around (Settled d) front part back (subst (AllByRecursion (Settled d)) e (SettledAll-funpack d ts h.1)) in
      let pieces = each_around (IsPiece d f) front part back (subst (AllByRecursion (IsPiece d f)) e h.0.pieces) in
      let all = each_append (Settled d) front (c ∷ back) settled.0 (canon_settled d (plain new), settled.1.1) in
      record {
        whole = fapp f true (fpack (front ++ new ∷ back));
        replaced = subst (λ z. IsReplaced u v (fapp f true z) (fapp f true (fpack (front ++ new ∷ back)))) (ap fpack (sym e) ∙ fpack-funpack ts) (inside (replaced_among r front back));
        is = λ q.
            let a = ap (count q) (ap (parts d f) (canon_replaced d f h.0.associative front new c back settled.0 settled.1.1 refl) ∙ parts_sum d f (all_parts d f (front ++ c ∷ back)) (all_parts_are_pieces d f (front ++ c ∷ back) all)) in
            let b = count_sort q (all_parts d f (front ++ c ∷ back)) in
            let g = count_parts_around d f q front c back pieces.0 pieces.1.1 in
            let i = count_append q (parts d f c) (front ++ back) in
            omega arith;
      }

  pub in_summand : (f : OpId) (t part new : FlatTerm) (front back : List FlatTerm) → Settled d t → IsReplaced u v part new → parts d f t ≡ front ++ part ∷ back → ReplacesSummand f new t (front ++ back)
  in_summand f (fvar x) part new front back h r e = itself f part new (fvar x) front back r e
  in_summand f (fapp g true ts) part new front back h r e = go (same_op f g) refl where
    go : (b : Bool) → same_op f g ≡ b → ReplacesSummand f new (fapp g true ts) (front ++ back)
    go true p =
        let one : f ≡ g = same_op_is f g p in
        let is : funpack ts ≡ front ++ part ∷ back = rw p at e in
        subst (λ o. ReplacesSummand f new (fapp o true ts) (front ++ back)) one (among_joined f ts part new front back (subst (λ o. Settled d (fapp o true ts)) (sym one) h) r is)
    go false p = itself f part new (fapp g true ts) front back r (rw p at e)
  in_summand f (fapp g false fnone) part new front back h r e = go (is_identity (identity (axioms d f)) g) refl where
    go : (b : Bool) → is_identity (identity (axioms d f)) g ≡ b → ReplacesSummand f new (fconstant g) (front ++ back)
    go true p = absurd (not_nothing front part back (rw p at e))
    go false p = itself f part new (fconstant g) front back r (rw p at e)
  in_summand f (fapp g false (fmore t ts)) part new front back h r e = itself f part new (fapp g false (fmore t ts)) front back r e
