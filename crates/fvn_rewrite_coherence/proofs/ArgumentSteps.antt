-- A step of one argument is one of the term, where its operator joins nothing.
use Rattle.std.proofs.Common.{◌≡◌, false, List, [], ◌∷◌, ◌++◌, None, Some, refl, sym, ap, ◌∙◌, subst, arith}
use Rattle.std.specs.List.{AllByRecursion}
use Rattle.fvn_terms.specs.declared.plain.OpId.{OpId}
use Rattle.fvn_terms.specs.declared.declarations.Axioms.TheVariants.{Free, Comm}
use Rattle.fvn_terms.specs.declared.declarations.Declarations.{Declarations}
use Rattle.fvn_terms.specs.Signature.{axioms}
use Rattle.fvn_terms.specs.Theory.{Equations}
use Rattle.fvn_forms.specs.Flat.{FlatTerm, fapp, fpack}
use Rattle.fvn_forms.specs.InOrder.{sort}
use Rattle.fvn_forms.specs.Canon.{as_constant, build}
use Rattle.fvn_forms.specs.Settled.{Settled}
use Rattle.fvn_forms.proofs.InOrder.{count_sort, sort_same_counts, each_sort}
use Rattle.fvn_flat.specs.FlatPlaces.{IsReplaced, inside}
use Rattle.fvn_rewrite_coherence.proofs.Tight.{IsIdentityForm}
use Rattle.fvn_rewrite_coherence.proofs.Members.{StandsAmong, stands_among, count_around, each_around, replaced_among, canon_plain_around}
use Rattle.fvn_rewrite_coherence.proofs.TightSteps.{StepsTightly}

module _ (d : Declarations) (f : OpId) where
  -- an operator that joins nothing stands over its arguments
  pub build_free : axioms d f ≡ Free → (l : List FlatTerm) → build d f l ≡ fapp f false (fpack l)
  build_free e [] = refl
  build_free e (t ∷ l) = rw e refl

  -- over them in order, where it may exchange them
  pub build_commutative : axioms d f ≡ Comm → (l : List FlatTerm) → build d f l ≡ fapp f false (fpack (sort l))
  build_commutative e [] = refl
  build_commutative e (t ∷ l) = rw e refl

module _ (d : Declarations) (equations : Equations) where
  -- a step of the form, which is no identity
  pub record StepsInside (t u : FlatTerm) : Type 0 where
    pub step : StepsTightly d equations t u
    pub no_identity : IsIdentityForm d t → ⊥

  -- what is no constant is no identity
  pub no_constant : (t : FlatTerm) → as_constant t ≡ None → IsIdentityForm d t → ⊥
  no_constant t e w = let p : None ≡ Some w.1.0 = sym e ∙ w.1.2 in cc

  some_arguments : (f : OpId) (before : List FlatTerm) (p : FlatTerm) (after : List FlatTerm) → as_constant (fapp f false (fpack (before ++ p ∷ after))) ≡ None
  some_arguments f [] p after = refl
  some_arguments f (t ∷ before) p after = refl

  module _ (f : OpId) where
    module _ (before : List FlatTerm) (a b : FlatTerm) (after : List FlatTerm) (settled : AllByRecursion (Settled d) (before ++ a ∷ after)) (s : StepsTightly d equations a b) where
      pub free_step : axioms d f ≡ Free → StepsInside (build d f (before ++ a ∷ after)) (build d f (before ++ b ∷ after))
      free_step e =
          let each = each_around (Settled d) before a after settled in
          let form = build_free d f e (before ++ a ∷ after) in
          record {
            step = record {
              at = s.at;
              given = s.given;
              redex = s.redex;
              replaced = fapp f false (fpack (before ++ s.replaced ∷ after));
              replaces = subst (λ z. IsReplaced s.at s.given z (fapp f false (fpack (before ++ s.replaced ∷ after)))) (sym form) (inside (replaced_among s.replaces before after));
              makes = ap (build d f) (canon_plain_around d before s.replaced b after each.0 each.1.1 s.makes);
            };
            no_identity = no_constant (build d f (before ++ a ∷ after)) (ap as_constant form ∙ some_arguments f before a after);
          }

      at_member : StandsAmong a (sort (before ++ a ∷ after)) (before ++ after)
      at_member = stands_among a (sort (before ++ a ∷ after)) (before ++ after) (λ q. count_sort q (before ++ a ∷ after) ∙ count_around q a before after)

      pub commutative_step : axioms d f ≡ Comm → StepsInside (build d f (before ++ a ∷ after)) (build d f (before ++ b ∷ after))
      commutative_step e =
          let m = at_member in
          let each = each_around (Settled d) m.before a m.after (subst (AllByRecursion (Settled d)) m.is (each_sort (Settled d) (before ++ a ∷ after) settled)) in
          let form : build d f (before ++ a ∷ after) ≡ fapp f false (fpack (m.before ++ a ∷ m.after)) = build_commutative d f e (before ++ a ∷ after) ∙ ap (λ l. fapp f false (fpack l)) m.is in
          record {
            step = record {
              at = s.at;
              given = s.given;
              redex = s.redex;
              replaced = fapp f false (fpack (m.before ++ s.replaced ∷ m.after));
              replaces = subst (λ z. IsReplaced s.at s.given z (fapp f false (fpack (m.before ++ s.replaced ∷ m.after)))) (sym form) (inside (replaced_among s.replaces m.before m.after));
              makes =
                  ap (build d f) (canon_plain_around d m.before s.replaced b m.after each.0 each.1.1 s.makes)
                  ∙ build_commutative d f e (m.before ++ b ∷ m.after)
                  ∙ ap (λ l. fapp f false (fpack l)) (sort_same_counts (m.before ++ b ∷ m.after) (before ++ b ∷ after) (λ q.
                  let x = count_around q b m.before m.after in
                  let y = count_around q b before after in
                  let z = m.beside q in
                  omega arith))
                  ∙ sym (build_commutative d f e (before ++ b ∷ after));
            };
            no_identity = no_constant (build d f (before ++ a ∷ after)) (ap as_constant form ∙ some_arguments f m.before a m.after);
          }
