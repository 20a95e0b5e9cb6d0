-- A step of one summand is a step of the sum.
use Rattle.std.proofs.Common.{◌≡◌, ◌⊎◌, Bool, true, false, List, [], ◌∷◌, ◌++◌, length, refl, sym, ap, ◌∙◌, subst, inl, inr, arith}
use Rattle.std.specs.List.{AllByRecursion}
use Rattle.std.proofs.lemmas.List.{length-append, append-nil}
use Rattle.fvn_terms.specs.declared.plain.OpId.{OpId}
use Rattle.fvn_terms.specs.declared.plain.SortId.{SortId}
use Rattle.fvn_terms.specs.declared.declarations.Declarations.{Declarations}
use Rattle.fvn_terms.specs.Signature.{axioms, HasKind}
use Rattle.fvn_terms.specs.Equality.{two, IsAssociative, identity}
use Rattle.fvn_terms.specs.Theory.{Equations}
use Rattle.fvn_forms.specs.Flat.{FlatTerm, FlatTerms, fvar, fapp, fnone, fmore, fpack, fconstant, plain}
use Rattle.fvn_forms.specs.InOrder.{sort, count, SameCounts}
use Rattle.fvn_forms.specs.Canon.{same_op, is_identity, parts, all_parts, sum, build, canon}
use Rattle.fvn_forms.specs.Settled.{IsPiece, Settled}
use Rattle.fvn_forms.specs.Good.{IsGood}
use Rattle.fvn_forms.proofs.InOrder.{count_append, count_sort, each_append, each_sort}
use Rattle.fvn_forms.proofs.Sums.{fpack-funpack, same_op_is, SettledAll-funpack, parts_sum, sum_same_counts, all_parts_are_pieces, all_parts_are_settled}
use Rattle.fvn_forms.proofs.Build.{parts_none, build_sum, build_right_identity}
use Rattle.fvn_forms.proofs.Eval.{canon_settled, canon_plain}
use Rattle.fvn_flat.specs.FlatPlaces.{IsReplaced, here, inside}
use Rattle.fvn_rewrite_laws.specs.Admissible.{AreAdmissible}
use Rattle.fvn_rewrite_coherence.proofs.Tight.{some_length, sum_of_two_form, parts_joined}
use Rattle.fvn_rewrite_coherence.proofs.Members.{StandsAmong, stands_among, count_around, each_around, replaced_among, replaced_member, count_parts_around, canon_replaced}
use Rattle.fvn_rewrite_coherence.proofs.TightSteps.{IsTightRedex, StepsTightly, redex_settled, redex_beside}

module _ (d : Declarations) where
  -- at one place of one summand of t stands u, and v makes a form whose flat form is c
  record ReplacesPart (f : OpId) (u v t c : FlatTerm) : Type 0 where
    part : FlatTerm
    new : FlatTerm
    others : List FlatTerm
    replaced : IsReplaced u v part new
    was : SameCounts (parts d f t) (part ∷ others)
    is : SameCounts (parts d f c) (parts d f (canon d (plain new)) ++ others)

  -- all of a joined sum of f is replaced
  abbrev IsWhole : OpId → FlatTerm → FlatTerm → FlatTerm → FlatTerm → Type 0
  IsWhole f u v t w = (ts : FlatTerms) × ((t ≡ fapp f true ts) × ((u ≡ t) × (v ≡ w)))

  alone : (f : OpId) (u v t w : FlatTerm) → IsReplaced u v t w → parts d f t ≡ t ∷ [] → ReplacesPart f u v t (canon d (plain w))
  alone f u v t w r e = record { part = t; new = w; others = []; replaced = r; was = λ q. ap (count q) e; is = λ q. ap (count q) (sym (append-nil (parts d f (canon d (plain w))))) }

  in_joined : (f : OpId) (u v : FlatTerm) (ts : FlatTerms) (w : FlatTerm) → Settled d (fapp f true ts) → IsReplaced u v (fapp f true ts) w → ReplacesPart f u v (fapp f true ts) (canon d (plain w)) ⊎ IsWhole f u v (fapp f true ts) w
  in_joined f _ _ ts _ h here = inr (ts, (refl, (refl, refl)))
  in_joined f u v ts _ h (inside {us} r) =
      let i = replaced_member r in
      let c = canon d (plain i.new) in
      let settled = each_around (Settled d) i.before i.member i.after (subst (AllByRecursion (Settled d)) i.was (SettledAll-funpack d ts h.1)) in
      let pieces = each_around (IsPiece d f) i.before i.member i.after (subst (AllByRecursion (IsPiece d f)) i.was h.0.pieces) in
      let whole : canon d (plain (fapp f true us)) ≡ sum d f (all_parts d f (i.before ++ c ∷ i.after)) =
      ap (λ l. canon d (plain (fapp f true l))) (sym (fpack-funpack us) ∙ ap fpack i.is) ∙ canon_replaced d f h.0.associative i.before i.new c i.after settled.0 settled.1.1 refl in
      let all = each_append (Settled d) i.before (c ∷ i.after) settled.0 (canon_settled d (plain i.new), settled.1.1) in
      inl record {
        part = i.member;
        new = i.new;
        others = i.before ++ i.after;
        replaced = i.replaced;
        was = λ q. ap (count q) (parts_joined d f ts ∙ i.was) ∙ count_around q i.member i.before i.after;
        is = λ q.
            let a = ap (count q) (ap (parts d f) whole ∙ parts_sum d f (all_parts d f (i.before ++ c ∷ i.after)) (all_parts_are_pieces d f (i.before ++ c ∷ i.after) all)) in
            let b = count_sort q (all_parts d f (i.before ++ c ∷ i.after)) in
            let e = count_parts_around d f q i.before c i.after pieces.0 pieces.1.1 in
            let g = count_append q (parts d f c) (i.before ++ i.after) in
            omega arith;
      }

  part_or_whole : (f : OpId) (u v t w : FlatTerm) → Settled d t → (parts d f t ≡ [] → ⊥) → IsReplaced u v t w → ReplacesPart f u v t (canon d (plain w)) ⊎ IsWhole f u v t w
  part_or_whole f u v (fvar x) w h n r = inl (alone f u v (fvar x) w r refl)
  part_or_whole f u v (fapp g true ts) w h n r = go (same_op f g) refl where
    go : (b : Bool) → same_op f g ≡ b → ReplacesPart f u v (fapp g true ts) (canon d (plain w)) ⊎ IsWhole f u v (fapp g true ts) w
    go true e =
        let one : f ≡ g = same_op_is f g e in
        subst (λ o. ReplacesPart f u v (fapp o true ts) (canon d (plain w)) ⊎ IsWhole f u v (fapp o true ts) w) one
        (in_joined f u v ts w (subst (λ o. Settled d (fapp o true ts)) (sym one) h) (subst (λ o. IsReplaced u v (fapp o true ts) w) (sym one) r))
    go false e = inl (alone f u v (fapp g true ts) w r (rw e refl))
  part_or_whole f u v (fapp g false fnone) w h n r = go (is_identity (identity (axioms d f)) g) refl where
    go : (b : Bool) → is_identity (identity (axioms d f)) g ≡ b → ReplacesPart f u v (fconstant g) (canon d (plain w)) ⊎ IsWhole f u v (fconstant g) w
    go true e = absurd (n (rw e refl))
    go false e = inl (alone f u v (fconstant g) w r (rw e refl))
  part_or_whole f u v (fapp g false (fmore t ts)) w h n r = inl (alone f u v (fapp g false (fmore t ts)) w r refl)

  -- beside what has no summands the other form is the sum
  pub sum_with_nothing : (f : OpId) (o : FlatTerm) → Settled d o → parts d f o ≡ [] → (a : FlatTerm) → Settled d a → build d f (a ∷ o ∷ []) ≡ a
  sum_with_nothing f o ho e a ha =
      let w = parts_none d f o ho e in
      ap (λ z. build d f (a ∷ z ∷ [])) w.2 ∙ build_right_identity d f w.0 w.1 a ha

  module _ (equations : Equations) (f : OpId) (assoc : IsAssociative (axioms d f)) (a b o : FlatTerm) (ha : Settled d a) (ho : Settled d o) where
    abbrev all : List FlatTerm
    all = all_parts d f (a ∷ o ∷ [])

    all_settled : AllByRecursion (Settled d) (sort all)
    all_settled = each_sort (Settled d) all (all_parts_are_settled d f (a ∷ o ∷ []) (ha, (ho, tt)))

    all_pieces : AllByRecursion (IsPiece d f) (sort all)
    all_pieces = each_sort (IsPiece d f) all (all_parts_are_pieces d f (a ∷ o ∷ []) (ha, (ho, tt)))

    -- a summand of the first form stands among all, beside its others and those of the second
    among_all : (part : FlatTerm) (others : List FlatTerm) → SameCounts (parts d f a) (part ∷ others) → StandsAmong part (sort all) (others ++ parts d f o)
    among_all part others was = stands_among part (sort all) (others ++ parts d f o) (λ q.
        let e = count_sort q all in
        let g = count_append q (parts d f a) (parts d f o ++ []) in
        let i = count_append q (parts d f o) [] in
        let j = was q in
        let l = count_append q others (parts d f o) in
        omega arith)

    module _ (part new : FlatTerm) (others before after : List FlatTerm) (split : sort all ≡ before ++ part ∷ after) (beside : SameCounts (before ++ after) (others ++ parts d f o)) where
      split_settled : AllByRecursion (Settled d) before × (Settled d part × AllByRecursion (Settled d) after)
      split_settled = each_around (Settled d) before part after (subst (AllByRecursion (Settled d)) split all_settled)

      split_pieces : AllByRecursion (IsPiece d f) before × (IsPiece d f part × AllByRecursion (IsPiece d f) after)
      split_pieces = each_around (IsPiece d f) before part after (subst (AllByRecursion (IsPiece d f)) split all_pieces)

      makes_sum : SameCounts (parts d f b) (parts d f (canon d (plain new)) ++ others) → canon d (plain (fapp f true (fpack (before ++ new ∷ after)))) ≡ build d f (b ∷ o ∷ [])
      makes_sum is =
          let c = canon d (plain new) in
          canon_replaced d f assoc before new c after split_settled.0 split_settled.1.1 refl
          ∙ sum_same_counts d f (all_parts d f (before ++ c ∷ after)) (all_parts d f (b ∷ o ∷ []))
          (λ q.
          let e = count_parts_around d f q before c after split_pieces.0 split_pieces.1.1 in
          let g = beside q in
          let i = count_append q others (parts d f o) in
          let j = is q in
          let l = count_append q (parts d f c) others in
          let n = count_append q (parts d f b) (parts d f o ++ []) in
          let p = count_append q (parts d f o) [] in
          omega arith)
          ∙ sym (build_sum d f assoc b (o ∷ []))

      step_at_summand : (u v : FlatTerm) → IsTightRedex d equations u v → IsReplaced u v part new → SameCounts (parts d f b) (parts d f (canon d (plain new)) ++ others) → build d f (a ∷ o ∷ []) ≡ fapp f true (fpack (sort all)) →
          StepsTightly d equations (build d f (a ∷ o ∷ [])) (build d f (b ∷ o ∷ []))
      step_at_summand u v redex replaced is form = record {
        at = u;
        given = v;
        redex = redex;
        replaced = fapp f true (fpack (before ++ new ∷ after));
        replaces = subst (λ z. IsReplaced u v z (fapp f true (fpack (before ++ new ∷ after)))) (sym (form ∙ ap (λ l. fapp f true (fpack l)) split)) (inside (replaced_among replaced before after));
        makes = makes_sum is;
      }

    step_of_part : (u v : FlatTerm) → IsTightRedex d equations u v → (r : ReplacesPart f u v a b) → build d f (a ∷ o ∷ []) ≡ fapp f true (fpack (sort all)) → StepsTightly d equations (build d f (a ∷ o ∷ [])) (build d f (b ∷ o ∷ []))
    step_of_part u v redex r form =
        let m = among_all r.part r.others r.was in
        step_at_summand r.part r.new r.others m.before m.after m.is m.beside u v redex r.replaced r.is form

    module _ (admissible : AreAdmissible d equations) (good : IsGood d) (k : SortId) (of_kind : HasKind d (two f (plain a) (plain o)) k) (some : parts d f a ≡ [] → ⊥) where
      step_of_whole : (s : StepsTightly d equations a b) → IsWhole f s.at s.given a s.replaced → StepsTightly d equations (build d f (a ∷ o ∷ [])) (build d f (b ∷ o ∷ []))
      step_of_whole s w =
          let redex : IsTightRedex d equations a s.replaced = subst (λ z. IsTightRedex d equations z s.replaced) w.1.1.0 (subst (IsTightRedex d equations s.at) w.1.1.1 s.redex) in
          let is : s.replaced ≡ b = sym (canon_plain d s.replaced (subst (Settled d) w.1.1.1 (redex_settled d equations s.at s.given s.redex).1)) ∙ s.makes in
          let moved = redex_beside d equations admissible good f w.0 a b o k (subst (IsTightRedex d equations a) is redex) w.1.0 ho of_kind in
          record {
            at = build d f (a ∷ o ∷ []);
            given = build d f (b ∷ o ∷ []);
            redex = moved;
            replaced = build d f (b ∷ o ∷ []);
            replaces = here;
            makes = canon_plain d (build d f (b ∷ o ∷ [])) (redex_settled d equations (build d f (a ∷ o ∷ [])) (build d f (b ∷ o ∷ [])) moved).1;
          }

      pub sum_step : StepsTightly d equations a b → StepsTightly d equations (build d f (a ∷ o ∷ [])) (build d f (b ∷ o ∷ []))
      sum_step s = go (parts d f o) refl where
        go : (l : List FlatTerm) → parts d f o ≡ l → StepsTightly d equations (build d f (a ∷ o ∷ [])) (build d f (b ∷ o ∷ []))
        go [] e =
            let to = sum_with_nothing f o ho e b (subst (Settled d) s.makes (canon_settled d (plain s.replaced))) in
            subst (λ z. StepsTightly d equations z (build d f (b ∷ o ∷ []))) (sym (sum_with_nothing f o ho e a ha)) (subst (StepsTightly d equations a) (sym to) s)
        go (x ∷ l) e =
            let one = some_length (parts d f a) some in
            let other = ap length e in
            let n = length-append (parts d f a) (parts d f o ++ []) in
            let m = length-append (parts d f o) [] in
            let form = sum_of_two_form d f assoc a o (omega arith) in
            at (part_or_whole f s.at s.given a s.replaced ha some s.replaces) form
          where
            at : ReplacesPart f s.at s.given a (canon d (plain s.replaced)) ⊎ IsWhole f s.at s.given a s.replaced → build d f (a ∷ o ∷ []) ≡ fapp f true (fpack (sort all)) → StepsTightly d equations (build d f (a ∷ o ∷ [])) (build d f (b ∷ o ∷ []))
            at (inl r) form = step_of_part s.at s.given s.redex (subst (ReplacesPart f s.at s.given a) s.makes r) form
            at (inr w) form = step_of_whole s w
