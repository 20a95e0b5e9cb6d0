-- Where a form that is replaced stands in an instance of a flat form: at a part of the form, or within the value of a variable.
use Rattle.std.proofs.Common.{◌≡◌, ◌⊎◌, ◌≤◌, Bool, true, false, List, [], ◌∷◌, ◌++◌, Option, Some, None, refl, sym, ap, ◌∙◌, subst, inl, inr, arith}
use Rattle.std.specs.List.{AllByRecursion}
use Rattle.std.proofs.lemmas.List.{append-nil}
use Rattle.fvn_terms.specs.declared.plain.Var.{Var}
use Rattle.fvn_terms.specs.declared.plain.OpId.{OpId}
use Rattle.fvn_terms.specs.declared.declarations.Axioms.{Axioms}
use Rattle.fvn_terms.specs.declared.declarations.Axioms.TheVariants.{Free, Comm, AssocComm, AssocCommId}
use Rattle.fvn_terms.specs.declared.declarations.Declarations.{Declarations}
use Rattle.fvn_terms.specs.Substitution.{Occurs, OccursAmong}
use Rattle.fvn_terms.specs.Signature.{axioms}
use Rattle.fvn_terms.specs.Equality.{IsAssociative, identity}
use Rattle.fvn_forms.specs.Flat.{FlatTerm, FlatTerms, fvar, fapp, fnone, fmore, fpack, funpack, fconstant, plain, plain_all}
use Rattle.fvn_forms.specs.InOrder.{sort, count}
use Rattle.fvn_forms.specs.Canon.{parts, all_parts, joined as joined_sum, sum, canon, inst}
use Rattle.fvn_forms.specs.Settled.{IsPiece, Settled, SettledValues}
use Rattle.fvn_forms.proofs.InOrder.{count_append, count_itself, count_sort, sort_same_counts, each_sort}
use Rattle.fvn_forms.proofs.Sums.{funpack-fpack, fpack-funpack, SettledAll-funpack, sum_parts, sum_same_counts, all_parts_are_pieces, all_parts_are_settled}
use Rattle.fvn_forms.proofs.Eval.{eval_all_settled, canon_settled}
use Rattle.fvn_forms.proofs.Instances.{inst_settled}
use Rattle.fvn_flat.specs.Forms.{head_of}
use Rattle.fvn_flat.specs.FlatPlaces.{IsReplaced, here, inside}
use Rattle.fvn_flat.proofs.Occurrences.{occurs_in_app}
use Rattle.fvn_rewrite_coherence.proofs.Tight.{IsIdentityForm, unjoined_free}
use Rattle.fvn_rewrite_coherence.proofs.Members.{stands_among, count_around, each_around, replaced_among, ReplacesMember, replaced_member, count_parts_around}
use Rattle.fvn_rewrite_coherence.proofs.ArgumentSteps.{build_free, build_commutative}
use Rattle.fvn_rewrite_coherence.proofs.FormLists.{not_nothing, occurs_among, instances, combined, instances_around, inst_combined, around_agree, unjoined_canon, joined_canon, count_all_parts_around, IsSplit, split, IsOwner, owner}
use Rattle.fvn_rewrite_coherence.proofs.SummandPlaces.{in_summand}

-- the whole form is replaced
abbrev IsRoot : FlatTerm → FlatTerm → FlatTerm → FlatTerm → Type 0
IsRoot u v t w = (u ≡ t) × (w ≡ v)

-- something is replaced in one of the arguments
abbrev IsInside : FlatTerm → FlatTerm → OpId → Bool → FlatTerms → FlatTerm → Type 0
IsInside u v f joined ts w = (us : FlatTerms) × ((w ≡ fapp f joined us) × ReplacesMember u v (funpack ts) (funpack us))

root_or_inside : (f : OpId) (joined : Bool) (ts : FlatTerms) (u v w : FlatTerm) → IsReplaced u v (fapp f joined ts) w → IsRoot u v (fapp f joined ts) w ⊎ IsInside u v f joined ts w
root_or_inside f joined ts _ _ _ here = inl (refl, refl)
root_or_inside f joined ts u v _ (inside {us} r) = inr (us, (refl, replaced_member r))

module _ (d : Declarations) (v : Var → FlatTerm) (settled : SettledValues d v) where
  -- Whatever form is put in one place of t, where `at` stands, and whatever values variables have that are not in t:
  -- where the instance of what is put there is this value, that of the whole is this one.
  pub record IsPlace (at t value whole : FlatTerm) : Type 0 where
    pub put : FlatTerm → FlatTerm
    pub replaces : (given : FlatTerm) → IsReplaced at given t (put given)
    pub occurs : (x : Var) → Occurs x (plain at) → Occurs x (plain t)
    pub makes : (given : FlatTerm) (w : Var → FlatTerm) → SettledValues d w → ((x : Var) → Occurs x (plain t) → w x ≡ v x) → inst d w given ≡ value → inst d w (put given) ≡ whole

  root_place : (t value : FlatTerm) → IsPlace t t value value
  root_place t value = record { put = λ g. g; replaces = λ g. here; occurs = λ x o. o; makes = λ g w h a e. e }

  module _ (f : OpId) (joined : Bool) (assoc : joined ≡ true → IsAssociative (axioms d f)) (before : List FlatTerm) (p : FlatTerm) (after : List FlatTerm) where
    occurs_here : (x : Var) → OccursAmong x (plain_all (fpack (before ++ p ∷ after))) → Occurs x (plain (fapp f joined (fpack (before ++ p ∷ after))))
    occurs_here x o = (occurs_in_app x f joined (fpack (before ++ p ∷ after))).1 o

    -- a place of an argument is one of the form
    within : (at value part whole : FlatTerm) → IsPlace at p value part → combined d f joined (instances d v before ++ part ∷ instances d v after) ≡ whole → IsPlace at (fapp f joined (fpack (before ++ p ∷ after))) value whole
    within at value part whole place e = record {
      put = λ g. fapp f joined (fpack (before ++ place.put g ∷ after));
      replaces = λ g. inside (replaced_among (place.replaces g) before after);
      occurs = λ x o. occurs_here x (occurs_among x before p after (place.occurs x o));
      makes = λ g w h a is.
          inst_combined d w h f joined assoc before (place.put g) after
          ∙ ap (combined d f joined) (instances_around d w before (place.put g) after)
          ∙ ap (λ z. combined d f joined (instances d w before ++ z ∷ instances d w after)) (place.makes g w h (λ x o. a x (occurs_here x (occurs_among x before p after o))) is)
          ∙ ap (combined d f joined) (around_agree d w v before p part after (λ x o. a x (occurs_here x o)))
          ∙ e;
    }

  module _ (o given : FlatTerm) where
    -- the instance of the part, headed by one operator with it, is what is replaced
    pub record IsPart (at value : FlatTerm) : Type 0 where
      pub operator : OpId
      pub heads : head_of at ≡ Some operator
      pub heads_instance : head_of o ≡ Some operator
      pub instance : inst d v at ≡ o
      pub same : value ≡ given

    -- something is replaced in the value of a variable
    pub record IsInValue (at value : FlatTerm) : Type 0 where
      pub variable : Var
      pub is : at ≡ fvar variable
      pub replaces : IsReplaced o given (v variable) value

    -- what is replaced in an instance of t stands at a part of t, or within a variable's value
    pub record StandsIn (t whole : FlatTerm) : Type 0 where
      pub at : FlatTerm
      pub value : FlatTerm
      pub place : IsPlace at t (canon d (plain value)) whole
      pub how : IsPart at value ⊎ IsInValue at value

    -- so wherever it is replaced
    abbrev pub Stands : FlatTerm → Type 0
    Stands t = Settled d t → (w : FlatTerm) → IsReplaced o given (inst d v t) w → StandsIn t (canon d (plain w))

    at_root : (f : OpId) (joined : Bool) (ts ms : FlatTerms) (w : FlatTerm) → inst d v (fapp f joined ts) ≡ fapp f joined ms → IsRoot o given (fapp f joined ms) w → StandsIn (fapp f joined ts) (canon d (plain w))
    at_root f joined ts ms w form root = record {
      at = fapp f joined ts;
      value = w;
      place = root_place (fapp f joined ts) (canon d (plain w));
      how = inl record { operator = f; heads = refl; heads_instance = ap head_of root.0; instance = form ∙ sym root.0; same = root.1 };
    }

    settled_instances : (l : List FlatTerm) → AllByRecursion (Settled d) (instances d v l)
    settled_instances l = eval_all_settled d v settled (plain_all (fpack l))

    module _ (f : OpId) (joined : Bool) (assoc : joined ≡ true → IsAssociative (axioms d f)) where
      descend : (before : List FlatTerm) (p : FlatTerm) (after l : List FlatTerm) → l ≡ before ++ p ∷ after → (part whole : FlatTerm) → StandsIn p part → combined d f joined (instances d v before ++ part ∷ instances d v after) ≡ whole → StandsIn (fapp f joined (fpack l)) whole
      descend before p after l is part whole s e =
          subst (λ m. StandsIn (fapp f joined (fpack m)) whole) (sym is)
          record { at = s.at; value = s.value; place = within f joined assoc before p after s.at (canon d (plain s.value)) part whole s.place e; how = s.how }

      -- what stands in one argument's instance
      through_member : (l before : List FlatTerm) (member : FlatTerm) (after : List FlatTerm) → AllByRecursion Stands l → AllByRecursion (Settled d) l → IsSplit d v l before member after → (new whole : FlatTerm) → IsReplaced o given member new →
          combined d f joined (before ++ canon d (plain new) ∷ after) ≡ whole → StandsIn (fapp f joined (fpack l)) whole
      through_member l before member after ih h s new whole r e =
          let c = canon d (plain new) in
          let stands = (each_around Stands s.first_ones s.form s.last_ones (subst (AllByRecursion Stands) s.is ih)).1.0 in
          let fits = (each_around (Settled d) s.first_ones s.form s.last_ones (subst (AllByRecursion (Settled d)) s.is h)).1.0 in
          descend s.first_ones s.form s.last_ones l s.is c whole
          (stands fits new (subst (λ z. IsReplaced o given z new) (sym s.member_is) r))
          (ap (λ m. combined d f joined (m ++ c ∷ instances d v s.last_ones)) s.before_is ∙ ap (λ m. combined d f joined (before ++ c ∷ m)) s.after_is ∙ e)

    module _ (f : OpId) (l : List FlatTerm) (ih : AllByRecursion Stands l) (h : AllByRecursion (Settled d) l) where
      unjoined : false ≡ true → IsAssociative (axioms d f)
      unjoined e = cc

      in_free : axioms d f ≡ Free → (w : FlatTerm) → IsReplaced o given (inst d v (fapp f false (fpack l))) w → StandsIn (fapp f false (fpack l)) (canon d (plain w))
      in_free e w r = go (root_or_inside f false (fpack (instances d v l)) o given w (subst (λ z. IsReplaced o given z w) form r)) where
        form : inst d v (fapp f false (fpack l)) ≡ fapp f false (fpack (instances d v l))
        form = build_free d f e (instances d v l)

        go : IsRoot o given (fapp f false (fpack (instances d v l))) w ⊎ IsInside o given f false (fpack (instances d v l)) w → StandsIn (fapp f false (fpack l)) (canon d (plain w))
        go (inl root) = at_root f false (fpack l) (fpack (instances d v l)) w form root
        go (inr i) =
            let m = i.1.1 in
            let was : instances d v l ≡ m.before ++ m.member ∷ m.after = sym (funpack-fpack (instances d v l)) ∙ m.was in
            let each = each_around (Settled d) m.before m.member m.after (subst (AllByRecursion (Settled d)) was (settled_instances l)) in
            through_member f false unjoined l m.before m.member m.after ih h (split d v l m.before m.member m.after was) m.new (canon d (plain w)) m.replaced
            (sym (ap (λ z. canon d (plain z)) i.1.0 ∙ unjoined_canon d f i.0 m.before m.new m.after m.is each.0 each.1.1))

      in_commutative : axioms d f ≡ Comm → (w : FlatTerm) → IsReplaced o given (inst d v (fapp f false (fpack l))) w → StandsIn (fapp f false (fpack l)) (canon d (plain w))
      in_commutative e w r = go (root_or_inside f false (fpack (sort (instances d v l))) o given w (subst (λ z. IsReplaced o given z w) form r)) where
        form : inst d v (fapp f false (fpack l)) ≡ fapp f false (fpack (sort (instances d v l)))
        form = build_commutative d f e (instances d v l)

        go : IsRoot o given (fapp f false (fpack (sort (instances d v l)))) w ⊎ IsInside o given f false (fpack (sort (instances d v l))) w → StandsIn (fapp f false (fpack l)) (canon d (plain w))
        go (inl root) = at_root f false (fpack l) (fpack (sort (instances d v l))) w form root
        go (inr i) =
            let m = i.1.1 in
            let c = canon d (plain m.new) in
            let was : sort (instances d v l) ≡ m.before ++ m.member ∷ m.after = sym (funpack-fpack (sort (instances d v l))) ∙ m.was in
            let each = each_around (Settled d) m.before m.member m.after (subst (AllByRecursion (Settled d)) was (each_sort (Settled d) (instances d v l) (settled_instances l))) in
            let k = stands_among m.member (instances d v l) (m.before ++ m.after) (λ q. sym (count_sort q (instances d v l)) ∙ ap (count q) was ∙ count_around q m.member m.before m.after) in
            let turned : sort (k.before ++ c ∷ k.after) ≡ sort (m.before ++ c ∷ m.after) = sort_same_counts (k.before ++ c ∷ k.after) (m.before ++ c ∷ m.after) (λ q.
            let x = count_around q c k.before k.after in
            let y = count_around q c m.before m.after in
            let z = k.beside q in
            omega arith) in
            through_member f false unjoined l k.before m.member k.after ih h (split d v l k.before m.member k.after k.is) m.new (canon d (plain w)) m.replaced
            (build_commutative d f e (k.before ++ c ∷ k.after)
            ∙ ap (λ z. fapp f false (fpack z)) turned
            ∙ sym (build_commutative d f e (m.before ++ c ∷ m.after))
            ∙ sym (ap (λ z. canon d (plain z)) i.1.0 ∙ unjoined_canon d f i.0 m.before m.new m.after m.is each.0 each.1.1))

      module _ (assoc : IsAssociative (axioms d f)) where
        abbrev all : List FlatTerm
        all = all_parts d f (instances d v l)

        all_settled : AllByRecursion (Settled d) (sort all)
        all_settled = each_sort (Settled d) all (all_parts_are_settled d f (instances d v l) (settled_instances l))

        all_pieces : AllByRecursion (IsPiece d f) (sort all)
        all_pieces = each_sort (IsPiece d f) all (all_parts_are_pieces d f (instances d v l) (settled_instances l))

        module _ (before : List FlatTerm) (part new : FlatTerm) (after : List FlatTerm) (was : sort all ≡ before ++ part ∷ after) (r : IsReplaced o given part new) where
          some_owner : IsOwner d v f part l
          some_owner =
              let a = count_sort part all in
              let b = ap (count part) was ∙ count_around part part before after in
              let c = count_itself part (before ++ after) in
              owner d v f part l (omega arith)

          -- what stands in a summand of an instance stands in the instance of one summand
          through_part : (whole : FlatTerm) → sum d f (all_parts d f (before ++ canon d (plain new) ∷ after)) ≡ whole → StandsIn (fapp f true (fpack l)) whole
          through_part whole e =
              let w = some_owner in
              let x = instances d v w.first_ones in
              let y = instances d v w.last_ones in
              let fits = (each_around (Settled d) w.first_ones w.form w.last_ones (subst (AllByRecursion (Settled d)) w.is h)).1.0 in
              let stands = (each_around Stands w.first_ones w.form w.last_ones (subst (AllByRecursion Stands) w.is ih)).1.0 in
              let s = in_summand d o given f (inst d v w.form) part new w.front w.back (inst_settled d v settled w.form) r w.among in
              let c = canon d (plain s.whole) in
              let pieces = each_around (IsPiece d f) before part after (subst (AllByRecursion (IsPiece d f)) was all_pieces) in
              descend f true (λ z. assoc) w.first_ones w.form w.last_ones l w.is c whole (stands fits s.whole s.replaced)
              (sum_same_counts d f (all_parts d f (x ++ c ∷ y)) (all_parts d f (before ++ canon d (plain new) ∷ after)) (λ q.
              let g1 = count_all_parts_around d f q x c y in
              let g2 = s.is q in
              let g3 = count_append q (parts d f (canon d (plain new))) (w.front ++ w.back) in
              let g4 = count_parts_around d f q before (canon d (plain new)) after pieces.0 pieces.1.1 in
              let g5 = count_sort q all in
              let g6 = ap (count q) was ∙ count_around q part before after in
              let g7 = ap (λ m. count q (all_parts d f m)) (ap (instances d v) w.is ∙ instances_around d v w.first_ones w.form w.last_ones) ∙ count_all_parts_around d f q x (inst d v w.form) y in
              let g8 = ap (count q) w.among ∙ count_around q part w.front w.back in
              omega arith)
              ∙ e)

        module _ (no_identity : IsIdentityForm d o → ⊥) (form : inst d v (fapp f true (fpack l)) ≡ joined_sum d f (sort all)) where
          no_sum : (e : Option OpId) → identity (axioms d f) ≡ e → sort all ≡ [] → (w : FlatTerm) → IsReplaced o given (inst d v (fapp f true (fpack l))) w → StandsIn (fapp f true (fpack l)) (canon d (plain w))
          no_sum None e p w r =
              let is : inst d v (fapp f true (fpack l)) ≡ fapp f true fnone = form ∙ ap (joined_sum d f) p ∙ (rw e refl) in
              let two : 2 ≤ 0 = (subst (Settled d) is (inst_settled d v settled (fapp f true (fpack l)))).0.two_or_more in absurd (omega arith)
          no_sum (Some i) e p w r =
              let is : inst d v (fapp f true (fpack l)) ≡ fconstant i = form ∙ ap (joined_sum d f) p ∙ (rw e refl) in
              go (root_or_inside i false fnone o given w (subst (λ z. IsReplaced o given z w) is r))
            where
              go : IsRoot o given (fconstant i) w ⊎ IsInside o given i false fnone w → StandsIn (fapp f true (fpack l)) (canon d (plain w))
              go (inl root) = absurd (no_identity (subst (IsIdentityForm d) (sym root.0) (f, (i, e, refl))))
              go (inr k) = absurd (not_nothing k.1.1.before k.1.1.member k.1.1.after k.1.1.was)

          in_sum : (m : List FlatTerm) → sort all ≡ m → (w : FlatTerm) → IsReplaced o given (inst d v (fapp f true (fpack l))) w → StandsIn (fapp f true (fpack l)) (canon d (plain w))
          in_sum [] p w r = no_sum (identity (axioms d f)) refl p w r
          in_sum (b ∷ []) p w r =
              let c = canon d (plain w) in
              through_part [] b w [] p (subst (λ z. IsReplaced o given z w) (form ∙ ap (joined_sum d f) p) r) c
              (ap (sum d f) (append-nil (parts d f c)) ∙ sum_parts d f c (canon_settled d (plain w)))
          in_sum (b ∷ a ∷ m) p w r =
              let is : inst d v (fapp f true (fpack l)) ≡ fapp f true (fpack (b ∷ a ∷ m)) = form ∙ ap (joined_sum d f) p in
              go is (root_or_inside f true (fpack (b ∷ a ∷ m)) o given w (subst (λ z. IsReplaced o given z w) is r))
            where
              go : inst d v (fapp f true (fpack l)) ≡ fapp f true (fpack (b ∷ a ∷ m)) → IsRoot o given (fapp f true (fpack (b ∷ a ∷ m))) w ⊎ IsInside o given f true (fpack (b ∷ a ∷ m)) w → StandsIn (fapp f true (fpack l)) (canon d (plain w))
              go is (inl root) = at_root f true (fpack l) (fpack (b ∷ a ∷ m)) w is root
              go is (inr i) =
                  let k = i.1.1 in
                  let was : sort all ≡ k.before ++ k.member ∷ k.after = p ∙ sym (funpack-fpack (b ∷ a ∷ m)) ∙ k.was in
                  let each = each_around (Settled d) k.before k.member k.after (subst (AllByRecursion (Settled d)) was all_settled) in
                  through_part k.before k.member k.new k.after was k.replaced (canon d (plain w))
                  (sym (ap (λ z. canon d (plain z)) i.1.0 ∙ joined_canon d f assoc i.0 k.before k.new k.after k.is each.0 each.1.1))

    module _ (no_identity : IsIdentityForm d o → ⊥) where
      at_variable : (x : Var) → Stands (fvar x)
      at_variable x h w r = record { at = fvar x; value = w; place = root_place (fvar x) (canon d (plain w)); how = inr record { variable = x; is = refl; replaces = r } }

      stands_over : (f : OpId) (joined : Bool) (l : List FlatTerm) → AllByRecursion Stands l → Stands (fapp f joined (fpack l))
      stands_over f true [] ih h w r = let two : 2 ≤ 0 = h.0.two_or_more in absurd (omega arith)
      stands_over f true (t ∷ l) ih h w r =
          let each = subst (AllByRecursion (Settled d)) (funpack-fpack (t ∷ l)) (SettledAll-funpack d (fpack (t ∷ l)) h.1) in
          in_sum f (t ∷ l) ih each h.0.associative no_identity (inst_combined d v settled f true (λ e. h.0.associative) [] t l) (sort (all_parts d f (instances d v (t ∷ l)))) refl w r
      stands_over f false [] ih h w r = go (root_or_inside f false fnone o given w r) where
        go : IsRoot o given (fconstant f) w ⊎ IsInside o given f false fnone w → StandsIn (fconstant f) (canon d (plain w))
        go (inl root) = at_root f false fnone fnone w refl root
        go (inr k) = absurd (not_nothing k.1.1.before k.1.1.member k.1.1.after k.1.1.was)
      stands_over f false (t ∷ l) ih h w r = go (axioms d f) refl where
        each : AllByRecursion (Settled d) (t ∷ l)
        each = subst (AllByRecursion (Settled d)) (funpack-fpack (t ∷ l)) (SettledAll-funpack d (fpack (t ∷ l)) h.1)

        go : (x : Axioms) → axioms d f ≡ x → StandsIn (fapp f false (fpack (t ∷ l))) (canon d (plain w))
        go Free e = in_free f (t ∷ l) ih each e w r
        go Comm e = in_commutative f (t ∷ l) ih each e w r
        go AssocComm e = absurd (unjoined_free d f (axioms d f) t (funpack (fpack l)) h.0 (rw e tt))
        go (AssocCommId i) e = absurd (unjoined_free d f (axioms d f) t (funpack (fpack l)) h.0 (rw e tt))

      mutual
        -- what is replaced in an instance stands at a part of the form, or within a variable's value
        pub stands : (t : FlatTerm) → Stands t
        stands (fvar x) = at_variable x
        stands (fapp f joined ts) = subst (λ z. Stands (fapp f joined z)) (fpack-funpack ts) (stands_over f joined (funpack ts) (all_stand ts))

        all_stand : (ts : FlatTerms) → AllByRecursion Stands (funpack ts)
        all_stand fnone = tt
        all_stand (fmore t ts) = (stands t, all_stand ts)
