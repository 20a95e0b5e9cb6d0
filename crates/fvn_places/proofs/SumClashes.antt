-- Sums that clash have no equal instances: what keeps its head stays a summand of each instance.
use Rattle.std.proofs.Common.{◌≡◌, ℕ, suc, ◌+◌, ◌<◌, ◌≤◌, Bool, true, false, List, [], ◌∷◌, ◌++◌, map, length, get_or, None, Some, refl, sym, ap, ◌∙◌, subst, inl, inr, arith}
use Rattle.std.specs.Prelude.{◌⊎◌, if◌then◌else◌, All, Contains}
use Rattle.std.specs.List.{AllByRecursion}
use Rattle.std.proofs.lemmas.List.{length-append, length-map}
use Rattle.std.proofs.lemmas.List.Elements.{recursion_from_All}
use Rattle.fvn_base.proofs.Membership.{contains_cases, contains_none}
use Rattle.fvn_terms.specs.declared.plain.Var.{Var}
use Rattle.fvn_terms.specs.declared.plain.OpId.{OpId}
use Rattle.fvn_terms.specs.declared.declarations.Axioms.{Axioms}
use Rattle.fvn_terms.specs.declared.declarations.Axioms.TheVariants.{Free, Comm, AssocComm, AssocCommId}
use Rattle.fvn_terms.specs.declared.declarations.Declarations.{Declarations}
use Rattle.fvn_terms.specs.Signature.{axioms}
use Rattle.fvn_terms.specs.Substitution.{Substitution, apply}
use Rattle.fvn_terms.specs.Equality.{IsAssociative, identity}
use Rattle.fvn_forms.specs.Flat.{FlatTerm, FlatTerms, fvar, fapp, fnone, fmore, fpack, funpack, plain, plain_all}
use Rattle.fvn_forms.specs.Order.{same_flat}
use Rattle.fvn_forms.specs.InOrder.{sort, count}
use Rattle.fvn_forms.specs.Canon.{same_op, parts, all_parts, joined, sum, eval_all, canon}
use Rattle.fvn_forms.specs.Settled.{FitsUnjoined, Settled}
use Rattle.fvn_forms.proofs.Order.{same_flat_is}
use Rattle.fvn_forms.proofs.InOrder.{count_append, count_sort, count_itself, length_sort}
use Rattle.fvn_forms.proofs.Sums.{funpack-fpack, same_op_is, SettledAll-funpack}
use Rattle.fvn_forms.proofs.Eval.{canon_settled, eval_apply, eval_nest}
use Rattle.fvn_flat.specs.Forms.{head_of, args_of}
use Rattle.fvn_places.specs.Clashes.{NeverMeet}
use Rattle.fvn_places.specs.inner.Sums.{IsFirm, HasUnmet, Exceeds, AreTwice, SumsClash}
use Rattle.fvn_places.proofs.ClashFacts.{many_parts, instance_head}

-- a list of two
pub two_of : (l : List FlatTerm) (a b : FlatTerm) → length l ≡ 2 → a ≡ get_or l 0 a → b ≡ get_or l 1 b → l ≡ a ∷ b ∷ []
two_of [] a b n p q = absurd (omega (arith, n))
two_of (x ∷ []) a b n p q = absurd (omega (arith, n))
two_of (x ∷ y ∷ []) a b n p q = ap (λ z. z ∷ y ∷ []) (sym p) ∙ ap (λ z. a ∷ z ∷ []) (sym q)
two_of (x ∷ y ∷ z ∷ l) a b n p q = absurd (omega (arith, n))

-- what none of the images is does not stand among them
not_among : (q : FlatTerm) (g : FlatTerm → FlatTerm) (us : List FlatTerm) → AllByRecursion (λ u. q ≡ g u → ⊥) us → 1 ≤ count q (map g us) → ⊥
not_among q g [] all some = omega (arith, some)
not_among q g (u ∷ us) all some = go (same_flat q (g u)) refl (λ k. not_among q g us all.1 k)
  where
    go : (b : Bool) → same_flat q (g u) ≡ b → (1 ≤ count q (map g us) → ⊥) → ⊥
    go true e rest = all.0 (same_flat_is q (g u) e)
    go false e rest = let more : 1 ≤ 0 + count q (map g us) = rw e at some in rest (omega arith)

-- two forms that are, in order, one list twice are one
twice_one : (x y : FlatTerm) (p : List FlatTerm) → sort (x ∷ y ∷ []) ≡ sort (p ++ (p ++ [])) → x ≡ y
twice_one x y [] e = let a = length_sort (x ∷ y ∷ []) in let b = ap length e in absurd (omega (arith, a, b))
twice_one x y (p ∷ []) e = is_one x (let a = count_itself x (y ∷ []) in omega (arith, a, same x)) ∙ sym (is_one y (let a = count_itself y [] in omega (arith, a, same y)))
  where
    same : (z : FlatTerm) → count z (x ∷ y ∷ []) ≡ count z (p ∷ p ∷ [])
    same z = sym (count_sort z (x ∷ y ∷ [])) ∙ ap (count z) e ∙ count_sort z (p ∷ p ∷ [])

    is_one : (z : FlatTerm) → 1 ≤ count z (p ∷ p ∷ []) → z ≡ p
    is_one z some = go (same_flat z p) refl
      where
        go : (b : Bool) → same_flat z p ≡ b → z ≡ p
        go true q = same_flat_is z p q
        go false q = let none : 1 ≤ 0 + (0 + 0) = rw q at some in absurd (omega (arith, none))
twice_one x y (p ∷ r ∷ l) e =
    let a = length_sort (x ∷ y ∷ []) in
    let b = ap length e in
    let c = length_sort ((p ∷ r ∷ l) ++ ((p ∷ r ∷ l) ++ [])) in
    let n = length-append l (p ∷ r ∷ (l ++ [])) in
    absurd (omega (arith, a, b, c, n))

module _ (d : Declarations) where
  abbrev pub instance : Substitution → FlatTerm → FlatTerm
  instance s t = canon d (apply s (plain t))

  -- the summands under f of instances
  abbrev pub summands : OpId → Substitution → List FlatTerm → List FlatTerm
  summands f s ts = all_parts d f (map (instance s) ts)

  sum_args : (f : OpId) (l : List FlatTerm) → 2 ≤ length l → args_of (sum d f l) ≡ sort l
  sum_args f l two = go (sort l) (let e = length_sort l in omega arith)
    where
      go : (m : List FlatTerm) → 2 ≤ length m → args_of (joined d f m) ≡ m
      go [] n = absurd (omega arith)
      go (a ∷ []) n = absurd (omega arith)
      go (a ∷ b ∷ m) n = funpack-fpack (a ∷ b ∷ m)

  pub instances_settled : (s : Substitution) (l : List FlatTerm) → AllByRecursion (Settled d) (map (instance s) l)
  instances_settled s [] = tt
  instances_settled s (t ∷ l) = (canon_settled d (apply s (plain t)), instances_settled s l)

  abbrev values : Substitution → Var → FlatTerm
  values s x = canon d (s x)

  values_among : (s : Substitution) (ts : FlatTerms) → eval_all d (values s) (plain_all ts) ≡ map (instance s) (funpack ts)
  values_among s fnone = refl
  values_among s (fmore t ts) = ap (λ a. a ∷ eval_all d (values s) (plain_all ts)) (sym (eval_apply d fvar s (plain t))) ∙ ap (λ l. instance s t ∷ l) (values_among s ts)

  not_unjoined : (a : Axioms) (t : FlatTerm) (l : List FlatTerm) → IsAssociative a → FitsUnjoined d a (t ∷ l) → ⊥
  not_unjoined Free t l h e = h
  not_unjoined Comm t l h e = h
  not_unjoined AssocComm t l h e = cc
  not_unjoined (AssocCommId o) t l h e = cc

  -- the arguments of a sum's instance
  pub args_of_instance : (f : OpId) → IsAssociative (axioms d f) → identity (axioms d f) ≡ None → (t : FlatTerm) → Settled d t → head_of t ≡ Some f → 2 ≤ length (args_of t) → (s : Substitution) → args_of (instance s t) ≡ sort (summands f s (args_of t))
  args_of_instance f assoc lasting (fvar x) h e two s = cc
  args_of_instance f assoc lasting (fapp g true fnone) h e two s = absurd (omega (arith, two))
  args_of_instance f assoc lasting (fapp g true (fmore t ts)) h e two s =
      let q : f ≡ g = cc in
      let l = map (instance s) (funpack (fmore t ts)) in
      let long = length-map (funpack (fmore t ts)) (instance s) in
      let many = many_parts d g (subst (λ o. identity (axioms d o) ≡ None) q lasting) l (instances_settled s (funpack (fmore t ts))) in
      let is : instance s (fapp g true (fmore t ts)) ≡ sum d g (all_parts d g l) =
      eval_apply d fvar s (plain (fapp g true (fmore t ts)))
      ∙ eval_nest d (values s) (λ x. canon_settled d (s x)) g h.0.associative (plain t) (plain_all ts)
      ∙ ap (λ m. sum d g (all_parts d g m)) (values_among s (fmore t ts)) in
      ap args_of is ∙ sum_args g (all_parts d g l) (omega (arith, long, many, two)) ∙ ap (λ o. sort (all_parts d o l)) (sym q)
  args_of_instance f assoc lasting (fapp g false fnone) h e two s = absurd (omega (arith, two))
  args_of_instance f assoc lasting (fapp g false (fmore t ts)) h e two s =
      let q : f ≡ g = cc in
      absurd (not_unjoined (axioms d g) t (funpack ts) (subst (λ o. IsAssociative (axioms d o)) q assoc) h.0)

  module _ (f : OpId) (lasting : identity (axioms d f) ≡ None) where
    -- what another operator heads is one summand, where there is no identity
    other_is_piece : (u : FlatTerm) (g : OpId) → head_of u ≡ Some g → (g ≡ f → ⊥) → parts d f u ≡ u ∷ []
    other_is_piece (fvar x) g h other = refl
    other_is_piece (fapp o true ts) g h other = go (same_op f o) refl
      where
        go : (b : Bool) → same_op f o ≡ b → (if b then funpack ts else fapp o true ts ∷ []) ≡ fapp o true ts ∷ []
        go true e = let q : o ≡ g = cc in absurd (other (sym q ∙ sym (same_op_is f o e)))
        go false e = refl
    other_is_piece (fapp o false fnone) g h other = rw lasting refl
    other_is_piece (fapp o false (fmore t ts)) g h other = refl

    firm_part : (t : FlatTerm) → Settled d t → IsFirm d f t → (s : Substitution) → parts d f (instance s t) ≡ instance s t ∷ []
    firm_part t h k s = other_is_piece (instance s t) k.operator (instance_head d k.operator k.no_identity t h k.heads s) k.is_other

    firm_parts : (us : List FlatTerm) → AllByRecursion (Settled d) us → AllByRecursion (IsFirm d f) us → (s : Substitution) → summands f s us ≡ map (instance s) us
    firm_parts [] h k s = refl
    firm_parts (u ∷ us) h k s = ap (λ l. l ++ summands f s us) (firm_part u h.0 k.0 s) ∙ ap (λ l. instance s u ∷ l) (firm_parts us h.1 k.1 s)

    -- one that stays one summand is counted
    stays : (s : Substitution) (t : FlatTerm) → parts d f (instance s t) ≡ instance s t ∷ [] → (ts : List FlatTerm) → Contains ts t → 1 ≤ count (instance s t) (summands f s ts)
    stays s t one [] c = absurd (contains_none t c)
    stays s t one (z ∷ ts) c = go (contains_cases z ts t c) (λ i. stays s t one ts i)
      where
        both : count (instance s t) (summands f s (z ∷ ts)) ≡ count (instance s t) (parts d f (instance s z)) + count (instance s t) (summands f s ts)
        both = count_append (instance s t) (parts d f (instance s z)) (summands f s ts)

        go : (z ≡ t) ⊎ Contains ts t → (Contains ts t → 1 ≤ count (instance s t) (summands f s ts)) → 1 ≤ count (instance s t) (summands f s (z ∷ ts))
        go (inl e) rest =
            let here : count (instance s t) (parts d f (instance s z)) ≡ count (instance s t) (instance s t ∷ []) = ap (λ w. count (instance s t) (parts d f (instance s w))) e ∙ ap (count (instance s t)) one in
            let own = count_itself (instance s t) [] in
            omega (arith, here, own, both)
        go (inr i) rest = let r = rest i in omega (arith, r, both)

    module _ (ts us : List FlatTerm) (hs : AllByRecursion (Settled d) ts) (ks : AllByRecursion (Settled d) us) (s c : Substitution) (same : sort (summands f s ts) ≡ sort (summands f c us)) where
      as_often : (q : FlatTerm) → count q (summands f s ts) ≡ count q (summands f c us)
      as_often q = sym (count_sort q (summands f s ts)) ∙ ap (count q) same ∙ count_sort q (summands f c us)

      as_many : length (summands f s ts) ≡ length (summands f c us)
      as_many = sym (length_sort (summands f s ts)) ∙ ap length same ∙ length_sort (summands f c us)

      too_few : AllByRecursion (IsFirm d f) us → length us < length ts → ⊥
      too_few firm few =
          let many = many_parts d f lasting (map (instance s) ts) (instances_settled s ts) in
          let a = length-map ts (instance s) in
          let b = ap length (firm_parts us ks firm c) in
          let e = length-map us (instance c) in
          omega (arith, many, a, b, e, as_many, few)

      left_over : AllByRecursion (IsFirm d f) us → HasUnmet d f ts us → ⊥
      left_over firm h =
          let t = h.summand in
          let one = stays s t (firm_part t (settled_at t h.listed) h.firm s) ts h.listed in
          let among : 1 ≤ count (instance s t) (map (instance c) us) = subst (λ l. 1 ≤ count (instance s t) l) (firm_parts us ks firm c) (subst (λ n. 1 ≤ n) (as_often (instance s t)) one) in
          not_among (instance s t) (instance c) us (unlike t us (recursion_from_All (NeverMeet d t) us h.unmet)) among
        where
          settled_at : (t : FlatTerm) → Contains ts t → Settled d t
          settled_at t i = holds_at ts hs t i
            where
              holds_at : (l : List FlatTerm) → AllByRecursion (Settled d) l → (t : FlatTerm) → Contains l t → Settled d t
              holds_at [] all t i = absurd (contains_none t i)
              holds_at (z ∷ l) all t i = go (contains_cases z l t i) (λ j. holds_at l all.1 t j)
                where
                  go : (z ≡ t) ⊎ Contains l t → (Contains l t → Settled d t) → Settled d t
                  go (inl e) rest = subst (Settled d) e all.0
                  go (inr j) rest = rest j

          unlike : (t : FlatTerm) (l : List FlatTerm) → AllByRecursion (NeverMeet d t) l → AllByRecursion (λ u. instance s t ≡ instance c u → ⊥) l
          unlike t [] all = tt
          unlike t (u ∷ l) all = (λ e. all.0 s c e, unlike t l all.1)

      exceeding : Exceeds d f ts us → ⊥
      exceeding x = go (recursion_from_All (IsFirm d f) us x.firm) x.over
        where
          go : AllByRecursion (IsFirm d f) us → (length us < length ts) ⊎ HasUnmet d f ts us → ⊥
          go firm (inl few) = too_few firm few
          go firm (inr h) = left_over firm h

      one_twice : AreTwice d f ts us → ⊥
      one_twice x =
          let firm = firm_parts ts hs (recursion_from_All (IsFirm d f) ts x.firm) s in
          let first : sort (map (instance s) ts) ≡ sort (summands f c us) = ap sort (sym firm) ∙ same in
          let e : sort (instance s x.first ∷ instance s x.second ∷ []) ≡ sort (parts d f (instance c x.twice) ++ (parts d f (instance c x.twice) ++ [])) =
          ap (λ l. sort (map (instance s) l)) (sym x.are) ∙ first ∙ ap (λ l. sort (summands f c l)) x.both in
          x.never s s (twice_one (instance s x.first) (instance s x.second) (parts d f (instance c x.twice)) e)

    no_sums : (ts us : List FlatTerm) → AllByRecursion (Settled d) ts → AllByRecursion (Settled d) us → (s c : Substitution) → sort (summands f s ts) ≡ sort (summands f c us) → Exceeds d f ts us ⊎ (Exceeds d f us ts ⊎ AreTwice d f ts us) → ⊥
    no_sums ts us hs ks s c same (inl x) = exceeding ts us hs ks s c same x
    no_sums ts us hs ks s c same (inr (inl x)) = exceeding us ts ks hs c s (sym same) x
    no_sums ts us hs ks s c same (inr (inr x)) = one_twice ts us hs ks s c same x

  pub args_settled : (t : FlatTerm) → Settled d t → AllByRecursion (Settled d) (args_of t)
  args_settled (fvar x) h = tt
  args_settled (fapp g joined ts) h = SettledAll-funpack d ts h.1

  -- two sums that clash never meet
  pub sums_never_meet : (f : OpId) (t u : FlatTerm) → Settled d t → Settled d u → head_of t ≡ Some f → head_of u ≡ Some f → SumsClash d f (args_of t) (args_of u) → NeverMeet d t u
  sums_never_meet f t u ht hu et eu x s c e =
      no_sums f x.lasting (args_of t) (args_of u) (args_settled t ht) (args_settled u hu) s c
      (sym (args_of_instance f x.associative x.lasting t ht et x.many.0 s) ∙ ap args_of e ∙ args_of_instance f x.associative x.lasting u hu eu x.many.1 c) x.clash
