-- Sequences of lists, and those of their members.
use Rattle.std.proofs.Common.{◌≡◌, ℕ, zero, suc, List, [], ◌∷◌, map, refl, sym, subst, inl, inr, arith}
use Rattle.std.specs.List.{AllZip}
use Rattle.fvn_terms.specs.declared.declarations.Declarations.{Declarations}
use Rattle.fvn_terms.specs.Term.{Term}
use Rattle.fvn_terms.specs.Substitution.{Substitution, apply}
use Rattle.fvn_terms.specs.Places.{stop}
use Rattle.fvn_terms.specs.Equality.{BEqual}
use Rattle.fvn_terms.specs.Sorts.{IsWellSorted}
use Rattle.fvn_terms.specs.Theory.{Equations}
use Rattle.fvn_terms.specs.Rewriting.{TermSequence, ListRewrites, ListSequence, IsIrreducibleList}
use Rattle.fvn_terms.specs.Laws.{RewritingLaws}
use Rattle.fvn_terms.proofs.Equal.{BEqual-apply, BEqual-trans, BEqual-sym}
use Rattle.fvn_rewrite_laws.specs.Lists.{EachHasSequence}
use Rattle.fvn_rewrite_laws.specs.Laws.{ListLaws}
use Rattle.fvn_rewrite_laws.proofs.Sequences.{sequence_before}

module _ (d : Declarations) where
  pub each_equal_itself : (ts : List Term) → AllZip (BEqual d) ts ts
  each_equal_itself [] = tt
  each_equal_itself (t ∷ ts) = (stop, each_equal_itself ts)

  pub each_equal_back : (ts us : List Term) → AllZip (BEqual d) ts us → AllZip (BEqual d) us ts
  each_equal_back [] [] h = tt
  each_equal_back [] (u ∷ us) h = absurd h
  each_equal_back (t ∷ ts) [] h = absurd h
  each_equal_back (t ∷ ts) (u ∷ us) h = (BEqual-sym d h.0, each_equal_back ts us h.1)

  pub each_equal_on : (ts us vs : List Term) → AllZip (BEqual d) ts us → AllZip (BEqual d) us vs → AllZip (BEqual d) ts vs
  each_equal_on [] [] vs h g = g
  each_equal_on [] (u ∷ us) vs h g = absurd h
  each_equal_on (t ∷ ts) [] vs h g = absurd h
  each_equal_on (t ∷ ts) (u ∷ us) [] h g = absurd g
  each_equal_on (t ∷ ts) (u ∷ us) (v ∷ vs) h g = (BEqual-trans d h.0 g.0, each_equal_on ts us vs h.1 g.1)

  each_equal_instance : (s : Substitution) → IsWellSorted d s → (ts us : List Term) → AllZip (BEqual d) ts us → AllZip (BEqual d) (map (apply s) ts) (map (apply s) us)
  each_equal_instance s sorted [] [] h = tt
  each_equal_instance s sorted [] (u ∷ us) h = absurd h
  each_equal_instance s sorted (t ∷ ts) [] h = absurd h
  each_equal_instance s sorted (t ∷ ts) (u ∷ us) h = (BEqual-apply d s sorted.0 h.0, each_equal_instance s sorted ts us h.1)

  module _ (equations : Equations) (laws : RewritingLaws d equations) where
    list_step_before : (ts us vs : List Term) → AllZip (BEqual d) us ts → ListRewrites d equations ts vs → ListRewrites d equations us vs
    list_step_before [] us vs h l = absurd l
    list_step_before (t ∷ ts) [] vs h l = absurd h
    list_step_before (t ∷ ts) (u ∷ us) [] h l = absurd l
    list_step_before (t ∷ ts) (u ∷ us) (v ∷ vs) h (inl l) = inl (laws.modulo t u v v (BEqual-sym d h.0) l.0 stop, each_equal_on us ts vs h.1 l.1)
    list_step_before (t ∷ ts) (u ∷ us) (v ∷ vs) h (inr l) = inr (BEqual-trans d h.0 l.0, list_step_before ts us vs h.1 l.1)

    pub list_before : (k : ℕ) (ts us vs : List Term) → AllZip (BEqual d) us ts → ListSequence d equations k ts vs → ListSequence d equations k us vs
    list_before zero ts us vs h q = each_equal_on us ts vs h q
    list_before (suc k) ts us vs h q = (q.0, (list_step_before ts us q.0 h q.1.0, q.1.1))

    -- from the list to its members
    members_none : (ts us : List Term) → AllZip (BEqual d) ts us → EachHasSequence d equations 0 ts us
    members_none [] [] h = refl
    members_none [] (u ∷ us) h = absurd h
    members_none (t ∷ ts) [] h = absurd h
    members_none (t ∷ ts) (u ∷ us) h = (0, 0, refl, (h.0, members_none ts us h.1))

    members_before : (k : ℕ) (ts us vs : List Term) → AllZip (BEqual d) us ts → EachHasSequence d equations k ts vs → EachHasSequence d equations k us vs
    members_before k [] [] vs h q = q
    members_before k [] (u ∷ us) vs h q = absurd h
    members_before k (t ∷ ts) [] vs h q = absurd h
    members_before k (t ∷ ts) (u ∷ us) [] h q = absurd q
    members_before k (t ∷ ts) (u ∷ us) (v ∷ vs) h q = (q.0, q.1, q.2, (sequence_before d equations laws q.0 t u v (BEqual-sym d h.0) q.3.0, members_before q.1 ts us vs h.1 q.3.1))

    members_step : (k : ℕ) (ts us vs : List Term) → ListRewrites d equations ts us → EachHasSequence d equations k us vs → EachHasSequence d equations (suc k) ts vs
    members_step k [] us vs l q = absurd l
    members_step k (t ∷ ts) [] vs l q = absurd l
    members_step k (t ∷ ts) (u ∷ us) [] l q = absurd q
    members_step k (t ∷ ts) (u ∷ us) (v ∷ vs) (inl l) q = (suc q.0, q.1, omega (arith, q.2), ((u, (l.0, q.3.0)), members_before q.1 us ts vs l.1 q.3.1))
    members_step k (t ∷ ts) (u ∷ us) (v ∷ vs) (inr l) q = (q.0, suc q.1, omega (arith, q.2), (sequence_before d equations laws q.0 u t v (BEqual-sym d l.0) q.3.0, members_step q.1 ts us vs l.1 q.3.1))

    pub to_members : (k : ℕ) (ts us : List Term) → ListSequence d equations k ts us → EachHasSequence d equations k ts us
    to_members zero ts us q = members_none ts us q
    to_members (suc k) ts us q = members_step k ts q.0 us q.1.0 (to_members k q.0 us q.1.1)

    -- and back
    first_alone : (k : ℕ) (t u : Term) (ts : List Term) → TermSequence d equations k t u → ListSequence d equations k (t ∷ ts) (u ∷ ts)
    first_alone zero t u ts q = (q, each_equal_itself ts)
    first_alone (suc k) t u ts q = (q.0 ∷ ts, (inl (q.1.0, each_equal_itself ts), first_alone k q.0 u ts q.1.1))

    others_alone : (k : ℕ) (t : Term) (ts us : List Term) → ListSequence d equations k ts us → ListSequence d equations k (t ∷ ts) (t ∷ us)
    others_alone zero t ts us q = (stop, q)
    others_alone (suc k) t ts us q = (t ∷ q.0, (inr (stop, q.1.0), others_alone k t q.0 us q.1.1))

    pub from_members : (k : ℕ) (ts us : List Term) → EachHasSequence d equations k ts us → ListSequence d equations k ts us
    from_members k [] [] q = subst (λ n. ListSequence d equations n [] []) (sym q) tt
    from_members k [] (u ∷ us) q = absurd q
    from_members k (t ∷ ts) [] q = absurd q
    from_members k (t ∷ ts) (u ∷ us) q =
        subst (λ n. ListSequence d equations n (t ∷ ts) (u ∷ us)) (sym q.2)
        (laws.list_joined q.0 q.1 (t ∷ ts) (u ∷ ts) (u ∷ us) (first_alone q.0 t u ts q.3.0) (others_alone q.1 u ts us (from_members q.1 ts us q.3.1)))

    list_step_instance : (s : Substitution) → IsWellSorted d s → (ts us : List Term) → ListRewrites d equations ts us → ListRewrites d equations (map (apply s) ts) (map (apply s) us)
    list_step_instance s sorted [] us l = absurd l
    list_step_instance s sorted (t ∷ ts) [] l = absurd l
    list_step_instance s sorted (t ∷ ts) (u ∷ us) (inl l) = inl (laws.instances s sorted t u l.0, each_equal_instance s sorted ts us l.1)
    list_step_instance s sorted (t ∷ ts) (u ∷ us) (inr l) = inr (BEqual-apply d s sorted.0 l.0, list_step_instance s sorted ts us l.1)

    pub list_instance : (s : Substitution) → IsWellSorted d s → (k : ℕ) (ts us : List Term) → ListSequence d equations k ts us → ListSequence d equations k (map (apply s) ts) (map (apply s) us)
    list_instance s sorted zero ts us q = each_equal_instance s sorted ts us q
    list_instance s sorted (suc k) ts us q = (map (apply s) q.0, (list_step_instance s sorted ts q.0 q.1.0, list_instance s sorted k q.0 us q.1.1))

    pub list_ended : (k : ℕ) (ts us : List Term) → IsIrreducibleList d equations ts → ListSequence d equations k ts us → (k ≡ 0) × AllZip (BEqual d) ts us
    list_ended zero ts us h q = (refl, q)
    list_ended (suc k) ts us h q = absurd (h q.0 q.1.0)

    pub list_laws : ListLaws d equations
    list_laws = record { members = λ k ts us. (to_members k ts us, from_members k ts us); instances = list_instance; ended = list_ended }
