-- Well-sorted substitutions compose, and instances of unifiers are unifiers.
use Rattle.std.proofs.Common.{subst, List, [], ◌∷◌, get_or}
use Rattle.fvn_terms.specs.declared.plain.SortId.{SortId}
use Rattle.fvn_terms.specs.declared.declarations.Declarations.{Declarations}
use Rattle.fvn_terms.specs.Term.{Term, Terms, var, app, none, more}
use Rattle.fvn_terms.specs.Substitution.{Substitution, apply, apply_all, followed_by}
use Rattle.fvn_terms.specs.Signature.{AtOrBelow, same, up, to_kind, kind}
use Rattle.fvn_terms.specs.Equality.{IsAxiomEitherWay}
use Rattle.fvn_terms.specs.Sorts.{Gets, GetAtMost, HasSort, IsWellSorted}
use Rattle.fvn_terms.specs.Unifiers.{Problem, IsUnifier}
use Rattle.fvn_terms.proofs.Substitutions.{apply-apply}
use Rattle.fvn_terms.proofs.Steps.{EachLeads, each_none, each_more}
use Rattle.fvn_terms.proofs.Equal.{HasKind-apply, BEqual-apply, BEqual-trans, BEqual-inside}

module _ (d : Declarations) where
  pub AtOrBelow-trans : {s q r : SortId} → AtOrBelow d s q → AtOrBelow d q r → AtOrBelow d s r
  AtOrBelow-trans same b = b
  AtOrBelow-trans (up c a) b = up c (AtOrBelow-trans a b)
  AtOrBelow-trans (to_kind a) b = to_kind (AtOrBelow-trans a b)

  -- forms of the terms that get sorts at or below these
  record Forms (ts : Terms) (ss : List SortId) : Type 0 where
    forms : Terms
    equal : EachLeads (IsAxiomEitherWay d) ts forms
    fit : GetAtMost d forms ss

  module _ (c : Substitution) (sorted : IsWellSorted d c) where
    mutual
      Gets-apply : (t : Term) (s : SortId) → Gets d t s → HasSort d (apply c t) s
      Gets-apply (var x) s e = subst (HasSort d (c x)) e (sorted.1 x)
      Gets-apply (app f ts) s h =
          let r = GetAtMost-apply ts h.sorts h.args in
          record { form = app f r.forms; equal = BEqual-inside d f r.equal; gets = record { sort = s; gets = record { sorts = h.sorts; rank = h.rank; args = r.fit }; below = same } }

      GetAtMost-apply : (ts : Terms) (ss : List SortId) → GetAtMost d ts ss → Forms (apply_all c ts) ss
      GetAtMost-apply none [] h = record { forms = none; equal = each_none; fit = tt }
      GetAtMost-apply none (s ∷ ss) h = absurd h
      GetAtMost-apply (more t ts) [] h = absurd h
      GetAtMost-apply (more t ts) (s ∷ ss) h =
          let a = Gets-apply t (h.0).sort (h.0).gets in
          let b = GetAtMost-apply ts ss h.1 in
          record { forms = more a.form b.forms; equal = each_more a.equal b.equal; fit = (record { sort = a.gets.sort; gets = a.gets.gets; below = AtOrBelow-trans a.gets.below (h.0).below }, b.fit) }

    pub HasSort-apply : (t : Term) (s : SortId) → HasSort d t s → HasSort d (apply c t) s
    HasSort-apply t s h =
        let a = Gets-apply h.form h.gets.sort h.gets.gets in
        record { form = a.form; equal = BEqual-trans d (BEqual-apply d c sorted.0 h.equal) a.equal; gets = record { sort = a.gets.sort; gets = a.gets.gets; below = AtOrBelow-trans a.gets.below h.gets.below } }

  pub IsWellSorted-followed_by : (s c : Substitution) → IsWellSorted d s → IsWellSorted d c → IsWellSorted d (followed_by s c)
  IsWellSorted-followed_by s c hs hc = (λ x i. HasKind-apply d c hc.0 (s x) (kind d x.sort) (hs.0 x i), λ x. HasSort-apply c hc (s x) x.sort (hs.1 x))

  -- what follows a unifier is a unifier
  pub IsUnifier-followed_by : (problem : Problem) (s c : Substitution) → IsUnifier d problem s → IsWellSorted d c → IsUnifier d problem (followed_by s c)
  IsUnifier-followed_by problem s c h hc = (
    IsWellSorted-followed_by s c h.0 hc,
    λ k p in_range. rw (← apply-apply s c (get_or problem k p).0, ← apply-apply s c (get_or problem k p).1) (BEqual-apply d c hc.0 (h.1 k p in_range)),
  )
