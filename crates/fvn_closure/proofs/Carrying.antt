-- What lifts into a variant lifts into each that covers it.
use Rattle.std.proofs.Common.{◌≡◌, suc, ◌+◌, List, [], ◌∷◌, map, sym, subst, arith}
use Rattle.std.specs.List.{AllZip, Contains}
use Rattle.fvn_terms.specs.declared.plain.Var.{Var}
use Rattle.fvn_terms.specs.declared.declarations.Declarations.{Declarations}
use Rattle.fvn_terms.specs.Term.{Term}
use Rattle.fvn_terms.specs.Substitution.{Substitution, apply, followed_by}
use Rattle.fvn_terms.specs.Equality.{BEqual}
use Rattle.fvn_terms.specs.Sorts.{IsWellSorted}
use Rattle.fvn_terms.specs.Rewriting.{ListSequence}
use Rattle.fvn_terms.specs.Laws.{RewritingLaws}
use Rattle.fvn_terms.specs.Variants.{Covers}
use Rattle.fvn_terms.proofs.Substitutions.{apply-apply}
use Rattle.fvn_terms.proofs.Equal.{BEqual-apply, BEqual-trans}
use Rattle.fvn_terms.proofs.WellSorted.{IsWellSorted-followed_by}
use Rattle.fvn_forms.specs.Flat.{FlatTerm, plain}
use Rattle.fvn_flat.specs.Solving.{substitution}
use Rattle.fvn_cover.specs.declared.variant.Variant.{Variant}
use Rattle.fvn_cover.specs.Covering.{CoversVariant}
use Rattle.fvn_exploring.specs.Setting.{Setting}
use Rattle.fvn_exploring.specs.LevelRuns.{AreVariablesOf}
use Rattle.fvn_exploring.specs.Liftings.{instance_of, value_under, IsLifted}

-- instances of equal lists
pub each_equal_under : (d : Declarations) (s c : Substitution) → IsWellSorted d c → (ts us : List Term) → AllZip (BEqual d) us (map (apply s) ts) → AllZip (BEqual d) (map (apply c) us) (map (apply (followed_by s c)) ts)
each_equal_under d s c sorted [] [] h = tt
each_equal_under d s c sorted [] (u ∷ us) h = absurd h
each_equal_under d s c sorted (t ∷ ts) [] h = absurd h
each_equal_under d s c sorted (t ∷ ts) (u ∷ us) h = (subst (BEqual d (apply c u)) (apply-apply s c t) (BEqual-apply d c sorted.0 h.0), each_equal_under d s c sorted ts us h.1)

pub carried : (g : Setting) → RewritingLaws g.declarations g.equations → (v c n : Variant) → n.vars ≡ v.vars → CoversVariant g.declarations n c → (s : Substitution) → IsLifted g v s c → IsLifted g v s n
carried g laws v c n vars covers s h =
    let d = g.declarations in
    let both = followed_by covers.by h.by in
    let count : suc h.steps + 0 ≡ suc h.steps = omega arith in
    record {
      by = both;
      well_sorted = IsWellSorted-followed_by d covers.by h.by covers.well_sorted h.well_sorted;
      steps = h.steps;
      sequence =
          subst (λ k. ListSequence d g.equations k (instance_of s v) (instance_of both n)) count
          (laws.list_joined (suc h.steps) 0 (instance_of s v) (instance_of h.by c) (instance_of both n) h.sequence
          (each_equal_under d covers.by h.by h.well_sorted (map plain n.terms) (map plain c.terms) covers.same_terms));
      same = λ x m.
          BEqual-trans d (h.same x m)
          (subst (BEqual d (value_under h.by c x)) (apply-apply covers.by h.by (substitution n.subst x))
          (BEqual-apply d h.by (h.well_sorted).0 (covers.same_values x (subst (λ l. Contains l x) (sym vars) m))));
    }

-- covering speaks of these variables alone
pub covers_on : (d : Declarations) (vars others : List Var) (ts : List Term) (s : Substitution) (us : List Term) (c : Substitution) → ((x : Var) → Contains others x → Contains vars x) → Covers d vars ts s us c → Covers d others ts s us c
covers_on d vars others ts s us c within h = record { by = h.by; well_sorted = h.well_sorted; same_terms = h.same_terms; same_values = λ x m. h.same_values x (within x m) }

-- two lists of the variables of one start have the same
pub same_variables : (start : List FlatTerm) (vars others : List Var) → AreVariablesOf start vars → AreVariablesOf start others → (x : Var) → Contains vars x → Contains others x
same_variables start vars others h k x m = (k.all x).1 ((h.all x).0 m)
