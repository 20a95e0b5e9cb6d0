-- What a line denotes is a unifier.
use Rattle.std.proofs.Common.{◌≡◌, Bool, true, false, List, [], ◌∷◌, ◌++◌, refl, sym, ap, ◌∙◌, subst}
use Rattle.std.specs.Prelude.{All, Contains, if◌then◌else◌}
use Rattle.std.proofs.lemmas.List.Elements.{All-nil, All-cons, All-head, All-tail, Contains-append_left, Contains-append_right}
use Rattle.fvn_terms.specs.declared.plain.Var.{Var}
use Rattle.fvn_terms.specs.declared.declarations.Declarations.{Declarations}
use Rattle.fvn_terms.specs.Term.{Term, var}
use Rattle.fvn_terms.specs.Signature.{kind, IsSort, HasKind, same}
use Rattle.fvn_terms.specs.Substitution.{Substitution, apply, followed_by, Occurs}
use Rattle.fvn_terms.specs.Equality.{BEqual}
use Rattle.fvn_terms.specs.Sorts.{HasSort, IsWellSorted}
use Rattle.fvn_terms.specs.Unifiers.{Problem as TermPairs}
use Rattle.fvn_terms.proofs.Equal.{BEqual-refl, BEqual-sym, BEqual-trans}
use Rattle.fvn_terms.proofs.Substitutions.{apply-var}
use Rattle.fvn_terms.proofs.Occurrences.{occurs_value, BEqual-occurs}
use Rattle.fvn_terms.proofs.WellSorted.{IsUnifier-followed_by}
use Rattle.fvn_forms.specs.FitsKinds.{FitsKinds}
use Rattle.fvn_forms.proofs.KindsKept.{b_equal_keeps_kind}
use Rattle.fvn_flat.specs.Drawn.{OccursInValues, renamed}
use Rattle.fvn_flat.specs.Problems.{variables, variables_of}
use Rattle.fvn_flat.specs.Variables.{listed}
use Rattle.fvn_flat.proofs.VariableLists.{variables_list}
use Rattle.fvn_refine.proofs.Refined.{listed_member, member_listed}
use Rattle.fvn_answer.specs.Denoting.{Denotes, Reads}
use Rattle.fvn_answer.specs.Laws.{EqualLinesAreInstances, LinesDenoteOneSubstitution}
use Rattle.fvn_axunify.proofs.SameValues.{apply_equal}
use Rattle.fvn_syntax.specs.Pieces.{Text}
use Rattle.fvn_problems.specs.declared.problem.Problem.{Problem}
use Rattle.fvn_module.specs.Contents.{Contents}
use Rattle.fvn_cmd_unify.specs.Asked.{pairs_of, on_variables, IsInstanceOf}
use Rattle.fvn_cmd_unify.specs.Laws.{LinesDenoteUnifiers}
use Rattle.fvn_cmd_unify.proofs.Asking.{asked}

pub on_listed : (vars : List Var) (s : Substitution) (x : Var) → Contains vars x → on_variables vars s x ≡ s x
on_listed vars s x c = ap (λ b. if b then s x else var x) (member_listed vars x c)

pub on_others : (vars : List Var) (s : Substitution) (x : Var) → listed vars x ≡ false → on_variables vars s x ≡ var x
on_others vars s x e = ap (λ b. if b then s x else var x) e

-- what agrees with a substitution on the variables, modulo the axioms, and leaves others alone
module _ (d : Declarations) (fits : FitsKinds d) (vars : List Var) (c r : Substitution) (equal : (x : Var) → Contains vars x → BEqual d (c x) (r x)) (others : (x : Var) → listed vars x ≡ false → r x ≡ var x) where
  -- is well-sorted where that one is
  pub sorted : IsWellSorted d c → IsWellSorted d r
  sorted w = (λ x i. keeps x i (listed vars x) refl, λ x. has x (listed vars x) refl)
    where
      keeps : (x : Var) → IsSort d x.sort → (b : Bool) → listed vars x ≡ b → HasKind d (r x) (kind d x.sort)
      keeps x i true e = b_equal_keeps_kind d fits (equal x (listed_member vars x e)) (kind d x.sort) (w.0 x i)
      keeps x i false e = subst (λ t. HasKind d t (kind d x.sort)) (sym (others x e)) (i, refl)

      has : (x : Var) (b : Bool) → listed vars x ≡ b → HasSort d (r x) x.sort
      has x true e = let h = w.1 x in record { form = h.form; equal = BEqual-trans d (BEqual-sym d (equal x (listed_member vars x e))) h.equal; gets = h.gets }
      has x false e = subst (λ t. HasSort d t x.sort) (sym (others x e)) (record { form = var x; equal = BEqual-refl d (var x); gets = record { sort = x.sort; gets = refl; below = same } })

  -- and solves what that one solves, by each equality that contains that modulo the axioms
  module _ (E : Term → Term → Type 0) (modulo : (t u : Term) → BEqual d t u → E t u) (joins : (t u v : Term) → E t u → E u v → E t v) where
    abbrev Solved : Term × Term → Type 0
    Solved p = E (apply c p.0) (apply c p.1)

    abbrev Made : Term × Term → Type 0
    Made p = E (apply r p.0) (apply r p.1)

    near : (t : Term) → ((x : Var) → Occurs x t → Contains vars x) → BEqual d (apply c t) (apply r t)
    near t inside = apply_equal d c r t (λ x o. equal x (inside x o))

    pub made : (ps : TermPairs) → ((x : Var) → Contains (variables_of ps) x → Contains vars x) → All Solved ps → All Made ps
    made [] all h = All-nil Made
    made (p ∷ ps) all h =
        let left = near p.0 (λ x o. all x (Contains-append_left (variables p.0 ++ variables p.1) (variables_of ps) x (Contains-append_left (variables p.0) (variables p.1) x (variables_list x p.0 o)))) in
        let right = near p.1 (λ x o. all x (Contains-append_left (variables p.0 ++ variables p.1) (variables_of ps) x (Contains-append_right (variables p.0) (variables p.1) x (variables_list x p.1 o)))) in
        All-cons Made p ps
        (
        joins (apply r p.0) (apply c p.0) (apply r p.1) (modulo (apply r p.0) (apply c p.0) (BEqual-sym d left))
        (joins (apply c p.0) (apply c p.1) (apply r p.1) (All-head Solved p ps h) (modulo (apply c p.1) (apply r p.1) right))
        )
        (made ps (λ x i. all x (Contains-append_right (variables p.0 ++ variables p.1) (variables_of ps) x i)) (All-tail Solved p ps h))

-- what a line denotes, and the substitution whose line it is
module _ (instances : EqualLinesAreInstances) (one : LinesDenoteOneSubstitution) (m : Contents) (p : Problem) (s : Substitution) (line : Text) (of : Reads m.signature m.names p.names.texts p.vars line s) (r : Substitution)
    (denotes : Denotes m.signature m.names p.names.texts p.vars line r) where
  abbrev on : Substitution
  on = on_variables p.vars r

  -- the variables that it has are new
  new : (y : Var) → OccursInValues p.vars on y → y.fresh ≡ true
  new y (x, c, o) =
      let same = one m.signature m.names p.names.texts p.vars line r of.denoted denotes of.denotes x c in
      let here : Occurs y (of.denoted x) = subst (Occurs y) (on_listed p.vars r x c ∙ same) o in
      let from = occurs_value y (λ z. var (of.by z)) (s x) (BEqual-occurs y m.signature (renamed of.by (s x)) (of.denoted x) (BEqual-sym m.signature (of.equal x c)) here) in
      subst (λ z. z.fresh ≡ true) (sym from.1.1) (of.renames.new from.0 (x, c, from.1.0))

  own : Reads m.signature m.names p.names.texts p.vars line on
  own = record {
    denoted = r;
    denotes = denotes;
    by = λ x. x;
    renames = record { renames = record { one_to_one = λ x y i j e. e; sorts = λ x i. refl }; new = new };
    equal = λ x c. subst (BEqual m.signature (r x)) (sym (apply-var (on x)) ∙ refl) (subst (BEqual m.signature (r x)) (sym (on_listed p.vars r x c)) (BEqual-refl m.signature (r x)));
  }

  -- each is an instance of the other
  pub denoted_below : IsInstanceOf m p on s
  denoted_below = instances m.signature m.names p.names.texts p.vars line on s own of

  pub denoted_above : IsInstanceOf m p s on
  denoted_above = instances m.signature m.names p.names.texts p.vars line s on of own

pub lines-denote_unifiers : EqualLinesAreInstances → LinesDenoteOneSubstitution → LinesDenoteUnifiers
lines-denote_unifiers instances one m p fits has s unifies line of r denotes =
    let d = m.signature in
    let problem = pairs_of p.pairs in
    let below = denoted_below instances one m p s line of.reads r denotes in
    let above = denoted_above instances one m p s line of.reads r denotes in
    let whole = IsUnifier-followed_by d problem s below.after unifies below.well_sorted in
    let c = followed_by s below.after in
    let t = on_variables p.vars r in
    let near : (x : Var) → Contains p.vars x → BEqual d (c x) (t x) = λ x i. BEqual-sym d (below.equal x i) in (
      (
        sorted d fits p.vars c t near (on_others p.vars r) whole.0,
        made d fits p.vars c t near (on_others p.vars r) (BEqual d) (λ a b e. e) (λ a b e. BEqual-trans d) problem (asked d p has) whole.1,
      ),
      below,
      above,
    )
