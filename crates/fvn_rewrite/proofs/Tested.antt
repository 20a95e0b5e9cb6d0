-- Whether a step is possible: what is told of rules, of the root, and of all places.
use Rattle.std.proofs.Common.{◌≡◌, ℕ, zero, suc, ◌+◌, ◌-◌, ◌≤◌, Bool, true, false, List, [], ◌∷◌, ◌++◌, take, drop, length, get_or, Option, Some, None, refl, sym, ap, ◌∙◌, subst, arith}
use Rattle.std.specs.Prelude.{All, Contains, is_some}
use Rattle.std.specs.List.{AllByRecursion}
use Rattle.std.proofs.lemmas.List.{drop_more}
use Rattle.std.proofs.lemmas.List.Elements.{All-nil, All-cons}
use Rattle.fvn_terms.specs.declared.plain.OpId.{OpId}
use Rattle.fvn_terms.specs.declared.declarations.Declarations.{Declarations}
use Rattle.fvn_terms.specs.Laws.{RewritingIsLawful}
use Rattle.fvn_terms.specs.Rewriting.{IsReducible}
use Rattle.fvn_terms.specs.Theory.{Equations}
use Rattle.fvn_forms.specs.Flat.{FlatTerm, plain}
use Rattle.fvn_forms.specs.Canon.{build, inst}
use Rattle.fvn_forms.specs.Settled.{Settled}
use Rattle.fvn_forms.specs.FitsKinds.{FitsKinds}
use Rattle.fvn_forms.specs.Good.{IsGood}
use Rattle.fvn_signature.specs.Queries.{IsCompleted}
use Rattle.fvn_flat.specs.Bindings.{Bindings, value}
use Rattle.fvn_flat.specs.Fits.{Fits, AllFit}
use Rattle.fvn_flat.specs.Forms.{head_of, args_of}
use Rattle.fvn_flat.specs.Solving.{substitution}
use Rattle.fvn_flat.proofs.Fitting.{args_fit, build_equal, build_fits}
use Rattle.fvn_flat.proofs.Instances.{inst_equal, inst_fits}
use Rattle.fvn_theory.specs.Equations.{equations_of}
use Rattle.fvn_rewrite_laws.specs.Kinds.{HaveOneKind}
use Rattle.fvn_rewrite_laws.specs.Laws.{KindedTheoriesAreLawful}
use Rattle.fvn_rewrite_laws.specs.Normalised.{IsNormalForm}
use Rattle.fvn_rewrite_coherence.specs.Laws.{RulesAreCoherent, CoherenceLaws}
use Rattle.fvn_rewrite_rules.specs.declared.rule.Rule.{Rule}
use Rattle.fvn_rewrite_rules.specs.Given.{RuleLists, headed}
use Rattle.fvn_rewrite.specs.Usable.{AreUsable}
use Rattle.fvn_rewrite.specs.inner.Trying.{SidesFit, MatchAs, HasNoMatch, NoneMatches, IsMatch, TriesAs}
use Rattle.fvn_rewrite.specs.inner.Walking.{HasNoRedex, IsNext, ArgumentSteps, RootAs, WalkAs}
use Rattle.fvn_rewrite.specs.inner.Testing.{ToldAs}
use Rattle.fvn_rewrite.proofs.Found.{found_none}
use Rattle.fvn_rewrite.proofs.Placed.{walk_as}
use Rattle.fvn_rewrite.proofs.Replacing.{arguments_fit, arguments_taken, whole_steps}
use Rattle.fvn_rewrite.proofs.Roots.{root_as}

-- behind all rules there is none that matches
pub none_behind : (d : Declarations) (t : FlatTerm) (rules : List Rule) (n : ℕ) → length rules ≤ n → NoneMatches d t (drop n rules)
none_behind d t [] zero h = All-nil (HasNoMatch d t)
none_behind d t [] (suc n) h = All-nil (HasNoMatch d t)
none_behind d t (rule ∷ rules) zero h = absurd (omega (arith, h))
none_behind d t (rule ∷ rules) (suc n) h = none_behind d t rules n (omega (arith, h))

-- one rule more, before those that do not match
pub none_before : (d : Declarations) (t : FlatTerm) (rules : List Rule) (i : ℕ) (rule : Rule) → 1 ≤ i → i ≤ length rules → rule ≡ get_or rules (i - 1) rule → HasNoMatch d t rule → NoneMatches d t (drop i rules) → NoneMatches d t (drop (i - 1) rules)
none_before d t rules i rule some within at here behind =
    let next : i ≡ i - 1 + 1 = omega (arith, some) in
    let whole : drop (i - 1) rules ≡ rule ∷ drop (i - 1 + 1) rules = drop_more rules (i - 1) rule (omega (arith, some, within)) ∙ ap (λ v. v ∷ drop (i - 1 + 1) rules) (sym at) in
    subst (All (HasNoMatch d t)) (sym whole) (All-cons (HasNoMatch d t) rule (drop (i - 1 + 1) rules) here (subst (λ k. All (HasNoMatch d t) (drop k rules)) next behind))

module _ (d : Declarations) where
  -- the rule that matches gives an instance of its right side
  pub match_told : IsGood d → (rules : List Rule) (t : FlatTerm) (rule : Rule) → Contains rules rule → SidesFit d rule → (found : Option Bindings) → MatchAs d t rule found → is_some found ≡ true → ToldAs (TriesAs d rules t) true
  match_told good rules t rule listed sides None m e = cc
  match_told good rules t rule listed sides (Some s) m e = (
    inst d (value s) rule.right,
    record {
      rule = rule;
      listed = listed;
      by = substitution s;
      well_sorted = m.matches.0;
      left = m.matches.1.0;
      right = inst_equal d (value s) good m.fit rule.right sides.right.kinded;
      fits = inst_fits d (value s) good m.fit rule.right sides.right;
    },
  )

  pub no_match_told : (t : FlatTerm) (rule : Rule) (found : Option Bindings) → MatchAs d t rule found → is_some found ≡ false → HasNoMatch d t rule
  no_match_told t rule None m e = m
  no_match_told t rule (Some s) m e = cc

  -- what is told of the rules is told of the root
  pub root_told : (lists : RuleLists) → AreUsable d lists → IsGood d → IsCompleted d → RulesAreCoherent → (f : OpId) (t : FlatTerm) → head_of t ≡ Some f → (b : Bool) → ToldAs (TriesAs d (headed lists f) t) b → ToldAs (RootAs d (equations_of lists.equations) t) b
  root_told lists usable good completed laws f t head true h = (h.0, root_as d lists usable good completed laws f t (Some h.0) head h.1)
  root_told lists usable good completed laws f t head false h = root_as d lists usable good completed laws f t None head h

  module _ (equations : Equations) where
    -- and of all places, where the arguments have no redex
    pub walk_told : (t : FlatTerm) → All (HasNoRedex d equations) (args_of t) → (b : Bool) → ToldAs (RootAs d equations t) b → ToldAs (WalkAs d equations t) b
    walk_told t none true h = (h.0, walk_as d equations t (Some h.0) h.1 none)
    walk_told t none false h = walk_as d equations t None h none

    settled_of : (l : List FlatTerm) → AllFit d l → AllByRecursion (Settled d) l
    settled_of [] h = tt
    settled_of (t ∷ l) h = (h.0.flat, settled_of l h.1)

    -- a step of an argument is one of the form
    pub argument_told : FitsKinds d → RewritingIsLawful → KindedTheoriesAreLawful → HaveOneKind d equations → (t : FlatTerm) → Fits d t → (f : OpId) → head_of t ≡ Some f → (place : ℕ) (u : FlatTerm) → ArgumentSteps d equations t place u → ToldAs (WalkAs d equations t) true
    argument_told fits laws kinded kinds t h f head place u s =
        let l = take place (args_of t) ++ u ∷ drop (place + 1) (args_of t) in
        let all = arguments_fit d fits equations t f head h place u s (args_fit t d fits h) in
        let takes = arguments_taken d fits equations t f head h place u s kinded kinds in
        (build d f l, record { steps = whole_steps d fits equations t f head h place u s laws (build d f l) (build_equal d fits f l (settled_of l all) takes); fits = build_fits d fits f l all takes })

    -- what is told of all places is told of the term
    pub reducible_told : (t : FlatTerm) (b : Bool) → ToldAs (WalkAs d equations t) b → b ≡ true → IsReducible d equations (plain t)
    reducible_told t true h e = (plain h.0, h.1.steps)
    reducible_told t false h e = cc

    pub irreducible_told : CoherenceLaws d equations → (t : FlatTerm) → Fits d t → (b : Bool) → ToldAs (WalkAs d equations t) b → b ≡ false → IsNormalForm d equations t
    irreducible_told laws t fits true h e = cc
    irreducible_told laws t fits false h e = found_none d equations t None laws fits h refl
