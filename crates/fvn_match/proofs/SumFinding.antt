-- What is found for a sum, by what is found for what it is taken apart into.
use Rattle.std.proofs.Common.{◌≡◌, ℕ, ◌*◌, ◌≤◌, true, false, suc, List, [], ◌∷◌, ◌++◌, length, replicate, drop, get_or, Option, Some, None, refl, sym, ap, ◌∙◌, subst, inl, inr, arith}
use Rattle.std.specs.Prelude.{◌↔◌, Result, IfOk, is_some, sum as std_sum}
use Rattle.std.specs.List.{AllZip}
use denote.Ref.{Bor}
use Rattle.std.proofs.lemmas.List.{take-append-drop, nil_from_length, length-drop}
use Rattle.fvn_terms.specs.declared.plain.Var.{Var}
use Rattle.fvn_terms.specs.declared.declarations.Declarations.{Declarations}
use Rattle.fvn_forms.specs.Flat.{FlatTerm}
use Rattle.fvn_forms.specs.InOrder.{count}
use Rattle.fvn_forms.specs.Canon.{parts, inst}
use Rattle.fvn_flat.specs.Bindings.{Bindings}
use Rattle.fvn_match.specs.inner.Choices.{quotients, advanced, IsWithin}
use Rattle.fvn_match.specs.inner.Tallies.{AddsUp}
use Rattle.fvn_match.specs.inner.Summands.{references, IsRun}
use Rattle.fvn_match.specs.inner.Candidates.{Values, IsCandidate, Agrees, IsSolution, Finds}
use Rattle.fvn_match.specs.inner.Goals.{patterns_of, pieces_of, SumHolds, SumsHold, ChoiceAsked, SumFits, weight_of}
use Rattle.fvn_match.specs.inner.Known.{IsOpen, LeavesOpen}
use Rattle.fvn_match.specs.inner.Searching.{IsGroup, IsRoom}
use Rattle.fvn_match.specs.inner.Refusing.{IsHopeless}
use Rattle.fvn_match.specs.declared.goals.SumGoal.{SumGoal}
use Rattle.fvn_match.specs.declared.known.Open.{Open}
use Rattle.fvn_match.proofs.Advancing.{FromOn, FromNextOn, nothing_between, from_zeros}
use Rattle.fvn_match.proofs.Tallies.{fits_quotients, numbers_in}
use Rattle.fvn_match.proofs.Runs.{length_references}
use Rattle.fvn_match.proofs.SumFitting.{smaller_fits}
use Rattle.fvn_match.proofs.Finding.{if_found_same, found_first, found_none}
use Rattle.fvn_match.proofs.SumSteps.{adds_up_none, choice_adds_up, choice_fits, choice_is, choice_leaves, choice_length, only_choice}

-- a choice that a candidate takes is this one or comes after it
abbrev pub IsTried : Declarations → Bindings → SumGoal → FlatTerm → ℕ → List ℕ → ℕ → List SumGoal → List ℕ → Type 0
IsTried d b goal p k limits room sums chosen =
    (c : Values) → IsCandidate d c → Agrees b c → (js : List ℕ) → IsWithin room limits js → ChoiceAsked d goal p k js sums c → FromOn chosen js

-- groups and choices, as code finds them
pub no_patterns : (goal : SumGoal) → length goal.patterns.now ≡ 0 → patterns_of goal ≡ []
no_patterns goal e = nil_from_length (patterns_of goal) (length_references goal.patterns.now ∙ e)

pub group_of : (d : Declarations) (goal : SumGoal) (p : Bor FlatTerm) (k : ℕ) → 1 ≤ length goal.patterns.now → p ≡ get_or goal.patterns.now 0 p → IsRun (references goal.patterns.now) k → IsGroup d goal (get_or goal.patterns.now 0 p).now k
group_of d goal p k some is run = subst (λ (q : Bor FlatTerm). IsGroup d goal q.now k) is (record { others = drop 1 (patterns_of goal); first = first goal.patterns.now some is; run = run })
  where
    first : (xs : List (Bor FlatTerm)) → 1 ≤ length xs → p ≡ get_or xs 0 p → references xs ≡ p.now ∷ drop 1 (references xs)
    first [] some is = absurd (omega arith)
    first (x ∷ xs) some is = ap (λ y. y.now ∷ references xs) (sym is)

pub group_within : (goal : SumGoal) (k : ℕ) → IsRun (references goal.patterns.now) k → k ≤ length goal.patterns.now
group_within goal k run = let x = run.within in let y = length_references goal.patterns.now in omega arith

pub choice_within : (k : ℕ) (ns limits js : List ℕ) → limits ≡ quotients k ns → AllZip (λ j l. j ≤ l) js limits → AllZip (λ j n. k * j ≤ n) js ns
choice_within k ns limits js e h = fits_quotients k ns js (subst (AllZip (λ j l. j ≤ l) js) e h)

pub as_long : (limits js : List ℕ) → AllZip (λ j l. j ≤ l) js limits → length js ≡ length limits
as_long [] [] h = refl
as_long [] (j ∷ js) h = absurd h
as_long (l ∷ ls) [] h = absurd h
as_long (l ∷ ls) (j ∷ js) h = ap suc (as_long ls js h.1)

pub length_quotients : (k : ℕ) (ns : List ℕ) → length (quotients k ns) ≡ length ns
length_quotients k [] = refl
length_quotients k (n ∷ ns) = ap suc (length_quotients k ns)

pub each_itself : (ls : List ℕ) → AllZip (λ j l. j ≤ l) ls ls
each_itself [] = tt
each_itself (l ∷ ls) = (omega arith, each_itself ls)

module _ (d : Declarations) (b : Bindings) (vars : List Var) (goal : SumGoal) (fit : SumFits d goal) where
  long : length goal.left.now ≡ length (pieces_of goal)
  long = fit.long ∙ sym (length_references goal.pieces.now)

  module _ (X : Values → Type 0) where
    abbrev pub WithSum : Values → Type 0
    WithSum c = SumHolds d goal c × X c

    -- what no candidate makes
    pub refused_hopeless : IsHopeless d goal → Finds vars (IsSolution d b WithSum) None
    refused_hopeless never c s = never c s.candidate s.holds.0

    -- known patterns that are not there
    pub refused_closed : LeavesOpen d b goal None → Finds vars (IsSolution d b WithSum) None
    refused_closed never c s = never c s.candidate s.agrees s.holds.0

    -- known patterns taken away
    module _ (open_ : Open) (left_open : IsOpen d b goal open_) (patterns : Bor (List (Bor FlatTerm))) (are : patterns.now ≡ open_.patterns.items) (left : Bor (List ℕ)) (left_is : left.now ≡ open_.left.items) (seen : ℕ) where
      open_holds : (c : Values) → AddsUp d goal.op (references open_.patterns.items) (pieces_of goal) open_.left.items c ↔ SumHolds d (record { op = goal.op; patterns = patterns; pieces = goal.pieces; left = left; seen = seen }) c
      open_holds c =
          subst (λ l. AddsUp d goal.op (references open_.patterns.items) (pieces_of goal) open_.left.items c ↔ AddsUp d goal.op (references l) (pieces_of goal) left.now c) (sym are)
          (subst (λ l. AddsUp d goal.op (references open_.patterns.items) (pieces_of goal) open_.left.items c ↔ AddsUp d goal.op (references open_.patterns.items) (pieces_of goal) l c) (sym left_is) (λ h. h, λ h. h))

      pub found_open : {E : Type 0} (r : Result (Option Bindings) E) → IfOk r (Finds vars (IsSolution d b (λ c. SumHolds d (record { op = goal.op; patterns = patterns; pieces = goal.pieces; left = left; seen = seen }) c × X c))) → IfOk r (Finds vars (IsSolution d b WithSum))
      found_open r f =
          if_found_same vars d b (λ c. SumHolds d (record { op = goal.op; patterns = patterns; pieces = goal.pieces; left = left; seen = seen }) c × X c) WithSum
          (λ c k a. (λ h. ((left_open.same c k a).1 ((open_holds c).1 h.0), h.1), λ h. ((open_holds c).0 ((left_open.same c k a).0 h.0), h.1))) r f

      pub open_fits : SumFits d (record { op = goal.op; patterns = patterns; pieces = goal.pieces; left = left; seen = seen })
      open_fits =
          smaller_fits d goal fit patterns (λ q some. left_open.among q (subst (λ l. 1 ≤ count q (references l)) are some)) left
          (ap length left_is ∙ left_open.long) (let x = ap std_sum left_is in let y = left_open.fewer in omega arith) seen

      pub open_weight : weight_of (references patterns.now) ≤ weight_of (patterns_of goal)
      open_weight = let x = ap (λ l. weight_of (references l)) are in let y = left_open.lighter in omega arith

    -- no pattern
    module _ (none : patterns_of goal ≡ []) where
      all_taken : (c : Values) → SumHolds d goal c ↔ (std_sum goal.left.now ≡ 0)
      all_taken c = subst (λ ps. AddsUp d goal.op ps (pieces_of goal) goal.left.now c ↔ (std_sum goal.left.now ≡ 0)) (sym none) (adds_up_none d goal.op c (pieces_of goal) goal.left.now long)

      pub refused_left : (std_sum goal.left.now ≡ 0 → ⊥) → Finds vars (IsSolution d b WithSum) None
      refused_left some c s = some ((all_taken c).0 s.holds.0)

      pub found_taken : std_sum goal.left.now ≡ 0 → {E : Type 0} (r : Result (Option Bindings) E) → IfOk r (Finds vars (IsSolution d b X)) → IfOk r (Finds vars (IsSolution d b WithSum))
      found_taken e r f = if_found_same vars d b X WithSum (λ c k a. (λ h. ((all_taken c).1 e, h), λ h. h.1)) r f

  -- choices for a group
  module _ (p : FlatTerm) (k : ℕ) (g : IsGroup d goal p k) (sums : List SumGoal) (limits : List ℕ) (limits_are : limits ≡ quotients k goal.left.now) where
    group : patterns_of goal ≡ replicate k p ++ drop k (patterns_of goal)
    group = sym (take-append-drop k (patterns_of goal)) ∙ ap (λ l. l ++ drop k (patterns_of goal)) (g.run.same p g.others g.first)

    abbrev pub Whole : Values → Type 0
    Whole c = SumHolds d goal c × SumsHold d sums c

    -- what a candidate chooses
    module _ (c : Values) (candidate : IsCandidate d c) where
      abbrev its_choice : List ℕ
      its_choice = numbers_in (pieces_of goal) (parts d goal.op (inst d c p))

      pub choice_makes : (js : List ℕ) → AllZip (λ j l. j ≤ l) js limits → ChoiceAsked d goal p k js sums c → Whole c
      choice_makes js fits h = (
        choice_adds_up d goal.op c candidate.flat.settled fit.associative (patterns_of goal) p k g.run.some group (pieces_of goal) goal.left.now fit.each_is_one js
            (fits_quotients k goal.left.now js (subst (AllZip (λ j l. j ≤ l) js) limits_are fits)) h.0 h.1.0,
        h.1.1,
      )

      module _ (h : SumHolds d goal c) where
        pub its_choice_fits : AllZip (λ j l. j ≤ l) (numbers_in (pieces_of goal) (parts d goal.op (inst d c p))) limits
        its_choice_fits = subst (AllZip (λ j l. j ≤ l) (numbers_in (pieces_of goal) (parts d goal.op (inst d c p)))) (sym limits_are) (choice_fits d goal.op c candidate.flat.settled fit.associative (patterns_of goal) p k g.run.some group (pieces_of goal) goal.left.now long fit.distinct h)

        pub its_choice_asked : SumsHold d sums c → ChoiceAsked d goal p k (numbers_in (pieces_of goal) (parts d goal.op (inst d c p))) sums c
        its_choice_asked rest = (
          choice_is d goal.op c candidate.flat.settled fit.associative (patterns_of goal) p k g.run.some group (pieces_of goal) goal.left.now long fit.distinct h,
          (choice_leaves d goal.op c candidate.flat.settled fit.associative (patterns_of goal) p k g.run.some group (pieces_of goal) goal.left.now long fit.distinct h, rest),
        )

        pub its_choice_length : std_sum (numbers_in (pieces_of goal) (parts d goal.op (inst d c p))) ≡ length (parts d goal.op (inst d c p))
        its_choice_length = choice_length d goal.op c candidate.flat.settled fit.associative (patterns_of goal) p k g.run.some group (pieces_of goal) goal.left.now long fit.distinct h

        pub its_choice_only : k ≡ length (patterns_of goal) → numbers_in (pieces_of goal) (parts d goal.op (inst d c p)) ≡ limits
        its_choice_only all = only_choice d goal.op c candidate.flat.settled fit.associative (patterns_of goal) p k g.run.some group (pieces_of goal) goal.left.now long fit.distinct h
            (nil_from_length (drop k (patterns_of goal)) (let z = length-drop k (patterns_of goal) in omega arith)) ∙ sym limits_are

    -- the last group takes all that is left
    pub found_only : k ≡ length (patterns_of goal) → {E : Type 0} (r : Result (Option Bindings) E) → IfOk r (Finds vars (IsSolution d b (ChoiceAsked d goal p k limits sums))) → IfOk r (Finds vars (IsSolution d b Whole))
    found_only all r f =
        if_found_same vars d b (ChoiceAsked d goal p k limits sums) Whole
        (λ c h a. (λ asked. choice_makes c h limits (each_itself limits) asked, λ w. subst (λ js. ChoiceAsked d goal p k js sums c) (its_choice_only c h w.0 all) (its_choice_asked c h w.0 w.1))) r f

    -- some choice within the limits and the room
    abbrev pub SomeChoice : ℕ → Values → Type 0
    SomeChoice room c = (js : List ℕ) × IsWithin room limits js × ChoiceAsked d goal p k js sums c

    pub found_choices : (room : ℕ) → IsRoom d goal p room → {E : Type 0} (r : Result (Option Bindings) E) → IfOk r (Finds vars (IsSolution d b (SomeChoice room))) → IfOk r (Finds vars (IsSolution d b Whole))
    found_choices room enough r f =
        if_found_same vars d b (SomeChoice room) Whole
        (λ c h a. (
          λ asked. choice_makes c h asked.0 asked.1.places asked.2,
          λ w. (its_choice c h, record { places = its_choice_fits c h w.0; together = let x = its_choice_length c h w.0 in let y = enough c h w.0 in omega arith }, its_choice_asked c h w.0 w.1),
        )) r f

    -- choices one after another
    module _ (room : ℕ) where
      pub tried_none : IsTried d b goal p k limits room sums (replicate (length limits) 0)
      tried_none c h a js within asked = from_zeros limits js within.places

      module _ (chosen : List ℕ) (tried : IsTried d b goal p k limits room sums chosen) where
        pub found_choice : IsWithin room limits chosen → (r : Option Bindings) → is_some r ≡ true → Finds vars (IsSolution d b (ChoiceAsked d goal p k chosen sums)) r → Finds vars (IsSolution d b (SomeChoice room)) r
        found_choice within r e f = found_first vars d b (ChoiceAsked d goal p k chosen sums) (SomeChoice room) (λ c h a asked. (chosen, within, asked)) r e f

        module _ (r : Option Bindings) (e : is_some r ≡ false) (f : Finds vars (IsSolution d b (ChoiceAsked d goal p k chosen sums)) r) where
          tried_next : (c : Values) → IsCandidate d c → Agrees b c → (js : List ℕ) → IsWithin room limits js → ChoiceAsked d goal p k js sums c → FromNextOn (advanced room limits chosen) js
          tried_next c h a js within asked = go (tried c h a js within asked)
            where
              go : FromOn chosen js → FromNextOn (advanced room limits chosen) js
              go (inl same) = absurd (found_none vars d b (ChoiceAsked d goal p k chosen sums) r e f c h a (subst (λ ks. ChoiceAsked d goal p k ks sums c) same asked))
              go (inr before) = nothing_between room limits chosen js within.places within.together before

          pub tried_one : (next : List ℕ) → advanced room limits chosen ≡ Some next → IsTried d b goal p k limits room sums next
          tried_one next is c h a js within asked = subst (λ o. FromNextOn o js) is (tried_next c h a js within asked)

          pub tried_all : advanced room limits chosen ≡ None → Finds vars (IsSolution d b (SomeChoice room)) None
          tried_all is c s = subst (λ o. FromNextOn o s.holds.0) is (tried_next c s.candidate s.agrees s.holds.0 s.holds.1 s.holds.2)
