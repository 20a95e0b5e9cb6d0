-- What is promised of answers holds of what the lines that are shown denote.
use Rattle.std.proofs.Common.{◌≢◌, List, [], ◌∷◌, refl, sym, ◌∙◌, subst, inl, inr}
use Rattle.std.specs.Prelude.{Any, Contains}
use Rattle.std.specs.List.{AllZip}
use Rattle.std.proofs.lemmas.List.Elements.{All-contains}
use Rattle.fvn_base.proofs.Membership.{contains_here, contains_later, contains_cases, contains_none}
use Rattle.fvn_base.proofs.Pigeonhole.{AllPairs-tail, AllPairs-first}
use Rattle.fvn_terms.specs.Substitution.{Substitution}
use Rattle.fvn_terms.specs.CompleteSets.{IsApart}
use Rattle.fvn_terms.proofs.Instances.{IsInstance-trans}
use Rattle.fvn_forms.specs.FitsKinds.{FitsKinds}
use Rattle.fvn_syntax.specs.Pieces.{Text}
use Rattle.fvn_problems.specs.declared.problem.Problem.{Problem}
use Rattle.fvn_problems.specs.Laws.{ProblemsAreKinded}
use Rattle.fvn_problems.specs.Problems.{HasVariables}
use Rattle.fvn_module.specs.Contents.{Contents}
use Rattle.fvn_module_loading.specs.Laws.{LoadedModulesAreGood}
use Rattle.fvn_answer.specs.Answers.{AreInByteOrder}
use Rattle.fvn_cmd.specs.Headline.{Promise, IsHeadline, IsHeadlineOfLines}
use Rattle.fvn_cmd_unify.specs.Asked.{on_variables, Unifies, DenotesOnVariables, unifiers_of}
use Rattle.fvn_cmd_unify.specs.Solutions.{IsWhole, IsLineOf}
use Rattle.fvn_cmd_unify.specs.Laws.{LinesDenoteUnifiers, ShownLinesKeepThePromise}
use Rattle.fvn_cmd_unify.proofs.Asking.{module-names}
use Rattle.fvn_cmd_unify.proofs.Counting.{beside}

-- an element of the first list stands beside one of the second
facing : {A B : Type 0} (R : A → B → Type 0) (xs : List A) (ys : List B) → AllZip R xs ys → (x : A) → Contains xs x → (y : B) × (Contains ys y × R x y)
facing R [] [] h x c = absurd (contains_none x c)
facing R [] (z ∷ zs) h x c = absurd h
facing R (w ∷ ws) [] h x c = absurd h
facing R (w ∷ ws) (z ∷ zs) h x c = elim (contains_cases w ws x c) [
  | inl e ↦ (z, (contains_here z zs, subst (λ v. R v z) e h.0))
  | inr i ↦ let b = facing R ws zs h.1 x i in (b.0, (contains_later z zs b.0 b.1.0, b.1.1))
]

module _ {A B : Type 0} (R : A → B → Type 0) (Below : A → A → Type 0) where
  abbrev Apart : A → A → Type 0
  Apart s c = (Below s c → ⊥) × (Below c s → ⊥)

  -- two that stand beside different ones, of which the first is not below the second
  pub record AreBesideTwo (xs : List A) (y z : B) : Type 0 where
    pub first : A
    pub second : A
    pub first_in : Contains xs first
    pub second_in : Contains xs second
    pub first_beside : R first y
    pub second_beside : R second z
    pub not_below : Below first second → ⊥

  later : (x : A) (xs : List A) (y z : B) → AreBesideTwo xs y z → AreBesideTwo (x ∷ xs) y z
  later x xs y z b = record {
    first = b.first;
    second = b.second;
    first_in = contains_later x xs b.first b.first_in;
    second_in = contains_later x xs b.second b.second_in;
    first_beside = b.first_beside;
    second_beside = b.second_beside;
    not_below = b.not_below;
  }

  pub beside_two : (xs : List A) (ys : List B) → AllZip R xs ys → IsApart Below xs → (y z : B) → Contains ys y → Contains ys z → y ≢ z → AreBesideTwo xs y z
  beside_two [] [] h a y z c d n = absurd (contains_none y c)
  beside_two [] (l ∷ ls) h a y z c d n = absurd h
  beside_two (x ∷ xs) [] h a y z c d n = absurd h
  beside_two (x ∷ xs) (l ∷ ls) h a y z c d n = elim (contains_cases l ls y c) [
    | inl e ↦ elim (contains_cases l ls z d) [
      | inl f ↦ absurd (n (sym e ∙ f))
      | inr j ↦
          let b = beside R xs ls h.1 z j in
          record {
            first = x;
            second = b.0;
            first_in = contains_here x xs;
            second_in = contains_later x xs b.0 b.1.0;
            first_beside = subst (R x) e h.0;
            second_beside = b.1.1;
            not_below = (AllPairs-first Apart x xs b.0 a b.1.0).0;
          }
    ]
    | inr i ↦ elim (contains_cases l ls z d) [
      | inl f ↦
          let b = beside R xs ls h.1 y i in
          record {
            first = b.0;
            second = x;
            first_in = contains_later x xs b.0 b.1.0;
            second_in = contains_here x xs;
            first_beside = b.1.1;
            second_beside = subst (R x) f h.0;
            not_below = (AllPairs-first Apart x xs b.0 a b.1.0).1;
          }
      | inr j ↦ later x xs y z (beside_two xs ls h.1 (AllPairs-tail Apart x xs a) y z i j n)
    ]
  ]

-- what is promised of answers, whatever an answer is, holds of the lines that show them
module _ {A : Type 0} (promise : Promise A) where
  -- what a line denotes is an answer, and it and the answer whose line it is are instances of each other
  pub record IsTwin (s a : A) : Type 0 where
    pub one : promise.IsOne a
    pub below : promise.IsBelow a s
    pub above : promise.IsBelow s a

  -- each line denotes something, which is a twin of the answer whose line it is; and instances chain
  pub record HasTwins (IsLine : A → Text → Type 0) : Type 0 where
    pub transitive : (a b c : A) → promise.IsBelow a b → promise.IsBelow b c → promise.IsBelow a c
    pub denotes : (s : A) (line : Text) → IsLine s line → (a : A) × promise.Denotes line a
    pub twins : (s : A) → promise.IsOne s → (line : Text) → IsLine s line → (a : A) → promise.Denotes line a → IsTwin s a

  module _ (IsLine : A → Text → Type 0) (has : HasTwins IsLine) (IsWhole : Type 0) (values : List A) (headline : IsHeadline promise IsWhole values) (given shown : List Text) (lines : AllZip IsLine values given) (order : AreInByteOrder given shown) where
    -- a line that is shown is a line of some value
    from_shown : (line : Text) → Contains shown line → Contains given line
    from_shown line c = (order.exact line).0 c

    -- what a line of a value denotes is its twin
    twin : (s : A) → Contains values s → (line : Text) → IsLine s line → (a : A) → promise.Denotes line a → IsTwin s a
    twin s c = has.twins s (All-contains promise.IsOne values s headline.sound c)

    denoted : (line : Text) → Contains shown line → (a : A) × promise.Denotes line a
    denoted line c = let b = beside IsLine values given lines line (from_shown line c) in has.denotes b.0 line b.1.1

    sound : (line : Text) → Contains shown line → (a : A) → promise.Denotes line a → promise.IsOne a
    sound line c a d = let b = beside IsLine values given lines line (from_shown line c) in (twin b.0 b.1.0 line b.1.1 a d).one

    apart : (line other : Text) → Contains shown line → Contains shown other → line ≢ other → (a c : A) → promise.Denotes line a → promise.Denotes other c → promise.IsBelow a c → ⊥
    apart line other i j n a c d e below =
        let two = beside_two IsLine promise.IsBelow values given lines headline.apart line other (from_shown line i) (from_shown other j) n in
        let first = twin two.first two.first_in line two.first_beside a d in
        let second = twin two.second two.second_in other two.second_beside c e in
        let up = has.transitive two.first a c first.above below in
        two.not_below (has.transitive two.first c two.second up second.below)

    -- what a value stands for, what its line denotes stands for
    pub shown_by_line : (Stands : A → Type 0) → ((a b : A) → Stands a → promise.IsBelow a b → Stands b) → Any Stands values → (line : Text) × (a : A) × (Contains shown line × promise.Denotes line a × Stands a)
    shown_by_line Stands carries any =
        let inside : Contains values any.1 = (any.0, any.2, any.3) in
        let f = facing IsLine values given lines any.1 inside in
        let d = has.denotes any.1 f.0 f.1.1 in
        let k = twin any.1 inside f.0 f.1.1 d.0 d.1 in
        (f.0, d.0, ((order.exact f.0).1 f.1.0, d.1, carries any.1 d.0 any.4 k.above))

    pub headline_of_lines : ((s a b : A) → promise.IsReached s a → promise.IsBelow a b → promise.IsReached s b) → IsHeadlineOfLines promise IsWhole shown
    headline_of_lines reached = record {
      denoted = denoted;
      sound = sound;
      apart = apart;
      complete = λ whole trusted s is. shown_by_line (promise.IsReached s) (reached s) ((headline.all whole trusted).complete s is);
    }

module _ (m : Contents) (p : Problem) where
  -- the line of a unifier denotes something
  pub line_denotes : (s : Substitution) (line : Text) → IsLineOf m p s line → (a : Substitution) × DenotesOnVariables m p line a
  line_denotes s line of = (on_variables p.vars of.reads.denoted, (of.reads.denoted, (of.reads.denotes, refl)))

  unifier_lines : FitsKinds m.signature → HasVariables m.signature p → LinesDenoteUnifiers → HasTwins (unifiers_of m p) (IsLineOf m p)
  unifier_lines fits vars denote = record {
    transitive = IsInstance-trans m.signature p.vars;
    denotes = line_denotes;
    twins = twins;
  } where
    twins : (s : Substitution) → Unifies m p s → (line : Text) → IsLineOf m p s line → (a : Substitution) → DenotesOnVariables m p line a → IsTwin (unifiers_of m p) s a
    twins s is line of a d =
        let t = denote m p fits vars s is line of d.0 d.1.0 in
        subst (IsTwin (unifiers_of m p) s) (sym d.1.1) (record { one = t.0; below = t.1; above = t.2 })

pub shown_lines_keep : LoadedModulesAreGood → ProblemsAreKinded → LinesDenoteUnifiers → ShownLinesKeepThePromise
shown_lines_keep good kinded denote bytes word m p asked found solution text shown =
    let g = good bytes m asked.module_text in
    let k = kinded m.signature m.names (module-names m g.0) word p asked.problem_text in
    headline_of_lines (unifiers_of m p) (IsLineOf m p) (unifier_lines m p g.1.fits k.1 denote) (IsWhole found) found.values solution.headline shown.lines shown.answer.lines shown.lines_of shown.answer.in_order
    (λ s a b. IsInstance-trans m.signature p.vars s a b)
