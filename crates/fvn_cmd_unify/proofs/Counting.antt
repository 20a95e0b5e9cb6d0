-- Values of which none is an instance of another have as many lines, and none of these twice.
use Rattle.std.proofs.Common.{◌≡◌, ◌≢◌, List, [], ◌∷◌, ◌++◌, map, length, get_or, sym, ◌∙◌, subst, inl, inr, arith}
use Rattle.std.specs.List.{AllZip, AllPairs, Contains}
use Rattle.std.proofs.lemmas.Slice.Zip.{AllZip-long}
use Rattle.fvn_base.specs.Order.{IsBefore}
use Rattle.fvn_base.proofs.Membership.{contains_here, contains_later, contains_cases, contains_none}
use Rattle.fvn_base.proofs.Order.{before_irrefl}
use Rattle.fvn_base.proofs.Pigeonhole.{AllPairs-tail, AllPairs-first, AllPairs-cons, length-le_within}
use Rattle.fvn_terms.specs.CompleteSets.{IsApart}
use Rattle.fvn_flat.specs.Bindings.{Bindings}
use Rattle.fvn_flat.specs.Solving.{substitution}
use Rattle.fvn_syntax.specs.Pieces.{Text}
use Rattle.fvn_problems.specs.declared.problem.Problem.{Problem}
use Rattle.fvn_module.specs.Contents.{Contents}
use Rattle.fvn_answer.specs.Answers.{AreInByteOrder, IsAnswerText}
use Rattle.fvn_answer.specs.Laws.{EqualLinesAreInstances}
use Rattle.fvn_answer.specs.declared.end.End.{End}
use Rattle.fvn_cmd_unify.specs.Asked.{IsInstanceOf}
use Rattle.fvn_cmd_unify.specs.Solutions.{IsLineOf, Shows}
use Rattle.fvn_cmd_unify.specs.inner.Told.{AreLinesOfBindings}

-- an element of the second list stands beside one of the first
pub beside : {A B : Type 0} (R : A → B → Type 0) (xs : List A) (ys : List B) → AllZip R xs ys → (y : B) → Contains ys y → (x : A) × (Contains xs x × R x y)
beside R [] [] h y c = absurd (contains_none y c)
beside R [] (z ∷ zs) h y c = absurd h
beside R (x ∷ xs) [] h y c = absurd h
beside R (x ∷ xs) (z ∷ zs) h y c = elim (contains_cases z zs y c) [
  | inl e ↦ (x, (contains_here x xs, subst (R x) e h.0))
  | inr i ↦ let b = beside R xs zs h.1 y i in (b.0, (contains_later x xs b.0 b.1.0, b.1.1))
]

-- a pair behind both lists
pub zip-push : {A B : Type 0} (R : A → B → Type 0) (xs : List A) (ys : List B) (x : A) (y : B) → AllZip R xs ys → R x y → AllZip R (xs ++ x ∷ []) (ys ++ y ∷ [])
zip-push R [] [] x y h r = (r, tt)
zip-push R [] (z ∷ zs) x y h r = absurd h
zip-push R (w ∷ ws) [] x y h r = absurd h
zip-push R (w ∷ ws) (z ∷ zs) x y h r = (h.0, zip-push R ws zs x y h.1 r)

-- lists without repetition that have the same elements are as long
ordered-distinct : (lines : List Text) → AllPairs IsBefore lines → AllPairs ◌≢◌ lines
ordered-distinct lines h i j d l m e = before_irrefl (get_or lines i d) (subst (IsBefore (get_or lines i d)) (sym e) (h i j d l m))

in-order-length : (given shown : List Text) → AreInByteOrder given shown → AllPairs ◌≢◌ given → length shown ≡ length given
in-order-length given shown o distinct =
    let few = length-le_within shown given (ordered-distinct shown o.ordered) (λ x c. (o.exact x).0 c) in
    let many = length-le_within given shown distinct (λ x c. (o.exact x).1 c) in
    omega (arith, few, many)

-- where values with one line are below one another, values of which none is below another have different lines
module _ {A : Type 0} (IsLine : A → Text → Type 0) (Below : A → A → Type 0) (same : (a b : A) (line : Text) → IsLine a line → IsLine b line → Below a b) where
  abbrev Apart : A → A → Type 0
  Apart a b = (Below a b → ⊥) × (Below b a → ⊥)

  lines-distinct : (values : List A) (lines : List Text) → AllZip IsLine values lines → IsApart Below values → AllPairs ◌≢◌ lines
  lines-distinct [] [] h a = λ i j d l w. absurd (omega (arith, w))
  lines-distinct [] (l ∷ ls) h a = absurd h
  lines-distinct (s ∷ ss) [] h a = absurd h
  lines-distinct (s ∷ ss) (l ∷ ls) h a =
      AllPairs-cons l ls (lines-distinct ss ls h.1 (AllPairs-tail Apart s ss a))
      (λ y c e.
      let b = beside IsLine ss ls h.1 y c in
      (AllPairs-first Apart s ss b.0 a b.1.0).0 (same s b.0 l h.0 (subst (IsLine b.0) (sym e) b.1.1)))

  pub as-many : (values : List A) (lines shown : List Text) → AllZip IsLine values lines → IsApart Below values → AreInByteOrder lines shown → length shown ≡ length values
  as-many values lines shown z a order = in-order-length lines shown order (lines-distinct values lines z a) ∙ AllZip-long IsLine values lines z

module _ (m : Contents) (p : Problem) where
  values-lines : (unifiers : List Bindings) (lines : List Text) → AreLinesOfBindings m p unifiers lines → AllZip (IsLineOf m p) (map substitution unifiers) lines
  values-lines [] [] h = tt
  values-lines [] (l ∷ ls) h = absurd h
  values-lines (s ∷ ss) [] h = absurd h
  values-lines (s ∷ ss) (l ∷ ls) h = (h.0, values-lines ss ls h.1)

  pub shown-lines : EqualLinesAreInstances → (unifiers : List Bindings) (lines : List Text) → AreLinesOfBindings m p unifiers lines → IsApart (IsInstanceOf m p) (map substitution unifiers) → (end : End) (text : Text) →
      IsAnswerText m.signature m.names lines end text → Shows m p (record { values = map substitution unifiers; end = end }) text
  shown-lines law unifiers lines h a end text answer =
      let z = values-lines unifiers lines h in
      record {
        lines = lines;
        lines_of = z;
        answer = answer;
        count =
            as-many (IsLineOf m p) (IsInstanceOf m p) (λ s c line i j. law m.signature m.names p.names.texts p.vars line s c i.reads j.reads)
            (map substitution unifiers) lines answer.lines z a answer.in_order;
      }
