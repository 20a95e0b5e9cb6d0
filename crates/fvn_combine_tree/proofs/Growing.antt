-- How trees change.
use Rattle.std.proofs.Common.{◌≡◌, ◌≢◌, ◌⊎◌, ℕ, zero, suc, ◌+◌, ◌-◌, ◌^◌, ◌<◌, ◌≤◌, List, [], ◌∷◌, ◌++◌, length, take, get_or, set, refl, sym, ap, ◌∙◌, subst, inl, inr, arith, All, Any, AllPairs, Option, Some, None, slice_get}
use Rattle.std.specs.Prelude.{MatchOption, IfSome}
use Rattle.std.specs.Option.{option_to_list}
use Rattle.std.proofs.Math.Nat.{one-le-pow}
use Rattle.std.proofs.lemmas.Bool.{cases_eq}
use Rattle.std.proofs.lemmas.List.{take_at, length_push, length-append, get_or_append_left, get_or-append-add, get_or_default, set_split, set-append_left, drop_all, append_assoc, append-nil, nil_from_length}
use Rattle.std.proofs.lemmas.List.Elements.{All-nil, All-cons, All-append, All-take, All-contains, Contains-push}
use Rattle.std.proofs.lemmas.List.Sums.{sum_by-append, sum_by-cons}
use Rattle.fvn_terms.specs.declared.declarations.Declarations.{Declarations}
use Rattle.fvn_combine_nodes.specs.Table.{NodeTable}
use Rattle.fvn_combine_nodes.specs.Classes.{IsNodePartition}
use Rattle.fvn_combine_nodes.specs.States.{Admits, IsClosed, open_pairs}
use Rattle.fvn_combine_tree.specs.Questions.{IsStart, IsAnswer, AreAnswers}
use Rattle.fvn_combine_tree.specs.Trees.{weight, IsToCome, AreClosed, IsPartedFrom, AreInOrder, IsAsked, IsTakenOn}
use Rattle.fvn_combine_nodes.specs.declared.state.State.{State}
use Rattle.fvn_combine_tree.specs.declared.asking.Answers.{Answers}
use Rattle.fvn_combine_tree.specs.inner.Starts.{listed}
use Rattle.fvn_combine_tree.proofs.Powers.{powers_fall}

pub any_here : {A : Type 0} (P : A → Type 0) (x : A) (xs : List A) → P x → Any P (x ∷ xs)
any_here P x xs h = (0, x, omega arith, refl, h)

pub any_later : {A : Type 0} (P : A → Type 0) (x : A) (xs : List A) → Any P xs → Any P (x ∷ xs)
any_later P x xs h = let l = h.2 in (suc h.0, h.1, omega arith, h.3, h.4)

any_none : {A : Type 0} (P : A → Type 0) → Any P [] → ⊥
any_none P h = let l = h.2 in omega arith

any_one : {A : Type 0} (P : A → Type 0) (x : A) → Any P (x ∷ []) → P x
any_one P x (zero, y, l, e, h) = subst P (sym e) h
any_one P x (suc k, y, l, e, h) = absurd (omega (arith, l))

pub weight_push : (states : List State) (s : State) → weight (states ++ s ∷ []) ≡ weight states + 3 ^ open_pairs s
weight_push states s = sum_by-append (λ r. 3 ^ open_pairs r) states (s ∷ []) ∙ ap (λ n. weight states + n) (sum_by-cons (λ r. 3 ^ open_pairs r) s [] ∙ omega arith)

-- the top is not weightless
pub weight_falls : (states : List State) (s : State) → weight states < weight (states ++ s ∷ [])
weight_falls states s =
    let e = weight_push states s in
    let p : 1 ≤ 3 ^ open_pairs s = one-le-pow (open_pairs s) 3 (omega arith) in
    omega arith

-- the top is taken out
pub taken : (before after : List State) (r : Option State) → before ≡ after ++ option_to_list r → MatchOption r (length after ≡ 0) (λ s. Unit {0}) → MatchOption r ((before ≡ []) × (after ≡ [])) (λ s. before ≡ after ++ s ∷ [])
taken before after None e h = let none : after ≡ [] = nil_from_length after h in (e ∙ append-nil after ∙ none, none)
taken before after (Some s) e h = e

pub taken_falls : (before after : List State) (r : Option State) → before ≡ after ++ option_to_list r → IfSome r (λ s. weight after < weight before)
taken_falls before after None e = tt
taken_falls before after (Some s) e = let f = weight_falls after s in let g = ap weight e in omega arith

-- a state in place of the last one
pub set_last_is : (states : List State) (s : State) (n : ℕ) → n + 1 ≡ length states → set states n s ≡ take n states ++ s ∷ []
set_last_is states s n e = set_split states n s (omega arith) ∙ ap (λ l. take n states ++ s ∷ l) (drop_all (suc n) states (omega arith))

pub set_last_two_is : (states : List State) (s r : State) (n : ℕ) → n + 1 ≡ length states → set (states ++ r ∷ []) n s ≡ take n states ++ s ∷ r ∷ []
set_last_two_is states s r n e = set-append_left states (r ∷ []) n s (omega arith) ∙ ap (λ l. l ++ r ∷ []) (set_last_is states s n e) ∙ append_assoc (take n states) (s ∷ []) (r ∷ [])

slice_get-push : (states : List State) (s : State) → slice_get (states ++ s ∷ []) (length states) ≡ Some s
slice_get-push [] s = refl
slice_get-push (r ∷ states) s = slice_get-push states s

-- the last state is the top
pub last_is : (states below : List State) (top last : State) → states ≡ below ++ top ∷ [] → Some last ≡ slice_get states (length states - 1) → last ≡ top
last_is states below top last is at =
    let n : length (below ++ top ∷ []) - 1 ≡ length below = let m = length_push below top in omega arith in
    let e : Some last ≡ Some top = at ∙ ap (λ l. slice_get l (length l - 1)) is ∙ ap (slice_get (below ++ top ∷ [])) n ∙ slice_get-push below top in
    cc

-- at most one state is in order
pub ordered_one : (r : Option State) → AreInOrder (option_to_list r)
ordered_one None = tt
ordered_one (Some s) = (All-nil (IsPartedFrom s), tt)

all_front : (P : State → Type 0) (xs ys : List State) → All P (xs ++ ys) → All P xs
all_front P xs ys h i d l = let n = length-append xs ys in subst P (get_or_append_left xs ys d i l) (h i d (omega (arith, l, n)))

-- what stands at the front stays in order
ordered_front : (below above : List State) → AreInOrder (below ++ above) → AreInOrder below
ordered_front [] above h = tt
ordered_front (s ∷ below) above h = (all_front (IsPartedFrom s) below above h.0, ordered_front below above h.1)

pub taken_ordered : (before after : List State) (r : Option State) → before ≡ after ++ option_to_list r → AreInOrder before → AreInOrder after
taken_ordered before after r e h = ordered_front after (option_to_list r) (subst AreInOrder e h)

-- what is left of a state that is parted from s is so too
parted_left : (s : State) (left : List State) (top : State) → ((class : ℕ → ℕ) → IsToCome left class → Admits top class) → IsPartedFrom s top → All (IsPartedFrom s) left
parted_left s left top kept p i d l = record {
  first = p.first;
  second = p.second;
  first_within = p.first_within;
  second_within = p.second_within;
  apart = p.apart;
  together = λ class a. p.together class (kept class (i, get_or left i d, l, sym (get_or_default left i d (get_or left i d) l), a));
}

-- what is left of the top stands in its place
ordered_after : (below left : List State) (top : State) → ((class : ℕ → ℕ) → IsToCome left class → Admits top class) → AreInOrder left → AreInOrder (below ++ top ∷ []) → AreInOrder (below ++ left)
ordered_after [] left top kept order h = order
ordered_after (s ∷ below) left top kept order h = (
  All-append (IsPartedFrom s) below left (all_front (IsPartedFrom s) below (top ∷ []) h.0)
      (parted_left s left top kept (All-contains (IsPartedFrom s) (below ++ top ∷ []) top h.0 (Contains-push below top))),
  ordered_after below left top kept order h.1,
)

module _ (d : Declarations) (t : NodeTable) where
  -- a tree that begins with a state or none
  pub begun_closed : (r : Option State) → IsStart d t r → AreClosed d t (option_to_list r)
  begun_closed None h = All-nil (IsClosed d t)
  begun_closed (Some s) h = All-cons (IsClosed d t) s [] h.0 (All-nil (IsClosed d t))

  pub begun_all : (r : Option State) → IsStart d t r → (class : ℕ → ℕ) → IsNodePartition d t class → IsToCome (option_to_list r) class
  begun_all None h class partition = absurd (h class partition)
  begun_all (Some s) h class partition = any_here (λ r. Admits r class) s [] (h.1 class partition)

  -- what is left of a state
  module _ (top : State) (Holds : (ℕ → ℕ) → Type 0) where
    left_closed : (r : Option State) → IsAnswer d t top Holds r → All (IsClosed d t) (option_to_list r)
    left_closed None h = All-nil (IsClosed d t)
    left_closed (Some r) h = All-cons (IsClosed d t) r [] h.closed (All-nil (IsClosed d t))

    left_kept : (r : Option State) → IsAnswer d t top Holds r → (class : ℕ → ℕ) → IsToCome (option_to_list r) class → Admits top class × Holds class
    left_kept None h class a = absurd (any_none (λ s. Admits s class) a)
    left_kept (Some r) h class a = h.holds class (any_one (λ s. Admits s class) r a)

    left_all : (r : Option State) → IsAnswer d t top Holds r → (class : ℕ → ℕ) → IsNodePartition d t class → Admits top class → Holds class → IsToCome (option_to_list r) class
    left_all None h class partition a e = absurd (h class partition a e)
    left_all (Some r) h class partition a e = any_here (λ s. Admits s class) r [] (h.forced class partition a e)

  any_left : {A : Type 0} (P : A → Type 0) (xs ys : List A) → Any P xs → Any P (xs ++ ys)
  any_left P xs ys h = (h.0, h.1, let l = h.2 in let n = length-append xs ys in omega arith, get_or_append_left xs ys h.1 h.0 h.2 ∙ h.3, h.4)

  any_right : {A : Type 0} (P : A → Type 0) (xs ys : List A) → Any P ys → Any P (xs ++ ys)
  any_right P xs ys h = (length xs + h.0, h.1, let l = h.2 in let n = length-append xs ys in omega arith, get_or-append-add xs ys h.0 h.1 ∙ h.3, h.4)

  module _ (top : State) (i j : ℕ) (a : Answers) (are : AreAnswers d t top i j a) where
    pub answers_closed : All (IsClosed d t) (listed a)
    answers_closed = All-append (IsClosed d t) (option_to_list a.apart) (option_to_list a.same) (left_closed top (λ class. class i ≢ class j) a.apart are.apart) (left_closed top (λ class. class i ≡ class j) a.same are.same)

    answers_kept : (class : ℕ → ℕ) → IsToCome (listed a) class → Admits top class
    answers_kept class h = elim (any_cases (option_to_list a.apart) h) [
      | inl l ↦ (left_kept top (λ class. class i ≢ class j) a.apart are.apart class l).0
      | inr r ↦ (left_kept top (λ class. class i ≡ class j) a.same are.same class r).0
    ]
      where
        any_cases : (xs : List State) → IsToCome (xs ++ option_to_list a.same) class → IsToCome xs class ⊎ IsToCome (option_to_list a.same) class
        any_cases [] h = inr h
        any_cases (x ∷ xs) (zero, y, l, e, h) = inl (any_here (λ s. Admits s class) x xs (subst (λ s. Admits s class) (sym e) h))
        any_cases (x ∷ xs) (suc k, y, l, e, h) = elim (any_cases xs (k, y, omega (arith, l), e, h)) [
          | inl m ↦ inl (any_later (λ s. Admits s class) x xs m)
          | inr m ↦ inr m
        ]

    answers_all : (class : ℕ → ℕ) → IsNodePartition d t class → Admits top class → IsToCome (listed a) class
    answers_all class partition h = elim (cases_eq (class i) (class j)) [
      | inl e ↦ any_right (λ s. Admits s class) (option_to_list a.apart) (option_to_list a.same) (left_all top (λ class. class i ≡ class j) a.same are.same class partition h e)
      | inr n ↦ any_left (λ s. Admits s class) (option_to_list a.apart) (option_to_list a.same) (left_all top (λ class. class i ≢ class j) a.apart are.apart class partition h n)
    ]

    answers_one : (class : ℕ → ℕ) → AllPairs (λ s r. Admits s class → Admits r class → ⊥) (listed a)
    answers_one class = go a.apart a.same are.apart are.same
      where
        go : (p q : Option State) → IsAnswer d t top (λ class. class i ≢ class j) p → IsAnswer d t top (λ class. class i ≡ class j) q → AllPairs (λ s r. Admits s class → Admits r class → ⊥) (option_to_list p ++ option_to_list q)
        go None None x y = λ k l e lt within. absurd (omega arith)
        go None (Some s) x y = λ k l e lt within. absurd (omega arith)
        go (Some r) None x y = λ k l e lt within. absurd (omega arith)
        go (Some r) (Some s) x y = λ k l e lt within u v.
            let zeroth : k ≡ 0 = omega arith in
            let first : l ≡ 1 = omega arith in
            let apart = (x.holds class (subst (λ n. Admits (get_or (r ∷ s ∷ []) n e) class) zeroth u)).1 in
            let same = (y.holds class (subst (λ n. Admits (get_or (r ∷ s ∷ []) n e) class) first v)).1 in
            apart same

    answers_ordered : i < length t.nodes → j < length t.nodes → AreInOrder (listed a)
    answers_ordered left right = go a.apart a.same are.apart are.same
      where
        go : (p q : Option State) → IsAnswer d t top (λ class. class i ≢ class j) p → IsAnswer d t top (λ class. class i ≡ class j) q → AreInOrder (option_to_list p ++ option_to_list q)
        go None None x y = tt
        go None (Some s) x y = (All-nil (IsPartedFrom s), tt)
        go (Some r) None x y = (All-nil (IsPartedFrom r), tt)
        go (Some r) (Some s) x y =
            let parted : IsPartedFrom r s = record {
              first = i;
              second = j;
              first_within = subst (λ n. i < n) (sym x.closed.whole) left;
              second_within = subst (λ n. j < n) (sym x.closed.whole) right;
              apart = λ class h. (x.holds class h).1;
              together = λ class h. (y.holds class h).1;
            } in
            (All-cons (IsPartedFrom r) s [] parted (All-nil (IsPartedFrom r)), (All-nil (IsPartedFrom s), tt))

    pub answers_fall : weight (listed a) < 3 ^ open_pairs top
    answers_fall = go a.apart a.same are.apart are.same
      where
        w : State → ℕ
        w s = 3 ^ open_pairs s

        go : (p q : Option State) → IsAnswer d t top (λ class. class i ≢ class j) p → IsAnswer d t top (λ class. class i ≡ class j) q → weight (option_to_list p ++ option_to_list q) < 3 ^ open_pairs top
        go None None x y = let p : 1 ≤ 3 ^ open_pairs top = one-le-pow (open_pairs top) 3 (omega arith) in let z : weight [] ≡ 0 = refl in omega arith
        go None (Some s) x y =
            let e = weight_push [] s in
            let z : weight [] ≡ 0 = refl in
            let f = powers_fall (open_pairs s) (open_pairs s) (open_pairs top) y.falls y.falls in
            let p : 1 ≤ 3 ^ open_pairs s = one-le-pow (open_pairs s) 3 (omega arith) in
            omega arith
        go (Some r) None x y =
            let e = weight_push [] r in
            let z : weight [] ≡ 0 = refl in
            let f = powers_fall (open_pairs r) (open_pairs r) (open_pairs top) x.falls x.falls in
            let p : 1 ≤ 3 ^ open_pairs r = one-le-pow (open_pairs r) 3 (omega arith) in
            omega arith
        go (Some r) (Some s) x y =
            let e = weight_push (r ∷ []) s in
            let g = weight_push [] r in
            let z : weight [] ≡ 0 = refl in
            let f = powers_fall (open_pairs r) (open_pairs s) (open_pairs top) x.falls y.falls in
            omega arith

    -- the top made way for the answers
    module _ (before after below : List State) (was : before ≡ below ++ top ∷ []) (is : after ≡ take (length before - 1) before ++ listed a) where
      pub asked_below : take (length before - 1) before ≡ below
      asked_below = ap (λ l. take (length l - 1) l) was ∙ take_at below (top ∷ []) (length (below ++ top ∷ []) - 1) (let n = length_push below top in omega arith)

      after_is : after ≡ below ++ listed a
      after_is = is ∙ ap (λ l. l ++ listed a) asked_below

      pub asked_is : IsAsked d t before after
      asked_is = record {
        below = below;
        top = top;
        answers = listed a;
        was = was;
        is = after_is;
        kept = answers_kept;
        all = answers_all;
        one = answers_one;
      }

      pub asked_closed : AreClosed d t before → AreClosed d t after
      asked_closed h =
          subst (All (IsClosed d t)) (sym after_is) (All-append (IsClosed d t) below (listed a) (subst (All (IsClosed d t)) asked_below (All-take (IsClosed d t) (length before - 1) before h)) answers_closed)

      pub asked_ordered : i < length t.nodes → j < length t.nodes → AreInOrder before → AreInOrder after
      asked_ordered left right h = subst AreInOrder (sym after_is) (ordered_after below (listed a) top answers_kept (answers_ordered left right) (subst AreInOrder was h))

      pub asked_falls : weight after < weight before
      asked_falls =
          let e = ap weight after_is ∙ sum_by-append (λ r. 3 ^ open_pairs r) below (listed a) in
          let f = ap weight was ∙ weight_push below top in
          let g = answers_fall in
          omega arith

  -- the top made way for what is left where a fact holds
  module _ (top : State) (Holds : (ℕ → ℕ) → Type 0) (r : Option State) (answer : IsAnswer d t top Holds r) where
    left_weight : weight (option_to_list r) < 3 ^ open_pairs top
    left_weight = go r answer
      where
        go : (r : Option State) → IsAnswer d t top Holds r → weight (option_to_list r) < 3 ^ open_pairs top
        go None x = let p : 1 ≤ 3 ^ open_pairs top = one-le-pow (open_pairs top) 3 (omega arith) in let z : weight [] ≡ 0 = refl in omega arith
        go (Some s) x =
            let e = weight_push [] s in
            let z : weight [] ≡ 0 = refl in
            let f = powers_fall (open_pairs s) (open_pairs s) (open_pairs top) x.falls x.falls in
            let p : 1 ≤ 3 ^ open_pairs s = one-le-pow (open_pairs s) 3 (omega arith) in
            omega arith

    module _ (before after below : List State) (was : before ≡ below ++ top ∷ []) (is : after ≡ take (length before - 1) before ++ option_to_list r) where
      taken_on_below : take (length before - 1) before ≡ below
      taken_on_below = ap (λ l. take (length l - 1) l) was ∙ take_at below (top ∷ []) (length (below ++ top ∷ []) - 1) (let n = length_push below top in omega arith)

      taken_on_after : after ≡ below ++ option_to_list r
      taken_on_after = is ∙ ap (λ l. l ++ option_to_list r) taken_on_below

      pub taken_on_is : IsTakenOn d t Holds before after
      taken_on_is = record {
        below = below;
        top = top;
        left = option_to_list r;
        was = was;
        is = taken_on_after;
        kept = λ class h. (left_kept top Holds r answer class h).0;
        holds = λ class h. (left_kept top Holds r answer class h).1;
        all = λ class partition h e. left_all top Holds r answer class partition h e;
      }

      pub taken_on_closed : AreClosed d t before → AreClosed d t after
      taken_on_closed h =
          subst (All (IsClosed d t)) (sym taken_on_after) (All-append (IsClosed d t) below (option_to_list r) (subst (All (IsClosed d t)) taken_on_below (All-take (IsClosed d t) (length before - 1) before h)) (left_closed top Holds r answer))

      pub taken_on_ordered : AreInOrder before → AreInOrder after
      taken_on_ordered h =
          subst AreInOrder (sym taken_on_after) (ordered_after below (option_to_list r) top (λ class h. (left_kept top Holds r answer class h).0) (ordered_one r) (subst AreInOrder was h))

      pub taken_on_falls : weight after < weight before
      taken_on_falls =
          let e = ap weight taken_on_after ∙ sum_by-append (λ r. 3 ^ open_pairs r) below (option_to_list r) in
          let f = ap weight was ∙ weight_push below top in
          let g = left_weight in
          omega arith
