-- Sets in which a search finds a member with a decided property, or tells that there is none.
use Rattle.std.proofs.Common.{◌≡◌, ℕ, zero, suc, ◌<◌, List, [], ◌∷◌, sym, subst, arith, inl, inr}
use Rattle.std.specs.List.{Contains}
use Rattle.std.proofs.lemmas.Bool.{cases_lt}
use Rattle.fvn_base.specs.Decided.{Decided}
use Rattle.fvn_base.proofs.Membership.{contains_here, contains_later, contains_cases, contains_none}
use Rattle.fvn_terms.specs.declared.plain.Var.{Var}
use Rattle.fvn_terms.specs.declared.plain.OpId.{OpId}
use Rattle.fvn_terms.specs.Term.{Term, Terms, var, app, none, more}

module _ {A : Type 0} where
  -- some member has the property
  abbrev pub Found : (A → Type 0) → (A → Type 0) → Type 0
  Found In P = (x : A) × (In x × P x)

  -- a member with a property that is decided for members is found, or there is none
  abbrev pub IsSearched : (A → Type 0) → Type 1
  IsSearched In = (P : A → Type 0) → ((x : A) → In x → Decided (P x)) → Decided (Found In P)

  pub searched_list : (xs : List A) → IsSearched (Contains xs)
  searched_list [] P decide = inr (λ w. contains_none w.0 w.1.0)
  searched_list (x ∷ xs) P decide = go (decide x (contains_here x xs)) (searched_list xs P (λ y h. decide y (contains_later x xs y h))) where
    go : Decided (P x) → Decided (Found (Contains xs) P) → Decided (Found (Contains (x ∷ xs)) P)
    go (inl p) rest = inl (x, (contains_here x xs, p))
    go (inr n) (inl w) = inl (w.0, (contains_later x xs w.0 w.1.0, w.1.1))
    go (inr n) (inr f) = inr (λ w. elim (contains_cases x xs w.0 w.1.0) as (λ _. ⊥) [ inl e ↦ n (subst P (sym e) w.1.1) | inr i ↦ f (w.0, (i, w.1.1)) ])

  -- members that pass a decided test are searched too
  pub searched_passing : (In Q : A → Type 0) → IsSearched In → ((x : A) → In x → Decided (Q x)) → IsSearched (λ x. In x × Q x)
  searched_passing In Q find test P decide = go (find (λ x. Q x × P x) (λ x i. passes x i (test x i))) where
    passes : (x : A) → In x → Decided (Q x) → Decided (Q x × P x)
    passes x i (inr n) = inr (λ w. n w.0)
    passes x i (inl q) = holds (decide x (i, q)) where
      holds : Decided (P x) → Decided (Q x × P x)
      holds (inl p) = inl (q, p)
      holds (inr n) = inr (λ w. n w.1)

    go : Decided (Found In (λ x. Q x × P x)) → Decided (Found (λ x. In x × Q x) P)
    go (inl w) = inl (w.0, ((w.1.0, w.1.1.0), w.1.1.1))
    go (inr n) = inr (λ w. n (w.0, (w.1.0.0, (w.1.0.1, w.1.1))))

pub searched_below : (n : ℕ) → IsSearched (λ m. m < n)
searched_below zero P decide = inr (λ w. let l : w.0 < 0 = w.1.0 in omega arith)
searched_below (suc n) P decide = go (decide n (omega arith)) (searched_below n P (λ m l. decide m (omega arith))) where
  go : Decided (P n) → Decided (Found (λ m. m < n) P) → Decided (Found (λ m. m < suc n) P)
  go (inl p) rest = inl (n, (omega arith, p))
  go (inr fails) (inl w) = let l : w.0 < n = w.1.0 in inl (w.0, (omega arith, w.1.1))
  go (inr fails) (inr f) = inr (λ w. elim (cases_lt w.0 n) as (λ _. ⊥) [
    | inl l ↦ f (w.0, (l, w.1.1))
    | inr m ↦ let l : w.0 < suc n = w.1.0 in let e : w.0 ≡ n = omega arith in fails (subst P e w.1.1)
  ])

-- operators with numbers below this one
abbrev pub IsOperatorBelow : ℕ → OpId → Type 0
IsOperatorBelow n f = f.0 < n

pub searched_operators : (n : ℕ) → IsSearched (IsOperatorBelow n)
searched_operators n P decide = go (searched_below n (λ m. P (record { 0 = m })) (λ m l. decide (record { 0 = m }) l)) where
  go : Decided (Found (λ m. m < n) (λ m. P (record { 0 = m }))) → Decided (Found (IsOperatorBelow n) P)
  go (inl w) = inl (record { 0 = w.0 }, (w.1.0, w.1.1))
  go (inr fails) = inr (λ w. fails (w.0.0, (w.1.0, w.1.1)))

-- at most so many terms, each a member
abbrev pub AreWithin : (Term → Type 0) → ℕ → Terms → Type 0
AreWithin In n none = Unit {0}
AreWithin In zero (more t ts) = ⊥
AreWithin In (suc n) (more t ts) = In t × AreWithin In n ts

pub searched_lists : (In : Term → Type 0) → IsSearched In → (n : ℕ) → IsSearched (AreWithin In n)
searched_lists In find zero P decide = go (decide none tt) where
  refused : (P none → ⊥) → (ts : Terms) → AreWithin In 0 ts → P ts → ⊥
  refused fails none i p = fails p
  refused fails (more t ts) i p = i

  go : Decided (P none) → Decided (Found (AreWithin In 0) P)
  go (inl p) = inl (none, (tt, p))
  go (inr fails) = inr (λ w. refused fails w.0 w.1.0 w.1.1)
searched_lists In find (suc n) P decide =
    go (decide none tt) (find (λ t. Found (AreWithin In n) (λ ts. P (more t ts))) (λ t i. searched_lists In find n (λ ts. P (more t ts)) (λ ts j. decide (more t ts) (i, j))))
  where
    Longer : Type 0
    Longer = Found In (λ t. Found (AreWithin In n) (λ ts. P (more t ts)))

    refused : (P none → ⊥) → (Longer → ⊥) → (ts : Terms) → AreWithin In (suc n) ts → P ts → ⊥
    refused fails never none i p = fails p
    refused fails never (more t ts) i p = never (t, (i.0, (ts, (i.1, p))))

    go : Decided (P none) → Decided Longer → Decided (Found (AreWithin In (suc n)) P)
    go (inl p) rest = inl (none, (tt, p))
    go (inr fails) (inl w) = inl (more w.0 w.1.1.0, ((w.1.0, w.1.1.1.0), w.1.1.1.1))
    go (inr fails) (inr never) = inr (λ w. refused fails never w.0 w.1.0 w.1.1)

module _ (vars : List Var) (operators : ℕ) where
  -- a term of these variables and operators that is at most so deep and so wide
  abbrev pub IsTermWithin : ℕ → Term → Type 0
  IsTermWithin zero t = ⊥
  IsTermWithin (suc n) (var x) = Contains vars x
  IsTermWithin (suc n) (app f ts) = IsOperatorBelow operators f × AreWithin (IsTermWithin n) n ts

  pub searched_terms : (n : ℕ) → IsSearched (IsTermWithin n)
  searched_terms zero P decide = inr (λ w. w.1.0)
  searched_terms (suc n) P decide =
      go (searched_list vars (λ x. P (var x)) (λ x i. decide (var x) i))
      (searched_operators operators (λ f. Found (AreWithin (IsTermWithin n) n) (λ ts. P (app f ts))) (λ f l. searched_lists (IsTermWithin n) (searched_terms n) n (λ ts. P (app f ts)) (λ ts j. decide (app f ts) (l, j))))
    where
      Variable : Type 0
      Variable = Found (Contains vars) (λ x. P (var x))

      Applied : Type 0
      Applied = Found (IsOperatorBelow operators) (λ f. Found (AreWithin (IsTermWithin n) n) (λ ts. P (app f ts)))

      refused : (Variable → ⊥) → (Applied → ⊥) → (t : Term) → IsTermWithin (suc n) t → P t → ⊥
      refused fails never (var x) i p = fails (x, (i, p))
      refused fails never (app f ts) i p = never (f, (i.0, (ts, (i.1, p))))

      go : Decided Variable → Decided Applied → Decided (Found (IsTermWithin (suc n)) P)
      go (inl w) rest = inl (var w.0, (w.1.0, w.1.1))
      go (inr fails) (inl w) = inl (app w.0 w.1.1.0, ((w.1.0, w.1.1.1.0), w.1.1.1.1))
      go (inr fails) (inr never) = inr (λ w. refused fails never w.0 w.1.0 w.1.1)
