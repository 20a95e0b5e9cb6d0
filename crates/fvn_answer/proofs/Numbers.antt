-- The numbers of variables in two orders.
use Rattle.std.proofs.Common.{false, ◌≡◌, ◌≢◌, ℕ, ◌+◌, ◌<◌, ◌≤◌, inl, inr, List, length, get_or, Option, Some, None, refl, sym, ap, ◌∙◌, subst, arith}
use Rattle.std.specs.Prelude.{AllPairs, Contains, unwrap_or}
use Rattle.std.specs.List.{position_from, SwappedAt}
use Rattle.std.proofs.lemmas.Bool.{cases_lt, cases_order}
use Rattle.std.proofs.lemmas.List.{get_or_default}
use Rattle.std.proofs.lemmas.List.Elements.{Contains-get_or}
use Rattle.fvn_terms.specs.declared.plain.Var.{Var}
use Rattle.fvn_terms.specs.Substitution.{same_var}
use Rattle.fvn_terms.specs.declared.declarations.Declarations.{Declarations}
use Rattle.fvn_terms.proofs.Variables.{same_var_is, same_var_itself}
use Rattle.fvn_syntax.specs.declared.names.Names.{Names}
use Rattle.fvn_syntax.specs.Pieces.{Text}
use Rattle.fvn_answer.specs.Numberings.{number, IsNumbering}
use Rattle.fvn_answer.specs.Lines.{Shown, forms_in}
use Rattle.fvn_answer.specs.inner.Fronts.{AgreesUpTo}
use Rattle.fvn_answer.specs.inner.Shown.{BeginsAs}
use Rattle.fvn_answer.proofs.Least.{same-length, same-lists}
use Rattle.fvn_answer.proofs.TextPlaces.{position-finds, position-some}

pub nobody : Var
nobody = record { name = 0; sort = record { 0 = 0 }; fresh = false }

-- where a variable with a number stands
pub record StandsAt (order : List Var) (x : Var) : Type 0 where
  pub at : ℕ
  pub number_is : number order x ≡ 1 + at
  pub within : at < length order
  pub is : get_or order at nobody ≡ x

stands-found : (order : List Var) (x : Var) (i : ℕ) → position_from (λ y. same_var y x) 1 order ≡ Some i → StandsAt order x
stands-found order x i e =
    let f = position-finds (λ y. same_var y x) 1 order nobody i e in record {
      at = f.at;
      number_is = ap (λ o. unwrap_or o 0) e ∙ f.is;
      within = f.within;
      is = same_var_is (get_or order f.at nobody) x f.passes;
    }

pub stands-numbered : (order : List Var) (x : Var) → 0 < number order x → StandsAt order x
stands-numbered order x h = go (position_from (λ y. same_var y x) 1 order) refl h
  where
    go : (o : Option ℕ) → position_from (λ y. same_var y x) 1 order ≡ o → 0 < unwrap_or o 0 → StandsAt order x
    go None e h = absurd (omega arith)
    go (Some i) e h = stands-found order x i e

pub stands-listed : (order : List Var) (x : Var) → Contains order x → StandsAt order x
stands-listed order x h =
    let s = position-some (λ y. same_var y x) 1 order x h (same_var_itself x) in
    stands-found order x s.0 s.1

pub number-within : (order : List Var) (x : Var) → number order x ≤ length order
number-within order x = go (position_from (λ y. same_var y x) 1 order) refl
  where
    go : (o : Option ℕ) → position_from (λ y. same_var y x) 1 order ≡ o → unwrap_or o 0 ≤ length order
    go None e = omega arith
    go (Some i) e =
        let f = position-finds (λ y. same_var y x) 1 order nobody i e in
        let l = f.within in
        let m = f.is in
        omega arith

-- two places of one variable are one
pub one-place : (order : List Var) → AllPairs (λ x y. x ≢ y) order → (i j : ℕ) → i < length order → j < length order → get_or order i nobody ≡ get_or order j nobody → i ≡ j
one-place order distinct i j low high e = elim (cases_order i j) [
  | inl is ↦ is
  | inr n ↦ elim n [
    | inl l ↦ absurd (distinct i j nobody l high e)
    | inr l ↦ absurd (distinct j i nobody l low (sym e))
  ]
]

pub contains-at : (order : List Var) (x : Var) (i : ℕ) → i < length order → get_or order i nobody ≡ x → Contains order x
contains-at order x i within e = (i, within, get_or_default order i x nobody within ∙ e)

pub number-at : (order : List Var) (x : Var) → AllPairs (λ x y. x ≢ y) order → (i : ℕ) → i < length order → get_or order i nobody ≡ x → number order x ≡ 1 + i
number-at order x distinct i within is =
    let s = stands-listed order x (contains-at order x i within is) in
    s.number_is ∙ ap (λ n. 1 + n) (one-place order distinct s.at i s.within within (s.is ∙ sym is))

module _ (d : Declarations) (texts : List Text) (names : Names) (it : Shown) where
  abbrev Begins : List Var → ℕ → List Var → Type 0
  Begins = BeginsAs d texts names it

  -- where the variable at k stands, in an order with the same variables that begins alike up to k
  pub record Next (order : List Var) (k : ℕ) (other : List Var) : Type 0 where
    pub place : ℕ
    pub from : k ≤ place
    pub upto : place < length order
    pub next : (x : Var) → get_or other k x ≡ get_or order place x

  pub next-place : (order other : List Var) (k : ℕ) → k < length order → IsNumbering (forms_in it) order → Begins order k other → Next order k other
  next-place order other k within is b =
      let long : length other ≡ length order = same-length (forms_in it) other order b.numbering is in
      let inside : k < length other = omega arith in
      let at = (is.exact (get_or other k nobody)).1 ((b.numbering.exact (get_or other k nobody)).0 (Contains-get_or other k nobody inside)) in
      let j = at.0 in
      let low : j < length order = at.1 in
      let found : get_or order j (get_or other k nobody) ≡ get_or other k nobody = at.2 in
      record {
        place = j;
        from = elim (cases_lt j k) [
          | inr high ↦ high
          | inl below ↦ absurd (b.numbering.distinct j k nobody below inside
              (b.alike j nobody below ∙ get_or_default order j nobody (get_or other k nobody) low ∙ found))
        ];
        upto = low;
        next = λ x. get_or_default other k x nobody inside ∙ sym found ∙ get_or_default order j (get_or other k nobody) x low;
      }

  -- an order that begins alike but for at most its last variable is the same
  pub nothing-else : (order other : List Var) (k : ℕ) → length order ≤ k + 1 → IsNumbering (forms_in it) order → Begins order k other → other ≡ order
  nothing-else order other k short is b =
      let long : length other ≡ length order = same-length (forms_in it) other order b.numbering is in
      same-lists other order long (λ i x l. elim (cases_lt i k) [
        | inl below ↦ b.alike i x below
        | inr high ↦
            let at : i ≡ k = omega arith in
            let n = next-place order other k (omega arith) is b in
            let place : n.place ≡ k = let p = n.from in let q = n.upto in omega arith in
            subst (λ j. get_or other j x ≡ get_or order j x) (sym at) (subst (λ j. get_or other k x ≡ get_or order j x) place (n.next x))
      ])

  -- numbers agree as far as they are fixed
  pub agrees : (order other : List Var) (k : ℕ) → length order < 10 → IsNumbering (forms_in it) order → (b : Begins order k other) → AgreesUpTo order k other
  agrees order other k small is b = record {
    same = λ x some low.
        let s = stands-numbered order x some in
        let num = s.number_is in
        let here = s.within in
        let found : get_or other s.at nobody ≡ x = b.alike s.at nobody (omega arith) ∙ s.is in
        number-at other x b.numbering.distinct s.at (omega (arith, long)) found ∙ sym num;
    later = λ x high.
        let s = stands-numbered order x (omega arith) in
        let num = s.number_is in
        let t = listed x s in
        let tnum = t.number_is in
        elim (cases_lt t.at k) [
          | inr up ↦ omega arith
          | inl below ↦
              let e : get_or order t.at nobody ≡ x = sym (b.alike t.at nobody below) ∙ t.is in
              let at : t.at ≡ s.at = one-place order is.distinct t.at s.at (let in_other = t.within in omega (arith, long)) s.within (e ∙ sym s.is) in
              absurd (omega arith)
        ];
    few = λ x. let w = number-within other x in omega (arith, long);
  }
    where
      long : length other ≡ length order
      long = same-length (forms_in it) other order b.numbering is

      listed : (x : Var) → StandsAt order x → StandsAt other x
      listed x s = stands-listed other x ((b.numbering.exact x).1 ((is.exact x).0 (contains-at order x s.at s.within s.is)))

  -- an order that goes on with the variable at j begins as the one in which that stands at k
  pub next-begins : (order next other : List Var) (k j : ℕ) → k ≤ j → SwappedAt order next k j → Begins order k other → ((x : Var) → get_or other k x ≡ get_or order j x) → Begins next (k + 1) other
  next-begins order next other k j up move b is = record {
    numbering = b.numbering;
    alike = λ m x l. elim (cases_lt m k) [
      | inl below ↦ b.alike m x below ∙ sym (move.2 m x (λ e. omega (arith, e)) (λ e. omega (arith, e)))
      | inr high ↦
          let at : m ≡ k = omega arith in
          subst (λ p. get_or other p x ≡ get_or next p x) (sym at) (is x ∙ sym (move.0 x))
    ];
  }
