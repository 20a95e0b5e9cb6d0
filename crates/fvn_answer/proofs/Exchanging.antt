-- Two variables of an order, exchanged.
use Rattle.std.proofs.Common.{◌≡◌, ◌≢◌, ℕ, ◌<◌, ◌≤◌, inl, inr, List, [], ◌∷◌, length, get_or, refl, sym, ap, ◌∙◌, arith}
use Rattle.std.specs.Prelude.{AllPairs, slice_set}
use Rattle.std.specs.List.{swap}
use Rattle.std.proofs.lemmas.Bool.{cases_lt}
use Rattle.std.proofs.lemmas.List.{get_or_default, get_or-set_same, get_or-set_other, length-set}
use Rattle.fvn_terms.specs.declared.plain.Var.{Var}
use Rattle.fvn_terms.specs.declared.declarations.Declarations.{Declarations}
use Rattle.fvn_syntax.specs.declared.names.Names.{Names}
use Rattle.fvn_syntax.specs.Pieces.{Text}
use Rattle.fvn_answer.specs.Numberings.{number, IsNumbering}
use Rattle.fvn_answer.specs.Lines.{Shown, forms_in}
use Rattle.fvn_answer.specs.inner.Shown.{BeginsAs}
use Rattle.fvn_answer.specs.inner.Twins.{AreExchanged, AreRaised}
use Rattle.fvn_answer.proofs.Least.{same-length, exchanged-length, exchanged-numbering}
use Rattle.fvn_answer.proofs.Numbers.{nobody, stands-numbered, stands-listed, one-place, contains-at, number-at, number-within}

-- what stands where after an exchange
record Swapped (xs ys : List Var) (k q : ℕ) : Type 0 where
  at_first : get_or ys k nobody ≡ get_or xs q nobody
  at_second : get_or ys q nobody ≡ get_or xs k nobody
  elsewhere : (m : ℕ) (x : Var) → m ≢ k → m ≢ q → get_or ys m x ≡ get_or xs m x

swapped : (xs : List Var) (k q : ℕ) → k ≢ q → k < length xs → q < length xs → Swapped xs (swap xs k q) k q
swapped [] k q n low high = absurd (omega (arith, low))
swapped (d ∷ xs) k q n low high =
    let all : List Var = d ∷ xs in
    let first : List Var = slice_set all k (get_or all q d) in
    record {
      at_first =
          get_or-set_other first q k (get_or all k d) nobody n ∙ get_or-set_same all k (get_or all q d) nobody low ∙ get_or_default all q d nobody high;
      at_second = get_or-set_same first q (get_or all k d) nobody (let l = length-set all k (get_or all q d) in omega (arith, l, high)) ∙ get_or_default all k d nobody low;
      elsewhere = λ m x a b. get_or-set_other first q m (get_or all k d) x b ∙ get_or-set_other all k m (get_or all q d) x a;
    }

module _ (x y : Var) (xs ys : List Var) (k q : ℕ) (dx : AllPairs (λ x y. x ≢ y) xs) (dy : AllPairs (λ x y. x ≢ y) ys) (long : length ys ≡ length xs) (low : k < length xs) (high : q < length xs)
    (s : Swapped xs ys k q) (first : get_or xs q nobody ≡ x) (second : get_or xs k nobody ≡ y) where
  rest : (z : Var) → z ≢ x → z ≢ y → number xs z ≡ number ys z
  rest z a b = elim (cases_lt 0 (number xs z)) [
    | inl some ↦
        let t = stands-numbered xs z some in
        let place : get_or ys t.at nobody ≡ z = s.elsewhere t.at nobody (λ e. b (sym t.is ∙ ap (λ m. get_or xs m nobody) e ∙ second)) (λ e. a (sym t.is ∙ ap (λ m. get_or xs m nobody) e ∙ first)) ∙ t.is in
        t.number_is ∙ sym (number-at ys z dy t.at (let l = t.within in omega (arith, long)) place)
    | inr none ↦ elim (cases_lt 0 (number ys z)) [
      | inl some ↦
          let t = stands-numbered ys z some in
          let place : get_or xs t.at nobody ≡ z =
          sym (s.elsewhere t.at nobody (λ e. a (sym t.is ∙ ap (λ m. get_or ys m nobody) e ∙ s.at_first ∙ first)) (λ e. b (sym t.is ∙ ap (λ m. get_or ys m nobody) e ∙ s.at_second ∙ second))) ∙ t.is in
          let n = number-at xs z dx t.at (let l = t.within in omega (arith, long)) place in
          absurd (omega (arith, n, none))
      | inr nothing ↦ omega (arith, none, nothing)
    ]
  ]

  numbers-exchanged : x.sort ≡ y.sort → AreExchanged x y ys xs
  numbers-exchanged e = record {
    sort = e;
    first = number-at xs x dx q high first ∙ sym (number-at ys y dy q (omega (arith, long, high)) (s.at_second ∙ second));
    second = number-at xs y dx k low second ∙ sym (number-at ys x dy k (omega (arith, long, low)) (s.at_first ∙ first));
    same = rest;
  }

module _ (d : Declarations) (texts : List Text) (names : Names) (it : Shown) (order before : List Var) (k j p : ℕ) where
  -- the order before with the numbers of the variables at p and at j exchanged, which goes on with the one at p
  pub record Exchanged : Type 0 where
    pub turned : List Var
    pub begins : BeginsAs d texts names it order k turned
    pub next : (x : Var) → get_or turned k x ≡ get_or order p x
    pub raised : AreRaised (get_or order p nobody) (get_or order j nobody) turned before

  pub exchange : length order < 10 → IsNumbering (forms_in it) order → BeginsAs d texts names it order k before → k ≤ p → p < j → j < length order → ((x : Var) → get_or before k x ≡ get_or order j x) →
      (get_or order p nobody).sort ≡ (get_or order j nobody).sort → Exchanged
  exchange small is b up low within next sort =
      let x = get_or order p nobody in
      let long : length before ≡ length order = same-length (forms_in it) before order b.numbering is in
      let t = stands-listed before x ((b.numbering.exact x).1 ((is.exact x).0 (contains-at order x p (omega arith) refl))) in
      let q = t.at in
      let high : q < length before = t.within in
      let inside : k < length before = omega (arith, long) in
      let apart : k ≢ q = λ e.
      let same = one-place order is.distinct p j (omega arith) within (sym t.is ∙ ap (λ m. get_or before m nobody) (sym e) ∙ next nobody) in
      omega (arith, same) in
      let behind : k < q = elim (cases_lt q k) [
        | inl l ↦
            let same = one-place order is.distinct p q (omega (arith, low, within)) (omega (arith, long, high)) (sym t.is ∙ b.alike q nobody l) in
            absurd (omega (arith, same, l, up))
        | inr h ↦ elim (cases_lt k q) [ inl l ↦ l | inr g ↦ absurd (apart (omega (arith, h, g))) ]
      ] in
      let ys = swap before k q in
      let s = swapped before k q apart inside high in
      let ylong : length ys ≡ length before = exchanged-length before ys k q inside high refl in
      let numbering = exchanged-numbering (forms_in it) before ys k q inside high refl b.numbering in
      record {
        turned = ys;
        begins = record {
          numbering = numbering;
          alike = λ m z l. s.elsewhere m z (λ e. omega (arith, e)) (λ e.
              let same = one-place order is.distinct p m (omega arith) (omega arith) (sym t.is ∙ ap (λ i. get_or before i nobody) (sym e) ∙ b.alike m nobody l) in
              omega (arith, same)) ∙ b.alike m z l;
        };
        next = λ z. get_or_default ys k z nobody (omega (arith, ylong)) ∙ s.at_first ∙ t.is ∙ get_or_default order p nobody z (omega arith);
        raised =
            let exchanged = numbers-exchanged x (get_or order j nobody) before ys k q b.numbering.distinct numbering.distinct ylong inside high s t.is (next nobody) sort in
            let first = number-at ys x numbering.distinct k (omega (arith, ylong, inside)) (s.at_first ∙ t.is) in
            let second = number-at ys (get_or order j nobody) numbering.distinct q (omega (arith, ylong, high)) (s.at_second ∙ next nobody) in
            record {
              exchanged = exchanged;
              some = omega (arith, first);
              lesser = omega (arith, first, second, behind);
              few = λ z. let w = number-within before z in omega (arith, w, long, small);
            };
      }
