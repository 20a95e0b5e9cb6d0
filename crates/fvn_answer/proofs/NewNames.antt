-- The names of new variables.
use Rattle.std.proofs.Common.{◌≡◌, ◌≢◌, ℕ, ◌+◌, ◌<◌, ◌≤◌, ◌^◌, inl, Bool, true, false, List, [], ◌∷◌, ◌++◌, length, get_or, drop, Option, Some, None, refl, sym, ap, ◌∙◌, subst, arith}
use Rattle.std.specs.Prelude.{◌&&◌, IsTrue, Contains, decimal, unwrap_or, codes}
use Rattle.std.specs.List.{position_from}
use Rattle.std.specs.Str.Parse.{AllDigits}
use Rattle.std.proofs.lemmas.Bool.{lt-ltb}
use Rattle.std.proofs.lemmas.Bool.Decides.{nat_tests}
use Rattle.std.proofs.lemmas.Fmt.{decimal_injective, decimal_is_IsNumeral}
use Rattle.std.proofs.lemmas.Str.Parse.{digit_from_value}
use Rattle.fvn_lex.specs.declared.token.Class.TheVariants.{Word}
use Rattle.fvn_lex.specs.Bytes.{is_printed, is_special, is_backquote, goes_on, begins_comment}
use Rattle.fvn_lex.specs.Join.{IsPiece}
use Rattle.fvn_lex.specs.Parts.{goes_through, class_of}
use Rattle.fvn_lex.proofs.JoinLemmas.{form-piece}
use Rattle.fvn_terms.specs.declared.plain.Var.{Var}
use Rattle.fvn_terms.specs.Substitution.{same_var}
use Rattle.fvn_terms.proofs.Variables.{same_var_is, same_var_itself}
use Rattle.fvn_syntax.specs.Pieces.{Text, word, is_reserved}
use Rattle.fvn_answer.specs.Numberings.{number, new_name}
use Rattle.fvn_answer.proofs.TextPlaces.{position-finds, position-some}

-- Numbers.

some-variable : Var
some-variable = record { name = 0; sort = record { 0 = 0 }; fresh = false }

-- where a listed variable stands
record StandsAt (order : List Var) (x : Var) : Type 0 where
  at : ℕ
  number_is : number order x ≡ 1 + at
  within : at < length order
  is : get_or order at some-variable ≡ x

stands-at : (order : List Var) (x : Var) → Contains order x → StandsAt order x
stands-at order x h =
    let s = position-some (λ y. same_var y x) 1 order x h (same_var_itself x) in
    let f = position-finds (λ y. same_var y x) 1 order some-variable s.0 s.1 in
    record {
      at = f.at;
      number_is = ap (λ o. unwrap_or o 0) s.1 ∙ f.is;
      within = f.within;
      is = same_var_is (get_or order f.at some-variable) x f.passes;
    }

number-injective : (order : List Var) (x y : Var) → Contains order x → Contains order y → number order x ≡ number order y → x ≡ y
number-injective order x y h k e =
    let a = stands-at order x h in
    let b = stands-at order y k in
    let same : a.at ≡ b.at = omega (arith, a.number_is, b.number_is, e) in
    sym a.is ∙ ap (λ i. get_or order i some-variable) same ∙ b.is

number-small : (order : List Var) (x : Var) → length order < 2 ^ 64 → number order x < 2 ^ 64
number-small order x few = go (position_from (λ y. same_var y x) 1 order) refl where
  go : (o : Option ℕ) → position_from (λ y. same_var y x) 1 order ≡ o → unwrap_or o 0 < 2 ^ 64
  go None e = omega arith
  go (Some i) e =
      let f = position-finds (λ y. same_var y x) 1 order some-variable i e in
      let l = f.within in
      let i_is = f.is in
      omega arith

-- different variables have different new names
pub new_name-injective : (order : List Var) → length order < 2 ^ 64 → (x y : Var) → Contains order x → Contains order y → new_name order x ≡ new_name order y → x ≡ y
new_name-injective order few x y h k e =
    number-injective order x y h k
    (decimal_injective (number order x) (number order y) (number-small order x few) (number-small order y few) (ap (drop 1) e))

pub new_name-reserved : (order : List Var) (x : Var) → is_reserved (new_name order x) ≡ true
new_name-reserved order x = rw (lt-ltb 0 (length (new_name order x)) (omega arith)) refl

pub new_name-some : (order : List Var) (x : Var) → new_name order x ≢ []
new_name-some order x e = let f : 35 ∷ decimal (number order x) ≡ [] = e in cc

-- Tokens.

digit-goes : (c : ℕ) → 48 ≤ c → c ≤ 57 → goes_on false c ≡ true
unfolding goes_on is_printed is_special
digit-goes c low high = grind (arith, nat_tests)

digit-quotes : (c : ℕ) → c ≤ 57 → is_backquote c ≡ false
digit-quotes c high = grind (arith, nat_tests)

both-true : (a b : Bool) → a ≡ true → b ≡ true → (a && b) ≡ true
both-true a b e f = rw (e, f) refl

digits-go : (ds rest : Text) → AllDigits 10 ds → goes_through false rest ≡ true → goes_through false (ds ++ rest) ≡ true
digits-go [] rest h g = g
digits-go (c ∷ ds) rest h g =
    let range = digit_from_value c h.0 in
    both-true (goes_on false c) (goes_through (is_backquote c) (ds ++ rest))
    (digit-goes c (omega (arith, range)) (omega (arith, range)))
    (subst (λ q. goes_through q (ds ++ rest) ≡ true) (sym (digit-quotes c (omega (arith, range)))) (digits-go ds rest h.1 g))

-- a colon and what goes on as a word, behind the name, make a word
abbrev pub IsNaming : Text → Type 0
IsNaming x = (more : Text) → IsTrue (goes_through false more) → IsPiece (word (x ++ (codes ":" ++ more)))

hash-goes : (rest : Text) → goes_through false rest ≡ true → goes_through false (35 ∷ rest) ≡ true
unfolding goes_on is_printed is_special
hash-goes rest g = g

colon-goes : (rest : Text) → goes_through false rest ≡ true → goes_through false (58 ∷ rest) ≡ true
unfolding goes_on is_printed is_special
colon-goes rest g = g

hash-comment : (rest : Text) → begins_comment (35 ∷ rest) ≡ false
unfolding begins_comment
hash-comment rest = refl

hash-class : (rest : Text) → class_of (35 ∷ rest) ≡ Word
hash-class [] = refl
hash-class (b ∷ rest) = refl

pub numeral-naming : (n : ℕ) → n < 2 ^ 64 → IsNaming (35 ∷ decimal n)
numeral-naming n small more g = form-piece (word (35 ∷ (decimal n ++ 58 ∷ more))) (inl (record {
  some = λ e. (let f : 35 ∷ (decimal n ++ 58 ∷ more) ≡ [] = e in cc);
  printed = hash-goes (decimal n ++ 58 ∷ more) (digits-go (decimal n) (58 ∷ more) (decimal_is_IsNumeral n small).0.1 (colon-goes more g));
  no_comment = hash-comment (decimal n ++ 58 ∷ more);
  class = sym (hash-class (decimal n ++ 58 ∷ more));
}))

pub new_name-naming : (order : List Var) → length order < 2 ^ 64 → (x : Var) → IsNaming (new_name order x)
new_name-naming order few x = numeral-naming (number order x) (number-small order x few)
