-- Written variables are read as these variables.
use Rattle.std.proofs.Common.{◌≡◌, ◌≢◌, ℕ, suc, ◌+◌, ◌<◌, ◌≤◌, Bool, true, false, List, [], ◌∷◌, ◌++◌, length, drop, get_or, Option, Some, None, Ok, refl, sym, ap, ◌∙◌, subst, arith}
use Rattle.std.specs.Prelude.{nat_lt, ◌==◌, slice_get}
use Rattle.std.proofs.lemmas.Bool.{eqb-true, ne_eqb, ltb-true}
use Rattle.std.proofs.Math.Seq.{take-append_seam}
use Rattle.fvn_terms.specs.declared.plain.SortId.{SortId}
use Rattle.fvn_terms.specs.declared.declarations.Declarations.{Declarations}
use Rattle.fvn_terms.specs.Signature.{kind, IsSort}
use Rattle.fvn_signature.specs.Queries.{IsKind, IsMaximalOf}
use Rattle.fvn_syntax.specs.declared.names.Names.{Names}
use Rattle.std.specs.Str.{bytes_eq}
use Rattle.fvn_syntax.proofs.PieceLemmas.{bytes_eq-is}
use Rattle.fvn_syntax.specs.declared.naming.Meaning.TheVariants.{Variable}
use Rattle.fvn_syntax.specs.Names.{last_colon, op_at, sort_named, split_at, sorted_name, arity_of, if_constant, constant_named, resolve_name, bracket}
use Rattle.fvn_syntax.specs.Pieces.{Text}
use Rattle.fvn_syntax.specs.Scope.{Scope}
use Rattle.fvn_syntax.specs.Texts.{place}
use Rattle.fvn_syntax.specs.Resolve.{the_variable, resolve_meaning, resolve}
use Rattle.fvn_problems.specs.Scopes.{unguarded}
use Rattle.fvn_problems.specs.Bindings.{variable_of, written_variable}
use Rattle.fvn_answer.specs.Denoting.{without_variables}
use Rattle.fvn_answer.specs.Writing.{top, sort_text, sorted}
use Rattle.fvn_answer.specs.inner.Readable.{AreReadable}
use Rattle.fvn_answer.proofs.Lists.{got-some}
use Rattle.fvn_answer.proofs.TextPlaces.{position-finds, place-distinct}
use Rattle.fvn_answer.proofs.Tokens.{is-kind, without_last-colon}

some-none : {A : Type 0} {x : A} → Some x ≡ None → ⊥
some-none e = cc

-- The colon between a name and a sort is the last one.

pub colon-between : (x st : Text) → last_colon st ≡ None → last_colon (x ++ 58 ∷ st) ≡ Some (length x)
colon-between [] st none = rw none refl
colon-between (b ∷ x) st none = rw (colon-between x st none) (let same : length x + 1 ≡ length (b ∷ x) = omega arith in ap Some same)

not-zero : (n : ℕ) → 1 ≤ n → (n == 0) ≡ false
not-zero n h = ne_eqb n 0 (λ e. omega (arith, e, h))

some-length : (x : Text) → x ≢ [] → 1 ≤ length x
some-length [] h = absurd (h refl)
some-length (b ∷ x) h = omega arith

drop-more : (x : Text) (b : ℕ) (st : Text) → drop (suc (length x)) (x ++ b ∷ st) ≡ st
drop-more [] b st = refl
drop-more (a ∷ x) b st = drop-more x b st

drop-behind : (x : Text) (b : ℕ) (st : Text) → drop (length x + 1) (x ++ b ∷ st) ≡ st
drop-behind x b st = ap (λ n. drop n (x ++ b ∷ st)) (let same : length x + 1 ≡ suc (length x) = omega arith in same) ∙ drop-more x b st

-- NAME:SORT is split at this colon
pub split-between : (sorts : List Text) (x st : Text) (s : SortId) → x ≢ [] → last_colon st ≡ None → sort_named sorts st ≡ Some s →
    sorted_name sorts (x ++ 58 ∷ st) ≡ Some (x, s)
split-between sorts x st s some none named =
    ap (split_at sorts (x ++ 58 ∷ st)) (colon-between x st none)
    ∙ rw (not-zero (length x) (some-length x some), take-append_seam x (58 ∷ st), drop-behind x 58 st, named) refl

zero-is : (n : ℕ) → (n == 0) ≡ true → n ≡ 0
zero-is n e = eqb-true n 0 e

module _ (d : Declarations) (names : Names) (readable : AreReadable d names) (tops : (k : SortId) → IsKind d k → IsMaximalOf d k (top d k)) where
  abbrev pub read_in_names : Scope
  read_in_names = unguarded d (without_variables names)

  sort-place : (s : SortId) → s.0 < d.sorts → sort_named names.sorts (sort_text d names s) ≡ Some s
  sort-place s low = rw (place-distinct names.sorts s.0 readable.distinct_sorts (omega (arith, readable.sort_names))) refl

  no-colon : (s : SortId) → s.0 < d.sorts → last_colon (sort_text d names s) ≡ None
  no-colon s low = readable.no_colons s.0 [] (omega (arith, readable.sort_names))

  -- the operator at a place has this name
  op-at : (w : Text) (i : ℕ) → place names.ops w ≡ Some i → slice_get names.ops i ≡ Some w
  op-at w i e =
      let f = position-finds (λ t. bytes_eq w t) 0 names.ops w i e in
      let here : i ≡ f.at = omega (arith, f.is) in
      subst (λ j. slice_get names.ops j ≡ Some w) (sym here)
      (got-some names.ops f.at w f.within ∙ ap Some (sym (bytes_eq-is w (get_or names.ops f.at w) f.passes)))

  -- NAME:SORT is no constant
  no-constant : (w : Text) (x : Text) (s : SortId) → sorted_name names.sorts w ≡ Some (x, s) → constant_named d names w ≡ None
  no-constant w x s e = go (place names.ops w) refl
    where
      go : (o : Option ℕ) → place names.ops w ≡ o → if_constant d (op_at o) ≡ None
      go None p = refl
      go (Some i) p = next (arity_of d (record { 0 = i }) == 0) refl
        where
          next : (b : Bool) → (arity_of d (record { 0 = i }) == 0) ≡ b → if_constant d (op_at (Some i)) ≡ None
          next false q = rw q refl
          next true q =
              let n = readable.constants (record { 0 = i }) w (op-at w i p) (zero-is (arity_of d (record { 0 = i })) q) in
              absurd (some-none (sym e ∙ n))

  -- what a variable of a declared sort is read as
  declared-meaning : (x : Text) (s : SortId) → x ≢ [] → s.0 < d.sorts → resolve_name d (without_variables names) (x ++ 58 ∷ sort_text d names s) ≡ Some (Variable x s)
  declared-meaning x s some low =
      let split = split-between names.sorts x (sort_text d names s) s some (no-colon s low) (sort-place s low) in
      rw (no-constant (x ++ 58 ∷ sort_text d names s) x s split, split) refl

  -- what the bracket of a kind stands for
  kind-meaning : (s : SortId) → IsKind d s → bracket names.sorts d.kinds (sort_text d names (top d s)) [] ≡ Some s
  kind-meaning s is =
      let t = tops s is in
      rw (sort-place (top d s) t.declared) (ap Some t.of_kind)

  -- the variable that is written
  pub variable-read : (x : Text) (s : SortId) → x ≢ [] → IsSort d s → written_variable read_in_names (sorted d names x s) ≡ Some (x, s)
  variable-read x s some is = go (nat_lt s.0 d.sorts) refl
    where
      go : (b : Bool) → nat_lt s.0 d.sorts ≡ b → written_variable read_in_names (sorted d names x s) ≡ Some (x, s)
      go true e = rw e (ap variable_of (declared-meaning x s some (ltb-true s.0 d.sorts e)))
      go false e = rw (e, kind-meaning s (is-kind d names readable tops s is e), without_last-colon x) refl

  -- its term
  pub variable-stands : (x : Text) (s : SortId) → x ≢ [] → IsSort d s → (before : List Text) →
      resolve read_in_names before (sorted d names x s) ≡ Ok (the_variable before x s (kind d s))
  variable-stands x s some is before = go (nat_lt s.0 d.sorts) refl
    where
      go : (b : Bool) → nat_lt s.0 d.sorts ≡ b → resolve read_in_names before (sorted d names x s) ≡ Ok (the_variable before x s (kind d s))
      go true e = rw e (ap (resolve_meaning read_in_names before) (declared-meaning x s some (ltb-true s.0 d.sorts e)))
      go false e = rw (e, kind-meaning s (is-kind d names readable tops s is e), without_last-colon x) refl
