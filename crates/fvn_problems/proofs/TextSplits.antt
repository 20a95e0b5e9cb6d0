-- Term texts, problems and binding texts are cut into their terms.
use Rattle.std.proofs.Common.{◌≡◌, Bool, true, false, List, [], ◌∷◌, ◌++◌, length, map, refl, sym, ap, ◌∙◌, arith}
use Rattle.std.specs.Prelude.{◌==◌, codes}
use Rattle.std.specs.List.{AllByRecursion, list_all}
use Rattle.std.specs.Str.{bytes_eq}
use Rattle.std.proofs.lemmas.Bool.{eqb-true}
use Rattle.fvn_lex.specs.declared.token.Class.{Class}
use Rattle.fvn_lex.specs.declared.token.Class.TheVariants.{Word, Special, Dot}
use Rattle.fvn_lex.specs.Cut.{Piece}
use Rattle.fvn_syntax.specs.Pieces.{Text, dot, is_dot, is_dot_class, left_brace, right_brace, comma}
use Rattle.fvn_syntax.specs.Raw.{RawTerm, name, call, round, kind_variable, spell, BeginsWithNoTerm}
use Rattle.fvn_syntax.proofs.PieceLemmas.{and-left, and-right, bytes_eq-is}
use Rattle.fvn_syntax.proofs.SpelledOnce.{tail, once}
use Rattle.fvn_problems.specs.declared.split.Halves.{Halves}
use Rattle.fvn_problems.specs.Spelling.{RawQuery, RawPair, RawProblem, ending, equals, conjunction, goes_to, spell_pairs, IsWrittenPair, IsAlone, IsWrittenBinding}
use Rattle.fvn_problems.specs.inner.Split.{is_full_stop, is_end, is_alone, IsTermSplit, halves_of, ArePairsBefore, ArePairsSplit, BeginsWithNoPairs, IsQueryRow, IsQuerySplit, IsProblemRow, IsProblemSplit, IsBindingRow, IsBindingSplit}
use Rattle.fvn_problems.proofs.Spelled.{ending-closes, brace-closes, comma-between, pairs-once, pairs-written}

abbrev piece : Class → Text → Piece
piece k u = record { class = k; text = u }

dot-class : (k : Class) (u : Text) → is_dot_class k ≡ true → piece k u ≡ piece Dot u
dot-class Word u h = cc
dot-class Special u h = cc
dot-class Dot u h = refl

stop-is : (p : Piece) → is_full_stop p ≡ true → p ≡ dot
stop-is p h =
    let e = dot-class p.class p.text (and-left (is_dot p) (bytes_eq p.text (codes ".")) h) in
    let f : p.text ≡ codes "." = bytes_eq-is p.text (codes ".") (and-right (is_dot p) (bytes_eq p.text (codes ".")) h) in
    e ∙ ap (piece Dot) f

-- an end is that of a text with or without a dot
pub end-ending : (ps : List Piece) → is_end ps ≡ true → (dotted : Bool) × (ps ≡ ending dotted)
end-ending [] h = (false, refl)
end-ending (p ∷ []) h = (true, ap (λ q. q ∷ []) (stop-is p h))
end-ending (p ∷ q ∷ ps) h =
    let k = eqb-true (length (q ∷ ps)) 0 (and-left (length (q ∷ ps) == 0) (is_full_stop p) h) in
    absurd (omega (arith, k))

ending-end : (dotted : Bool) → is_end (ending dotted) ≡ true
ending-end false = refl
ending-end true = refl

no-end : (rest : List Piece) (dotted : Bool) → is_end rest ≡ false → rest ≡ ending dotted → ⊥
no-end rest dotted n e = (let f : true ≡ false = sym (ending-end dotted) ∙ ap is_end (sym e) ∙ n in cc)

module _ (row front rest : List Piece) (a : IsTermSplit row front rest) where
  pub query-split : is_end rest ≡ true → IsQuerySplit row front
  query-split h =
      let e = end-ending rest h in
      record {
        raw = record { term = a.term; dotted = e.0 };
        is = record { written = a.written; spelled = a.spelled ∙ ap (λ x. spell a.term ++ x) e.1 };
        front_is = a.front_is;
      }

  pub query-no-end : is_end rest ≡ false → (q : RawQuery) → IsQueryRow row q → ⊥
  query-no-end n q h =
      let g = once a.term q.term rest (ending q.dotted) a.written h.written a.ends ((ending-closes q.dotted).ends q.term) (sym a.spelled ∙ h.spelled) in
      no-end rest q.dotted n g.1

pub query-no-term : (row : List Piece) → BeginsWithNoTerm row → (q : RawQuery) → IsQueryRow row q → ⊥
query-no-term row n q h = n (ending q.dotted) (record { term = q.term; written = h.written; ends = (ending-closes q.dotted).ends q.term; spelled = h.spelled })

pairs-before : (row : List Piece) (p : RawProblem) → IsProblemRow row p → ArePairsBefore equals conjunction row (ending p.dotted)
pairs-before row p h = record { first = p.first; others = p.others; written = h.written; closes = ending-closes p.dotted; spelled = h.spelled }

pub problem-no-pairs : (row : List Piece) → BeginsWithNoPairs equals conjunction row → (p : RawProblem) → IsProblemRow row p → ⊥
problem-no-pairs row n p h = n (ending p.dotted) (pairs-before row p h)

module _ (row : List Piece) (list : List Halves) (rest : List Piece) (a : ArePairsSplit equals conjunction row list rest) where
  pub problem-split : is_end rest ≡ true → IsProblemSplit row list
  problem-split h =
      let e = end-ending rest h in
      record {
        raw = record { first = a.front.first; others = a.front.others; dotted = e.0 };
        is = record { written = a.front.written; spelled = a.front.spelled ∙ ap (λ x. spell_pairs equals conjunction (a.front.first ∷ a.front.others) ++ x) e.1 };
        halves = a.front.halves;
      }

  pub problem-no-end : is_end rest ≡ false → (p : RawProblem) → IsProblemRow row p → ⊥
  problem-no-end n p h = no-end rest p.dotted n (a.only (ending p.dotted) (pairs-before row p h))

alone-is : (t : RawTerm) → is_alone (spell t) ≡ true → IsAlone t
alone-is (name w) h = tt
alone-is (call w ts) h = (let f : false ≡ true = h in cc)
alone-is (round t) h = (let f : false ≡ true = h in cc)
alone-is (kind_variable x s ss) h = tt

is-alone : (t : RawTerm) → IsAlone t → is_alone (spell t) ≡ true
is-alone (name w) h = refl
is-alone (call w ts) h = absurd h
is-alone (round t) h = absurd h
is-alone (kind_variable x s ss) h = refl

abbrev alone : Halves → Bool
alone h = is_alone h.left

all-alone : (raws : List RawPair) → AllByRecursion IsWrittenPair raws → list_all alone (map halves_of raws) ≡ true → AllByRecursion IsWrittenBinding raws
all-alone [] w h = tt
all-alone (r ∷ rs) w h =
    ((alone-is r.left (and-left (is_alone (spell r.left)) (list_all alone (map halves_of rs)) h), w.0), all-alone rs w.1 (and-right (is_alone (spell r.left)) (list_all alone (map halves_of rs)) h))

alone-all : (raws : List RawPair) → AllByRecursion IsWrittenBinding raws → list_all alone (map halves_of raws) ≡ true
alone-all [] w = refl
alone-all (r ∷ rs) w = rw (is-alone r.left (w.0).0, alone-all rs w.1) refl

module _ (row inner : List Piece) where
  -- the row without its brace that opens
  inner-is : row ≡ left_brace ∷ inner → (bs : List RawPair) → IsBindingRow row bs → inner ≡ spell_pairs goes_to comma bs ++ (right_brace ∷ [])
  inner-is e bs h = tail (sym e ∙ h.spelled)

  pub bindings-none : row ≡ left_brace ∷ inner → inner ≡ right_brace ∷ [] → IsBindingSplit row []
  bindings-none e f = record { raw = []; is = record { written = tt; spelled = e ∙ ap (λ x. left_brace ∷ x) f }; halves = refl }

  module _ (e : row ≡ left_brace ∷ inner) (some : inner ≡ right_brace ∷ [] → ⊥) where
    -- bindings as pairs before the brace that closes
    before : (bs : List RawPair) → IsBindingRow row bs → ArePairsBefore goes_to comma inner (right_brace ∷ [])
    before [] h = absurd (some (inner-is e [] h))
    before (b ∷ bs) h = record { first = b; others = bs; written = pairs-written (b ∷ bs) h.written; closes = brace-closes; spelled = inner-is e (b ∷ bs) h }

    pub bindings-no-pairs : BeginsWithNoPairs goes_to comma inner → (bs : List RawPair) → IsBindingRow row bs → ⊥
    bindings-no-pairs n bs h = n (right_brace ∷ []) (before bs h)

    module _ (list : List Halves) (after : List Piece) (a : ArePairsSplit goes_to comma inner list after) where
      pub bindings-not-closed : (after ≡ right_brace ∷ [] → ⊥) → (bs : List RawPair) → IsBindingRow row bs → ⊥
      bindings-not-closed n bs h = n (a.only (right_brace ∷ []) (before bs h))

      abbrev raws : List RawPair
      raws = a.front.first ∷ a.front.others

      same-raws : after ≡ right_brace ∷ [] → (bs : List RawPair) → IsBindingRow row bs → raws ≡ bs
      same-raws c [] h = absurd (some (inner-is e [] h))
      same-raws c (b ∷ bs) h =
          (pairs-once goes_to comma comma-between a.front.first b a.front.others bs (right_brace ∷ []) (right_brace ∷ []) a.front.written (pairs-written (b ∷ bs) h.written) brace-closes brace-closes
          (ap (λ x. spell_pairs goes_to comma raws ++ x) (sym c) ∙ sym a.front.spelled ∙ inner-is e (b ∷ bs) h)).0

      pub bindings-not-alone : after ≡ right_brace ∷ [] → list_all alone list ≡ false → (bs : List RawPair) → IsBindingRow row bs → ⊥
      bindings-not-alone c n bs h =
          let s = same-raws c bs h in
          let t : list_all alone list ≡ true = ap (list_all alone) a.front.halves ∙ ap (λ x. list_all alone (map halves_of x)) s ∙ alone-all bs h.written in
          let f : true ≡ false = sym t ∙ n in
          cc

      pub bindings-split : after ≡ right_brace ∷ [] → list_all alone list ≡ true → IsBindingSplit row list
      bindings-split c h = record {
        raw = raws;
        is = record {
          written = all-alone raws a.front.written (ap (list_all alone) (sym a.front.halves) ∙ h);
          spelled = e ∙ ap (λ x. left_brace ∷ x) (a.front.spelled ∙ ap (λ x. spell_pairs goes_to comma raws ++ x) c);
        };
        halves = a.front.halves;
      }
