-- Rows are cut where the terms and pairs with which they begin end.
use Rattle.std.proofs.Common.{◌≡◌, List, [], ◌∷◌, ◌++◌, map, refl, sym, ap, ◌∙◌}
use Rattle.std.specs.List.{AllByRecursion}
use Rattle.std.proofs.lemmas.List.{append-nil, map-append}
use Rattle.fvn_lex.specs.Cut.{Piece}
use Rattle.fvn_syntax.specs.Pieces.{Text, word}
use Rattle.fvn_syntax.specs.Raw.{spell, BeginsWithNoTerm}
use Rattle.fvn_syntax.proofs.SpelledOnce.{tail, once, ends-before}
use Rattle.fvn_problems.specs.declared.split.Halves.{Halves}
use Rattle.fvn_problems.specs.Spelling.{RawPair, spell_pair, spell_further, IsWrittenPair}
use Rattle.fvn_problems.specs.inner.Split.{BeginsNotWith, IsBetween, Closes, IsTermSplit, halves_of, IsPairSplit, BeginsWithNoPair, IsFront, Decides, ArePairsSplit, BeginsWithNoPairs}
use Rattle.fvn_problems.proofs.Spelled.{pair-rest, pair-once, further-ends, further-rest}

abbrev pub halves : List Piece → List Piece → Halves
halves l r = record { left = l; right = r }

module _ (between : Text) (row l first : List Piece) (a : IsTermSplit row l first) where
  row-second : (second : List Piece) → first ≡ word between ∷ second → row ≡ spell a.term ++ (word between ∷ second)
  row-second second e = a.spelled ∙ ap (λ x. spell a.term ++ x) e

  pub pair-split : (second r rest : List Piece) → first ≡ word between ∷ second → IsTermSplit second r rest → IsPairSplit between row (halves l r) rest
  pair-split second r rest e b =
      let raw : RawPair = record { left = a.term; right = b.term } in
      record {
        raw = raw;
        written = (a.written, b.written);
        ends = b.ends;
        halves = ap (λ x. halves x r) a.front_is ∙ ap (halves (spell a.term)) b.front_is;
        spelled = row-second second e ∙ ap (λ x. spell a.term ++ (word between ∷ x)) b.spelled ∙ sym (pair-rest between raw rest);
      }

  -- what any pair says of the first term
  same-first : (p : RawPair) (s : List Piece) → IsWrittenPair p → row ≡ spell_pair between p ++ s → first ≡ word between ∷ (spell p.right ++ s)
  same-first p s w e =
      let g = once a.term p.left first (word between ∷ (spell p.right ++ s)) a.written w.0 a.ends (ends-before (word between) (spell p.right ++ s) refl refl p.left) (sym a.spelled ∙ e ∙ pair-rest between p s) in
      g.1

  pub no-word : BeginsNotWith (word between) first → BeginsWithNoPair between row
  no-word n p s w e h = n (spell p.right ++ s) (same-first p s w h)

  pub no-right : (second : List Piece) → first ≡ word between ∷ second → BeginsWithNoTerm second → BeginsWithNoPair between row
  no-right second is n p s w e h =
      let g : second ≡ spell p.right ++ s = tail (sym is ∙ same-first p s w h) in
      n s (record { term = p.right; written = w.1; ends = e; spelled = g })

pub no-left : (between : Text) (row : List Piece) → BeginsWithNoTerm row → BeginsWithNoPair between row
no-left between row n p s w e h =
    n (word between ∷ (spell p.right ++ s))
    (record { term = p.left; written = w.0; ends = ends-before (word between) (spell p.right ++ s) refl refl p.left; spelled = h ∙ pair-rest between p s })

all-more : {A : Type 0} (P : A → Type 0) (xs : List A) (x : A) → AllByRecursion P xs → P x → AllByRecursion P (xs ++ (x ∷ []))
all-more P [] x a b = (b, tt)
all-more P (y ∷ ys) x a b = (a.0, all-more P ys x a.1 b)

module _ (between : Text) (separator : Piece) (is : IsBetween separator) where
  further-more : (ps : List RawPair) (p : RawPair) (r : List Piece) →
      spell_further between separator (ps ++ (p ∷ [])) ++ r ≡ spell_further between separator ps ++ (separator ∷ (spell_pair between p ++ r))
  further-more [] p r = ap (λ x. separator ∷ x) (ap (λ x. x ++ r) (append-nil (spell_pair between p)))
  further-more (q ∷ qs) p r =
      ap (λ x. separator ∷ x)
      (further-rest between separator is q (qs ++ (p ∷ [])) r
      ∙ ap (λ x. spell_pair between q ++ x) (further-more qs p r)
      ∙ sym (further-rest between separator is q qs (separator ∷ (spell_pair between p ++ r))))

  module _ (row : List Piece) where
    pub front-first : (h : Halves) (rest : List Piece) → IsPairSplit between row h rest → IsFront between separator row (h ∷ []) rest
    front-first h rest a = record {
      first = a.raw;
      others = [];
      written = (a.written, tt);
      halves = ap (λ x. x ∷ []) a.halves;
      spelled = a.spelled ∙ ap (λ x. x ++ rest) (sym (append-nil (spell_pair between a.raw)));
    }

    pub decides-first : (h : Halves) (rest : List Piece) → IsPairSplit between row h rest → Decides between separator row rest
    decides-first h rest a end b =
        let g = pair-once between a.raw b.first rest (spell_further between separator b.others ++ end) a.written b.written.0 a.ends
        (further-ends between separator is b.others end b.closes b.first.right) (sym a.spelled ∙ b.spelled ∙ further-rest between separator is b.first b.others end) in
        (b.others, (b.written.1, g.1))

    pub front-next : (list : List Halves) (rest more : List Piece) (h : Halves) (after : List Piece) → IsFront between separator row list rest → rest ≡ separator ∷ more →
        IsPairSplit between more h after → IsFront between separator row (list ++ (h ∷ [])) after
    front-next list rest more h after f e a =
        record {
          first = f.first;
          others = f.others ++ (a.raw ∷ []);
          written = (f.written.0, all-more IsWrittenPair f.others a.raw f.written.1 a.written);
          halves = ap (λ x. x ++ (h ∷ [])) f.halves ∙ ap (λ x. map halves_of (f.first ∷ f.others) ++ (x ∷ [])) a.halves ∙ sym (map-append halves_of (f.first ∷ f.others) (a.raw ∷ []));
          spelled =
              f.spelled ∙ further-rest between separator is f.first f.others rest
              ∙ ap (λ x. spell_pair between f.first ++ (spell_further between separator f.others ++ x)) (e ∙ ap (λ x. separator ∷ x) a.spelled)
              ∙ ap (λ x. spell_pair between f.first ++ x) (sym (further-more f.others a.raw after))
              ∙ sym (further-rest between separator is f.first (f.others ++ (a.raw ∷ [])) after);
        }

    -- a further pair, where a separator follows
    one-more : (rest more end : List Piece) → Closes separator end → rest ≡ separator ∷ more → (ps : List RawPair) → AllByRecursion IsWrittenPair ps →
        rest ≡ spell_further between separator ps ++ end →
        (p : RawPair) × (qs : List RawPair) × IsWrittenPair p × AllByRecursion IsWrittenPair qs × (more ≡ spell_pair between p ++ (spell_further between separator qs ++ end))
    one-more rest more end c e [] w h = absurd (c.last more (sym h ∙ e))
    one-more rest more end c e (p ∷ ps) w h = (p, ps, w.0, w.1, tail (sym e ∙ h) ∙ further-rest between separator is p ps end)

    pub decides-next : (rest more : List Piece) (h : Halves) (after : List Piece) → Decides between separator row rest → rest ≡ separator ∷ more → IsPairSplit between more h after → Decides between separator row after
    decides-next rest more h after d e a end b =
        let k = d end b in
        let m = one-more rest more end b.closes e k.0 k.1.0 k.1.1 in
        let g = pair-once between a.raw m.0 after (spell_further between separator m.1 ++ end) a.written m.2 a.ends
        (further-ends between separator is m.1 end b.closes m.0.right) (sym a.spelled ∙ m.4) in
        (m.1, (m.3, g.1))

    pub no-pair : BeginsWithNoPair between row → BeginsWithNoPairs between separator row
    no-pair n end b =
        n b.first (spell_further between separator b.others ++ end) b.written.0 (further-ends between separator is b.others end b.closes b.first.right)
        (b.spelled ∙ further-rest between separator is b.first b.others end)

    pub no-more : (rest more : List Piece) → Decides between separator row rest → rest ≡ separator ∷ more → BeginsWithNoPair between more → BeginsWithNoPairs between separator row
    no-more rest more d e n end b =
        let k = d end b in
        let m = one-more rest more end b.closes e k.0 k.1.0 k.1.1 in
        n m.0 (spell_further between separator m.1 ++ end) m.2 (further-ends between separator is m.1 end b.closes m.0.right) m.4

    pub whole : (list : List Halves) (rest : List Piece) → IsFront between separator row list rest → Decides between separator row rest → BeginsNotWith separator rest → ArePairsSplit between separator row list rest
    whole list rest f d n = record { front = f; only = λ end b. let k = d end b in ended end k.0 k.1.1 } where
      ended : (end : List Piece) (ps : List RawPair) → rest ≡ spell_further between separator ps ++ end → rest ≡ end
      ended end [] h = h
      ended end (p ∷ ps) h = absurd (n ((spell_pair between p ++ spell_further between separator ps) ++ end) h)
