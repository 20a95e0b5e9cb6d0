-- The search for the least text.
use Rattle.std.proofs.Common.{◌≡◌, ℕ, Bool, true, false, ◌+◌, ◌<◌, ◌≤◌, inl, inr, List, length, get_or, Option, Some, None, refl, sym, ap, ◌∙◌, subst, arith}
use Rattle.std.specs.Global.{Vec}
use Rattle.std.specs.Prelude.{Contains}
use Rattle.std.specs.List.{SwappedAt, swap}
use Rattle.std.proofs.lemmas.List.{get_or_default}
use Rattle.std.proofs.lemmas.List.Elements.{Contains-get_or}
use Rattle.std.proofs.lemmas.Bool.{cases_lt}
use Rattle.fvn_flat.specs.Variables.{listed}
use Rattle.fvn_answer.specs.declared.front.Front.{Front}
use Rattle.fvn_answer.specs.declared.printed.Printed.{Printed}
use Rattle.fvn_answer.specs.inner.Readable.{AreReadable}
use Rattle.fvn_answer.specs.inner.Fronts.{AtLeast, NoneIsNext, IsFrontOf, AgreesUpTo, IsAtMost, IsKept}
use Rattle.fvn_answer.specs.inner.Twins.{AreRaised, GoesFirst, IsPassedOver, LeadsUpTo}
use Rattle.fvn_terms.specs.declared.plain.Var.{Var}
use Rattle.fvn_terms.specs.declared.declarations.Declarations.{Declarations}
use Rattle.fvn_syntax.specs.declared.names.Names.{Names}
use Rattle.fvn_syntax.specs.Pieces.{Text}
use Rattle.fvn_answer.specs.Numberings.{IsNumbering}
use Rattle.fvn_answer.specs.Lines.{Shown, forms_in, text}
use Rattle.fvn_answer.specs.inner.Shown.{shown, CanPrint, BeginsAs, Tried, IsBestText, IsLeastText, IsSearched, AreSearched}
use Rattle.fvn_answer.proofs.Fronts.{at_least-itself, at_least-trans, front-after}
use Rattle.fvn_answer.proofs.Collecting.{listed-only, not-listed}
use Rattle.fvn_answer.proofs.Numbers.{nobody, stands-numbered, next-place, nothing-else, agrees, next-begins}
use Rattle.fvn_answer.proofs.Exchanging.{exchange}
use Rattle.fvn_answer.proofs.Least.{same-length, exchanged-numbering}

pub most-after : (best : Option (Vec ℕ)) (v w : Text) → IsAtMost best v → AtLeast v w → IsAtMost best w
most-after None v w h k = h
most-after (Some line) v w h k = at_least-trans line.items v w h k

pub kept-old : (old : Option (Vec ℕ)) (w : Text) → IsAtMost old w → IsKept old w old
kept-old old w h = record { which = inl refl; most = h; keeps = λ u k. k }

pub kept-new : (old : Option (Vec ℕ)) (line : Vec ℕ) → ((u : Text) → IsAtMost old u → AtLeast line.items u) → IsKept old line.items (Some line)
kept-new old line h = record { which = inr (line, refl, refl); most = at_least-itself line.items; keeps = h }

module _ (d : Declarations) (texts : List Text) (names : Names) (it : Shown) where
  kept-text : (order : List Var) (old new : Option (Vec ℕ)) (w : Text) → IsNumbering (forms_in it) order → w ≡ text d names texts order it → IsBestText d texts names it old →
      IsKept old w new → IsBestText d texts names it new
  kept-text order old new w n is h k = elim k.which [
    | inl e ↦ subst (IsBestText d texts names it) (sym e) h
    | inr s ↦ subst (IsBestText d texts names it) (sym s.1) (record { order = order; numbering = n; text_is = s.2 ∙ is })
  ]

  -- there is one numbering
  pub searched-one : (order : List Var) (k : ℕ) (old new : Option (Vec ℕ)) (w : Text) → length order ≤ k + 1 → IsNumbering (forms_in it) order → w ≡ text d names texts order it →
      IsBestText d texts names it old → IsKept old w new → IsSearched d texts names it order k old new
  searched-one order k old new w short n is h kept = record {
    one = kept-text order old new w n is h kept;
    keeps = kept.keeps;
    most = λ other b. subst (IsAtMost new) (is ∙ ap (λ o. text d names texts o it) (sym (nothing-else d texts names it order other k short n b))) kept.most;
  }

  -- What has been searched, in a turn of the loop.
  pub record SearchedUpTo (order : List Var) (k j : ℕ) (tips : List Var) (old best : Option (Vec ℕ)) : Type 0 where
    pub up : k ≤ j
    pub one : IsBestText d texts names it best
    pub keeps : (u : Text) → IsAtMost old u → IsAtMost best u
    pub tried : (other : List Var) → Tried d texts names it order k j tips other → IsAtMost best (text d names texts other it)

  -- the variable at j has been tried
  pub searched-tip : (order next tips : List Var) (k j : ℕ) (old best new : Option (Vec ℕ)) → SwappedAt order next k j → SearchedUpTo order k j tips old best →
      IsSearched d texts names it next (k + 1) best new → SearchedUpTo order k (j + 1) tips old new
  searched-tip order next tips k j old best new move s r =
      let up = s.up in record {
        up = omega arith;
        one = r.one;
        keeps = λ u h. r.keeps u (s.keeps u h);
        tried = λ other t. elim (cases_lt t.place j) [
          | inl below ↦ r.keeps (text d names texts other it) (s.tried other (record { begins = t.begins; place = t.place; from = t.from; upto = below; next = t.next; tip = t.tip }))
          | inr high ↦
              let last = t.upto in
              let at : t.place ≡ j = omega arith in
              r.most other (next-begins d texts names it order next other k j up move t.begins (λ x. subst (λ p. get_or other k x ≡ get_or order p x) at (t.next x)))
        ];
      }

  raised-most : (printed : Printed) → it ≡ shown printed → AreReadable d names → CanPrint d texts printed → (best : Option (Vec ℕ)) (x y : Var) (one two : List Var) → GoesFirst d printed x y →
      AreRaised x y one two → IsAtMost best (text d names texts one it) → IsAtMost best (text d names texts two it)
  raised-most printed is readable can best x y one two first e h =
      most-after best (text d names texts one it) (text d names texts two it) h
      (subst (λ shown. AtLeast (text d names texts one shown) (text d names texts two shown)) (sym is) (first.least names texts readable can one two e))

  -- it is passed over
  pub searched-passed : (printed : Printed) → it ≡ shown printed → AreReadable d names → CanPrint d texts printed → (order tips : List Var) (k j : ℕ) (old best : Option (Vec ℕ)) →
      length order < 10 → IsNumbering (forms_in it) order → j < length order → IsPassedOver d printed order k j tips → SearchedUpTo order k j tips old best → SearchedUpTo order k (j + 1) tips old best
  searched-passed printed is readable can order tips k j old best small n within passed s =
      let up = s.up in record {
        up = omega arith;
        one = s.one;
        keeps = s.keeps;
        tried = λ other t. elim (cases_lt t.place j) [
          | inl below ↦ s.tried other (record { begins = t.begins; place = t.place; from = t.from; upto = below; next = t.next; tip = t.tip })
          | inr high ↦
              let last = t.upto in
              let at : t.place ≡ j = omega arith in
              let next : (x : Var) → get_or other k x ≡ get_or order j x = λ x. subst (λ p. get_or other k x ≡ get_or order p x) at (t.next x) in
              let first = passed nobody (subst (λ p. Contains tips (get_or order p nobody)) at (t.tip nobody)) in
              let goes = first.first nobody in
              let e = exchange d texts names it order other k j first.place small n t.begins first.from first.upto within next goes.sort in
              raised-most printed is readable can best (get_or order first.place nobody) (get_or order j nobody) e.turned other goes e.raised
              (s.tried e.turned (record { begins = e.begins; place = first.place; from = first.from; upto = first.upto; next = e.next; tip = first.tip }))
        ];
      }

  -- an order that goes on with the same variable begins alike
  begins-further : (order other : List Var) (k : ℕ) → BeginsAs d texts names it order k other → ((x : Var) → get_or other k x ≡ get_or order k x) → BeginsAs d texts names it order (k + 1) other
  begins-further order other k b is = record {
    numbering = b.numbering;
    alike = λ m x l. elim (cases_lt m k) [
      | inl below ↦ b.alike m x below
      | inr high ↦
          let at : k ≡ m = omega arith in
          subst (λ p. get_or other p x ≡ get_or order p x) at (is x)
    ];
  }

  -- the variable at k goes before all behind it
  pub searched-led : (printed : Printed) → it ≡ shown printed → AreReadable d names → CanPrint d texts printed → (order : List Var) (k : ℕ) (old best : Option (Vec ℕ)) →
      length order < 10 → IsNumbering (forms_in it) order → k < length order → LeadsUpTo d printed order k (length order) → IsSearched d texts names it order (k + 1) old best →
      IsSearched d texts names it order k old best
  searched-led printed is readable can order k old best small n inside leads s = record {
    one = s.one;
    keeps = s.keeps;
    most = λ other b.
        let at = next-place d texts names it order other k inside n b in
        let from = at.from in
        let upto = at.upto in
        elim (cases_lt k at.place) [
          | inl behind ↦
              let first = leads at.place nobody nobody behind upto in
              let e = exchange d texts names it order other k at.place k small n b (omega arith) behind upto at.next first.sort in
              raised-most printed is readable can best (get_or order k nobody) (get_or order at.place nobody) e.turned other first e.raised
              (s.most e.turned (begins-further order e.turned k e.begins e.next))
          | inr low ↦
              let here : at.place ≡ k = omega (arith, from, low) in
              s.most other (begins-further order other k b (λ x. subst (λ p. get_or other k x ≡ get_or order p x) here (at.next x)))
        ];
  }

  -- two variables of a numbering exchanged
  pub exchanged-again : (order ys : List Var) (i j : ℕ) → i < length order → j < length order → ys ≡ swap order i j → IsNumbering (forms_in it) order → IsNumbering (forms_in it) ys
  exchanged-again order ys i j low high e n = exchanged-numbering (forms_in it) order ys i j low high e n

  -- all tips have been tried
  pub searched-tips : (order tips : List Var) (k j : ℕ) (old best : Option (Vec ℕ)) → IsNumbering (forms_in it) order → k < length order → length order ≤ j → SearchedUpTo order k j tips old best →
      AreSearched d texts names it order k tips old best
  searched-tips order tips k j old best is inside all s = record {
    one = s.one;
    keeps = s.keeps;
    most = λ other x b c.
        let n = next-place d texts names it order other k inside is b in
        let l = n.upto in
        let long = same-length (forms_in it) other order b.numbering is in
        s.tried other (record {
          begins = b;
          place = n.place;
          from = n.from;
          upto = omega arith;
          next = n.next;
          tip = λ y. subst (Contains tips) (get_or_default other k x y (omega (arith, long)) ∙ n.next y) c;
        });
  }

  -- the best text is at most the front
  pub searched-front : (order : List Var) (k : ℕ) (best : Option (Vec ℕ)) (front : Front) → length order < 10 → IsNumbering (forms_in it) order → IsBestText d texts names it best →
      ((other : List Var) → AgreesUpTo order k other → IsFrontOf k other front (text d names texts other it)) → IsAtMost best front.text.items → IsSearched d texts names it order k best best
  searched-front order k best front small is one fronts most = record {
    one = one;
    keeps = λ w h. h;
    most = λ other b. most-after best front.text.items (text d names texts other it) most
        (front-after front.tips.items front.text.items (text d names texts other it) (fronts other (agrees d texts names it order other k small is b)).upto);
  }

  -- the tips have been tried, and the best text is at most the later one of the front
  pub searched-later : (order : List Var) (k : ℕ) (old best : Option (Vec ℕ)) (front : Front) → length order < 10 → IsNumbering (forms_in it) order →
      ((other : List Var) → AgreesUpTo order k other → IsFrontOf k other front (text d names texts other it)) → AreSearched d texts names it order k front.tips.items old best →
      IsAtMost best front.later.items → IsSearched d texts names it order k old best
  searched-later order k old best front small is fronts s most = record {
    one = s.one;
    keeps = s.keeps;
    most = λ other b. go other b (listed front.tips.items (get_or other k nobody)) refl;
  }
    where
      go : (other : List Var) → BeginsAs d texts names it order k other → (yes : Bool) → listed front.tips.items (get_or other k nobody) ≡ yes → IsAtMost best (text d names texts other it)
      go other b true e = s.most other nobody b (listed-only front.tips.items (get_or other k nobody) e)
      go other b false e =
          let a = agrees d texts names it order other k small is b in
          let none : NoneIsNext front.tips.items k other = λ x c n.
          let t = stands-numbered other x (omega (arith, n)) in
          let at : t.at ≡ k = let m = t.number_is in omega (arith, n) in
          not-listed front.tips.items (get_or other k nobody) e (subst (Contains front.tips.items) (sym t.is ∙ ap (λ p. get_or other p nobody) at) c) in
          most-after best front.later.items (text d names texts other it) most ((fronts other a).later none)

  -- all variables have been tried
  pub searched-all : (order : List Var) (k : ℕ) (old mid best : Option (Vec ℕ)) → k < length order → IsNumbering (forms_in it) order → ((w : Text) → IsAtMost old w → IsAtMost mid w) →
      AreSearched d texts names it order k order mid best → IsSearched d texts names it order k old best
  searched-all order k old mid best inside is keeps s = record {
    one = s.one;
    keeps = λ w h. s.keeps w (keeps w h);
    most = λ other b.
        let n = next-place d texts names it order other k inside is b in
        s.most other nobody b (subst (Contains order) (sym (n.next nobody)) (Contains-get_or order n.place nobody n.upto));
  }

  -- the best text of all
  pub least-found : (order : List Var) (old new : Option (Vec ℕ)) (line : Vec ℕ) → new ≡ Some line → IsSearched d texts names it order 0 old new → IsLeastText d texts names it line.items
  least-found order old new line e s = record {
    one = subst (IsBestText d texts names it) e s.one;
    least = λ other n. subst (λ best. IsAtMost best (text d names texts other it)) e (s.most other (record { numbering = n; alike = λ i x l. absurd (omega (arith, l)) }));
  }

  -- there is one
  pub least-none : {Claim : Type 0} (order : List Var) (old new : Option (Vec ℕ)) → IsNumbering (forms_in it) order → new ≡ None → IsSearched d texts names it order 0 old new → Claim
  least-none order old new n e s = absurd (subst (λ best. IsAtMost best (text d names texts order it)) e (s.most order (record { numbering = n; alike = λ i x l. refl })))
