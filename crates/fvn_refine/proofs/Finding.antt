-- What searches for rows find, put together.
use Rattle.std.proofs.Common.{◌≡◌, ℕ, ◌+◌, ◌<◌, ◌≤◌, ◌⊎◌, List, [], ◌∷◌, ◌++◌, length, take, get_or, sym, ap, subst, ◌∙◌, inl, inr}
use Rattle.std.specs.List.{Contains}
use Rattle.std.proofs.lemmas.List.{take_more, take_all}
use Rattle.std.proofs.lemmas.List.Elements.{Contains-append_left, Contains-push, Contains-push_cases}
use Rattle.fvn_base.proofs.Membership.{contains_here, contains_cases, contains_none}
use Rattle.fvn_terms.specs.declared.plain.Var.{Var}
use Rattle.fvn_terms.specs.declared.declarations.Declarations.{Declarations}
use Rattle.fvn_refine.specs.inner.Rows.{Row, IsRow, IsRowBelow, HasAbove, IsAntichain, with_rows, AreJoined}
use Rattle.fvn_refine.specs.inner.Found.{Finds, AreRows}
use Rattle.fvn_refine.proofs.RowTests.{above-member, no_member, with_rows-from, with_rows-above, with_rows-new, with_rows-apart, none_apart, one_apart}

-- the first items of a list, with one more
module _ {A : Type 0} (l : List A) (i : ℕ) (a : A) (within : i < length l) (is : a ≡ get_or l i a) where
  one_more : take (i + 1) l ≡ take i l ++ a ∷ []
  one_more = take_more l i a within ∙ ap (λ x. take i l ++ x ∷ []) (sym is)

  pub taken_new : Contains (take (i + 1) l) a
  taken_new = subst (λ z. Contains z a) (sym one_more) (Contains-push (take i l) a)

  pub taken_old : (b : A) → Contains (take i l) b → Contains (take (i + 1) l) b
  taken_old b c = subst (λ z. Contains z b) (sym one_more) (Contains-append_left (take i l) (a ∷ []) b c)

  pub taken_cases : (b : A) → Contains (take (i + 1) l) b → Contains (take i l) b ⊎ (a ≡ b)
  taken_cases b c = Contains-push_cases (take i l) a b (subst (λ z. Contains z b) one_more c)

module _ (d : Declarations) (xs : List Var) where
  pub finds_none : (P : Row → Type 0) → ((m : Row) → IsRow d xs m → P m → ⊥) → Finds d xs P []
  finds_none P never = record { found = λ r c. absurd (contains_none r c); covers = λ m h p. absurd (never m h p); apart = none_apart d }

  -- the row itself, where it has the property
  pub finds_here : (P : Row → Type 0) (way : Row) → IsRow d xs way → P way → ((m : Row) → IsRow d xs m → P m → IsRowBelow d m way) → Finds d xs P (way ∷ [])
  finds_here P way h p below = record {
    found = λ r c. elim (contains_cases way [] r c) [ inl e ↦ subst (λ q. IsRow d xs q × P q) e (h, p) | inr l ↦ absurd (contains_none r l) ];
    covers = λ m i q. (way, (contains_here way [], below m i q));
    apart = one_apart d way;
  }

  -- properties that say the same
  pub finds_same : (P Q : Row → Type 0) → ((m : Row) → IsRow d xs m → P m → Q m) → ((m : Row) → IsRow d xs m → Q m → P m) → (rows : List Row) → Finds d xs P rows → Finds d xs Q rows
  finds_same P Q there back rows h = record {
    found = λ r c. let f = h.found r c in (f.0, there r f.0 f.1);
    covers = λ m i q. h.covers m i (back m i q);
    apart = h.apart;
  }

  pub rows_found : (P : Row → Type 0) (rows : List Row) → Finds d xs P rows → AreRows d xs rows
  rows_found P rows h r c = (h.found r c).0

  -- what is found for each of a list of things
  module _ {A : Type 0} (P : A → Row → Type 0) (l : List A) where
    -- the row has the property for one of these things
    abbrev pub ForOne : List A → Row → Type 0
    ForOne bs m = (a : A) × (Contains bs a × P a m)

    pub finds_for_none : Finds d xs (ForOne (take 0 l)) []
    finds_for_none = finds_none (ForOne (take 0 l)) (λ m h p. contains_none p.0 p.1.0)

    pub finds_for_more : (i : ℕ) (a : A) → i < length l → a ≡ get_or l i a → (rows more all : List Row) → Finds d xs (ForOne (take i l)) rows → Finds d xs (P a) more → AreJoined d rows more all → Finds d xs (ForOne (take (i + 1) l)) all
    finds_for_more i a within is rows more all h k joined = elim joined [
      | inl e ↦ subst (Finds d xs (ForOne (take (i + 1) l))) (sym e) together
      | inr e ↦ subst (Finds d xs (ForOne (take (i + 1) l))) (sym e.1) (alone e.0)
    ]
      where
        old : (r : Row) → IsRow d xs r × ForOne (take i l) r → IsRow d xs r × ForOne (take (i + 1) l) r
        old r f = (f.0, (f.1.0, (taken_old l i a within is f.1.0 f.1.1.0, f.1.1.1)))

        together : Finds d xs (ForOne (take (i + 1) l)) (with_rows d rows more)
        together = record {
          found = λ r c. elim (with_rows-from d rows more r c) [
            | inl o ↦ old r (h.found r o)
            | inr n ↦ let f = k.found r n in (f.0, (a, (taken_new l i a within is, f.1)))
          ];
          covers = λ m j p. elim (taken_cases l i a within is p.0 p.1.0) [
            | inl o ↦ with_rows-above d rows more m (h.covers m j (p.0, (o, p.1.1)))
            | inr n ↦ with_rows-new d rows more m (k.covers m j (subst (λ b. P b m) (sym n) p.1.1))
          ];
          apart = with_rows-apart d rows more h.apart;
        }

        alone : length rows ≡ 0 → Finds d xs (ForOne (take (i + 1) l)) more
        alone none = record {
          found = λ r c. let f = k.found r c in (f.0, (a, (taken_new l i a within is, f.1)));
          covers = λ m j p. elim (taken_cases l i a within is p.0 p.1.0) [
            | inl o ↦ let above = h.covers m j (p.0, (o, p.1.1)) in absurd (no_member d rows above.0 none above.1.0)
            | inr n ↦ k.covers m j (subst (λ b. P b m) (sym n) p.1.1)
          ];
          apart = k.apart;
        }

    pub finds_for_all : (i : ℕ) → length l ≤ i → (rows : List Row) → Finds d xs (ForOne (take i l)) rows → Finds d xs (ForOne l) rows
    finds_for_all i past rows h = subst (λ z. Finds d xs (ForOne z) rows) (take_all i l past) h

  -- at or below one of the rows, and with another property
  module _ (G : Row → Type 0) (rows : List Row) where
    pub finds_from_rows : (all : List Row) → Finds d xs (ForOne (λ r m. IsRowBelow d m r × G m) rows rows) all → Finds d xs (λ m. HasAbove d rows m × G m) all
    finds_from_rows all h =
        finds_same (ForOne (λ r m. IsRowBelow d m r × G m) rows rows) (λ m. HasAbove d rows m × G m)
        (λ m i p. ((p.0, (p.1.0, p.1.1.0)), p.1.1.1)) (λ m i p. (p.0.0, (p.0.1.0, (p.0.1.1, p.1)))) all h

    -- where each of them has it, they are all that is found
    pub finds_themselves : AreRows d xs rows → IsAntichain d rows → ((r : Row) → Contains rows r → G r) → Finds d xs (λ m. HasAbove d rows m × G m) rows
    finds_themselves are none_below has = record {
      found = λ r c. (are r c, (above-member d rows r c, has r c));
      covers = λ m i p. p.0;
      apart = none_below;
    }

  -- one property after another, where rows below keep the first
  module _ (P G Q : Row → Type 0) (keeps : (m r : Row) → IsRow d xs m → IsRow d xs r → IsRowBelow d m r → P r → P m) where
    pub finds_both : (rows all : List Row) → Finds d xs P rows → Finds d xs (λ m. HasAbove d rows m × G m) all → ((m : Row) → P m × G m → Q m) → ((m : Row) → Q m → P m × G m) → Finds d xs Q all
    finds_both rows all h k there back =
        finds_same (λ m. HasAbove d rows m × G m) Q
        (λ m i p. let f = h.found p.0.0 p.0.1.0 in there m (keeps m p.0.0 i f.0 p.0.1.1 f.1, p.1))
        (λ m i q. let b = back m q in (h.covers m i b.0, b.1)) all k
