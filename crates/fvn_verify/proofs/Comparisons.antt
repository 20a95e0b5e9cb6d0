-- Pairs are compared, one after another.
use Rattle.std.proofs.Common.{◌≡◌, ℕ, ◌+◌, ◌<◌, ◌≤◌, inl, inr, List, [], ◌∷◌, ◌++◌, length, take, drop, get_or, Option, Some, None, refl, sym, ap, ◌∙◌, subst, arith}
use Rattle.std.specs.Prelude.{All}
use Rattle.std.proofs.lemmas.List.{length-take, take_all}
use Rattle.std.proofs.lemmas.List.{append_assoc, take_more, take-append-drop}
use Rattle.std.proofs.lemmas.List.Elements.{All-append, All-cons, All-nil}
use Rattle.fvn_base.proofs.Drops.{drop-at}
use Rattle.fvn_terms.specs.declared.plain.Plain.{Plain}
use Rattle.fvn_forms.specs.Flat.{FlatTerm}
use Rattle.fvn_verify.specs.declared.verdict.Verdict.{Verdict}
use Rattle.fvn_verify.specs.declared.verdict.Verdict.TheVariants.{Yes, No, Steps, Size}
use Rattle.fvn_verify.specs.Verdicts.{Setting, sides_in_turn, AreEqual, HasForm, MeetInForm, IsFirstDifference, EndsAt, IsVerdict}
use Rattle.fvn_verify.specs.inner.Comparing.{earlier, concluded, IsDifference, IsEndIn, EndsAs, EndsIn, IsFirst, IsSoFar}

-- what holds of all, and of one more
all-push : {X : Type 0} (P : X → Type 0) (xs : List X) (x : X) → All P xs → P x → All P (xs ++ x ∷ [])
all-push P xs x all h = All-append P xs (x ∷ []) all (All-cons P x [] h (All-nil P))

-- a list is what stands before a place, what stands there, and the rest
split-at : {X : Type 0} (xs : List X) (i : ℕ) (x : X) → i < length xs → x ≡ get_or xs i x → xs ≡ take i xs ++ x ∷ drop (i + 1) xs
split-at xs i x within is = sym (take-append-drop i xs) ∙ ap (λ rest. take i xs ++ rest) (drop-at xs i x within is)

-- the sides of pairs, and of more
pub sides_in_turn-append : (ps qs : List (Plain × Plain)) → sides_in_turn (ps ++ qs) ≡ sides_in_turn ps ++ sides_in_turn qs
sides_in_turn-append [] qs = refl
sides_in_turn-append (p ∷ ps) qs = ap (λ ts. p.0 ∷ p.1 ∷ ts) (sides_in_turn-append ps qs)

module _ (g : Setting) where
  abbrev Formed : Plain → Type 0
  Formed = HasForm g

  -- forms of the sides of one more pair
  all_formed : (ps : List (Plain × Plain)) (p : Plain × Plain) → All Formed (sides_in_turn ps) → Formed p.0 → Formed p.1 → All Formed (sides_in_turn (ps ++ p ∷ []))
  all_formed ps p all l r =
      subst (All Formed) (sym (sides_in_turn-append ps (p ∷ [])))
      (All-append Formed (sides_in_turn ps) (p.0 ∷ p.1 ∷ []) all (All-cons Formed p.0 (p.1 ∷ []) l (All-cons Formed p.1 [] r (All-nil Formed))))

  -- the first difference stays the first where one more pair comes
  goes-on : (pairs : List (Plain × Plain)) (p : Plain × Plain) (n : ℕ) (l r : FlatTerm) → Formed p.0 → Formed p.1 →
      IsFirstDifference g pairs n l r → IsFirstDifference g (pairs ++ p ∷ []) n l r
  goes-on pairs p n l r left right h = record {
    before = h.before;
    pair = h.pair;
    after = h.after ++ p ∷ [];
    split = ap (λ ps. ps ++ p ∷ []) h.split ∙ append_assoc h.before (h.pair ∷ h.after) (p ∷ []);
    number_is = h.number_is;
    meet = h.meet;
    left_form = h.left_form;
    right_form = h.right_form;
    differ = h.differ;
    instances = h.instances;
    found = all_formed h.after p h.found left right;
    apart = h.apart;
  }

  -- the first difference with one more pair
  first-push : (pairs : List (Plain × Plain)) (p : Plain × Plain) (n : ℕ) (first : Option (ℕ × FlatTerm × FlatTerm)) (difference : Option (FlatTerm × FlatTerm)) →
      n ≡ length pairs + 1 → Formed p.0 → Formed p.1 → IsFirst g pairs first → IsDifference g p difference →
      IsFirst g (pairs ++ p ∷ []) (earlier first n difference)
  first-push pairs p n (Some found) difference count l r f e = goes-on pairs p found.0 found.1 found.2 l r f
  first-push pairs p n None None count l r f e = (all-push (AreEqual g.declarations g.equations g.by) pairs p f.0 e.0, all-push (MeetInForm g) pairs p f.1 e.1)
  first-push pairs p n None (Some forms) count l r f e = record {
    before = pairs;
    pair = p;
    after = [];
    split = refl;
    number_is = count;
    meet = f.1;
    left_form = e.left_form;
    right_form = e.right_form;
    differ = e.differ;
    instances = e.instances;
    found = All-nil Formed;
    apart = e.apart;
  }

  -- the pairs before a place and the one there
  pub one-more : (all : List (Plain × Plain)) (i : ℕ) (p : Plain × Plain) (first : Option (ℕ × FlatTerm × FlatTerm)) (difference : Option (FlatTerm × FlatTerm)) →
      i < length all → p ≡ get_or all i p → IsSoFar g (take i all) first → Formed p.0 → Formed p.1 → IsDifference g p difference →
      IsSoFar g (take (i + 1) all) (earlier first (i + 1) difference)
  one-more all i p first difference within is so l r e =
      let long : length (take i all) ≡ i = length-take i all ∙ (omega (arith, within)) in
      subst (λ ps. IsSoFar g ps (earlier first (i + 1) difference)) (ap (λ q. take i all ++ q ∷ []) is ∙ sym (take_more all i p within))
      (all_formed (take i all) p so.0 l r, first-push (take i all) p (i + 1) first difference (ap (λ n. n + 1) (sym long)) l r so.1 e)

  -- the sides of all pairs around those of one
  sides-at : (all : List (Plain × Plain)) (i : ℕ) (p : Plain × Plain) → i < length all → p ≡ get_or all i p → sides_in_turn all ≡ sides_in_turn (take i all) ++ p.0 ∷ p.1 ∷ sides_in_turn (drop (i + 1) all)
  sides-at all i p within is = ap sides_in_turn (split-at all i p within is) ∙ sides_in_turn-append (take i all) (p ∷ drop (i + 1) all)

  -- the search ends at a side of the pair at a place
  ends_at : (all : List (Plain × Plain)) (i : ℕ) (p : Plain × Plain) (t : Plain) → i < length all → p ≡ get_or all i p → All Formed (sides_in_turn (take i all)) →
      IsEndIn g p t → EndsAt g all t
  ends_at all i p t within is so (inl e) = record {
    before = sides_in_turn (take i all);
    after = p.1 ∷ sides_in_turn (drop (i + 1) all);
    split = sides-at all i p within is ∙ ap (λ u. sides_in_turn (take i all) ++ u ∷ p.1 ∷ sides_in_turn (drop (i + 1) all)) (sym e);
    found = so;
  }
  ends_at all i p t within is so (inr e) = record {
    before = sides_in_turn (take i all) ++ p.0 ∷ [];
    after = sides_in_turn (drop (i + 1) all);
    split = sides-at all i p within is ∙ ap (λ u. sides_in_turn (take i all) ++ p.0 ∷ u ∷ sides_in_turn (drop (i + 1) all)) (sym e.0)
        ∙ sym (append_assoc (sides_in_turn (take i all)) (p.0 ∷ []) (t ∷ sides_in_turn (drop (i + 1) all)));
    found = all-push Formed (sides_in_turn (take i all)) p.0 so e.1;
  }

  -- that is the verdict
  verdict_at : (all : List (Plain × Plain)) (t : Plain) (v : Verdict) → EndsAt g all t → EndsAs g t v → IsVerdict g all v
  verdict_at all t Yes e h = absurd h
  verdict_at all t (No n l r) e h = absurd h
  verdict_at all t (Steps a b) e h = (t, (e, h))
  verdict_at all t (Size f) e h = (t, (e, h))

  pub ended : (all : List (Plain × Plain)) (i : ℕ) (p : Plain × Plain) (first : Option (ℕ × FlatTerm × FlatTerm)) (v : Verdict) →
      i < length all → p ≡ get_or all i p → IsSoFar g (take i all) first → EndsIn g p v → IsVerdict g all v
  ended all i p first v within is so e = verdict_at all e.0 v (ends_at all i p e.0 within is so.0 e.1.0) e.1.1

  -- forms of all sides were found
  pub conclude : (all : List (Plain × Plain)) (first : Option (ℕ × FlatTerm × FlatTerm)) → IsSoFar g all first → IsVerdict g all (concluded first)
  conclude all None so = so.1
  conclude all (Some found) so = so.1

  -- before the first pair nothing is found
  pub none-so-far : IsSoFar g [] None
  none-so-far = (All-nil Formed, (All-nil (AreEqual g.declarations g.equations g.by), All-nil (MeetInForm g)))

  -- after the last pair all are compared
  pub all-of : (all : List (Plain × Plain)) (i : ℕ) (first : Option (ℕ × FlatTerm × FlatTerm)) → length all ≤ i → IsSoFar g (take i all) first → IsSoFar g all first
  all-of all i first ended so = subst (λ ps. IsSoFar g ps first) (take_all i all ended) so
