-- A member of a list of flat forms, and what stands around it; sums in which one summand is replaced.
use Rattle.std.proofs.Common.{◌≡◌, ◌+◌, ◌≤◌, Bool, true, false, List, [], ◌∷◌, ◌++◌, refl, sym, ap, ◌∙◌, arith}
use Rattle.std.specs.List.{AllByRecursion}
use Rattle.fvn_terms.specs.declared.plain.OpId.{OpId}
use Rattle.fvn_terms.specs.declared.declarations.Declarations.{Declarations}
use Rattle.fvn_terms.specs.Signature.{axioms}
use Rattle.fvn_terms.specs.Equality.{IsAssociative}
use Rattle.fvn_forms.specs.Flat.{FlatTerm, FlatTerms, fvar, fapp, fpack, funpack, plain, plain_all}
use Rattle.fvn_forms.specs.Order.{same_flat}
use Rattle.fvn_forms.specs.InOrder.{one_if, count, SameCounts}
use Rattle.fvn_forms.specs.Canon.{parts, all_parts, sum, eval_all, canon}
use Rattle.fvn_forms.specs.Settled.{IsPiece, Settled}
use Rattle.fvn_forms.proofs.Order.{same_flat_is}
use Rattle.fvn_forms.proofs.InOrder.{count_append, count_itself}
use Rattle.fvn_forms.proofs.Sums.{all_parts-pieces, all_parts-append}
use Rattle.fvn_forms.proofs.Eval.{fvar_settled, canon_plain, eval_nest}
use Rattle.fvn_flat.specs.FlatPlaces.{IsReplaced, IsReplacedAmong, first, later}

-- where p stands in the list
pub record IsMember (p : FlatTerm) (l : List FlatTerm) : Type 0 where
  pub before : List FlatTerm
  pub after : List FlatTerm
  pub is : l ≡ before ++ p ∷ after

-- p stands in the list beside these others, in any order
pub record StandsAmong (p : FlatTerm) (l others : List FlatTerm) : Type 0 where
  pub before : List FlatTerm
  pub after : List FlatTerm
  pub is : l ≡ before ++ p ∷ after
  pub beside : SameCounts (before ++ after) others

pub find_member : (p : FlatTerm) (l : List FlatTerm) → 1 ≤ count p l → IsMember p l
find_member p [] h = absurd (omega arith)
find_member p (t ∷ l) h = go (same_flat p t) refl (λ k. find_member p l k) where
  go : (b : Bool) → same_flat p t ≡ b → (1 ≤ count p l → IsMember p l) → IsMember p (t ∷ l)
  go true e ih = record { before = []; after = l; is = ap (λ u. u ∷ l) (sym (same_flat_is p t e)) }
  go false e ih =
      let below : 1 ≤ 0 + count p l = rw e at h in
      let w = ih (omega arith) in
      record { before = t ∷ w.before; after = w.after; is = ap (λ m. t ∷ m) w.is }

-- the counts of a list with p in it
pub count_around : (q p : FlatTerm) (before after : List FlatTerm) → count q (before ++ p ∷ after) ≡ one_if (same_flat q p) + count q (before ++ after)
count_around q p before after =
    let a = count_append q before (p ∷ after) in
    let b = count_append q before after in
    omega arith

pub stands_among : (p : FlatTerm) (l others : List FlatTerm) → SameCounts l (p ∷ others) → StandsAmong p l others
stands_among p l others h =
    let e : count p l ≡ 1 + count p others = h p ∙ count_itself p others in
    let w = find_member p l (omega arith) in record {
      before = w.before;
      after = w.after;
      is = w.is;
      beside = λ q.
          let a = ap (count q) w.is ∙ count_around q p w.before w.after in
          let b = h q in
          omega arith;
    }

-- what holds of each
pub each_around : {A : Type 0} (P : A → Type 0) (before : List A) (p : A) (after : List A) → AllByRecursion P (before ++ p ∷ after) → AllByRecursion P before × (P p × AllByRecursion P after)
each_around P [] p after h = (tt, h)
each_around P (t ∷ before) p after h = let w = each_around P before p after h.1 in ((h.0, w.0), w.1)

-- one member replaced
pub replaced_among : {u v p w : FlatTerm} → IsReplaced u v p w → (before after : List FlatTerm) → IsReplacedAmong u v (fpack (before ++ p ∷ after)) (fpack (before ++ w ∷ after))
replaced_among r [] after = first r
replaced_among r (t ∷ before) after = later (replaced_among r before after)

-- where the replaced member stood
pub record ReplacesMember (u v : FlatTerm) (l m : List FlatTerm) : Type 0 where
  pub before : List FlatTerm
  pub member : FlatTerm
  pub new : FlatTerm
  pub after : List FlatTerm
  pub replaced : IsReplaced u v member new
  pub was : l ≡ before ++ member ∷ after
  pub is : m ≡ before ++ new ∷ after

pub replaced_member : {u v : FlatTerm} {ts us : FlatTerms} → IsReplacedAmong u v ts us → ReplacesMember u v (funpack ts) (funpack us)
replaced_member (first {t} {w} {ts} r) = record { before = []; member = t; new = w; after = funpack ts; replaced = r; was = refl; is = refl }
replaced_member (later {t} {ts} {us} r) =
    let i = replaced_member r in
    record { before = t ∷ i.before; member = i.member; new = i.new; after = i.after; replaced = i.replaced; was = ap (λ m. t ∷ m) i.was; is = ap (λ m. t ∷ m) i.is }

module _ (d : Declarations) where
  -- settled forms are the flat forms of their plain terms
  pub canon_plain_list : (l : List FlatTerm) → AllByRecursion (Settled d) l → eval_all d fvar (plain_all (fpack l)) ≡ l
  canon_plain_list [] h = refl
  canon_plain_list (t ∷ l) h = ap (λ a. a ∷ eval_all d fvar (plain_all (fpack l))) (canon_plain d t h.0) ∙ ap (λ m. t ∷ m) (canon_plain_list l h.1)

  -- also around one that may not be settled
  pub canon_plain_around : (before : List FlatTerm) (w c : FlatTerm) (after : List FlatTerm) → AllByRecursion (Settled d) before → AllByRecursion (Settled d) after → canon d (plain w) ≡ c →
      eval_all d fvar (plain_all (fpack (before ++ w ∷ after))) ≡ before ++ c ∷ after
  canon_plain_around [] w c after h k e = ap (λ a. a ∷ eval_all d fvar (plain_all (fpack after))) e ∙ ap (λ m. c ∷ m) (canon_plain_list after k)
  canon_plain_around (t ∷ before) w c after h k e =
      ap (λ a. a ∷ eval_all d fvar (plain_all (fpack (before ++ w ∷ after)))) (canon_plain d t h.0) ∙ ap (λ m. t ∷ m) (canon_plain_around before w c after h.1 k e)

  module _ (f : OpId) where
    -- the summands around one form are the pieces around it, and its own
    pub count_parts_around : (q : FlatTerm) (before : List FlatTerm) (c : FlatTerm) (after : List FlatTerm) → AllByRecursion (IsPiece d f) before → AllByRecursion (IsPiece d f) after →
        count q (all_parts d f (before ++ c ∷ after)) ≡ count q (parts d f c) + count q (before ++ after)
    count_parts_around q before c after h k =
        let a = ap (count q) (all_parts-append d f before (c ∷ after)) ∙ count_append q (all_parts d f before) (parts d f c ++ all_parts d f after) in
        let b = count_append q (parts d f c) (all_parts d f after) in
        let e = ap (count q) (all_parts-pieces d f before h) in
        let g = ap (count q) (all_parts-pieces d f after k) in
        let i = count_append q before after in
        omega arith

    canon_sum : (t : FlatTerm) (ts : List FlatTerm) → IsAssociative (axioms d f) → canon d (plain (fapp f true (fpack (t ∷ ts)))) ≡ sum d f (all_parts d f (eval_all d fvar (plain_all (fpack (t ∷ ts)))))
    canon_sum t ts assoc = eval_nest d fvar (fvar_settled d) f assoc (plain t) (plain_all (fpack ts))

    -- the flat form of a joined sum in which one summand is replaced
    pub canon_replaced : IsAssociative (axioms d f) → (before : List FlatTerm) (w c : FlatTerm) (after : List FlatTerm) → AllByRecursion (Settled d) before → AllByRecursion (Settled d) after → canon d (plain w) ≡ c →
        canon d (plain (fapp f true (fpack (before ++ w ∷ after)))) ≡ sum d f (all_parts d f (before ++ c ∷ after))
    canon_replaced assoc [] w c after h k e = canon_sum w after assoc ∙ ap (λ l. sum d f (all_parts d f l)) (canon_plain_around [] w c after h k e)
    canon_replaced assoc (t ∷ before) w c after h k e = canon_sum t (before ++ w ∷ after) assoc ∙ ap (λ l. sum d f (all_parts d f l)) (canon_plain_around (t ∷ before) w c after h k e)
