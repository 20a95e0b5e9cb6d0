-- Fronts of texts and of lists of texts.
use Rattle.std.proofs.Common.{◌≡◌, ℕ, ◌⊎◌, inl, inr, Bool, true, false, List, [], ◌∷◌, ◌++◌, refl, sym, ap, ◌∙◌, subst, append_assoc, arith}
use Rattle.std.specs.Prelude.{if◌then◌else◌, ◌==◌, ◌≢◌, length}
use Rattle.std.specs.Vec.{vec_len}
use Rattle.std.proofs.lemmas.Bool.{eqb-true, eq-eqb}
use Rattle.std.specs.List.{AllByRecursion}
use Rattle.std.specs.Global.{Vec}
use Rattle.fvn_answer.specs.declared.front.Front.{Front}
use Rattle.std.specs.declared.cmp.Ordering.{Ordering}
use Rattle.std.specs.declared.cmp.Ordering.TheVariants.{Less, Equal, Greater}
use Rattle.std.specs.Ordering.{ordering_reverse, is_gt, is_lt, nat_cmp}
use Rattle.std.specs.Cmp.Lexicographic.{slice_cmp, nat_list_cmp_total}
use Rattle.std.proofs.lemmas.List.{append-nil}
use Rattle.std.proofs.lemmas.List.Elements.{Contains-append_left, Contains-append_right}
use Rattle.fvn_base.specs.Order.{IsBefore}
use Rattle.fvn_base.proofs.Order.{before_irrefl, before_trans}
use Rattle.fvn_lex.specs.Parts.{is_quoted_after}
use Rattle.fvn_lex.specs.Join.{space}
use Rattle.fvn_terms.specs.declared.plain.Var.{Var}
use Rattle.fvn_syntax.specs.Pieces.{Text}
use Rattle.fvn_answer.specs.Writing.{is_after, bytes_of}
use Rattle.fvn_answer.specs.inner.Bytes.{beside, with_each, over_texts, put_text, sorted_texts}
use Rattle.fvn_answer.specs.inner.Fronts.{AtLeast, NoneIsNext, AreTips, HasTips, IsUpTo, IsFrontOf, arranged_if, HaveMore, HaveTexts, AreGathered, upto}
use Rattle.fvn_answer.proofs.Least.{before-lt, before-not, not-before, before-split}
use Rattle.fvn_answer.proofs.TextOrder.{not_after, after_trans, put-put}

-- Texts that do not stand before another one.

pub at_least-itself : (v : Text) → AtLeast v v
at_least-itself v = before_irrefl v

pub at_least-trans : (u v w : Text) → AtLeast u v → AtLeast v w → AtLeast u w
at_least-trans u v w h k b = k (before-split w u v b h)

at_least-longer : (w z : Text) → AtLeast w (w ++ z)
at_least-longer [] [] h = h
at_least-longer [] (b ∷ z) h = h
at_least-longer (a ∷ w) z (inl l) = omega arith
at_least-longer (a ∷ w) z (inr r) = at_least-longer w z r.1

pub at_least-append : (v w z : Text) → AtLeast v w → AtLeast v (w ++ z)
at_least-append v w z h = at_least-trans v w (w ++ z) h (at_least-longer w z)

pub at_least-behind : (p v w : Text) → AtLeast v w → AtLeast (p ++ v) (p ++ w)
at_least-behind [] v w h b = h b
at_least-behind (a ∷ p) v w h (inl l) = omega arith
at_least-behind (a ∷ p) v w h (inr r) = at_least-behind p v w h r.1

pub before-at_least : (v w : Text) → IsBefore v w → AtLeast v w
before-at_least v w h k = before_irrefl v (before_trans v w v h k)

gt-no-lt : (r : Ordering) → is_gt r ≡ true → is_lt r ≡ false
gt-no-lt Less e = cc
gt-no-lt Equal e = refl
gt-no-lt Greater e = refl

no-gt-turned : (r : Ordering) → is_gt r ≡ false → is_lt (ordering_reverse r) ≡ false
no-gt-turned Less e = refl
no-gt-turned Equal e = refl
no-gt-turned Greater e = cc

no-lt-turned : (r : Ordering) → is_lt r ≡ false → is_gt (ordering_reverse r) ≡ false
no-lt-turned Less e = cc
no-lt-turned Equal e = refl
no-lt-turned Greater e = refl

pub after-at_least : (t l : Text) → is_after t l ≡ true → AtLeast l t
after-at_least t l e = before-not t l (gt-no-lt (slice_cmp nat_cmp t l) e)

pub no-lt-at_least : (t l : Text) → is_lt (slice_cmp nat_cmp t l) ≡ false → AtLeast l t
no-lt-at_least t l e = before-not t l e

pub lt-at_least : (t l : Text) → is_lt (slice_cmp nat_cmp t l) ≡ true → AtLeast t l
lt-at_least t l e = before-at_least t l (before-lt t l e)

at_least-after : (l g : Text) → AtLeast l g → is_after l g ≡ false
at_least-after l g h = rw (nat_list_cmp_total.antisymm l g) (no-lt-turned (slice_cmp nat_cmp g l) (not-before g l h))

after-greater : (e f l : Text) → is_after e l ≡ true → is_after f l ≡ false → is_after e f ≡ true
after-greater e f l p q = go (is_after e f) refl
  where
    go : (b : Bool) → is_after e f ≡ b → is_after e f ≡ true
    go true h = h
    go false h = let n : true ≡ false = sym p ∙ after_trans e f l h q in cc

-- Sorted texts.

pub sorted-snoc : (a b : List Text) (w : Text) → sorted_texts (a ++ w ∷ b) ≡ sorted_texts (w ∷ (a ++ b))
sorted-snoc [] b w = refl
sorted-snoc (t ∷ a) b w = ap (put_text t) (sorted-snoc a b w) ∙ put-put t w (sorted_texts (a ++ b))

module _ (P : Text → Type 0) where
  pub all-put : (t : Text) (l : List Text) → P t → AllByRecursion P l → AllByRecursion P (put_text t l)
  all-put t [] p ps = (p, tt)
  all-put t (u ∷ l) p ps = go (is_after t u) (all-put t l p ps.1)
    where
      go : (b : Bool) → AllByRecursion P (put_text t l) → AllByRecursion P (if b then u ∷ put_text t l else t ∷ u ∷ l)
      go true ih = (ps.0, ih)
      go false ih = (p, ps)

  pub all-sorted : (l : List Text) → AllByRecursion P l → AllByRecursion P (sorted_texts l)
  all-sorted [] ps = tt
  all-sorted (t ∷ l) ps = all-put t (sorted_texts l) ps.0 (all-sorted l ps.1)

pub all-map : (P Q : Text → Type 0) → ((t : Text) → P t → Q t) → (l : List Text) → AllByRecursion P l → AllByRecursion Q l
all-map P Q f [] ps = tt
all-map P Q f (t ∷ l) ps = (f t ps.0, all-map P Q f l ps.1)

some-put : (t : Text) (l : List Text) → (g : Text) × (n : List Text) × (put_text t l ≡ g ∷ n)
some-put t [] = (t, [], refl)
some-put t (u ∷ l) = go (is_after t u) refl
  where
    go : (b : Bool) → is_after t u ≡ b → (g : Text) × (n : List Text) × ((if is_after t u then u ∷ put_text t l else t ∷ u ∷ l) ≡ g ∷ n)
    go true e = (u, put_text t l, rw e refl)
    go false e = (t, u ∷ l, rw e refl)

-- Texts up to a front.

module _ (l : Text) where
  upto-put : (e : Text) (s : List Text) → is_after e l ≡ false → upto true l (put_text e s) ≡ put_text e (upto true l s)
  upto-put e [] h = rw h refl
  upto-put e (u ∷ s) h = go (is_after e u) (is_after u l) refl refl (upto-put e s h)
    where
      go : (a b : Bool) → is_after e u ≡ a → is_after u l ≡ b → upto true l (put_text e s) ≡ put_text e (upto true l s) → upto true l (put_text e (u ∷ s)) ≡ put_text e (upto true l (u ∷ s))
      go true true pa pb ih = let n = after-greater u e l pb h in let m = not_after u e n in let c : true ≡ false = sym pa ∙ m in cc
      go true false pa pb ih = simp (pa, pb) (ap (λ m. u ∷ m) ih)
      go false true pa pb ih = simp (pa, pb, h)
      go false false pa pb ih = simp (pa, pb, h)

  put-front : (e : Text) (f : List Text) (g : Text) (n : List Text) → is_after e g ≡ false → put_text e (f ++ g ∷ n) ≡ put_text e f ++ g ∷ n
  put-front e [] g n h = rw h refl
  put-front e (u ∷ f) g n h = go (is_after e u) refl (put-front e f g n h)
    where
      go : (b : Bool) → is_after e u ≡ b → put_text e (f ++ g ∷ n) ≡ put_text e f ++ g ∷ n → put_text e (u ∷ f ++ g ∷ n) ≡ put_text e (u ∷ f) ++ g ∷ n
      go true p ih = rw p (ap (λ m. u ∷ m) ih)
      go false p ih = rw p refl

  upto-later : (e : Text) (s : List Text) → is_after e l ≡ true → upto true l (put_text e s) ≡ upto true l s
  upto-later e [] h = rw h refl
  upto-later e (u ∷ s) h = go (is_after e u) (is_after u l) refl refl (upto-later e s h)
    where
      go : (a b : Bool) → is_after e u ≡ a → is_after u l ≡ b → upto true l (put_text e s) ≡ upto true l s → upto true l (put_text e (u ∷ s)) ≡ upto true l (u ∷ s)
      go true true pa pb ih = simp (pa, pb)
      go true false pa pb ih = simp (pa, pb) (ap (λ m. u ∷ m) ih)
      go false true pa pb ih = simp (pa, pb, h)
      go false false pa pb ih = let n : true ≡ false = sym h ∙ after_trans e u l pa pb in cc

  put-later : (e : Text) (s x : List Text) → is_after e l ≡ true → put_text e (upto true l s ++ x) ≡ upto true l s ++ put_text e x
  put-later e [] x h = refl
  put-later e (u ∷ s) x h = go (is_after u l) refl (put-later e s x h)
    where
      go : (b : Bool) → is_after u l ≡ b → put_text e (upto true l s ++ x) ≡ upto true l s ++ put_text e x → put_text e (upto true l (u ∷ s) ++ x) ≡ upto true l (u ∷ s) ++ put_text e x
      go true p ih = simp p
      go false p ih = simp (p, after-greater e u l h p) (ap (λ m. u ∷ m) ih)

  abbrev Split : List Text → List Text → Type 0
  Split all front = (g : Text) × (n : List Text) × ((all ≡ front ++ g ∷ n) × AllByRecursion (AtLeast l) (g ∷ n))

  split : (whole : List Text) (f : Text) (m : List Text) → AllByRecursion (AtLeast l) (f ∷ m) → Split (sorted_texts (whole ++ f ∷ m)) (upto true l (sorted_texts whole))
  split [] f m ps =
      let s = some-put f (sorted_texts m) in
      (s.0, s.1, (s.2, subst (AllByRecursion (AtLeast l)) s.2 (all-sorted (AtLeast l) (f ∷ m) ps)))
  split (e ∷ whole) f m ps = go (is_after e l) refl (split whole f m ps)
    where
      go : (b : Bool) → is_after e l ≡ b → Split (sorted_texts (whole ++ f ∷ m)) (upto true l (sorted_texts whole)) → Split (put_text e (sorted_texts (whole ++ f ∷ m))) (upto true l (put_text e (sorted_texts whole)))
      go true h ih =
          let s = some-put e (ih.0 ∷ ih.1) in (
            s.0,
            s.1,
            (
              ap (put_text e) ih.2.0 ∙ put-later e (sorted_texts whole) (ih.0 ∷ ih.1) h ∙ ap (λ x. upto true l (sorted_texts whole) ++ x) s.2
                  ∙ ap (λ x. x ++ s.0 ∷ s.1) (sym (upto-later e (sorted_texts whole) h)),
              subst (AllByRecursion (AtLeast l)) s.2 (all-put (AtLeast l) e (ih.0 ∷ ih.1) (after-at_least e l h) ih.2.1),
            ),
          )
      go false h ih = (
        ih.0,
        ih.1,
        (
          ap (put_text e) ih.2.0 ∙ put-front e (upto true l (sorted_texts whole)) ih.0 ih.1 (after_trans e l ih.0 h (at_least-after l ih.0 ih.2.1.0))
              ∙ ap (λ x. x ++ ih.0 ∷ ih.1) (sym (upto-put e (sorted_texts whole) h)),
          ih.2.1,
        ),
      )

upto-none : (l : Text) (s : List Text) → upto false l s ≡ s
upto-none l [] = refl
upto-none l (t ∷ s) = ap (λ m. t ∷ m) (upto-none l s)

-- Names over arguments.

pub each-front : (special : ℕ) (acc : Text) (ts : List Text) → (z : Text) × (with_each special acc ts ≡ acc ++ z)
each-front special acc [] = ([], sym (append-nil acc))
each-front special acc (t ∷ ts) =
    let more = each-front 44 (beside acc special ++ t) ts in
    let gap = space (is_quoted_after false acc) ++ special ∷ [] in
    (gap ++ (t ++ more.0), more.1 ∙ append_assoc (acc ++ gap) t more.0 ∙ append_assoc acc gap (t ++ more.0))

cut : (e : List Text) (l f : Text) (m : List Text) (special : ℕ) (acc z : Text) → AtLeast l f → AtLeast (with_each special acc (e ++ l ∷ [])) (with_each special acc (e ++ f ∷ m) ++ z)
cut [] l f m special acc z h =
    let more = each-front 44 (beside acc special ++ f) m in
    let is : with_each 44 (beside acc special ++ f) m ++ z ≡ beside acc special ++ (f ++ (more.0 ++ z)) =
    ap (λ x. x ++ z) more.1 ∙ append_assoc (beside acc special ++ f) more.0 z ∙ append_assoc (beside acc special) f (more.0 ++ z) in
    subst (AtLeast (beside acc special ++ l)) (sym is) (at_least-behind (beside acc special) l (f ++ (more.0 ++ z)) (at_least-append l f (more.0 ++ z) h))
cut (t ∷ e) l f m special acc z h = cut e l f m 44 (beside acc special ++ t) z h

over-some : (w : Text) (e : List Text) (f : Text) (m : List Text) → over_texts w (e ++ f ∷ m) ≡ beside (with_each 40 w (e ++ f ∷ m)) 41
over-some w [] f m = refl
over-some w (t ∷ e) f m = refl

-- a name over the texts up to a front, and then the front
pub over-cut : (exchange : Bool) (name l : Text) (shown whole all : List Text) → shown ≡ arranged_if exchange whole → HaveMore exchange whole l all →
    AtLeast (with_each 40 name (upto exchange l shown ++ l ∷ [])) (over_texts name (arranged_if exchange all))
over-cut true name l shown whole all e h =
    let s = split l whole h.first h.more (h.first_after, h.more_after refl) in
    let is : arranged_if true all ≡ upto true l shown ++ s.0 ∷ s.1 = h.all_are ∙ s.2.0 ∙ ap (λ t. upto true l t ++ s.0 ∷ s.1) (sym e) in
    let shown_is : over_texts name (arranged_if true all) ≡ beside (with_each 40 name (upto true l shown ++ s.0 ∷ s.1)) 41 = ap (over_texts name) is ∙ over-some name (upto true l shown) s.0 s.1 in
    subst (AtLeast (with_each 40 name (upto true l shown ++ l ∷ []))) (sym shown_is) (cut (upto true l shown) l s.0 s.1 40 name _ s.2.1.0)
over-cut false name l shown whole all e h =
    let is : all ≡ upto false l shown ++ h.first ∷ h.more = h.all_are ∙ ap (λ t. t ++ h.first ∷ h.more) (sym e ∙ sym (upto-none l shown)) in
    let shown_is : over_texts name all ≡ beside (with_each 40 name (upto false l shown ++ h.first ∷ h.more)) 41 = ap (over_texts name) is ∙ over-some name (upto false l shown) h.first h.more in
    subst (AtLeast (with_each 40 name (upto false l shown ++ l ∷ []))) (sym shown_is) (cut (upto false l shown) l h.first h.more 40 name _ h.first_after)

-- Arguments, one by one.

-- a text that is known to its end
gather-whole : (exchange : Bool) (whole all : List Text) (tips : List Var) (l v w : Text) → (exchange ≡ true) ⊎ (tips ≡ []) → v ≡ w →
    HaveTexts exchange whole tips l all → HaveTexts exchange (whole ++ v ∷ []) tips l (all ++ w ∷ [])
gather-whole exchange whole all [] l v w or is h = λ i. h i ++ is i ∷ []
gather-whole true whole all (x ∷ tips) l v w or is h = record {
  first = h.first;
  more = h.more;
  all_are =
      sorted-snoc all [] w ∙ ap (λ t. put_text w (sorted_texts t)) (append-nil all) ∙ ap (put_text w) h.all_are
      ∙ sym (sorted-snoc whole (h.first ∷ h.more) w) ∙ ap sorted_texts (sym (append_assoc whole (w ∷ []) (h.first ∷ h.more)))
      ∙ ap (λ u. sorted_texts ((whole ++ u ∷ []) ++ h.first ∷ h.more)) (sym is);
  first_after = h.first_after;
  more_after = h.more_after;
}
gather-whole false whole all (x ∷ tips) l v w (inl e) is h = cc
gather-whole false whole all (x ∷ tips) l v w (inr e) is h = cc

-- the first text that is not
gather-first : (exchange : Bool) (whole all : List Text) (v w : Text) → AtLeast v w → whole ≡ all → HaveMore exchange whole v (all ++ w ∷ [])
gather-first exchange whole all v w h is = record {
  first = w;
  more = [];
  all_are = ap (λ t. arranged_if exchange (t ++ w ∷ [])) (sym is);
  first_after = h;
  more_after = λ e. tt;
}

-- one more of them
gather-more : (whole all : List Text) (l v u w : Text) → AtLeast u l → AtLeast u v → AtLeast v w → HaveMore true whole l all → HaveMore true whole u (all ++ w ∷ [])
gather-more whole all l v u w low lower after h = record {
  first = w;
  more = h.first ∷ h.more;
  all_are = sorted-snoc all [] w ∙ ap (λ t. put_text w (sorted_texts t)) (append-nil all) ∙ ap (put_text w) h.all_are ∙ sym (sorted-snoc whole (h.first ∷ h.more) w);
  first_after = at_least-trans u v w lower after;
  more_after = λ e. (at_least-trans u l h.first low h.first_after, all-map (AtLeast l) (AtLeast u) (λ t k. at_least-trans u l t low k) h.more (h.more_after refl));
}

-- an argument behind the first of them, where arguments may not be exchanged
pub gather-behind : (whole all : List Text) (l w : Text) → HaveMore false whole l all → HaveMore false whole l (all ++ w ∷ [])
gather-behind whole all l w h = record {
  first = h.first;
  more = h.more ++ w ∷ [];
  all_are = ap (λ t. t ++ w ∷ []) h.all_are ∙ append_assoc whole (h.first ∷ h.more) (w ∷ []);
  first_after = h.first_after;
  more_after = λ e. cc;
}

-- Fronts with tips, and those without.

empty-tips : (tips : List Var) → length tips ≡ 0 → tips ≡ []
empty-tips [] e = refl
empty-tips (x ∷ tips) e = absurd (omega (arith, e))

filled-tips : (tips : List Var) → length tips ≢ 0 → AreTips tips
filled-tips [] n = n refl
filled-tips (x ∷ tips) n = tt

pub no-tips : (tips : Vec Var) → true ≡ (vec_len tips == 0) → tips.items ≡ []
no-tips tips e = let long = tips.ok.0 in let n = eqb-true (vec_len tips) 0 (sym e) in empty-tips tips.items (omega (arith, long, n))

pub some-tips : (tips : Vec Var) → false ≡ (vec_len tips == 0) → AreTips tips.items
some-tips tips e =
    let long = tips.ok.0 in
    filled-tips tips.items (λ z. let n : vec_len tips ≡ 0 = omega (arith, long, z) in let t : (vec_len tips == 0) ≡ true = eq-eqb (vec_len tips) 0 n in let f : false ≡ true = e ∙ t in cc)

tips-append : (tips more : List Var) → AreTips tips → AreTips (tips ++ more)
tips-append [] more t = absurd t
tips-append (x ∷ tips) more t = tt

pub whole-front : (tips : List Var) (v w : Text) → tips ≡ [] → IsUpTo tips v w → v ≡ w
whole-front [] v w e h = h
whole-front (x ∷ tips) v w e h = cc

pub front-after : (tips : List Var) (v w : Text) → IsUpTo tips v w → AtLeast v w
front-after [] v w h = subst (AtLeast v) h (at_least-itself v)
front-after (x ∷ tips) v w h = h

pub cut-front : (tips : List Var) (v w : Text) → AreTips tips → AtLeast v w → IsUpTo tips v w
cut-front [] v w t h = absurd t
cut-front (x ∷ tips) v w t h = h

have-more : (exchange : Bool) (whole all : List Text) (tips : List Var) (v : Text) → AreTips tips → HaveMore exchange whole v all → HaveTexts exchange whole tips v all
have-more exchange whole all [] v t h = absurd t
have-more exchange whole all (x ∷ tips) v t h = h

pub more-texts : (exchange : Bool) (whole all : List Text) (tips : List Var) (v : Text) → AreTips tips → HaveTexts exchange whole tips v all → HaveMore exchange whole v all
more-texts exchange whole all [] v t h = absurd t
more-texts exchange whole all (x ∷ tips) v t h = h

pub whole-texts : (exchange : Bool) (whole all : List Text) (tips : List Var) (v : Text) → tips ≡ [] → HaveTexts exchange whole tips v all → whole ≡ all
whole-texts exchange whole all [] v e h = h
whole-texts exchange whole all (x ∷ tips) v e h = cc

pub at_least-nothing : (w : Text) → AtLeast [] w
at_least-nothing [] b = b
at_least-nothing (a ∷ w) b = b

whole-upto : (tips : List Var) (v w : Text) → tips ≡ [] → v ≡ w → IsUpTo tips v w
whole-upto [] v w e h = h
whole-upto (x ∷ tips) v w e h = cc

-- a text that is known to its end
pub closed-front : (known : ℕ) (other : List Var) (front : Front) (w : Text) → front.tips.items ≡ [] → front.text.items ≡ w → front.later.items ≡ [] → IsFrontOf known other front w
closed-front known other front w none is later = record {
  upto = whole-upto front.tips.items front.text.items w none is;
  later = λ n. subst (λ v. AtLeast v w) (sym later) (at_least-nothing w);
}

module _ (known : ℕ) (other : List Var) where
  pub gathered-whole : (exchange : Bool) (whole all : List Text) (least front : Front) (w : Text) → (exchange ≡ true) ⊎ (least.tips.items ≡ []) → front.tips.items ≡ [] →
      AreGathered known other exchange whole least all → IsFrontOf known other front w → AreGathered known other exchange (whole ++ front.text.items ∷ []) least (all ++ w ∷ [])
  gathered-whole exchange whole all least front w or none g f =
      let is = whole-front front.tips.items front.text.items w none f.upto in record {
        upto = gather-whole exchange whole all least.tips.items least.text.items front.text.items w or is g.upto;
        later = λ n. gather-whole exchange whole all least.tips.items least.later.items front.text.items w or is (g.later n);
      }

  pub gathered-first : (exchange : Bool) (whole all : List Text) (least front : Front) (w : Text) → least.tips.items ≡ [] → AreTips front.tips.items →
      AreGathered known other exchange whole least all → IsFrontOf known other front w → AreGathered known other exchange whole front (all ++ w ∷ [])
  gathered-first exchange whole all least front w none some g f =
      let is = whole-texts exchange whole all least.tips.items least.text.items none g.upto in record {
        upto = have-more exchange whole (all ++ w ∷ []) front.tips.items front.text.items some
            (gather-first exchange whole all front.text.items w (front-after front.tips.items front.text.items w f.upto) is);
        later = λ n. have-more exchange whole (all ++ w ∷ []) front.tips.items front.later.items some (gather-first exchange whole all front.later.items w (f.later n) is);
      }

  -- one more text, that is at least v
  step : (tips more : List Var) (whole all : List Text) (l v u w : Text) → AreTips tips → AreTips more → AtLeast u l → AtLeast u v → AtLeast v w →
      HaveTexts true whole tips l all → HaveTexts true whole more u (all ++ w ∷ [])
  step tips more whole all l v u w t s low lower after h =
      have-more true whole (all ++ w ∷ []) more u s (gather-more whole all l v u w low lower after (more-texts true whole all tips l t h))

  module _ (whole all : List Text) (least front merged : Front) (w : Text) (t : HasTips least) (s : HasTips front) (g : AreGathered known other true whole least all) (f : IsFrontOf known other front w)
      (low : AtLeast merged.text.items least.text.items) (lower : AtLeast merged.text.items front.text.items) where
    after : AtLeast front.text.items w
    after = front-after front.tips.items front.text.items w f.upto

    -- the front stands before the least one
    pub merged-front : merged.tips.items ≡ front.tips.items → AtLeast merged.later.items front.later.items → AtLeast merged.later.items least.text.items →
        AreGathered known other true whole merged (all ++ w ∷ [])
    merged-front e first second =
        let m : AreTips merged.tips.items = subst AreTips (sym e) s in record {
          upto = step least.tips.items merged.tips.items whole all least.text.items front.text.items merged.text.items w t m low lower after g.upto;
          later = λ n. step least.tips.items merged.tips.items whole all least.text.items front.later.items merged.later.items w t m second first
              (f.later (subst (λ tips. NoneIsNext tips known other) e n)) g.upto;
        }

    -- it stands after it
    pub merged-least : merged.tips.items ≡ least.tips.items → AtLeast merged.later.items least.later.items → AtLeast merged.later.items front.text.items →
        AreGathered known other true whole merged (all ++ w ∷ [])
    merged-least e first second =
        let m : AreTips merged.tips.items = subst AreTips (sym e) t in record {
          upto = step least.tips.items merged.tips.items whole all least.text.items front.text.items merged.text.items w t m low lower after g.upto;
          later = λ n. step least.tips.items merged.tips.items whole all least.later.items front.text.items merged.later.items w t m first second after
              (g.later (subst (λ tips. NoneIsNext tips known other) e n));
        }

    -- the two are one text
    pub merged-both : merged.tips.items ≡ least.tips.items ++ front.tips.items → AtLeast merged.later.items least.later.items → AtLeast merged.later.items front.later.items →
        AreGathered known other true whole merged (all ++ w ∷ [])
    merged-both e first second =
        let m : AreTips merged.tips.items = subst AreTips (sym e) (tips-append least.tips.items front.tips.items t) in
        let none : NoneIsNext merged.tips.items known other → NoneIsNext (least.tips.items ++ front.tips.items) known other = subst (λ tips. NoneIsNext tips known other) e in record {
          upto = step least.tips.items merged.tips.items whole all least.text.items front.text.items merged.text.items w t m low lower after g.upto;
          later = λ n. step least.tips.items merged.tips.items whole all least.later.items front.later.items merged.later.items w t m first second
              (f.later (λ x c. none n x (Contains-append_right least.tips.items front.tips.items x c)))
              (g.later (λ x c. none n x (Contains-append_left least.tips.items front.tips.items x c)));
        }

  -- both have tips
  pub gathered-both : (exchange : Bool) (whole all : List Text) (least front both : Front) (w : Text) → (exchange ≡ true) ⊎ (least.tips.items ≡ []) → HasTips least → HasTips front →
      AreGathered known other exchange whole least all → IsFrontOf known other front w →
      ((whole all : List Text) (w : Text) → HasTips least → HasTips front → AreGathered known other true whole least all → IsFrontOf known other front w →
      AreGathered known other true whole both (all ++ w ∷ [])) → AreGathered known other exchange whole both (all ++ w ∷ [])
  gathered-both exchange whole all least front both w (inl e) t s g f m =
      subst (λ b. AreGathered known other b whole both (all ++ w ∷ [])) (sym e) (m whole all w t s (subst (λ b. AreGathered known other b whole least all) e g) f)
  gathered-both exchange whole all least front both w (inr e) t s g f m = absurd (subst AreTips e t)

  -- a name over arguments of which some are not known
  pub over-open : (exchange : Bool) (name : Text) (shown whole all : List Text) (least front : Front) → AreTips least.tips.items → front.tips.items ≡ least.tips.items →
      shown ≡ arranged_if exchange whole → AreGathered known other exchange whole least all →
      front.text.items ≡ with_each 40 name (upto exchange least.text.items shown ++ least.text.items ∷ []) →
      front.later.items ≡ with_each 40 name (upto exchange least.later.items shown ++ least.later.items ∷ []) →
      IsFrontOf known other front (over_texts name (arranged_if exchange all))
  over-open exchange name shown whole all least front t e is g text_is later_is = record {
    upto = cut-front front.tips.items front.text.items (over_texts name (arranged_if exchange all)) (subst AreTips (sym e) t)
        (subst (λ v. AtLeast v (over_texts name (arranged_if exchange all))) (sym text_is)
        (over-cut exchange name least.text.items shown whole all is (more-texts exchange whole all least.tips.items least.text.items t g.upto)));
    later = λ n. subst (λ v. AtLeast v (over_texts name (arranged_if exchange all))) (sym later_is)
        (over-cut exchange name least.later.items shown whole all is
        (more-texts exchange whole all least.tips.items least.later.items t (g.later (subst (λ tips. NoneIsNext tips known other) e n))));
  }

pub bytes-snoc : (l : List (Vec ℕ)) (v : Vec ℕ) → bytes_of (l ++ v ∷ []) ≡ bytes_of l ++ v.items ∷ []
bytes-snoc [] v = refl
bytes-snoc (u ∷ l) v = ap (λ m. u.items ∷ m) (bytes-snoc l v)
