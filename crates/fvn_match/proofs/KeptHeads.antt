-- Heads that each instance of a pattern has too, and arguments whose instances stay where such a head is.
use Rattle.std.proofs.Common.{◌≡◌, ℕ, ◌+◌, ◌*◌, ◌<◌, ◌≤◌, zero, suc, Bool, true, false, List, [], ◌∷◌, length, map, get_or, Option, Some, None, ◌++◌, refl, sym, ap, ◌∙◌, subst, inl, inr, arith}
use Rattle.std.specs.Prelude.{◌⊎◌, All, if◌then◌else◌}
use Rattle.std.specs.List.{AllByRecursion}
use Rattle.std.specs.Ordering.{is_gt}
use Rattle.std.proofs.lemmas.List.Elements.{recursion_from_All}
use Rattle.fvn_terms.specs.declared.plain.OpId.{OpId}
use Rattle.fvn_terms.specs.declared.declarations.Axioms.{Axioms}
use Rattle.fvn_terms.specs.declared.declarations.Axioms.TheVariants.{Free, Comm, AssocComm, AssocCommId}
use Rattle.fvn_terms.specs.declared.declarations.Declarations.{Declarations}
use Rattle.fvn_terms.specs.Signature.{axioms}
use Rattle.fvn_terms.specs.Equality.{IsAssociative, identity}
use Rattle.fvn_forms.specs.Flat.{FlatTerm, fvar, fapp, fnone, fmore, fpack, funpack}
use Rattle.fvn_forms.specs.Order.{flat_cmp, same_flat}
use Rattle.fvn_forms.specs.InOrder.{count, insert, sort, SameCounts}
use Rattle.fvn_forms.specs.Canon.{same_op, parts, all_parts, canon, inst}
use Rattle.fvn_forms.specs.Settled.{IsPiece, SettledValues}
use Rattle.fvn_forms.specs.FitsKinds.{FitsKinds}
use Rattle.fvn_forms.specs.Good.{IsGood}
use Rattle.fvn_forms.proofs.Order.{same_flat_is}
use Rattle.fvn_forms.proofs.InOrder.{count_append, count_sort, count_itself, sort_same_counts}
use Rattle.fvn_forms.proofs.Sums.{same_op_is, same_op_itself, funpack-fpack, fpack-funpack, parts_are_pieces}
use Rattle.fvn_forms.proofs.Instances.{inst_free, inst_commutative, inst_parts_iff}
use Rattle.fvn_flat.specs.Forms.{head_of, args_of}
use Rattle.fvn_flat.specs.Fits.{Fits, AllFit}
use Rattle.fvn_flat.specs.Weight.{places, places_all}
use Rattle.fvn_flat.proofs.Smaller.{argument_is_smaller}
use Rattle.fvn_flat.proofs.Fitting.{args_fit}
use Rattle.fvn_flat.proofs.Instances.{each_at}
use Rattle.fvn_match.specs.Matching.{HasNoMatcher}
use Rattle.fvn_match.specs.inner.Candidates.{Values, IsCandidate}
use Rattle.fvn_match.specs.inner.Heads.{is_head, headed_in, KeepsHead, IsLost, IsLostAmong}
use Rattle.fvn_match.proofs.Runs.{holds_of}
use Rattle.fvn_match.proofs.PairSteps.{not_joined}
use Rattle.fvn_match.proofs.SumFitting.{parts_are_args}
use Rattle.fvn_match.proofs.OnePiece.{few_unjoined, many}
use Rattle.fvn_match.proofs.Matchers.{candidate_of, matched_makes}

-- the arguments of a form have fewer places
pub args_have_fewer : (t : FlatTerm) (ts : List FlatTerm) → ts ≡ args_of t → 2 * places_all (fpack ts) + 1 < 2 * places t
args_have_fewer (fvar x) ts e = let q = ap (λ l. places_all (fpack l)) e in omega (arith, q)
args_have_fewer (fapp f joined us) ts e = let q = ap (λ l. places_all (fpack l)) e in let r = ap places_all (fpack-funpack us) in omega (arith, q, r)

-- what stands at a place of a list is counted there
count_at : (l : List FlatTerm) (i : ℕ) (q : FlatTerm) → i < length l → q ≡ get_or l i q → 1 ≤ count q l
count_at [] i q within at = absurd (omega arith)
count_at (t ∷ l) zero q within at = let a = count_itself t l in let here : 1 ≤ count t (t ∷ l) = omega arith in subst (λ u. 1 ≤ count u (t ∷ l)) (sym at) here
count_at (t ∷ l) (suc i) q within at = let a = count_at l i q (omega arith) at in omega arith

-- and its image among the images
count_image : (g : FlatTerm → FlatTerm) (q : FlatTerm) (l : List FlatTerm) → 1 ≤ count q l → 1 ≤ count (g q) (map g l)
count_image g q [] some = absurd (omega arith)
count_image g q (t ∷ l) some = go (same_flat q t) refl (λ m. count_image g q l m)
  where
    go : (b : Bool) → same_flat q t ≡ b → (1 ≤ count q l → 1 ≤ count (g q) (map g l)) → 1 ≤ count (g q) (map g (t ∷ l))
    go true e rest = let a = count_itself (g q) (map g l) in let here : 1 ≤ count (g q) (g q ∷ map g l) = omega arith in subst (λ u. 1 ≤ count (g q) (g u ∷ map g l)) (same_flat_is q t e) here
    go false e rest = let more : 1 ≤ 0 + count q l = rw e at some in let r = rest (omega arith) in omega arith

-- one where the head is f
abbrev of_head : OpId → FlatTerm → ℕ
of_head f t = if is_head f (head_of t) then 1 else 0

head_is : (f : OpId) (o : Option OpId) → is_head f o ≡ true → o ≡ Some f
head_is f None e = cc
head_is f (Some g) e = ap Some (same_op_is g f e)

head_if : (f : OpId) (o : Option OpId) → o ≡ Some f → is_head f o ≡ true
head_if f o e = ap (is_head f) e ∙ same_op_itself f

-- how many a head has in a list
headed_append : (f : OpId) (l m : List FlatTerm) → headed_in f (l ++ m) ≡ headed_in f l + headed_in f m
headed_append f [] m = omega arith
headed_append f (t ∷ l) m = let a = headed_append f l m in omega arith

headed_insert : (f : OpId) (t : FlatTerm) (l : List FlatTerm) → headed_in f (insert t l) ≡ of_head f t + headed_in f l
headed_insert f t [] = refl
headed_insert f t (u ∷ l) = go (is_gt (flat_cmp t u)) refl (headed_insert f t l)
  where
    go : (a : Bool) → is_gt (flat_cmp t u) ≡ a → headed_in f (insert t l) ≡ of_head f t + headed_in f l → headed_in f (insert t (u ∷ l)) ≡ of_head f t + headed_in f (u ∷ l)
    go true p ih = rw p (omega arith)
    go false p ih = rw p refl

headed_sort : (f : OpId) (l : List FlatTerm) → headed_in f (sort l) ≡ headed_in f l
headed_sort f [] = refl
headed_sort f (t ∷ l) = let a = headed_insert f t (sort l) in let b = headed_sort f l in omega arith

headed_same : (f : OpId) (l m : List FlatTerm) → SameCounts l m → headed_in f l ≡ headed_in f m
headed_same f l m h = sym (headed_sort f l) ∙ ap (headed_in f) (sort_same_counts l m h) ∙ headed_sort f m

-- no fewer in a list of images, and among their summands
headed_images : (g : OpId) (h : FlatTerm → FlatTerm) (l : List FlatTerm) → AllByRecursion (λ q. head_of q ≡ Some g → head_of (h q) ≡ Some g) l → headed_in g l ≤ headed_in g (map h l)
headed_images g h [] all = omega arith
headed_images g h (q ∷ l) all = let a = headed_images g h l all.1 in let b = go (is_head g (head_of q)) refl in omega arith
  where
    go : (b : Bool) → is_head g (head_of q) ≡ b → of_head g q ≤ of_head g (h q)
    go true e = let w = head_if g (head_of (h q)) (all.0 (head_is g (head_of q) e)) in rw (e, w) (omega arith)
    go false e = rw e (omega arith)

module _ (d : Declarations) where
  headed_parts : (f g : OpId) (h : FlatTerm → FlatTerm) (l : List FlatTerm) → AllByRecursion (λ q. head_of q ≡ Some g → (head_of (h q) ≡ Some g) × (parts d f (h q) ≡ h q ∷ [])) l → headed_in g l ≤ headed_in g (all_parts d f (map h l))
  headed_parts f g h [] all = omega arith
  headed_parts f g h (q ∷ l) all =
      let a = headed_parts f g h l all.1 in
      let b = headed_append g (parts d f (h q)) (all_parts d f (map h l)) in
      let c = go (is_head g (head_of q)) refl in
      omega arith
    where
      go : (b : Bool) → is_head g (head_of q) ≡ b → of_head g q ≤ headed_in g (parts d f (h q))
      go true e =
          let k = all.0 (head_is g (head_of q) e) in
          let one : headed_in g (h q ∷ []) ≡ 1 = ap (λ b. (if b then 1 else 0) + 0) (head_if g (head_of (h q)) k.0) in
          let here = ap (headed_in g) k.1 in
          let own : of_head g q ≡ 1 = ap (λ b. if b then 1 else 0) e in
          omega arith
      go false e = let own : of_head g q ≡ 0 = ap (λ b. if b then 1 else 0) e in omega arith

  -- an image that is one summand is counted among the summands of the images
  count_part : (f : OpId) (g : FlatTerm → FlatTerm) (q : FlatTerm) → parts d f (g q) ≡ g q ∷ [] → (l : List FlatTerm) → 1 ≤ count q l → 1 ≤ count (g q) (all_parts d f (map g l))
  count_part f g q one [] some = absurd (omega arith)
  count_part f g q one (t ∷ l) some = go (same_flat q t) refl (λ m. count_part f g q one l m)
    where
      go : (b : Bool) → same_flat q t ≡ b → (1 ≤ count q l → 1 ≤ count (g q) (all_parts d f (map g l))) → 1 ≤ count (g q) (all_parts d f (map g (t ∷ l)))
      go true e rest =
          let s = count_append (g q) (parts d f (g t)) (all_parts d f (map g l)) in
          let a : count (g q) (parts d f (g t)) ≡ count (g q) (g q ∷ []) = ap (λ v. count (g q) (parts d f (g v))) (sym (same_flat_is q t e)) ∙ ap (count (g q)) one in
          let b = count_itself (g q) [] in
          omega arith
      go false e rest =
          let s = count_append (g q) (parts d f (g t)) (all_parts d f (map g l)) in
          let more : 1 ≤ 0 + count q l = rw e at some in
          let r = rest (omega arith) in
          omega arith

  -- two summands or more: a sum
  summed_head : (f : OpId) (t : FlatTerm) → 2 ≤ length (parts d f t) → head_of t ≡ Some f
  summed_head f (fvar x) two = absurd (omega arith)
  summed_head f (fapp h true ts) two = go (same_op f h) refl
    where
      go : (b : Bool) → same_op f h ≡ b → head_of (fapp h true ts) ≡ Some f
      go true e = ap Some (sym (same_op_is f h e))
      go false e = let one : 2 ≤ 1 = rw e at two in absurd (omega arith)
  summed_head f (fapp h false ts) two = let few = few_unjoined d f h ts in absurd (omega arith)

  -- what another operator heads is one summand, where there is no identity
  other_is_piece : (f : OpId) → identity (axioms d f) ≡ None → (u : FlatTerm) (g : OpId) → head_of u ≡ Some g → (g ≡ f → ⊥) → parts d f u ≡ u ∷ []
  other_is_piece f n (fvar x) g h other = refl
  other_is_piece f n (fapp o true ts) g h other = go (same_op f o) refl
    where
      go : (b : Bool) → same_op f o ≡ b → (if b then funpack ts else fapp o true ts ∷ []) ≡ fapp o true ts ∷ []
      go true e = let q : o ≡ g = cc in absurd (other (sym q ∙ sym (same_op_is f o e)))
      go false e = refl
  other_is_piece f n (fapp o false fnone) g h other = rw n refl
  other_is_piece f n (fapp o false (fmore t ts)) g h other = refl

  module _ (fits : FitsKinds d) where
    -- one summand of a sum is no sum
    piece_is_other : (f : OpId) → IsAssociative (axioms d f) → (q : FlatTerm) → Fits d q → IsPiece d f q → (g : OpId) → head_of q ≡ Some g → g ≡ f → ⊥
    piece_is_other f assoc q fit piece g h e =
        let args = parts_are_args d fits f assoc q fit.flat fit.kinded.0 fit.kinded.1 (h ∙ ap Some e) in
        let less : places q < places q = argument_is_smaller q (q ∷ []) 0 q (sym piece ∙ args) (omega arith) refl in
        omega arith

    -- each instance of a pattern has the head that the pattern keeps
    head_stays : (p : FlatTerm) (f : OpId) → KeepsHead d p f → Fits d p → (c : Values) → SettledValues d c → head_of (inst d c p) ≡ Some f
    head_stays p f kept fit c settled = go (axioms d f) refl
      where
        go : (a : Axioms) → axioms d f ≡ a → head_of (inst d c p) ≡ Some f
        go Free e = let n = not_joined d Free (λ i. i) f e p fit.flat kept.heads in ap head_of (ap (inst d c) n.1 ∙ inst_free d c settled f e n.0)
        go Comm e = let n = not_joined d Comm (λ i. i) f e p fit.flat kept.heads in ap head_of (ap (inst d c) n.1 ∙ inst_commutative d c settled f e n.0)
        go AssocComm e = summed_head f (inst d c p) (many d f fits p f kept.heads fit.flat c settled fit.kinded.0 fit.kinded.1 e)
        go (AssocCommId o) e = let clash : None ≡ Some o = sym kept.lasting ∙ ap identity e in cc

    -- an argument that keeps its head, at a place of a pattern that does
    module _ (p : FlatTerm) (f : OpId) (kept : KeepsHead d p f) (fp : Fits d p) (i : ℕ) (q : FlatTerm) (within : i < length (args_of p)) (at : q ≡ get_or (args_of p) i q) (g : OpId) (own : KeepsHead d q g)
        (c : Values) (settled : SettledValues d c) (t : FlatTerm) (ft : Fits d t) (is : inst d c p ≡ t) where
      fq : Fits d q
      fq = each_at (Fits d) (args_of p) (args_fit p d fits fp) i q within at

      stands : 1 ≤ count q (args_of p)
      stands = count_at (args_of p) i q within at

      free_stays : axioms d f ≡ Free → 1 ≤ count (inst d c q) (args_of t)
      free_stays e =
          let n = not_joined d Free (λ a. a) f e p fp.flat kept.heads in
          let args : args_of t ≡ map (inst d c) (args_of p) = ap args_of (sym is ∙ ap (inst d c) n.1 ∙ inst_free d c settled f e n.0) ∙ funpack-fpack (map (inst d c) (funpack n.0)) ∙ ap (λ u. map (inst d c) (args_of u)) (sym n.1) in
          subst (λ l. 1 ≤ count (inst d c q) l) (sym args) (count_image (inst d c) q (args_of p) stands)

      commutative_stays : axioms d f ≡ Comm → 1 ≤ count (inst d c q) (args_of t)
      commutative_stays e =
          let n = not_joined d Comm (λ a. a) f e p fp.flat kept.heads in
          let args : args_of t ≡ sort (map (inst d c) (args_of p)) = ap args_of (sym is ∙ ap (inst d c) n.1 ∙ inst_commutative d c settled f e n.0) ∙ funpack-fpack (sort (map (inst d c) (funpack n.0))) ∙ ap (λ u. sort (map (inst d c) (args_of u))) (sym n.1) in
          let a = count_sort (inst d c q) (map (inst d c) (args_of p)) in
          let b = count_image (inst d c) q (args_of p) stands in
          let here : 1 ≤ count (inst d c q) (sort (map (inst d c) (args_of p))) = omega arith in
          subst (λ l. 1 ≤ count (inst d c q) l) (sym args) here

      summed_stays : axioms d f ≡ AssocComm → 1 ≤ count (inst d c q) (args_of t)
      summed_stays e =
          let assoc : IsAssociative (axioms d f) = rw e tt in
          let of_p = parts_are_args d fits f assoc p fp.flat fp.kinded.0 fp.kinded.1 kept.heads in
          let head = subst (λ u. head_of u ≡ Some f) is (head_stays p f kept fp c settled) in
          let of_t = parts_are_args d fits f assoc t ft.flat ft.kinded.0 ft.kinded.1 head in
          let piece = each_at (IsPiece d f) (args_of p) (subst (AllByRecursion (IsPiece d f)) of_p (parts_are_pieces d f p fp.flat)) i q within at in
          let one = other_is_piece f kept.lasting (inst d c q) g (head_stays q g own fq c settled) (piece_is_other f assoc q fq piece g own.heads) in
          let among = subst (λ l. 1 ≤ count (inst d c q) (all_parts d f (map (inst d c) l))) (sym of_p) (count_part f (inst d c) q one (args_of p) stands) in
          let same = (inst_parts_iff d c settled f assoc p t fp.flat ft.flat).0 is (inst d c q) in
          subst (λ l. 1 ≤ count (inst d c q) l) of_t (subst (λ n. 1 ≤ n) same among)

      -- the argument's instance is an argument of the pattern's
      argument_stays : 1 ≤ count (inst d c q) (args_of t)
      argument_stays = go (axioms d f) refl
        where
          go : (a : Axioms) → axioms d f ≡ a → 1 ≤ count (inst d c q) (args_of t)
          go Free e = free_stays e
          go Comm e = commutative_stays e
          go AssocComm e = summed_stays e
          go (AssocCommId o) e = let clash : None ≡ Some o = sym kept.lasting ∙ ap identity e in cc

    -- of patterns that keep one head there are as many among the arguments of the pattern's instance
    module _ (p : FlatTerm) (f : OpId) (kept : KeepsHead d p f) (fp : Fits d p) (g : OpId) (lasting : identity (axioms d g) ≡ None) (c : Values) (settled : SettledValues d c) (t : FlatTerm) (ft : Fits d t) (is : inst d c p ≡ t) where
      image_headed : (q : FlatTerm) → Fits d q → head_of q ≡ Some g → head_of (inst d c q) ≡ Some g
      image_headed q fq h = head_stays q g (record { heads = h; lasting = lasting }) fq c settled

      images_headed : (l : List FlatTerm) → AllFit d l → AllByRecursion (λ q. head_of q ≡ Some g → head_of (inst d c q) ≡ Some g) l
      images_headed [] fl = tt
      images_headed (q ∷ l) fl = (image_headed q fl.0, images_headed l fl.1)

      parts_headed : IsAssociative (axioms d f) → (l : List FlatTerm) → AllFit d l → AllByRecursion (IsPiece d f) l →
          AllByRecursion (λ q. head_of q ≡ Some g → (head_of (inst d c q) ≡ Some g) × (parts d f (inst d c q) ≡ inst d c q ∷ [])) l
      parts_headed assoc [] fl pieces = tt
      parts_headed assoc (q ∷ l) fl pieces =
          (λ h. (image_headed q fl.0 h, other_is_piece f kept.lasting (inst d c q) g (image_headed q fl.0 h) (piece_is_other f assoc q fl.0 pieces.0 g h)), parts_headed assoc l fl.1 pieces.1)

      whole_fit : AllFit d (args_of p)
      whole_fit = args_fit p d fits fp

      free_many : axioms d f ≡ Free → headed_in g (args_of p) ≤ headed_in g (args_of t)
      free_many e =
          let n = not_joined d Free (λ a. a) f e p fp.flat kept.heads in
          let args : args_of t ≡ map (inst d c) (args_of p) = ap args_of (sym is ∙ ap (inst d c) n.1 ∙ inst_free d c settled f e n.0) ∙ funpack-fpack (map (inst d c) (funpack n.0)) ∙ ap (λ u. map (inst d c) (args_of u)) (sym n.1) in
          subst (λ l. headed_in g (args_of p) ≤ headed_in g l) (sym args) (headed_images g (inst d c) (args_of p) (images_headed (args_of p) whole_fit))

      commutative_many : axioms d f ≡ Comm → headed_in g (args_of p) ≤ headed_in g (args_of t)
      commutative_many e =
          let n = not_joined d Comm (λ a. a) f e p fp.flat kept.heads in
          let args : args_of t ≡ sort (map (inst d c) (args_of p)) = ap args_of (sym is ∙ ap (inst d c) n.1 ∙ inst_commutative d c settled f e n.0) ∙ funpack-fpack (sort (map (inst d c) (funpack n.0))) ∙ ap (λ u. sort (map (inst d c) (args_of u))) (sym n.1) in
          let a = headed_sort g (map (inst d c) (args_of p)) in
          let b = headed_images g (inst d c) (args_of p) (images_headed (args_of p) whole_fit) in
          let here : headed_in g (args_of p) ≤ headed_in g (sort (map (inst d c) (args_of p))) = omega arith in
          subst (λ l. headed_in g (args_of p) ≤ headed_in g l) (sym args) here

      summed_many : axioms d f ≡ AssocComm → headed_in g (args_of p) ≤ headed_in g (args_of t)
      summed_many e =
          let assoc : IsAssociative (axioms d f) = rw e tt in
          let of_p = parts_are_args d fits f assoc p fp.flat fp.kinded.0 fp.kinded.1 kept.heads in
          let top = subst (λ u. head_of u ≡ Some f) is (head_stays p f kept fp c settled) in
          let of_t = parts_are_args d fits f assoc t ft.flat ft.kinded.0 ft.kinded.1 top in
          let pieces = subst (AllByRecursion (IsPiece d f)) of_p (parts_are_pieces d f p fp.flat) in
          let some = headed_parts f g (inst d c) (args_of p) (parts_headed assoc (args_of p) whole_fit pieces) in
          let among = ap (λ l. headed_in g (all_parts d f (map (inst d c) l))) (sym of_p) in
          let same = headed_same g (all_parts d f (map (inst d c) (parts d f p))) (parts d f t) ((inst_parts_iff d c settled f assoc p t fp.flat ft.flat).0 is) in
          let own = ap (headed_in g) of_t in
          omega arith

      as_many_headed : headed_in g (args_of p) ≤ headed_in g (args_of t)
      as_many_headed = go (axioms d f) refl
        where
          go : (a : Axioms) → axioms d f ≡ a → headed_in g (args_of p) ≤ headed_in g (args_of t)
          go Free e = free_many e
          go Comm e = commutative_many e
          go AssocComm e = summed_many e
          go (AssocCommId o) e = let clash : None ≡ Some o = sym kept.lasting ∙ ap identity e in cc

    -- a form with another head is no instance
    pub lost_by_head : (p : FlatTerm) (f : OpId) → KeepsHead d p f → Fits d p → (t : FlatTerm) → (head_of t ≡ Some f → ⊥) → IsLost d p t
    lost_by_head p f kept fp t other = λ c k is. other (subst (λ u. head_of u ≡ Some f) is (head_stays p f kept fp c k.flat.settled))

    -- nor is one that has no instance of some argument among its own, or too few
    pub lost_by_argument : (p : FlatTerm) (f : OpId) → KeepsHead d p f → Fits d p → (t : FlatTerm) → Fits d t → (ps ts : List FlatTerm) → ps ≡ args_of p → ts ≡ args_of t →
        (i : ℕ) (q : FlatTerm) → i < length ps → q ≡ get_or ps i q → IsLostAmong d ps q ts → IsLost d p t
    lost_by_argument p f kept fp t ft ps ts ps_are ts_are i q within at lost = λ c k is. go c k is lost.lost
      where
        go : (c : Values) → IsCandidate d c → inst d c p ≡ t → All (IsLost d q) ts ⊎ (headed_in lost.head ts < headed_in lost.head ps) → ⊥
        go c k is (inl nothing) =
            let inside = subst (λ l. i < length l) ps_are within in
            let at_p = subst (λ l. q ≡ get_or l i q) ps_are at in
            let all = subst (AllByRecursion (IsLost d q)) ts_are (recursion_from_All (IsLost d q) ts nothing) in
            holds_of (IsLost d q) (inst d c q) (args_of t) all (argument_stays p f kept fp i q inside at_p lost.head lost.kept c k.flat.settled t ft is) c k refl
        go c k is (inr few) =
            let enough = as_many_headed p f kept fp lost.head lost.kept.lasting c k.flat.settled t ft is in
            let a = ap (headed_in lost.head) ps_are in
            let b = ap (headed_in lost.head) ts_are in
            omega arith

  -- no matcher makes of a pattern what is no instance of it
  pub lost_has_no_matcher : IsGood d → (p t : FlatTerm) → Fits d t → IsLost d p t → HasNoMatcher d (p ∷ []) (t ∷ [])
  lost_has_no_matcher good p t ft lost = λ s m. lost (λ x. canon d (s x)) (candidate_of d good s m.0) (matched_makes d good s (p ∷ []) (t ∷ []) (ft, tt) m.1).0
