-- Tags of shared classes, one after another.
use Rattle.std.proofs.Common.{◌≡◌, ◌≢◌, ℕ, zero, suc, ◌+◌, ◌<◌, ◌≤◌, Bool, nat_eq, List, [], ◌∷◌, ◌++◌, length, take, get_or, set, sym, ap, ◌∙◌, inl, inr, arith, Option, None}
use Rattle.std.specs.Prelude.{AllPairs, if◌then◌else◌}
use Rattle.std.proofs.Math.Numerals.{suc-eq-add-one}
use Rattle.std.proofs.lemmas.Bool.{cases_eq, eq-eqb, ne_eqb}
use Rattle.std.proofs.lemmas.List.{get_or-map, length-map, take_more, take_all, get_or-set_same, get_or-set_other}
use Rattle.fvn_terms.specs.declared.plain.OpId.{OpId}
use Rattle.fvn_combine_admissible.specs.Listed.{tag_in}
use Rattle.fvn_combine_candidates.specs.declared.sharing.SharedClass.{SharedClass}
use Rattle.fvn_combine_candidates.specs.Sharing.{classes_of}
use Rattle.fvn_combine_candidates.specs.Tags.{tag_counts, user_at, tag_by, AreTags}

-- one more class, whose tag is that of its number
tag_by_more : (shared : List SharedClass) (numbers : List ℕ) (i : ℕ) (c : SharedClass) → AllPairs ◌≢◌ (classes_of shared) → i < length shared → i < length numbers → c ≡ get_or shared i c
    → (k : ℕ) → tag_by (take (suc i) shared) (take (suc i) numbers) k ≡ (if nat_eq c.class k then user_at c.users (get_or numbers i 0) else tag_by (take i shared) (take i numbers) k)
tag_by_more [] numbers i c distinct l m at k = absurd (omega (arith, l))
tag_by_more (x ∷ shared) [] i c distinct l m at k = absurd (omega (arith, m))
tag_by_more (x ∷ shared) (n ∷ numbers) zero c distinct l m at k = ap (λ (z : SharedClass). if nat_eq z.class k then user_at z.users n else None) (sym at)
tag_by_more (x ∷ shared) (n ∷ numbers) (suc i) c distinct l m at k =
    let short : i < length shared = omega (arith, l) in
    let class_at : get_or (classes_of shared) i 0 ≡ c.class = get_or-map (λ (z : SharedClass). z.class) shared i c 0 short ∙ ap (λ (z : SharedClass). z.class) (sym at) in
    let differ : x.class ≢ c.class = λ e. distinct 0 (suc i) 0 (omega arith) (omega (arith, short, length-map shared (λ (z : SharedClass). z.class))) (e ∙ sym class_at) in
    let Here = λ (b : Bool). if b then user_at x.users n else tag_by (take (suc i) shared) (take (suc i) numbers) k in
    let Before = λ (b : Bool). if b then user_at x.users n else tag_by (take i shared) (take i numbers) k in
    let Last = λ (b : Bool). if b then user_at c.users (get_or numbers i 0) else Before (nat_eq x.class k) in
    elim (cases_eq x.class k) [
      | inl same ↦ ap Here (eq-eqb x.class k same) ∙ sym (ap Last (ne_eqb c.class k (λ e. differ (same ∙ sym e))) ∙ ap Before (eq-eqb x.class k same))
      | inr different ↦
          ap Here (ne_eqb x.class k different)
          ∙ tag_by_more shared numbers i c (λ a b d p q. distinct (suc a) (suc b) d (omega (arith, p)) (omega (arith, q))) short (omega (arith, m)) at k
          ∙ sym (ap (λ z. if nat_eq c.class k then user_at c.users (get_or numbers i 0) else z) (ap Before (ne_eqb x.class k different)))
    ]

-- the tag of one more class is set
pub more_tags : (tags now : List (Option OpId)) (shared : List SharedClass) (numbers : List ℕ) (i : ℕ) (c : SharedClass) → AllPairs ◌≢◌ (classes_of shared) → i < length shared → i < length numbers → c ≡ get_or shared i c
    → c.class < length tags → now ≡ set tags c.class (user_at c.users (get_or numbers i 0)) → ((k : ℕ) → tag_in tags k ≡ tag_by (take i shared) (take i numbers) k)
    → (k : ℕ) → tag_in now k ≡ tag_by (take (i + 1) shared) (take (i + 1) numbers) k
more_tags tags now shared numbers i c distinct l m at within is h k =
    let v = user_at c.users (get_or numbers i 0) in
    let Last = λ (b : Bool). if b then v else tag_by (take i shared) (take i numbers) k in
    let more : tag_by (take (i + 1) shared) (take (i + 1) numbers) k ≡ Last (nat_eq c.class k) = sym (ap (λ j. tag_by (take j shared) (take j numbers) k) (suc-eq-add-one i)) ∙ tag_by_more shared numbers i c distinct l m at k in
    ap (λ ts. get_or ts k None) is
    ∙ elim (cases_eq c.class k) [
      | inl same ↦ ap (λ j. get_or (set tags c.class v) j None) (sym same) ∙ get_or-set_same tags c.class v None within ∙ sym (more ∙ ap Last (eq-eqb c.class k same))
      | inr other ↦ get_or-set_other tags c.class k v None (λ e. other (sym e)) ∙ h k ∙ sym (more ∙ ap Last (ne_eqb c.class k other))
    ]

-- all tags are set
pub all_tags : (tags : List (Option OpId)) (shared : List SharedClass) (numbers : List ℕ) (i : ℕ) → length shared ≤ i → length numbers ≡ length shared → ((k : ℕ) → tag_in tags k ≡ tag_by (take i shared) (take i numbers) k) → AreTags shared numbers tags
all_tags tags shared numbers i l n h k = h k ∙ ap (λ xs. tag_by xs (take i numbers) k) (take_all i shared l) ∙ ap (λ ns. tag_by shared ns k) (take_all i numbers (omega (arith, l, n)))

-- one more count
pub more_counts : (shared : List SharedClass) (i : ℕ) (c : SharedClass) → i < length shared → c ≡ get_or shared i c → (counts now : List ℕ) → now ≡ counts ++ (length c.users + 1) ∷ [] → counts ≡ take i (tag_counts shared) → now ≡ take (i + 1) (tag_counts shared)
more_counts shared i c l at counts now is h =
    let n = length-map shared (λ (z : SharedClass). length z.users + 1) in
    let last : get_or (tag_counts shared) i 0 ≡ length c.users + 1 = get_or-map (λ (z : SharedClass). length z.users + 1) shared i c 0 l ∙ ap (λ (z : SharedClass). length z.users + 1) (sym at) in
    is ∙ ap (λ ns. ns ++ (length c.users + 1) ∷ []) h ∙ sym (take_more (tag_counts shared) i 0 (omega (arith, l, n)) ∙ ap (λ k. take i (tag_counts shared) ++ k ∷ []) last)
