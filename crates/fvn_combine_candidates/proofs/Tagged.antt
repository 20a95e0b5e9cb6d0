-- Tags of shared classes by numbers.
use Rattle.std.proofs.Common.{◌≡◌, ◌≢◌, ℕ, zero, suc, ◌+◌, ◌<◌, Bool, true, false, List, [], ◌∷◌, length, refl, sym, ap, ◌∙◌, subst, inl, inr, arith, Contains, Option, Some, None}
use Rattle.std.specs.Prelude.{◌↔◌, IsTrue, not, if◌then◌else◌}
use Rattle.std.specs.List.{AllZip}
use Rattle.std.proofs.lemmas.Bool.{cases_eq, eq-eqb, ne_eqb, false≢true}
use Rattle.std.proofs.lemmas.List.Elements.{All-contains}
use Rattle.fvn_base.proofs.Membership.{contains_cases, contains_none, contains_map}
use Rattle.fvn_terms.specs.declared.plain.OpId.{OpId}
use Rattle.fvn_terms.specs.declared.declarations.Declarations.{Declarations}
use Rattle.fvn_combine_nodes.specs.Table.{NodeTable}
use Rattle.fvn_combine_leaves.specs.Leaves.{Uses, IsShared}
use Rattle.fvn_combine_admissible.specs.Listed.{tag_in}
use Rattle.fvn_acunify_product.specs.Tags.{IsOption}
use Rattle.fvn_combine_candidates.specs.declared.sharing.SharedClass.{SharedClass}
use Rattle.fvn_combine_candidates.specs.Sharing.{classes_of, MayBeSum, IsSharedClass, AreSharedClasses}
use Rattle.fvn_combine_candidates.specs.Tags.{tag_counts, user_at, tag_by, AreTags}
use Rattle.fvn_combine_candidates.proofs.Entries.{listed_at, placed_at}

-- where sorts are heeded a value may be the identity of a user under which the class is narrow, unless it never is that
pub may_told : {U N M : Type 0} (sorted b : Bool) → U → sorted ≡ true → N → IsTrue b ↔ M → IsTrue (not b) ↔ (U × (sorted ≡ true → N → M → ⊥))
may_told sorted true u e n h = (λ q. absurd (false≢true q), λ m. absurd (m.1 e n (h.0 refl)))
may_told sorted false u e n h = (λ _. (u, λ _ _ m. absurd (false≢true (h.1 m))), λ _. refl)

-- a shared class of the list of which f is a user
pub record IsUserIn (shared : List SharedClass) (k : ℕ) (f : OpId) : Type 0 where
  pub entry : SharedClass
  pub listed : Contains shared entry
  pub of : entry.class ≡ k
  pub user : Contains entry.users f

-- the operator that a number stands for is a user
user_is : (users : List OpId) (n : ℕ) (f : OpId) → user_at users n ≡ Some f → Contains users f
user_is users zero f is = cc
user_is users (suc i) f is = listed_at users i f is

more_users : (c : SharedClass) (shared : List SharedClass) (k : ℕ) (f : OpId) → IsUserIn shared k f → IsUserIn (c ∷ shared) k f
more_users c shared k f h = record { entry = h.entry; listed = let m = h.listed in (suc m.0, (let l = m.1 in omega (arith, l)), m.2); of = h.of; user = h.user }

-- a tag is a user of a shared class
tag_is_user : (shared : List SharedClass) (numbers : List ℕ) (k : ℕ) (f : OpId) → tag_by shared numbers k ≡ Some f → IsUserIn shared k f
tag_is_user [] numbers k f is = cc
tag_is_user (c ∷ shared) [] k f is = cc
tag_is_user (c ∷ shared) (n ∷ numbers) k f is = elim (cases_eq c.class k) [
  | inl same ↦ record {
    entry = c;
    listed = (0, omega arith, refl);
    of = same;
    user = user_is c.users n f (subst (λ b. (if b then user_at c.users n else tag_by shared numbers k) ≡ Some f) (eq-eqb c.class k same) is);
  }
  | inr other ↦ more_users c shared k f (tag_is_user shared numbers k f (subst (λ b. (if b then user_at c.users n else tag_by shared numbers k) ≡ Some f) (ne_eqb c.class k other) is))
]

-- where the class is not among them there is no tag
no_tag : (shared : List SharedClass) (numbers : List ℕ) (k : ℕ) → (Contains (classes_of shared) k → ⊥) → tag_by shared numbers k ≡ None
no_tag [] numbers k out = refl
no_tag (c ∷ shared) [] k out = refl
no_tag (c ∷ shared) (n ∷ numbers) k out =
    let other : c.class ≢ k = λ same. out (0, omega arith, same) in
    ap (λ b. if b then user_at c.users n else tag_by shared numbers k) (ne_eqb c.class k other)
    ∙ no_tag shared numbers k (λ m. out (suc m.0, (let l = m.1 in omega (arith, l)), m.2))

module _ (d : Declarations) (t : NodeTable) (class : ℕ → ℕ) (sorted : Bool) where
  pub tags_are_users : (shared : List SharedClass) → AreSharedClasses d t class sorted shared → (options : List ℕ) (tags : List (Option OpId)) → AreTags shared options tags
      → (k : ℕ) (f : OpId) → tag_in tags k ≡ Some f → IsShared d t class k × Uses d t class f k
  tags_are_users shared are options tags are_tags k f is =
      let u = tag_is_user shared options k f (sym (are_tags k) ∙ is) in
      let s = All-contains (IsSharedClass d t class sorted) shared u.entry are.each u.listed in
      (subst (IsShared d t class) u.of s.shared, subst (Uses d t class f) u.of ((s.exact f).0 u.user).0)

  module _ (tag : ℕ → Option OpId) (may : (k : ℕ) (f : OpId) → tag k ≡ Some f → IsShared d t class k × MayBeSum d t class sorted f k) where
    -- the number of a tag
    record HasNumber (c : SharedClass) : Type 0 where
      number : ℕ
      below : number < length c.users + 1
      is : user_at c.users number ≡ tag c.class

    number_of : (c : SharedClass) → IsSharedClass d t class sorted c → HasNumber c
    number_of c s = go (tag c.class) refl
      where
        go : (o : Option OpId) → tag c.class ≡ o → HasNumber c
        go None e = record { number = 0; below = omega arith; is = sym e }
        go (Some f) e =
            let m = (s.exact f).1 (may c.class f e).1 in
            record { number = suc m.0; below = let l = m.1 in omega (arith, l); is = placed_at c.users f m ∙ sym e }

    -- the numbers of the tags of these classes
    record HaveNumbers (shared : List SharedClass) : Type 0 where
      numbers : List ℕ
      options : AllZip IsOption (tag_counts shared) numbers
      are : (k : ℕ) → Contains (classes_of shared) k → tag_by shared numbers k ≡ tag k

    numbers_of : (shared : List SharedClass) → ((c : SharedClass) → Contains shared c → IsSharedClass d t class sorted c) → HaveNumbers shared
    numbers_of [] each = record { numbers = []; options = tt; are = λ k m. absurd (contains_none k m) }
    numbers_of (c ∷ shared) each =
        let here = number_of c (each c (0, omega arith, refl)) in
        let rest = numbers_of shared (λ x m. each x (suc m.0, (let l = m.1 in omega (arith, l)), m.2)) in
        record {
          numbers = here.number ∷ rest.numbers;
          options = (here.below, rest.options);
          are = λ k m. elim (cases_eq c.class k) [
            | inl same ↦ ap (λ b. if b then user_at c.users here.number else tag_by shared rest.numbers k) (eq-eqb c.class k same) ∙ here.is ∙ ap tag same
            | inr other ↦
                let later : Contains (classes_of shared) k = elim (contains_cases c.class (classes_of shared) k m) [ inl same ↦ absurd (other same) | inr later ↦ later ] in
                ap (λ b. if b then user_at c.users here.number else tag_by shared rest.numbers k) (ne_eqb c.class k other) ∙ rest.are k later
          ];
        }

    -- all tags, by numbers of the shared classes
    pub record AreNumbered (shared : List SharedClass) : Type 0 where
      pub numbers : List ℕ
      pub options : AllZip IsOption (tag_counts shared) numbers
      pub are : (k : ℕ) → tag_by shared numbers k ≡ tag k

    pub tags_have_numbers : (shared : List SharedClass) → AreSharedClasses d t class sorted shared → AreNumbered shared
    tags_have_numbers shared are =
        let h = numbers_of shared (λ c m. All-contains (IsSharedClass d t class sorted) shared c are.each m) in
        record { numbers = h.numbers; options = h.options; are = λ k. go h k (tag k) refl }
      where
        go : (h : HaveNumbers shared) (k : ℕ) (o : Option OpId) → tag k ≡ o → tag_by shared h.numbers k ≡ tag k
        go h k (Some f) e = h.are k (are.every k (may k f e).0)
        go h k None e = out h k e (tag_by shared h.numbers k) refl
          where
            out : (h : HaveNumbers shared) (k : ℕ) → tag k ≡ None → (o : Option OpId) → tag_by shared h.numbers k ≡ o → tag_by shared h.numbers k ≡ tag k
            out h k e None is = is ∙ sym e
            out h k e (Some f) is =
                let u = tag_is_user shared h.numbers k f is in
                h.are k (subst (Contains (classes_of shared)) u.of (contains_map (λ (c : SharedClass). c.class) shared u.entry u.listed))
