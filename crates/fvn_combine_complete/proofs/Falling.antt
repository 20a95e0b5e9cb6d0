-- Where values obey a choice, a class needs only classes of a lower rank.
use Rattle.std.proofs.Common.{◌≡◌, ◌≢◌, ◌⊎◌, ℕ, ◌+◌, ◌*◌, ◌<◌, ◌≤◌, false, List, [], ◌∷◌, length, map, get_or, refl, sym, ap, ◌∙◌, subst, inl, inr, arith, Contains, Option, Some, None}
use Rattle.std.specs.List.{AllByRecursion}
use Rattle.std.proofs.lemmas.Bool.{cases_lt}
use Rattle.std.proofs.lemmas.List.{get_or_default}
use Rattle.fvn_base.specs.Decided.{Decided}
use Rattle.fvn_base.proofs.Membership.{contains_here, contains_cases, contains_none, contains_map}
use Rattle.fvn_terms.specs.declared.plain.OpId.{OpId}
use Rattle.fvn_terms.specs.declared.declarations.Axioms.{Axioms}
use Rattle.fvn_terms.specs.declared.declarations.Axioms.TheVariants.{Free, Comm, AssocComm, AssocCommId}
use Rattle.fvn_terms.specs.declared.declarations.Declarations.{Declarations}
use Rattle.fvn_terms.specs.Signature.{axioms}
use Rattle.fvn_forms.specs.Flat.{FlatTerm, fapp, fpack, symbols}
use Rattle.fvn_forms.specs.InOrder.{sort}
use Rattle.fvn_forms.specs.Canon.{parts, sum as sum_of, build}
use Rattle.fvn_forms.proofs.Sizes.{all_symbols, all_symbols-sort, symbols_unjoined, piece_smaller}
use Rattle.fvn_forms.proofs.Sums.{funpack-fpack, sum_parts}
use Rattle.fvn_flat.specs.SolvedLists.{component, IsSimple}
use Rattle.fvn_combine_nodes.specs.Table.{NodeTable, IsWellMade}
use Rattle.fvn_combine_nodes.specs.States.{class_of}
use Rattle.fvn_combine_nodes.specs.declared.state.State.{State}
use Rattle.fvn_combine_leaves.specs.Leaves.{IsLeaf, IsSumOperator, IsSolid, Uses, IsShared, AreTouched}
use Rattle.fvn_combine_choices.specs.Binding.{IsBound, solid, alone, tagged, IsConstant}
use Rattle.fvn_combine_choices.specs.Choosing.{Systems, Choice, AreSystems, AreTakenTogether, argument, summand, Falls, taken}
use Rattle.fvn_combine_choices.specs.Tables.{HasSums}
use Rattle.fvn_combine_complete.specs.Obeying.{IsTold, GoWith, IsSumOrIdentityOf, HasOneValue, IsTakenAsSum}
use Rattle.fvn_combine_complete.specs.Obeyed.{AreObeying}
use Rattle.fvn_combine_nodes.proofs.Heading.{build_free, build_commutative}
use Rattle.fvn_combine_choices.proofs.Columns.{chosen_listed}
use Rattle.fvn_combine_complete.proofs.Asked.{sum_or_identity_told}
use Rattle.fvn_combine_complete.proofs.Taken.{laid_counts, contains_counted}
use Rattle.fvn_combine_complete.proofs.TwoSummands.{shared_two, solid_two}
use Rattle.fvn_combine_complete.proofs.Values.{bound_used, constant_why, single_constant}

pub each_at : {A : Type 0} (P : A → Type 0) (l : List A) (x : A) → AllByRecursion P l → Contains l x → P x
each_at P [] x h c = absurd (contains_none x c)
each_at P (z ∷ l) x h c = elim (contains_cases z l x c) [
  | inl e ↦ subst P e h.0
  | inr r ↦ each_at P l x h.1 r
]

symbols_among : (q : FlatTerm) (l : List FlatTerm) → Contains l q → symbols q ≤ all_symbols l
symbols_among q [] c = absurd (contains_none q c)
symbols_among q (t ∷ l) c = elim (contains_cases t l q c) [
  | inl e ↦ (let n = ap symbols e in omega (arith, n))
  | inr r ↦ (let n = symbols_among q l r in omega (arith, n))
]

-- arguments of a free or commutative operator have fewer symbols
argument_smaller : (d : Declarations) (f : OpId) → IsSimple (axioms d f) → (l : List FlatTerm) (q : FlatTerm) → Contains l q → symbols q < symbols (build d f l)
argument_smaller d f simple l q c = go (axioms d f) refl
  where
    listed : (m : List FlatTerm) → all_symbols m ≡ all_symbols l → build d f l ≡ fapp f false (fpack m) → symbols q < symbols (build d f l)
    listed m same is =
        let a = symbols_among q l c in
        let b = symbols_unjoined f (fpack m) in
        let e = ap all_symbols (funpack-fpack m) in
        let n = ap symbols is in
        omega (arith, a, b, e, n, same)

    go : (a : Axioms) → axioms d f ≡ a → symbols q < symbols (build d f l)
    go Free e = listed l refl (build_free d f e l)
    go Comm e = listed (sort l) (all_symbols-sort l) (build_commutative d f e l)
    go AssocComm e = absurd (subst IsSimple e simple)
    go (AssocCommId o) e = absurd (subst IsSimple e simple)

module _ (d : Declarations) (t : NodeTable) (made : IsWellMade t) (has : HasSums d t) (s : State) (heads : List (Option OpId)) (leaf : IsLeaf d t heads s) (told : IsTold d t (class_of s)) (y : Systems) (systems : AreSystems d t (class_of s) y) (values : ℕ → FlatTerm) (go_with : GoWith d t s values) (c : Choice) (obeying : AreObeying d t (class_of s) y c values) where
  abbrev class : ℕ → ℕ
  class = class_of s

  abbrev Heads : ℕ → Type 0
  Heads k = ((g : OpId) × IsSolid d t class g k) ⊎ ((g : OpId) → IsSolid d t class g k → ⊥)

  abbrev Users : OpId → ℕ → Type 0
  Users f k = ((g : OpId) × (g ≢ f) × Uses d t class g k) ⊎ ((g : OpId) → Uses d t class g k → g ≡ f)

  abbrev first : OpId
  first = record { 0 = 0 }

  -- 1 where the tag is an operator of which the value is neither a sum nor the identity, else 0
  abbrev by_sum : (g : OpId) (v : FlatTerm) → Decided (IsSumOrIdentityOf d g v) → ℕ
  by_sum g v (inl is) = 0
  by_sum g v (inr not) = 1

  abbrev by_tag : FlatTerm → Option OpId → ℕ
  by_tag v None = 0
  by_tag v (Some g) = by_sum g v (sum_or_identity_told d g v)

  -- 0 where an operator without an identity heads a member; else 2 where no two operators use the class, and where two do, by its tag
  abbrev by_other : (g : OpId) (k : ℕ) → Users g k → ℕ
  by_other g k (inl h) = by_tag (values k) (c.tag k)
  by_other g k (inr only) = 2

  abbrev by_user : (k : ℕ) → Users first k → ℕ
  by_user k (inl g) = by_other g.0 k (told.users g.0 k)
  by_user k (inr only) = 2

  abbrev by_head : (k : ℕ) → Heads k → ℕ
  by_head k (inl p) = 0
  by_head k (inr soft) = by_user k (told.users first k)

  abbrev alias : ℕ → ℕ
  alias k = by_head k (told.heads k)

  tag_small : (v : FlatTerm) (o : Option OpId) → by_tag v o ≤ 1
  tag_small v None = omega arith
  tag_small v (Some g) = of_sum (sum_or_identity_told d g v)
    where
      of_sum : (o : Decided (IsSumOrIdentityOf d g v)) → by_sum g v o ≤ 1
      of_sum (inl is) = omega arith
      of_sum (inr not) = omega arith

  alias_small : (k : ℕ) → alias k ≤ 2
  alias_small k = of_head (told.heads k)
    where
      of_other : (g : OpId) (o : Users g k) → by_other g k o ≤ 2
      of_other g (inl h) = let n = tag_small (values k) (c.tag k) in omega (arith, n)
      of_other g (inr only) = omega arith

      of_user : (o : Users first k) → by_user k o ≤ 2
      of_user (inl g) = of_other g.0 (told.users g.0 k)
      of_user (inr only) = omega arith

      of_head : (o : Heads k) → by_head k o ≤ 2
      of_head (inl p) = omega arith
      of_head (inr soft) = of_user (told.users first k)

  solid_alias : (g : OpId) (k : ℕ) → IsSolid d t class g k → alias k ≡ 0
  solid_alias g k h = of_head (told.heads k)
    where
      of_head : (o : Heads k) → by_head k o ≡ 0
      of_head (inl p) = refl
      of_head (inr soft) = absurd (soft g h)

  -- 2 where one operator alone uses the class
  alone_alias : (f : OpId) (k : ℕ) → ((g : OpId) → IsSolid d t class g k → ⊥) → ((g : OpId) → Uses d t class g k → g ≡ f) → alias k ≡ 2
  alone_alias f k soft only = of_head (told.heads k)
    where
      of_other : (g : OpId) → g ≡ f → (o : Users g k) → by_other g k o ≡ 2
      of_other g e (inl h) = absurd (h.1 (only h.0 h.2 ∙ sym e))
      of_other g e (inr h) = refl

      of_user : (o : Users first k) → by_user k o ≡ 2
      of_user (inl g) = of_other g.0 (only g.0 g.2) (told.users g.0 k)
      of_user (inr h) = refl

      of_head : (o : Heads k) → by_head k o ≡ 2
      of_head (inl h) = absurd (soft h.0 h.1)
      of_head (inr h) = of_user (told.users first k)

  -- for a shared class it is by the tag
  shared_alias : (k : ℕ) → IsShared d t class k → alias k ≡ by_tag (values k) (c.tag k)
  shared_alias k shared = of_head (told.heads k)
    where
      not_only : (g : OpId) → ((o : OpId) → Uses d t class o k → o ≡ g) → ⊥
      not_only g only = shared.different (only shared.first shared.uses_first ∙ sym (only shared.second shared.uses_second))

      of_other : (g : OpId) (o : Users g k) → by_other g k o ≡ by_tag (values k) (c.tag k)
      of_other g (inl h) = refl
      of_other g (inr only) = absurd (not_only g only)

      of_user : (o : Users first k) → by_user k o ≡ by_tag (values k) (c.tag k)
      of_user (inl g) = of_other g.0 (told.users g.0 k)
      of_user (inr only) = absurd (not_only first only)

      of_head : (o : Heads k) → by_head k o ≡ by_tag (values k) (c.tag k)
      of_head (inl p) = absurd (shared.soft p.0 p.1)
      of_head (inr soft) = of_user (told.users first k)

  -- 1 where it is taken as a sum
  taken_alias : (f : OpId) (k : ℕ) → IsShared d t class k → c.tag k ≡ Some f → (IsSumOrIdentityOf d f (values k) → ⊥) → alias k ≡ 1
  taken_alias f k shared e none = shared_alias k shared ∙ ap (by_tag (values k)) e ∙ of_sum (sum_or_identity_told d f (values k))
    where
      of_sum : (o : Decided (IsSumOrIdentityOf d f (values k))) → by_sum f (values k) o ≡ 1
      of_sum (inl is) = absurd (none is)
      of_sum (inr not) = refl

  -- and 0 where it is not
  untaken_alias : (k : ℕ) → IsShared d t class k → ((g : OpId) → c.tag k ≡ Some g → (IsSumOrIdentityOf d g (values k) → ⊥) → ⊥) → alias k ≡ 0
  untaken_alias k shared never = shared_alias k shared ∙ of_tag (c.tag k) refl
    where
      of_sum : (g : OpId) → c.tag k ≡ Some g → (o : Decided (IsSumOrIdentityOf d g (values k))) → by_sum g (values k) o ≡ 0
      of_sum g e (inl is) = refl
      of_sum g e (inr not) = absurd (never g e not)

      of_tag : (o : Option OpId) → c.tag k ≡ o → by_tag (values k) o ≡ 0
      of_tag None e = refl
      of_tag (Some g) e = of_sum g e (sum_or_identity_told d g (values k))

  -- at most 1 for a constant
  constant_alias : (f : OpId) (k : ℕ) → IsConstant d t class c.tag f k → alias k ≤ 1
  constant_alias f k h = elim (constant_why d t class told c.tag f k h) [
    | inl p ↦ (let z = solid_alias p.0 k p.2 in omega (arith, z))
    | inr shared ↦ (let e = shared_alias k shared in let n = tag_small (values k) (c.tag k) in omega (arith, e, n))
  ]

  abbrev rank : ℕ → ℕ
  rank k = 3 * symbols (values k) + alias k

  -- the value of a constant is a summand of what a sum with it is bound to
  constant_among : (f : OpId) → IsSumOperator d t f → (k l : ℕ) → IsBound d t class c.tag f k → IsConstant d t class c.tag f l → AreTakenTogether d t class y c f k l → Contains (parts d f (values k)) (values l)
  constant_among f sum k l b h together =
      let m = obeying.made_of f sum in
      let i = together.among.0 in
      let within = together.among.1 in
      let v_is : get_or (taken y c f) i [] ≡ together.solution = get_or_default (taken y c f) i [] together.solution within ∙ together.among.2 in
      let left = ap (λ v. component (y.columns f) v k) v_is in
      let right = ap (λ v. component (y.columns f) v l) v_is in
      let p = together.left in
      let q = together.right in
      let piece = m.alone i l within h (omega (arith, right, q)) in
      let counted = laid_counts (y.columns f) k (values l) (taken y c f) (obeying.pieces f) i within (omega (arith, left, p)) (subst (λ z. Contains z (values l)) (sym piece) (contains_here (values l) [])) in
      let same = m.made k (bound_used d t made has s leaf told values go_with c.tag obeying.tags f k b) (values l) in
      contains_counted (values l) (parts d f (values k)) (omega (arith, counted, same))

  -- a solution that is taken is minimal
  abbrev taken_touched : (f : OpId) → IsSumOperator d t f → (k l : ℕ) → AreTakenTogether d t class y c f k l → AreTouched d t class f k l
  taken_touched f sum k l together = record {
    columns = y.columns f;
    system = y.system f;
    is = systems.is_system f sum;
    solution = together.solution;
    minimal = systems.minimal f sum together.solution (chosen_listed (c.number f) (y.basis f) together.solution together.among);
    left = together.left;
    right = together.right;
  }

  -- the single summands of a solution that is taken have one value, that of its piece
  one_value_taken : (f : OpId) → IsSumOperator d t f → (k l : ℕ) (together : AreTakenTogether d t class y c f k l) → HasOneValue d t class c.tag values f (y.columns f) together.solution
  one_value_taken f sum k l together a b one other left right =
      let m = obeying.made_of f sum in
      let i = together.among.0 in
      let within = together.among.1 in
      let v_is : get_or (taken y c f) i [] ≡ together.solution = get_or_default (taken y c f) i [] together.solution within ∙ together.among.2 in
      let has_one = ap (λ v. component (y.columns f) v a) v_is in
      let has_other = ap (λ v. component (y.columns f) v b) v_is in
      let first = m.alone i a within (single_constant d t made has s leaf told values go_with c.tag obeying.tags f a one) (omega (arith, has_one, left)) in
      let second = m.alone i b within (single_constant d t made has s leaf told values go_with c.tag obeying.tags f b other) (omega (arith, has_other, right)) in
      let lists : values a ∷ [] ≡ values b ∷ [] = sym first ∙ second in
      cc

  -- a constant of a class that is taken as a sum, and has its value, is not taken as a sum
  constant_untaken : (f : OpId) → IsSumOperator d t f → (k l : ℕ) → IsTakenAsSum d t class c.tag values f k → IsConstant d t class c.tag f l → AreTakenTogether d t class y c f k l → values l ≡ values k → alias l ≡ 0
  constant_untaken f sum k l as_sum h together same = elim (constant_why d t class told c.tag f l h) [
    | inl p ↦ solid_alias p.0 l p.2
    | inr shared ↦ untaken_alias l shared (λ g e none. as_sum.differ l g h shared e none (taken_touched f sum k l together) (one_value_taken f sum k l together) same)
  ]

  falls_to_summand : (f : OpId) → IsSumOperator d t f → (k l : ℕ) → IsBound d t class c.tag f k → IsConstant d t class c.tag f l → AreTakenTogether d t class y c f k l → Contains (parts d f (values k)) (values l) → rank l < rank k
  falls_to_summand f sum k l b h together among = elim (cases_lt (length (parts d f (values k))) 2) [
    | inr two ↦ (
        let a = alias_small l in
        let n = each_at (λ q. symbols q < symbols (values k)) (parts d f (values k)) (values l) (piece_smaller d f (values k) two) among in
        omega (arith, a, n))
    | inl few ↦ (
        let value = only_value (parts d f (values k)) refl among few in
        let same = ap symbols value in
        let less = below b few value in
        omega (arith, same, less))
  ]
    where
      only_value : (ps : List FlatTerm) → parts d f (values k) ≡ ps → Contains ps (values l) → length ps < 2 → values l ≡ values k
      only_value [] e m n = absurd (contains_none (values l) m)
      only_value (p ∷ []) e m n = elim (contains_cases p [] (values l) m) [
        | inl q ↦ sym q ∙ (ap (sum_of d f) (sym e) ∙ sum_parts d f (values k) (go_with.are.settled k))
        | inr r ↦ absurd (contains_none (values l) r)
      ]
      only_value (p ∷ q ∷ ps) e m n = absurd (omega (arith, n))

      below : IsBound d t class c.tag f k → length (parts d f (values k)) < 2 → values l ≡ values k → alias l < alias k
      below (solid assoc m) few value = absurd (let two = solid_two d t made has s leaf told values go_with c.tag obeying.tags f k assoc m in omega (arith, two, few))
      below (alone u soft only) few value = (let e = alone_alias f k soft only in let z = constant_alias f l h in omega (arith, e, z))
      below (tagged u shared e) few value =
          let some = among.1 in
          elim (shared_two d t made has s leaf told values go_with c.tag obeying.tags f k shared (tagged u shared e) (omega (arith, some))) [
            | inl two ↦ absurd (omega (arith, two, few))
            | inr as_sum ↦ (
                let z = constant_untaken f sum k l as_sum h together value in
                let o = taken_alias f k shared e (as_sum.one f u) in
                omega (arith, z, o))
          ]

  falls : Falls d t class y c rank
  falls k l (argument i f ks j over simple of among other) =
      let value = ap values (sym of) ∙ go_with.are.built i f ks over in
      let smaller = argument_smaller d f simple (map (λ n. values (class n)) ks) (values (class j)) (contains_map (λ n. values (class n)) ks j among) in
      let a = ap symbols value in
      let e = ap (λ n. symbols (values n)) other in
      let small = alias_small l in
      omega (arith, smaller, a, e, small)
  falls k l (summand f sum b h together) = falls_to_summand f sum k l b h together (constant_among f sum k l b h together)

  pub ranked : (rank : ℕ → ℕ) × Falls d t class y c rank
  ranked = (rank, falls)
