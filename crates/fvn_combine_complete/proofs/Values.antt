-- The values of classes: constants are single summands, and bound classes have summands.
use Rattle.std.proofs.Common.{◌≡◌, ◌≢◌, ◌⊎◌, ℕ, ◌+◌, ◌<◌, ◌≤◌, List, [], ◌∷◌, length, get_or, refl, sym, ap, ◌∙◌, subst, inl, inr, arith, Contains, Option, Some, slice_get}
use Rattle.std.specs.Prelude.{pos, ◌-ℤ◌}
use Rattle.std.proofs.lemmas.Bool.{cases_eq, eq-eqb, ne_eqb}
use Rattle.fvn_base.proofs.Membership.{contains_filter}
use Rattle.fvn_terms.specs.declared.plain.OpId.{OpId}
use Rattle.fvn_terms.specs.declared.declarations.Declarations.{Declarations}
use Rattle.fvn_terms.specs.Signature.{axioms}
use Rattle.fvn_terms.specs.Equality.{IsAssociative, identity}
use Rattle.fvn_forms.specs.Flat.{FlatTerm, fconstant}
use Rattle.fvn_forms.specs.InOrder.{one_if, count}
use Rattle.fvn_forms.specs.Canon.{parts, build}
use Rattle.fvn_forms.proofs.InOrder.{count_itself}
use Rattle.fvn_forms.proofs.Sums.{same_op_itself}
use Rattle.fvn_forms.proofs.Build.{count_parts_build}
use Rattle.fvn_lindio.specs.Systems.{above, below}
use Rattle.fvn_flat.specs.Forms.{head_of}
use Rattle.fvn_flat.specs.SolvedLists.{component}
use Rattle.fvn_flat.specs.Partitions.{HasNoIdentity}
use Rattle.fvn_combine_nodes.specs.Table.{NodeTable, IsWellMade, IsOver}
use Rattle.fvn_combine_nodes.specs.States.{class_of}
use Rattle.fvn_combine_nodes.specs.declared.state.State.{State}
use Rattle.fvn_combine_nodes.proofs.Heading.{identity_of, some_part}
use Rattle.fvn_combine_systems.specs.NodeSystems.{is_headed, addends, stands_in, coefficient}
use Rattle.fvn_combine_systems.proofs.Members.{over_addends}
use Rattle.fvn_combine_systems.proofs.Weighing.{balance}
use Rattle.fvn_combine_leaves.specs.Leaves.{IsSolid, Uses, IsShared, HasTwin, IsSingle, MayBeConstant, AreTold, IsLive, IsNotedSum, IsOneSummand, IsLeaf}
use Rattle.fvn_combine_choices.specs.Binding.{IsBound, solid, alone, tagged, IsConstant, IsRequired}
use Rattle.fvn_combine_choices.specs.Tables.{HasSums}
use Rattle.fvn_combine_complete.specs.Obeying.{IsTold, GoWith, IsSumOf, IsSumOrIdentityOf, ObeyHeads, IsTakenAsSum, ObeyTags, TagsFollow}
use Rattle.fvn_combine_complete.proofs.Heads.{single_part}
use Rattle.fvn_combine_complete.proofs.Identities.{IsName, own_name, no_twin_identity}
use Rattle.fvn_combine_complete.proofs.Singles.{solid_head, told_differ, solid_no_identity}
use Rattle.fvn_combine_complete.proofs.Taken.{some_counted}
use Rattle.fvn_combine_complete.proofs.TwoSummands.{two_summands}

equal_parts : (m n : ℕ) → pos m -ℤ pos n ≡ pos 0 → m ≡ n
equal_parts m n e = let b = balance m n in let a : above (pos m -ℤ pos n) ≡ 0 = ap above e in let c : below (pos m -ℤ pos n) ≡ 0 = ap below e in omega (arith, a, b, c)

-- why a constant is none that is bound
pub constant_why : (d : Declarations) (t : NodeTable) (class : ℕ → ℕ) → IsTold d t class → (tag : ℕ → Option OpId) (f : OpId) (k : ℕ) → IsConstant d t class tag f k → ((g : OpId) × (g ≢ f) × IsSolid d t class g k) ⊎ IsShared d t class k
constant_why d t class told tag f k h = elim (told.heads k) [
  | inl p ↦ inl (p.0, λ e. h.not_bound (solid h.used.associative (subst (λ o. IsSolid d t class o k) e p.1)), p.1)
  | inr soft ↦ elim (told.users f k) [
    | inl u ↦ inr (record { soft = soft; first = u.0; second = f; different = u.1; uses_first = u.2; uses_second = h.used })
    | inr only ↦ absurd (h.not_bound (alone h.used soft only))
  ]
]

pub may_be : (d : Declarations) (t : NodeTable) (class : ℕ → ℕ) → IsTold d t class → (tag : ℕ → Option OpId) (f : OpId) (k : ℕ) → IsConstant d t class tag f k → MayBeConstant d t class f k
may_be d t class told tag f k h = record { used = h.used; why = constant_why d t class told tag f k h }

module _ (d : Declarations) (t : NodeTable) (made : IsWellMade t) (has : HasSums d t) (s : State) {heads : List (Option OpId)} (leaf : IsLeaf d t heads s) (told : IsTold d t (class_of s)) (values : ℕ → FlatTerm) (go_with : GoWith d t s values) (tag : ℕ → Option OpId) (obey : ObeyTags d t (class_of s) tag values) where
  abbrev class : ℕ → ℕ
  class = class_of s

  -- an operator without an identity that heads a member heads the value
  pub head_of_solid : (f : OpId) (k : ℕ) → IsSolid d t class f k → head_of (values k) ≡ Some f
  head_of_solid = solid_head d t made has s leaf.closed values go_with

  -- its value is no sum of f, and not f's identity
  constant_other : (f : OpId) (k : ℕ) → IsConstant d t class tag f k → IsShared d t class k → IsSumOrIdentityOf d f (values k) → ⊥
  constant_other f k h shared is = h.not_bound (tagged h.used shared ((obey k f shared h.used).found is))

  constant_no_sum : (f : OpId) (k : ℕ) → IsConstant d t class tag f k → IsSumOf f (values k) → ⊥
  constant_no_sum f k h sum = elim (constant_why d t class told tag f k h) [
    | inl p ↦ p.1 (let e : Some p.0 ≡ Some f = sym (head_of_solid p.0 k p.2) ∙ ap head_of sum.1 in cc)
    | inr shared ↦ constant_other f k h shared (inl sum)
  ]

  constant_no_identity : (f : OpId) (k : ℕ) → IsConstant d t class tag f k → (e : OpId) → identity (axioms d f) ≡ Some e → values k ≡ fconstant e → ⊥
  constant_no_identity f k h e i is = elim (constant_why d t class told tag f k h) [
    | inr shared ↦ constant_other f k h shared (inr (e, i, is))
    | inl q ↦ solid_no_identity d t made has s leaf.closed values go_with leaf.partition f k h.used q.0 q.2 e i is
  ]

  -- a constant is a single summand
  pub constant_alone : (f : OpId) (k : ℕ) → IsConstant d t class tag f k → parts d f (values k) ≡ values k ∷ []
  constant_alone f k h = single_part d f (values k) (constant_no_sum f k h) (constant_no_identity f k h)

  -- a single summand is a constant, whatever the tags are
  pub single_constant : (f : OpId) (k : ℕ) → IsSingle d t class f k → IsConstant d t class tag f k
  single_constant f k h = record { used = h.used; not_bound = unbound }
    where
      unbound : IsBound d t class tag f k → ⊥
      unbound (solid associative own) = h.other (let e : Some h.head ≡ Some f = sym (head_of_solid h.head k h.solid) ∙ head_of_solid f k own in cc)
      unbound (alone used soft only) = soft h.head h.solid
      unbound (tagged used shared is) = shared.soft h.head h.solid

  -- so is a class of which another operator that uses it is noted, where the tags follow
  summand_constant : TagsFollow d t class tag values heads → (f : OpId) (k : ℕ) → IsOneSummand d t heads class f k → IsConstant d t class tag f k
  summand_constant follow f k (inl single) = single_constant f k single
  summand_constant follow f k (inr h) = record { used = h.used; not_bound = unbound }
    where
      unbound : IsBound d t class tag f k → ⊥
      unbound (solid associative own) = h.shared.soft f own
      unbound (alone used soft only) = h.other (only h.operator h.uses)
      unbound (tagged used shared is) =
          h.other (let e : Some h.operator ≡ Some f = sym ((follow k h.operator h.shared h.uses).noted h.noted) ∙ is in cc)

  name_of : (f : OpId) (k : ℕ) → IsConstant d t class tag f k → IsName t class k
  name_of f k h = own_name d t made s leaf.closed f k h.used.column

  -- a constant is not noted as a sum
  pub constant_not_noted : ObeyHeads d t s heads values → TagsFollow d t class tag values heads → (f : OpId) (k : ℕ) → IsConstant d t class tag f k → IsNotedSum d t heads f k → ⊥
  constant_not_noted obey_heads follow f k h noted = elim (constant_why d t class told tag f k h) [
    | inr shared ↦ h.not_bound (tagged h.used shared ((follow k f shared h.used).noted noted))
    | inl p ↦ elim (obey_heads k f (name_of f k h).within noted) [
      | inl sum ↦ constant_no_sum f k h sum
      | inr label ↦ label.room.shared.soft p.0 p.2
    ]
  ]

  -- two constants that are touched together differ
  pub constants_differ : (f : OpId) (k l : ℕ) → IsConstant d t class tag f k → IsConstant d t class tag f l → k ≢ l → AreTold d t s k l → values k ≢ values l
  constants_differ f k l hk hl = told_differ d t made has s leaf.closed values go_with f k l hk.used.column hl.used.column

  -- a solution that adds each constant once, and whose constants all have one value, may stand for a summand
  pub alike_live : TagsFollow d t class tag values heads → (f : OpId) (columns solution : List ℕ) → ((k : ℕ) → IsConstant d t class tag f k → component columns solution k ≤ 1)
      → ((k l : ℕ) → IsConstant d t class tag f k → IsConstant d t class tag f l → 0 < component columns solution k → 0 < component columns solution l → values k ≡ values l)
      → IsLive d t heads s f columns solution
  alike_live follow f columns solution once alike = record {
    once = λ k one. once k (summand_constant follow f k one);
    told = λ k l n one other left right told_apart.
        let hk = summand_constant follow f k one in
        let hl = summand_constant follow f l other in
        constants_differ f k l hk hl n told_apart (alike k l hk hl left right);
  }

  -- what an associative operator without an identity heads is used
  module _ (f : OpId) (k : ℕ) (assoc : IsAssociative (axioms d f)) (h : IsSolid d t class f k) where
    solid_over : (ks : List ℕ) → IsOver t.nodes h.member f ks → length ks ≡ 2 → Contains t.subterms h.member → Uses d t class f k
    solid_over [] over n c = absurd (omega (arith, n))
    solid_over (a ∷ []) over n c = absurd (omega (arith, n))
    solid_over (a ∷ b ∷ x ∷ ks) over n c = absurd (omega (arith, n))
    solid_over (a ∷ b ∷ []) over n c =
        record {
          associative = assoc;
          column = record {
            sum = h.member;
            left = a;
            right = b;
            listed = c;
            over = over;
            among = (0, omega arith, h.of);
            no_identity = λ z. no_unit z;
          };
          row = h.member;
          listed = contains_filter (λ i. is_headed f (slice_get t.nodes i)) t.subterms h.member c (ap (is_headed f) over ∙ same_op_itself f);
          other = λ z. not_zero (sym (ap (λ o. coefficient class h.member o k) addends_are) ∙ z);
        }
      where
        addends_are : addends f (slice_get t.nodes h.member) ≡ Some (a, b)
        addends_are = ap (addends f) over ∙ over_addends f a b

        no_unit : (u : (j : ℕ) × (p : OpId × ℕ) × (j < length t.units) × (get_or t.units j p ≡ p) × ((p.0 ≡ f) × (class p.1 ≡ k))) → ⊥
        no_unit (j, p, l, at, same) = let u = has.units p (j, l, at) in identity_of (axioms d f) u.0 h.no_identity (ap (λ o. identity (axioms d o)) (sym same.0) ∙ u.1)

        one : (x : ℕ) → class x ≡ k → stands_in class k x ≡ 1
        one x e = ap one_if (eq-eqb (class x) k e)

        none : (x : ℕ) → (class x ≡ k → ⊥) → stands_in class k x ≡ 0
        none x n = ap one_if (ne_eqb (class x) k n)

        value : values k ≡ build d f (values (class a) ∷ values (class b) ∷ [])
        value = ap values (sym h.of) ∙ go_with.are.built h.member f (a ∷ b ∷ []) over

        counted : (q : FlatTerm) → count q (parts d f (values k)) ≡ count q (parts d f (values (class a))) + count q (parts d f (values (class b)))
        counted q = ap (λ v. count q (parts d f v)) value ∙ count_parts_build d f assoc q (values (class a)) (values (class b)) (go_with.are.settled (class a)) (go_with.are.settled (class b))

        -- one of the two has no summands where the other is of the class
        empty : (x : ℕ) → ((q : FlatTerm) → count q (parts d f (values (class x))) ≡ 0) → ⊥
        empty x z = go (parts d f (values (class x))) refl (some_part d f h.no_identity (values (class x)) (go_with.are.settled (class x)))
          where
            go : (l : List FlatTerm) → parts d f (values (class x)) ≡ l → 1 ≤ length (parts d f (values (class x))) → ⊥
            go [] e n = let m = ap length e in omega (arith, m, n)
            go (q ∷ qs) e n = let m = count_itself q qs in let o = ap (count q) e in let w = z q in omega (arith, m, o, w)

        not_zero : pos (stands_in class k a + stands_in class k b) -ℤ pos (stands_in class k h.member) ≡ pos 0 → ⊥
        not_zero z =
            let e = equal_parts (stands_in class k a + stands_in class k b) (stands_in class k h.member) z in
            let w = one h.member h.of in
            elim (cases_eq (class a) k) [
              | inl ca ↦ elim (cases_eq (class b) k) [
                | inl cb ↦ let p = one a ca in let q = one b cb in omega (arith, e, w, p, q)
                | inr nb ↦ empty b (λ q. let m = counted q in let o = ap (λ c. count q (parts d f (values c))) ca in omega (arith, m, o))
              ]
              | inr na ↦ elim (cases_eq (class b) k) [
                | inl cb ↦ empty a (λ q. let m = counted q in let o = ap (λ c. count q (parts d f (values c))) cb in omega (arith, m, o))
                | inr nb ↦ let p = none a na in let q = none b nb in omega (arith, e, w, p, q)
              ]
            ]

    pub solid_used : Uses d t class f k
    solid_used = let p = has.pairs h.member f h.arguments h.over assoc in solid_over h.arguments h.over p.0 p.1

  pub bound_used : (f : OpId) (k : ℕ) → IsBound d t class tag f k → Uses d t class f k
  bound_used f k (solid assoc h) = solid_used f k assoc h
  bound_used f k (alone u soft only) = u
  bound_used f k (tagged u shared e) = u

  -- a required class has a summand
  pub required_some : (f : OpId) (k : ℕ) → IsRequired d t class tag f k → (q : FlatTerm) × (0 < count q (parts d f (values k)))
  required_some f k h = some_counted (parts d f (values k)) (long h.why h.bound)
    where
      with_twin : HasTwin d t class f k → IsBound d t class tag f k → 1 ≤ length (parts d f (values k))
      with_twin twin (solid assoc p) = some_part d f p.no_identity (values k) (go_with.are.settled k)
      with_twin twin (alone u soft only) = absurd (twin.other (only twin.twin twin.uses))
      with_twin twin (tagged u shared e) = elim ((obey k f shared u).meant e) [
        | inr one ↦ single one
        | inl is ↦ elim is [
          | inl sum ↦ (let two = two_summands d f sum.0 (values k) sum.1 (go_with.are.settled k) in omega (arith, two))
          | inr unit ↦ absurd (no_twin_identity d t made has s leaf values go_with f k shared u twin unit.0 unit.1 unit.2)
        ]
      ]
        where
          single : IsTakenAsSum d t class tag values f k → 1 ≤ length (parts d f (values k))
          single h =
              let n = ap length (single_part d f (values k) (λ sum. h.one f u (inl sum)) (λ o i is. h.one f u (inr (o, i, is)))) in
              omega (arith, n)

      long : HasNoIdentity (axioms d f) ⊎ HasTwin d t class f k → IsBound d t class tag f k → 1 ≤ length (parts d f (values k))
      long (inl bare) b = some_part d f bare (values k) (go_with.are.settled k)
      long (inr twin) b = with_twin twin b
