-- What a reading tells of all classes.
use Rattle.std.proofs.Common.{◌≡◌, ◌≢◌, ◌⊎◌, ℕ, zero, suc, ◌<◌, true, false, List, [], ◌∷◌, length, get_or, refl, sym, ap, ◌∙◌, subst, inl, inr, arith, Option, Some, None}
use Rattle.std.specs.Prelude.{Bool, nat_eq, ◌&&◌, ◌||◌}
use Rattle.std.proofs.lemmas.Bool.{cases_lt, cases_Bool, eqb-true, eq-eqb, and_parts, and_from, or_cases, or_left, or_right, true≢false}
use Rattle.std.proofs.lemmas.List.{get_or_default}
use Rattle.std.proofs.lemmas.List.Elements.{All-contains}
use Rattle.fvn_base.specs.Decided.{Decided}
use Rattle.fvn_base.proofs.Decided.{some_or_none}
use Rattle.fvn_base.proofs.Membership.{map_contains}
use Rattle.fvn_terms.specs.declared.plain.OpId.{OpId}
use Rattle.fvn_terms.specs.declared.declarations.Declarations.{Declarations}
use Rattle.fvn_forms.specs.Canon.{same_op}
use Rattle.fvn_forms.proofs.Sums.{same_op_is, same_op_itself}
use Rattle.fvn_combine_nodes.specs.Table.{NodeTable}
use Rattle.fvn_combine_nodes.specs.States.{IsClosed, class_of}
use Rattle.fvn_combine_nodes.specs.declared.state.State.{State}
use Rattle.fvn_combine_nodes.specs.declared.table.Node.TheVariants.{App}
use Rattle.fvn_combine_nodes.proofs.Admitting.{named_within}
use Rattle.std.proofs.lemmas.Option.{slice_get_within}
use Rattle.fvn_combine_leaves.specs.Leaves.{IsSolid, Uses}
use Rattle.fvn_combine_leaves.specs.Readings.{AreSums, IsReading}
use Rattle.fvn_combine_leaves.specs.declared.reading.Sums.{Sums}
use Rattle.fvn_combine_leaves.specs.declared.reading.Reading.{Reading}
use Rattle.fvn_combine_complete.specs.Obeying.{IsTold}

-- whether a column of class k is marked
abbrev is_marked : List ℕ → List Bool → ℕ → Bool
is_marked [] marks k = false
is_marked (c ∷ columns) [] k = false
is_marked (c ∷ columns) (b ∷ marks) k = (nat_eq c k && b) || is_marked columns marks k

marked_at : (columns : List ℕ) (marks : List Bool) (k : ℕ) → is_marked columns marks k ≡ true → (j : ℕ) × (j < length columns) × (get_or columns j 0 ≡ k) × (get_or marks j false ≡ true)
marked_at [] marks k e = cc
marked_at (c ∷ columns) [] k e = cc
marked_at (c ∷ columns) (b ∷ marks) k e = elim (or_cases (nat_eq c k && b) (is_marked columns marks k) e) [
  | inl h ↦ let p = and_parts (nat_eq c k) b h in (0, omega arith, eqb-true c k p.0, p.1)
  | inr h ↦ let r = marked_at columns marks k h in (suc r.0, let l = r.1 in omega (arith, l), r.2, r.3)
]

marked_from : (columns : List ℕ) (marks : List Bool) (k j : ℕ) → j < length columns → get_or columns j 0 ≡ k → get_or marks j false ≡ true → is_marked columns marks k ≡ true
marked_from [] marks k j l e m = absurd (omega (arith, l))
marked_from (c ∷ columns) [] k j l e m = absurd (true≢false (sym m))
marked_from (c ∷ columns) (b ∷ marks) k zero l e m = or_left (nat_eq c k && b) (is_marked columns marks k) (and_from (nat_eq c k) b (eq-eqb c k e) m)
marked_from (c ∷ columns) (b ∷ marks) k (suc j) l e m = or_right (nat_eq c k && b) (is_marked columns marks k) (marked_from columns marks k j (omega (arith, l)) e m)

-- another operator than f whose column of class k is marked
abbrev IsOther : OpId → ℕ → Sums → Type 0
IsOther f k e = (e.operator ≢ f) × (is_marked e.columns e.used k ≡ true)

other_told : (f : OpId) (k : ℕ) (e : Sums) → Decided (IsOther f k e)
other_told f k e = elim (cases_Bool (same_op e.operator f)) [
  | inl s ↦ inr (λ h. h.0 (same_op_is e.operator f s))
  | inr n ↦ elim (cases_Bool (is_marked e.columns e.used k)) [
    | inl m ↦ inl (λ same. true≢false (sym (ap (λ g. same_op e.operator g) (sym same) ∙ same_op_itself e.operator) ∙ n), m)
    | inr m ↦ inr (λ h. true≢false (sym h.1 ∙ m))
  ]
]

pub readings_tell : (d : Declarations) (t : NodeTable) (s : State) → IsClosed d t s → (r : Reading) → IsReading d t (class_of s) r → IsTold d t (class_of s)
readings_tell d t s closed r reading = record { heads = heads; users = users }
  where
    heads : (k : ℕ) → ((g : OpId) × IsSolid d t (class_of s) g k) ⊎ ((g : OpId) → IsSolid d t (class_of s) g k → ⊥)
    heads k = elim (cases_lt k (length t.nodes)) [
      | inl l ↦ at k l (get_or r.heads k None) refl
      | inr past ↦ inr (λ g h.
          let m = slice_get_within t.nodes h.member (App g h.arguments) h.over in
          let w = closed.whole in
          let n = named_within s closed.naming h.member (omega (arith, m, w)) in
          let e = h.of in
          omega (arith, n, e, w, past))
    ]
      where
        at : (k : ℕ) → k < length t.nodes → (o : Option OpId) → get_or r.heads k None ≡ o → ((g : OpId) × IsSolid d t (class_of s) g k) ⊎ ((g : OpId) → IsSolid d t (class_of s) g k → ⊥)
        at k l (Some f) e = inl (f, (reading.heads.exact k f l).0 e)
        at k l None e = inr (λ g h. let n : None ≡ Some g = sym e ∙ (reading.heads.exact k g l).1 h in cc)

    users : (f : OpId) (k : ℕ) → ((g : OpId) × (g ≢ f) × Uses d t (class_of s) g k) ⊎ ((g : OpId) → Uses d t (class_of s) g k → g ≡ f)
    users f k = elim (some_or_none (IsOther f k) (other_told f k) r.sums) [
      | inl h ↦
          let e = h.0 in
          let are = All-contains (AreSums d t (class_of s)) r.sums e reading.sums h.1.0 in
          let m = marked_at e.columns e.used k h.1.1.1 in
          inl (e.operator, h.1.1.0, subst (Uses d t (class_of s) e.operator) m.2 ((are.exact m.0 m.1).0 m.3))
      | inr none ↦ inr (λ g u. elim (cases_Bool (same_op g f)) [
        | inl same ↦ same_op_is g f same
        | inr n ↦ absurd (
            let c = map_contains (λ e. e.operator) r.sums g ((reading.operators.exact g).1 (record { associative = u.associative; sum = u.row; listed = u.listed })) in
            let e = c.0 in
            let are = All-contains (AreSums d t (class_of s)) r.sums e reading.sums c.1.0 in
            let v : Uses d t (class_of s) e.operator k = subst (λ o. Uses d t (class_of s) o k) (sym c.1.1) u in
            let m = (are.is_system.exact k).1 v.column in
            let at : get_or e.columns m.0 0 ≡ k = get_or_default e.columns m.0 0 k m.1 ∙ m.2 in
            let mark = (are.exact m.0 m.1).1 (subst (Uses d t (class_of s) e.operator) (sym at) v) in
            none e c.1.0 (
              λ is. true≢false (sym (ap (λ o. same_op o f) (sym c.1.1 ∙ is) ∙ same_op_itself f) ∙ n),
              marked_from e.columns e.used k m.0 m.1 at mark,
            ))
      ])
    ]
