-- Labels from which operators are taken out until their classes have room for those that are left.
use Rattle.std.proofs.Common.{◌≡◌, ◌≢◌, ◌⊎◌, ℕ, zero, suc, ◌<◌, List, [], ◌∷◌, length, get_or, set, sym, ap, ◌∙◌, subst, subst₂, slice_get, inl, inr, arith, Option, Some, None, Contains, IfSome}
use Rattle.std.specs.Prelude.{if◌then◌else◌}
use Rattle.std.proofs.lemmas.Bool.{cases_eq, ne_eqb}
use Rattle.std.proofs.lemmas.List.{get_or-set_same, get_or-set_other}
use Rattle.std.proofs.lemmas.List.Elements.{All-contains}
use Rattle.fvn_base.proofs.Membership.{contains_later, contains_map}
use Rattle.fvn_terms.specs.declared.plain.OpId.{OpId}
use Rattle.fvn_terms.specs.declared.declarations.Declarations.{Declarations}
use Rattle.fvn_terms.specs.Signature.{axioms}
use Rattle.fvn_lindio.specs.declared.system.Solution.{Solution}
use Rattle.fvn_lindio.specs.Systems.{IsMinimal, rows_of}
use Rattle.fvn_flat.specs.Partitions.{HasNoIdentity}
use Rattle.fvn_flat.specs.SolvedLists.{component}
use Rattle.fvn_combine_nodes.specs.Table.{NodeTable, IsWellMade, IsOver}
use Rattle.fvn_combine_nodes.specs.States.{IsClosed, class_of}
use Rattle.fvn_combine_nodes.specs.declared.state.State.{State}
use Rattle.fvn_combine_systems.proofs.Weighing.{component_at}
use Rattle.fvn_combine_leaves.specs.Leaves.{IsShared, MayBeConstant, IsSingle, AreTouched, AreTold, IsAlive, IsNotedSum, HasSpace, HasRoom, AreLabels}
use Rattle.fvn_combine_leaves.specs.Bases.{AreBases, HaveAlive}
use Rattle.fvn_combine_leaves.specs.Readings.{AreSums, IsReading}
use Rattle.fvn_combine_leaves.specs.Users.{IsSharedIn, CanBeConstant}
use Rattle.fvn_combine_leaves.specs.declared.reading.Sums.{Sums}
use Rattle.fvn_combine_leaves.specs.declared.reading.Reading.{Reading}
use Rattle.fvn_combine_leaves.proofs.ReadOfState.{column_within, marked_from, shared_in, shared_from}
use Rattle.fvn_combine_questions.specs.inner.Labels.{IsOtherLabel, IsSingleClass, HasFree, HasSpaceIn, IsToldFrom, StandsApart, AreClassesOf, IsMember, IsRoom, HasRoomIn, IsRoomFor, AreKept, IsWithin, some_of}
use Rattle.fvn_combine_questions.proofs.ColumnsOfLeaves.{contained_at, can_be, sums_at, node_at, told_of, column_at, column_of, own_of}

-- with what is noted of a class taken out, less is noted
pub some_less : (labels : List (Option OpId)) (k : ℕ) (f : OpId) → get_or labels k None ≡ Some f → some_of (set labels k None) < some_of labels
some_less [] k f e = absurd (let z : None ≡ Some f = e in cc)
some_less (None ∷ labels) zero f e = absurd (let z : None ≡ Some f = e in cc)
some_less (Some g ∷ labels) zero f e = omega arith
some_less (None ∷ labels) (suc k) f e = some_less labels k f e
some_less (Some g ∷ labels) (suc k) f e = let less = some_less labels k f e in omega (arith, less)

-- what is left is noted by the others still
pub taken_out : (labels others : List (Option OpId)) (k : ℕ) → k < length labels → IsWithin labels others → IsWithin (set labels k None) others
taken_out labels others k l h j f e = elim (cases_eq j k) [
  | inl same ↦ absurd
      (let none : get_or (set labels k None) k None ≡ None = get_or-set_same labels k None None l in
      let z : None ≡ Some f = sym none ∙ ap (λ n. get_or (set labels k None) n None) (sym same) ∙ e in
      cc)
  | inr other ↦ h j f (sym (get_or-set_other labels k j None None other) ∙ e)
]

-- a class with a component has a column
column_listed : (columns v : List ℕ) (k : ℕ) → 0 < component columns v k → Contains columns k
column_listed [] v k p = absurd (omega (arith, p))
column_listed (c ∷ columns) [] k p = absurd (omega (arith, p))
column_listed (c ∷ columns) (n ∷ v) k p = elim (cases_eq c k) [
  | inl e ↦ (0, omega arith, e)
  | inr o ↦
      let z = ap (λ b. if b then n else component columns v k) (ne_eqb c k o) in
      contains_later c columns k (column_listed columns v k (omega (arith, z, p)))
]

-- a node that is the operator over two nodes, and in the class, is a member
pub member_from : (t : NodeTable) (s : State) (f : OpId) (k i : ℕ) (ks : List ℕ) (g : OpId) → IsOver t.nodes i g ks → g ≡ f → class_of s i ≡ k → (ls : List ℕ) → ls ≡ ks → (o : Option (ℕ × ℕ)) → IfSome o (AreClassesOf s ls) → IfSome o (IsMember t s f k i)
member_from t s f k i ks g over same of ls is None h = tt
member_from t s f k i ks g over same of ls is (Some p) h = record {
  left = h.left;
  right = h.right;
  over = subst₂ (IsOver t.nodes i) same (sym is ∙ h.nodes) over;
  of = of;
  left_is = h.left_is;
  right_is = h.right_is;
}

module _ (d : Declarations) (t : NodeTable) (made : IsWellMade t) (s : State) (closed : IsClosed d t s) (r : Reading) (reading : IsReading d t (class_of s) r) where
  module _ (bases : List (List Solution)) (are : AreBases r.sums bases) (have : HaveAlive d t s r.sums bases) (labels : List (Option OpId)) where
    -- the operator at this place, which has an identity
    module _ (i : ℕ) (e : Sums) (at : slice_get r.sums i ≡ Some e) (some : HasNoIdentity (axioms d e.operator) → ⊥) where
      system_of : AreSums d t (class_of s) e
      system_of = sums_at d t made s closed r reading i e at

      shared_at : (j : ℕ) → j < length e.columns → (l : ℕ) → get_or e.columns j 0 ≡ l → IsSharedIn r (get_or e.columns j 0) → IsShared d t (class_of s) l
      shared_at j within l is own = subst (IsShared d t (class_of s)) is (shared_from d t made s closed r reading (get_or e.columns j 0) (node_at d t made s closed r reading i e at j within) own)

      -- a column of class z has a solution without other constants
      module _ (z : ℕ) (h : HasFree r e labels (get_or bases i []) z) where
        abbrev parts : List ℕ
        parts = h.free.solution.parts

        minimal_parts : IsMinimal e.system.columns (rows_of e.system) parts
        minimal_parts = (are.each i e at).minimal parts (contains_map (λ (w : Solution). w.parts) (get_or bases i []) h.free.solution h.free.listed)

        part_at : (j : ℕ) → j < length e.columns → component e.columns parts (get_or e.columns j 0) ≡ get_or parts j 0
        part_at j l = component_at e.columns parts system_of.is_system.distinct j l

        has_class : 0 < component e.columns parts z
        has_class =
            let a = part_at h.column h.within in
            let at_z = ap (component e.columns parts) h.is in
            let has = h.free.has in
            omega (arith, a, at_z, has)

        constant_at : (j l : ℕ) → get_or e.columns j 0 ≡ l → MayBeConstant d t (class_of s) e.operator l → CanBeConstant r e (get_or e.columns j 0)
        constant_at j l is m = subst (CanBeConstant r e) (sym is) (can_be d t made s closed r reading e (contained_at r.sums i e at) l m)

        -- the solution has no other constants but shared classes that are noted as sums
        free_of : (l : ℕ) → l ≢ z → 0 < component e.columns parts l → MayBeConstant d t (class_of s) e.operator l → IsShared d t (class_of s) l × IsNotedSum d t labels e.operator l
        free_of l other has m =
            let j = column_of d t made s closed r reading i e at l m in
            let a = part_at j.0 j.1 in
            let at_l = ap (component e.columns parts) j.2 in
            let apart : j.0 ≢ h.column = λ same. other (sym j.2 ∙ ap (λ c. get_or e.columns c 0) same ∙ h.is) in
            let own = h.free.free j.0 j.1 apart (omega (arith, a, at_l, has)) (constant_at j.0 l j.2 m) in
            (shared_at j.0 j.1 l j.2 own.0, record { noted = subst (λ m. get_or labels m None ≡ Some e.operator) j.2 own.1; some = some })

        space_of : HasSpace d t labels s e.operator z
        space_of = record {
          columns = e.columns;
          system = e.system;
          is = system_of.is_system;
          solution = parts;
          minimal = minimal_parts;
          has = has_class;
          free = free_of;
        }

      -- a class that is found to be a single summand is one
      single_of : (z : ℕ) → IsSingleClass r e z → IsSingle d t (class_of s) e.operator z
      single_of z h =
          let g = h.1 in
          let uses = marked_from d t made s closed r reading e (contained_at r.sums i e at) z h.0 in
          record {
            used = uses;
            head = g.0;
            other = g.2;
            solid = (reading.heads.exact z g.0 (column_within d t made s closed e.operator z uses.column)).0 g.1;
          }

      space_at : (z : ℕ) → HasSpaceIn r e labels (get_or bases i []) z → IsSingle d t (class_of s) e.operator z ⊎ HasSpace d t labels s e.operator z
      space_at z (inl single) = inl (single_of z single)
      space_at z (inr free) = inr (space_of z free)

      -- shared classes of which other operators are noted, and that are in a solution with the class that is alive, are told from it
      told_from : (k : ℕ) → StandsApart r e labels s (get_or bases i []) k → (l : ℕ) (g : OpId) → g ≢ e.operator → IsShared d t (class_of s) l → IsNotedSum d t labels g l → (both : AreTouched d t (class_of s) e.operator k l) → IsAlive d t s e.operator both.columns both.solution → AreTold d t s k l
      told_from k h l g differs shared noted both alive =
          let own = own_of d t made s closed r reading i e at bases have both.columns both.system both.is both.solution both.minimal alive in
          let column = (both.is.exact l).0 (column_listed both.columns both.solution l both.right) in
          let j = column_at d t made s closed r reading i e at l column in
          let a = own.part h.column h.within in
          let b = own.part j.0 j.1 in
          let at_k = ap (component both.columns both.solution) h.is in
          let at_l = ap (component both.columns both.solution) j.2 in
          let left = both.left in
          let right = both.right in
          let own_shared = shared_in d t made s closed r reading l (column_within d t made s closed e.operator l column) shared in
          let from = All-contains (λ w. 0 < get_or w.parts h.column 0 → IsToldFrom r e labels s w h.column) (get_or bases i []) own.own h.apart.told own.listed (omega (arith, a, at_k, left)) in
          subst₂ (AreTold d t s) h.is j.2 (told_of d t made s closed r reading i e at h.column j.0 h.within j.1
          (from j.0 j.1 (omega (arith, b, at_l, right), subst (IsSharedIn r) (sym j.2) own_shared, subst (IsOtherLabel labels e.operator) (sym j.2) (g, noted.noted, differs))))

      room_at : (k : ℕ) → IsRoom t s r labels e (get_or bases i []) k → HasRoom d t labels s e.operator k
      room_at k (h, m) = record {
        shared = shared_at h.column h.within k h.is h.apart.shared;
        member = m.node;
        left = m.member.left;
        right = m.member.right;
        over = m.member.over;
        of = m.member.of;
        left_space = space_at (class_of s m.member.left) (subst (HasSpaceIn r e labels (get_or bases i [])) (sym m.member.left_is) m.left_space);
        right_space = space_at (class_of s m.member.right) (subst (HasSpaceIn r e labels (get_or bases i [])) (sym m.member.right_is) m.right_space);
        told = λ l g _ differs shared noted both alive. told_from k h l g differs shared noted both alive;
      }

    room_from : (f : OpId) (k : ℕ) → IsRoomFor d (HasRoomIn r bases (IsRoom t s r labels)) f k → HasRoom d t labels s f k
    room_from f k (some, h) = subst (λ o. HasRoom d t labels s o k) h.operator
        (room_at h.place h.entry h.at (subst (λ o. HasNoIdentity (axioms d o) → ⊥) (sym h.operator) some) k h.room)

    -- what is left are labels
    pub labels_are : (heads candidates : List (Option OpId)) → AreKept (IsRoomFor d (HasRoomIn r bases (IsRoom t s r labels))) heads labels → IsWithin labels candidates → AreLabels d t s heads candidates labels
    labels_are heads candidates kept within k f e = elim (kept k f e) [
      | inl known ↦ inl known
      | inr room ↦ inr (within k f e, room_from f k room)
    ]
