-- Classes whose values have two summands or more.
use Rattle.std.proofs.Common.{◌≡◌, ◌⊎◌, ℕ, ◌≤◌, true, List, [], ◌∷◌, ◌++◌, length, sym, ap, ◌∙◌, subst, inl, inr, arith, Option}
use Rattle.std.specs.Prelude.{cond}
use Rattle.std.proofs.lemmas.List.{length-append}
use Rattle.fvn_terms.specs.declared.plain.OpId.{OpId}
use Rattle.fvn_terms.specs.declared.declarations.Declarations.{Declarations}
use Rattle.fvn_terms.specs.Signature.{axioms}
use Rattle.fvn_terms.specs.Equality.{IsAssociative}
use Rattle.fvn_forms.specs.Flat.{FlatTerm, FlatTerms, fapp, funpack}
use Rattle.fvn_forms.specs.Canon.{parts, all_parts}
use Rattle.fvn_forms.specs.Settled.{Settled}
use Rattle.fvn_forms.proofs.Build.{parts_build, parts_identity}
use Rattle.fvn_forms.proofs.InOrder.{length_sort}
use Rattle.fvn_forms.proofs.Sums.{same_op_itself}
use Rattle.fvn_combine_nodes.specs.Table.{NodeTable, IsWellMade, IsOver}
use Rattle.fvn_combine_nodes.specs.States.{class_of}
use Rattle.fvn_combine_nodes.specs.declared.state.State.{State}
use Rattle.fvn_combine_leaves.specs.Leaves.{IsLeaf, IsSolid, IsShared}
use Rattle.fvn_combine_choices.specs.Binding.{IsBound, solid, alone, tagged}
use Rattle.fvn_combine_choices.specs.Tables.{HasSums}
use Rattle.fvn_combine_complete.specs.Obeying.{IsTold, GoWith, IsTakenAsSum, ObeyTags}
use Rattle.fvn_combine_nodes.proofs.Heading.{some_part}

-- a form that is a sum of f has two summands
pub two_summands : (d : Declarations) (f : OpId) (ts : FlatTerms) (v : FlatTerm) → v ≡ fapp f true ts → Settled d v → 2 ≤ length (parts d f v)
two_summands d f ts v is settled =
    let two = (subst (Settled d) is settled).0.two_or_more in
    let p : parts d f (fapp f true ts) ≡ funpack ts = ap (λ b. cond b (funpack ts) (fapp f true ts ∷ [])) (same_op_itself f) in
    let n = ap length (ap (parts d f) is ∙ p) in
    omega (arith, two, n)

module _ (d : Declarations) (t : NodeTable) (made : IsWellMade t) (has : HasSums d t) (s : State) {heads : List (Option OpId)} (leaf : IsLeaf d t heads s) (told : IsTold d t (class_of s)) (values : ℕ → FlatTerm) (go_with : GoWith d t s values) (tag : ℕ → Option OpId) (obey : ObeyTags d t (class_of s) tag values) where
  abbrev class : ℕ → ℕ
  class = class_of s

  -- a shared class that is bound to f has two summands, where it has one, or is taken as a sum
  pub shared_two : (f : OpId) (k : ℕ) → IsShared d t class k → IsBound d t class tag f k → 1 ≤ length (parts d f (values k)) → (2 ≤ length (parts d f (values k))) ⊎ IsTakenAsSum d t class tag values f k
  shared_two f k shared (solid assoc p) some = absurd (shared.soft f p)
  shared_two f k shared (alone u soft only) some = absurd (shared.different (only shared.first shared.uses_first ∙ sym (only shared.second shared.uses_second)))
  shared_two f k shared (tagged u again e) some = elim ((obey k f shared u).meant e) [
    | inr one ↦ inr one
    | inl is ↦ elim is [
      | inl sum ↦ inl (two_summands d f sum.0 (values k) sum.1 (go_with.are.settled k))
      | inr unit ↦ absurd (let none = ap length (ap (parts d f) unit.2 ∙ parts_identity d f unit.0 unit.1) in omega (arith, none, some))
    ]
  ]

  pub solid_two : (f : OpId) (k : ℕ) → IsAssociative (axioms d f) → IsSolid d t class f k → 2 ≤ length (parts d f (values k))
  solid_two f k assoc h = over h.arguments h.over (has.pairs h.member f h.arguments h.over assoc).0
    where
      over : (ks : List ℕ) → IsOver t.nodes h.member f ks → length ks ≡ 2 → 2 ≤ length (parts d f (values k))
      over [] o n = absurd (omega (arith, n))
      over (a ∷ []) o n = absurd (omega (arith, n))
      over (a ∷ b ∷ x ∷ ks) o n = absurd (omega (arith, n))
      over (a ∷ b ∷ []) o n =
          let va = values (class a) in
          let vb = values (class b) in
          let sa = go_with.are.settled (class a) in
          let sb = go_with.are.settled (class b) in
          let is = ap (parts d f) (ap values (sym h.of) ∙ go_with.are.built h.member f (a ∷ b ∷ []) o) ∙ parts_build d f assoc va (vb ∷ []) (sa, (sb, tt)) in
          let l = ap length is in
          let m = length_sort (all_parts d f (va ∷ vb ∷ [])) in
          let p = length-append (parts d f va) (parts d f vb ++ []) in
          let q = length-append (parts d f vb) [] in
          let na = some_part d f h.no_identity va sa in
          let nb = some_part d f h.no_identity vb sb in
          omega (arith, l, m, p, q, na, nb)
