-- The sums by an operator among the nodes.
use Rattle.std.proofs.Common.{◌≡◌, ℕ, ◌<◌, Bool, true, false, List, [], ◌∷◌, length, refl, sym, ap, ◌∙◌, inl, inr, Option, Some, None, All, Contains, slice_get, arith}
use Rattle.std.specs.Prelude.{if◌then◌else◌, IfSome}
use Rattle.std.proofs.lemmas.Option.{slice_get_within}
use Rattle.fvn_base.proofs.Membership.{contains_cases, contains_none, contains_filter, filter_contains}
use Rattle.fvn_terms.specs.declared.plain.OpId.{OpId}
use Rattle.fvn_forms.specs.Canon.{same_op}
use Rattle.fvn_forms.proofs.Sums.{same_op_is, same_op_itself}
use Rattle.fvn_combine_nodes.specs.Table.{NodeTable, IsOrdered, IsOver}
use Rattle.fvn_combine_nodes.specs.declared.table.Node.{Node}
use Rattle.fvn_combine_nodes.specs.declared.table.Node.TheVariants.{Var, App}
use Rattle.fvn_combine_nodes.proofs.Nodes.{arguments_within}
use Rattle.fvn_combine_systems.specs.NodeSystems.{is_headed, pair, addends, sums, IsNodeColumn}

pub pair_is : (ks : List ℕ) (p : ℕ × ℕ) → pair ks ≡ Some p → ks ≡ p.0 ∷ p.1 ∷ []
pair_is [] p e = cc
pair_is (a ∷ []) p e = cc
pair_is (a ∷ b ∷ []) p e =
    let q : (a, b) ≡ p = cc in
    ap (λ r. r.0 ∷ r.1 ∷ []) q
pair_is (a ∷ b ∷ c ∷ ks) p e = cc

-- a node that has arguments is the operator over them
pub addends_over : (f : OpId) (n : Option Node) (p : ℕ × ℕ) → addends f n ≡ Some p → n ≡ Some (App f (p.0 ∷ p.1 ∷ []))
addends_over f None p e = cc
addends_over f (Some (Var x)) p e = cc
addends_over f (Some (App g ks)) p e = go (same_op f g) refl e
  where
    go : (b : Bool) → same_op f g ≡ b → (if b then pair ks else None) ≡ Some p → Some (App g ks) ≡ Some (App f (p.0 ∷ p.1 ∷ []))
    go true s h = let q = pair_is ks p h in let o = same_op_is f g s in ap (λ l. Some (App g l)) q ∙ ap (λ h. Some (App h (p.0 ∷ p.1 ∷ []))) (sym o)
    go false s h = cc

pub over_addends : (f : OpId) (a b : ℕ) → addends f (Some (App f (a ∷ b ∷ []))) ≡ Some (a, b)
over_addends f a b = ap (λ t. if t then Some (a, b) else None) (same_op_itself f)

pub over_headed : (f : OpId) (ks : List ℕ) → is_headed f (Some (App f ks)) ≡ true
over_headed f ks = same_op_itself f

-- what f heads is f over some nodes
pub headed_over : (f : OpId) (n : Option Node) → is_headed f n ≡ true → (ks : List ℕ) × (n ≡ Some (App f ks))
headed_over f None e = cc
headed_over f (Some (Var x)) e = cc
headed_over f (Some (App g ks)) e = let o = same_op_is f g e in (ks, ap (λ h. Some (App h ks)) (sym o))

-- a sum by f is listed among these
pub listed_sum : (t : NodeTable) (f : OpId) (i : ℕ) (ks : List ℕ) → Contains t.subterms i → IsOver t.nodes i f ks → Contains (sums t f) i
listed_sum t f i ks c over = contains_filter (λ i. is_headed f (slice_get t.nodes i)) t.subterms i c (ap (is_headed f) over ∙ over_headed f ks)

pub sum_listed : (t : NodeTable) (f : OpId) (i : ℕ) → Contains (sums t f) i → Contains t.subterms i × (is_headed f (slice_get t.nodes i) ≡ true)
sum_listed t f i c = filter_contains (λ i. is_headed f (slice_get t.nodes i)) t.subterms i c

-- two of a list of numbers below n are below n
pub pair_within : (n : ℕ) (ks : List ℕ) → All (λ k. k < n) ks → IfSome (pair ks) (λ p. (p.0 < n) × (p.1 < n))
pair_within n [] h = tt
pair_within n (a ∷ []) h = tt
pair_within n (a ∷ b ∷ []) h = (h 0 0 (omega arith), h 1 0 (omega arith))
pair_within n (a ∷ b ∷ c ∷ ks) h = tt

-- the class of a column is that of a node
pub column_of_node : {t : NodeTable} {class : ℕ → ℕ} → IsOrdered t.nodes → (f : OpId) (k : ℕ) → IsNodeColumn t class f k → (i : ℕ) × ((i < length t.nodes) × (class i ≡ k))
column_of_node {t} {class} ordered f k h =
    let args = arguments_within t.nodes ordered h.sum f (h.left ∷ h.right ∷ []) h.over in
    elim (contains_cases (class h.sum) (class h.left ∷ class h.right ∷ []) k h.among) [
      | inl e ↦ (h.sum, (slice_get_within t.nodes h.sum (App f (h.left ∷ h.right ∷ [])) h.over, e))
      | inr r ↦ elim (contains_cases (class h.left) (class h.right ∷ []) k r) [
        | inl e ↦ (h.left, (args 0 0 (omega arith), e))
        | inr q ↦ elim (contains_cases (class h.right) [] k q) [
          | inl e ↦ (h.right, (args 1 0 (omega arith), e))
          | inr z ↦ absurd (contains_none k z)
        ]
      ]
    ]
