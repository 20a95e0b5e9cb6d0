-- Sums that clash: of what they add one has the value of their class.
use Rattle.std.proofs.Common.{◌≡◌, ◌⊎◌, ℕ, ◌<◌, List, [], ◌∷◌, length, refl, sym, ap, subst, slice_get, inl, inr, arith, Option, Some}
use Rattle.std.specs.Prelude.{Bool, IfSome}
use Rattle.fvn_terms.specs.declared.plain.OpId.{OpId}
use Rattle.fvn_terms.specs.declared.declarations.Declarations.{Declarations}
use Rattle.fvn_terms.specs.Signature.{axioms}
use Rattle.fvn_terms.specs.Equality.{IsAssociative}
use Rattle.fvn_forms.specs.Flat.{FlatTerm}
use Rattle.fvn_flat.specs.Forms.{head_of}
use Rattle.fvn_combine_nodes.specs.Table.{NodeTable, IsWellMade}
use Rattle.fvn_combine_nodes.specs.States.{IsClosed, class_of}
use Rattle.fvn_combine_nodes.specs.declared.state.State.{State}
use Rattle.fvn_combine_systems.specs.NodeSystems.{addends}
use Rattle.fvn_combine_bounds.specs.CombineChoicesTables.{HasSums}
use Rattle.fvn_combine_bounds.specs.CombineCompleteObeying.{GoWith}
use Rattle.fvn_combine_inferring.specs.Rows.{summands}
use Rattle.fvn_combine_inferring.specs.inner.Clashes.{AreEqual, IsNodeSum, IsClash}
use Rattle.fvn_combine_inferring.specs.declared.clashing.Clash.{Clash}
use Rattle.fvn_combine_inferring.proofs.Headed.{large_sum}
use Rattle.fvn_combine_inferring.proofs.Added.{Adds, turned, alone, many_adds}
use Rattle.fvn_combine_inferring.proofs.EitherHead.{node_adds}

-- a sum of two classes is headed by its operator, or has the value of one of both
sum_or_addend : (d : Declarations) (t : NodeTable) (s : State) (f : OpId) (values : ℕ → FlatTerm) (go_with : GoWith d t s values) (i a b : ℕ) → Adds d t s f values go_with i a b → (head_of (values (class_of s i)) ≡ Some f) ⊎ AreEqual s values i a ⊎ AreEqual s values i b
sum_or_addend d t s f values go_with i a b h = at (summands d s f values a) refl (summands d s f values b) refl
  where
    at : (l : List FlatTerm) → summands d s f values a ≡ l → (m : List FlatTerm) → summands d s f values b ≡ m → (head_of (values (class_of s i)) ≡ Some f) ⊎ AreEqual s values i a ⊎ AreEqual s values i b
    at [] e m n = inr (inr (alone d t s f values go_with i b a (turned d t s f values go_with i a b h) e))
    at (x ∷ l) e [] n = inr (inl (alone d t s f values go_with i a b h n))
    at (x ∷ l) e (y ∷ m) n =
        let k = many_adds d t s f values go_with i a b h in
        let p = ap length e in
        let q = ap length n in
        inl (ap head_of (large_sum d f (values (class_of s i)) (omega (arith, k, p, q))).1)

-- a node that adds two is such a sum
pub node_sum : (d : Declarations) (t : NodeTable) (s : State) (sorted : Bool) → IsClosed d t s → IsWellMade t → HasSums d t → (f : OpId) → IsAssociative (axioms d f) → (i : ℕ) → i < length t.nodes → (p : ℕ × ℕ) → addends f (slice_get t.nodes i) ≡ Some p → (p.0 < length t.nodes) × (p.1 < length t.nodes) → IsNodeSum d t s sorted (record { node = i; operator = f; left = p.0; right = p.1 })
node_sum d t s sorted closed made has f assoc i within p e l = record {
  node = within;
  left = l.0;
  right = l.1;
  headed = λ values go. sum_or_addend d t s f values go.go i p.0 p.1 (node_adds d t s closed made has f assoc i within p e l values go.go);
}

-- one of two clashes is one
pub either_clash : (d : Declarations) (t : NodeTable) (s : State) (sorted : Bool) (best other result : Option Clash) → IfSome best (IsClash d t s sorted) → IfSome other (IsClash d t s sorted) → (result ≡ best) ⊎ (result ≡ other) → IfSome result (IsClash d t s sorted)
either_clash d t s sorted best other result b o either = elim either [
  | inl e ↦ subst (λ x. IfSome x (IsClash d t s sorted)) (sym e) b
  | inr e ↦ subst (λ x. IfSome x (IsClash d t s sorted)) (sym e) o
]
