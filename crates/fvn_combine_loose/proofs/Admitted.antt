-- The loosened substitution has all that the state has decided, and has apart what the loose class parts.
use Rattle.std.proofs.Common.{◌≡◌, ◌≢◌, ◌⊎◌, ℕ, ◌<◌, List, length, get_or, sym, inl, inr, arith}
use Rattle.fvn_terms.specs.declared.declarations.Declarations.{Declarations}
use Rattle.fvn_terms.specs.Substitution.{Substitution}
use Rattle.fvn_terms.specs.Equality.{BEqual}
use Rattle.fvn_terms.specs.Unifiers.{Problem}
use Rattle.fvn_terms.proofs.Equal.{BEqual-sym, BEqual-trans, BEqual-apply}
use Rattle.fvn_terms.proofs.Occurrences.{BEqual-occurs}
use Rattle.fvn_forms.proofs.Eval.{canon_respects}
use Rattle.fvn_combine_nodes.specs.Table.{NodeTable}
use Rattle.fvn_combine_nodes.specs.States.{Admits, class_of}
use Rattle.fvn_combine_nodes.specs.Unifiers.{kernel, Partitions}
use Rattle.fvn_combine_nodes.specs.declared.state.State.{State}
use Rattle.fvn_combine_nodes.proofs.Kernels.{unifier_partitions, same_class}
use Rattle.fvn_combine_loose.specs.Loose.{height_of}
use Rattle.fvn_combine_loose.proofs.Setting.{Setting, class_within, class_again, old_partitions}
use Rattle.fvn_combine_loose.proofs.NewVariable.{new}
use Rattle.fvn_combine_loose.proofs.Remade.{remade, new_stands, new_stands_not}
use Rattle.fvn_combine_loose.proofs.After.{after, after_keeps, after_remade}
use Rattle.fvn_combine_loose.proofs.Loosened.{loosened, node_value, together_value, loosened_unifies}

module _ {d : Declarations} {problem : Problem} {t : NodeTable} {s : State} {z : ℕ} {heights : List ℕ} {u : Substitution} (g : Setting d problem t s z heights u) where
  abbrev height : ℕ → ℕ
  height = height_of s heights

  new_partitions : Partitions d t (loosened g)
  new_partitions = unifier_partitions d g.good.fits problem g.kinded t g.made g.table (loosened g) (loosened_unifies g)

  -- nodes that are in one class now have equal new values
  one_remade : (i j : ℕ) → i < length t.nodes → j < length t.nodes → kernel d (loosened g) t.nodes i ≡ kernel d (loosened g) t.nodes j → BEqual d (remade g i) (remade g j)
  one_remade i j l m e = BEqual-trans d (BEqual-sym d (node_value g i l)) (BEqual-trans d ((new_partitions.exact i j l m).0 e) (node_value g j m))

  -- so they were before
  pub before : (i j : ℕ) → i < length t.nodes → j < length t.nodes → kernel d (loosened g) t.nodes i ≡ kernel d (loosened g) t.nodes j → kernel d u t.nodes i ≡ kernel d u t.nodes j
  before i j l m e =
      let here = after_remade g (height i) i (omega arith) l in
      let there = after_remade g (height j) j (omega arith) m in
      let both = BEqual-apply d (after g) (after_keeps g) (one_remade i j l m e) in
      ((old_partitions g).exact i j l m).1 (BEqual-trans d (BEqual-sym d here) (BEqual-trans d both there))

  pub loosened_admitted : Admits s (kernel d (loosened g) t.nodes)
  loosened_admitted = record {
    together = λ i l.
        let w = g.closed.whole in
        let k : i < length t.nodes = omega (arith, l, w) in
        same_class d (loosened g) t.nodes i (class_of s i) (canon_respects d (together_value g i (class_of s i) k (class_within g i k) (sym (class_again g i k))));
    apart = λ k e l together.
        let w = g.closed.whole in
        let p = get_or s.apart k e in
        let h = g.closed.naming.kept k e l in
        let a : p.0 < length s.names = h.0 in
        let b : p.1 < length s.names = h.1 in
        g.admits.apart k e l (before p.0 p.1 (omega (arith, a, w)) (omega (arith, b, w)) together);
  }

  one_apart : (i j : ℕ) → i < length t.nodes → j < length t.nodes → 0 < height i → height j ≡ 0 → BEqual d (remade g j) (remade g i) → ⊥
  one_apart i j l m stands low e = new_stands_not g j m low (BEqual-occurs (new g) d (remade g j) (remade g i) e (new_stands g (height i) i (omega arith) l stands))

  -- what it stands in is apart from what it does not stand in
  pub loosened_apart : (i j : ℕ) → i < length t.nodes → j < length t.nodes → ((0 < height i) × (height j ≡ 0)) ⊎ ((height i ≡ 0) × (0 < height j)) → kernel d (loosened g) t.nodes i ≢ kernel d (loosened g) t.nodes j
  loosened_apart i j l m (inl w) e = one_apart i j l m w.0 w.1 (BEqual-sym d (one_remade i j l m e))
  loosened_apart i j l m (inr w) e = one_apart j i m l w.1 w.0 (one_remade i j l m e)
