-- The values that a substitution gives to nodes.
use Rattle.std.proofs.Common.{◌≡◌, ℕ, zero, suc, ◌<◌, List, [], ◌∷◌, length, map, get_or, refl, sym, ap, ◌∙◌, subst, arith, All, Some, slice_get}
use Rattle.std.proofs.lemmas.List.{length-map, get_or-map}
use Rattle.std.proofs.lemmas.List.Elements.{All-head, All-tail, All-map}
use Rattle.std.proofs.lemmas.Option.{slice_get_within}
use Rattle.fvn_terms.specs.declared.plain.SortId.{SortId}
use Rattle.fvn_terms.specs.declared.declarations.Declarations.{Declarations}
use Rattle.fvn_terms.specs.Term.{Term}
use Rattle.fvn_terms.specs.Substitution.{Substitution, apply}
use Rattle.fvn_terms.specs.Signature.{HasKind, KeepsKinds}
use Rattle.fvn_terms.specs.Equality.{BEqual}
use Rattle.fvn_terms.specs.Unifiers.{Problem}
use Rattle.fvn_terms.proofs.Equal.{HasKind-apply}
use Rattle.fvn_forms.specs.Flat.{FlatTerm}
use Rattle.fvn_forms.specs.Canon.{build, canon}
use Rattle.fvn_forms.specs.FitsKinds.{FitsKinds}
use Rattle.fvn_forms.proofs.Eval.{canon_settled, canon_respects}
use Rattle.fvn_forms.proofs.ToCanon.{b_equal_iff_canon}
use Rattle.fvn_combine_nodes.specs.FlatProblems.{IsProblem}
use Rattle.fvn_combine_nodes.specs.FlatSolvedLists.{IsKindUnifier}
use Rattle.fvn_combine_nodes.specs.Table.{NodeTable, term_at, IsWellMade, IsTableOf}
use Rattle.fvn_combine_nodes.specs.States.{Admits, IsNaming, class_of}
use Rattle.fvn_combine_nodes.specs.Unifiers.{value_at, kernel}
use Rattle.fvn_combine_nodes.specs.Laws.{UnifiersPartition}
use Rattle.fvn_combine_nodes.specs.declared.state.State.{State}
use Rattle.fvn_combine_nodes.specs.declared.table.Node.{Node}
use Rattle.fvn_combine_nodes.specs.declared.table.Node.TheVariants.{Var, App}
use Rattle.fvn_combine_nodes.proofs.Nodes.{term_at-variable, node_at, arguments_within}
use Rattle.fvn_combine_nodes.proofs.Admitting.{named_within}
use Rattle.fvn_combine_nodes.proofs.Heading.{value_over}
use Rattle.fvn_combine_systems.specs.Values.{AreValues, Gives}

map_same : {A B : Type 0} (f g : A → B) (P : A → Type 0) → ((x : A) → P x → f x ≡ g x) → (xs : List A) → All P xs → map f xs ≡ map g xs
map_same f g P h [] all = refl
map_same f g P h (x ∷ xs) all = ap (λ y. y ∷ map f xs) (h x (All-head P x xs all)) ∙ ap (λ ys. g x ∷ ys) (map_same f g P h xs (All-tail P x xs all))

pub unifiers_have_values : UnifiersPartition → (d : Declarations) → FitsKinds d → (problem : Problem) → IsProblem d problem → (t : NodeTable) → IsWellMade t → IsTableOf d problem t → (s : Substitution) → IsKindUnifier d problem s → (r : State) → length r.names ≡ length t.nodes → IsNaming r →
    Admits r (kernel d s t.nodes) → AreValues d t (class_of r) (value_at d s t.nodes)
unifiers_have_values law d fits problem is_problem t made table s unifier r whole naming admits = record {
  settled = λ k. canon_settled d (apply s (term_at t.nodes k));
  built = λ i f ks over.
      same i (slice_get_within t.nodes i (App f ks) over)
      ∙ value_over d s t.nodes made.ordered i f ks over
      ∙ ap (build d f) (sym (map_same (λ k. value_at d s t.nodes (class_of r k)) (value_at d s t.nodes) (λ k. k < length t.nodes) same ks (arguments_within t.nodes made.ordered i f ks over)));
}
  where
    -- a node has the value of the node that names its class
    same : (i : ℕ) → i < length t.nodes → value_at d s t.nodes (class_of r i) ≡ value_at d s t.nodes i
    same i l =
        let m : i < length r.names = omega (arith, l, whole) in
        let n = named_within r naming i m in
        let exact = (law d fits problem is_problem t made table s unifier).exact i (class_of r i) l (omega (arith, n, whole)) in
        sym (canon_respects d (exact.0 (admits.together i m)))

module _ (d : Declarations) (t : NodeTable) (made : IsWellMade t) (class : ℕ → ℕ) (value : ℕ → FlatTerm) (are : AreValues d t class value) (s : Substitution) (gives : Gives d t class value s) where
  given_below : (n i : ℕ) → i < n → i < length t.nodes → value_at d s t.nodes i ≡ value (class i)
  given_below zero i h l = absurd (omega arith)
  given_below (suc n) i h l = let r = node_at t.nodes i l in at_node r.node r.is (λ k b m. given_below n k (omega (arith, b, h)) m)
    where
      at_node : (x : Node) → slice_get t.nodes i ≡ Some x → ((k : ℕ) → k < i → k < length t.nodes → value_at d s t.nodes k ≡ value (class k)) → value_at d s t.nodes i ≡ value (class i)
      at_node (Var x) is below = ap (λ u. canon d (apply s u)) (term_at-variable t.nodes i x is) ∙ gives i x is
      at_node (App f ks) is below =
          value_over d s t.nodes made.ordered i f ks is
          ∙ ap (build d f) (map_same (value_at d s t.nodes) (λ k. value (class k)) (λ k. k < i) (λ k b. below k b (omega (arith, b, l))) ks (made.ordered i f ks is))
          ∙ sym (are.built i f ks is)

  pub values_given : (i : ℕ) → i < length t.nodes → value_at d s t.nodes i ≡ value (class i)
  values_given i l = given_below (suc i) i (omega arith) l

  abbrev terms : ℕ × ℕ → Term × Term
  terms p = (term_at t.nodes p.0, term_at t.nodes p.1)

  abbrev equal : Term × Term → Type 0
  equal p = BEqual d (apply s p.0) (apply s p.1)

  abbrev alike : Term × Term → Type 0
  alike p = (k : SortId) × HasKind d p.0 k × HasKind d p.1 k

  pub values_unify : FitsKinds d → (problem : Problem) → IsProblem d problem → IsTableOf d problem t → All (λ p. class p.0 ≡ class p.1) t.sides → KeepsKinds d s → IsKindUnifier d problem s
  values_unify fits problem is_problem table sides keeps = (keeps, subst (All equal) table.sides (All-map equal terms t.sides at_side))
    where
      at_side : All (λ p. equal (terms p)) t.sides
      at_side k e l =
          let p = get_or t.sides k e in
          let n = length-map t.sides terms in
          let kinds : alike (terms p) = subst alike (get_or-map terms t.sides k e (terms e) l) (subst (All alike) (sym table.sides) is_problem k (terms e) (omega (arith, n, l))) in
          let within = made.sides k e l in
          let left = HasKind-apply d s keeps (term_at t.nodes p.0) kinds.0 kinds.1 in
          let right = HasKind-apply d s keeps (term_at t.nodes p.1) kinds.0 kinds.2 in
          (b_equal_iff_canon d fits (apply s (term_at t.nodes p.0)) (apply s (term_at t.nodes p.1)) (kinds.0, left) (kinds.0, right)).1
          (values_given p.0 within.0 ∙ ap value (sides k e l) ∙ sym (values_given p.1 within.1))
