-- What a state without open questions tells of the classes that it admits.
use Rattle.std.proofs.Common.{◌≡◌, ℕ, ◌<◌, List, [], ◌∷◌, map, length, sym, ap, ◌∙◌, subst, inl, inr, arith, Some}
use Rattle.std.specs.Prelude.{nat_eq}
use Rattle.std.proofs.lemmas.Option.{slice_get_within}
use Rattle.std.proofs.lemmas.List.Elements.{All-contains, All-head}
use Rattle.fvn_terms.specs.declared.plain.OpId.{OpId}
use Rattle.fvn_terms.specs.declared.declarations.Declarations.{Declarations}
use Rattle.fvn_terms.specs.Term.{app, pack}
use Rattle.fvn_terms.specs.Signature.{axioms}
use Rattle.fvn_flat.specs.Partitions.{HasNoIdentity}
use Rattle.fvn_combine_nodes.specs.Table.{IsOver, term_at}
use Rattle.fvn_combine_nodes.specs.Classes.{IsPartitionBut}
use Rattle.fvn_combine_nodes.specs.States.{Admits, IsClosed, class_of}
use Rattle.fvn_combine_nodes.specs.declared.state.State.{State}
use Rattle.fvn_combine_nodes.specs.declared.table.Node.TheVariants.{App}
use Rattle.fvn_combine_nodes.proofs.Nodes.{arguments_within, term_at-over, term_at-injective}
use Rattle.fvn_combine_nodes.proofs.Admitting.{admits_same, admits_apart, decided}
use Rattle.fvn_purify.specs.Parts.{Outline}
use Rattle.fvn_purify.specs.Heads.{IsUnitNode}
use Rattle.fvn_purify.specs.inner.Choices.{AreStepped, IsSplitQuestion, IsDecided}
use Rattle.fvn_purify.proofs.Numbers.{same_tests}

module _ (d : Declarations) (c : Outline) (fit : AreStepped d c) where
  -- the number of nodes
  abbrev pub nodes : ℕ
  nodes = length c.table.nodes

  -- nodes over the same are one
  pub one_node : (i j : ℕ) (f g : OpId) (ks : List ℕ) → IsOver c.table.nodes i f ks → IsOver c.table.nodes j g ks → f ≡ g → i ≡ j
  one_node i j f g ks a b e =
      term_at-injective c.table.nodes fit.made.distinct i j (slice_get_within c.table.nodes i (App f ks) a) (slice_get_within c.table.nodes j (App g ks) b)
      (term_at-over c.table.nodes fit.made.ordered i f ks a ∙ ap (λ o. app o (pack (map (term_at c.table.nodes) ks))) e ∙ sym (term_at-over c.table.nodes fit.made.ordered j g ks b))

  -- one node is over one operator and one list
  pub one_operator : (i : ℕ) (f g : OpId) (ks ls : List ℕ) → IsOver c.table.nodes i f ks → IsOver c.table.nodes i g ls → (f ≡ g) × (ks ≡ ls)
  one_operator i f g ks ls a b = let e : Some (App f ks) ≡ Some (App g ls) = sym a ∙ b in (cc, cc)

  -- the nodes of a question are nodes of the table
  pub question_within : (s : State) (x y : ℕ) → IsSplitQuestion c s x y → (x < nodes) × (y < nodes)
  question_within s x y (inl h) = (All-contains (λ k. k < nodes) c.places.parts x fit.within.parts h.0, All-contains (λ k. k < nodes) c.places.parts y fit.within.parts h.1)
  question_within s x y (inr (inl h)) =
      (All-contains (λ k. k < nodes) c.places.headed x fit.within.headed h.0, subst (λ k. k < nodes) h.1.2 (All-contains (λ (p : OpId × ℕ). p.1 < nodes) c.table.units h.1.0 fit.made.units h.1.1))
  question_within s x y (inr (inr h)) =
      let first = h.3 in
      let P = λ (k : ℕ). k < nodes in
      (All-head P x first.2 (arguments_within c.table.nodes fit.made.ordered h.0.0 first.0 (x ∷ first.2) first.4), All-head P y first.3 (arguments_within c.table.nodes fit.made.ordered h.0.1 first.1 (y ∷ first.3) first.5))

  -- an identity has no identity
  pub unit_bare : (i : ℕ) (e : OpId) → IsUnitNode c.table e i → HasNoIdentity (axioms d e)
  unit_bare i e a =
      let u = fit.units a.0 a.1 in
      let there : IsOver c.table.nodes i u.0 [] = subst (λ k. IsOver c.table.nodes k u.0 []) a.2 u.1 in
      subst (λ o. HasNoIdentity (axioms d o)) (one_operator i u.0 e [] [] there a.3).0 u.2

  -- two identities in one class of a partition are one
  pub one_unit : (Undecided : ℕ → ℕ → Type 0) (class : ℕ → ℕ) → IsPartitionBut d Undecided class c.table → (i j : ℕ) (e f : OpId) → IsUnitNode c.table e i → IsUnitNode c.table f j → class i ≡ class j → e ≡ f
  one_unit Undecided class partition i j e f a b same =
      let alike = (partition.nodes i j e f [] [] a.3 b.3).alike same in
      alike.one_head (unit_bare i e a) (unit_bare j f b)

  module _ (s : State) (closed : IsClosed d c.table s) where
    pub state_within : (i : ℕ) → i < nodes → i < length s.names
    state_within i h = let w = closed.whole in omega arith

    pub admitted_same : (class : ℕ → ℕ) → Admits s class → (x y : ℕ) → x < nodes → y < nodes → class_of s x ≡ class_of s y → class x ≡ class y
    admitted_same class admits x y l m e = admits_same s class admits x y (state_within x l) (state_within y m) e

    module _ (none : IsDecided c s) where
      -- what is answered is in one class just where it is so far
      pub decided_same : (class : ℕ → ℕ) → Admits s class → (x y : ℕ) → IsSplitQuestion c s x y → class x ≡ class y → class_of s x ≡ class_of s y
      decided_same class admits x y q e =
          let w = question_within s x y q in
          elim (decided s x y) [
            | inl o ↦ absurd (none x y q o)
            | inr r ↦ elim r [
              | inl same ↦ same
              | inr apart ↦ absurd (admits_apart s closed.naming class admits x y (state_within x w.0) (state_within y w.1) apart e)
            ]
          ]

      pub decided_tests : (class : ℕ → ℕ) → Admits s class → (x y : ℕ) → IsSplitQuestion c s x y → nat_eq (class x) (class y) ≡ nat_eq (class_of s x) (class_of s y)
      decided_tests class admits x y q =
          let w = question_within s x y q in
          same_tests (class x) (class y) (class_of s x) (class_of s y) (decided_same class admits x y q) (admitted_same class admits x y w.0 w.1)
