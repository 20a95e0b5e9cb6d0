-- A class is bound to a sum of one operator at most, and then no free or commutative operator heads a member.
use Rattle.std.proofs.Common.{◌≡◌, ℕ, true, List, refl, sym, ap, ◌∙◌, subst, inl, inr, Option}
use Rattle.fvn_base.specs.Decided.{Decided}
use Rattle.fvn_base.proofs.Decided.{decided_by}
use Rattle.fvn_base.proofs.Options.{Some-injective}
use Rattle.fvn_terms.specs.declared.plain.OpId.{OpId}
use Rattle.fvn_terms.specs.declared.declarations.Axioms.{Axioms}
use Rattle.fvn_terms.specs.declared.declarations.Axioms.TheVariants.{Free, Comm, AssocComm, AssocCommId}
use Rattle.fvn_terms.specs.declared.declarations.Declarations.{Declarations}
use Rattle.fvn_terms.specs.Signature.{axioms}
use Rattle.fvn_terms.specs.Equality.{IsAssociative}
use Rattle.fvn_forms.specs.Canon.{same_op}
use Rattle.fvn_forms.proofs.Sums.{same_op_is, same_op_itself}
use Rattle.fvn_flat.specs.Partitions.{HasNoIdentity}
use Rattle.fvn_flat.specs.SolvedLists.{Form, unbound, as_member, as_sum, IsSimple}
use Rattle.fvn_combine_nodes.specs.Table.{NodeTable, IsOver, term_at}
use Rattle.fvn_combine_nodes.specs.Classes.{IsNodePartition}
use Rattle.fvn_combine_leaves.specs.Leaves.{IsSolid}
use Rattle.fvn_combine_choices.specs.Binding.{IsBound, solid, alone, tagged}
use Rattle.fvn_combine_choices.specs.Choosing.{Systems, Choice}
use Rattle.fvn_combine_choices.specs.Plans.{IsSimpleAt, IsFormBy}

pub op_decided : (f g : OpId) → Decided (f ≡ g)
op_decided f g = decided_by (same_op f g) (same_op_is f g) (λ e. subst (λ o. same_op f o ≡ true) e (same_op_itself f))

-- a free or commutative operator has no identity and is not associative
pub simple_bare : (a : Axioms) → IsSimple a → HasNoIdentity a
simple_bare Free h = tt
simple_bare Comm h = tt
simple_bare AssocComm h = tt
simple_bare (AssocCommId e) h = absurd h

pub simple_unsummed : (a : Axioms) → IsSimple a → IsAssociative a → ⊥
simple_unsummed Free h s = s
simple_unsummed Comm h s = s
simple_unsummed AssocComm h s = h
simple_unsummed (AssocCommId e) h s = h

module _ {d : Declarations} {t : NodeTable} {class : ℕ → ℕ} (partition : IsNodePartition d t class) where
  -- members whose operators have no identity have one operator
  pub one_head : (i j : ℕ) (f g : OpId) (ks ls : List ℕ) → IsOver t.nodes i f ks → IsOver t.nodes j g ls → class i ≡ class j → HasNoIdentity (axioms d f) → HasNoIdentity (axioms d g) → f ≡ g
  one_head i j f g ks ls a b e = ((partition.nodes i j f g ks ls a b).alike e).one_head

  pub solid_once : (f g : OpId) (k : ℕ) → IsSolid d t class f k → IsSolid d t class g k → f ≡ g
  solid_once f g k a b = one_head a.member b.member f g a.arguments b.arguments a.over b.over (a.of ∙ sym b.of) a.no_identity b.no_identity

  simple_solid : {y : Systems} {c : Choice} (k i : ℕ) (h : IsSimpleAt d t class y c k i) → IsSolid d t class h.operator k
  simple_solid k i h = record { member = i; arguments = h.arguments; over = h.over; of = h.of; no_identity = simple_bare (axioms d h.operator) h.simple }

  module _ (tag : ℕ → Option OpId) where
    -- it is bound to a sum of one operator
    pub bound_once : (f g : OpId) (k : ℕ) → IsBound d t class tag f k → IsBound d t class tag g k → f ≡ g
    bound_once f g k (solid a s) (solid b r) = solid_once f g k s r
    bound_once f g k (solid a s) (alone u soft only) = absurd (soft f s)
    bound_once f g k (solid a s) (tagged u shared e) = absurd (shared.soft f s)
    bound_once f g k (alone v soft only) (solid b r) = absurd (soft g r)
    bound_once f g k (alone v soft only) (alone u other last) = sym (only g u)
    bound_once f g k (alone v soft only) (tagged u shared e) = sym (only g u)
    bound_once f g k (tagged v shared q) (solid b r) = absurd (shared.soft g r)
    bound_once f g k (tagged v shared q) (alone u soft only) = only f v
    bound_once f g k (tagged v shared q) (tagged u again e) = Some-injective (sym q ∙ e)

    -- where a free or commutative operator heads a member, it is bound to no sum
    pub simple_unbound : {y : Systems} {c : Choice} (f : OpId) (k i : ℕ) → IsSimpleAt d t class y c k i → IsBound d t class tag f k → ⊥
    simple_unbound f k i h (solid assoc s) = simple_unsummed (axioms d f) (subst (λ o. IsSimple (axioms d o)) (solid_once h.operator f k (simple_solid k i h) s) h.simple) assoc
    simple_unbound f k i h (alone u soft only) = soft h.operator (simple_solid k i h)
    simple_unbound f k i h (tagged u shared e) = shared.soft h.operator (simple_solid k i h)

  module _ (y : Systems) (c : Choice) (k : ℕ) (form : Form) (by : IsFormBy d t class y c k form) where
    -- a class that is bound to a sum has its form
    pub form_of_sum : (f : OpId) → IsBound d t class c.tag f k → form ≡ as_sum f
    form_of_sum f h = go form by
      where
        go : (form : Form) → IsFormBy d t class y c k form → form ≡ as_sum f
        go unbound b = absurd (b.0 f h)
        go (as_member u) b = absurd (simple_unbound c.tag f k b.0 b.1 h)
        go (as_sum g) b = ap as_sum (bound_once c.tag g f k b h)

    pub bound_of_form : (f : OpId) → form ≡ as_sum f → IsBound d t class c.tag f k
    bound_of_form f e = subst (IsFormBy d t class y c k) e by

    -- the form tells whether it is bound to a sum of f
    pub bound_decided : (f : OpId) → Decided (IsBound d t class c.tag f k)
    bound_decided f = go form by
      where
        go : (form : Form) → IsFormBy d t class y c k form → Decided (IsBound d t class c.tag f k)
        go unbound b = inr (b.0 f)
        go (as_member u) b = inr (simple_unbound c.tag f k b.0 b.1)
        go (as_sum g) b = elim (op_decided g f) [
          | inl e ↦ inl (subst (λ o. IsBound d t class c.tag o k) e b)
          | inr n ↦ inr (λ h. n (bound_once c.tag g f k b h))
        ]

    -- where a free or commutative operator heads a member, the form is that of such a member
    pub record IsMemberForm : Type 0 where
      pub node : ℕ
      pub simple : IsSimpleAt d t class y c k node
      pub is : form ≡ as_member (term_at t.nodes node)

    pub form_of_member : (i : ℕ) → IsSimpleAt d t class y c k i → IsMemberForm
    form_of_member i h = go form by refl
      where
        go : (other : Form) → IsFormBy d t class y c k other → form ≡ other → IsMemberForm
        go unbound b e = absurd (b.1 i h)
        go (as_member u) b e = record { node = b.0; simple = b.1; is = e ∙ ap as_member (sym b.2) }
        go (as_sum g) b e = absurd (simple_unbound c.tag g k i h b)
