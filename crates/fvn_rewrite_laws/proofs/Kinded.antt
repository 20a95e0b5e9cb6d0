-- Steps keep kinds, and equality in the theory of confluent equations is meeting of sequences.
use Rattle.std.proofs.Common.{◌+◌, ◌⊎◌, ℕ, zero, suc, List, [], ◌∷◌, sym, subst, inl, inr}
use Rattle.fvn_terms.specs.declared.plain.SortId.{SortId}
use Rattle.fvn_terms.specs.declared.declarations.Declarations.{Declarations}
use Rattle.fvn_terms.specs.Term.{Term, Terms, app, more}
use Rattle.fvn_terms.specs.Substitution.{Substitution, apply}
use Rattle.fvn_terms.specs.Signature.{HasKind, HaveKinds, IsTerm}
use Rattle.fvn_terms.specs.Places.{AtOnePlace, AmongOnePlace, here, inside, first, later, stop, step}
use Rattle.fvn_terms.specs.Equality.{IsAxiomEitherWay, BEqual}
use Rattle.fvn_terms.specs.Theory.{Equations, IsRule, IsLaw, TEqual}
use Rattle.fvn_terms.specs.Rewriting.{Rewrites, TermSequence, IsIrreducible, IsConfluent, AreJoinable}
use Rattle.fvn_terms.specs.Laws.{RewritingLaws}
use Rattle.fvn_terms.proofs.Steps.{Leads-append, Leads-map, Leads-reverse, AtOnePlace-reverse, AtOnePlace-weaker}
use Rattle.fvn_terms.proofs.Equal.{HasKind-apply, BEqual-trans, BEqual-sym, either_way}
use Rattle.fvn_forms.specs.FitsKinds.{FitsKinds}
use Rattle.fvn_forms.proofs.KindsKept.{kind_unique, b_equal_keeps_kind}
use Rattle.fvn_rewrite_laws.specs.Kinds.{HaveOneKind}
use Rattle.fvn_rewrite_laws.specs.Laws.{KindedLaws}
use Rattle.fvn_rewrite_laws.proofs.Sequences.{sequence_before}

-- a step at one place by one of two relations
mutual
  one_of_two : {R P Q : Term → Term → Type 0} → ((t u : Term) → R t u → P t u ⊎ Q t u) → {t u : Term} → AtOnePlace R t u → AtOnePlace P t u ⊎ AtOnePlace Q t u
  one_of_two {R} {P} {Q} h (here {t} {u} r) = go (h t u r) where
    go : P t u ⊎ Q t u → AtOnePlace P t u ⊎ AtOnePlace Q t u
    go (inl a) = inl (here a)
    go (inr b) = inr (here b)
  one_of_two {R} {P} {Q} h (inside {f} {ts} {us} p) = go (one_of_two_among h p) where
    go : AmongOnePlace P ts us ⊎ AmongOnePlace Q ts us → AtOnePlace P (app f ts) (app f us) ⊎ AtOnePlace Q (app f ts) (app f us)
    go (inl a) = inl (inside a)
    go (inr b) = inr (inside b)

  one_of_two_among : {R P Q : Term → Term → Type 0} → ((t u : Term) → R t u → P t u ⊎ Q t u) → {ts us : Terms} → AmongOnePlace R ts us → AmongOnePlace P ts us ⊎ AmongOnePlace Q ts us
  one_of_two_among {R} {P} {Q} h (first {t} {u} {ts} p) = go (one_of_two h p) where
    go : AtOnePlace P t u ⊎ AtOnePlace Q t u → AmongOnePlace P (more t ts) (more u ts) ⊎ AmongOnePlace Q (more t ts) (more u ts)
    go (inl a) = inl (first a)
    go (inr b) = inr (first b)
  one_of_two_among {R} {P} {Q} h (later {t} {ts} {us} p) = go (one_of_two_among h p) where
    go : AmongOnePlace P ts us ⊎ AmongOnePlace Q ts us → AmongOnePlace P (more t ts) (more t us) ⊎ AmongOnePlace Q (more t ts) (more t us)
    go (inl a) = inl (later a)
    go (inr b) = inr (later b)

-- a step at one place, the other way round
mutual
  flipped : {P Q : Term → Term → Type 0} → ((t u : Term) → P t u → Q u t) → {t u : Term} → AtOnePlace P t u → AtOnePlace Q u t
  flipped h (here {t} {u} r) = here (h t u r)
  flipped h (inside p) = inside (flipped_among h p)

  flipped_among : {P Q : Term → Term → Type 0} → ((t u : Term) → P t u → Q u t) → {ts us : Terms} → AmongOnePlace P ts us → AmongOnePlace Q us ts
  flipped_among h (first p) = first (flipped h p)
  flipped_among h (later p) = later (flipped_among h p)

module _ (d : Declarations) where
  mutual
    kind_at_place : {R : Term → Term → Type 0} → ((t u : Term) → R t u → (k : SortId) → HasKind d t k → HasKind d u k) → {t u : Term} → AtOnePlace R t u → (k : SortId) → HasKind d t k → HasKind d u k
    kind_at_place h (here {t} {u} r) k j = h t u r k j
    kind_at_place h (inside p) k j = record { rank = j.rank; listed = j.listed; args = kinds_at_place h p _ j.args; result = j.result }

    kinds_at_place : {R : Term → Term → Type 0} → ((t u : Term) → R t u → (k : SortId) → HasKind d t k → HasKind d u k) → {ts us : Terms} → AmongOnePlace R ts us → (ks : List SortId) → HaveKinds d ts ks → HaveKinds d us ks
    kinds_at_place h (first p) [] j = absurd j
    kinds_at_place h (first p) (k ∷ ks) j = (kind_at_place h p k j.0, j.1)
    kinds_at_place h (later p) [] j = absurd j
    kinds_at_place h (later p) (k ∷ ks) j = (j.0, kinds_at_place h p ks j.1)

  module _ (fits : FitsKinds d) (equations : Equations) (kinded : HaveOneKind d equations) where
    instance_kind : (s : Substitution) → (t u : Term) (n k : SortId) → ((q : SortId) → HasKind d t q → HasKind d (apply s t) q) → ((q : SortId) → HasKind d u q → HasKind d (apply s u) q) → HasKind d t n → HasKind d u n → HasKind d (apply s t) k → HasKind d (apply s u) k
    instance_kind s t u n k ht hu a b h = subst (HasKind d (apply s u)) (kind_unique d fits (apply s t) n k (ht n a) h) (hu n b)

    rule_kind : (t u : Term) → IsRule d equations t u → (k : SortId) → HasKind d t k → HasKind d u k
    rule_kind t u r k h =
        let e = kinded (r.left, r.right) r.listed in
        subst (λ v. HasKind d v k) (sym r.to)
        (instance_kind r.by r.left r.right e.kind k (HasKind-apply d r.by r.well_sorted.0 r.left) (HasKind-apply d r.by r.well_sorted.0 r.right) e.left e.right (subst (λ v. HasKind d v k) r.from h))

    rule_kind_back : (t u : Term) → IsRule d equations t u → (k : SortId) → HasKind d u k → HasKind d t k
    rule_kind_back t u r k h =
        let e = kinded (r.left, r.right) r.listed in
        subst (λ v. HasKind d v k) (sym r.from)
        (instance_kind r.by r.right r.left e.kind k (HasKind-apply d r.by r.well_sorted.0 r.right) (HasKind-apply d r.by r.well_sorted.0 r.left) e.right e.left (subst (λ v. HasKind d v k) r.to h))

    pub step_kind : (t u : Term) → Rewrites d equations t u → (k : SortId) → HasKind d t k → HasKind d u k
    step_kind t u r k h =
        b_equal_keeps_kind d fits r.after k (kind_at_place rule_kind r.replaced k (b_equal_keeps_kind d fits r.before k h))

    pub sequence_kind : (n : ℕ) (t u : Term) → TermSequence d equations n t u → (k : SortId) → HasKind d t k → HasKind d u k
    sequence_kind zero t u q k h = b_equal_keeps_kind d fits q k h
    sequence_kind (suc n) t u q k h = sequence_kind n q.0 u q.1.1 k (step_kind t q.0 q.1.0 k h)

    law_kind : (t u : Term) → IsLaw d equations t u → (k : SortId) → HasKind d t k → HasKind d u k
    law_kind t u (inl a) k h = b_equal_keeps_kind d fits (step (here a) stop) k h
    law_kind t u (inr (inl r)) k h = rule_kind t u r k h
    law_kind t u (inr (inr r)) k h = rule_kind_back u t r k h

    pub theory_kind : (t u : Term) → TEqual d equations t u → (k : SortId) → HasKind d t k → HasKind d u k
    theory_kind t u stop k h = h
    theory_kind t u (step {u = v} r p) k h = theory_kind v u p k (kind_at_place law_kind r k h)

    module _ (laws : RewritingLaws d equations) where
      equal_in_theory : {t u : Term} → BEqual d t u → TEqual d equations t u
      equal_in_theory p = Leads-map (λ (v : Term). v) (λ v w. AtOnePlace-weaker (λ _ _. inl)) p

      turned : (t u : Term) → IsLaw d equations t u → IsLaw d equations u t
      turned t u (inl a) = inl (either_way d t u a)
      turned t u (inr (inl r)) = inr (inr r)
      turned t u (inr (inr r)) = inr (inl r)

      joinable_equal : (t u : Term) → AreJoinable d equations t u → TEqual d equations t u
      joinable_equal t u j =
          Leads-append (laws.theory j.left_steps t j.left j.left_reached)
          (Leads-append (equal_in_theory j.equal) (Leads-reverse (λ v w. AtOnePlace-reverse turned) (laws.theory j.right_steps u j.right j.right_reached)))

      -- what a step of the theory adds to sequences that meet
      by_axiom : (t v u : Term) → BEqual d t v → AreJoinable d equations v u → AreJoinable d equations t u
      by_axiom t v u e j = record {
        left = j.left;
        right = j.right;
        left_steps = j.left_steps;
        right_steps = j.right_steps;
        left_reached = sequence_before d equations laws j.left_steps v t j.left (BEqual-sym d e) j.left_reached;
        right_reached = j.right_reached;
        equal = j.equal;
      }

      forward : (t v u : Term) → Rewrites d equations t v → AreJoinable d equations v u → AreJoinable d equations t u
      forward t v u r j = record {
        left = j.left;
        right = j.right;
        left_steps = suc j.left_steps;
        right_steps = j.right_steps;
        left_reached = (v, (r, j.left_reached));
        right_reached = j.right_reached;
        equal = j.equal;
      }

      backward : IsConfluent d equations → (t v u : Term) → IsTerm d v → Rewrites d equations v t → AreJoinable d equations v u → AreJoinable d equations t u
      backward confluent t v u h r j =
          let m = confluent v t j.left 1 j.left_steps h (t, (r, stop)) j.left_reached in record {
            left = m.left;
            right = m.right;
            left_steps = m.left_steps;
            right_steps = j.right_steps + m.right_steps;
            left_reached = m.left_reached;
            right_reached = laws.joined j.right_steps m.right_steps u j.right m.right j.right_reached (sequence_before d equations laws m.right_steps j.left j.right m.right j.equal m.right_reached);
            equal = m.equal;
          }

      one_step : (t u : Term) → AtOnePlace (IsRule d equations) t u → Rewrites d equations t u
      one_step t u p = record { from = t; to = u; before = stop; replaced = p; after = stop }

      -- the equations from right to left
      abbrev IsRuleBack : Term → Term → Type 0
      IsRuleBack t u = IsRule d equations u t

      law_or_rule : (t u : Term) → IsLaw d equations t u → IsAxiomEitherWay d t u ⊎ (IsRule d equations t u ⊎ IsRuleBack t u)
      law_or_rule t u h = h

      one_more : IsConfluent d equations → (t v u : Term) → IsTerm d v → AtOnePlace (IsLaw d equations) t v → AreJoinable d equations v u → AreJoinable d equations t u
      one_more confluent t v u h p j = at (one_of_two law_or_rule p) where
        rules : AtOnePlace (IsRule d equations) t v ⊎ AtOnePlace IsRuleBack t v → AreJoinable d equations t u
        rules (inl r) = forward t v u (one_step t v r) j
        rules (inr r) = backward confluent t v u h (one_step v t (flipped (λ a b r. r) r)) j

        at : AtOnePlace (IsAxiomEitherWay d) t v ⊎ AtOnePlace (λ a b. IsRule d equations a b ⊎ IsRuleBack a b) t v → AreJoinable d equations t u
        at (inl a) = by_axiom t v u (step a stop) j
        at (inr r) = rules (one_of_two (λ a b h. h) r)

      pub equal_joinable : IsConfluent d equations → (t u : Term) → IsTerm d t → TEqual d equations t u → AreJoinable d equations t u
      equal_joinable confluent t u h stop = record { left = t; right = t; left_steps = 0; right_steps = 0; left_reached = stop; right_reached = stop; equal = stop }
      equal_joinable confluent t u h (step {u = v} r p) =
          let k : IsTerm d v = (h.0, kind_at_place law_kind r h.0 h.1) in
          one_more confluent t v u k r (equal_joinable confluent v u k p)

      one_normal_form : IsConfluent d equations → (t u v w : Term) (j k : ℕ) → IsTerm d t → TEqual d equations t u →
          TermSequence d equations j t v → TermSequence d equations k u w → IsIrreducible d equations v → IsIrreducible d equations w → BEqual d v w
      one_normal_form confluent t u v w j k h e p q hv hw =
          let back : TEqual d equations v t = Leads-reverse (λ a b. AtOnePlace-reverse turned) (laws.theory j t v p) in
          let m = equal_joinable confluent v w (h.0, sequence_kind j t v p h.0 h.1) (Leads-append back (Leads-append e (laws.theory k u w q))) in
          let left = laws.ended m.left_steps v m.left hv m.left_reached in
          let right = laws.ended m.right_steps w m.right hw m.right_reached in
          BEqual-trans d left.1 (BEqual-trans d m.equal (BEqual-sym d right.1))

      pub kinded_laws : KindedLaws d equations
      kinded_laws = record {
        steps = step_kind;
        sequences = sequence_kind;
        theory = theory_kind;
        joinable_equal = joinable_equal;
        equal_joinable = equal_joinable;
        one_normal_form = one_normal_form;
      }
