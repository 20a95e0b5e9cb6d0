-- A sum without the patterns whose values are known, pattern by pattern.
use Rattle.std.proofs.Common.{◌≡◌, ℕ, ◌+◌, ◌≤◌, ◌<◌, true, false, List, [], ◌∷◌, ◌++◌, length, drop, get_or, Option, Some, None, refl, sym, ap, ◌∙◌, subst, arith}
use Rattle.std.specs.Prelude.{◌↔◌, IfSome, sum as std_sum}
use denote.Ref.{Bor}
use Rattle.std.proofs.lemmas.List.{append_assoc, append-nil, drop_more, length-append}
use Rattle.fvn_terms.specs.declared.plain.Var.{Var}
use Rattle.fvn_terms.specs.declared.declarations.Declarations.{Declarations}
use Rattle.fvn_terms.specs.Signature.{kind}
use Rattle.fvn_forms.specs.Flat.{FlatTerm, fvar}
use Rattle.fvn_forms.specs.InOrder.{count}
use Rattle.fvn_forms.specs.Canon.{parts, inst}
use Rattle.fvn_forms.specs.Settled.{Settled}
use Rattle.fvn_forms.proofs.InOrder.{count_append}
use Rattle.fvn_forms.proofs.Instances.{inst_settled}
use Rattle.fvn_flat.specs.Bindings.{Bindings, value, form_or}
use Rattle.fvn_flat.proofs.Instances.{each_at}
use Rattle.fvn_match.specs.inner.Tallies.{tally, repeated, AddsUp}
use Rattle.fvn_match.specs.inner.Summands.{references, IsTakenAway}
use Rattle.fvn_match.specs.inner.Candidates.{Values, IsCandidate, Agrees}
use Rattle.fvn_match.specs.inner.Variables.{IsClosed}
use Rattle.fvn_match.specs.inner.Goals.{patterns_of, pieces_of, weight_of, SumHolds, IsBoundTo, IsFlatOf, SumFits}
use Rattle.fvn_match.specs.inner.Known.{IsKnown, IsOpen, LeavesOpen}
use Rattle.fvn_match.specs.declared.goals.SumGoal.{SumGoal}
use Rattle.fvn_match.specs.declared.known.Open.{Open}
use Rattle.fvn_match.proofs.Closed.{closed_stays}
use Rattle.fvn_match.proofs.Runs.{references-get, length_references, references-append}
use Rattle.fvn_match.proofs.Tallies.{count_repeated, length_repeated, same_length}
use Rattle.fvn_match.proofs.SumSteps.{summands_of, count_summands-append}

-- what stands for a pattern: the value of a variable, or the pattern where it has no variables
pub known_bound : (b : Bindings) (p : FlatTerm) (x : Var) → p ≡ fvar x → (found : Option (Bor FlatTerm)) → IsBoundTo b x found → IfSome found (λ v. IsKnown b p v.now)
known_bound b p x is None h = tt
known_bound b p x is (Some v) h = λ d flat c agrees. ap (inst d c) is ∙ agrees x v.now h

pub known_itself : (b : Bindings) (p : FlatTerm) → (found : Option (Bor FlatTerm)) → IfSome found (λ v. IsClosed p × (v.now ≡ p)) → IfSome found (λ v. IsKnown b p v.now)
known_itself b p None h = tt
known_itself b p (Some v) h = λ d flat c agrees. closed_stays d c p flat h.0 ∙ sym h.1

-- it is settled
pub known_settled : (d : Declarations) (b : Bindings) (p v : FlatTerm) → IsKnown b p v → Settled d p → IsCandidate d (value b) → Settled d v
known_settled d b p v known flat candidate = subst (Settled d) (known d flat (value b) (λ x t e. ap (form_or x) e)) (inst_settled d (value b) candidate.flat.settled p)

pub weight_of-append : (ps us : List FlatTerm) → weight_of (ps ++ us) ≡ weight_of ps + weight_of us
weight_of-append [] us = omega arith
weight_of-append (p ∷ ps) us = let a = weight_of-append ps us in omega arith

-- what was taken away of the numbers is missing in them all together
pub taken_together : (ts : List FlatTerm) (old new : List ℕ) (us : List FlatTerm) → length old ≡ length ts → length new ≡ length ts → ((q : FlatTerm) → tally q ts new + count q us ≡ tally q ts old) → std_sum new + length us ≡ std_sum old
taken_together ts old new us lo ln h =
    let e : length (repeated ts new ++ us) ≡ length (repeated ts old) =
    same_length (repeated ts new ++ us) (repeated ts old) (λ q. count_append q (repeated ts new) us ∙ ap (λ n. n + count q us) (count_repeated q ts new) ∙ h q ∙ sym (count_repeated q ts old))
    in
    let a = length-append (repeated ts new) us in
    let b = length_repeated ts new ln in
    let g = length_repeated ts old lo in
    omega arith

module _ (d : Declarations) (b : Bindings) (goal : SumGoal) where
  -- patterns that are not known and pieces that are left, with the patterns that were not looked at yet
  pub record Leaving (open_ : List FlatTerm) (left : List ℕ) (rest : List FlatTerm) : Type 0 where
    pub same : (c : Values) → IsCandidate d c → Agrees b c → SumHolds d goal c ↔ AddsUp d goal.op (open_ ++ rest) (pieces_of goal) left c
    pub among : (q : FlatTerm) → 1 ≤ count q (open_ ++ rest) → 1 ≤ count q (patterns_of goal)
    pub lighter : weight_of open_ + weight_of rest ≤ weight_of (patterns_of goal)
    pub long : length left ≡ length goal.left.now
    pub fewer : std_sum left ≤ std_sum goal.left.now

  pub leaving_all : Leaving [] goal.left.now (patterns_of goal)
  leaving_all = record { same = λ c k a. (λ h. h, λ h. h); among = λ q some. some; lighter = omega arith; long = refl; fewer = omega arith }

  module _ (open_ : List FlatTerm) (left : List ℕ) (p : FlatTerm) (rest : List FlatTerm) (l : Leaving open_ left (p ∷ rest)) where
    -- a pattern that is not known stays
    pub leaving_open : Leaving (open_ ++ p ∷ []) left rest
    leaving_open =
        let e : (open_ ++ p ∷ []) ++ rest ≡ open_ ++ p ∷ rest = append_assoc open_ (p ∷ []) rest in
        let w = weight_of-append open_ (p ∷ []) in
        let light = l.lighter in
        record {
          same = λ c k a. subst (λ ps. SumHolds d goal c ↔ AddsUp d goal.op ps (pieces_of goal) left c) (sym e) (l.same c k a);
          among = λ q some. l.among q (subst (λ ps. 1 ≤ count q ps) e some);
          lighter = omega arith;
          long = l.long;
          fewer = l.fewer;
        }

    counted : (q : FlatTerm) (v : FlatTerm) (c : Values) → inst d c p ≡ v → count q (summands_of d goal.op c (open_ ++ p ∷ rest)) ≡ count q (parts d goal.op v) + count q (summands_of d goal.op c (open_ ++ rest))
    counted q v c is =
        let a = count_summands-append d goal.op c q open_ (p ∷ rest) in
        let e = count_summands-append d goal.op c q open_ rest in
        let g = count_append q (parts d goal.op (inst d c p)) (summands_of d goal.op c rest) in
        let h = ap (λ t. count q (parts d goal.op t)) is in
        omega arith

    -- a pattern that is known takes its summands away
    pub leaving_taken : length goal.left.now ≡ length (pieces_of goal) → (v : FlatTerm) → IsKnown b p v → Settled d p → (new : List ℕ) → IsTakenAway (pieces_of goal) left new (parts d goal.op v) true → Leaving open_ new rest
    leaving_taken sized v known flat new taken =
        let light = l.lighter in
        let few = l.fewer in
        let long = l.long in
        let less = taken_together (pieces_of goal) left new (parts d goal.op v) (l.long ∙ sized) (taken.0 ∙ l.long ∙ sized) taken.1 in
        record {
          same = λ c k a. (
            λ h q. let x = (l.same c k a).0 h q in let y = counted q v c (known d flat c a) in let z = taken.1 q in omega arith,
            λ h. (l.same c k a).1 (λ q. let x = h q in let y = counted q v c (known d flat c a) in let z = taken.1 q in omega arith),
          );
          among = λ q some. l.among q (let x = count_append q open_ (p ∷ rest) in let y = count_append q open_ rest in omega arith);
          lighter = omega arith;
          long = taken.0 ∙ l.long;
          fewer = omega arith;
        }

    -- where its summands are not there, nothing is a solution
    pub leaving_refused : (v : FlatTerm) → IsKnown b p v → Settled d p → (new : List ℕ) → IsTakenAway (pieces_of goal) left new (parts d goal.op v) false → (c : Values) → IsCandidate d c → Agrees b c → SumHolds d goal c → ⊥
    leaving_refused v known flat new lacks c k a h =
        let q = lacks.0 in
        let x = (l.same c k a).0 h q in
        let y = counted q v c (known d flat c a) in
        omega (arith, lacks.1)

  -- a pattern of the sum is settled
  pub flat_at : SumFits d goal → (i : ℕ) (p : Bor FlatTerm) → i < length goal.patterns.now → p ≡ get_or goal.patterns.now i p → Settled d p.now
  flat_at fit i p within is = (each_at (IsFlatOf d (kind d fit.rank.result)) (patterns_of goal) fit.patterns i p.now (let z = length_references goal.patterns.now in omega arith) (references-get goal.patterns.now i p within is)).flat

  -- the same along a list of references
  module _ (xs : List (Bor FlatTerm)) (i : ℕ) (p : Bor FlatTerm) (within : i < length xs) (is : p ≡ get_or xs i p) (ps : List (Bor FlatTerm)) (left : List ℕ) (l : Leaving (references ps) left (drop i (references xs))) where
    first : drop i (references xs) ≡ p.now ∷ drop (i + 1) (references xs)
    first =
        drop_more (references xs) i p.now (let z = length_references xs in omega arith)
        ∙ ap (λ u. u ∷ drop (i + 1) (references xs)) (sym (references-get xs i p within is))

    at_first : Leaving (references ps) left (p.now ∷ drop (i + 1) (references xs))
    at_first = subst (Leaving (references ps) left) first l

    pub step_open : Leaving (references (ps ++ p ∷ [])) left (drop (i + 1) (references xs))
    step_open = subst (λ open_. Leaving open_ left (drop (i + 1) (references xs))) (sym (references-append ps (p ∷ []))) (leaving_open (references ps) left p.now (drop (i + 1) (references xs)) at_first)

    module _ (v : FlatTerm) (known : IsKnown b p.now v) (flat : Settled d p.now) (new : List ℕ) where
      pub step_taken : length goal.left.now ≡ length (pieces_of goal) → IsTakenAway (pieces_of goal) left new (parts d goal.op v) true → Leaving (references ps) new (drop (i + 1) (references xs))
      step_taken sized taken = leaving_taken (references ps) left p.now (drop (i + 1) (references xs)) at_first sized v known flat new taken

      pub step_refused : IsTakenAway (pieces_of goal) left new (parts d goal.op v) false → LeavesOpen d b goal None
      step_refused lacks c k a h = leaving_refused (references ps) left p.now (drop (i + 1) (references xs)) at_first v known flat new lacks c k a h

  pub step_end : (o : Open) → Leaving (references o.patterns.items) o.left.items [] → IsOpen d b goal o
  step_end o l = record {
    same = λ c k a. subst (λ ps. SumHolds d goal c ↔ AddsUp d goal.op ps (pieces_of goal) o.left.items c) (append-nil (references o.patterns.items)) (l.same c k a);
    among = λ q some. l.among q (subst (λ ps. 1 ≤ count q ps) (sym (append-nil (references o.patterns.items))) some);
    lighter = let x = l.lighter in omega arith;
    long = l.long;
    fewer = l.fewer;
  }
