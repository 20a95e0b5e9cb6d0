-- What the tests of overlaps show.
use Rattle.std.specs.Prelude.{◌≡◌, ◌<◌, ℕ, Bool, true, false, List, [], ◌∷◌, length, drop, All, Contains, Option, None, Some, slice_get}
use Rattle.fvn_terms.specs.declared.plain.OpId.{OpId}
use Rattle.fvn_terms.specs.Substitution.{Substitution}
use Rattle.fvn_terms.specs.Unifiers.{Problem, IsUnifier}
use Rattle.fvn_forms.specs.Flat.{FlatTerm}
use Rattle.fvn_flat.specs.Bindings.{Bindings, BindingsFit}
use Rattle.fvn_flat.specs.Forms.{head_of}
use Rattle.fvn_flat.specs.Solving.{substitution}
use Rattle.fvn_rewrite_rules.specs.declared.rule.Rule.{Rule}
use Rattle.fvn_rewrite.specs.Usable.{Rewriting, equations_by}
use Rattle.fvn_places.specs.Paths.{LeadsTo, paths}
use Rattle.fvn_critical_pairs.specs.Overlaps.{Overlap, overlap_problem, IsRenewed, IsOverlap, IsOverlapWith, JoinsUnder, Joins, SubsumeAll}
use Rattle.fvn_critical.specs.declared.pairing.Meeting.{Meeting}
use Rattle.fvn_critical.specs.declared.renewing.New.{New}
use Rattle.fvn_critical.specs.declared.testing.Part.{Part}
use Rattle.fvn_critical.specs.declared.fault.CriticalFault.{CriticalFault}
use Rattle.fvn_critical.specs.Faults.{IsCriticalFault}

-- the overlap that is tested
abbrev pub overlap_in : Meeting → Overlap
overlap_in m = record { outer = m.outer.now; path = m.path.now; at = m.at.now; inner = m.inner.now }

-- it is an overlap of the rules, with new variables up to this number
abbrev pub IsTestable : Rewriting → Meeting → Type 0
IsTestable r m = IsOverlap r.signature r.rules m.next (overlap_in m)

-- the second rule is a given one with new variables
abbrev pub IsNewRule : Rewriting → New → Type 0
IsNewRule r new = (rule : Rule) × Contains r.rules.rules rule × IsRenewed r.signature new.next rule new.rule

-- the path leads to this form, of which the operator is the head
pub record IsPartAt (new : New) (part : Part) : Type 0 where
  pub listed : Contains (paths new.rule.left) part.path.now
  pub leads : LeadsTo part.path.now new.rule.left part.at.now
  pub heads : head_of part.at.now ≡ Some part.head

-- whether the operator heads the form
abbrev pub HeadsAs : OpId → FlatTerm → Bool → Type 0
HeadsAs f t true = head_of t ≡ Some f
HeadsAs f t false = head_of t ≡ Some f → ⊥

-- a given unifier of an overlap's problem, which may be drawn for it
pub record IsDrawnFor (r : Rewriting) (drawn : Problem → Substitution → Type 0) (o : Overlap) (s : Bindings) : Type 0 where
  pub unifies : IsUnifier r.signature (overlap_problem o) (substitution s)
  pub is_drawn : drawn (overlap_problem o) (substitution s)
  pub fits : BindingsFit r.signature s

module _ (r : Rewriting) (drawn : Problem → Substitution → Type 0) (unifiers : ℕ) where
  -- where nothing is wrong, this is shown; else what the fault says
  abbrev pub TestedAs : Type 0 → Option CriticalFault → Type 0
  TestedAs Shown None = Shown
  TestedAs Shown (Some f) = IsCriticalFault r drawn unifiers f

-- both results join under each of the unifiers
abbrev pub AllJoin : Rewriting → Overlap → List Bindings → Type 0
AllJoin r o list = All (λ s. JoinsUnder r.signature (equations_by r) o (substitution s)) list

-- each member is so
abbrev pub Each : {A : Type 0} → (A → Type 0) → List A → Type 0
Each {A} P list = (x : A) → Contains list x → P x

-- the overlaps of the outer rule at the path with this rule join
abbrev pub JoinWith : Rewriting → Rule → List ℕ → Rule → Type 0
JoinWith r outer path inner =
    (o : Overlap) → o.outer ≡ outer → o.path ≡ path → o.inner ≡ inner → IsOverlapWith r.rules o →
    Joins r.signature (equations_by r) o

-- the overlaps of the outer rule at the path with chosen rules join
abbrev pub JoinAt : Rewriting → List Rule → Rule → List ℕ → Type 0
JoinAt r chosen outer path =
    (o : Overlap) → o.outer ≡ outer → o.path ≡ path → IsOverlapWith r.rules o → Contains chosen o.inner →
    Joins r.signature (equations_by r) o

-- the inner rules of overlaps at a path: where whole left sides overlap these later ones alone, else all that are chosen
abbrev pub inner_rules : List Rule → List Rule → List ℕ → List Rule
inner_rules chosen later [] = later
inner_rules chosen later (i ∷ path) = chosen

-- the overlaps of the outer rule at the path with these inner rules join
abbrev pub IsJoinedAt : Rewriting → List Rule → List Rule → Rule → List ℕ → Type 0
IsJoinedAt r chosen later outer path = JoinAt r (inner_rules chosen later path) outer path

-- some renewal of the rule joins in its overlaps with chosen rules, where whole left sides overlap in those with the later ones
pub record IsJoinedAlong (r : Rewriting) (chosen later : List Rule) (rule : Rule) : Type 0 where
  pub next : ℕ
  pub new : Rule
  pub renewed : IsRenewed r.signature next rule new
  pub along : Each (IsJoinedAt r chosen later new) (paths new.left)

-- each of the first so many chosen rules does so, with itself and those behind it
abbrev pub AreJoinedUpTo : Rewriting → List Rule → ℕ → Type 0
AreJoinedUpTo r chosen n =
    (i : ℕ) (rule : Rule) → i < n → slice_get chosen i ≡ Some rule → IsJoinedAlong r chosen (drop i chosen) rule

-- some rules that subsume all join so
pub record AreJoinedBySome (r : Rewriting) : Type 0 where
  pub chosen : List Rule
  pub enough : SubsumeAll r.signature r.rules.rules chosen
  pub joined : AreJoinedUpTo r chosen (length chosen)
