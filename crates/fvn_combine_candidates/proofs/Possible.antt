-- Choices by lists that are possible.
use Rattle.std.proofs.Common.{◌≡◌, ◌≢◌, ℕ, ◌/◌, ◌%◌, ◌^◌, ◌<◌, ◌≤◌, Bool, List, [], length, slice_index, slice_index_or, refl, sym, ap, ◌∙◌, subst, arith, AllPairs, Contains, Option, Some}
use Rattle.std.specs.Prelude.{◌↔◌, slice_get}
use Rattle.std.specs.List.{AllZip, sum_by}
use Rattle.std.proofs.lemmas.Option.{slice_get_within}
use Rattle.fvn_terms.specs.declared.plain.OpId.{OpId}
use Rattle.fvn_terms.specs.declared.declarations.Declarations.{Declarations}
use Rattle.fvn_terms.specs.Unifiers.{Problem}
use Rattle.fvn_forms.specs.FitsKinds.{FitsKinds}
use Rattle.fvn_lindio.specs.declared.system.Solution.{Solution}
use Rattle.fvn_lindio.specs.Systems.{vectors_of}
use Rattle.fvn_acunify.specs.ValidChoice.{chosen, touched, IsValid, IsFull as TakesAll}
use Rattle.fvn_flat.specs.Problems.{IsProblem}
use Rattle.fvn_flat.specs.SolvedLists.{component}
use Rattle.fvn_combine_nodes.specs.Table.{NodeTable, IsWellMade, IsTableOf}
use Rattle.fvn_combine_leaves.specs.Leaves.{IsSumOperator, IsShared}
use Rattle.fvn_combine_leaves.specs.Readings.{IsReading}
use Rattle.fvn_combine_leaves.specs.declared.reading.Sums.{Sums}
use Rattle.fvn_combine_leaves.specs.declared.reading.Reading.{Reading}
use Rattle.fvn_combine_choices.specs.Binding.{IsBound, IsConstant, AreAsked}
use Rattle.fvn_combine_choices.specs.Choosing.{Systems, Choice, AreTakenTogether, IsAcceptable, IsPossible, member_count, taken}
use Rattle.fvn_combine_choices.specs.Laws.{ValidChoicesAreAcceptable}
use Rattle.fvn_combine_admissible.specs.Listed.{tag_in, systems_of, choice_of}
use Rattle.fvn_combine_admissible.specs.Aliases.{HasNoAlias}
use Rattle.fvn_combine_complete.specs.Full.{HasNoConstant, IsFull}
use Rattle.fvn_combine_complete.specs.Vanishing.{MayVanish}
use Rattle.fvn_combine_complete.proofs.Touching.{bare_is}
use Rattle.fvn_acunify_product.specs.Wheels.{Wheel, IsChoice}
use Rattle.fvn_combine_candidates.specs.declared.sharing.SharedClass.{SharedClass}
use Rattle.fvn_combine_leaves.specs.Bases.{AreBases}
use Rattle.fvn_combine_candidates.specs.Sharing.{AreSharedClasses}
use Rattle.fvn_combine_candidates.specs.Tags.{AreTags}
use Rattle.fvn_combine_candidates.specs.Turning.{IsWheel, AreWheels, LeaveNoAlias, AreWithin}
use Rattle.fvn_combine_candidates.proofs.Entries.{entry_at, listed_at, zip_at, zip_from}
use Rattle.fvn_combine_candidates.proofs.Fullness.{vanishes_by, zero_by}
use Rattle.fvn_combine_candidates.proofs.Systems.{IsPlaced, placed, operator_at, sums_at, columns_for, basis_for, for_operator, make_systems}
use Rattle.fvn_combine_candidates.proofs.Tagged.{tags_are_users}

-- what is said of two classes that a solution has, by columns and solutions
abbrev pub NoAlias : (d : Declarations) (t : NodeTable) (class : ℕ → ℕ) (y : Systems) (c : Choice) (f : OpId) → Type 0
NoAlias d t class y c f = (k l : ℕ) → IsShared d t class k → IsBound d t class c.tag f k → IsConstant d t class c.tag f l → AreTakenTogether d t class y c f k l → 2 ≤ member_count y c f k

module _ (d : Declarations) (t : NodeTable) (class : ℕ → ℕ) (r : Reading) (reading : IsReading d t class r) (bases : List (List Solution)) (are : AreBases r.sums bases) (tags : List (Option OpId)) (numbers : List ℕ) (numbered : length numbers ≡ length r.sums) where
  y : Systems
  y = systems_of r bases

  c : Choice
  c = choice_of r tags numbers

  module _ (f : OpId) (p : IsPlaced r f) where
    pub number_for : (choice_of r tags numbers).number f ≡ slice_index numbers p.place
    number_for = for_operator d t class r reading f p 0 numbers numbered

    pub taken_for : taken (systems_of r bases) (choice_of r tags numbers) f ≡ chosen (slice_index numbers p.place) (vectors_of (slice_index_or bases p.place []))
    taken_for = ap (λ n. chosen n ((systems_of r bases).basis f)) number_for ∙ ap (chosen (slice_index numbers p.place)) (basis_for d t class r reading f p bases are.as_many)

    -- aliases, by the lists and by the choice
    pub alias_to : HasNoAlias d t class (tag_in tags) f p.entry.columns (chosen (slice_index numbers p.place) (vectors_of (slice_index_or bases p.place []))) → NoAlias d t class (systems_of r bases) (choice_of r tags numbers) f
    alias_to none k l shared bound constant together =
        let cols = columns_for d t class r reading f p in
        let v = together.solution in
        subst (λ cs. 2 ≤ sum_by (λ w. component cs w k) (taken (systems_of r bases) (choice_of r tags numbers) f)) (sym cols)
        (subst (λ vs. 2 ≤ sum_by (λ w. component p.entry.columns w k) vs) (sym taken_for)
        (none k l v shared bound constant (subst (λ vs. Contains vs v) taken_for together.among) (subst (λ cs. 0 < component cs v k) cols together.left) (subst (λ cs. 0 < component cs v l) cols together.right)))

    pub alias_from : NoAlias d t class (systems_of r bases) (choice_of r tags numbers) f → HasNoAlias d t class (tag_in tags) f p.entry.columns (chosen (slice_index numbers p.place) (vectors_of (slice_index_or bases p.place [])))
    alias_from none k l v shared bound constant among left right =
        let cols = columns_for d t class r reading f p in
        subst (λ vs. 2 ≤ sum_by (λ w. component p.entry.columns w k) vs) taken_for
        (subst (λ cs. 2 ≤ sum_by (λ w. component cs w k) (taken (systems_of r bases) (choice_of r tags numbers) f)) cols
        (none k l shared bound constant record {
          solution = v;
          among = subst (λ vs. Contains vs v) (sym taken_for) among;
          left = subst (λ cs. 0 < component cs v k) (sym cols) left;
          right = subst (λ cs. 0 < component cs v l) (sym cols) right;
        }))

  module _ (valid : ValidChoicesAreAcceptable) (fits : FitsKinds d) (problem : Problem) (is_problem : IsProblem d problem) (made : IsWellMade t) (table : IsTableOf d problem t) (wheels : List Wheel) (are_wheels : AreWheels d t class (tag_in tags) r.sums bases wheels) where
    -- for an operator with its wheel
    at_wheel : (f : OpId) → IsSumOperator d t f → (p : IsPlaced r f) (w : Wheel) → slice_get wheels p.place ≡ Some w
        → IsAcceptable d t class (systems_of r bases) (choice_of r tags numbers) f ↔ (IsValid w.constants w.may_be_zero (vectors_of w.basis) (slice_index numbers p.place) × NoAlias d t class (systems_of r bases) (choice_of r tags numbers) f)
    at_wheel f op p w is =
        let is_wheel = are_wheels.each p.place p.entry w p.is is in
        let cols = columns_for d t class r reading f p in
        let asked : AreAsked d t class (tag_in tags) f ((systems_of r bases).columns f) w.constants w.may_be_zero =
        subst (λ cs. AreAsked d t class (tag_in tags) f cs w.constants w.may_be_zero) (sym cols) (subst (λ g. AreAsked d t class (tag_in tags) g p.entry.columns w.constants w.may_be_zero) p.operator is_wheel.asked) in
        let iff = valid d fits problem is_problem t made table class (systems_of r bases) (make_systems d t class r reading bases are) (choice_of r tags numbers) f op w.constants w.may_be_zero asked in
        let basis : (systems_of r bases).basis f ≡ vectors_of w.basis = basis_for d t class r reading f p bases are.as_many ∙ ap vectors_of (sym is_wheel.over) in
        let to : IsValid w.constants w.may_be_zero ((systems_of r bases).basis f) ((choice_of r tags numbers).number f) → IsValid w.constants w.may_be_zero (vectors_of w.basis) (slice_index numbers p.place) =
        λ h. subst (IsValid w.constants w.may_be_zero (vectors_of w.basis)) (number_for f p) (subst (λ vs. IsValid w.constants w.may_be_zero vs ((choice_of r tags numbers).number f)) basis h) in
        let from : IsValid w.constants w.may_be_zero (vectors_of w.basis) (slice_index numbers p.place) → IsValid w.constants w.may_be_zero ((systems_of r bases).basis f) ((choice_of r tags numbers).number f) =
        λ h. subst (λ vs. IsValid w.constants w.may_be_zero vs ((choice_of r tags numbers).number f)) (sym basis) (subst (IsValid w.constants w.may_be_zero (vectors_of w.basis)) (sym (number_for f p)) h) in
        (λ h. let b = iff.0 h in (to b.0, b.1), λ b. iff.1 (from b.0, b.1))

    -- full choices, by the choice and by the wheel
    module _ (f : OpId) (op : IsSumOperator d t f) (p : IsPlaced r f) (w : Wheel) (is : slice_get wheels p.place ≡ Some w) where
      is_wheel : IsWheel d t class (tag_in tags) p.entry (slice_index_or bases p.place []) w
      is_wheel = are_wheels.each p.place p.entry w p.is is

      basis_is : (systems_of r bases).basis f ≡ vectors_of w.basis
      basis_is = basis_for d t class r reading f p bases are.as_many ∙ ap vectors_of (sym is_wheel.over)

      bare : (v : List ℕ) → (touched w.constants v ≡ 0) ↔ HasNoConstant d t class (systems_of r bases) (choice_of r tags numbers) f v
      bare v =
          let cols = columns_for d t class r reading f p in
          let system = (make_systems d t class r reading bases are).is_system f op in
          let asked : AreAsked d t class (tag_in tags) f ((systems_of r bases).columns f) w.constants w.may_be_zero =
          subst (λ cs. AreAsked d t class (tag_in tags) f cs w.constants w.may_be_zero) (sym cols) (subst (λ g. AreAsked d t class (tag_in tags) g p.entry.columns w.constants w.may_be_zero) p.operator is_wheel.asked) in
          bare_is d t class (tag_in tags) f ((systems_of r bases).columns f) system.distinct (λ k h. (system.exact k).1 h.used.column) w.constants w.may_be_zero asked v

      distinct_here : AllPairs ◌≢◌ p.entry.columns
      distinct_here = (sums_at d t class r reading p.place p.entry p.is).is_system.distinct

      -- what may stand for the identity, by the entry and by the systems
      may_to : (v : List ℕ) → MayVanish d t class p.entry.operator p.entry.columns v → MayVanish d t class f ((systems_of r bases).columns f) v
      may_to v m = subst (λ cs. MayVanish d t class f cs v) (sym (columns_for d t class r reading f p)) (subst (λ g. MayVanish d t class g p.entry.columns v) p.operator m)

      may_from : (v : List ℕ) → MayVanish d t class f ((systems_of r bases).columns f) v → MayVanish d t class p.entry.operator p.entry.columns v
      may_from v m = subst (λ g. MayVanish d t class g p.entry.columns v) (sym p.operator) (subst (λ cs. MayVanish d t class f cs v) (columns_for d t class r reading f p) m)

      whole_to : IsFull d t class (systems_of r bases) (choice_of r tags numbers) → (others : List ℕ) → w.full ≡ Some others → TakesAll w.constants others (vectors_of w.basis) (slice_index numbers p.place)
      whole_to h others e i l none zero =
          let n = ap length basis_is in
          let at = ap (λ vs. slice_index_or vs i []) basis_is in
          let v = slice_index_or (vectors_of w.basis) i [] in
          let may = may_to v (vanishes_by d t class p.entry distinct_here v w.full is_wheel.full others e zero) in
          ap (λ b. b / 2 ^ i % 2) (sym (number_for f p))
          ∙ h f op i (omega (arith, l, n)) (subst (HasNoConstant d t class (systems_of r bases) (choice_of r tags numbers) f) (sym at) ((bare v).0 none))
          (subst (MayVanish d t class f ((systems_of r bases).columns f)) (sym at) may)

      whole_from : ((others : List ℕ) → w.full ≡ Some others → TakesAll w.constants others (vectors_of w.basis) (slice_index numbers p.place)) → (i : ℕ) → i < length ((systems_of r bases).basis f) → HasNoConstant d t class (systems_of r bases) (choice_of r tags numbers) f (slice_index_or ((systems_of r bases).basis f) i [])
          → MayVanish d t class f ((systems_of r bases).columns f) (slice_index_or ((systems_of r bases).basis f) i []) → (choice_of r tags numbers).number f / 2 ^ i % 2 ≡ 1
      whole_from h i l none may =
          let m = ap length basis_is in
          let at = ap (λ vs. slice_index_or vs i []) basis_is in
          let v = slice_index_or (vectors_of w.basis) i [] in
          let zero = zero_by d t class p.entry distinct_here v w.full is_wheel.full (may_from v (subst (MayVanish d t class f ((systems_of r bases).columns f)) at may)) in
          ap (λ b. b / 2 ^ i % 2) (number_for f p)
          ∙ h zero.0 zero.1 i (omega (arith, l, m)) ((bare v).1 (subst (HasNoConstant d t class (systems_of r bases) (choice_of r tags numbers) f) at none)) zero.2

    -- the operator at a place
    abbrev here : (i : ℕ) (e : Sums) → slice_get r.sums i ≡ Some e → IsPlaced r e.operator
    here i e is = record { place = i; entry = e; is = is; operator = refl }

    op_here : (i : ℕ) (e : Sums) → slice_get r.sums i ≡ Some e → IsSumOperator d t e.operator
    op_here i e is = operator_at d t class r reading e (listed_at r.sums i e is)

    wheel_here : (i : ℕ) (e : Sums) → slice_get r.sums i ≡ Some e → (w : Wheel) × (slice_get wheels i ≡ Some w)
    wheel_here i e is = entry_at wheels i (let l = slice_get_within r.sums i e is in let m = are_wheels.as_many in omega (arith, l, m))

    pub to_wheels : IsPossible d t class (systems_of r bases) (choice_of r tags numbers) × IsFull d t class (systems_of r bases) (choice_of r tags numbers) × AreWithin wheels numbers → AllZip IsChoice wheels numbers × LeaveNoAlias d t class (tag_in tags) r.sums bases numbers
    to_wheels h = (
      zip_from IsChoice wheels numbers (let m = are_wheels.as_many in omega (arith, m, numbered)) (λ i w is.
          let l = slice_get_within wheels i w is in
          let e = entry_at r.sums i (let m = are_wheels.as_many in omega (arith, l, m)) in
          let f = e.0.operator in
          let op = op_here i e.0 e.1 in
          record {
            valid = ((at_wheel f op (here i e.0 e.1) w is).0 (h.0.acceptable f op)).0;
            bounded = h.2 i w is;
            whole = whole_to f op (here i e.0 e.1) w is h.1;
          }),
      λ i e is. alias_from e.operator (here i e is) (h.0.acceptable e.operator (op_here i e is)).no_alias,
    )

    pub from_wheels : (sorted : Bool) (shared : List SharedClass) → AreSharedClasses d t class sorted shared → (options : List ℕ) → AreTags shared options tags
        → AllZip IsChoice wheels numbers × LeaveNoAlias d t class (tag_in tags) r.sums bases numbers → IsPossible d t class (systems_of r bases) (choice_of r tags numbers) × IsFull d t class (systems_of r bases) (choice_of r tags numbers) × AreWithin wheels numbers
    from_wheels sorted shared are_shared options are_tags h = (
      record {
        tags = tags_are_users d t class sorted shared are_shared options tags are_tags;
        acceptable = λ f op.
            let p = placed d t class r reading f op in
            let w = wheel_here p.place p.entry p.is in
            let none = alias_to f p (subst (λ g. HasNoAlias d t class (tag_in tags) g p.entry.columns (chosen (slice_index numbers p.place) (vectors_of (slice_index_or bases p.place [])))) p.operator (h.1 p.place p.entry p.is)) in
            (at_wheel f op p w.0 w.1).1 ((zip_at IsChoice wheels numbers h.0 p.place w.0 w.1).valid, none);
      },
      λ f op.
          let p = placed d t class r reading f op in
          let w = wheel_here p.place p.entry p.is in
          whole_from f op p w.0 w.1 (zip_at IsChoice wheels numbers h.0 p.place w.0 w.1).whole,
      λ i w is. (zip_at IsChoice wheels numbers h.0 i w is).bounded,
    )
