-- Values that go with a leaf obey a possible choice that is full.
use Rattle.std.proofs.Common.{◌≡◌, ℕ, ◌/◌, ◌%◌, ◌^◌, ◌<◌, true, false, List, [], length, get_or, refl, sym, ap, ◌∙◌, subst, inl, inr, arith, Option}
use Rattle.std.specs.Prelude.{Bool, nat_eq}
use Rattle.std.proofs.lemmas.Bool.{eqb-true, eq-eqb, true≢false}
use Rattle.fvn_base.specs.Decided.{Decided}
use Rattle.fvn_terms.specs.declared.plain.OpId.{OpId}
use Rattle.fvn_terms.specs.declared.declarations.Declarations.{Declarations}
use Rattle.fvn_forms.specs.Flat.{FlatTerm}
use Rattle.fvn_forms.specs.Good.{IsGood}
use Rattle.fvn_acunify.specs.ValidChoice.{touched}
use Rattle.fvn_combine_nodes.specs.Table.{NodeTable, IsWellMade}
use Rattle.fvn_combine_nodes.specs.States.{class_of}
use Rattle.fvn_combine_nodes.specs.declared.state.State.{State}
use Rattle.fvn_combine_supports.specs.Laws.{MadeUpByTaken}
use Rattle.fvn_combine_leaves.specs.Leaves.{IsLeaf, IsSumOperator}
use Rattle.fvn_combine_choices.specs.Choosing.{Systems, Choice, AreSystems, IsAcceptable, IsPossible}
use Rattle.fvn_combine_complete.specs.Alive.{ListsAlive}
use Rattle.fvn_combine_complete.specs.Laws.{ValuesChoose, NoAliases, IsChosen}
use Rattle.fvn_combine_choices.specs.Tables.{HasSums}
use Rattle.fvn_combine_complete.specs.Obeying.{IsTold, GoWith, ObeyHeads, TagsFollow}
use Rattle.fvn_combine_complete.specs.Full.{HasNoConstant, IsFull}
use Rattle.fvn_combine_complete.specs.Vanishing.{MayVanish}
use Rattle.fvn_combine_complete.specs.Obeyed.{AreMadeOf, AreObeying}
use Rattle.fvn_combine_complete.proofs.Asked.{sum_told, Asked, asked}
use Rattle.fvn_combine_complete.proofs.Chosen.{made_of, acceptable}
use Rattle.fvn_combine_complete.proofs.Marked.{number_by, marked, AreMarks, marks_of, are_marks, marks_long, also_marked, bit_marked}
use Rattle.fvn_combine_complete.proofs.VanishingTold.{vanishing_told}
use Rattle.fvn_combine_complete.proofs.Touching.{bare_is}
use Rattle.fvn_combine_complete.proofs.Tagging.{RightTags, right_tags}

module _ (choose : ValuesChoose) (aliases : NoAliases) (law : MadeUpByTaken) (d : Declarations) (good : IsGood d) (t : NodeTable) (made : IsWellMade t) (has : HasSums d t) (s : State) (heads : List (Option OpId)) (leaf : IsLeaf d t heads s) (told : IsTold d t (class_of s)) (y : Systems) (systems : AreSystems d t (class_of s) y) (alive : ListsAlive d t s y) (values : ℕ → FlatTerm) (go_with : GoWith d t s values) (obey_heads : ObeyHeads d t s heads values) where
  abbrev class : ℕ → ℕ
  class = class_of s

  tags : RightTags d t s heads values
  tags = right_tags d t made has s heads leaf told y systems values go_with obey_heads

  abbrev tag : ℕ → Option OpId
  tag = tags.tag

  -- what is asked for an operator, and what is chosen for it
  asked_for : (f : OpId) → IsSumOperator d t f → Asked d t made has s leaf told values go_with tag tags.obey f (y.columns f)
  asked_for f sum = asked d t made has s leaf told values go_with tag tags.obey y systems f sum (y.columns f) (systems.is_system f sum).exact

  chosen_for : (f : OpId) (sum : IsSumOperator d t f) → IsChosen d f values (y.columns f) (y.system f) (y.basis f) (asked_for f sum).constants (asked_for f sum).may_be_zero
  chosen_for f sum =
      choose d t made has s heads leaf told values go_with obey_heads tag tags.obey tags.follow f sum (y.columns f) (y.system f) (systems.is_system f sum) (y.basis f) (systems.minimal f sum) (alive f sum)
      (asked_for f sum).constants (asked_for f sum).may_be_zero (asked_for f sum).are_asked

  -- solutions without a constant that may stand for the identity are taken with or without pieces
  abbrev Vanishes : OpId → List ℕ → Type 0
  Vanishes f v = MayVanish d t class f (y.columns f) v

  abbrev also_in : (f : OpId) → IsSumOperator d t f → (v : List ℕ) → Decided (Vanishes f v) → Bool
  also_in f sum v (inl m) = nat_eq (touched (asked_for f sum).constants v) 0
  also_in f sum v (inr n) = false

  abbrev also : (f : OpId) → IsSumOperator d t f → List ℕ → Bool
  also f sum v = also_in f sum v (vanishing_told d good t class told f (y.columns f) v)

  also_vanishes : (f : OpId) (sum : IsSumOperator d t f) (v : List ℕ) → also f sum v ≡ true → Vanishes f v
  also_vanishes f sum v e = go (vanishing_told d good t class told f (y.columns f) v) e
    where
      go : (o : Decided (Vanishes f v)) → also_in f sum v o ≡ true → Vanishes f v
      go (inl m) e = m
      go (inr n) e = absurd (true≢false (sym e))

  also_bare : (f : OpId) (sum : IsSumOperator d t f) (v : List ℕ) → also f sum v ≡ true → touched (asked_for f sum).constants v ≡ 0
  also_bare f sum v e = go (vanishing_told d good t class told f (y.columns f) v) e
    where
      go : (o : Decided (Vanishes f v)) → also_in f sum v o ≡ true → touched (asked_for f sum).constants v ≡ 0
      go (inl m) e = eqb-true (touched (asked_for f sum).constants v) 0 e
      go (inr n) e = absurd (true≢false (sym e))

  also_passes : (f : OpId) (sum : IsSumOperator d t f) (v : List ℕ) → Vanishes f v → touched (asked_for f sum).constants v ≡ 0 → also f sum v ≡ true
  also_passes f sum v m e = go (vanishing_told d good t class told f (y.columns f) v)
    where
      go : (o : Decided (Vanishes f v)) → also_in f sum v o ≡ true
      go (inl o) = eq-eqb (touched (asked_for f sum).constants v) 0 e
      go (inr n) = absurd (n m)

  marks_for : (f : OpId) → IsSumOperator d t f → List Bool
  marks_for f sum = marks_of (also f sum) (chosen_for f sum).pieces (y.basis f)

  marks_are : (f : OpId) (sum : IsSumOperator d t f) → AreMarks (also f sum) (marks_for f sum) (chosen_for f sum).pieces (y.basis f)
  unfolding marks_for
  marks_are f sum = are_marks (also f sum) (chosen_for f sum).pieces (y.basis f) (chosen_for f sum).made_up.as_many

  abbrev number_in : (f : OpId) → Decided (IsSumOperator d t f) → ℕ
  number_in f (inl sum) = number_by (marks_for f sum)
  number_in f (inr n) = 0

  abbrev pieces_in : (f : OpId) → Decided (IsSumOperator d t f) → List (List FlatTerm)
  pieces_in f (inl sum) = marked (marks_for f sum) (chosen_for f sum).pieces
  pieces_in f (inr n) = []

  abbrev choice : Choice
  choice = record { tag = tag; number = λ f. number_in f (sum_told d t f) }

  accepted : (f : OpId) → IsSumOperator d t f → (o : Decided (IsSumOperator d t f)) → sum_told d t f ≡ o → IsAcceptable d t class y choice f
  accepted f sum (inl h) e =
      acceptable d t made has s leaf told values go_with obey_heads y systems alive choice tags.obey tags.follow f h (asked_for f h).constants (asked_for f h).may_be_zero (asked_for f h).are_asked (chosen_for f h) (also f h) (marks_for f h) (marks_are f h) (ap (number_in f) e) (also_vanishes f h) (also_bare f h) (also_passes f h) law aliases
  accepted f sum (inr n) e = absurd (n sum)

  made_up : (f : OpId) → IsSumOperator d t f → (o : Decided (IsSumOperator d t f)) → sum_told d t f ≡ o → AreMadeOf d t class y choice values f (pieces_in f (sum_told d t f))
  made_up f sum (inl h) e =
      subst (AreMadeOf d t class y choice values f) (sym (ap (pieces_in f) e))
      (made_of d t made has s leaf told values go_with obey_heads y systems alive choice tags.obey tags.follow f h (asked_for f h).constants (asked_for f h).may_be_zero (asked_for f h).are_asked (chosen_for f h) (also f h) (marks_for f h) (marks_are f h) (ap (number_in f) e) (also_vanishes f h) (also_bare f h) (also_passes f h) law)
  made_up f sum (inr n) e = absurd (n sum)

  -- every solution without a constant that may stand for the identity is taken
  filled : (f : OpId) → IsSumOperator d t f → (o : Decided (IsSumOperator d t f)) → sum_told d t f ≡ o → (i : ℕ) → i < length (y.basis f)
      → HasNoConstant d t class y choice f (get_or (y.basis f) i []) → Vanishes f (get_or (y.basis f) i []) → choice.number f / 2 ^ i % 2 ≡ 1
  filled f sum (inl h) e i l bare vanishes =
      let asked = (asked_for f h).are_asked in
      let v = get_or (y.basis f) i [] in
      let system = systems.is_system f h in
      let none = (bare_is d t class tag f (y.columns f) system.distinct (λ k c. (system.exact k).1 c.used.column) (asked_for f h).constants (asked_for f h).may_be_zero asked v).1 bare in
      let are = marks_are f h in
      let long = marks_long (also f h) (marks_for f h) (chosen_for f h).pieces (y.basis f) are in
      ap (λ m. m / 2 ^ i % 2) (ap (number_in f) e)
      ∙ bit_marked (marks_for f h) i (omega (arith, l, long)) (also_marked (also f h) (marks_for f h) (chosen_for f h).pieces (y.basis f) are i l (also_passes f h v vanishes none))
  filled f sum (inr m) e i l bare vanishes = absurd (m sum)

  pub obeyed_choice : (c : Choice) × IsPossible d t class y c × IsFull d t class y c × AreObeying d t class y c values × TagsFollow d t class c.tag values heads
  obeyed_choice = (
    choice,
    record { tags = tags.right; acceptable = λ f sum. accepted f sum (sum_told d t f) refl },
    λ f sum. filled f sum (sum_told d t f) refl,
    record { tags = tags.obey; pieces = λ f. pieces_in f (sum_told d t f); made_of = λ f sum. made_up f sum (sum_told d t f) refl },
    tags.follow,
  )
