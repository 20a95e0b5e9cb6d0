-- The variables that stand for solutions, and the pieces of these.
use Rattle.std.proofs.Common.{◌≡◌, ◌⊎◌, ℕ, ◌<◌, List, [], ◌∷◌, length, map, get_or, sym, ap, ◌∙◌, subst, inl, inr, arith, Contains, zero, suc, refl}
use Rattle.std.specs.List.{AllByRecursion}
use Rattle.std.proofs.lemmas.Bool.{cases_order}
use Rattle.std.proofs.lemmas.List.{get_or-map, length-map, get_or_default}
use Rattle.std.proofs.lemmas.List.Elements.{All-contains}
use Rattle.fvn_base.specs.Decided.{Decided}
use Rattle.fvn_base.proofs.Decided.{some_or_none}
use Rattle.fvn_base.proofs.Membership.{contains_here, contains_later}
use Rattle.fvn_terms.specs.declared.plain.OpId.{OpId}
use Rattle.fvn_terms.specs.declared.declarations.Rank.{Rank}
use Rattle.fvn_terms.specs.declared.declarations.Declarations.{Declarations}
use Rattle.fvn_terms.specs.Term.{var}
use Rattle.fvn_terms.specs.Substitution.{Substitution}
use Rattle.fvn_terms.specs.Signature.{kind, declared, IsSort, HasKind}
use Rattle.fvn_terms.specs.Unifiers.{Problem}
use Rattle.fvn_forms.specs.Flat.{FlatTerm, plain}
use Rattle.fvn_forms.specs.Canon.{parts}
use Rattle.fvn_forms.specs.Settled.{Settled, IsPiece}
use Rattle.fvn_forms.proofs.Build.{HasIdentity}
use Rattle.fvn_forms.proofs.KindsOfSums.{parts_of_kind}
use Rattle.fvn_forms.proofs.Sums.{parts_are_pieces, parts_are_settled}
use Rattle.fvn_flat.specs.SolvedLists.{Plan, Part, component}
use Rattle.fvn_combine_nodes.specs.Table.{NodeTable}
use Rattle.fvn_combine_nodes.specs.States.{class_of}
use Rattle.fvn_combine_nodes.specs.Unifiers.{value_at}
use Rattle.fvn_combine_nodes.specs.declared.state.State.{State}
use Rattle.fvn_combine_leaves.specs.Leaves.{IsSumOperator}
use Rattle.fvn_combine_choices.specs.Binding.{IsConstant}
use Rattle.fvn_combine_choices.specs.Choosing.{Systems, Choice, taken}
use Rattle.fvn_combine_choices.specs.Plans.{IsForSolution, StandsFor}
use Rattle.fvn_combine_complete.specs.Vanishing.{MayVanish}
use Rattle.fvn_combine_complete.specs.Obeyed.{IsSummand, AreMadeOf}
use Rattle.fvn_combine_complete.proofs.Asked.{constant_told, user_told}
use Rattle.fvn_combine_complete.proofs.Entries.{paired, PairedAt, paired_at}
use Rattle.fvn_combine_complete.proofs.Falling.{each_at}
use Rattle.fvn_combine_complete.proofs.Setting.{Setting, column_kinded, column_within, column_name, name_kinded}

each_from : {A : Type 0} (P : A → Type 0) (l : List A) → ((x : A) → Contains l x → P x) → AllByRecursion P l
each_from P [] h = tt
each_from P (x ∷ l) h = (h x (contains_here x l), each_from P l (λ z m. h z (contains_later x l z m)))

zero_or_more : (n : ℕ) → (n ≡ 0) ⊎ (0 < n)
zero_or_more zero = inl refl
zero_or_more (suc n) = inr (omega arith)

module _ {d : Declarations} {problem : Problem} {t : NodeTable} {s : State} {y : Systems} {u : Substitution} {c : Choice} {first next : ℕ} {plan : Plan} (g : Setting d problem t s y u c first next plan) (f : OpId) (sum : IsSumOperator d t f) where
  abbrev class : ℕ → ℕ
  class = class_of s

  abbrev values : ℕ → FlatTerm
  values = value_at d u t.nodes

  made : AreMadeOf d t class y c values f (g.obeying.pieces f)
  made = g.obeying.made_of f sum

  solutions : map (λ q. q.solution) (plan.parts f) ≡ taken y c f
  solutions = g.plan_by.solutions f sum

  pub as_many : length (g.obeying.pieces f) ≡ length (plan.parts f)
  as_many = made.as_many ∙ ap length (sym solutions) ∙ length-map (plan.parts f) (λ q. q.solution)

  module _ (e : Part × List FlatTerm) (among : Contains (paired (plan.parts f) (g.obeying.pieces f)) e) where
    abbrev i : ℕ
    i = (paired_at (plan.parts f) (g.obeying.pieces f) e among).0

    at : PairedAt (plan.parts f) (g.obeying.pieces f) e i
    at = (paired_at (plan.parts f) (g.obeying.pieces f) e among).1

    within_taken : i < length (taken y c f)
    within_taken = let l = at.within in let n = length-map (plan.parts f) (λ q. q.solution) in let m = ap length solutions in omega (arith, l, n, m)

    within_pieces : i < length (g.obeying.pieces f)
    within_pieces = let l = at.within in let n = as_many in omega (arith, l, n)

    solution_is : get_or (taken y c f) i [] ≡ e.0.solution
    solution_is = ap (λ l. get_or l i []) (sym solutions) ∙ get_or-map (λ q. q.solution) (plan.parts f) i e.0 [] at.within ∙ ap (λ q. q.solution) (at.part e.0)

    pub part_among : Contains (plan.parts f) e.0
    part_among = (i, at.within, at.part e.0)

    piece_among : Contains (g.obeying.pieces f) e.1
    piece_among = (i, within_pieces, get_or_default (g.obeying.pieces f) i e.1 [] within_pieces ∙ at.piece)

    -- a part with a constant has its value as its one piece, and is named as its class
    pub entry_alone : (k : ℕ) → IsConstant d t class c.tag f k → 0 < component (y.columns f) e.0.solution k → e.1 ≡ values k ∷ []
    entry_alone k h p = sym at.piece ∙ made.alone i k within_taken h (let m = ap (λ v. component (y.columns f) v k) solution_is in omega (arith, m, p))

    -- a part without pieces has a solution that may stand for the identity
    pub entry_vanishes : e.1 ≡ [] → MayVanish d t class f (y.columns f) e.0.solution
    entry_vanishes z = subst (MayVanish d t class f (y.columns f)) solution_is (made.some i within_taken (at.piece ∙ z))

    pub entry_named : e.1 ≡ [] → HasIdentity d f
    entry_named z = let m = entry_vanishes z in (m.unit, m.is_identity)

    summand : (q : FlatTerm) → Contains e.1 q → IsSummand d t class values f q
    summand q m = made.summands e.1 q piece_among m

    pub entry_pieces : AllByRecursion (IsPiece d f) e.1
    entry_pieces = each_from (IsPiece d f) e.1 (λ q m. let h = summand q m in each_at (IsPiece d f) (parts d f (values h.k)) q (parts_are_pieces d f (values h.k) (g.go_with.are.settled h.k)) h.among)

    pub entry_settled : AllByRecursion (Settled d) e.1
    entry_settled = each_from (Settled d) e.1 (λ q m. let h = summand q m in each_at (Settled d) (parts d f (values h.k)) q (parts_are_settled d f (values h.k) (g.go_with.are.settled h.k)) h.among)

    pub entry_kinded : (r : Rank) → Contains (declared d f).ranks r → AllByRecursion (λ q. HasKind d (plain q) (kind d r.result)) e.1
    entry_kinded r listed = each_from (λ q. HasKind d (plain q) (kind d r.result)) e.1 (λ q m.
        let h = summand q m in
        each_at (λ q. HasKind d (plain q) (kind d r.result)) (parts d f (values h.k)) q (parts_of_kind d g.good.fits f sum.associative (kind d r.result) (values h.k) (column_kinded g f h.k h.used r listed)) h.among)

    -- a class that the part's solution has, and that is a constant
    pub record HasConstant (k : ℕ) : Type 0 where
      pub constant : IsConstant d t class c.tag f k
      pub positive : 0 < component (y.columns f) e.0.solution k

    constant_or_none : ((k : ℕ) × HasConstant k) ⊎ ((k : ℕ) → HasConstant k → ⊥)
    constant_or_none = elim (some_or_none HasConstant told (y.columns f)) [
      | inl h ↦ inl (h.0, h.1.1)
      | inr n ↦ inr (λ k h. n k (((g.systems.is_system f sum).exact k).1 h.constant.used.column) h)
    ]
      where
        told : (k : ℕ) → Decided (HasConstant k)
        told k = elim (constant_told d t g.made g.has s g.leaf g.told values g.go_with c.tag g.obeying.tags f k (user_told d t class y g.systems f k)) [
          | inl h ↦ elim (zero_or_more (component (y.columns f) e.0.solution k)) [
            | inl z ↦ inr (λ o. let p = o.positive in omega (arith, p, z))
            | inr p ↦ inl (record { constant = h; positive = p })
          ]
          | inr n ↦ inr (λ o. n o.constant)
        ]

    stands_for : StandsFor d t class y c first next plan f e.0
    stands_for = All-contains (StandsFor d t class y c first next plan f) (plan.parts f) e.0 (g.plan_by.standing f sum) part_among

    -- the name of a constant stands for the part, or a new variable does
    pub entry_variable : ((k : ℕ) × HasConstant k × (e.0.variable ≡ plan.name k)) ⊎ IsForSolution d t first next f e.0.variable
    entry_variable = elim constant_or_none [
      | inl h ↦ inl (h.0, h.1, stands_for.constant h.0 h.1.constant h.1.positive)
      | inr n ↦ inr (stands_for.other (λ k h. elim (zero_or_more (component (y.columns f) e.0.solution k)) [
        | inl z ↦ z
        | inr p ↦ absurd (n k (record { constant = h; positive = p }))
      ]))
    ]

    pub variable_kinded : (r : Rank) → Contains (declared d f).ranks r → HasKind d (var e.0.variable) (kind d r.result)
    variable_kinded r listed = elim entry_variable [
      | inl h ↦
          let l = column_within g f h.0 h.1.constant.used in
          let k = name_kinded g h.0 l in
          subst (λ x. IsSort d x.sort × (kind d x.sort ≡ kind d r.result)) (sym h.2) (k.0, k.1 ∙ column_name g f h.0 h.1.constant.used r listed)
      | inr new ↦ (
        subst (IsSort d) (sym new.sort) (g.good.kinded.listed new.rank.result (g.good.kinded.ranks f new.rank new.declared_so).1),
        ap (kind d) new.sort ∙ g.good.kinded.own new.rank.result ∙ (g.good.fits.agree f new.rank r new.declared_so listed).1,
      )
    ]

  -- no variable stands for two parts
  pub entries_apart : (e o : Part × List FlatTerm) → Contains (paired (plan.parts f) (g.obeying.pieces f)) e → Contains (paired (plan.parts f) (g.obeying.pieces f)) o → e.0.variable ≡ o.0.variable → e.1 ≡ o.1
  entries_apart e o ce co same =
      let a = paired_at (plan.parts f) (g.obeying.pieces f) e ce in
      let b = paired_at (plan.parts f) (g.obeying.pieces f) o co in
      elim (cases_order a.0 b.0) [
        | inl z ↦ sym a.1.piece ∙ ap (λ i. get_or (g.obeying.pieces f) i []) z ∙ b.1.piece
        | inr r ↦ elim r [
          | inl l ↦ absurd (g.plan_by.distinct f sum a.0 b.0 e.0 l b.1.within (ap (λ q. q.variable) (a.1.part e.0) ∙ same ∙ ap (λ q. q.variable) (sym (b.1.part e.0))))
          | inr l ↦ absurd (g.plan_by.distinct f sum b.0 a.0 e.0 l a.1.within (ap (λ q. q.variable) (b.1.part e.0) ∙ sym same ∙ ap (λ q. q.variable) (sym (a.1.part e.0))))
        ]
      ]
