-- What stands for the solutions that are taken for an operator, and the sums that it makes.
use Rattle.std.proofs.Common.{◌≡◌, ◌≢◌, ◌⊎◌, ℕ, zero, suc, ◌+◌, ◌*◌, ◌<◌, ◌≤◌, List, [], ◌∷◌, ◌++◌, length, map, replicate, sum_by, slice_index, slice_index_or, refl, sym, ap, ◌∙◌, subst, inl, inr, arith, All, Contains, Option, Some}
use Rattle.std.specs.Prelude.{slice_get}
use Rattle.std.proofs.lemmas.Bool.{cases_eq}
use Rattle.std.proofs.lemmas.List.{length-map, length-append, length-replicate}
use Rattle.std.proofs.lemmas.List.Elements.{All-cons}
use Rattle.std.proofs.lemmas.List.Sums.{sum_by-cons}
use Rattle.std.proofs.lemmas.Option.{slice_get_within, slice_get-get_or}
use Rattle.fvn_acunify.specs.declared.limits.TheConstants.{LISTED_SOLUTIONS}
use Rattle.fvn_base.proofs.Membership.{contains_here, contains_later, contains_cases, contains_none, contains_map, map_contains}
use Rattle.fvn_terms.specs.declared.plain.Var.{Var as Variable}
use Rattle.fvn_terms.specs.declared.plain.OpId.{OpId}
use Rattle.fvn_terms.specs.declared.plain.SortId.{SortId}
use Rattle.fvn_terms.specs.declared.declarations.Declarations.{Declarations}
use Rattle.fvn_terms.specs.Term.{var}
use Rattle.fvn_terms.specs.Signature.{kind, axioms, IsSort, HasKind}
use Rattle.fvn_forms.specs.Flat.{FlatTerm, fvar}
use Rattle.fvn_lindio.specs.declared.system.Solution.{Solution}
use Rattle.fvn_lindio.specs.Systems.{vectors_of}
use Rattle.fvn_acunify.specs.ValidChoice.{chosen}
use Rattle.fvn_flat.specs.Partitions.{HasNoIdentity}
use Rattle.fvn_flat.specs.SolvedLists.{Part, component, members}
use Rattle.fvn_flat.specs.declared.solver.Pairs.{Pairs}
use Rattle.fvn_combine_nodes.specs.Table.{NodeTable}
use Rattle.fvn_combine_nodes.specs.States.{class_of}
use Rattle.fvn_combine_nodes.specs.declared.state.State.{State}
use Rattle.fvn_combine_nodes.proofs.Lists.{all_from}
use Rattle.fvn_combine_leaves.specs.declared.reading.Sums.{Sums}
use Rattle.fvn_combine_leaves.specs.declared.reading.Reading.{Reading}
use Rattle.fvn_combine_choices.specs.Binding.{IsBound, IsConstant}
use Rattle.fvn_combine_choices.specs.Choosing.{taken, member_count}
use Rattle.fvn_combine_admissible.specs.Listed.{tag_in, systems_of, choice_of}
use Rattle.fvn_combine_triangular.specs.declared.binders.Binder.{Binder}
use Rattle.fvn_combine_triangular.specs.declared.binders.Binder.TheVariants.{Nothing, Member, Sum}
use Rattle.fvn_combine_triangular.specs.declared.shares.Share.{Share}
use Rattle.fvn_combine_triangular.specs.inner.Planning.{name_in, part_of, StandsAt, AreShares, IsBinderOf, IsSummable, IsMaking}
use Rattle.fvn_combine_choices.proofs.Columns.{chosen_listed, sum_by_same, sum_by_map}
use Rattle.fvn_combine_triangular.proofs.Standing.{length-chosen}
use Rattle.fvn_combine_choices.proofs.KindsOf.{IsKindOf}
use Rattle.fvn_combine_triangular.proofs.Classes.{kind_of_new, column_within, column_kind, names_differ}
use Rattle.fvn_combine_triangular.proofs.Sources.{bound_column}
use Rattle.fvn_combine_triangular.proofs.Made.{start_of, IsMade, has_sums, node_terms, entry_within, entry_operator, columns_at, taken_at, few_at}

-- the element at a place
pub element_at : {X : Type 0} (xs : List X) (i : ℕ) → i < length xs → (x : X) × (slice_get xs i ≡ Some x)
element_at [] i l = absurd (omega (arith, l))
element_at (x ∷ xs) zero l = (x, refl)
element_at (x ∷ xs) (suc i) l = element_at xs i (omega (arith, l))

-- the place of an element
pub place_at : {X : Type 0} (xs : List X) (x : X) (m : Contains xs x) → slice_get xs m.0 ≡ Some x
place_at xs x (i, l, e) = slice_get-get_or xs i x l ∙ ap Some e

-- a sum above zero has an element above zero
some_above : {X : Type 0} (f : X → ℕ) (xs : List X) → 0 < sum_by f xs → (x : X) × (Contains xs x × (0 < f x))
some_above f [] p = absurd (omega (arith, p))
some_above f (x ∷ xs) p = elim (cases_eq (f x) 0) [
  | inl z ↦ let a = sum_by-cons f x xs in let r = some_above f xs (omega (arith, a, p, z)) in (r.0, (contains_later x xs r.0 r.1.0, r.1.1))
  | inr n ↦ (x, (contains_here x xs, omega (arith, n)))
]

-- what stands at one place, and at two, is no more than the sum
one_of_sum : {X : Type 0} (f : X → ℕ) (xs : List X) (i : ℕ) (x : X) → slice_get xs i ≡ Some x → f x ≤ sum_by f xs
one_of_sum f [] i x e = let l = slice_get_within [] i x e in absurd (omega (arith, l))
one_of_sum f (y ∷ xs) zero x e =
    let one : y ≡ x = cc in
    let a = sum_by-cons f y xs in
    let s = ap f one in
    omega (arith, a, s)
one_of_sum f (y ∷ xs) (suc i) x e = let a = sum_by-cons f y xs in let r = one_of_sum f xs i x e in omega (arith, a, r)

two_of_sum : {X : Type 0} (f : X → ℕ) (xs : List X) (i j : ℕ) (x z : X) → i < j → slice_get xs i ≡ Some x → slice_get xs j ≡ Some z → f x + f z ≤ sum_by f xs
two_of_sum f [] i j x z l e g = let m = slice_get_within [] i x e in absurd (omega (arith, m))
two_of_sum f (y ∷ xs) i zero x z l e g = absurd (omega (arith, l))
two_of_sum f (y ∷ xs) zero (suc j) x z l e g =
    let one : y ≡ x = cc in
    let a = sum_by-cons f y xs in
    let s = ap f one in
    let r = one_of_sum f xs j z g in
    omega (arith, a, s, r)
two_of_sum f (y ∷ xs) (suc i) (suc j) x z l e g = let a = sum_by-cons f y xs in let r = two_of_sum f xs i j x z (omega (arith, l)) e g in omega (arith, a, r)

-- the members of a sum are variables
record Variables (P : Variable → Type 0) (l : List FlatTerm) : Type 0 where
  list : List Variable
  are : l ≡ map fvar list
  each : All P list

copies : (P : Variable → Type 0) (n : ℕ) (x : Variable) (l : List FlatTerm) → (0 < n → P x) → Variables P l → Variables P (replicate n (fvar x) ++ l)
copies P zero x l p h = h
copies P (suc n) x l p h =
    let r = copies P n x l (λ m. p (omega arith)) h in
    record { list = x ∷ r.list; are = ap (λ m. fvar x ∷ m) r.are; each = All-cons P x r.list (p (omega arith)) r.each }

member_variables : (P : Variable → Type 0) (columns : List ℕ) (parts : List Part) (k : ℕ) → ((p : Part) → Contains parts p → P p.variable) → Variables P (members columns parts k)
member_variables P columns [] k h = record { list = []; are = refl; each = λ i e l. absurd (omega (arith, l)) }
member_variables P columns (p ∷ parts) k h = copies P (component columns p.solution k) p.variable (members columns parts k) (λ m. h p (contains_here p parts)) (member_variables P columns parts k (λ q m. h q (contains_later p parts q m)))

members_length : (columns : List ℕ) (parts : List Part) (k : ℕ) (p : Part) → Contains parts p → component columns p.solution k ≤ length (members columns parts k)
members_length columns [] k p m = absurd (contains_none p m)
members_length columns (q ∷ parts) k p m =
    let a = length-append (replicate (component columns q.solution k) (fvar q.variable)) (members columns parts k) in
    let b = length-replicate (component columns q.solution k) (fvar q.variable) in
    elim (contains_cases q parts p m) [
      | inl e ↦ let s = ap (λ (p : Part). component columns p.solution k) e in omega (arith, a, b, s)
      | inr r ↦ let i = members_length columns parts k p r in omega (arith, a, b, i)
    ]

module _ {d : Declarations} {given : Pairs} {first : ℕ} {t : NodeTable} {s : State} {r : Reading} {bases : List (List Solution)} {tags : List (Option OpId)} {numbers : List ℕ} {names : List Variable} {binders : List Binder} {all : List (List Share)} (m : IsMade d given first t s r bases tags numbers names binders all) where
  module _ (i : ℕ) (e : Sums) (at : slice_get r.sums i ≡ Some e) where
    are_shares : AreShares d t (class_of s) (tag_in tags) e names (start_of t first + LISTED_SOLUTIONS * i) (chosen (slice_index numbers i) (vectors_of (slice_index_or bases i []))) (slice_index_or all i [])
    are_shares = m.shares_are.each i e at

    pub share_stands : (j : ℕ) (p : Share) → slice_get (slice_index_or all i []) j ≡ Some p → StandsAt d t (class_of s) (tag_in tags) e names (start_of t first + LISTED_SOLUTIONS * i + j) p
    share_stands = are_shares.standing

    -- their solutions are those that are taken
    pub solutions_are : map (λ p. p.solution) (slice_index_or all i []) ≡ taken (systems_of r bases) (choice_of r tags numbers) e.operator
    solutions_are = are_shares.solutions ∙ sym (taken_at m.leaf i e at)

    pub few_shares : length (slice_index_or all i []) ≤ LISTED_SOLUTIONS
    few_shares =
        let a = length-map (slice_index_or all i []) (λ (p : Share). p.solution) in
        let b = ap length are_shares.solutions in
        let c = length-chosen (slice_index numbers i) (vectors_of (slice_index_or bases i [])) in
        let f = few_at m.leaf i e at in
        omega (arith, a, b, c, f)

    pub share_taken : (p : Share) → Contains (slice_index_or all i []) p → Contains (taken (systems_of r bases) (choice_of r tags numbers) e.operator) p.solution
    share_taken p q = subst (λ vs. Contains vs p.solution) solutions_are (contains_map (λ (p : Share). p.solution) (slice_index_or all i []) p q)

    pub component_is : (v : List ℕ) (k : ℕ) → component ((systems_of r bases).columns e.operator) v k ≡ component e.columns v k
    component_is v k = ap (λ (cs : List ℕ). component cs v k) (columns_at m.leaf i e at)

    pub share_sized : (p : Share) → Contains (slice_index_or all i []) p → length p.solution ≡ length e.columns
    share_sized p q =
        let f = e.operator in
        let sum = entry_operator m.leaf i e at in
        let basis = (systems_of r bases).basis f in
        let listed = chosen_listed ((choice_of r tags numbers).number f) basis p.solution (share_taken p q) in
        (m.leaf.systems.minimal f sum p.solution listed).solves.sized ∙ (m.leaf.systems.is_system f sum).wide ∙ ap length (columns_at m.leaf i e at)

    -- what stands for a solution has the kind of the operator
    pub variable_kind : (q : SortId) → IsKindOf m.leaf.good e.operator q → (p : Share) → Contains (slice_index_or all i []) p → HasKind d (var p.variable) q
    variable_kind q of p listed = elim (share_stands listed.0 p (place_at (slice_index_or all i []) p listed)) [
      | inl (k, constant, some, is) ↦
          let c = m.leaf in
          let kinded = column_kind c.made c.ready.closed c.good (node_terms c) c.ready.kinds m.names_are e.operator (entry_operator c i e at).associative k constant.used.column in
          let theirs = kinded.1.1 in
          let same : kinded.0 ≡ q = sym theirs.gives ∙ (c.good.fits.agree e.operator theirs.rank of.rank theirs.listed of.listed).1 ∙ of.gives in
          subst (λ x. HasKind d (var x) q) (sym is) (subst (HasKind d (var (name_in names k))) same kinded.1.0)
      | inr (none, new) ↦ subst (HasKind d (var p.variable)) of.gives (kind_of_new m.leaf.good e.operator of.rank of.listed p.variable (new.sort of.rank of.listed))
    ]

    -- the choice has as many members as the shares
    pub count_is : (k : ℕ) → sum_by (λ (p : Share). component e.columns p.solution k) (slice_index_or all i []) ≡ member_count (systems_of r bases) (choice_of r tags numbers) e.operator k
    count_is k =
        sum_by_same (λ (p : Share). component e.columns p.solution k) (λ (p : Share). component ((systems_of r bases).columns e.operator) p.solution k) (λ p. sym (component_is p.solution k)) (slice_index_or all i [])
        ∙ sym (sum_by_map (λ v. component ((systems_of r bases).columns e.operator) v k) (λ (p : Share). p.solution) (slice_index_or all i []))
        ∙ ap (sum_by (λ v. component ((systems_of r bases).columns e.operator) v k)) solutions_are

    some_members : (k : ℕ) → IsBound d t (class_of s) (tag_in tags) e.operator k → HasNoIdentity (axioms d e.operator) → members e.columns (map part_of (slice_index_or all i [])) k ≢ []
    some_members k bound bare none =
        let n = (m.leaf.possible.acceptable e.operator (entry_operator m.leaf i e at)).filled k (record { bound = bound; why = inl bare }) in
        let c = count_is k in
        let some = some_above (λ (p : Share). component e.columns p.solution k) (slice_index_or all i []) (omega (arith, n, c)) in
        let p = some.0 in
        let above = some.1.1 in
        let l = members_length e.columns (map part_of (slice_index_or all i [])) k (part_of p) (contains_map part_of (slice_index_or all i []) p some.1.0) in
        let z = ap length none in
        omega (arith, above, l, z)

    -- a sum of the operator can be made for each class that is bound to one
    pub summable : (k : ℕ) → IsBound d t (class_of s) (tag_in tags) e.operator k → IsSummable d e.operator (members e.columns (map part_of (slice_index_or all i [])) k)
    summable k bound =
        let c = m.leaf in
        let sum = entry_operator c i e at in
        let of = (column_kind c.made c.ready.closed c.good (node_terms c) c.ready.kinds m.names_are e.operator sum.associative k (bound_column (has_sums c) (class_of s) e.operator k bound)).1.1 in
        let P = λ (x : Variable). IsSort d x.sort × (kind d x.sort ≡ kind d of.rank.result) in
        let vs = member_variables P e.columns (map part_of (slice_index_or all i [])) k (λ q l.
        let p = map_contains part_of (slice_index_or all i []) q l in
        subst (λ (q : Part). P q.variable) p.1.1 (variable_kind (kind d of.rank.result) (record { rank = of.rank; listed = of.listed; gives = refl }) p.0 p.1.0))
        in
        record {
          associative = sum.associative;
          rank = of.rank;
          listed = of.listed;
          variables = vs.list;
          are = vs.are;
          kinds = vs.each;
          some = some_members k bound;
        }

    -- the number of what stands for a solution: that of a name, or a number of its own
    pub number_of : (j : ℕ) (p : Share) → slice_get (slice_index_or all i []) j ≡ Some p → (p.variable.name < start_of t first) ⊎ (p.variable.name ≡ start_of t first + LISTED_SOLUTIONS * i + j)
    number_of j p is = elim (share_stands j p is) [
      | inl (k, constant, some, named) ↦
          let l = column_within m.leaf.made m.leaf.ready.closed e.operator k constant.used.column in
          let n = (m.names_are.each k l).number in
          let same = ap (λ (x : Variable). x.name) named in
          inl (omega (arith, l, n, same))
      | inr (none, new) ↦ inr new.is
    ]

    -- no variable stands for two solutions
    pub shares_differ : (a b : ℕ) (p q : Share) → a < b → slice_get (slice_index_or all i []) a ≡ Some p → slice_get (slice_index_or all i []) b ≡ Some q → p.variable ≢ q.variable
    shares_differ a b p q l at_p at_q same = elim (share_stands a p at_p) [
      | inl (k, constant, some, named) ↦ elim (share_stands b q at_q) [
        | inl (j, other, more, is) ↦
            let c = m.leaf in
            let one = names_differ c.made c.ready.closed c.good (node_terms c) c.ready.kinds m.names_are k j
            (column_within c.made c.ready.closed e.operator k constant.used.column) (column_within c.made c.ready.closed e.operator j other.used.column) (sym named ∙ same ∙ is)
            in
            let once = (c.possible.acceptable e.operator (entry_operator c i e at)).once k constant in
            let two = two_of_sum (λ (p : Share). component e.columns p.solution k) (slice_index_or all i []) a b p q l at_p at_q in
            let count = count_is k in
            let there = ap (component e.columns q.solution) one in
            omega (arith, once, two, count, some, more, there)
        | inr (none, new) ↦ named_new k constant p named b q new.is same
      ]
      | inr (none, new) ↦ elim (share_stands b q at_q) [
        | inl (j, other, more, is) ↦ named_new j other q is a p new.is (sym same)
        | inr (no_one, newer) ↦
            let x = new.is in
            let y = newer.is in
            let z = ap (λ (x : Variable). x.name) same in
            omega (arith, l, x, y, z)
      ]
    ]
      where
        named_new : (k : ℕ) → IsConstant d t (class_of s) (tag_in tags) e.operator k → (p : Share) → p.variable ≡ name_in names k → (j : ℕ) (q : Share) → q.variable.name ≡ start_of t first + LISTED_SOLUTIONS * i + j → p.variable ≢ q.variable
        named_new k constant p named j q is same =
            let l = column_within m.leaf.made m.leaf.ready.closed e.operator k constant.used.column in
            let n = (m.names_are.each k l).number in
            let x = ap (λ (x : Variable). x.name) (sym named ∙ same) in
            omega (arith, l, n, x, is)

  -- what the binder of a class asks for is there
  pub makes : (k : ℕ) (b : Binder) → IsBinderOf d t (class_of s) (tag_in tags) r.sums k b → IsMaking d t (class_of s) names r.sums all b k
  makes k Nothing h = tt
  makes k (Member i) h = (h.0, h.2)
  makes k (Sum i) (e, at, bound) = record {
    within = entry_within m.leaf i e at;
    as_many = m.shares_are.as_many;
    sized = λ o is. all_from (λ (p : Share). length p.solution ≡ length o.columns) (slice_index_or all i []) (share_sized i o is);
    summable = λ o is.
        let z : Some e ≡ Some o = sym at ∙ is in
        let one : e ≡ o = cc in
        summable i o is k (subst (λ (o : Sums). IsBound d t (class_of s) (tag_in tags) o.operator k) one bound);
  }
