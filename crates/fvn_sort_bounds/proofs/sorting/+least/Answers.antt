-- The least sort of a sum, and of a term under a plain operator.
use Rattle.std.proofs.Common.{◌≡◌, ℕ, ◌<◌, ◌≤◌, ◌++◌, List, [], ◌∷◌, map, length, take, get_or, refl, sym, ap, subst, ◌∙◌, arith}
use Rattle.std.proofs.lemmas.List.{take_more_set, map_more, take_all, length-set}
use Rattle.fvn_terms.specs.declared.plain.Plain.{Plain}
use Rattle.fvn_terms.specs.declared.plain.OpId.{OpId}
use Rattle.fvn_terms.specs.declared.declarations.Declarations.{Declarations}
use Rattle.fvn_terms.specs.Term.{Terms, app, nodes, nodes_all}
use Rattle.fvn_terms.specs.Equality.{two, IsAssociative}
use Rattle.fvn_forms.specs.Good.{IsGood}
use Rattle.fvn_forms.proofs.LeastSortOf.{IsIdentityOf}
use Rattle.std.proofs.lemmas.Bool.{false≢true}
use Rattle.fvn_terms.specs.Plain.{term, terms}
use Rattle.fvn_terms.specs.Signature.{IsTerm, axioms}
use Rattle.fvn_forms.specs.Canon.{as_constant, canon}
use Rattle.fvn_forms.specs.Ranks.{result}
use Rattle.fvn_forms.specs.LeastSort.{least_sort}
use Rattle.fvn_sort_bounds.proofs.SortLemmas.{nodes_at, argument_is_term, few_arguments, two_arguments, plain_sort, plain_constant_some, sum_left, sum_right, sum_sort, sum_constant}
use Rattle.fvn_signature.proofs.FirstSorts.{positive}
use Rattle.fvn_sort_bounds.proofs.sorting.+least.Goals as goal

pair_of : (items : List Plain) (a b : Plain) → length items ≡ 2 → a ≡ get_or items 0 a → b ≡ get_or items 1 b → items ≡ a ∷ b ∷ []
pair_of [] a b two x y = absurd (omega arith)
pair_of (u ∷ []) a b two x y = absurd (omega arith)
pair_of (u ∷ v ∷ []) a b two x y = ap (λ z. z ∷ v ∷ []) (sym x) ∙ ap (λ z. a ∷ z ∷ []) (sym y)
pair_of (u ∷ v ∷ w ∷ ws) a b two x y = absurd (omega arith)

-- what is known of the arguments of a term
module _ (d : Declarations) (f : OpId) (items : List Plain) (us : Terms) (view : terms items ≡ us) (is_term : IsTerm d (app f us)) where
  is_app : IsTerm d (app f (terms items))
  is_app = subst (λ ts. IsTerm d (app f ts)) (sym view) is_term

  argument : (i : ℕ) (u : Plain) → i < length items → u ≡ get_or items i u → (nodes (term u) ≤ nodes_all us) × IsTerm d (term u)
  argument i u within is = (nodes_at items us i u view within is, argument_is_term d f items is_app i u within is)

  few : IsGood d → length items ≤ 8
  few good = few_arguments d good f items is_app

  pair : IsGood d → IsAssociative (axioms d f) → length items ≡ 2
  pair good assoc = two_arguments d good f items is_app assoc

  summand : IsGood d → IsAssociative (axioms d f) → (i : ℕ) (u : Plain) → i < 2 → u ≡ get_or items i u → (nodes (term u) ≤ nodes_all us) × IsTerm d (term u)
  summand good assoc i u within is = let long = pair good assoc in argument i u (omega arith) is

  sum_of_two : IsGood d → IsAssociative (axioms d f) → (a b : Plain) → a ≡ get_or items 0 a → b ≡ get_or items 1 b → app f us ≡ two f (term a) (term b)
  sum_of_two good assoc a b x y = ap (app f) (sym view ∙ ap terms (pair_of items a b (pair good assoc) x y))

  plain_result : IsGood d → (IsAssociative (axioms d f) → ⊥) → least_sort d (canon d (app f us)) ≡ result d f (map (λ u. least_sort d (canon d (term u))) items)
  plain_result good free = ap (λ ts. least_sort d (canon d (app f ts))) (sym view) ∙ plain_sort d good f items is_app free

pub sort_plain-sort_term-requires : goal.sort_plain-sort_term-requires
sort_plain-sort_term-requires t c =
    let whole : terms c.deref-u-items.result.now ≡ c.args.us.now = ap terms c.deref-u-items.ensures.value ∙ c.us.view_is in
    let u = argument c.args.signature.now c.args.f c.deref-u-items.result.now c.args.us.now whole c.requires.term c.loop-u.u-index c.u-item.result c.loop-u-test.true c.u-item.is in
    (omega (arith, u.0), u.1)

pub sort_plain-bounds-sorts-i : goal.sort_plain-bounds-sorts-i
sort_plain-bounds-sorts-i t c =
    let whole : terms c.deref-u-items.result.now ≡ c.args.us.now = ap terms c.deref-u-items.ensures.value ∙ c.us.view_is in
    omega (arith, few c.args.signature.now c.args.f c.deref-u-items.result.now c.args.us.now whole c.requires.term c.recall_good.ensures)

pub sort_plain-loop-u-preserved : goal.sort_plain-loop-u-preserved
sort_plain-loop-u-preserved t c =
    let whole : terms c.deref-u-items.result.now ≡ c.args.us.now = ap terms c.deref-u-items.ensures.value ∙ c.us.view_is in
    let d = c.args.signature.now in
    let list : List Plain = c.deref-u-items.result.now in
    let of = λ (u : Plain). least_sort d (canon d (term u)) in
    let short = few d c.args.f list c.args.us.now whole c.requires.term c.recall_good.ensures in
    let room : length c.loop-u.sorts ≡ 8 = c.loop-u.invariant.room in
    let within : c.loop-u.i < length c.loop-u.sorts = omega arith in
    record {
      count = omega arith;
      room = length-set c.loop-u.sorts c.loop-u.i c.sort_term.result.sort ∙ room;
      sorts =
          take_more_set c.loop-u.sorts c.loop-u.i c.sort_term.result.sort within
          ∙ ap (λ l. l ++ c.sort_term.result.sort ∷ []) c.loop-u.invariant.sorts
          ∙ ap (λ s. map of (take c.loop-u.u-index list) ++ s ∷ []) (c.sort_term.ensures.sort ∙ ap of c.u-item.is)
          ∙ sym (map_more of list c.loop-u.u-index c.u-item.result c.loop-u-test.true);
    }

pub sort_plain-returns-else-is_empty-clause-sort : goal.sort_plain-returns-else-is_empty-clause-sort
sort_plain-returns-else-is_empty-clause-sort t c =
    let whole : terms c.deref-u-items.result.now ≡ c.args.us.now = ap terms c.deref-u-items.ensures.value ∙ c.us.view_is in
    let d = c.args.signature.now in
    let f = c.args.f in
    let list : List Plain = c.deref-u-items.result.now in
    c.result.ensures.exact
    ∙ ap (result d f) (c.loop-u.invariant.sorts ∙ ap (map (λ (u : Plain). least_sort d (canon d (term u)))) (take_all c.loop-u.u-index list c.loop-u-test.false))
    ∙ sym (plain_result d f list c.args.us.now whole c.requires.term c.recall_good.ensures c.requires.plain)

pub sort_plain-returns-else-is_empty-clause-constant : goal.sort_plain-returns-else-is_empty-clause-constant
sort_plain-returns-else-is_empty-clause-constant t c =
    let d = c.args.signature.now in
    let f = c.args.f in
    let items : List Plain = c.us.inside.items.items in
    let long = c.us.inside.items.ok in
    let some : 0 < length items = let n = positive c.us.inside.items.len c.if-is_empty.ensures in omega arith in
    sym (plain_constant_some d f c.requires.plain items some) ∙ ap (λ ts. as_constant (canon d (app f ts))) c.us.view_is

pub sort_sum-sort_term-left-requires : goal.sort_sum-sort_term-left-requires
sort_sum-sort_term-left-requires t c =
    let u = summand c.args.signature.now c.args.f c.us.inside.items.items c.args.us.now c.us.view_is c.requires.term c.recall_good.ensures c.requires.sum 0 c.index.result.now (omega arith) c.index.ensures in
    (omega (arith, u.0), u.1)

pub sort_sum-index-requires-2 : goal.sort_sum-index-requires-2
sort_sum-index-requires-2 t c = omega (arith, pair c.args.signature.now c.args.f c.us.inside.items.items c.args.us.now c.us.view_is c.requires.term c.recall_good.ensures c.requires.sum)

pub sort_sum-sort_term-right-requires : goal.sort_sum-sort_term-right-requires
sort_sum-sort_term-right-requires t c =
    let u = summand c.args.signature.now c.args.f c.us.inside.items.items c.args.us.now c.us.view_is c.requires.term c.recall_good.ensures c.requires.sum 1 c.index-2.result.now (omega arith) c.index-2.ensures in
    (omega (arith, u.0), u.1)

-- beside the identity a sum has the form of its other argument
identity_left : (t : ℕ) (c : goal.sort_sum-Then-is_identity t) → canon c.args.signature.now (term c.index-2.result.now) ≡ canon c.args.signature.now (app c.args.f c.args.us.now)
identity_left t c =
    let d = c.args.signature.now in
    let sum = sum_of_two d c.args.f c.us.inside.items.items c.args.us.now c.us.view_is c.requires.term c.recall_good.ensures c.requires.sum c.index.result.now c.index-2.result.now c.index.ensures c.index-2.ensures in
    let known : IsIdentityOf d c.args.f (canon d (term c.index.result.now)) = rw (c.identity-identity.ensures, c.sort_term-left.ensures.constant) at (c.if-is_identity.ensures.0 refl) in
    sym (ap (canon d) sum ∙ sum_left d c.recall_good.ensures c.args.f (term c.index.result.now) (term c.index-2.result.now) c.requires.sum known)

pub sort_sum-returns-then-is_identity-clause-sort : goal.sort_sum-returns-then-is_identity-clause-sort
sort_sum-returns-then-is_identity-clause-sort t c = c.sort_term-right.ensures.sort ∙ ap (least_sort c.args.signature.now) (identity_left t c)

pub sort_sum-returns-then-is_identity-clause-constant : goal.sort_sum-returns-then-is_identity-clause-constant
sort_sum-returns-then-is_identity-clause-constant t c = c.sort_term-right.ensures.constant ∙ ap as_constant (identity_left t c)

identity_right : (t : ℕ) (c : goal.sort_sum-Then-is_identity-2 t) → canon c.args.signature.now (term c.index.result.now) ≡ canon c.args.signature.now (app c.args.f c.args.us.now)
identity_right t c =
    let d = c.args.signature.now in
    let sum = sum_of_two d c.args.f c.us.inside.items.items c.args.us.now c.us.view_is c.requires.term c.recall_good.ensures c.requires.sum c.index.result.now c.index-2.result.now c.index.ensures c.index-2.ensures in
    let known : IsIdentityOf d c.args.f (canon d (term c.index-2.result.now)) = rw (c.identity-identity.ensures, c.sort_term-right.ensures.constant) at (c.if-is_identity-2.ensures.0 refl) in
    sym (ap (canon d) sum ∙ sum_right d c.recall_good.ensures c.args.f (term c.index.result.now) (term c.index-2.result.now) c.requires.sum known)

pub sort_sum-returns-then-is_identity-2-clause-sort : goal.sort_sum-returns-then-is_identity-2-clause-sort
sort_sum-returns-then-is_identity-2-clause-sort t c = c.sort_term-left.ensures.sort ∙ ap (least_sort c.args.signature.now) (identity_right t c)

pub sort_sum-returns-then-is_identity-2-clause-constant : goal.sort_sum-returns-then-is_identity-2-clause-constant
sort_sum-returns-then-is_identity-2-clause-constant t c = c.sort_term-left.ensures.constant ∙ ap as_constant (identity_right t c)

-- where neither argument is the identity, a sum has its result over their sorts
sum : (t : ℕ) (c : goal.sort_sum-After-result t) → app c.args.f c.args.us.now ≡ two c.args.f (term c.index.result.now) (term c.index-2.result.now)
sum t c = sum_of_two c.args.signature.now c.args.f c.us.inside.items.items c.args.us.now c.us.view_is c.requires.term c.recall_good.ensures c.requires.sum c.index.result.now c.index-2.result.now c.index.ensures c.index-2.ensures

not_left : (t : ℕ) (c : goal.sort_sum-After-result t) → IsIdentityOf c.args.signature.now c.args.f (canon c.args.signature.now (term c.index.result.now)) → ⊥
not_left t c w = false≢true ((rw (c.identity-identity.ensures, c.sort_term-left.ensures.constant) at c.if-is_identity.ensures).1 w)

not_right : (t : ℕ) (c : goal.sort_sum-After-result t) → IsIdentityOf c.args.signature.now c.args.f (canon c.args.signature.now (term c.index-2.result.now)) → ⊥
not_right t c w = false≢true ((rw (c.identity-identity.ensures, c.sort_term-right.ensures.constant) at c.if-is_identity-2.ensures).1 w)

pub sort_sum-returns-clause-sort : goal.sort_sum-returns-clause-sort
sort_sum-returns-clause-sort t c =
    let d = c.args.signature.now in
    let f = c.args.f in
    let a = c.index.result.now in
    let b = c.index-2.result.now in
    c.result.ensures.exact
    ∙ ap (λ s. result d f (s ∷ c.sort_term-right.result.sort ∷ [])) c.sort_term-left.ensures.sort
    ∙ ap (λ s. result d f (least_sort d (canon d (term a)) ∷ s ∷ [])) c.sort_term-right.ensures.sort
    ∙ sym (ap (λ u. least_sort d (canon d u)) (sum t c) ∙ sum_sort d c.recall_good.ensures f (term a) (term b) c.requires.sum (subst (IsTerm d) (sum t c) c.requires.term) (not_left t c) (not_right t c))

pub sort_sum-returns-clause-constant : goal.sort_sum-returns-clause-constant
sort_sum-returns-clause-constant t c =
    let d = c.args.signature.now in
    sym (ap (λ u. as_constant (canon d u)) (sum t c) ∙ sum_constant d c.recall_good.ensures c.args.f (term c.index.result.now) (term c.index-2.result.now) c.requires.sum (not_left t c) (not_right t c))
