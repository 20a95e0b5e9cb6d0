-- The forms at the ends of paths, and the turns at them.
use Rattle.std.proofs.Common.{◌≡◌, ◌<◌, ◌+◌, ℕ, zero, suc, List, [], ◌∷◌, map, length, get_or, Some, refl, sym, ap, ◌∙◌, subst, arith}
use Rattle.std.specs.Prelude.{Contains, slice_get}
use Rattle.std.proofs.lemmas.Option.{slice_get_read}
use Rattle.std.proofs.lemmas.List.Elements.{All-contains, Contains-append_left, Contains-append_right}
use Rattle.fvn_base.proofs.Membership.{contains_here, contains_later, contains_map}
use Rattle.fvn_terms.specs.declared.plain.OpId.{OpId}
use Rattle.fvn_terms.specs.Substitution.{Substitution}
use Rattle.fvn_terms.specs.Unifiers.{Problem}
use Rattle.fvn_forms.specs.Flat.{FlatTerm, FlatTerms, fvar, fapp, fnone, fmore, funpack}
use Rattle.fvn_flat.specs.Forms.{head_of}
use Rattle.fvn_flat.specs.FlatPlaces.{IsPartOf}
use Rattle.fvn_flat.specs.Successors.{OccursIn}
use Rattle.fvn_rewrite_rules.specs.Given.{headed}
use Rattle.fvn_rewrite.specs.Usable.{Rewriting, equations_by}
use Rattle.fvn_cover.specs.declared.variant.Variant.{Variant}
use Rattle.fvn_exploring.specs.Children.{narrowed}
use Rattle.fvn_exploring.specs.declared.ends.Expansion.{Expansion}
use Rattle.fvn_places.specs.Paths.{LeadsTo, paths, paths_from}
use Rattle.fvn_narrow_children.specs.Starts.{IsStartOf}
use Rattle.fvn_narrow_children.specs.Values.{AreIrreducible}
use Rattle.fvn_narrow.specs.declared.placing.Place.{Place}
use Rattle.fvn_narrow.specs.inner.Placing.{IsPlaceIn, ArePlaces, IsTryIn}
use Rattle.fvn_narrow.specs.inner.Turns.{try_of, IsReady, TryLiftsByParts, TurnLifts, ForEach, AreFound, IsAny}
use Rattle.fvn_narrow.proofs.Joined.{found_so}

one_form : (a b : FlatTerm) → Some a ≡ Some b → a ≡ b
one_form a b e = cc

one_operator : (f g : OpId) → Some f ≡ Some g → f ≡ g
one_operator f g e = cc

-- a path that leads to a form with a head is listed
listed_from : (k : ℕ) (ts : FlatTerms) (i : ℕ) (u : FlatTerm) → slice_get (funpack ts) i ≡ Some u → (path : List ℕ) → Contains (paths u) path → Contains (paths_from k ts) ((k + i) ∷ path)
listed_from k fnone i u e path c = cc
listed_from k (fmore t ts) zero u e path c =
    let same : u ≡ t = sym (one_form t u e) in
    let at : k ≡ k + 0 = omega arith in
    Contains-append_left (map (λ p. k ∷ p) (paths t)) (paths_from (k + 1) ts) ((k + 0) ∷ path)
    (subst (λ n. Contains (map (λ p. k ∷ p) (paths t)) (n ∷ path)) at (contains_map (λ p. k ∷ p) (paths t) path (subst (λ w. Contains (paths w) path) same c)))
listed_from k (fmore t ts) (suc i) u e path c =
    let at : k + 1 + i ≡ k + suc i = omega arith in
    Contains-append_right (map (λ p. k ∷ p) (paths t)) (paths_from (k + 1) ts) ((k + suc i) ∷ path)
    (subst (λ n. Contains (paths_from (k + 1) ts) (n ∷ path)) at (listed_from (k + 1) ts i u e path c))

listed_here : (t : FlatTerm) (f : OpId) → head_of t ≡ Some f → Contains (paths t) []
listed_here (fvar x) f e = cc
listed_here (fapp g joined ts) f e = contains_here [] (paths_from 0 ts)

pub leads_listed : (path : List ℕ) (t at : FlatTerm) (f : OpId) → LeadsTo path t at → head_of at ≡ Some f → Contains (paths t) path
leads_listed [] t at f h e = listed_here t f (ap head_of h ∙ e)
leads_listed (i ∷ path) (fvar x) at f h e = let q = h.1 in cc
leads_listed (i ∷ path) (fapp g joined ts) at f h e =
    let at_i : 0 + i ≡ i = omega arith in
    contains_later [] (paths_from 0 ts) (i ∷ path)
    (subst (λ n. Contains (paths_from 0 ts) (n ∷ path)) at_i (listed_from 0 ts i h.0 h.1 path (leads_listed path h.0 at f h.2 e)))

-- what lifts at one place for each form lifts at each place of that form
pub in_places : (r : Rewriting) (unifiers : ℕ) (drawn : Problem → Substitution → Type 0) (v : Variant) (places : List Place) → ArePlaces r.rules v.terms places →
    (e : Expansion) → AreFound r unifiers drawn v (ForEach (TryLiftsByParts r unifiers v) (IsTryIn r.rules places)) e → AreFound r unifiers drawn v (ForEach (TurnLifts r unifiers v) IsAny) e
in_places r unifiers drawn v places are e found = found_so r unifiers drawn v (ForEach (TryLiftsByParts r unifiers v) (IsTryIn r.rules places)) (ForEach (TurnLifts r unifiers v) IsAny) e all found where
  all : ForEach (TryLiftsByParts r unifiers v) (IsTryIn r.rules places) e.children → ForEach (TurnLifts r unifiers v) IsAny e.children
  all h turn any there t alone =
      let whole : t.whole ≡ there = subst (IsPartOf t.whole there) alone t.part in
      let leads : LeadsTo turn.path t.term there = subst (LeadsTo turn.path t.term) whole t.leads in
      let p = are.enough turn.member there (turn.path, record { term = t.term; is = t.is; leads = leads }) record { operator = t.operator; heads = t.heads; rule = turn.rule; listed = t.needed } in
      let q = All-contains (IsPlaceIn v.terms) places p.0 are.sound p.1 in
      let same : t.operator ≡ p.0.head = one_operator t.operator p.0.head (sym t.heads ∙ sym (ap head_of p.2) ∙ q.heads) in
      h (try_of there turn.rule) (p.0, p.1, (sym p.2, subst (λ f. Contains (headed r.rules f) turn.rule) same t.needed))

-- a start with irreducible values is ready
pub ready_start : (r : Rewriting) (next : ℕ) (v start : Variant) → IsStartOf r.signature next v start → AreIrreducible r.signature (equations_by r) start.vars start.subst → IsReady r start next
ready_start r next v start o irreducible = record {
  flat = o.flat;
  others = λ x n. o.others x (λ c. n (subst (λ vars. Contains vars x) (sym o.vars) c));
  holds = o.holds;
  numbers = λ y i. o.numbers y (subst (λ vars. OccursIn r.signature vars (narrowed start) y) o.vars i);
  positive = o.positive;
  small = o.small;
  irreducible = irreducible;
}

-- what is read of a list
pub read_at : (terms l : List FlatTerm) (i : ℕ) (t : FlatTerm) → l ≡ terms → i < length terms → t ≡ get_or l i t → slice_get terms i ≡ Some t
read_at terms l i t e within is = slice_get_read terms (length terms) i t refl within (is ∙ ap (λ m. get_or m i t) e)
