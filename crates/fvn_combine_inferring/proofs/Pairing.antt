-- Pairs of nodes by the sizes of their values: arguments, and classes that hold single summands.
use Rattle.std.proofs.Common.{◌≡◌, ◌≢◌, ℕ, zero, suc, ◌<◌, ◌≤◌, true, false, List, [], ◌∷◌, ◌++◌, length, map, get_or, refl, sym, ap, ◌∙◌, subst, inl, inr, arith, All, Contains}
use Rattle.std.specs.Prelude.{Bool}
use Rattle.std.proofs.lemmas.Bool.{false≢true}
use Rattle.std.proofs.lemmas.List.Elements.{All-push, All-append, Contains-get_or}
use Rattle.std.proofs.lemmas.Option.{slice_get_within}
use Rattle.fvn_base.proofs.Membership.{contains_cases, contains_none, contains_map}
use Rattle.fvn_terms.specs.declared.plain.OpId.{OpId}
use Rattle.fvn_terms.specs.declared.declarations.Axioms.{Axioms}
use Rattle.fvn_terms.specs.declared.declarations.Axioms.TheVariants.{Free, Comm, AssocComm, AssocCommId}
use Rattle.fvn_terms.specs.declared.declarations.Declarations.{Declarations}
use Rattle.fvn_terms.specs.Signature.{axioms}
use Rattle.fvn_terms.specs.Equality.{is_sum}
use Rattle.fvn_forms.specs.Flat.{FlatTerm, fapp, fpack, symbols}
use Rattle.fvn_forms.specs.InOrder.{sort, count}
use Rattle.fvn_forms.specs.Canon.{parts, build}
use Rattle.fvn_forms.specs.Settled.{Settled}
use Rattle.fvn_forms.proofs.InOrder.{count_itself}
use Rattle.fvn_forms.proofs.Sizes.{all_symbols, all_symbols-sort, symbols_unjoined}
use Rattle.fvn_forms.proofs.Sums.{funpack-fpack}
use Rattle.fvn_combine_nodes.specs.Table.{NodeTable, IsWellMade, IsOver}
use Rattle.fvn_combine_nodes.specs.States.{IsClosed, class_of}
use Rattle.fvn_combine_nodes.specs.declared.state.State.{State}
use Rattle.fvn_combine_nodes.specs.declared.table.Node.TheVariants.{App}
use Rattle.fvn_combine_nodes.proofs.Heading.{build_free, build_commutative}
use Rattle.fvn_combine_nodes.proofs.Nodes.{arguments_within}
use Rattle.fvn_combine_inferring.specs.Sorted.{GoWithSorts}
use Rattle.fvn_combine_inferring.specs.Inferred.{HaveTwoValues}
use Rattle.fvn_combine_inferring.specs.Rows.{times, many, IsSummand, IsAmong}
use Rattle.fvn_combine_inferring.specs.inner.Bounds.{IsItOr}
use Rattle.fvn_combine_inferring.specs.inner.Sizes.{IsLess, IsSaid, AreSaid, size, AreInside, IsPair, HasFewer, IsNoSummand}
use Rattle.fvn_combine_inferring.specs.declared.sizes.Inside.{Inside}
use Rattle.fvn_combine_inferring.proofs.Values.{own_name}
use Rattle.fvn_combine_inferring.proofs.Told.{none_times, other_times}
use Rattle.fvn_combine_inferring.proofs.Sizing.{counted_symbols, of_parts, part_symbols}

symbols_among : (q : FlatTerm) (l : List FlatTerm) → Contains l q → symbols q ≤ all_symbols l
symbols_among q [] c = absurd (contains_none q c)
symbols_among q (t ∷ l) c = elim (contains_cases t l q c) [
  | inl e ↦ (let n = ap symbols e in omega (arith, n))
  | inr r ↦ (let n = symbols_among q l r in omega (arith, n))
]

-- what an operator that makes no sums is built over has fewer symbols
argument_smaller : (d : Declarations) (g : OpId) → is_sum (axioms d g) ≡ false → (l : List FlatTerm) (q : FlatTerm) → Contains l q → symbols q < symbols (build d g l)
argument_smaller d g simple l q c = go (axioms d g) refl
  where
    listed : (m : List FlatTerm) → all_symbols m ≡ all_symbols l → build d g l ≡ fapp g false (fpack m) → symbols q < symbols (build d g l)
    listed m same is =
        let a = symbols_among q l c in
        let b = symbols_unjoined g (fpack m) in
        let e = ap all_symbols (funpack-fpack m) in
        let n = ap symbols is in
        omega (arith, a, b, e, n, same)

    go : (a : Axioms) → axioms d g ≡ a → symbols q < symbols (build d g l)
    go Free e = listed l refl (build_free d g e l)
    go Comm e = listed (sort l) (all_symbols-sort l) (build_commutative d g e l)
    go AssocComm e = absurd (false≢true (sym simple ∙ ap is_sum e))
    go (AssocCommId o) e = absurd (false≢true (sym simple ∙ ap is_sum e))

-- a summand of a form that has two has fewer symbols
part_fewer : (d : Declarations) (f : OpId) (v : FlatTerm) → Settled d v → (q : FlatTerm) → 0 < count q (parts d f v) → 2 ≤ length (parts d f v) → symbols q < symbols v
part_fewer d f v settled q some two = at (parts d f v) refl
  where
    at : (l : List FlatTerm) → parts d f v ≡ l → symbols q < symbols v
    at [] e = absurd (let n = ap length e in omega (arith, n, two))
    at (t ∷ l) e =
        let m = ap length e in
        let n = ap (count q) e in
        let a = counted_symbols q (t ∷ l) (omega (arith, n, some)) in
        let b = of_parts d f v settled t l e in
        omega (arith, a, b, m, two)

-- pairs of two lists hold together
pub all_said : (w : ℕ → ℕ) (l m : List Inside) → AreSaid w l → AreSaid w m → AreSaid w (l ++ m)
all_said w l m a b = All-append (IsSaid w) l m a b

module _ (d : Declarations) (t : NodeTable) (s : State) (closed : IsClosed d t s) (sorted : Bool) where
  -- a pair of nodes is one of their classes
  pub one_pair : (e : Inside) → IsPair d t s sorted e → (small large : ℕ) → small ≡ class_of s e.small → large ≡ class_of s e.large → (list : List Inside) → AreInside d t s sorted list
      → AreInside d t s sorted (list ++ (record { small = small; large = large; proper = e.proper }) ∷ [])
  one_pair e pair small large is_small is_large list inside values go =
      All-push (IsSaid (size s values)) list (record { small = small; large = large; proper = e.proper }) (inside values go)
      (subst (λ n. IsLess e.proper n (size s values large)) (sym (same small e.small pair.small is_small))
      (subst (λ n. IsLess e.proper (size s values e.small) n) (sym (same large e.large pair.large is_large)) (pair.said values go)))
    where
      same : (n k : ℕ) → k < length t.nodes → n ≡ class_of s k → size s values n ≡ size s values k
      same n k within is = ap (size s values) is ∙ ap (λ x. symbols (values x)) (own_name d t s closed k within)

  -- each argument of a node that is no sum has fewer symbols
  pub fewer_each : IsWellMade t → (i : ℕ) (g : OpId) (ks : List ℕ) → IsOver t.nodes i g ks → is_sum (axioms d g) ≡ false → All (HasFewer d t s sorted i) ks
  fewer_each made i g ks over simple n e l = record {
    small = arguments_within t.nodes made.ordered i g ks over n e l;
    large = slice_get_within t.nodes i (App g ks) over;
    said = λ values go.
        let value = λ (k : ℕ). values (class_of s k) in
        let a = argument_smaller d g simple (map value ks) (value (get_or ks n e)) (contains_map value ks (get_or ks n e) (Contains-get_or ks n e l)) in
        let b = ap symbols (go.go.are.built i g ks over) in
        omega (arith, a, b);
  }

  module _ (f : OpId) (k l : ℕ) (ys : List ℕ) (one : IsSummand d t s sorted f k) (among : IsAmong d t s f k ys) (others : All (IsItOr (IsNoSummand d t s sorted f k) l) ys) where
    -- a single summand that is one of nothing that it is among but one is a summand of that one
    pub held : (values : ℕ → FlatTerm) → GoWithSorts d t s sorted values → 0 < times d s f values (values (class_of s k)) l
    held values go = at (times d s f values q l) refl
      where
        q : FlatTerm
        q = values (class_of s k)

        out : times d s f values q l ≡ 0 → (y : ℕ) → IsItOr (IsNoSummand d t s sorted f k) l y → times d s f values q y ≡ 0
        out e y (inl is) = ap (times d s f values q) is ∙ e
        out e y (inr absent) = absent values go

        at : (n : ℕ) → times d s f values q l ≡ n → 0 < times d s f values q l
        at zero e =
            let a = ap (count q) (one values go) in
            let b = count_itself q [] in
            let c = among values go.go q in
            let z = none_times d t s sorted f values q ys (λ i x within. out e (get_or ys i x) (others i x within)) in
            absurd (omega (arith, a, b, c, z))
        at (suc n) e = omega (arith, e)

    -- so it has no more symbols, and fewer where both differ
    pub held_pair : k < length t.nodes → l < length t.nodes → (proper : Bool) → (proper ≡ true → HaveTwoValues d t s sorted k l) → IsPair d t s sorted (record { small = k; large = l; proper = proper })
    held_pair small large proper two = record { small = small; large = large; said = λ values go. less values go proper two }
      where
        fewer : (values : ℕ → FlatTerm) → GoWithSorts d t s sorted values → values (class_of s k) ≢ values (class_of s l) → (n : ℕ) → many d s f values l ≡ n → size s values k < size s values l
        fewer values go other zero e = absurd (let a = other_times d t s sorted f values go (values (class_of s k)) l (omega (arith, e)) other in let b = held values go in omega (arith, a, b))
        fewer values go other (suc zero) e = absurd (let a = other_times d t s sorted f values go (values (class_of s k)) l (omega (arith, e)) other in let b = held values go in omega (arith, a, b))
        fewer values go other (suc (suc n)) e = part_fewer d f (values (class_of s l)) (go.go.are.settled (class_of s l)) (values (class_of s k)) (held values go) (omega (arith, e))

        less : (values : ℕ → FlatTerm) → GoWithSorts d t s sorted values → (b : Bool) → (b ≡ true → HaveTwoValues d t s sorted k l) → IsLess b (size s values k) (size s values l)
        less values go false h = part_symbols d f (values (class_of s l)) (go.go.are.settled (class_of s l)) (values (class_of s k)) (held values go)
        less values go true h = fewer values go (h refl values go) (many d s f values l) refl
