-- What is checked of each node, of guessed heights and sums, makes a class loose.
use Rattle.std.proofs.Common.{◌≡◌, ◌≢◌, ◌⊎◌, ℕ, ◌<◌, ◌≤◌, Bool, List, [], ◌∷◌, length, refl, sym, ap, ◌∙◌, subst, inl, inr, Option, Some, None, Contains, slice_get, slice_index_or, get_or, arith}
use Rattle.std.specs.Prelude.{All}
use Rattle.std.proofs.lemmas.Bool.{cases_eq}
use Rattle.std.proofs.lemmas.Option.{slice_get_within}
use Rattle.fvn_terms.specs.declared.plain.Var.{Var as Variable}
use Rattle.fvn_terms.specs.declared.plain.OpId.{OpId}
use Rattle.fvn_terms.specs.declared.plain.SortId.{SortId}
use Rattle.fvn_terms.specs.declared.declarations.Declarations.{Declarations}
use Rattle.fvn_terms.specs.Sorts.{HasSort}
use Rattle.fvn_forms.specs.InOrder.{count}
use Rattle.fvn_forms.specs.Canon.{parts}
use Rattle.fvn_combine_nodes.specs.Table.{NodeTable, IsOver, term_at}
use Rattle.fvn_combine_nodes.specs.States.{class_of}
use Rattle.fvn_combine_nodes.specs.declared.state.State.{State}
use Rattle.fvn_combine_nodes.specs.declared.table.Node.TheVariants.{Var, App}
use Rattle.fvn_combine_inferring.specs.Rows.{HoldsSummands, IsHeld}
use Rattle.fvn_combine_loose.specs.Loose.{height_of, IsIdle, AreMadeAlike, IsSumOver, Bears, IsBearing, IsSumSort, IsHeaded, HaveSort, IsSum, IsLoose}
use Rattle.fvn_combine_loose.specs.inner.Checks.{IsNoted, IsFine, AreFine, AreOfSort, IsFilled, IsAdded, IsPut}
use Rattle.fvn_combine_loose.proofs.Checked.{absent_busy, same_way, none_noted}

-- pairs are one where their parts are
pub pair_same : (a b : OpId × ℕ) → a.0 ≡ b.0 → a.1 ≡ b.1 → a ≡ b
pair_same a b p q = λ i. (p i, q i)

-- two nodes of which one bears the summand
module _ (s : State) (heights : List ℕ) (sums : List (Option (OpId × ℕ))) (f : OpId) (p : ℕ) where
  pub bearing_first : (ks : List ℕ) (e g : ℕ) → length ks ≡ 2 → Bears s heights sums f p (get_or ks 0 e) × (height_of s heights (get_or ks 1 g) ≡ 0) → IsBearing s heights sums f p ks
  bearing_first [] e g n h = absurd (omega (arith, n))
  bearing_first (a ∷ []) e g n h = absurd (omega (arith, n))
  bearing_first (a ∷ b ∷ []) e g n h = record { first = a; second = b; are = refl; one = inl h }
  bearing_first (a ∷ b ∷ c ∷ l) e g n h = absurd (omega (arith, n))

  pub bearing_second : (ks : List ℕ) (e g : ℕ) → length ks ≡ 2 → Bears s heights sums f p (get_or ks 1 e) × (height_of s heights (get_or ks 0 g) ≡ 0) → IsBearing s heights sums f p ks
  bearing_second [] e g n h = absurd (omega (arith, n))
  bearing_second (a ∷ []) e g n h = absurd (omega (arith, n))
  bearing_second (a ∷ b ∷ []) e g n h = record { first = a; second = b; are = refl; one = inr (h.1, h.0) }
  bearing_second (a ∷ b ∷ c ∷ l) e g n h = absurd (omega (arith, n))

module _ (d : Declarations) (t : NodeTable) (s : State) (sorted : Bool) where
  -- what an operator heads over nodes of other classes alone heads its class
  pub headed_from : (m i : ℕ) (f : OpId) (ks : List ℕ) → IsOver t.nodes m f ks → class_of s m ≡ class_of s i → All (λ k. class_of s k ≢ class_of s i) ks → IsHeaded d t s sorted i
  headed_from m i f ks over of others = record { member = m; operator = f; arguments = ks; over = over; of = of; busy = absent_busy t s m i f ks of others }

  headed_of : (i k : ℕ) → class_of s i ≡ class_of s k → IsHeaded d t s sorted i → IsHeaded d t s sorted k
  headed_of i k e h = record { member = h.member; operator = h.operator; arguments = h.arguments; over = h.over; of = h.of ∙ e; busy = h.busy }

  -- what is known of two classes, by other nodes of them
  pub held_of : (h : OpId × ℕ × ℕ) → IsHeld d t s sorted h → (f : OpId) (p k : ℕ) → h.0 ≡ f → class_of s h.1 ≡ class_of s p → class_of s h.2 ≡ class_of s k → HoldsSummands d t s sorted f p k
  held_of h held f p k a b c =
      subst (λ g. HoldsSummands d t s sorted g p k) a
      (
      λ values go q.
      let times : ℕ → ℕ = λ m. count q (parts d h.0 (values m)) in
      subst (λ m. times m ≤ times (class_of s k)) b (subst (λ n. times (class_of s h.1) ≤ times n) c (held.holds values go q))
      )

  pub sorts_of : (i : ℕ) (q : SortId) → AreOfSort d t s i q → HaveSort d t s sorted i q
  sorts_of i q h = λ j f ks over e. h j (slice_get_within t.nodes j (App f ks) over) f ks over e

  module _ (heights : List ℕ) (sums : List (Option (OpId × ℕ))) (marks : List Bool) (z : ℕ) (fine : AreFine d t s marks)
      (no_sum : slice_index_or sums (class_of s z) None ≡ None) (put : (i : ℕ) → i < length t.nodes → IsPut d t s sorted heights sums marks z i) where
    at_over : (i : ℕ) (f : OpId) (ks : List ℕ) → IsOver t.nodes i f ks → IsPut d t s sorted heights sums marks z i
    at_over i f ks is = put i (slice_get_within t.nodes i (App f ks) is)

    open_over : (i : ℕ) (f : OpId) (ks : List ℕ) → IsOver t.nodes i f ks → class_of s i ≡ class_of s z → IsIdle t s i f ks
    open_over i f ks is e = (at_over i f ks is).bottom e f ks is

    -- a class of which a sum is noted is not z's
    noted_other : (i : ℕ) (f : OpId) (p : ℕ) → IsSumOver s heights sums f p i → class_of s i ≢ class_of s z
    noted_other i f p noted e =
        none_noted (f, p) (sym no_sum ∙ sym (ap (λ c. slice_index_or sums c None) e) ∙ noted)

    noted_same : (i k : ℕ) (f : OpId) (p : ℕ) → class_of s i ≡ class_of s k → IsSumOver s heights sums f p k → IsSumOver s heights sums f p i
    noted_same i k f p e noted = ap (λ c. slice_index_or sums c None) e ∙ noted

    added : (i : ℕ) → i < length t.nodes → (f : OpId) (p : ℕ) → IsSumOver s heights sums f p i → IsAdded d t s sorted heights sums f p i
    added i l f p noted = (put i l).sum (noted_other i f p noted) f p noted

    holds : (k : ℕ) (f : OpId) (p : ℕ) → IsFilled d t s sorted f p k → IsHeaded d t s sorted k ⊎ HoldsSummands d t s sorted f p k
    holds k f p h = elim h as (λ _. IsHeaded d t s sorted k ⊎ HoldsSummands d t s sorted f p k) [
      | inl a ↦ inl a
      | inr b ↦ inr b.0
    ]

    taken : (k : ℕ) (f : OpId) (p : ℕ) → IsSumOver s heights sums f p k → (i : ℕ) (x : Variable) → slice_get t.nodes i ≡ Some (Var x) → class_of s i ≡ class_of s k
        → IsHeaded d t s sorted k ⊎ (IsSumSort d f x.sort × IsHeaded d t s sorted p × HaveSort d t s sorted p x.sort)
    taken k f p noted i x is e =
        let a = added i (slice_get_within t.nodes i (Var x) is) f p (noted_same i k f p e noted) in
        elim a.filled as (λ _. IsHeaded d t s sorted k ⊎ (IsSumSort d f x.sort × IsHeaded d t s sorted p × HaveSort d t s sorted p x.sort)) [
          | inl h ↦ inl (headed_of i k e h)
          | inr w ↦ let r = w.1 x is in inr (r.sum_sort, r.headed, r.sorts)
        ]

    sum_from : (k : ℕ) (f : OpId) (p : ℕ) → k < length t.nodes → IsSumOver s heights sums f p k → IsSum d t s sorted z heights sums f p k
    sum_from k f p l noted =
        let a = added k l f p noted in
        record { associative = a.part.associative; part = a.part.within; stands = a.part.stands; lower = a.part.lower; held = holds k f p a.filled; taken = taken k f p noted }

    -- a class in which the loose class stands, of which no sum is noted, is made in one way
    fine_at : (i : ℕ) → i < length t.nodes → 0 < height_of s heights i → class_of s i ≢ class_of s z → slice_index_or sums (class_of s i) None ≡ None → IsFine d t s fine.heads i
    fine_at i l stands other none = fine.each i ((put i l).marked other none stands)

    made : (i : ℕ) → i < length t.nodes → 0 < height_of s heights i → class_of s i ≢ class_of s z → slice_index_or sums (class_of s i) None ≡ None → IsHeaded d t s sorted i
    made i l stands other none =
        let n = (fine_at i l stands other none).noted in
        headed_from n.member i n.like.operator n.like.arguments n.like.over n.like.of n.like.others

    alike : (i j : ℕ) (f g : OpId) (ks ls : List ℕ) → IsOver t.nodes i f ks → IsOver t.nodes j g ls → class_of s i ≡ class_of s j → 0 < height_of s heights i → slice_index_or sums (class_of s i) None ≡ None
        → (IsIdle t s i f ks ⊎ IsIdle t s j g ls) ⊎ ((f ≡ g) × AreMadeAlike d (class_of s) f ks ls)
    alike i j f g ks ls a b e stands none = elim (cases_eq (class_of s i) (class_of s z)) as (λ _. (IsIdle t s i f ks ⊎ IsIdle t s j g ls) ⊎ ((f ≡ g) × AreMadeAlike d (class_of s) f ks ls)) [
      | inl same ↦ inl (inl (open_over i f ks a same))
      | inr other ↦
          same_way d t s fine.heads i j f g ks ls a b e
          (fine_at i (slice_get_within t.nodes i (App f ks) a) stands other none).noted
          (fine_at j (slice_get_within t.nodes j (App g ls) b) (subst (λ c. 0 < slice_index_or heights c 0) e stands) (λ q. other (e ∙ q)) (subst (λ c. slice_index_or sums c None ≡ None) e none)).noted
    ]

    sorts : (i : ℕ) (x : Variable) → slice_get t.nodes i ≡ Some (Var x) → 0 < height_of s heights i → HaveSort d t s sorted i x.sort
    sorts i x is stands = elim (cases_eq (class_of s i) (class_of s z)) as (λ _. HaveSort d t s sorted i x.sort) [
      | inl same ↦ λ j f ks over e. inl (open_over j f ks over (sym e ∙ same))
      | inr other ↦ go other (slice_index_or sums (class_of s i) None) refl
    ]
      where
        l : i < length t.nodes
        l = slice_get_within t.nodes i (Var x) is

        go : class_of s i ≢ class_of s z → (o : Option (OpId × ℕ)) → slice_index_or sums (class_of s i) None ≡ o → HaveSort d t s sorted i x.sort
        go other None noted = sorts_of i x.sort ((fine_at i l stands other noted).sorted x is)
        go other (Some q) noted = sorts_of i x.sort ((added i l q.0 q.1 noted).kept x is)

    -- so z's class is loose
    pub loose_by_sums : z < length t.nodes → 0 < height_of s heights z → IsLoose d t s sorted z heights sums
    loose_by_sums within stands = record {
      within = within;
      stands = stands;
      open_class = open_over;
      no_sum = no_sum;
      raised = λ i f ks is. (at_over i f ks is).raised f ks is;
      made = made;
      alike = alike;
      sum = sum_from;
      bearing = λ i g ks f p over noted. (added i (slice_get_within t.nodes i (App g ks) over) f p noted).adding g ks over;
      sorts = sorts;
    }
