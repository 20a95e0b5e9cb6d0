-- Bindings placed one after another.
use Rattle.std.proofs.Common.{◌≡◌, ◌≢◌, ◌⊎◌, ℕ, ◌+◌, ◌-◌, ◌<◌, ◌≤◌, [], ◌∷◌, ◌++◌, length, get_or, sym, ap, ◌∙◌, subst, inl, inr, arith, All, Contains, Some}
use Rattle.std.specs.Prelude.{AllPairs}
use Rattle.std.specs.List.{remove}
use Rattle.std.proofs.lemmas.Bool.{cases_lt, cases_order}
use Rattle.std.proofs.lemmas.List.{get_or_default}
use Rattle.std.proofs.lemmas.List.Edits.{length-remove, get_or-remove_below, get_or-remove_above}
use Rattle.std.proofs.lemmas.List.Elements.{All-push, All-contains, All-weaker, All-contains_itself, Contains-get_or, Contains-append_left, Contains-push, Contains-push_cases}
use Rattle.std.proofs.lemmas.List.Quantifiers.{all_pairs_push, all_pairs_remove}
use Rattle.std.proofs.lemmas.Option.{slice_get_within, slice_get-get_or, get_or_from_slice_get}
use Rattle.fvn_base.proofs.Membership.{contains_here, contains_later, contains_cases, contains_none}
use Rattle.fvn_terms.specs.declared.plain.Var.{Var}
use Rattle.fvn_terms.specs.Substitution.{Occurs}
use Rattle.fvn_forms.specs.Flat.{FlatTerm, plain}
use Rattle.fvn_flat.specs.Bindings.{Bindings}
use Rattle.fvn_combine_triangular.specs.inner.Ordering.{OccursNowhere, IsSourceAt, HasNoSource, HasNoOrder, IsOrderOf}

abbrev pub NotLater : Var × FlatTerm → Var × FlatTerm → Type 0
NotLater a b = (a.0 ≢ b.0) × (Occurs a.0 (plain b.1) → ⊥)

-- some are placed, and the rest is still to be placed
pub record IsPlacing (bindings placed rest : Bindings) : Type 0 where
  pub not_itself : All (λ b. Occurs b.0 (plain b.1) → ⊥) placed
  pub not_later : AllPairs NotLater placed
  pub before : (a c : Var × FlatTerm) → Contains placed a → Contains rest c → NotLater a c
  pub distinct : AllPairs (λ a b. a.0 ≢ b.0) rest
  pub from : (c : Var × FlatTerm) → Contains placed c ⊎ Contains rest c → Contains bindings c
  pub all : (c : Var × FlatTerm) → Contains bindings c → Contains placed c ⊎ Contains rest c

pub nothing_placed : (bindings placed : Bindings) → placed ≡ [] → AllPairs (λ a b. a.0 ≢ b.0) bindings → IsPlacing bindings placed bindings
nothing_placed bindings placed none distinct = subst (λ l. IsPlacing bindings l bindings) (sym none) record {
  not_itself = λ k d l. absurd (omega (arith, l));
  not_later = λ i j d l m. absurd (omega (arith, m));
  before = λ a c m n. let l = m.1 in absurd (omega (arith, l));
  distinct = distinct;
  from = λ c h. elim h [ inl m ↦ let l = m.1 in absurd (omega (arith, l)) | inr m ↦ m ];
  all = λ c m. inr m;
}

module _ (rest : Bindings) (i : ℕ) (within : i < length rest) where
  -- what is left stands at another place
  removed_at : (c : Var × FlatTerm) → Contains (remove rest i) c → (j : ℕ) × (j < length rest) × (get_or rest j c ≡ c) × (j ≡ i → ⊥)
  removed_at c (k, m, e) = elim (cases_lt k i) [
    | inl below ↦ (k, omega (arith, below, within), sym (get_or-remove_below rest i c k below within) ∙ e, λ same. omega (arith, below, same))
    | inr above ↦
        let n = length-remove rest i within in
        (k + 1, omega (arith, n, m), sym (get_or-remove_above rest i c k above within) ∙ e, λ same. omega (arith, above, same))
  ]

  kept_or : (b c : Var × FlatTerm) → b ≡ get_or rest i b → Contains rest c → (b ≡ c) ⊎ Contains (remove rest i) c
  kept_or b c is (j, m, e) = elim (cases_order j i) [
    | inl same ↦ inl (is ∙ ap (λ n. get_or rest n b) (sym same) ∙ get_or_default rest j b c m ∙ e)
    | inr o ↦ elim o [
      | inl below ↦ let n = length-remove rest i within in inr (j, omega (arith, n, below, within), get_or-remove_below rest i c j below within ∙ e)
      | inr above ↦
          let n = length-remove rest i within in
          let back : (j - 1) + 1 ≡ j = omega (arith, above) in
          inr (j - 1, omega (arith, n, m, above), get_or-remove_above rest i c (j - 1) (omega (arith, above)) within ∙ ap (λ n. get_or rest n c) back ∙ e)
    ]
  ]

  left_of : (c : Var × FlatTerm) → Contains (remove rest i) c → Contains rest c
  left_of c m = let a = removed_at c m in (a.0, a.1, a.2)

  other_name : AllPairs (λ a b. a.0 ≢ b.0) rest → (b c : Var × FlatTerm) → b ≡ get_or rest i b → Contains (remove rest i) c → b.0 ≢ c.0
  other_name distinct b c is m same =
      let a = removed_at c m in
      let at : get_or rest i c ≡ b = get_or_default rest i c b within ∙ sym is in
      elim (cases_order a.0 i) [
        | inl e ↦ a.3 e
        | inr o ↦ elim o [
          | inl below ↦ distinct a.0 i c below within (ap (λ p. p.0) a.2 ∙ sym same ∙ sym (ap (λ p. p.0) at))
          | inr above ↦ distinct i a.0 c above a.1 (ap (λ p. p.0) at ∙ same ∙ sym (ap (λ p. p.0) a.2))
        ]
      ]

-- one more is placed
pub place_more : (bindings placed rest now left : Bindings) (i : ℕ) (b : Var × FlatTerm) → IsPlacing bindings placed rest → IsSourceAt rest i → b ≡ get_or rest i b → now ≡ placed ++ b ∷ [] → left ≡ remove rest i → IsPlacing bindings now left
place_more bindings placed rest now left i b h (s, at, nowhere) is pushed removed =
    subst (λ xs. IsPlacing bindings xs left) (sym pushed) (subst (IsPlacing bindings (placed ++ b ∷ [])) (sym removed) record {
      not_itself = All-push (λ (c : Var × FlatTerm). Occurs c.0 (plain c.1) → ⊥) placed b h.not_itself (gone b here);
      not_later = all_pairs_push NotLater placed b h.not_later (λ k d l. h.before (get_or placed k d) b (Contains-get_or placed k d l) here);
      before = λ a c m n. elim (Contains-push_cases placed b a m) [
        | inl old ↦ h.before a c old (left_of rest i within c n)
        | inr same ↦ subst (λ (a : Var × FlatTerm). NotLater a c) same (other_name rest i within h.distinct b c is n, gone c (left_of rest i within c n))
      ];
      distinct = all_pairs_remove (λ (a b : Var × FlatTerm). a.0 ≢ b.0) rest i within h.distinct;
      from = λ c m. elim m [
        | inl p ↦ elim (Contains-push_cases placed b c p) [
          | inl old ↦ h.from c (inl old)
          | inr same ↦ subst (Contains bindings) same (h.from b (inr here))
        ]
        | inr q ↦ h.from c (inr (left_of rest i within c q))
      ];
      all = λ c m. elim (h.all c m) [
        | inl old ↦ inl (Contains-append_left placed (b ∷ []) c old)
        | inr q ↦ elim (kept_or rest i within b c is q) [
          | inl same ↦ inl (subst (Contains (placed ++ b ∷ [])) same (Contains-push placed b))
          | inr stays ↦ inr stays
        ]
      ];
    })
  where
    within : i < length rest
    within = slice_get_within rest i s at

    one : s ≡ b
    one = sym (get_or_from_slice_get rest i s b at) ∙ sym is

    here : Contains rest b
    here = (i, slice_get_within rest i s at, sym is)

    gone : (c : Var × FlatTerm) → Contains rest c → Occurs b.0 (plain c.1) → ⊥
    gone c m o = All-contains (λ (c : Var × FlatTerm). Occurs s.0 (plain c.1) → ⊥) rest c nowhere m (subst (λ (p : Var × FlatTerm). Occurs p.0 (plain c.1)) (sym (sym (get_or_from_slice_get rest i s b at) ∙ sym is)) o)

-- where all are placed, they are in order
pub all_placed : (bindings placed rest : Bindings) → IsPlacing bindings placed rest → length rest ≡ 0 → IsOrderOf bindings placed
all_placed bindings placed rest h none = (
  record { not_itself = h.not_itself; not_later = h.not_later },
  λ b. (
    λ m. h.from b (inl m),
    λ m. elim (h.all b m) [ inl p ↦ p | inr q ↦ let l = q.1 in absurd (omega (arith, l, none)) ],
  ),
)

-- some binding of a list has the greatest rank
greatest : (rank : Var → ℕ) (b : Var × FlatTerm) (rest : Bindings) → (g : Var × FlatTerm) × Contains (b ∷ rest) g × ((c : Var × FlatTerm) → Contains (b ∷ rest) c → rank c.0 ≤ rank g.0)
greatest rank b [] = (b, contains_here b [], λ c m. elim (contains_cases b [] c m) [ inl same ↦ le_of rank b c same | inr n ↦ absurd (contains_none c n) ])
  where
    le_of : (rank : Var → ℕ) (b c : Var × FlatTerm) → b ≡ c → rank c.0 ≤ rank b.0
    le_of rank b c e = let n = ap (λ (p : Var × FlatTerm). rank p.0) e in omega (arith, n)
greatest rank b (c ∷ rest) =
    let g = greatest rank c rest in
    elim (cases_lt (rank b.0) (rank g.0.0)) [
      | inl below ↦ (
        g.0,
        contains_later b (c ∷ rest) g.0 g.1,
        λ x m. elim (contains_cases b (c ∷ rest) x m) [
          | inl same ↦ let n = ap (λ (p : Var × FlatTerm). rank p.0) same in omega (arith, n, below)
          | inr q ↦ g.2 x q
        ],
      )
      | inr above ↦ (
        b,
        contains_here b (c ∷ rest),
        λ x m. elim (contains_cases b (c ∷ rest) x m) [
          | inl same ↦ let n = ap (λ (p : Var × FlatTerm). rank p.0) same in omega (arith, n)
          | inr q ↦ let l = g.2 x q in omega (arith, l, above)
        ],
      )
    ]

-- where a rank falls, some variable that is bound occurs in no form
source_by_rank : (rank : Var → ℕ) (rest : Bindings) → ((b c : Var × FlatTerm) → Contains rest b → Contains rest c → Occurs b.0 (plain c.1) → rank b.0 < rank c.0) → 0 < length rest → HasNoSource rest → ⊥
source_by_rank rank [] falls some none = omega (arith, some)
source_by_rank rank (b ∷ rest) falls some none =
    let g = greatest rank b rest in
    let m = g.1 in
    none m.0 (g.0, slice_get-get_or (b ∷ rest) m.0 g.0 m.1 ∙ ap Some m.2, All-weaker (Contains (b ∷ rest)) (λ (c : Var × FlatTerm). Occurs g.0.0 (plain c.1) → ⊥) (λ c q o. let l = g.2 c q in let f = falls g.0 c m q o in omega (arith, l, f)) (b ∷ rest) (All-contains_itself (b ∷ rest)))

pub no_order : (bindings placed rest : Bindings) → IsPlacing bindings placed rest → 0 < length rest → HasNoSource rest → HasNoOrder bindings
no_order bindings placed rest h some none rank falls = source_by_rank rank rest (λ b c m n. falls b c (h.from b (inr m)) (h.from c (inr n))) some none

-- a variable that occurs in no form, at its place
pub source_here : (bindings : Bindings) (i : ℕ) (b : Var × FlatTerm) → i < length bindings → b ≡ get_or bindings i b → OccursNowhere bindings b.0 → IsSourceAt bindings i
source_here bindings i b l is nowhere = (b, slice_get-get_or bindings i b l ∙ ap Some (sym is), nowhere)

-- one more place at which one occurs in some form
pub no_source_more : (bindings : Bindings) (i : ℕ) (b : Var × FlatTerm) → 0 < i → i ≤ length bindings → b ≡ get_or bindings (i - 1) b → (OccursNowhere bindings b.0 → ⊥) → ((j : ℕ) → i ≤ j → IsSourceAt bindings j → ⊥) → (j : ℕ) → i - 1 ≤ j → IsSourceAt bindings j → ⊥
no_source_more bindings i b some within is occurs none j l s = elim (cases_lt j i) [
  | inl below ↦
      let e : j ≡ i - 1 = omega (arith, below, l, some) in
      let same : s.0 ≡ b = sym (get_or_from_slice_get bindings j s.0 b s.1) ∙ ap (λ n. get_or bindings n b) e ∙ sym is in
      occurs (subst (λ (p : Var × FlatTerm). OccursNowhere bindings p.0) same s.2)
  | inr above ↦ none j above s
]
