-- A sort whose label is new begins a kind, and any other one has the kind of an earlier sort.
use Rattle.std.proofs.Common.{◌≡◌, ℕ, ◌+◌, ◌<◌, true, List, [], ◌∷◌, ◌++◌, map, length, get_or, set, replicate, Option, Some, None, refl, sym, ap, subst, ◌∙◌, ◌⊎◌, inl, inr, arith}
use Rattle.std.specs.List.{All}
use Rattle.std.proofs.lemmas.Bool.{cases_eq, cases_lt, cases_order, eq-eqb, eqb-true}
use Rattle.std.proofs.lemmas.List.{get_or-set_same, get_or-set_other, get_or-replicate, get_or_past, length-replicate, length-map, get_or-map, map-append}
use Rattle.std.proofs.lemmas.List.Elements.{All-push, All-weaker}
use Rattle.fvn_terms.specs.declared.plain.SortId.{SortId}
use Rattle.fvn_forms.specs.SortOrder.{sort_number}
use Rattle.fvn_signature.specs.FirstSorts.{first_sorts}
use Rattle.fvn_signature_draft.specs.declared.collected.Collected.{Collected}
use Rattle.fvn_signature_draft.specs.Collected.{joins, first_joined, parts_before, kind_of}
use Rattle.fvn_signature_draft.proofs.Parts.{first_joined-at, first_joined-same, kind_of-first, kind_of-later, kinds-length, kinds-at, kinds-more}
use Rattle.fvn_module_names.specs.inner.Classes.{label}
use Rattle.fvn_module_names.specs.inner.Numbering.{HasLabels, IsKnown, IsNumbered}

-- What is known.

module _ (c : Collected) (labels : List ℕ) (n : ℕ) where
  -- a kind that is known is that of an earlier sort
  pub known_kind : (kind : ℕ) (known : List (Option ℕ)) → get_or known (label labels n) None ≡ Some kind → ((l : ℕ) → IsKnown c labels n l (get_or known l None)) →
      (f : ℕ) × ((f < n) × ((label labels f ≡ label labels n) × (sort_number kind ≡ kind_of c (sort_number f))))
  known_kind kind known e all = subst (IsKnown c labels n (label labels n)) e (all (label labels n))

  -- where no kind is known, no earlier sort has the label
  pub known_not : (known : List (Option ℕ)) → get_or known (label labels n) None ≡ None → ((l : ℕ) → IsKnown c labels n l (get_or known l None)) →
      (i : ℕ) → i < n → label labels i ≡ label labels n → ⊥
  known_not known e all = subst (IsKnown c labels n (label labels n)) e (all (label labels n))

-- the kind of a sort that has been numbered is below the next number
pub listed_below : (c : Collected) (kinds : List ℕ) (n f kind next : ℕ) → map sort_number kinds ≡ map (kind_of c) (first_sorts n) → f < n → sort_number kind ≡ kind_of c (sort_number f) →
    All (λ i. i < next) kinds → kind < next
listed_below c kinds n f kind next e l is below =
    let long : length kinds ≡ n = sym (length-map kinds sort_number) ∙ ap length e ∙ kinds-length c n in
    let within : f < length kinds = omega arith in
    let at : sort_number (get_or kinds f 0) ≡ sort_number kind =
    sym (get_or-map sort_number kinds f 0 (sort_number 0) within) ∙ ap (λ ks. get_or ks f (sort_number 0)) e ∙ kinds-at c n f (sort_number 0) l ∙ sym is in
    let one : get_or kinds f 0 ≡ kind = ap (λ (s : SortId). s.0) at in
    let b : get_or kinds f 0 < next = below f 0 within in
    omega arith

-- One sort more.

module _ (c : Collected) (labels : List ℕ) (h : HasLabels c labels) where
  pub later_kind : (k f : ℕ) → k < c.sorts → f < k → label labels f ≡ label labels k → (kind_of c (sort_number k) ≡ kind_of c (sort_number f)) × (parts_before c (k + 1) ≡ parts_before c k)
  later_kind k f l m e =
      let joined : joins c (sort_number k) (sort_number f) ≡ true = h.exact k f l (omega arith) ∙ eq-eqb (label labels k) (label labels f) (sym e) in
      let same : first_joined c (sort_number k) ≡ first_joined c (sort_number f) = first_joined-same c (sort_number k) (sort_number f) (omega arith) joined in
      let at = (first_joined-at c (sort_number f) (omega arith)).0 in
      let first : ℕ = (first_joined c (sort_number k)).0 in
      let is : first ≡ (first_joined c (sort_number f)).0 = ap (λ (s : SortId). s.0) same in
      let r = kind_of-later c k first l refl (λ q. omega arith) in
      (ap (λ (s : SortId). sort_number (c.sorts + parts_before c s.0)) same, r.2)

  pub first_kind : (k : ℕ) → k < c.sorts → ((i : ℕ) → i < k → label labels i ≡ label labels k → ⊥) →
      (kind_of c (sort_number k) ≡ sort_number (c.sorts + parts_before c k)) × (parts_before c (k + 1) ≡ parts_before c k + 1)
  first_kind k l none =
      let at = first_joined-at c (sort_number k) l in
      let first : ℕ = (first_joined c (sort_number k)).0 in
      let within : first < c.sorts = (let a = at.0 in omega arith) in
      let alike : label labels k ≡ label labels first = eqb-true (label labels k) (label labels first) (sym (h.exact k first l within) ∙ at.1) in
      let is : k ≡ first = elim (cases_order k first) [
        | inl e ↦ e
        | inr (inl b) ↦ absurd (let a = at.0 in omega arith)
        | inr (inr b) ↦ absurd (none first b (sym alike))
      ] in
      kind_of-first c k (ap sort_number is)

  later_known : (n l : ℕ) (o : Option ℕ) → (label labels n ≡ l → ⊥) → IsKnown c labels n l o → IsKnown c labels (n + 1) l o
  later_known n l None other none = λ i m e. elim (cases_eq i n) [
    | inl q ↦ other (ap (label labels) (sym q) ∙ e)
    | inr q ↦ none i (below i n m q) e
  ] where
    below : (i n : ℕ) → i < n + 1 → (i ≡ n → ⊥) → i < n
    below i n m q = omega arith
  later_known n l (Some kind) other w = let m : w.0 < n = w.1.0 in (w.0, (omega arith, w.1.1))

  -- the sort has the kind that is known for its label
  pub known_old : (known : List (Option ℕ)) (n kind : ℕ) → get_or known (label labels n) None ≡ Some kind →
      ((l : ℕ) → IsKnown c labels n l (get_or known l None)) → (l : ℕ) → IsKnown c labels (n + 1) l (get_or known l None)
  known_old known n kind e all l = go (cases_eq (label labels n) l) where
    go : (label labels n ≡ l) ⊎ (label labels n ≡ l → ⊥) → IsKnown c labels (n + 1) l (get_or known l None)
    go (inl q) =
        let at : get_or known l None ≡ Some kind = ap (λ m. get_or known m None) (sym q) ∙ e in
        subst (IsKnown c labels (n + 1) l) (sym at) (some (subst (IsKnown c labels n l) at (all l))) where
          some : IsKnown c labels n l (Some kind) → IsKnown c labels (n + 1) l (Some kind)
          some w = let m : w.0 < n = w.1.0 in (w.0, (omega arith, w.1.1))
    go (inr q) = later_known n l (get_or known l None) q (all l)

  -- the sort has a new kind
  pub known_new : (known : List (Option ℕ)) (n kind : ℕ) → label labels n < length known → sort_number kind ≡ kind_of c (sort_number n) →
      ((l : ℕ) → IsKnown c labels n l (get_or known l None)) → (l : ℕ) → IsKnown c labels (n + 1) l (get_or (set known (label labels n) (Some kind)) l None)
  known_new known n kind within is all l = go (cases_eq l (label labels n)) where
    go : (l ≡ label labels n) ⊎ (l ≡ label labels n → ⊥) → IsKnown c labels (n + 1) l (get_or (set known (label labels n) (Some kind)) l None)
    go (inl q) =
        let at : get_or (set known (label labels n) (Some kind)) l None ≡ Some kind = ap (λ m. get_or (set known (label labels n) (Some kind)) m None) q ∙ get_or-set_same known (label labels n) (Some kind) None within in
        let here : n < n + 1 = omega arith in
        subst (IsKnown c labels (n + 1) l) (sym at) (n, (here, (sym q, is)))
    go (inr q) = subst (IsKnown c labels (n + 1) l) (sym (get_or-set_other known (label labels n) l (Some kind) None q)) (later_known n l (get_or known l None) (λ e. q (sym e)) (all l))

  pub known_none : (m l : ℕ) → IsKnown c labels 0 l (get_or (replicate m None) l None)
  known_none m l = subst (IsKnown c labels 0 l) (sym (nothing m l)) (λ i e _. omega arith) where
    nothing : (m l : ℕ) → get_or {A = Option ℕ} (replicate m None) l None ≡ None
    nothing m l = elim (cases_lt l m) [
      | inl k ↦ get_or-replicate m l None None k
      | inr k ↦ get_or_past (replicate m None) l None (let nothing : Option ℕ = None in let e = length-replicate m nothing in omega arith)
    ]

  -- the sort has the kind that is known for its label
  pub numbered_old : (known : List (Option ℕ)) (kinds : List ℕ) (next n kind : ℕ) → n < c.sorts → get_or known (label labels n) None ≡ Some kind →
      ((l : ℕ) → IsKnown c labels n l (get_or known l None)) → IsNumbered c kinds next n → IsNumbered c (kinds ++ kind ∷ []) next (n + 1)
  numbered_old known kinds next n kind few e all is =
      let found = known_kind c labels n kind known e all in
      let later = later_kind n found.0 few found.1.0 found.1.1.0 in
      record {
        numbers = rw (map-append, is.numbers, kinds-more, later.0, found.1.1.1);
        following = is.following ∙ ap (λ m. c.sorts + m) (sym later.1);
        below = All-push (λ i. i < next) kinds kind is.below (listed_below c kinds n found.0 kind next is.numbers found.1.0 found.1.1.1 is.below);
      }

  -- the sort has a new kind
  pub numbered_new : (known : List (Option ℕ)) (kinds : List ℕ) (next n : ℕ) → n < c.sorts → label labels n < length known → get_or known (label labels n) None ≡ None →
      ((l : ℕ) → IsKnown c labels n l (get_or known l None)) → IsNumbered c kinds next n →
      IsNumbered c (kinds ++ next ∷ []) (next + 1) (n + 1) × ((l : ℕ) → IsKnown c labels (n + 1) l (get_or (set known (label labels n) (Some next)) l None))
  numbered_new known kinds next n few within e all is =
      let first = first_kind n few (known_not c labels n known e all) in
      let kind : sort_number next ≡ kind_of c (sort_number n) = ap sort_number is.following ∙ sym first.0 in (
        record {
          numbers = rw (map-append, is.numbers, kinds-more, kind);
          following = ap (λ m. m + 1) is.following ∙ (let f = first.1 in omega arith);
          below = All-push (λ i. i < next + 1) kinds next (All-weaker (λ i. i < next) (λ i. i < next + 1) (λ i m. omega arith) kinds is.below) (omega arith);
        },
        known_new known n next within kind all,
      )
