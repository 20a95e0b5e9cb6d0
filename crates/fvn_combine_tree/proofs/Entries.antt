-- The identities of operators are entered.
use Rattle.std.proofs.Common.{◌≡◌, ℕ, ◌+◌, ◌<◌, ◌≤◌, List, [], ◌∷◌, ◌++◌, length, get_or, refl, sym, ap, ◌∙◌, subst, inl, inr, arith, Any, Some, None, slice_get}
use Rattle.std.proofs.lemmas.Bool.{cases_lt}
use Rattle.std.proofs.lemmas.List.{append-nil, append_assoc, length-append, length_push, get_or_append_left, get_or_push, get_or_default}
use Rattle.std.proofs.lemmas.List.Elements.{All-nil, All-push, All-weaker}
use Rattle.std.proofs.lemmas.Option.{slice_get-get_or}
use Rattle.fvn_terms.specs.declared.plain.OpId.{OpId}
use Rattle.fvn_terms.specs.declared.declarations.Declarations.{Declarations}
use Rattle.fvn_terms.specs.Signature.{axioms}
use Rattle.fvn_terms.specs.Equality.{identity}
use Rattle.fvn_combine_nodes.specs.Table.{term_at, IsOver}
use Rattle.fvn_combine_nodes.specs.declared.table.Node.{Node}
use Rattle.fvn_combine_nodes.specs.declared.table.Node.TheVariants.{App}
use Rattle.fvn_combine_tree.specs.inner.Drafts.{AreNodes, IsEntered, IsEntry, IsNewUnit, AreUnitsOf}
use Rattle.fvn_combine_nodes.proofs.Nodes.{term_at-more}
use Rattle.fvn_combine_tree.proofs.Entering.{entered_term, entered_within, entered_last}

same_some : {A : Type 0} (x y : A) → Some x ≡ Some y → x ≡ y
same_some x y e = cc

-- a node is where it was before others came
pub node_before : (before now rest : List Node) (i : ℕ) (n : Node) → now ≡ before ++ rest → i < length before → n ≡ get_or now i n → slice_get before i ≡ Some n
node_before before now rest i n is h at = slice_get-get_or before i n h ∙ ap Some (sym (at ∙ ap (λ ns. get_or ns i n) is ∙ get_or_append_left before rest n i h))

module _ (d : Declarations) where
  pub no_units : (nodes : List Node) → AreUnitsOf d 0 nodes nodes []
  no_units nodes = record {
    rest = [];
    nodes = sym (append-nil nodes);
    entries = All-nil (IsEntry d nodes nodes);
    all = λ i f e ks l. absurd (omega arith);
    once = λ i j e l m. absurd (omega arith);
    covers = λ i l m. absurd (omega arith);
  }

  -- a node with nothing new
  pub units_kept : (m : ℕ) (before now : List Node) (units : List (OpId × ℕ)) → AreUnitsOf d m before now units → ((f e : OpId) (ks : List ℕ) → IsOver before m f ks → identity (axioms d f) ≡ Some e → Any (λ p. p.0 ≡ f) units) → AreUnitsOf d (m + 1) before now units
  units_kept m before now units are listed = record {
    rest = are.rest;
    nodes = are.nodes;
    entries = are.entries;
    all = λ i f e ks l over is. elim (cases_lt i m) [
      | inl lt ↦ are.all i f e ks lt over is
      | inr ge ↦ let at : i ≡ m = omega arith in listed f e ks (subst (λ k. IsOver before k f ks) at over) is
    ];
    once = are.once;
    covers = are.covers;
  }

  any_left : {A : Type 0} (P : A → Type 0) (xs ys : List A) → Any P xs → Any P (xs ++ ys)
  any_left P xs ys h = (h.0, h.1, let l = h.2 in let n = length-append xs ys in omega arith, get_or_append_left xs ys h.1 h.0 h.2 ∙ h.3, h.4)

  any_last : {A : Type 0} (P : A → Type 0) (xs : List A) (y : A) → P y → Any P (xs ++ y ∷ [])
  any_last P xs y h = (length xs, y, let n = length_push xs y in omega arith, get_or_push xs y y (length xs) refl, h)

  -- an operator with a new identity
  module _ (m : ℕ) (before now : List Node) (units : List (OpId × ℕ)) (are : AreUnitsOf d m before now units) (nodes : AreNodes now) (f e : OpId) (ks : List ℕ) (over : IsOver before m f ks) (is : identity (axioms d f) ≡ Some e) (unlisted : Any (λ p. p.0 ≡ f) units → ⊥) (after : List Node) (place : ℕ) (entered : IsEntered now after (App e []) place) where
    more : (xs : List Node) × (after ≡ now ++ xs)
    more = elim entered.how [
      | inl e ↦ ([], e ∙ sym (append-nil now))
      | inr p ↦ (App e [] ∷ [], p.0)
    ]

    grown : length now ≤ length after
    grown = let n = ap length more.1 ∙ length-append now more.0 in omega arith

    entry_kept : (p : OpId × ℕ) → IsEntry d before now p → IsEntry d before after p
    entry_kept p h = record {
      within = let l = h.within in let g = grown in omega arith;
      place = h.place;
      arguments = h.arguments;
      heads = h.heads;
      constant_of = h.constant_of;
      identity = h.identity;
      is = ap (λ ns. term_at ns p.1) more.1 ∙ term_at-more now more.0 p.1 h.within ∙ h.is;
    }

    entry_new : IsEntry d before after (f, place)
    entry_new = record {
      within = entered_within now nodes (App e []) (All-nil (λ k. k < length now)) after place entered;
      place = m;
      arguments = ks;
      heads = over;
      constant_of = e;
      identity = is;
      is = entered_term now nodes (App e []) (All-nil (λ k. k < length now)) after place entered;
    }

    pub units_more : AreUnitsOf d (m + 1) before after (units ++ (f, place) ∷ [])
    units_more = record {
      rest = are.rest ++ more.0;
      nodes = more.1 ∙ ap (λ ns. ns ++ more.0) are.nodes ∙ append_assoc before are.rest more.0;
      entries = All-push (IsEntry d before after) units (f, place) (All-weaker (IsEntry d before now) (IsEntry d before after) entry_kept units are.entries) entry_new;
      all = λ i g o ls l there named. elim (cases_lt i m) [
        | inl lt ↦ any_left (λ p. p.0 ≡ g) units ((f, place) ∷ []) (are.all i g o ls lt there named)
        | inr ge ↦
            let at : i ≡ m = omega arith in
            let node : App f ks ≡ App g ls = same_some (App f ks) (App g ls) (sym over ∙ ap (slice_get before) (sym at) ∙ there) in
            let one : f ≡ g = cc in
            any_last (λ p. p.0 ≡ g) units (f, place) one
      ];
      once = λ i j x lt within.
          let n = length_push units (f, place) in
          let first = get_or_append_left units ((f, place) ∷ []) x i (omega arith) in
          elim (cases_lt j (length units)) [
            | inl l ↦ λ same. are.once i j x lt l (ap (λ p. p.0) (sym first) ∙ same ∙ ap (λ p. p.0) (get_or_append_left units ((f, place) ∷ []) x j l))
            | inr g ↦ λ same.
                let at : length units ≡ j = omega arith in
                let last = get_or_push units (f, place) x j at in
                let p = get_or units i x in
                unlisted (i, p, omega arith, get_or_default units i p x (omega arith), ap (λ p. p.0) (sym first) ∙ same ∙ ap (λ p. p.0) last)
          ];
      covers = λ i l within. elim (cases_lt i (length now)) [
        | inl lt ↦ any_left (λ p. p.1 ≡ i) units ((f, place) ∷ []) (are.covers i l lt)
        | inr ge ↦ elim entered.how [
          | inl same ↦ absurd (let q = ap length same in omega arith)
          | inr p ↦
              let q = ap length p.0 ∙ length_push now (App e []) in
              let last : i ≡ length now = omega arith in
              any_last (λ p. p.1 ≡ i) units (f, place) (entered_last now nodes (App e []) (All-nil (λ k. k < length now)) after place entered p.0 p.1 ∙ sym last)
        ]
      ];
    }

  -- after a look at the node at m
  module _ (m : ℕ) (before now : List Node) (units : List (OpId × ℕ)) (are : AreUnitsOf d m before now units) (n : Node) (at : slice_get before m ≡ Some n) where
    pub kept_at : IsNewUnit d units n None → AreUnitsOf d (m + 1) before now units
    kept_at found = units_kept m before now units are (λ f e ks over is. found f e ks (same_some n (App f ks) (sym at ∙ over)) is)

    pub more_at : (p : OpId × OpId) → IsNewUnit d units n (Some p) → AreNodes now → (after : List Node) (place : ℕ) → IsEntered now after (App p.1 []) place → AreUnitsOf d (m + 1) before after (units ++ (p.0, place) ∷ [])
    more_at p found nodes after place entered =
        units_more m before now units are nodes p.0 p.1 found.0.0 (at ∙ ap Some found.0.1) found.1 found.2 after place entered
