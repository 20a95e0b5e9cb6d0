-- Drafts that grow along terms.
use Rattle.std.proofs.Common.{◌≡◌, ℕ, zero, suc, ◌+◌, ◌<◌, ◌≤◌, List, [], ◌∷◌, ◌++◌, length, map, get_or, set, take, refl, sym, ap, ◌∙◌, subst, inl, inr, arith, All}
use Rattle.std.proofs.lemmas.List.{append-nil, append_assoc, length-append, length_push, map-append, set_at, take_more, map_push}
use Rattle.std.proofs.lemmas.List.Elements.{All-append, All-weaker, All-cons, Contains-append_left, Contains-append_right}
use Rattle.std.proofs.lemmas.Bool.{cases_lt}
use Rattle.fvn_terms.specs.declared.plain.Plain.{Plain}
use Rattle.fvn_terms.specs.Term.{Term, Terms, none, more, pack, nodes, nodes_all}
use Rattle.fvn_terms.specs.Plain.{term, terms}
use Rattle.fvn_terms.proofs.Plains.{push, terms-push}
use Rattle.fvn_flat.specs.Problems.{subterms, subterms_among}
use Rattle.fvn_combine_nodes.specs.Table.{term_at}
use Rattle.fvn_combine_nodes.specs.declared.table.Node.{Node}
use Rattle.fvn_combine_tree.specs.declared.building.Draft.{Draft}
use Rattle.fvn_combine_tree.specs.inner.Drafts.{AreNodes, IsEntered, HasWalked}
use Rattle.fvn_combine_nodes.proofs.Nodes.{terms-more, term_at-more}
use Rattle.fvn_combine_tree.proofs.Entering.{HasArguments, term_of, entered_nodes, entered_within, entered_last, entered_term}

pub walked-none : (a : Draft) → HasWalked a a []
walked-none a = record {
  rest = [];
  nodes = sym (append-nil a.nodes.items);
  steps = [];
  walk = sym (append-nil a.walk.items);
  within = λ k d h. absurd (omega arith);
  shows = refl;
  covers = λ i l m. absurd (omega arith);
}

module _ (a b : Draft) (ts : List Term) (w : HasWalked a b ts) where
  pub walked_length : length b.nodes.items ≡ length a.nodes.items + length w.rest
  walked_length = ap length w.nodes ∙ length-append a.nodes.items w.rest

  -- nodes that were there keep their terms
  pub walked_term : (i : ℕ) → i < length a.nodes.items → term_at b.nodes.items i ≡ term_at a.nodes.items i
  walked_term i h = ap (λ ns. term_at ns i) w.nodes ∙ term_at-more a.nodes.items w.rest i h

  pub walked_terms : (ks : List ℕ) → All (λ k. k < length a.nodes.items) ks → map (term_at b.nodes.items) ks ≡ map (term_at a.nodes.items) ks
  walked_terms ks h = ap (λ ns. map (term_at ns) ks) w.nodes ∙ terms-more a.nodes.items w.rest ks h

  pub walked_within : (ks : List ℕ) → All (λ k. k < length a.nodes.items) ks → All (λ k. k < length b.nodes.items) ks
  walked_within ks h = All-weaker (λ k. k < length a.nodes.items) (λ k. k < length b.nodes.items) (λ k l. let e = walked_length in omega (arith, e)) ks h

-- one walk after another
pub walked-then : (a b c : Draft) (ts us : List Term) → HasWalked a b ts → HasWalked b c us → HasWalked a c (ts ++ us)
walked-then a b c ts us p q =
    let first : All (λ k. k < length c.nodes.items) p.steps = walked_within b c us q p.steps p.within in
    record {
      rest = p.rest ++ q.rest;
      nodes = q.nodes ∙ ap (λ ns. ns ++ q.rest) p.nodes ∙ append_assoc a.nodes.items p.rest q.rest;
      steps = p.steps ++ q.steps;
      walk = q.walk ∙ ap (λ ns. ns ++ q.steps) p.walk ∙ append_assoc a.walk.items p.steps q.steps;
      within = All-append (λ k. k < length c.nodes.items) p.steps q.steps first q.within;
      shows =
          map-append (term_at c.nodes.items) p.steps q.steps
          ∙ ap (λ l. l ++ map (term_at c.nodes.items) q.steps) (walked_terms b c us q p.steps p.within ∙ p.shows)
          ∙ ap (λ l. ts ++ l) q.shows;
      covers = λ i l m. elim (cases_lt i (length b.nodes.items)) [
        | inl lt ↦ Contains-append_left p.steps q.steps i (p.covers i l lt)
        | inr ge ↦ Contains-append_right p.steps q.steps i (q.covers i ge m)
      ];
    }

-- a walk that begins at a place that is filled in at its end
module _ (before begun after : Draft) (ts : List Term) (now : List Node) (n : Node) (t : Term) (place : ℕ) (begun_nodes : begun.nodes.items ≡ before.nodes.items) (begun_walk : begun.walk.items ≡ before.walk.items ++ 0 ∷ []) (w : HasWalked begun after ts)
    (are : AreNodes after.nodes.items) (arguments : HasArguments after.nodes.items n) (entered : IsEntered after.nodes.items now n place) (is : term_at now place ≡ t) where
  -- the nodes that are new with n
  rest_with : (xs : List Node) × (now ≡ after.nodes.items ++ xs)
  rest_with = elim entered.how [
    | inl e ↦ ([], e ∙ sym (append-nil after.nodes.items))
    | inr p ↦ (n ∷ [], p.0)
  ]

  pub walked-under : (final : Draft) → final.nodes.items ≡ now → final.walk.items ≡ set after.walk.items (length before.walk.items) place → HasWalked before final (t ∷ ts)
  walked-under final nodes walk =
      let more = rest_with in
      let grown : length now ≡ length after.nodes.items + length more.0 = ap length more.1 ∙ length-append after.nodes.items more.0 in
      let there : place < length now = entered_within after.nodes.items are n arguments now place entered in
      let kept : All (λ k. k < length now) w.steps = All-weaker (λ k. k < length after.nodes.items) (λ k. k < length now) (λ k l. omega (arith, grown)) w.steps w.within in
      record {
        rest = w.rest ++ more.0;
        nodes = nodes ∙ more.1 ∙ ap (λ ns. ns ++ more.0) (w.nodes ∙ ap (λ ns. ns ++ w.rest) begun_nodes) ∙ append_assoc before.nodes.items w.rest more.0;
        steps = place ∷ w.steps;
        walk =
            walk
            ∙ ap (λ ns. set ns (length before.walk.items) place) (w.walk ∙ ap (λ ns. ns ++ w.steps) begun_walk ∙ append_assoc before.walk.items (0 ∷ []) w.steps)
            ∙ set_at before.walk.items 0 w.steps place (length before.walk.items) refl;
        within = subst (λ ns. All (λ k. k < length ns) (place ∷ w.steps)) (sym nodes) (All-cons (λ k. k < length now) place w.steps there kept);
        shows =
            ap (λ ns. map (term_at ns) (place ∷ w.steps)) nodes
            ∙ ap (λ u. u ∷ map (term_at now) w.steps) is
            ∙ ap (λ us. t ∷ us) (ap (λ ns. map (term_at ns) w.steps) more.1 ∙ terms-more after.nodes.items more.0 w.steps w.within ∙ w.shows);
        covers = λ i l m. elim (cases_lt i (length after.nodes.items)) [
          | inl lt ↦ (let c = w.covers i (let b = ap length begun_nodes in omega (arith, b)) lt in Contains-append_right (place ∷ []) w.steps i c)
          | inr ge ↦ elim entered.how [
            | inl e ↦ absurd (let q = ap length (nodes ∙ e) in omega (arith, q))
            | inr p ↦
                let q = ap length (nodes ∙ p.0) in
                let r = length_push after.nodes.items n in
                let last : i ≡ length after.nodes.items = omega (arith, q, r) in
                (0, omega arith, entered_last after.nodes.items are n arguments now place entered p.0 p.1 ∙ sym last)
          ]
        ];
      }

-- what stands after a term was walked through and noted
pub record IsNoted (before final : Draft) (ts : List Term) (t : Term) (place : ℕ) : Type 0 where
  pub nodes : AreNodes final.nodes.items
  pub walked : HasWalked before final (t ∷ ts)
  pub within : place < length final.nodes.items
  pub is : term_at final.nodes.items place ≡ t

pub noted : (before begun after final : Draft) (ts : List Term) (n : Node) (t : Term) (place start : ℕ) → begun.nodes.items ≡ before.nodes.items → begun.walk.items ≡ before.walk.items ++ 0 ∷ [] → start ≡ length before.walk.items → HasWalked begun after ts → AreNodes after.nodes.items → HasArguments after.nodes.items n →
    IsEntered after.nodes.items final.nodes.items n place → final.walk.items ≡ set after.walk.items start place → term_of after.nodes.items n ≡ t → IsNoted before final ts t place
noted before begun after final ts n t place start same_nodes one_step at w are arguments entered written whole =
    let is = entered_term after.nodes.items are n arguments final.nodes.items place entered ∙ whole in
    record {
      nodes = entered_nodes after.nodes.items are n arguments final.nodes.items place entered;
      walked = walked-under before begun after ts final.nodes.items n t place same_nodes one_step w are arguments entered is final refl (written ∙ ap (λ k. set after.walk.items k place) at);
      within = entered_within after.nodes.items are n arguments final.nodes.items place entered;
      is = is;
    }

pub pack-push : (ts : List Term) (u : Term) → pack (ts ++ u ∷ []) ≡ push (pack ts) u
pack-push [] u = refl
pack-push (t ∷ ts) u = ap (more t) (pack-push ts u)

subterms_among-push : (ts : Terms) (u : Term) → subterms_among (push ts u) ≡ subterms_among ts ++ subterms u
subterms_among-push none u = append-nil (subterms u)
subterms_among-push (more t ts) u = ap (λ l. subterms t ++ l) (subterms_among-push ts u) ∙ sym (append_assoc (subterms t) (subterms_among ts) (subterms u))

-- one more of the terms of a list
module _ (items : List Plain) (i : ℕ) (u : Plain) (within : i < length items) (is : u ≡ get_or items i u) where
  terms-more_items : terms (take (i + 1) items) ≡ push (terms (take i items)) (term u)
  terms-more_items = ap terms (take_more items i u within) ∙ ap (λ v. terms (take i items ++ v ∷ [])) (sym is) ∙ terms-push (take i items) u

  pub subterms_among-more : subterms_among (terms (take (i + 1) items)) ≡ subterms_among (terms (take i items)) ++ subterms (term u)
  subterms_among-more = ap subterms_among terms-more_items ∙ subterms_among-push (terms (take i items)) (term u)

  -- one more place
  pub places-more : (a b : Draft) → HasWalked a b (subterms (term u)) → (ks : List ℕ) (place : ℕ) → All (λ k. k < length a.nodes.items) ks → pack (map (term_at a.nodes.items) ks) ≡ terms (take i items) → term_at b.nodes.items place ≡ term u →
      pack (map (term_at b.nodes.items) (ks ++ place ∷ [])) ≡ terms (take (i + 1) items)
  places-more a b w ks place h so_far one =
      ap pack (map_push (term_at b.nodes.items) ks place)
      ∙ pack-push (map (term_at b.nodes.items) ks) (term_at b.nodes.items place)
      ∙ ap (λ ts. push (pack ts) (term_at b.nodes.items place)) (walked_terms a b (subterms (term u)) w ks h)
      ∙ ap (λ ts. push ts (term_at b.nodes.items place)) so_far
      ∙ ap (push (terms (take i items))) one
      ∙ sym terms-more_items

-- an argument has no more nodes than all arguments
pub nodes-argument : (items : List Plain) (i : ℕ) (u : Plain) → i < length items → u ≡ get_or items i u → nodes (term u) ≤ nodes_all (terms items)
nodes-argument [] i u h is = absurd (omega arith)
nodes-argument (t ∷ ts) zero u h is = let e = ap (λ v. nodes (term v)) is in omega (arith, e)
nodes-argument (t ∷ ts) (suc i) u h is = let r = nodes-argument ts i u (omega arith) is in omega (arith, r)
