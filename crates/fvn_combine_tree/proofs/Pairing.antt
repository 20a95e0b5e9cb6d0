-- Drafts that grow along pairs.
use Rattle.std.proofs.Common.{◌≡◌, ℕ, ◌+◌, ◌<◌, List, [], ◌∷◌, ◌++◌, length, map, get_or, take, refl, sym, ap, ◌∙◌, subst, arith, All}
use Rattle.std.proofs.lemmas.List.{append-nil, append_assoc, take_more, map_push}
use Rattle.std.proofs.lemmas.List.Elements.{All-nil, All-push, All-weaker, All-head, All-tail}
use Rattle.fvn_terms.specs.Term.{Term}
use Rattle.fvn_terms.specs.Unifiers.{Problem}
use Rattle.fvn_forms.specs.Flat.{FlatTerm, plain}
use Rattle.fvn_flat.specs.Problems.{subterms, subterms_of, plain_pairs}
use Rattle.fvn_combine_nodes.specs.Table.{term_at}
use Rattle.fvn_combine_nodes.specs.declared.table.Node.{Node}
use Rattle.fvn_combine_tree.specs.declared.building.Draft.{Draft}
use Rattle.fvn_combine_tree.specs.inner.Drafts.{HasWalked, AreSides}
use Rattle.fvn_combine_tree.proofs.Walking.{walked_length, walked_term, walked-then}

subterms_of-push : (problem : Problem) (p : Term × Term) → subterms_of (problem ++ p ∷ []) ≡ subterms_of problem ++ (subterms p.0 ++ subterms p.1)
subterms_of-push [] p = append-nil (subterms p.0 ++ subterms p.1)
subterms_of-push (q ∷ problem) p =
    ap (λ l. (subterms q.0 ++ subterms q.1) ++ l) (subterms_of-push problem p)
    ∙ sym (append_assoc (subterms q.0 ++ subterms q.1) (subterms_of problem) (subterms p.0 ++ subterms p.1))

-- one more pair
module _ (pairs : List (FlatTerm × FlatTerm)) (i : ℕ) (p : FlatTerm × FlatTerm) (within : i < length pairs) (is : p ≡ get_or pairs i p) where
  pairs_more : plain_pairs (take (i + 1) pairs) ≡ plain_pairs (take i pairs) ++ (plain p.0, plain p.1) ∷ []
  pairs_more =
      ap plain_pairs (take_more pairs i p within)
      ∙ map_push (λ q. (plain q.0, plain q.1)) (take i pairs) (get_or pairs i p)
      ∙ ap (λ q. plain_pairs (take i pairs) ++ (plain q.0, plain q.1) ∷ []) (sym is)

  -- the walk goes on along both sides
  pub walked_pair : (a b c e : Draft) → HasWalked a b (subterms_of (plain_pairs (take i pairs))) → HasWalked b c (subterms (plain p.0)) → HasWalked c e (subterms (plain p.1)) → HasWalked a e (subterms_of (plain_pairs (take (i + 1) pairs)))
  walked_pair a b c e so_far left right =
      subst (HasWalked a e) (sym (ap subterms_of pairs_more ∙ subterms_of-push (plain_pairs (take i pairs)) (plain p.0, plain p.1)))
      (walked-then a b e (subterms_of (plain_pairs (take i pairs))) (subterms (plain p.0) ++ subterms (plain p.1)) so_far (walked-then b c e (subterms (plain p.0)) (subterms (plain p.1)) left right))

  -- the sides of one more pair
  pub sides_pair : (b c e : Draft) → HasWalked b c (subterms (plain p.0)) → HasWalked c e (subterms (plain p.1)) → (sides : List (ℕ × ℕ)) → AreSides b.nodes.items sides (plain_pairs (take i pairs)) → (l r : ℕ) → l < length c.nodes.items → term_at c.nodes.items l ≡ plain p.0 → r < length e.nodes.items → term_at e.nodes.items r ≡ plain p.1 →
      AreSides e.nodes.items (sides ++ (l, r) ∷ []) (plain_pairs (take (i + 1) pairs))
  sides_pair b c e left right sides so_far l r l_within l_is r_within r_is =
      let more = walked-then b c e (subterms (plain p.0)) (subterms (plain p.1)) left right in
      let P : ℕ × ℕ → Type 0 = λ q. (q.0 < length b.nodes.items) × (q.1 < length b.nodes.items) in
      let Q : ℕ × ℕ → Type 0 = λ q. (q.0 < length e.nodes.items) × (q.1 < length e.nodes.items) in
      let grown = walked_length b e (subterms (plain p.0) ++ subterms (plain p.1)) more in
      let grown_last = walked_length c e (subterms (plain p.1)) right in
      let F : ℕ × ℕ → Term × Term = λ q. (term_at e.nodes.items q.0, term_at e.nodes.items q.1) in
      let left_is = walked_term c e (subterms (plain p.1)) right l l_within ∙ l_is in
      let last : F (l, r) ≡ (plain p.0, plain p.1) = λ k. (left_is k, r_is k) in
      record {
        within = All-push Q sides (l, r) (All-weaker P Q (λ q h. (let x = h.0 in omega (arith, grown), let x = h.1 in omega (arith, grown))) sides so_far.within) (omega (arith, grown_last), r_within);
        are =
            map_push F sides (l, r)
            ∙ ap (λ q. map F sides ++ q ∷ []) last
            ∙ ap (λ q. q ++ (plain p.0, plain p.1) ∷ []) (kept sides so_far.within ∙ so_far.are)
            ∙ sym pairs_more;
      }
    where
      kept : (qs : List (ℕ × ℕ)) → All (λ q. (q.0 < length b.nodes.items) × (q.1 < length b.nodes.items)) qs → map {B = Term × Term} (λ q. (term_at e.nodes.items q.0, term_at e.nodes.items q.1)) qs ≡ map {B = Term × Term} (λ q. (term_at b.nodes.items q.0, term_at b.nodes.items q.1)) qs
      kept [] h = refl
      kept (q ∷ qs) h =
          let P : ℕ × ℕ → Type 0 = λ q. (q.0 < length b.nodes.items) × (q.1 < length b.nodes.items) in
          let more = walked-then b c e (subterms (plain p.0)) (subterms (plain p.1)) left right in
          let w = All-head P q qs h in
          let x = walked_term b e (subterms (plain p.0) ++ subterms (plain p.1)) more q.0 w.0 in
          let y = walked_term b e (subterms (plain p.0) ++ subterms (plain p.1)) more q.1 w.1 in
          let F : ℕ × ℕ → Term × Term = λ q. (term_at e.nodes.items q.0, term_at e.nodes.items q.1) in
          let one : F q ≡ (term_at b.nodes.items q.0, term_at b.nodes.items q.1) = λ k. (x k, y k) in
          ap (λ v. v ∷ map F qs) one ∙ ap (λ l. (term_at b.nodes.items q.0, term_at b.nodes.items q.1) ∷ l) (kept qs (All-tail P q qs h))

pub no_sides : (nodes : List Node) → AreSides nodes [] []
no_sides nodes = record { within = All-nil (λ p. (p.0 < length nodes) × (p.1 < length nodes)); are = refl }
