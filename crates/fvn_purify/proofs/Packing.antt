-- Terms of nodes, one after another.
use Rattle.std.proofs.Common.{◌≡◌, ℕ, ◌+◌, ◌<◌, List, [], ◌∷◌, ◌++◌, map, length, take, get_or, refl, sym, ap, ◌∙◌}
use Rattle.std.proofs.lemmas.List.{take_more}
use Rattle.fvn_terms.specs.declared.plain.Plain.{Plain}
use Rattle.fvn_terms.specs.Term.{Term, more, pack}
use Rattle.fvn_terms.specs.Plain.{term, terms}
use Rattle.fvn_terms.proofs.Plains.{push, terms-push}
use Rattle.fvn_combine_nodes.specs.Table.{term_at}
use Rattle.fvn_combine_nodes.specs.declared.table.Node.{Node}

pack_push : (ts : List Term) (t : Term) → pack (ts ++ t ∷ []) ≡ push (pack ts) t
pack_push [] t = refl
pack_push (u ∷ ts) t = ap (more u) (pack_push ts t)

map_push : (f : ℕ → Term) (xs : List ℕ) (x : ℕ) → map f (xs ++ x ∷ []) ≡ map f xs ++ f x ∷ []
map_push f [] x = refl
map_push f (y ∷ xs) x = ap (λ ts. f y ∷ ts) (map_push f xs x)

-- one more term of a node
pub next_terms : (nodes : List Node) (ks : List ℕ) (i : ℕ) (items : List Plain) (t : Plain) → terms items ≡ pack (map (term_at nodes) (take i ks)) → i < length ks → term t ≡ term_at nodes (get_or ks i 0) → terms (items ++ t ∷ []) ≡ pack (map (term_at nodes) (take (i + 1) ks))
next_terms nodes ks i items t so_far within is =
    let front = take i ks in
    let k = get_or ks i 0 in
    terms-push items t
    ∙ ap (λ l. push l (term t)) so_far
    ∙ ap (push (pack (map (term_at nodes) front))) is
    ∙ sym (pack_push (map (term_at nodes) front) (term_at nodes k))
    ∙ ap pack (sym (map_push (term_at nodes) front k))
    ∙ ap (λ l. pack (map (term_at nodes) l)) (sym (take_more ks i 0 within))
