-- The ranks that serve an operator, one at a time.
use Rattle.std.proofs.Common.{◌≡◌, ◌≤◌, List, [], ◌∷◌, ◌++◌, map, length, get_or, refl, sym, ap, ◌∙◌, arith, append_assoc}
use Rattle.std.proofs.lemmas.List.{append-nil, get_or_past}
use Rattle.fvn_terms.specs.declared.plain.OpId.{OpId}
use Rattle.fvn_terms.specs.declared.plain.SortId.{SortId}
use Rattle.fvn_terms.specs.declared.declarations.Rank.{Rank}
use Rattle.fvn_terms.specs.declared.declarations.OpDecl.{OpDecl}
use Rattle.fvn_terms.specs.declared.declarations.Declarations.{Declarations}
use Rattle.fvn_terms.specs.Signature.{declared, unknown}
use Rattle.fvn_forms.specs.Ranks.{kind_rank, swaps, swapped_args, swapped_ranks, ranks_of}

-- the swapped ranks, one rank at a time
pub swapped_ranks-push : (rs : List Rank) (r : Rank) → swapped_ranks (rs ++ r ∷ []) ≡ swapped_ranks rs ++ swapped_args r.args r.result
swapped_ranks-push [] r = append-nil (swapped_args r.args r.result)
swapped_ranks-push (t ∷ rs) r = ap (λ l. swapped_args t.args t.result ++ l) (swapped_ranks-push rs r) ∙ sym (append_assoc (swapped_args t.args t.result) (swapped_ranks rs) (swapped_args r.args r.result))

pub swapped_args-other : (ss : List SortId) (r : SortId) → (length ss ≡ 2 → ⊥) → swapped_args ss r ≡ []
swapped_args-other [] r h = refl
swapped_args-other (s ∷ []) r h = refl
swapped_args-other (s ∷ q ∷ []) r h = absurd (h refl)
swapped_args-other (s ∷ q ∷ u ∷ us) r h = refl

pub swapped_args-two : (ss : List SortId) (r d : SortId) → length ss ≡ 2 → swapped_args ss r ≡ record { args = get_or ss 1 d ∷ get_or ss 0 d ∷ []; result = r } ∷ []
swapped_args-two [] r d h = absurd (omega arith)
swapped_args-two (s ∷ []) r d h = absurd (omega arith)
swapped_args-two (s ∷ q ∷ []) r d h = refl
swapped_args-two (s ∷ q ∷ u ∷ us) r d h = absurd (omega arith)

-- the same for what is left of a list of ranks
pub ranks_of-unknown : (d : Declarations) (f : OpId) → length d.ops ≤ f.0 → ranks_of d f ≡ []
ranks_of-unknown d f l =
    let e : declared d f ≡ unknown = get_or_past d.ops f.0 unknown l in
    ap (λ (o : OpDecl). (o.ranks ++ map (kind_rank d) o.ranks) ++ swaps o.axioms (o.ranks ++ map (kind_rank d) o.ranks)) e
