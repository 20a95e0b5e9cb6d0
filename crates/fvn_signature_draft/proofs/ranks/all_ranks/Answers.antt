-- The ranks of all operators, with one operator more.
use Rattle.std.proofs.Common.{◌≡◌, ◌<◌, ◌≤◌, ◌⊎◌, inl, inr, [], ap, sym, ◌∙◌, arith, length, get_or, map, ℕ}
use Rattle.std.specs.List.{range_with_len}
use Rattle.std.proofs.lemmas.Bool.{cases_lt}
use Rattle.std.proofs.lemmas.List.{get_or_past}
use Rattle.std.proofs.lemmas.List.FromFn.{map-range_with_len_more, length-map-range_with_len, get_or-map-range_with_len}
use Rattle.fvn_terms.specs.declared.plain.OpId.{OpId}
use Rattle.fvn_terms.specs.declared.declarations.Declarations.{Declarations}
use Rattle.fvn_forms.specs.Ranks.{ranks_of}
use Rattle.fvn_signature_draft.specs.Collected.{op_number}
use Rattle.fvn_signature_draft.proofs.Serving.{ranks_of-unknown}
use Rattle.fvn_signature_draft.proofs.ranks.all_ranks.Goals as goal

pub loop-op-preserved : goal.loop-op-preserved
loop-op-preserved c =
    let more = map-range_with_len_more (λ n. ranks_of c.args.declarations.now (op_number n)) 0 c.loop-op.op c.loop-op.op (omega arith) in
    rw (c.in_ok-push.ensures.items, c.loop-op.invariant, c.from_vec.ensures, c.in_ok-ranks_of.ensures) (sym more)

-- the list of all operators' ranks has those of each
listed : (d : Declarations) (n : ℕ) → length d.ops ≡ n → (f : OpId) → get_or (map (λ k. ranks_of d (op_number k)) (range_with_len 0 n)) f.0 [] ≡ ranks_of d f
listed d n h f = go (cases_lt f.0 n) where
  go : (f.0 < n) ⊎ (n ≤ f.0) → get_or (map (λ k. ranks_of d (op_number k)) (range_with_len 0 n)) f.0 [] ≡ ranks_of d f
  go (inl l) = get_or-map-range_with_len (λ k. ranks_of d (op_number k)) 0 n f.0 f.0 [] l (omega arith)
  go (inr l) = get_or_past (map (λ k. ranks_of d (op_number k)) (range_with_len 0 n)) f.0 [] (let e = length-map-range_with_len (λ k. ranks_of d (op_number k)) 0 n in omega arith) ∙ sym (ranks_of-unknown d f (omega arith))

pub returns : goal.returns
returns c f =
    let at_end : c.loop-op.op ≡ c.args.operators = omega arith in
    ap (λ l. get_or l f.0 []) (c.loop-op.invariant ∙ ap (λ n. map (λ k. ranks_of c.args.declarations.now (op_number k)) (range_with_len 0 n)) at_end) ∙ listed c.args.declarations.now c.args.operators c.requires f
