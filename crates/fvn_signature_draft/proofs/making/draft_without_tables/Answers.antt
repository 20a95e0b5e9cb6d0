-- The draft of what was collected, with no tables yet.
use Rattle.std.proofs.Common.{◌≡◌, List, [], get_or, ◌≤◌, ◌<◌, sym, ap, ◌∙◌, arith, length, subst}
use Rattle.fvn_terms.specs.declared.plain.SortId.{SortId}
use Rattle.fvn_terms.specs.declared.declarations.Declarations.{Declarations}
use Rattle.std.specs.List.{All}
use Rattle.fvn_forms.specs.Good.{IsKinded}
use Rattle.fvn_signature_draft.specs.Collected.{kinds}
use Rattle.fvn_signature_draft.proofs.Parts.{parts_before-le}
use Rattle.fvn_signature_draft.proofs.Operators.{operators-long}
use Rattle.fvn_signature_draft.proofs.CompletedKinds.{kinds-long, completed-kinded}
use Rattle.fvn_signature_draft.proofs.making.draft_without_tables.Goals as goal

pub overflow_cast-total : goal.overflow_cast-total
overflow_cast-total c =
    let long = kinds-long c.args.collected.now in
    let le = parts_before-le c.args.collected.now c.args.collected.now.sorts in
    let all : length c.in_ok-list.list.items ≡ length (kinds c.args.collected.now) = ap length c.in_ok-list.ensures in
    omega arith

pub all_ranks-requires : goal.all_ranks-requires
all_ranks-requires c = ap (λ (d : Declarations). length d.ops) c.in_ok-declarations.ensures ∙ operators-long c.args.collected.now

pub invariant_of-result : goal.invariant_of-result
invariant_of-result c =
    let e = c.in_ok-declarations.ensures in
    let all : length c.in_ok-list.list.items ≡ length (kinds c.args.collected.now) = ap length c.in_ok-list.ensures in
    record {
      sound = record {
        kinded = subst IsKinded (sym e) (completed-kinded c.args.collected.now c.requires.closed);
        in_range = subst (λ (d : Declarations). All (λ p. (p.0.0 < d.sorts) × (p.1.0 < d.sorts)) d.below) (sym e) c.requires.closed.below;
        few = subst (λ (d : Declarations). d.sorts ≤ 64) (sym e) c.requires.few;
        total = let k : length c.in_ok-declarations.declarations.kinds ≡ length (kinds c.args.collected.now) = ap (λ (d : Declarations). length d.kinds) e in omega arith;
        more = let long = kinds-long c.args.collected.now in let n : c.in_ok-declarations.declarations.sorts ≡ c.args.collected.now.sorts = ap (λ (d : Declarations). d.sorts) e in omega arith;
        words = rw (← c.as_slice.ensures) c.in_ok-words.ensures;
        ranks = c.in_ok-ranks.ensures;
        tables = λ f some. absurd (let none : length (get_or c.new.result.items f.0 []) ≡ 0 = ap (λ (l : List (List (List SortId))). length (get_or l f.0 [])) c.new.ensures.items in omega (arith, some));
      };
    }
