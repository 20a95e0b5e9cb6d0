-- One more node.
use Rattle.std.proofs.Common.{◌≡◌, ℕ, ◌+◌, ◌%◌, ◌<◌, length, get_or, set, refl, sym, ap, ◌∙◌, subst, arith}
use Rattle.std.proofs.lemmas.Nat.{mod_below}
use Rattle.std.proofs.lemmas.List.{length-set, get_or_default}
use Rattle.fvn_combine_tree.proofs.Chaining.{IsLast, IsBefore, last_more, before_more}
use Rattle.fvn_combine_tree.proofs.chains.Chains.link.Goals as goal

pub loop-i-init : goal.loop-i-init
loop-i-init c = record { room = c.requires.room; keys = refl; last = λ j l. absurd (omega arith); before = λ q j l. absurd (omega arith) }

pub loop-i-preserved : goal.loop-i-preserved
loop-i-preserved c =
    let now = c.loop-i.self in
    let room = c.loop-i.invariant.room in
    let count = c.args.count in
    let keys = now.keys.items in
    let i = c.loop-i.i in
    let t : i < count = c.loop-i-test.true in
    let slot : ℕ = get_or keys i 0 % count in
    let within : slot < count = mod_below (get_or keys i 0) count (omega arith) in
    let key : c.index.result.now ≡ get_or keys i 0 = c.index.ensures ∙ get_or_default keys i c.index.result.now 0 (let n = room.keys in omega arith) in
    let at : c.index.result.now % count ≡ slot = ap (λ n. n % count) key in
    let found : c.index-last.result.now ≡ get_or now.last.items slot 0 = c.index-last.ensures ∙ ap (λ n. get_or now.last.items n c.index-last.result.now) at ∙ get_or_default now.last.items slot c.index-last.result.now 0 (let n = room.last in omega arith) in
    let before : c.put.new.list.items ≡ set now.before.items i (get_or now.last.items slot 0) = c.put.ensures ∙ ap (set now.before.items i) found in
    let last : c.put-in-loop-i.new.list.items ≡ set now.last.items slot (i + 1) = c.put-in-loop-i.ensures ∙ ap (λ n. set now.last.items n (i + 1)) at in
    record {
      room = record { keys = room.keys; last = ap length last ∙ length-set now.last.items slot (i + 1) ∙ room.last; before = ap length before ∙ length-set now.before.items i (get_or now.last.items slot 0) ∙ room.before };
      keys = c.loop-i.invariant.keys;
      last = subst (IsLast count (i + 1) keys) (sym last) (last_more count i keys now.last.items now.before.items t room.last c.loop-i.invariant.last);
      before = subst (IsBefore (i + 1) keys) (sym before) (before_more count i keys now.last.items now.before.items t room.before c.loop-i.invariant.last c.loop-i.invariant.before);
    }
