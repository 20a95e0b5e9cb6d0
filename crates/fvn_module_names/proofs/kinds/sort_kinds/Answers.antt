-- A sort has the kind that is known for its label, or else a new one.
use Rattle.std.proofs.Common.{◌≡◌, ℕ, ◌<◌, length, get_or, Some, None, sym, subst, ◌∙◌, arith}
use Rattle.std.proofs.lemmas.List.{length-set, get_or_default}
use Rattle.fvn_signature_draft.specs.declared.collected.Collected.{Collected}
use Rattle.fvn_module_names.specs.inner.Classes.{label}
use Rattle.fvn_module_names.specs.inner.Numbering.{HasLabels, IsNumbered}
use Rattle.fvn_module_names.proofs.KindNumbers.{known_old, numbered_old, numbered_new}
use Rattle.fvn_module_names.proofs.kinds.sort_kinds.Goals as goal
use Rattle.fvn_module_names.proofs.kinds.sort_kinds.Goals.{in-Some+in_ok-push-in-Some, in-None+in_ok-push-in-None}

pub loop-label-preserved : goal.loop-label-preserved
loop-label-preserved c =
    let n : ℕ = c.loop-label.label-index in
    let l : ℕ = label c.args.labels.now n in
    let few : (order : Collected) → HasLabels order c.args.labels.now → n < order.sorts = λ order h. (let e = h.as_many in let t = c.loop-label-test.true in omega arith) in
    let within : l < length c.loop-label.known.items = (let r = c.requires n 0 c.loop-label-test.true in let e = c.loop-label.invariant.long in omega arith) in
    let read : c.index.result.now ≡ get_or c.loop-label.known.items l None = c.index.ensures ∙ get_or_default c.loop-label.known.items l c.index.result.now None within in
    elim c.match-index.branch [
      | in-Some+in_ok-push-in-Some w ↦
          let known : get_or c.loop-label.known.items l None ≡ Some w.in-Some.kind = sym read ∙ w.in-Some.is in
          record {
            bound = rw w.next-is (let b = c.loop-label.invariant.bound in omega arith);
            long = rw w.known-is c.loop-label.invariant.long;
            numbered = rw (w.kinds-is, w.in_ok-push-in-Some.ensures.items, w.next-is, w.known-is) (λ order h. let now = c.loop-label.invariant.numbered order h in (
              numbered_old order c.args.labels.now h c.loop-label.known.items c.loop-label.kinds.items c.loop-label.next n w.in-Some.kind (few order h) known now.1 now.0,
              known_old order c.args.labels.now h c.loop-label.known.items n w.in-Some.kind known now.1,
            ));
          }
      | in-None+in_ok-push-in-None w ↦
          let known : get_or c.loop-label.known.items l None ≡ None = sym read ∙ w.in-None.is in
          record {
            bound = rw w.next-is (let b = c.loop-label.invariant.bound in omega arith);
            long = rw w.known-is (length-set c.loop-label.known.items l (Some c.loop-label.next) ∙ c.loop-label.invariant.long);
            numbered = rw (w.kinds-is, w.in_ok-push-in-None.ensures.items, w.next-is, w.known-is) (λ order h. let now = c.loop-label.invariant.numbered order h in
                numbered_new order c.args.labels.now h c.loop-label.known.items c.loop-label.kinds.items c.loop-label.next n (few order h) within known now.1 now.0);
          }
    ]

pub returns : goal.returns
returns c order h =
    let all : c.loop-label.label-index ≡ order.sorts = (let e = h.as_many in let t = c.loop-label-test.false in let u = c.loop-label.auto.label-index-end in omega arith) in
    subst (IsNumbered order c.loop-label.kinds.items c.loop-label.next) all (c.loop-label.invariant.numbered order h).0
