-- The best text after the search.
use Rattle.std.proofs.Common.{sym, subst, ap, ◌∙◌, length, ◌≡◌, arith}
use Rattle.fvn_answer.specs.Numberings.{IsNumbering}
use Rattle.fvn_answer.specs.Lines.{forms_in}
use Rattle.fvn_answer.specs.inner.Shown.{shown}
use Rattle.fvn_answer.proofs.Least.{same-length}
use Rattle.fvn_answer.proofs.Searching.{least-found, least-none}
use Rattle.fvn_answer.proofs.search.least_text.Goals as goal

pub returns-in-Some : goal.returns-in-Some
returns-in-Some c =
    least-found c.args.signature.now c.args.var_names.now.texts c.args.names.now (shown c.args.printed.now) c.as_slice.result.now _ c.search.new.best c.in-Some.line c.in-Some.is c.in_ok-search.ensures

pub returns : goal.returns
returns c =
    least-none c.args.signature.now c.args.var_names.now.texts c.args.names.now (shown c.args.printed.now) c.as_slice.result.now _ c.search.new.best
    (subst (IsNumbering (forms_in (shown c.args.printed.now))) (sym c.as_slice.ensures.value) c.in_ok-first.ensures) c.in-None.is c.in_ok-search.ensures

pub search-requires : goal.search-requires
search-requires c =
    let order = c.args.order.now in
    let first = c.in_ok-first.first.items in
    let it = forms_in (shown c.args.printed.now) in
    let is : c.as_slice.result.now ≡ first = c.as_slice.ensures.value in
    let long : length c.as_slice.result.now ≡ length order = ap length is ∙ same-length it first order c.in_ok-first.ensures c.requires.numbering in
    let few = c.requires.few in
    record {
      names = c.requires.names;
      printed = c.requires.printed;
      numbering = subst (IsNumbering it) (sym is) c.in_ok-first.ensures;
      within = omega arith;
      few = omega (arith, long, few);
      best = tt;
    }
