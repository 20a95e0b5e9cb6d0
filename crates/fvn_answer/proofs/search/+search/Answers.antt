-- The search of the numberings that begin alike.
use Rattle.std.proofs.Common.{◌≡◌, ◌≤◌, ◌+◌, length, refl, sym, ap, ◌∙◌, subst, arith}
use Rattle.fvn_answer.specs.Numberings.{IsNumbering}
use Rattle.fvn_answer.specs.Lines.{forms_in}
use Rattle.fvn_answer.specs.inner.Fronts.{IsAtMost}
use Rattle.fvn_answer.specs.inner.Shown.{shown, IsSearched, AreSearched}
use Rattle.fvn_answer.proofs.Least.{exchanged-length, exchanged-numbering}
use Rattle.fvn_answer.proofs.Searching.{searched-one, searched-front, searched-later, searched-all, searched-tip, searched-passed, searched-led, searched-tips}
use Rattle.fvn_answer.proofs.search.+search.Goals as goal
use Rattle.fvn_answer.proofs.search.+search.Goals.{search_tips-then-is_tried+in_ok-next+in_ok-search, search_tips-else-is_tried}

pub search-returns-then-order-k : goal.search-returns-then-order-k
search-returns-then-order-k t c =
    searched-one c.args.signature.now c.args.var_names.now.texts c.args.names.now (shown c.args.printed.now) c.args.order.now c.args.k c.args.best.now c.keep_lesser.new.best c.in_ok-line.line.items
    (omega (arith, c.if-order-k.true)) c.requires.numbering c.in_ok-line.ensures c.requires.best c.keep_lesser.ensures

pub search-returns-then-leads : goal.search-returns-then-leads
search-returns-then-leads t c =
    let few : length c.args.order.now ≤ 6 = c.requires.few in
    searched-led c.args.signature.now c.args.var_names.now.texts c.args.names.now (shown c.args.printed.now) c.args.printed.now refl c.requires.names c.requires.printed c.args.order.now c.args.k c.args.best.now c.search.new.best
    (omega (arith, few)) c.requires.numbering (omega (arith, c.if-order-k.false)) (c.leads.ensures c.if-leads.true) c.in_ok-search.ensures

pub search-returns-then-not-may_be_less : goal.search-returns-then-not-may_be_less
search-returns-then-not-may_be_less t c =
    let few : length c.args.order.now ≤ 6 = c.requires.few in
    searched-front c.args.signature.now c.args.var_names.now.texts c.args.names.now (shown c.args.printed.now) c.args.order.now c.args.k c.args.best.now c.in_ok-front.front
    (omega (arith, few)) c.requires.numbering c.requires.best c.in_ok-front.ensures
    (subst (IsAtMost c.args.best.now) c.as_slice.ensures.value (c.may_be_less.ensures.more c.if-not-may_be_less.true))

pub search-returns-then-not-may_be_less-2 : goal.search-returns-then-not-may_be_less-2
search-returns-then-not-may_be_less-2 t c =
    let d = c.args.signature.now in
    let names = c.args.names.now in
    let texts = c.args.var_names.now.texts in
    let it = shown c.args.printed.now in
    let few : length c.args.order.now ≤ 6 = c.requires.few in
    searched-later d texts names it c.args.order.now c.args.k c.args.best.now c.search_tips.new.best c.in_ok-front.front
    (omega (arith, few)) c.requires.numbering c.in_ok-front.ensures
    (subst (λ tips. AreSearched d texts names it c.args.order.now c.args.k tips c.args.best.now c.search_tips.new.best) c.as_slice-2.ensures.value c.in_ok-search_tips.ensures)
    (subst (IsAtMost c.search_tips.new.best) c.as_slice-3.ensures.value (c.may_be_less-2.ensures.more c.if-not-may_be_less-2.true))

pub search-returns : goal.search-returns
search-returns t c =
    searched-all c.args.signature.now c.args.var_names.now.texts c.args.names.now (shown c.args.printed.now) c.args.order.now c.args.k c.args.best.now c.search_tips.new.best c.search_tips-2.new.best
    (omega (arith, c.if-order-k.false)) c.requires.numbering c.in_ok-search_tips.ensures.keeps c.in_ok-search_tips-2.ensures

pub search_tips-search-requires : goal.search_tips-search-requires
search_tips-search-requires t c =
    let order = c.args.order.now in
    let next = c.in_ok-next.next.items in
    let k = c.args.k in
    let j = c.loop-j.j in
    let within = c.requires.within in
    let few = c.requires.few in
    let shown_next = c.as_slice.result.now in
    let is : shown_next ≡ next = c.as_slice.ensures.value in
    let long : length shown_next ≡ length order = ap length is ∙ exchanged-length order next k j within c.loop-j-test.true c.in_ok-next.ensures.items in (
      omega (arith, long, within),
      (
        c.requires.names,
        (
          c.requires.printed,
          (
            subst (IsNumbering (forms_in (shown c.args.printed.now))) (sym is)
                (exchanged-numbering (forms_in (shown c.args.printed.now)) order next k j within c.loop-j-test.true c.in_ok-next.ensures.items c.requires.numbering),
            (omega (arith, long, within), (omega (arith, long, few), c.loop-j.invariant.one)),
          ),
        ),
      ),
    )

pub search_tips-loop-j-preserved : goal.search_tips-loop-j-preserved
search_tips-loop-j-preserved t c =
    let d = c.args.signature.now in
    let names = c.args.names.now in
    let texts = c.args.var_names.now.texts in
    let it = shown c.args.printed.now in
    let order = c.args.order.now in
    elim c.if-is_tried.branch [
      | search_tips-then-is_tried+in_ok-next+in_ok-search w ↦ rw w.best-is
          (searched-tip d texts names it order w.in_ok-next.next.items c.args.tips.now c.args.k c.loop-j.j c.args.best.now c.loop-j.best w.search.new.best w.in_ok-next.ensures.by_index c.loop-j.invariant
          (subst (λ o. IsSearched d texts names it o (c.args.k + 1) c.loop-j.best w.search.new.best) w.as_slice.ensures.value w.in_ok-search.ensures))
      | search_tips-else-is_tried w ↦ rw w.best-is
          (searched-passed d texts names it c.args.printed.now refl c.requires.names c.requires.printed order c.args.tips.now c.args.k c.loop-j.j c.args.best.now c.loop-j.best
          (let few : length order ≤ 6 = c.requires.few in omega (arith, few)) c.requires.numbering c.loop-j-test.true (c.is_tried.ensures w.if-is_tried.false) c.loop-j.invariant)
    ]

pub search_tips-returns : goal.search_tips-returns
search_tips-returns t c =
    searched-tips c.args.signature.now c.args.var_names.now.texts c.args.names.now (shown c.args.printed.now) c.args.order.now c.args.tips.now c.args.k c.loop-j.j c.args.best.now c.loop-j.best
    c.requires.numbering c.requires.within c.loop-j-test.false c.loop-j.invariant
