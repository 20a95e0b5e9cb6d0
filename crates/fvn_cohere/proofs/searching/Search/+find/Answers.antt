-- One variable, and one shape for it.
use Rattle.std.proofs.Common.{◌+◌, drop, sym, ap, ◌∙◌, arith, subst}
use Rattle.std.specs.List.{list_any, Contains}
use Rattle.std.proofs.lemmas.List.Elements.{Contains-get_or}
use Rattle.fvn_terms.specs.Plain.{term}
use Rattle.fvn_cohere.specs.inner.Searching.{shapes_by, is_met, with_shape, some_choice}
use Rattle.fvn_cohere.proofs.Sifting.{last_choice, one_variable}
use Rattle.fvn_cohere.proofs.Hopeless.{allowed_more, entry_allowed}
use Rattle.fvn_cohere.proofs.searching.Search.+find.Goals as goal

pub find-bounds-all-from : goal.find-bounds-all-from
find-bounds-all-from t c = omega (arith, c.requires.within, c.if-from-all.false)

pub find-is_met-requires : goal.find-is_met-requires
find-is_met-requires t c = record { left = c.requires.posed.left_term; right = c.requires.posed.right_term }

pub find-is_hopeless-requires : goal.find-is_hopeless-requires
find-is_hopeless-requires t c = record { within = omega (arith, c.requires.within, c.if-from-all.false); posed = c.requires.posed; allowed = c.requires.allowed }

pub find-find_for-requires : goal.find-find_for-requires
find-find_for-requires t c =
    let s = c.args.self.now in (
      omega (arith, c.requires.within, c.if-from-all.false),
      (
        omega (arith, c.requires.within, c.if-from-all.false),
        (
          c.requires.posed,
          (
            c.requires.allowed,
            λ o i.
                entry_allowed s.sig.now s.unchosen.now c.requires.posed.offers c.args.from c.index-all-from.result (omega (arith, c.requires.within, c.if-from-all.false)) c.index-all-from.is o
                (subst (λ l. Contains l o) c.as_slice.ensures i),
          ),
        ),
      ),
    )

pub find-returns-then-from-all : goal.find-returns-then-from-all
find-returns-then-from-all t c =
    let s = c.args.self.now in
    c.is_met.ensures ∙ last_choice (is_met s.sig.now s.sought s.identities.now (term s.left.now) (term s.right.now)) s.unchosen.now c.args.from (shapes_by c.args.chosen.now) c.if-from-all.true

pub find-returns-then-is_hopeless : goal.find-returns-then-is_hopeless
find-returns-then-is_hopeless t c = sym (c.is_hopeless.ensures c.if-is_hopeless.true)

pub find-returns : goal.find-returns
find-returns t c =
    let s = c.args.self.now in
    let test = is_met s.sig.now s.sought s.identities.now (term s.left.now) (term s.right.now) in
    c.find_for.ensures
    ∙ ap (list_any (λ o. some_choice test (drop (c.args.from + 1) s.unchosen.now) (with_shape (shapes_by c.args.chosen.now) c.index-all-from.result.0 o))) c.as_slice.ensures
    ∙ one_variable test s.unchosen.now c.args.from (shapes_by c.args.chosen.now) c.index-all-from.result (omega (arith, c.requires.within, c.if-from-all.false)) c.index-all-from.is

pub find_for-find-requires : goal.find_for-find-requires
find_for-find-requires t c = (
  omega (arith, c.requires.within),
  (
    omega (arith, c.requires.within),
    (c.requires.posed, allowed_more c.args.self.now.sig.now (shapes_by c.args.chosen.now) c.args.x _ c.requires.allowed (c.requires.shapes _ (Contains-get_or c.args.shapes.now c.loop-o.o-index _ c.loop-o-test.true))),
  ),
)
