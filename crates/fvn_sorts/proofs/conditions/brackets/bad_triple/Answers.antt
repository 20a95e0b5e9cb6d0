-- The first three sorts are the first pair after the first sort that has one.
use Rattle.std.proofs.Common.{◌≡◌, ℕ, ◌≤◌, inl, inr, subst, ap, refl, arith}
use Rattle.std.proofs.lemmas.Bool.{cases_lt}
use Rattle.fvn_terms.specs.declared.plain.OpId.{OpId}
use Rattle.fvn_terms.specs.declared.plain.SortId.{SortId}
use Rattle.fvn_terms.specs.declared.declarations.Declarations.{Declarations}
use Rattle.fvn_forms.specs.SortOrder.{sort_number}
use Rattle.fvn_sorts.specs.declared.conditions.brackets.Triple.{Triple}
use Rattle.fvn_sorts.specs.inner.Searches.{AreBad}
use Rattle.fvn_sorts.proofs.TwinLemmas.{twin_bad}
use Rattle.fvn_sorts.proofs.conditions.brackets.bad_triple.Goals as goal

-- three bad sorts, with the first by its number
at_first : (d : Declarations) (f : OpId) (k : SortId) (n : ℕ) (t : Triple) → t.first.0 ≡ n → AreBad d f k t → AreBad d f k record { first = sort_number n; second = t.second; third = t.third }
at_first d f k n t e h = subst (λ m. AreBad d f k record { first = sort_number m; second = t.second; third = t.third }) e h

pub loop-s-preserved-then-has_twin : goal.loop-s-preserved-then-has_twin
loop-s-preserved-then-has_twin c t l h = elim (cases_lt t.first.0 c.loop-s.s) [
  | inl m ↦ c.loop-s.invariant t m h
  | inr m ↦
      let d = c.args.draft.now.declarations in
      let w = c.if-has_twin.ensures refl in
      let same : t.first.0 ≡ c.loop-s.s = omega arith in
      c.loop-s.invariant record { first = w.0; second = t.second; third = t.third } w.1.0 (twin_bad d c.args.op c.args.draft.now.total (c.are_listed-listed.ensures c.if-listed.true) c.args.draft.now.sound.kinded c.args.draft.now.sound.total c.args.of c.requires.listed (sort_number c.loop-s.s) w t (ap sort_number same) h)
]

pub loop-s-preserved : goal.loop-s-preserved
loop-s-preserved c t l h = elim (cases_lt t.first.0 c.loop-s.s) [
  | inl m ↦ c.loop-s.invariant t m h
  | inr m ↦ c.in-None.ensures (t.second, t.third) (at_first c.args.draft.now.declarations c.args.op c.args.of c.loop-s.s t (let above : c.loop-s.s ≤ t.first.0 = m in omega arith) h)
]

pub returns-in-Some : goal.returns-in-Some
returns-in-Some c = (
  c.in-Some.ensures.0,
  λ b before h. elim before [
    | inl l ↦ c.loop-s.invariant b l h
    | inr p ↦ c.in-Some.ensures.1 (b.second, b.third) p.1 (at_first c.args.draft.now.declarations c.args.op c.args.of c.loop-s.s b p.0 h)
  ],
)
