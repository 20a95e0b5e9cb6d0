-- One more column.
use Rattle.std.proofs.Common.{◌≡◌, ◌≢◌, ℕ, ◌+◌, false, [], ◌∷◌, ◌++◌, length, get_or, sym, ap, ◌∙◌, subst, inl, inr, arith}
use Rattle.std.proofs.lemmas.Bool.{cases_lt}
use Rattle.std.specs.Prelude.{pos, Any}
use Rattle.std.proofs.lemmas.List.{length_push, get_or_append_left, get_or_push}
use Rattle.fvn_lindio.specs.Systems.{coefficients_of, rows_of}
use Rattle.fvn_combine_reading.proofs.used.used_of.Goals as goal

pub loop-j-preserved : goal.loop-j-preserved
loop-j-preserved c =
    let u = c.loop-j.used.items in
    let j = c.loop-j.j in
    let b = c.is_used.result in
    let now = c.push.new.self.items in
    let pushed : now ≡ u ++ b ∷ [] = c.in_ok-push.ensures.items in
    let n = length_push u b in
    let m = c.loop-j.invariant.marked in
    let IsUsedAt = λ (k : ℕ). Any (λ row. get_or row k (pos 0) ≢ pos 0) (rows_of c.args.system.now) in
    record {
      marked = ap length pushed ∙ n ∙ ap (λ k. k + 1) m;
      exact = λ k l. elim (cases_lt k j) [
        | inl below ↦
            let same : get_or now k false ≡ get_or u k false = ap (λ xs. get_or xs k false) pushed ∙ get_or_append_left u (b ∷ []) false k (omega (arith, below, m)) in
            let old = c.loop-j.invariant.exact k below in
            (λ e. old.0 (sym same ∙ e), λ a. same ∙ old.1 a)
        | inr above ↦
            let is : j ≡ k = omega (arith, above, l) in
            let last : get_or now j false ≡ b = ap (λ xs. get_or xs j false) pushed ∙ get_or_push u b false j m in
            let at : get_or now k false ≡ b = ap (λ n. get_or now n false) (sym is) ∙ last in
            let rows = ap coefficients_of c.as_slice.ensures in
            let told = c.is_used.ensures in (
              λ e. subst IsUsedAt is (subst (λ rs. Any (λ row. get_or row j (pos 0) ≢ pos 0) rs) rows (told.0 (sym at ∙ e))),
              λ a. at ∙ told.1 (subst (λ rs. Any (λ row. get_or row j (pos 0) ≢ pos 0) rs) (sym rows) (subst IsUsedAt (sym is) a)),
            )
      ];
    }
