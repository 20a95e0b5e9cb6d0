-- What is added to a form, argument by argument.
use Rattle.std.proofs.Common.{◌≡◌, ◌≤◌, ◌<◌, ◌+◌, ◌*◌, ℕ, zero, suc, List, [], ◌∷◌, ◌++◌, length, take, get_or, refl, sym, subst, ap, ◌∙◌, arith}
use Rattle.std.proofs.lemmas.List.{take_more}
use Rattle.fvn_terms.specs.declared.plain.Var.{Var}
use Rattle.fvn_terms.specs.declared.plain.OpId.{OpId}
use Rattle.fvn_terms.specs.declared.plain.Plain.{Plain}
use Rattle.fvn_terms.specs.Term.{Term, Terms, var, app, none, nodes, nodes_all}
use Rattle.fvn_terms.specs.Plain.{term, terms}
use Rattle.fvn_weights.specs.declared.forms.Form.{Form}
use Rattle.fvn_weights.specs.Values.{Linear, value, value_from, constant_of, factor_of, without_constants, one_at}
use Rattle.fvn_weights.specs.inner.Numbers.{found, capped, IsRaised}
use Rattle.fvn_weights.specs.inner.Forms.{IsPlaced, IsAdded, AreAdded, IsFormOf}
use Rattle.fvn_weights.proofs.Capping.{head_more, argument_more}

-- an argument has no more nodes than all
pub nodes_at : (items : List Plain) (us : Terms) (i : ℕ) (t : Plain) → terms items ≡ us → i < length items → t ≡ get_or items i t → nodes (term t) ≤ nodes_all us
nodes_at items us i t view l e = subst (λ ts. nodes (term t) ≤ nodes_all ts) view (go items i l e) where
  go : (items : List Plain) (i : ℕ) → i < length items → t ≡ get_or items i t → nodes (term t) ≤ nodes_all (terms items)
  go [] i l e = absurd (omega arith)
  go (u ∷ us) zero l e = let q : nodes (term t) ≡ nodes (term u) = ap (λ v. nodes (term v)) e in omega arith
  go (u ∷ us) (suc i) l e = let q = go us i (omega arith) e in omega arith

taken_length : (items : List Plain) (i : ℕ) → i ≤ length items → length (take i items) ≡ i
taken_length items zero h = refl
taken_length [] (suc i) h = absurd (omega arith)
taken_length (t ∷ ts) (suc i) h = ap suc (taken_length ts i (omega arith))

plus_zero : (n : ℕ) → n + 0 ≡ 0 + n
plus_zero n = omega arith

zero_plus : (n : ℕ) → n ≡ 0 + n
zero_plus n = omega arith

grouped : (a b c : ℕ) → a + (b + c) ≡ (a + b) + c
grouped a b c = omega arith

module _ (w : Linear) (at : Var → ℕ) (f : OpId) where
  -- with one argument more behind the others
  from_push : (start : ℕ) (ts : List Plain) (u : Plain) → value_from w at f start (terms (ts ++ u ∷ [])) ≡ value_from w at f start (terms ts) + w.coefficient f (start + length ts) * value w at (term u)
  from_push start [] u =
      let same : start ≡ start + 0 = omega arith in
      plus_zero (w.coefficient f start * value w at (term u)) ∙ ap (λ n. 0 + w.coefficient f n * value w at (term u)) same
  from_push start (t ∷ ts) u =
      let same : (start + 1) + length ts ≡ start + suc (length ts) = omega arith in
      ap (λ n. w.coefficient f start * value w at (term t) + n) (from_push (start + 1) ts u)
      ∙ grouped (w.coefficient f start * value w at (term t)) (value_from w at f (start + 1) (terms ts)) (w.coefficient f ((start + 1) + length ts) * value w at (term u))
      ∙ ap (λ n. (w.coefficient f start * value w at (term t) + value_from w at f (start + 1) (terms ts)) + w.coefficient f n * value w at (term u)) same

  -- what one argument more adds
  from_taken : (items : List Plain) (i : ℕ) (u : Plain) → i < length items → u ≡ get_or items i u →
      value_from w at f 0 (terms (take (i + 1) items)) ≡ value_from w at f 0 (terms (take i items)) + w.coefficient f i * value w at (term u)
  from_taken items i u within is =
      let long : 0 + length (take i items) ≡ i = let n = taken_length items i (omega arith) in omega (arith, n) in
      ap (λ l. value_from w at f 0 (terms l)) (take_more items i u within ∙ ap (λ v. take i items ++ v ∷ []) (sym is))
      ∙ from_push 0 (take i items) u
      ∙ ap (λ n. value_from w at f 0 (terms (take i items)) + w.coefficient f n * value w at (term u)) long

-- nothing more
none_more : (n k : ℕ) → n ≡ n + k * 0
none_more n k = omega arith

module _ (w : Linear) (k : ℕ) where
  -- a variable is added
  pub variable_added : (x : Var) (before after : Form) → after.constant ≡ before.constant → IsRaised x k before.factors.items after.factors.items after.starts.items → IsAdded w k (var x) before after
  variable_added x before after same h = record {
    placed = h.placed;
    constant_is = ap capped (same ∙ none_more before.constant k);
    factors_are = h.raised;
  }

  -- an operator is added, and then its arguments
  pub head_added : (f : OpId) (us : Terms) (before begun after : Form) → begun.constant ≡ capped (before.constant + capped (k * w.constant f)) → begun.factors.items ≡ before.factors.items →
      AreAdded w k f us begun after → IsAdded w k (app f us) before after
  head_added f us before begun after is same h = record {
    placed = h.placed;
    constant_is = head_more before.constant begun.constant after.constant k (w.constant f) (value_from w (λ x. 0) f 0 us) is h.constant_is;
    factors_are = λ x.
        h.factors_are x
        ∙ ap (λ l. capped (found l x + k * value_from (without_constants w) (one_at x) f 0 us)) same
        ∙ ap (λ n. capped (found before.factors.items x + k * n)) (zero_plus (value_from (without_constants w) (one_at x) f 0 us));
  }

  -- no argument is added
  pub none_added : (f : OpId) (form : Form) → IsPlaced form → AreAdded w k f none form form
  none_added f form placed = record {
    placed = placed;
    constant_is = ap capped (none_more form.constant k);
    factors_are = λ x. ap capped (none_more (found form.factors.items x) k);
  }

  -- one argument more is added
  pub one_added : (f : OpId) (items : List Plain) (i : ℕ) (u : Plain) (first before after : Form) (many : ℕ) → i < length items → u ≡ get_or items i u → many ≡ capped (k * w.coefficient f i) →
      AreAdded w k f (terms (take i items)) first before → IsAdded w many (term u) before after → AreAdded w k f (terms (take (i + 1) items)) first after
  one_added f items i u first before after many within is counted so_far added = record {
    placed = added.placed;
    constant_is =
        argument_more first.constant before.constant after.constant k (value_from w (λ x. 0) f 0 (terms (take i items))) many (w.coefficient f i) (constant_of w (term u)) counted so_far.constant_is added.constant_is
        ∙ ap (λ n. capped (first.constant + k * n)) (sym (from_taken w (λ x. 0) f items i u within is));
    factors_are = λ x.
        argument_more (found first.factors.items x) (found before.factors.items x) (found after.factors.items x) k (value_from (without_constants w) (one_at x) f 0 (terms (take i items))) many (w.coefficient f i) (factor_of w x (term u)) counted
        (so_far.factors_are x) (added.factors_are x)
        ∙ ap (λ n. capped (found first.factors.items x + k * n)) (sym (from_taken (without_constants w) (one_at x) f items i u within is));
  }

once : (n : ℕ) → 0 + 1 * n ≡ n
once n = omega arith

-- added once to nothing
pub added_to_none : (w : Linear) (t : Term) (empty form : Form) → empty.constant ≡ 0 → empty.factors.items ≡ [] → IsAdded w 1 t empty form → IsFormOf w t form
added_to_none w t empty form zero_is none_is h = record {
  placed = h.placed;
  constant_is = h.constant_is ∙ ap (λ n. capped (n + 1 * constant_of w t)) zero_is ∙ ap capped (once (constant_of w t));
  factors_are = λ x. h.factors_are x ∙ ap (λ l. capped (found l x + 1 * factor_of w x t)) none_is ∙ ap capped (once (factor_of w x t));
}
