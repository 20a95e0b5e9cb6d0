-- How often a flat form is a summand of what the sum to which a class is bound unfolds to.
use Rattle.std.proofs.Common.{◌≡◌, ℕ, zero, suc, ◌+◌, ◌*◌, ◌<◌, List, [], ◌∷◌, replicate, map, get_or, sum_by, refl, sym, ap, ◌∙◌, inl, inr, arith, Contains}
use Rattle.std.proofs.Math.Nat.{mul-add}
use Rattle.std.proofs.lemmas.Bool.{cases_eq}
use Rattle.std.proofs.lemmas.List.{map-append}
use Rattle.std.proofs.lemmas.List.Sums.{sum_by-cons}
use Rattle.fvn_base.proofs.Membership.{contains_here, contains_later}
use Rattle.fvn_terms.specs.declared.plain.Var.{Var}
use Rattle.fvn_terms.specs.declared.plain.OpId.{OpId}
use Rattle.fvn_terms.specs.declared.declarations.Declarations.{Declarations}
use Rattle.fvn_forms.specs.Flat.{FlatTerm, fvar}
use Rattle.fvn_forms.specs.InOrder.{count}
use Rattle.fvn_forms.specs.Canon.{parts, all_parts, inst}
use Rattle.fvn_forms.proofs.InOrder.{count_append}
use Rattle.fvn_forms.proofs.Sums.{all_parts-append}
use Rattle.fvn_flat.specs.SolvedLists.{Part, members}
use Rattle.fvn_combine_supports.proofs.Combining.{weight}
use Rattle.fvn_combine_choices.proofs.Members.{times_in}

-- each part so many times
abbrev pub weighed : (Part → ℕ) → (Part → ℕ) → List Part → ℕ
weighed w n parts = sum_by (λ p. w p * n p) parts

-- where a part that is there weighs w, they weigh w for each time
pub weighed_alike : (w : Part → ℕ) (n : Part → ℕ) (m : ℕ) (parts : List Part) → ((p : Part) → Contains parts p → 0 < n p → w p ≡ m) → weighed w n parts ≡ m * sum_by n parts
weighed_alike w n m [] h = omega arith
weighed_alike w n m (p ∷ parts) h =
    let a = sum_by-cons (λ p. w p * n p) p parts in
    let b = ap (λ k. m * k) (sum_by-cons n p parts) ∙ mul-add m (n p) (sum_by n parts) in
    let r = weighed_alike w n m parts (λ q c. h q (contains_later p parts q c)) in
    let one : w p * n p ≡ m * n p =
    elim (cases_eq (n p) 0) [
      | inl z ↦ ap (λ k. w p * k) z ∙ (let e : w p * 0 ≡ m * 0 = omega arith in e) ∙ ap (λ k. m * k) (sym z)
      | inr o ↦ ap (λ k. k * n p) (h p (contains_here p parts) (omega (arith, o)))
    ]
    in
    a ∙ ap (λ k. k + weighed w n parts) one ∙ ap (λ k. m * n p + k) r ∙ sym b

-- a combination of the solutions, by parts
pub weight_of_parts : (w : Part → ℕ) (parts : List Part) (j : ℕ) → weight (map w parts) (map (λ p. p.solution) parts) j ≡ weighed w (λ p. get_or p.solution j 0) parts
weight_of_parts w [] j = refl
weight_of_parts w (p ∷ parts) j = ap (λ k. w p * get_or p.solution j 0 + k) (weight_of_parts w parts j) ∙ sym (sum_by-cons (λ p. w p * get_or p.solution j 0) p parts)

pub weighed_same : (w m n : Part → ℕ) → ((p : Part) → m p ≡ n p) → (parts : List Part) → weighed w m parts ≡ weighed w n parts
weighed_same w m n h [] = refl
weighed_same w m n h (p ∷ parts) =
    sum_by-cons (λ p. w p * m p) p parts ∙ ap (λ k. w p * k + weighed w m parts) (h p) ∙ ap (λ k. w p * n p + k) (weighed_same w m n h parts) ∙ sym (sum_by-cons (λ p. w p * n p) p parts)

module _ (d : Declarations) (f : OpId) (values : Var → FlatTerm) (q : FlatTerm) where
  -- how often q is a summand of what stands for the part
  abbrev pub of_part : Part → ℕ
  of_part p = count q (parts d f (values p.variable))

  count_copies : (n : ℕ) (x : Var) → count q (all_parts d f (map (inst d values) (replicate n (fvar x)))) ≡ count q (parts d f (values x)) * n
  count_copies zero x = omega arith
  count_copies (suc n) x =
      let a = count_append q (parts d f (values x)) (all_parts d f (map (inst d values) (replicate n (fvar x)))) in
      let r = count_copies n x in
      omega (arith, a, r)

  -- of the members
  pub count_members : (columns : List ℕ) (list : List Part) (k : ℕ) → count q (all_parts d f (map (inst d values) (members columns list k))) ≡ weighed of_part (times_in columns k) list
  count_members columns [] k = refl
  count_members columns (p ∷ list) k =
      let copies = replicate (times_in columns k p) (fvar p.variable) in
      let rest = members columns list k in
      ap (λ l. count q (all_parts d f l)) (map-append (inst d values) copies rest)
      ∙ ap (count q) (all_parts-append d f (map (inst d values) copies) (map (inst d values) rest))
      ∙ count_append q (all_parts d f (map (inst d values) copies)) (all_parts d f (map (inst d values) rest))
      ∙ ap (λ n. n + count q (all_parts d f (map (inst d values) rest))) (count_copies (times_in columns k p) p.variable)
      ∙ ap (λ n. of_part p * times_in columns k p + n) (count_members columns list k)
      ∙ sym (sum_by-cons (λ p. of_part p * times_in columns k p) p list)
