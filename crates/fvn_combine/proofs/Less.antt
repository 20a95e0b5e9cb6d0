-- What is left to do falls: how many choices a leaf has, and what each step leaves.
use Rattle.std.proofs.Common.{◌≡◌, ℕ, zero, suc, ◌+◌, ◌*◌, ◌^◌, ◌<◌, ◌≤◌, List, [], ◌∷◌, length, map, get_or, sym, ap, ◌∙◌, subst, inl, inr, arith, All, Contains, Option}
use Rattle.std.proofs.Math.Nat.{one-le-pow, pow-le-pow_right, mul-le-mul_right, mul_comm, add-mul}
use Rattle.std.proofs.lemmas.Nat.{mul-le, pow_pos}
use Rattle.std.proofs.lemmas.Grind.{pow_more}
use Rattle.std.proofs.lemmas.List.{length-map}
use Rattle.std.proofs.lemmas.List.Elements.{All-tail, All-contains}
use Rattle.std.proofs.lemmas.Option.{slice_get_cases, slice_get-get_or}
use Rattle.fvn_base.proofs.Membership.{map_contains}
use Rattle.fvn_base.proofs.Pigeonhole.{length-le_below}
use Rattle.fvn_acunify.specs.declared.limits.TheConstants.{LISTED_SOLUTIONS}
use Rattle.fvn_terms.specs.declared.plain.OpId.{OpId}
use Rattle.fvn_lindio.specs.declared.system.Solution.{Solution}
use Rattle.fvn_combine_nodes.specs.States.{class_of}
use Rattle.fvn_combine_tree.specs.Trees.{weight}
use Rattle.fvn_combine_nodes.specs.declared.state.State.{State}
use Rattle.fvn_combine_leaves.specs.Readings.{IsReading}
use Rattle.fvn_combine_leaves.specs.declared.reading.Reading.{Reading}
use Rattle.fvn_acunify_product.specs.Weight.{product}
use Rattle.fvn_acunify_product.specs.Wheels.{Wheel, counts_of}
use Rattle.fvn_combine_leaves.specs.Bases.{AreBases}
use Rattle.fvn_combine_drawing.specs.CombineCandidatesLaws.{SumOperatorsAreFew}
use Rattle.fvn_combine_drawing.specs.CombineCandidatesSharing.{AreSharedClasses, classes_of}
use Rattle.fvn_combine_drawing.specs.CombineCandidatesTags.{tag_counts}
use Rattle.fvn_combine_drawing.specs.CombineCandidatesTurning.{AreWheels}
use Rattle.fvn_combine_drawing.specs.CombineCandidatesDeclared.sharing.SharedClass.{SharedClass}
use Rattle.fvn_combine.specs.Tasks.{Combining}
use Rattle.fvn_combine.specs.Work.{most_tags, most_numbers, left_at, left_by}
use Rattle.fvn_combine.specs.declared.opened.Leaf.{Leaf}

-- at most n numbers, none above b, have a product of at most b ^ n
product-le : {X : Type 0} (f : X → ℕ) (b n : ℕ) (xs : List X) → 0 < b → All (λ x. f x ≤ b) xs → length xs ≤ n → product (map f xs) ≤ b ^ n
product-le f b n [] some all few = one-le-pow n b some
product-le f b zero (x ∷ xs) some all few = absurd (omega (arith, few))
product-le f b (suc n) (x ∷ xs) some all few =
    let first : f x ≤ b = all 0 x (omega arith) in
    let rest = product-le f b n xs some (All-tail (λ y. f y ≤ b) x xs all) (omega (arith, few)) in
    let e : suc n ≡ n + 1 = omega arith in
    let power : b ^ suc n ≡ b ^ n * b = ap (λ m. b ^ m) e ∙ pow_more b n in
    let both = mul-le (product (map f xs)) (f x) (b ^ n) b rest first in
    subst (λ m. f x * product (map f xs) ≤ m) (sym power) (subst (λ m. m ≤ b ^ n * b) (mul_comm (product (map f xs)) (f x)) both)

-- there is room in a step
room : (p q step all left more : ℕ) → all ≤ q → all ≡ p + 1 * step → left ≤ step → p + left ≤ q + more
room p q step all left more a e l = omega (arith, a, e, l)

-- what falls by one makes room for what is below the step
pub falls-le : (step before after left more : ℕ) → after < before → left ≤ step → after * step + left ≤ before * step + more
falls-le step before after left more less small =
    let next : after + 1 ≤ before = omega (arith, less) in
    room (after * step) (before * step) step ((after + 1) * step) left more (mul-le-mul_right step next) (add-mul after 1 step) small

-- nothing beside
pub alone-le : (a b : ℕ) → a ≤ b → a + 0 ≤ b
alone-le a b l = omega (arith, l)

beside-le : (n a b : ℕ) → a ≤ b → n + a ≤ n + b
beside-le n a b l = omega (arith, l)

beside-lt : (n a b : ℕ) → a < b → n + a < n + b
beside-lt n a b l = omega (arith, l)

two : 0 < 2
two = omega arith

module _ (k : Combining) (few : SumOperatorsAreFew) (s : State) (r : Reading) (reading : IsReading k.declarations k.table (class_of s) r) where
  few_sums : length r.sums ≤ length k.table.subterms
  few_sums = few k.declarations k.table (class_of s) r reading

  few_shared : (shared : List SharedClass) → AreSharedClasses k.declarations k.table (class_of s) k.sorted shared → length shared ≤ length k.table.nodes
  few_shared shared are =
      let n = length-le_below (classes_of shared) (length k.table.nodes) are.distinct within in
      let m = length-map shared (λ (c : SharedClass). c.class) in
      omega (arith, n, m)
    where
      within : (x : ℕ) → Contains (classes_of shared) x → x < length k.table.nodes
      within x m =
          let c = map_contains (λ (c : SharedClass). c.class) shared x m in
          let each = All-contains (λ (a : SharedClass). a.class < length k.table.nodes) shared c.0 (λ i d l. (are.each i d l).within) c.1.0 in
          subst (λ y. y < length k.table.nodes) c.1.1 each

  -- a leaf has few tags
  pub few_tags : (shared : List SharedClass) → AreSharedClasses k.declarations k.table (class_of s) k.sorted shared → All (λ c. length c.users ≤ length r.sums) shared → product (tag_counts shared) ≤ most_tags k
  unfolding most_tags
  few_tags shared are users = product-le (λ (c : SharedClass). length c.users + 1) (length k.table.subterms + 1) (length k.table.nodes) shared (omega arith)
      (λ i d l. let u = users i d l in let m = few_sums in omega (arith, u, m)) (few_shared shared are)

  -- and few numbers under each of them
  pub few_numbers : (bases : List (List Solution)) → AreBases r.sums bases → (tag : ℕ → Option OpId) (wheels : List Wheel) → AreWheels k.declarations k.table (class_of s) tag r.sums bases wheels → product (counts_of wheels) ≤ most_numbers k
  unfolding most_numbers
  few_numbers bases are tag wheels asked = product-le (λ (w : Wheel). 2 ^ length w.basis) (2 ^ LISTED_SOLUTIONS) (length k.table.subterms) wheels (pow_pos LISTED_SOLUTIONS)
      (λ i d l. power (length (get_or wheels i d).basis) LISTED_SOLUTIONS (few_each i d l))
      (let m = few_sums in let n = asked.as_many in omega (arith, m, n))
    where
      power : (i j : ℕ) → i ≤ j → 2 ^ i ≤ 2 ^ j
      power i j l = pow-le-pow_right two l

      few_each : (i : ℕ) (d : Wheel) → i < length wheels → length (get_or wheels i d).basis ≤ LISTED_SOLUTIONS
      few_each i d l = elim (slice_get_cases r.sums i).1 [
        | inl e ↦ subst (λ b. length b ≤ LISTED_SOLUTIONS) (sym (asked.each i e.0 (get_or wheels i d) e.2 (slice_get-get_or wheels i d l)).over) (are.each i e.0 e.2).few
        | inr n ↦ let m = asked.as_many in let o = n.0 in absurd (omega (arith, l, m, o))
      ]

-- a tree that falls makes room for a leaf
pub left_falls : (k : Combining) (before after : List State) (leaf opened : Option Leaf) → weight after < weight before → left_at k opened ≤ most_tags k * most_numbers k → left_by k after opened ≤ left_by k before leaf
left_falls k before after leaf opened falls few = falls-le (most_tags k * most_numbers k) (weight before) (weight after) (left_at k opened) (left_at k leaf) falls few

-- a leaf that falls leaves less beside the states
pub leaf_falls : (k : Combining) (states : List State) (before after : Option Leaf) → left_at k after < left_at k before → left_by k states after < left_by k states before
leaf_falls k states before after l = beside-lt (weight states * (most_tags k * most_numbers k)) (left_at k after) (left_at k before) l

pub leaf_stays : (k : Combining) (states : List State) (before after : Option Leaf) → left_at k after ≤ left_at k before → left_by k states after ≤ left_by k states before
leaf_stays k states before after l = beside-le (weight states * (most_tags k * most_numbers k)) (left_at k after) (left_at k before) l
