-- What stands for the solutions of each operator.
use Rattle.std.proofs.Common.{◌≡◌, ℕ, ◌+◌, ◌*◌, ◌<◌, ◌≤◌, Bool, List, [], length, get_or, slice_index, slice_index_or, sym, ap, ◌∙◌, subst, arith, All, Contains, Option, Some}
use Rattle.std.specs.Prelude.{slice_get}
use Rattle.std.proofs.lemmas.List.{get_or_default, get_or-map, length-map}
use Rattle.std.proofs.lemmas.List.Elements.{All-contains, Contains-get_or}
use Rattle.std.proofs.lemmas.Option.{slice_get_within, get_or_from_slice_get}
use Rattle.fvn_acunify.specs.declared.limits.TheConstants.{LISTED_SOLUTIONS}
use Rattle.fvn_terms.specs.declared.plain.Var.{Var as Variable}
use Rattle.fvn_terms.specs.declared.plain.OpId.{OpId}
use Rattle.fvn_terms.specs.declared.declarations.Declarations.{Declarations}
use Rattle.fvn_lindio.specs.declared.system.Solution.{Solution}
use Rattle.fvn_lindio.specs.Systems.{vectors_of}
use Rattle.fvn_acunify.specs.ValidChoice.{chosen}
use Rattle.fvn_combine_nodes.specs.Table.{NodeTable, IsWellMade}
use Rattle.fvn_combine_nodes.specs.States.{IsClosed, class_of}
use Rattle.fvn_combine_nodes.specs.declared.state.State.{State}
use Rattle.fvn_combine_leaves.specs.Readings.{AreSums}
use Rattle.fvn_combine_choices.specs.Binding.{AreAsked}
use Rattle.fvn_combine_leaves.specs.declared.reading.Sums.{Sums}
use Rattle.fvn_combine_triangular.specs.declared.shares.Share.{Share}
use Rattle.fvn_combine_triangular.specs.inner.Planning.{variable_for, AreShares, AreAllShares}
use Rattle.fvn_combine_triangular.proofs.Fronts.{AreFront}
use Rattle.fvn_combine_choices.proofs.Columns.{chosen_listed}
use Rattle.fvn_combine_triangular.proofs.Standing.{length-chosen}
use Rattle.fvn_combine_triangular.proofs.Classes.{column_within}
use Rattle.fvn_base.proofs.Membership.{contains_map}

module _ (d : Declarations) (t : NodeTable) (class : ℕ → ℕ) (tag : ℕ → Option OpId) (sums : List Sums) (bases : List (List Solution)) (numbers : List ℕ) (names : List Variable) (start : ℕ) where
  -- the shares of the operator at this place
  abbrev pub AreSharesAt : ℕ → List Share → Type 0
  AreSharesAt i shares =
      (s : Sums) → slice_get sums i ≡ Some s
      → AreShares d t class tag s names (start + LISTED_SOLUTIONS * i) (chosen (slice_index numbers i) (vectors_of (slice_index_or bases i []))) shares

  -- what was made for the operator that was read
  pub shares_here : (i : ℕ) (list : List Sums) (s : Sums) (basis found : List Solution) (next : ℕ) (shares : List Share) → list ≡ sums → i < length sums → s ≡ get_or list i s → i < length bases → basis ≡ found → found ≡ get_or bases i found
      → next ≡ start + LISTED_SOLUTIONS * i → AreShares d t class tag s names next (chosen (slice_index numbers i) (vectors_of basis)) shares → AreSharesAt i shares
  shares_here i list s basis found next shares same l is lb basis_is found_is next_is are e at =
      let one : s ≡ e = is ∙ ap (λ l. get_or l i s) same ∙ get_or_from_slice_get sums i e s at in
      let basis_same : basis ≡ slice_index_or bases i [] = basis_is ∙ found_is ∙ get_or_default bases i found [] lb in
      subst (λ (s : Sums). AreShares d t class tag s names (start + LISTED_SOLUTIONS * i) (chosen (slice_index numbers i) (vectors_of (slice_index_or bases i []))) shares) one
      (subst (λ n. AreShares d t class tag s names n (chosen (slice_index numbers i) (vectors_of (slice_index_or bases i []))) shares) next_is
      (subst (λ b. AreShares d t class tag s names next (chosen (slice_index numbers i) (vectors_of b)) shares) basis_same are))

  pub all_from_front : (n : ℕ) (all : List (List Share)) → n ≡ length sums → AreFront [] AreSharesAt n all → AreAllShares d t class tag sums bases numbers names start all
  all_from_front n all same h = record {
    as_many = h.as_many ∙ same;
    each = λ i s at. h.each i (let l = slice_get_within sums i s at in omega (arith, l, same)) s at;
  }

-- the number after those of one more operator
pub next_number : (next start i : ℕ) → next ≡ start + LISTED_SOLUTIONS * i → next + 127 ≡ start + LISTED_SOLUTIONS * (i + 1)
next_number next start i e = omega (arith, e)

-- what is asked is within the columns and the solution
pub asked_within : {d : Declarations} {t : NodeTable} {class : ℕ → ℕ} {tag : ℕ → Option OpId} {f : OpId} {columns constants : List ℕ} {marks : List Bool} → AreAsked d t class tag f columns constants marks → (list cols v parts : List ℕ) → list ≡ constants → cols ≡ columns → v ≡ parts → length parts ≡ length columns → All (λ c. (c < length cols) × (c < length v)) list
asked_within {columns} {constants} asked list cols v parts same cols_are parts_are sized j e l =
    let a = ap length cols_are in
    let b = ap length parts_are in
    let here : Contains constants (get_or list j e) = subst (λ cs. Contains cs (get_or list j e)) same (Contains-get_or list j e l) in
    let w = ((asked.are_constant (get_or list j e)).0 here).0 in
    (omega (arith, a, w), omega (arith, b, w, sized))

-- the solution that was read, as a vector
pub item_vector : (list : List Solution) (n : ℕ) (item : Solution) → n < length list → item ≡ get_or list n item → (v : List ℕ) → v ≡ item.parts → v ≡ get_or (vectors_of list) n v
item_vector list n item l is v same = same ∙ ap (λ (s : Solution). s.parts) is ∙ sym (get_or-map (λ (s : Solution). s.parts) list n item v l)

-- its size
pub item_sized : (columns : List ℕ) (basis solutions list : List Solution) (number : ℕ) → list ≡ solutions → vectors_of solutions ≡ chosen number (vectors_of basis) → All (λ v. length v ≡ length columns) (vectors_of basis) → (n : ℕ) (item : Solution) → n < length list → item ≡ get_or list n item → length item.parts ≡ length columns
item_sized columns basis solutions list number same are sized n item l is =
    let here : Contains list item = (n, l, sym is) in
    let among : Contains (chosen number (vectors_of basis)) item.parts = subst (λ vs. Contains vs item.parts) (ap vectors_of same ∙ are) (contains_map (λ (s : Solution). s.parts) list item here) in
    All-contains (λ v. length v ≡ length columns) (vectors_of basis) item.parts sized (chosen_listed number (vectors_of basis) item.parts among)

-- at most as many are taken as there are
pub few_taken : (basis solutions list : List Solution) (number : ℕ) → list ≡ solutions → vectors_of solutions ≡ chosen number (vectors_of basis) → length list ≤ length basis
few_taken basis solutions list number same are =
    let a = ap length (ap vectors_of same ∙ are) in
    let b = length-map list (λ (s : Solution). s.parts) in
    let c = length-map basis (λ (s : Solution). s.parts) in
    let e = length-chosen number (vectors_of basis) in
    omega (arith, a, b, c, e)

pub variable_for_same : (cs constants cols columns v parts : List ℕ) (names : List Variable) (fresh x : Variable) → cs ≡ constants → cols ≡ columns → v ≡ parts → x ≡ variable_for cs cols names v fresh → x ≡ variable_for constants columns names parts fresh
variable_for_same cs constants cols columns v parts names fresh x a b c e =
    e ∙ ap (λ cs. variable_for cs cols names v fresh) a ∙ ap (λ cols. variable_for constants cols names v fresh) b ∙ ap (λ v. variable_for constants columns names v fresh) c

-- the columns of an operator are nodes
pub columns_within : {d : Declarations} {t : NodeTable} → IsWellMade t → {s : State} → IsClosed d t s → (e : Sums) → AreSums d t (class_of s) e → (names : List Variable) → length names ≡ length t.nodes → (cols : List ℕ) → cols ≡ e.columns → All (λ k. k < length names) cols
columns_within {d} {t} made {s} closed e are names as_many cols same j o l =
    let here : Contains e.columns (get_or cols j o) = subst (λ cs. Contains cs (get_or cols j o)) same (Contains-get_or cols j o l) in
    let w = column_within made closed e.operator (get_or cols j o) ((are.is_system.exact (get_or cols j o)).0 here) in
    omega (arith, w, as_many)
