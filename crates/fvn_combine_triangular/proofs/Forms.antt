-- What classes are bound to: operators over names of classes, and sums of what stands for solutions.
use Rattle.std.proofs.Common.{◌≡◌, ℕ, zero, suc, ◌<◌, List, [], ◌∷◌, length, get_or, map, slice_index_or, refl, ap, ◌∙◌, subst, arith, All, Some}
use Rattle.std.specs.Prelude.{slice_get}
use Rattle.std.proofs.lemmas.List.{length-map}
use Rattle.std.proofs.lemmas.List.Elements.{All-head, All-tail}
use Rattle.std.proofs.lemmas.Option.{slice_get_within}
use Rattle.fvn_terms.specs.declared.plain.Var.{Var as Variable}
use Rattle.fvn_terms.specs.declared.plain.OpId.{OpId}
use Rattle.fvn_terms.specs.declared.plain.SortId.{SortId}
use Rattle.fvn_terms.specs.declared.declarations.Declarations.{Declarations}
use Rattle.fvn_terms.specs.Term.{Terms, var, app, pack}
use Rattle.fvn_terms.specs.Signature.{HasKind, HaveKinds, kind}
use Rattle.fvn_terms.specs.Unifiers.{Problem}
use Rattle.fvn_forms.specs.Flat.{FlatTerm, fvar, plain}
use Rattle.fvn_forms.specs.FitsKinds.{FitsKinds}
use Rattle.fvn_forms.specs.Canon.{eval_all, build, sum, canon}
use Rattle.fvn_forms.specs.Settled.{Settled}
use Rattle.fvn_forms.proofs.Eval.{canon_settled}
use Rattle.fvn_forms.proofs.ToCanon.{canon_of_kind}
use Rattle.fvn_flat.specs.Fits.{AllFit, Takes}
use Rattle.fvn_flat.specs.SolvedLists.{Plan, members, names_of, over_classes}
use Rattle.fvn_flat.proofs.Fitting.{arguments_fit, takes_arguments}
use Rattle.fvn_combine_nodes.specs.Table.{NodeTable, IsWellMade, IsOver, term_at}
use Rattle.fvn_combine_nodes.specs.Laws.{class_at}
use Rattle.fvn_combine_nodes.specs.declared.table.Node.TheVariants.{App}
use Rattle.fvn_combine_nodes.proofs.Nodes.{term_at-over, arguments_within}
use Rattle.fvn_combine_leaves.specs.declared.reading.Sums.{Sums}
use Rattle.fvn_combine_triangular.specs.declared.shares.Share.{Share}
use Rattle.fvn_combine_triangular.specs.inner.Planning.{name_in, part_of, AreKinded, sum_at}

module _ (d : Declarations) (class : ℕ → ℕ) (names : List Variable) where
  -- the names of the classes of these nodes, as terms and as flat forms
  abbrev pub name_terms : List ℕ → Terms
  name_terms ks = pack (map (λ k. var (name_in names (class k))) ks)

  abbrev pub name_forms : List ℕ → List FlatTerm
  name_forms ks = map (λ k. fvar (name_in names (class k))) ks

  pub forms_of_names : (ks : List ℕ) → eval_all d fvar (name_terms ks) ≡ name_forms ks
  forms_of_names [] = refl
  forms_of_names (k ∷ ks) = ap (λ l. fvar (name_in names (class k)) ∷ l) (forms_of_names ks)

-- a place of a list that was read through a function
pub place_in_map : {X Y : Type 0} (g : X → Y) (ws : List X) (i : ℕ) {n : ℕ} → length (map g ws) ≡ n → i < n → i < length ws
place_in_map g ws i {n} e l = let m = length-map ws g in omega (arith, m, e, l)

-- the sum at a place
pub sum_at_here : {X : Type 0} (d : Declarations) (g : X → List Share) (sums list : List Sums) (ws : List X) (i k : ℕ) (s : Sums) (w : X) → list ≡ sums → i < length list → s ≡ get_or list i s → i < length ws → w ≡ get_or ws i w
    → sum d s.operator (members s.columns (map part_of (g w)) k) ≡ sum_at d sums (map g ws) i k
sum_at_here {X} d g sums list ws i k s w same l s_is m w_is = subst (λ sums. sum d s.operator (members s.columns (map part_of (g w)) k) ≡ sum_at d sums (map g ws) i k) same (go list ws i l s_is m w_is)
  where
    go : (sums : List Sums) (ws : List X) (i : ℕ) → i < length sums → s ≡ get_or sums i s → i < length ws → w ≡ get_or ws i w → sum d s.operator (members s.columns (map part_of (g w)) k) ≡ sum_at d sums (map g ws) i k
    go [] ws i l e m f = absurd (omega (arith, l))
    go (a ∷ sums) [] i l e m f = absurd (omega (arith, m))
    go (a ∷ sums) (b ∷ ws) zero l e m f = ap (λ (s : Sums). sum d s.operator (members s.columns (map part_of (g w)) k)) e ∙ ap (λ w. sum d a.operator (members a.columns (map part_of (g w)) k)) f
    go (a ∷ sums) (b ∷ ws) (suc i) l e m f = go sums ws i (omega (arith, l)) e (omega (arith, m)) f

-- and by what is got there
pub sum_at_place : (d : Declarations) (sums : List Sums) (all : List (List Share)) (i k : ℕ) (s : Sums) → slice_get sums i ≡ Some s → i < length all → sum_at d sums all i k ≡ sum d s.operator (members s.columns (map part_of (slice_index_or all i [])) k)
sum_at_place d [] all i k s e m = let l = slice_get_within [] i s e in absurd (omega (arith, l))
sum_at_place d (a ∷ sums) [] i k s e m = absurd (omega (arith, m))
sum_at_place d (a ∷ sums) (b ∷ all) zero k s e m =
    let one : a ≡ s = cc in
    ap (λ (s : Sums). sum d s.operator (members s.columns (map part_of b) k)) one
sum_at_place d (a ∷ sums) (b ∷ all) (suc i) k s e m = sum_at_place d sums all i k s e (omega (arith, m))

module _ {d : Declarations} (fits : FitsKinds d) {t : NodeTable} (made : IsWellMade t) {class : ℕ → ℕ} {names : List Variable} (kinded : AreKinded d t class names) where
  -- names in place of arguments have their kinds
  names_kind : (ks : List ℕ) → All (λ k. k < length t.nodes) ks → (qs : List SortId) → HaveKinds d (pack (map (term_at t.nodes) ks)) qs → HaveKinds d (name_terms d class names ks) qs
  names_kind [] l [] r = r
  names_kind [] l (q ∷ qs) r = absurd r
  names_kind (k ∷ ks) l [] r = absurd r
  names_kind (k ∷ ks) l (q ∷ qs) r =
      let P = λ (k : ℕ). k < length t.nodes in
      (kinded.named k q (All-head P k ks l) r.0, names_kind ks (All-tail P k ks l) qs r.1)

  module _ (i : ℕ) (f : OpId) (ks : List ℕ) (over : IsOver t.nodes i f ks) where
    node_within : i < length t.nodes
    node_within = slice_get_within t.nodes i (App f ks) over

    over_kind : (q : SortId) → HasKind d (term_at t.nodes i) q → HasKind d (app f (name_terms d class names ks)) q
    over_kind q r =
        let w = subst (λ u. HasKind d u q) (term_at-over t.nodes made.ordered i f ks over) r in
        record { rank = w.rank; listed = w.listed; args = names_kind ks (arguments_within t.nodes made.ordered i f ks over) (map (kind d) w.rank.args) w.args; result = w.result }

    -- the operator takes the names of the classes of its arguments
    pub names_fit : AllFit d (name_forms d class names ks)
    names_fit = let r = kinded.terms i node_within in subst (AllFit d) (forms_of_names d class names ks) (arguments_fit d fits f (name_terms d class names ks) (r.0, over_kind r.0 r.1))

    pub names_taken : Takes d f (name_forms d class names ks)
    names_taken = let r = kinded.terms i node_within in subst (Takes d f) (forms_of_names d class names ks) (takes_arguments d fits f (name_terms d class names ks) (r.0, over_kind r.0 r.1))

    canon_is : canon d (app f (name_terms d class names ks)) ≡ build d f (name_forms d class names ks)
    canon_is = ap (build d f) (forms_of_names d class names ks)

    -- what it builds over them is flat, and of the node's kind
    pub member_flat : Settled d (build d f (name_forms d class names ks))
    member_flat = subst (Settled d) canon_is (canon_settled d (app f (name_terms d class names ks)))

    pub member_kind : (q : SortId) → HasKind d (term_at t.nodes i) q → HasKind d (plain (build d f (name_forms d class names ks))) q
    member_kind q r = subst (λ u. HasKind d (plain u) q) canon_is (canon_of_kind d fits (app f (name_terms d class names ks)) q (over_kind q r))

    module _ (problem : Problem) (same : (i : ℕ) → i < length t.nodes → class_at t class (term_at t.nodes i) ≡ class i) (plan : Plan) (named : plan.name ≡ name_in names) where
      names_are : (ks : List ℕ) → All (λ k. k < length t.nodes) ks → names_of d problem (class_at t class) plan (pack (map (term_at t.nodes) ks)) ≡ name_terms d class names ks
      names_are [] l = refl
      names_are (k ∷ ks) l =
          let P = λ (k : ℕ). k < length t.nodes in
          let first : plan.name (class_at t class (term_at t.nodes k)) ≡ name_in names (class k) = ap (λ g. g (class_at t class (term_at t.nodes k))) named ∙ ap (name_in names) (same k (All-head P k ks l)) in
          let rest = names_are ks (All-tail P k ks l) in
          cc

      -- the term of the node over the names of classes is what the operator builds over them
      pub over_classes_is : over_classes d problem (class_at t class) plan (term_at t.nodes i) ≡ build d f (name_forms d class names ks)
      over_classes_is =
          ap (over_classes d problem (class_at t class) plan) (term_at-over t.nodes made.ordered i f ks over)
          ∙ ap (λ ts. canon d (app f ts)) (names_are ks (arguments_within t.nodes made.ordered i f ks over))
          ∙ canon_is
