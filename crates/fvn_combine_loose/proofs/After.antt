-- The old values are instances of the new ones: the new variable becomes the value of the loose class.
use Rattle.std.proofs.Common.{◌≡◌, ◌≢◌, ℕ, zero, suc, ◌<◌, ◌≤◌, List, [], ◌∷◌, length, map, refl, ap, ◌∙◌, sym, subst, inl, inr, arith, None}
use Rattle.std.proofs.lemmas.Bool.{cases_lt}
use Rattle.fvn_base.specs.Decided.{Decided}
use Rattle.fvn_terms.specs.declared.plain.Var.{Var as Variable}
use Rattle.fvn_terms.specs.declared.plain.OpId.{OpId}
use Rattle.fvn_terms.specs.declared.plain.SortId.{SortId}
use Rattle.fvn_terms.specs.declared.declarations.Declarations.{Declarations}
use Rattle.fvn_terms.specs.Term.{Term, Terms, var, app, none, more, pack}
use Rattle.fvn_terms.specs.Substitution.{Substitution, apply, apply_all, Occurs}
use Rattle.fvn_terms.specs.Signature.{kind, HasKind, HaveKinds, KeepsKinds, same}
use Rattle.fvn_terms.specs.Places.{stop}
use Rattle.fvn_terms.specs.Equality.{two, BEqual}
use Rattle.fvn_terms.specs.Sorts.{HasSort, IsWellSorted}
use Rattle.fvn_terms.specs.Unifiers.{Problem}
use Rattle.fvn_terms.proofs.Substitutions.{apply-var, apply-agree}
use Rattle.fvn_terms.proofs.Equal.{HasKind-apply, BEqual-sym, BEqual-trans, BEqual-inside}
use Rattle.fvn_terms.proofs.Steps.{each_none, each_more}
use Rattle.fvn_terms.proofs.Occurrences.{BEqual-occurs}
use Rattle.fvn_forms.proofs.KindsKept.{b_equal_keeps_kind}
use Rattle.fvn_flat.specs.SolvedLists.{only}
use Rattle.fvn_combine_nodes.specs.Table.{NodeTable, term_at}
use Rattle.fvn_combine_nodes.specs.States.{class_of}
use Rattle.fvn_combine_nodes.specs.declared.state.State.{State}
use Rattle.fvn_combine_nodes.specs.declared.table.Node.TheVariants.{App}
use Rattle.fvn_combine_nodes.proofs.Nodes.{term_at-over}
use Rattle.fvn_combine_loose.specs.Loose.{height_of}
use Rattle.std.proofs.lemmas.Option.{slice_get_within}
use Rattle.fvn_combine_loose.proofs.Decisions.{var_decided, only_same, only_other}
use Rattle.fvn_combine_loose.proofs.Mapped.{equal_is, apply_mapped, each_equal}
use Rattle.fvn_combine_loose.proofs.Setting.{Setting, noted, entry, class_within, class_again, one_value, same_height, argument_within, argument_at}
use Rattle.fvn_combine_loose.proofs.NewVariable.{bottom, new, not_in_old, bottom_kinded, new_kind, bottom_sort}
use Rattle.fvn_combine_loose.proofs.Splitting.{Sum, old}
use Rattle.fvn_combine_loose.proofs.Remade.{same_or_other, remade, remade_low_is, remade_bottom, remade_headed, remade_summed}

module _ {d : Declarations} {problem : Problem} {t : NodeTable} {s : State} {z : ℕ} {heights : List ℕ} {u : Substitution} (g : Setting d problem t s z heights u) where
  abbrev height : ℕ → ℕ
  height = height_of s heights

  -- the new variable goes to the value of the loose class
  abbrev pub after : Substitution
  after = only (new g) (bottom g)

  after_new : after (new g) ≡ bottom g
  after_new = only_same (new g) (bottom g)

  after_other : (x : Variable) → (new g ≢ x) → after x ≡ var x
  after_other x n = only_other (new g) x (bottom g) n

  after_stays : (v : Term) → (Occurs (new g) v → ⊥) → apply after v ≡ v
  after_stays v n = apply-agree after var v (λ x o. after_other x (λ e. n (subst (λ y. Occurs y v) (sym e) o))) ∙ apply-var v

  after_low : (i : ℕ) → i < length t.nodes → height i ≡ 0 → BEqual d (apply after (remade g i)) (apply u (term_at t.nodes i))
  after_low i l low =
      let e : apply after (remade g i) ≡ apply u (term_at t.nodes (class_of s i)) =
      ap (apply after) (remade_low_is g i l low) ∙ after_stays (apply u (term_at t.nodes (class_of s i))) (not_in_old g (class_of s i) (class_within g i l))
      in
      subst (λ v. BEqual d v (apply u (term_at t.nodes i))) (sym e) (one_value g (class_of s i) i (class_within g i l) l (class_again g i l))

  -- that of a sum is, where that of the class over which it is is so
  after_summed : (i : ℕ) → i < length t.nodes → (f : OpId) (p : ℕ) → Sum g f p i → BEqual d (apply after (remade g p)) (apply u (term_at t.nodes p)) → BEqual d (apply after (remade g i)) (apply u (term_at t.nodes i))
  after_summed i l f p is part = elim (remade_summed g i l f p is) as (λ _. BEqual d (apply after (remade g i)) (apply u (term_at t.nodes i))) [
    | inl w ↦ BEqual-trans d (equal_is d (ap (apply after) w.1)) (BEqual-trans d part (BEqual-sym d w.0))
    | inr w ↦
        let rest = w.0 in
        let stays : apply after rest ≡ rest = after_stays rest (λ o. not_in_old g i l (BEqual-occurs (new g) d (old g i) (two f (old g p) rest) w.1.0 (inr (inl o)))) in
        let e : apply after (remade g i) ≡ two f (apply after (remade g p)) rest = ap (apply after) w.1.1 ∙ ap (λ v. two f (apply after (remade g p)) v) stays in
        BEqual-trans d (equal_is d e) (BEqual-trans d (BEqual-inside d f (each_more part (each_more stop each_none))) (BEqual-sym d w.1.0))
  ]

  -- the old value of a node is an instance of the new one
  pub after_remade : (n i : ℕ) → height i ≤ n → i < length t.nodes → BEqual d (apply after (remade g i)) (apply u (term_at t.nodes i))
  after_remade zero i h l = after_low i l (omega (arith, h))
  after_remade (suc n) i h l = elim (cases_lt 0 (height i)) as (λ _. BEqual d (apply after (remade g i)) (apply u (term_at t.nodes i))) [
    | inl st ↦ go st (same_or_other (class_of s i) (class_of s z)) (λ k a b. after_remade n k a b)
    | inr le ↦ after_low i l (omega (arith, le))
  ]
    where
      made : 0 < height i → class_of s i ≢ class_of s z → entry g i ≡ None → ((k : ℕ) → height k ≤ n → k < length t.nodes → BEqual d (apply after (remade g k)) (apply u (term_at t.nodes k))) → BEqual d (apply after (remade g i)) (apply u (term_at t.nodes i))
      made st other unnoted before =
          let r = remade_headed g i l st other unnoted in
          let m = r.0 in
          let within = slice_get_within t.nodes m.member (App m.operator m.arguments) m.over in
          let e = same_height g m.member i m.of in
          let args = each_equal d (λ k. apply after (remade g k)) (λ k. apply u (term_at t.nodes k)) m.arguments
          (λ k c. before k (argument_at g i m k c n (omega (arith, e, h))) (argument_within g m.member m.operator m.arguments m.over k c))
          in
          let left : apply after (remade g i) ≡ app m.operator (pack (map (λ k. apply after (remade g k)) m.arguments)) =
          ap (apply after) r.1 ∙ ap (app m.operator) (apply_mapped (remade g) after m.arguments)
          in
          let right : apply u (term_at t.nodes m.member) ≡ app m.operator (pack (map (λ k. apply u (term_at t.nodes k)) m.arguments)) =
          ap (apply u) (term_at-over t.nodes g.made.ordered m.member m.operator m.arguments m.over) ∙ ap (app m.operator) (apply_mapped (term_at t.nodes) u m.arguments)
          in
          BEqual-trans d (equal_is d left) (BEqual-trans d (BEqual-inside d m.operator args) (BEqual-trans d (equal_is d (sym right)) (one_value g m.member i within l m.of)))

      go : 0 < height i → Decided (class_of s i ≡ class_of s z) → ((k : ℕ) → height k ≤ n → k < length t.nodes → BEqual d (apply after (remade g k)) (apply u (term_at t.nodes k))) → BEqual d (apply after (remade g i)) (apply u (term_at t.nodes i))
      go st (inl e) before =
          subst (λ v. BEqual d v (apply u (term_at t.nodes i))) (sym (ap (apply after) (remade_bottom g i l e) ∙ after_new))
          (one_value g z i g.loose.within l (sym e))
      go st (inr other) before = elim (noted (entry g i)) as (λ _. BEqual d (apply after (remade g i)) (apply u (term_at t.nodes i))) [
        | inl unnoted ↦ made st other unnoted before
        | inr w ↦ let m = g.loose.sum i w.0 w.1 l w.2 in let low = m.lower in after_summed i l w.0 w.1 w.2 (before w.1 (omega (arith, low, h)) m.part)
      ]

  -- it keeps kinds and sorts
  pub after_keeps : KeepsKinds d after
  after_keeps x i = go (var_decided (new g) x)
    where
      go : Decided (new g ≡ x) → HasKind d (after x) (kind d x.sort)
      go (inl e) =
          let b = bottom_kinded g in
          let h = new_kind g b.0 b.1 in
          subst (λ y. HasKind d (after y) (kind d y.sort)) e (subst (λ v. HasKind d v (kind d (new g).sort)) (sym after_new) (subst (HasKind d (bottom g)) (sym h.1) b.1))
      go (inr n) = subst (λ v. HasKind d v (kind d x.sort)) (sym (after_other x n)) (i, refl)

  pub after_sorted : IsWellSorted d after
  after_sorted = (after_keeps, λ x. go x (var_decided (new g) x))
    where
      go : (x : Variable) → Decided (new g ≡ x) → HasSort d (after x) x.sort
      go x (inl e) = subst (λ y. HasSort d (after y) y.sort) e (subst (λ v. HasSort d v (new g).sort) (sym after_new) (bottom_sort g))
      go x (inr n) = subst (λ v. HasSort d v x.sort) (sym (after_other x n)) record { form = var x; equal = stop; gets = record { sort = x.sort; gets = refl; below = same } }

  -- a term has the kind of its instance
  mutual
    kind_before : (v : Term) (k : SortId) → HasKind d (apply after v) k → HasKind d v k
    kind_before (var x) k h = elim (var_decided (new g) x) as (λ _. HasKind d (var x) k) [
      | inl e ↦
          subst (λ y. HasKind d (var y) k) e
          (new_kind g k (subst (λ v. HasKind d v k) after_new (subst (λ y. HasKind d (after y) k) (sym e) h)))
      | inr n ↦ subst (λ v. HasKind d v k) (after_other x n) h
    ]
    kind_before (app f vs) k h = record { rank = h.rank; listed = h.listed; args = kinds_before vs _ h.args; result = h.result }

    kinds_before : (vs : Terms) (ks : List SortId) → HaveKinds d (apply_all after vs) ks → HaveKinds d vs ks
    kinds_before none [] h = h
    kinds_before none (k ∷ ks) h = absurd h
    kinds_before (more v vs) [] h = absurd h
    kinds_before (more v vs) (k ∷ ks) h = (kind_before v k h.0, kinds_before vs ks h.1)

  -- the new value of a node has its kind
  pub remade_kinded : (i : ℕ) (k : SortId) → i < length t.nodes → HasKind d (term_at t.nodes i) k → HasKind d (remade g i) k
  remade_kinded i k l h =
      kind_before (remade g i) k
      (b_equal_keeps_kind d g.good.fits (BEqual-sym d (after_remade (height i) i (omega arith) l)) k (HasKind-apply d u g.unifier.0 (term_at t.nodes i) k h))
