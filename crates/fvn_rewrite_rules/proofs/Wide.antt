-- A new variable beside both sides of a rule.
use Rattle.std.proofs.Common.{◌≡◌, ◌≤◌, Bool, true, false, List, [], ◌∷◌, length, Some, refl, sym, ap, ◌∙◌, subst, arith}
use Rattle.std.specs.Prelude.{if◌then◌else◌}
use Rattle.std.proofs.lemmas.List.{length-append}
use Rattle.fvn_terms.specs.declared.plain.Var.{Var}
use Rattle.fvn_terms.specs.declared.plain.OpId.{OpId}
use Rattle.fvn_terms.specs.declared.plain.SortId.{SortId}
use Rattle.fvn_terms.specs.declared.declarations.Axioms.{Axioms}
use Rattle.fvn_terms.specs.declared.declarations.Axioms.TheVariants.{Free, Comm, AssocComm, AssocCommId}
use Rattle.fvn_terms.specs.declared.declarations.Declarations.{Declarations}
use Rattle.fvn_terms.specs.Term.{Term, Terms, var, app, none, more}
use Rattle.fvn_terms.specs.Substitution.{apply, same_var, Occurs}
use Rattle.fvn_terms.specs.Signature.{kind, axioms, IsSort, HasKind}
use Rattle.fvn_terms.specs.Equality.{two, is_sum, IsAssociative, BEqual}
use Rattle.fvn_terms.proofs.AxiomWords.{sums_associate}
use Rattle.fvn_terms.proofs.Substitutions.{apply-var, apply-agree}
use Rattle.fvn_terms.proofs.Equal.{HasKind-apply}
use Rattle.fvn_forms.specs.Flat.{FlatTerm, fvar, fapp, fnone, fmore, plain, plain_all}
use Rattle.fvn_forms.specs.InOrder.{sort}
use Rattle.fvn_forms.specs.Canon.{parts, all_parts, joined, canon, inst}
use Rattle.fvn_forms.specs.Settled.{Settled}
use Rattle.fvn_forms.specs.Good.{IsGood}
use Rattle.fvn_forms.proofs.InOrder.{length_sort}
use Rattle.fvn_forms.proofs.Build.{parts_none, build_sum}
use Rattle.fvn_forms.proofs.Eval.{canon_plain, eval_apply}
use Rattle.fvn_forms.proofs.Instances.{inst_build}
use Rattle.fvn_forms.proofs.KindsKept.{sum_of_kind}
use Rattle.fvn_forms.proofs.ToCanon.{to_canon, canon_of_kind}
use Rattle.fvn_forms.proofs.LeastSort.{sort_in-kind}
use Rattle.fvn_flat.specs.Forms.{head_of}
use Rattle.fvn_flat.specs.Fits.{AllFit, TakesAsDeclared, Takes}
use Rattle.fvn_flat.specs.Drawn.{Renaming}
use Rattle.fvn_flat.specs.Successors.{renamed_form}
use Rattle.fvn_flat.proofs.Binding.{same_var_is, same_var_itself}
use Rattle.fvn_rewrite_laws.proofs.Shaping.{two_terms}
use Rattle.fvn_rewrite_rules.specs.declared.rule.Rule.{Rule}
use Rattle.fvn_rewrite_rules.specs.inner.Making.{IsKindedRule, new_variable, beside}
use Rattle.fvn_rewrite_rules.proofs.General.{renaming_sorted}

-- z where x stands, and others as they are
abbrev pub swapped_if : Var → Bool → Var → Var
swapped_if z b y = if b then z else y

abbrev pub swapped : Var → Var → Renaming
swapped x z y = swapped_if z (same_var x y) y

pub swapped_sorts : (x z : Var) → z.sort ≡ x.sort → (y : Var) → (swapped x z y).sort ≡ y.sort
swapped_sorts x z e y = go (same_var x y) refl where
  go : (b : Bool) → same_var x y ≡ b → (swapped x z y).sort ≡ y.sort
  go true p = ap (λ b. (swapped_if z b y).sort) p ∙ e ∙ ap (λ (v : Var). v.sort) (same_var_is x y p)
  go false p = ap (λ b. (swapped_if z b y).sort) p

module _ (d : Declarations) where
  -- the head of a form is that of its plain term
  pub head_app : (t : FlatTerm) (f : OpId) → Settled d t → head_of t ≡ Some f → (args : Terms) × (plain t ≡ app f args)
  head_app (fvar x) f h e = cc
  head_app (fapp g false ts) f h e = let q : g ≡ f = cc in (plain_all ts, ap (λ o. app o (plain_all ts)) q)
  head_app (fapp g true fnone) f h e = let n : 2 ≤ 0 = h.0.two_or_more in absurd (omega arith)
  head_app (fapp g true (fmore t fnone)) f h e = let n : 2 ≤ 1 = h.0.two_or_more in absurd (omega arith)
  head_app (fapp g true (fmore t (fmore u us))) f h e = let q : g ≡ f = cc in (_, ap (λ o. plain (fapp o true (fmore t (fmore u us)))) q)

  pub app_head : (t : FlatTerm) (f : OpId) (args : Terms) → Settled d t → plain t ≡ app f args → head_of t ≡ Some f
  app_head (fvar x) f args h e = cc
  app_head (fapp g false ts) f args h e = let q : g ≡ f = cc in ap Some q
  app_head (fapp g true fnone) f args h e = let n : 2 ≤ 0 = h.0.two_or_more in absurd (omega arith)
  app_head (fapp g true (fmore t fnone)) f args h e = let n : 2 ≤ 1 = h.0.two_or_more in absurd (omega arith)
  app_head (fapp g true (fmore t (fmore u us))) f args h e = let q : g ≡ f = cc in ap Some q

  -- a variable that does not occur may be another
  fixed : (x z : Var) (t : FlatTerm) → Settled d t → (Occurs x (plain t) → ⊥) → inst d (λ y. fvar (swapped x z y)) t ≡ t
  fixed x z t h apart =
      sym (eval_apply d fvar (λ y. var (swapped x z y)) (plain t))
      ∙ ap (canon d) (apply-agree (λ y. var (swapped x z y)) var (plain t) same ∙ apply-var (plain t))
      ∙ canon_plain d t h
    where
      same : (y : Var) → Occurs y (plain t) → var (swapped x z y) ≡ var y
      same y o = go (same_var x y) refl where
        go : (b : Bool) → same_var x y ≡ b → var (swapped x z y) ≡ var y
        go true p = absurd (apart (subst (λ v. Occurs v (plain t)) (sym (same_var_is x y p)) o))
        go false p = ap (λ b. var (swapped_if z b y)) p

  -- another variable beside the same form
  pub renamed_beside : (f : OpId) (x z : Var) (t : FlatTerm) → Settled d t → (Occurs x (plain t) → ⊥) → renamed_form d (swapped x z) (beside d f x t) ≡ beside d f z t
  renamed_beside f x z t h apart =
      eval_apply d fvar (λ y. var (swapped x z y)) (plain (beside d f x t))
      ∙ inst_build d (λ y. fvar (swapped x z y)) (λ y. tt) f (t ∷ fvar x ∷ []) (h, (tt, tt))
      ∙ ap (beside d f (swapped x z x)) (fixed x z t h apart)
      ∙ ap (λ b. beside d f (swapped_if z b x) t) (same_var_itself x)

  module _ (good : IsGood d) where
    -- the sort of a new variable
    pub new_sort : (t : FlatTerm) (k : SortId) → Settled d t → HasKind d (plain t) k → (new_variable d t).sort ≡ k
    new_sort t k h j = sort_in-kind d good (λ x. x.sort) (λ x i. refl) t h k j

    -- what an associative operator heads
    module _ (f : OpId) (t : FlatTerm) (k : SortId) (settled : Settled d t) (kinded : HasKind d (plain t) k) (heads : head_of t ≡ Some f) (associative : IsAssociative (axioms d f)) where
      abbrev args : Terms
      args = (head_app t f settled heads).0

      headed_kind : HasKind d (app f args) k
      headed_kind = subst (λ u. HasKind d u k) (head_app t f settled heads).1 kinded

      pub is_sort : IsSort d k
      is_sort = subst (IsSort d) headed_kind.result (good.kinded.listed headed_kind.rank.result (good.kinded.ranks f headed_kind.rank headed_kind.listed).1)

      pub own_kind : kind d k ≡ k
      own_kind = ap (kind d) (sym headed_kind.result) ∙ good.kinded.own headed_kind.rank.result ∙ headed_kind.result

      -- beside a variable of the kind
      module _ (z : Var) (of_kind : z.sort ≡ k) where
        pub variable_kind : HasKind d (var z) k
        variable_kind = (subst (IsSort d) (sym of_kind) is_sort, ap (kind d) of_kind ∙ own_kind)

        module _ (u : FlatTerm) (u_settled : Settled d u) (u_kinded : HasKind d (plain u) k) where
          pub pair_kind : HasKind d (two f (plain u) (var z)) k
          pair_kind =
              let w = two_terms d good f associative args k headed_kind in
              sum_of_kind d good.fits f associative w.0 w.1 (plain u) (var z) k (subst (λ us. HasKind d (app f us) k) w.2 headed_kind) u_kinded variable_kind

          pub beside_canon : beside d f z u ≡ canon d (two f (plain u) (var z))
          beside_canon = ap (λ v. beside d f z v) (sym (canon_plain d u u_settled))

          pub beside_kind : HasKind d (plain (beside d f z u)) k
          beside_kind = subst (λ v. HasKind d (plain v) k) (sym beside_canon) (canon_of_kind d good.fits (two f (plain u) (var z)) k pair_kind)

          pub fit : AllFit d (u ∷ fvar z ∷ [])
          fit = (record { flat = u_settled; kinded = (k, u_kinded) }, (record { flat = tt; kinded = (k, variable_kind) }, tt))

          pub takes : Takes d f (u ∷ fvar z ∷ [])
          takes = record { rank = headed_kind.rank; listed = headed_kind.listed; args = go (axioms d f) associative } where
            of_rank : (v : Term) → HasKind d v k → HasKind d v (kind d headed_kind.rank.result)
            of_rank v h = subst (HasKind d v) (sym headed_kind.result) h

            go : (a : Axioms) → IsAssociative a → TakesAsDeclared d a headed_kind.rank (u ∷ fvar z ∷ [])
            go Free h = absurd h
            go Comm h = absurd h
            go AssocComm h = (omega arith, (of_rank (plain u) u_kinded, (of_rank (var z) variable_kind, tt)))
            go (AssocCommId o) h = (omega arith, (of_rank (plain u) u_kinded, (of_rank (var z) variable_kind, tt)))

      -- some summands stand beside the variable, so that the operator heads what is built
      some_parts : parts d f t ≡ [] → ⊥
      some_parts e =
          let n = parts_none d f t settled e in
          let w = two_terms d good f associative args k headed_kind in
          let p : app n.0 none ≡ app f (more w.0 (more w.1 none)) = sym (ap plain n.2) ∙ (head_app t f settled heads).1 ∙ ap (app f) w.2 in
          cc

      pub beside_head : (z : Var) → head_of (beside d f z t) ≡ Some f
      beside_head z =
          ap head_of (build_sum d f associative t (fvar z ∷ []))
          ∙ (
          let a = some_length (parts d f t) some_parts in
          let b = length-append (parts d f t) (fvar z ∷ []) in
          let s = length_sort (all_parts d f (t ∷ fvar z ∷ [])) in
          let many : 2 ≤ length (sort (all_parts d f (t ∷ fvar z ∷ []))) = omega arith in
          of_joined (sort (all_parts d f (t ∷ fvar z ∷ []))) many)
        where
          some_length : (l : List FlatTerm) → (l ≡ [] → ⊥) → 1 ≤ length l
          some_length [] n = absurd (n refl)
          some_length (u ∷ l) n = omega arith

          of_joined : (l : List FlatTerm) → 2 ≤ length l → head_of (joined d f l) ≡ Some f
          of_joined [] n = absurd (omega arith)
          of_joined (u ∷ []) n = absurd (omega arith)
          of_joined (u ∷ v ∷ l) n = refl

    -- both sides of a rule may stand beside a new variable
    module _ (rule : Rule) (kinded : IsKindedRule d rule) (f : OpId) (heads : head_of rule.left ≡ Some f) (makes_sums : is_sum (axioms d f) ≡ true) (z : Var) (new : z ≡ new_variable d rule.left) where
      abbrev k : SortId
      k = kinded.kinds.kind

      new_kind : z.sort ≡ k
      new_kind = ap (λ (v : Var). v.sort) new ∙ new_sort rule.left k kinded.left kinded.kinds.left

      pub left_beside : AllFit d (rule.left ∷ fvar z ∷ []) × Takes d f (rule.left ∷ fvar z ∷ [])
      left_beside =
          let a = sums_associate (axioms d f) makes_sums in (
            fit f rule.left k kinded.left kinded.kinds.left heads a z new_kind rule.left kinded.left kinded.kinds.left,
            takes f rule.left k kinded.left kinded.kinds.left heads a z new_kind rule.left kinded.left kinded.kinds.left,
          )

      pub right_beside : AllFit d (rule.right ∷ fvar z ∷ []) × Takes d f (rule.right ∷ fvar z ∷ [])
      right_beside =
          let a = sums_associate (axioms d f) makes_sums in (
            fit f rule.left k kinded.left kinded.kinds.left heads a z new_kind rule.right kinded.right kinded.kinds.right,
            takes f rule.left k kinded.left kinded.kinds.left heads a z new_kind rule.right kinded.right kinded.kinds.right,
          )

    -- a form whose renaming is another form has it as an instance
    pub renamed_equal : (by : Renaming) → ((x : Var) → (by x).sort ≡ x.sort) → (t u : FlatTerm) (k : SortId) → HasKind d (plain t) k → renamed_form d by t ≡ u → BEqual d (apply (λ x. var (by x)) (plain t)) (plain u)
    renamed_equal by sorts t u k h e =
        let whole = apply (λ x. var (by x)) (plain t) in
        subst (λ v. BEqual d whole (plain v)) e (to_canon d good.fits whole k (HasKind-apply d (λ x. var (by x)) (renaming_sorted d by sorts).0 (plain t) k h))
