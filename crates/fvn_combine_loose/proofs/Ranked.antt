-- What ranks give over nodes whose sorts are known.
use Rattle.std.proofs.Common.{◌≡◌, ℕ, zero, suc, ◌<◌, List, [], ◌∷◌, ◌++◌, length, map, get_or, refl, sym, ap, ◌∙◌, subst, ◌⊎◌, inl, inr, arith, Option, Some, slice_get}
use Rattle.std.specs.Prelude.{IfSome}
use Rattle.std.proofs.lemmas.List.{get_or-map, length-map}
use Rattle.fvn_terms.specs.declared.plain.Var.{Var as Variable}
use Rattle.fvn_terms.specs.declared.plain.OpId.{OpId}
use Rattle.fvn_terms.specs.declared.plain.SortId.{SortId}
use Rattle.fvn_terms.specs.declared.declarations.Rank.{Rank}
use Rattle.fvn_terms.specs.declared.declarations.Declarations.{Declarations}
use Rattle.fvn_terms.specs.Term.{Term, Terms, var, app, none, more, pack}
use Rattle.fvn_terms.specs.Signature.{kind, AtOrBelow, same}
use Rattle.fvn_terms.specs.Equality.{IsAxiomEitherWay}
use Rattle.fvn_terms.specs.Sorts.{HasRank, is_declared, on_kinds, GetAtMost, HasSort}
use Rattle.fvn_terms.proofs.Steps.{EachLeads, each_none, each_more}
use Rattle.fvn_terms.proofs.Equal.{BEqual-refl, BEqual-inside}
use Rattle.fvn_terms.proofs.WellSorted.{AtOrBelow-trans}
use Rattle.fvn_combine_nodes.specs.Table.{term_at}
use Rattle.fvn_combine_nodes.specs.declared.table.Node.{Node}
use Rattle.fvn_combine_nodes.specs.declared.table.Node.TheVariants.{Var}
use Rattle.fvn_combine_nodes.proofs.Nodes.{term_at-variable}
use Rattle.fvn_combine_loose.specs.inner.NodeSorts.{HaveSorts, Fit, IsGivenBy}

module _ (d : Declarations) where
  -- a term of a sort is of those above it
  pub has_above : (t : Term) (q s : SortId) → HasSort d t q → AtOrBelow d q s → HasSort d t s
  has_above t q s h b = record { form = h.form; equal = h.equal; gets = record { sort = h.gets.sort; gets = h.gets.gets; below = AtOrBelow-trans d h.gets.below b } }

  -- a variable has its own sort
  pub has_own : (nodes : List Node) (i : ℕ) (x : Variable) → slice_get nodes i ≡ Some (Var x) → HasSort d (term_at nodes i) x.sort
  has_own nodes i x is = rw (term_at-variable nodes i x is) record { form = var x; equal = BEqual-refl d (var x); gets = record { sort = x.sort; gets = refl; below = same } }

  -- forms of these terms that get these sorts
  record Forms (ts : Terms) (ss : List SortId) : Type 0 where
    forms : Terms
    equal : EachLeads (IsAxiomEitherWay d) ts forms
    fit : GetAtMost d forms ss

  module _ (nodes : List Node) where
    forms_of : (ks : List ℕ) (ss : List SortId) → Fit d nodes ks ss → Forms (pack (map (term_at nodes) ks)) ss
    forms_of [] [] h = record { forms = none; equal = each_none; fit = tt }
    forms_of [] (s ∷ ss) h = absurd (let n = h.as_many in omega (arith, n))
    forms_of (k ∷ ks) [] h = absurd (let n = h.as_many in omega (arith, n))
    forms_of (k ∷ ks) (s ∷ ss) h =
        let a = h.each 0 k s (omega arith) in
        let b = forms_of ks ss record { as_many = let n = h.as_many in omega (arith, n); each = λ p l q m. h.each (suc p) l q (omega (arith, m)) } in
        record { forms = more a.form b.forms; equal = each_more a.equal b.equal; fit = (a.gets, b.fit) }

    -- places of the kinds of sorts
    pub fit_on_kinds : (ks : List ℕ) (args : List SortId) → length ks ≡ length args → ((p k : ℕ) (s : SortId) → p < length ks → HasSort d (term_at nodes (get_or ks p k)) (kind d (get_or args p s))) → Fit d nodes ks (map (kind d) args)
    fit_on_kinds ks args n each = record {
      as_many = n ∙ sym (length-map args (kind d));
      each = λ p k s l. subst (HasSort d (term_at nodes (get_or ks p k))) (sym (get_or-map (kind d) args p s s (omega (arith, l, n)))) (each p k s l);
    }

    over_rank : (f : OpId) (ks : List ℕ) (ss : List SortId) (s : SortId) → HasRank d f ss s → Fit d nodes ks ss → HasSort d (app f (pack (map (term_at nodes) ks))) s
    over_rank f ks ss s rank h =
        let r = forms_of ks ss h in
        record { form = app f r.forms; equal = BEqual-inside d f r.equal; gets = record { sort = s; gets = record { sorts = ss; rank = rank; args = r.fit }; below = same } }

    -- a rank whose sorts the nodes have gives its result
    pub given_by : (ks : List ℕ) (rank : Rank) → Fit d nodes ks rank.args → IsGivenBy d nodes ks rank rank.result
    given_by ks rank h f listed = over_rank f ks rank.args rank.result (is_declared rank listed refl refl) h

    -- and on kinds the kind of that
    pub given_on_kinds : (ks : List ℕ) (rank : Rank) → Fit d nodes ks (map (kind d) rank.args) → IsGivenBy d nodes ks rank (kind d rank.result)
    given_on_kinds ks rank h f listed = over_rank f ks (map (kind d) rank.args) (kind d rank.result) (on_kinds rank listed refl refl) h

    -- one of two sorts
    pub one_of : (P : SortId → Type 0) (best next result : Option SortId) → (result ≡ best) ⊎ (result ≡ next) → IfSome best P → IfSome next P → IfSome result P
    one_of P best next result (inl e) a b = subst (λ o. IfSome o P) (sym e) a
    one_of P best next result (inr e) a b = subst (λ o. IfSome o P) (sym e) b

    -- no sort is noted yet, or one more
    pub no_sorts : HaveSorts d nodes []
    no_sorts k s e = cc

    last_or_before : (sorts : List (Option SortId)) (o : Option SortId) (k : ℕ) (s : SortId) → slice_get (sorts ++ o ∷ []) k ≡ Some (Some s) → (slice_get sorts k ≡ Some (Some s)) ⊎ ((k ≡ length sorts) × (o ≡ Some s))
    last_or_before [] o zero s e = inr (refl, cc)
    last_or_before [] o (suc k) s e = cc
    last_or_before (q ∷ sorts) o zero s e = inl e
    last_or_before (q ∷ sorts) o (suc k) s e = elim (last_or_before sorts o k s e) [
      | inl b ↦ inl b
      | inr l ↦ inr (ap suc l.0, l.1)
    ]

    pub one_more_sort : (sorts : List (Option SortId)) (o : Option SortId) (i : ℕ) → length sorts ≡ i → HaveSorts d nodes sorts → IfSome o (HasSort d (term_at nodes i)) → HaveSorts d nodes (sorts ++ o ∷ [])
    one_more_sort sorts o i n h here k s e = elim (last_or_before sorts o k s e) [
      | inl b ↦ h k s b
      | inr l ↦ subst (λ j. HasSort d (term_at nodes j) s) (sym (l.0 ∙ n)) (subst (λ p. IfSome p (HasSort d (term_at nodes i))) l.1 here)
    ]
