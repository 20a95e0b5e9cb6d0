-- A node is entered.
use Rattle.std.proofs.Common.{◌≡◌, ◌≢◌, ℕ, zero, suc, ◌<◌, List, [], ◌∷◌, ◌++◌, length, map, get_or, refl, sym, ap, ◌∙◌, subst, inl, inr, arith, All, AllPairs, Some, slice_get}
use Rattle.std.proofs.lemmas.List.{get_or_append_left, length_push, get_or_push, get_or_default}
use Rattle.std.proofs.lemmas.Option.{slice_get_within}
use Rattle.std.proofs.lemmas.Bool.{cases_lt}
use Rattle.fvn_terms.specs.Term.{Term, pack}
use Rattle.fvn_combine_nodes.specs.Table.{nothing, term_over, terms_of, term_at, IsOrdered}
use Rattle.fvn_combine_nodes.specs.declared.table.Node.{Node}
use Rattle.fvn_combine_nodes.specs.declared.table.Node.TheVariants.{Var, App}
use Rattle.fvn_combine_tree.specs.inner.Drafts.{AreNodes, IsEntered}
use Rattle.fvn_combine_nodes.proofs.Nodes.{terms_from-append, length-terms_of, term_at-new, term_at-over, term_at-variable, application_at, variable_at, pack-injective, terms-injective, arguments_within}

pub slice_get-append_left : (nodes rest : List Node) (i : ℕ) → i < length nodes → slice_get (nodes ++ rest) i ≡ slice_get nodes i
slice_get-append_left [] rest i h = absurd (omega arith)
slice_get-append_left (n ∷ nodes) rest zero h = refl
slice_get-append_left (n ∷ nodes) rest (suc i) h = slice_get-append_left nodes rest i (omega arith)

pub slice_get-push : (nodes : List Node) (n : Node) → slice_get (nodes ++ n ∷ []) (length nodes) ≡ Some n
slice_get-push [] n = refl
slice_get-push (m ∷ nodes) n = slice_get-push nodes n

-- the arguments of a node are nodes
abbrev pub HasArguments : List Node → Node → Type 0
HasArguments nodes (Var x) = Unit {0}
HasArguments nodes (App f ks) = All (λ k. k < length nodes) ks

-- the term of a node over these nodes
abbrev pub term_of : List Node → Node → Term
term_of nodes n = term_over (terms_of nodes) n

module _ (nodes : List Node) (are : AreNodes nodes) (n : Node) (arguments : HasArguments nodes n) where
  -- a node that is not there has a new term
  new_term : ((i : ℕ) → slice_get nodes i ≢ Some n) → (i : ℕ) → i < length nodes → term_at nodes i ≢ term_of nodes n
  new_term absent i h e = go n refl
    where
      go : (m : Node) → n ≡ m → ⊥
      go (Var x) is = absent i (variable_at nodes are.0 i x h (e ∙ ap (term_of nodes) is) ∙ ap Some (sym is))
      go (App f ks) is =
          let at = application_at nodes are.0 i f (pack (map (term_at nodes) ks)) h (e ∙ ap (term_of nodes) is) in
          let within : All (λ k. k < length nodes) ks = subst (HasArguments nodes) is arguments in
          let same : at.arguments ≡ ks = terms-injective nodes are.1 at.arguments ks (arguments_within nodes are.0 i f at.arguments at.is) within (pack-injective _ _ at.terms) in
          absent i (at.is ∙ ap (λ ls. Some (App f ls)) same ∙ ap Some (sym is))

  ordered_push : IsOrdered (nodes ++ n ∷ [])
  ordered_push i f ks is = elim (cases_lt i (length nodes)) [
    | inl l ↦ are.0 i f ks (sym (slice_get-append_left nodes (n ∷ []) i l) ∙ is)
    | inr g ↦
        let w = slice_get_within (nodes ++ n ∷ []) i (App f ks) is in
        let m = length_push nodes n in
        let at : i ≡ length nodes = omega (arith, w, m, g) in
        let last : Some n ≡ Some (App f ks) = sym (slice_get-push nodes n) ∙ ap (slice_get (nodes ++ n ∷ [])) (sym at) ∙ is in
        let node : n ≡ App f ks = cc in
        subst (λ j. All (λ k. k < j) ks) (sym at) (subst (HasArguments nodes) node arguments)
  ]

  distinct_push : ((i : ℕ) → slice_get nodes i ≢ Some n) → AllPairs ◌≢◌ (terms_of (nodes ++ n ∷ []))
  distinct_push absent = subst (AllPairs ◌≢◌) (sym (terms_from-append [] nodes (n ∷ []))) go
    where
      ts : List Term
      ts = terms_of nodes

      go : AllPairs ◌≢◌ (terms_of nodes ++ term_of nodes n ∷ [])
      go i j d lt within e =
          let m = length_push (terms_of nodes) (term_of nodes n) in
          let k = length-terms_of nodes in
          let first = get_or_append_left (terms_of nodes) (term_of nodes n ∷ []) d i (omega arith) in
          elim (cases_lt j (length nodes)) [
            | inl l ↦ are.1 i j d lt (omega arith) (sym first ∙ e ∙ get_or_append_left (terms_of nodes) (term_of nodes n ∷ []) d j (omega arith))
            | inr g ↦
                let at : length (terms_of nodes) ≡ j = omega arith in
                let last = get_or_push (terms_of nodes) (term_of nodes n) d j at in
                let there : i < length nodes = omega arith in
                new_term absent i there (default_at i d there ∙ sym first ∙ e ∙ last)
          ]
        where
          default_at : (i : ℕ) (d : Term) → i < length nodes → term_at nodes i ≡ get_or (terms_of nodes) i d
          default_at i d h = get_or_default (terms_of nodes) i nothing d (let k = length-terms_of nodes in omega (arith, k))

  module _ (now : List Node) (place : ℕ) (entered : IsEntered nodes now n place) where
    pub entered_nodes : AreNodes now
    entered_nodes = elim entered.how [
      | inl e ↦ subst AreNodes (sym e) are
      | inr p ↦ subst AreNodes (sym p.0) (ordered_push, distinct_push p.1)
    ]

    pub entered_within : place < length now
    entered_within = slice_get_within now place n entered.at

    -- a new node is the last
    pub entered_last : now ≡ nodes ++ n ∷ [] → ((i : ℕ) → slice_get nodes i ≢ Some n) → place ≡ length nodes
    entered_last grown absent =
        let at = ap (λ ns. slice_get ns place) (sym grown) ∙ entered.at in
        elim (cases_lt place (length nodes)) [
          | inl l ↦ absurd (absent place (sym (slice_get-append_left nodes (n ∷ []) place l) ∙ at))
          | inr g ↦
              let w = slice_get_within (nodes ++ n ∷ []) place n at in
              let m = length_push nodes n in
              omega (arith, w, m, g)
        ]

    -- the term is the one over the nodes before
    pub entered_term : term_at now place ≡ term_of nodes n
    entered_term = elim entered.how [
      | inl e ↦ ap (λ ns. term_at ns place) e ∙ there n refl (ap (λ ns. slice_get ns place) (sym e) ∙ entered.at)
      | inr p ↦ ap (λ ns. term_at ns place) p.0 ∙ ap (term_at (nodes ++ n ∷ [])) (entered_last p.0 p.1) ∙ term_at-new nodes n
    ]
      where
        there : (m : Node) → n ≡ m → slice_get nodes place ≡ Some n → term_at nodes place ≡ term_of nodes n
        there (Var x) is at = term_at-variable nodes place x (at ∙ ap Some is) ∙ sym (ap (term_of nodes) is)
        there (App f ks) is at = term_at-over nodes are.0 place f ks (at ∙ ap Some is) ∙ sym (ap (term_of nodes) is)
