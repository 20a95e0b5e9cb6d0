-- The sizes of what bindings unfold to add up.
use Rattle.std.proofs.Common.{◌≡◌, ℕ, false, List, [], ◌∷◌, map, refl, sym, ap, ◌∙◌, subst, inl, inr, All, Some}
use Rattle.std.specs.List.{AllByRecursion}
use Rattle.std.proofs.lemmas.List.Elements.{All-contains}
use Rattle.fvn_base.proofs.Options.{Some-injective}
use Rattle.fvn_terms.specs.declared.plain.Var.{Var}
use Rattle.fvn_terms.specs.declared.plain.OpId.{OpId}
use Rattle.fvn_terms.specs.declared.declarations.Declarations.{Declarations}
use Rattle.fvn_terms.specs.declared.declarations.Axioms.{Axioms}
use Rattle.fvn_terms.specs.declared.declarations.Axioms.TheVariants.{Free, Comm, AssocComm, AssocCommId}
use Rattle.fvn_terms.specs.Term.{Terms, none, more, pack}
use Rattle.fvn_terms.specs.Signature.{axioms}
use Rattle.fvn_forms.specs.Flat.{FlatTerm, fvar, fapp, fpack, symbols}
use Rattle.fvn_forms.specs.InOrder.{sort}
use Rattle.fvn_forms.specs.Canon.{build, built, eval_all, inst}
use Rattle.fvn_forms.specs.Settled.{Settled, IsPiece}
use Rattle.fvn_forms.proofs.InOrder.{each_sort}
use Rattle.fvn_flat.specs.Bindings.{Bindings}
use Rattle.fvn_flat.specs.Solving.{problem_of}
use Rattle.fvn_flat.specs.SolvedLists.{Form, unbound, as_member, as_sum, Plan, IsSimple, IsClass, IsBinding, names_of, over_classes, members_of, bound_as}
use Rattle.fvn_flat.specs.declared.solver.Pairs.{Pairs}
use Rattle.fvn_combine_nodes.specs.Table.{NodeTable, term_at}
use Rattle.fvn_combine_nodes.specs.Laws.{class_at}
use Rattle.fvn_combine_nodes.specs.States.{class_of}
use Rattle.fvn_combine_nodes.specs.declared.state.State.{State}
use Rattle.fvn_combine_nodes.proofs.Lists.{all_from}
use Rattle.fvn_combine_supports.specs.Laws.{CombinationsSolve}
use Rattle.fvn_combine_systems.specs.Laws.{CountsSolve}
use Rattle.fvn_combine_choices.specs.Choosing.{Systems, Choice}
use Rattle.fvn_combine_choices.specs.Plans.{IsFormBy, unfolds_to, size_in}
use Rattle.fvn_combine_choices.specs.Laws.{IsPlanned, SizesAddUp}
use Rattle.fvn_combine_choices.proofs.Triangular.{unfolding_bound, unfolding_settled}
use Rattle.fvn_combine_choices.proofs.Planned.{class_below, bound_operator}
use Rattle.fvn_combine_choices.proofs.Members.{each_member}
use Rattle.fvn_combine_choices.proofs.Kinding.{over_classes_is}
use Rattle.fvn_combine_choices.proofs.Values.{members_or_identity}
use Rattle.fvn_combine_choices.proofs.Measured.{IsVariable, size_unjoined, size_sum}
use Rattle.fvn_combine_choices.proofs.Alone.{each_instance, part_piece}

-- what a free or commutative operator builds over variables is unjoined
size_built : (d : Declarations) (s : Var → FlatTerm) → ((x : Var) → Settled d (s x)) → (g : OpId) → IsSimple (axioms d g) → (l : List FlatTerm) → AllByRecursion IsVariable l → symbols (inst d s (build d g l)) ≡ size_in (λ x. symbols (s x)) (build d g l)
size_built d s settled g simple [] all = refl
size_built d s settled g simple (u ∷ l) all = go (axioms d g) refl
  where
    from : (m : List FlatTerm) → build d g (u ∷ l) ≡ fapp g false (fpack m) → AllByRecursion IsVariable m → symbols (inst d s (build d g (u ∷ l))) ≡ size_in (λ x. symbols (s x)) (build d g (u ∷ l))
    from m e v = ap (λ w. symbols (inst d s w)) e ∙ size_unjoined d s settled g simple m v ∙ sym (ap (size_in (λ x. symbols (s x))) e)

    go : (a : Axioms) → axioms d g ≡ a → symbols (inst d s (build d g (u ∷ l))) ≡ size_in (λ x. symbols (s x)) (build d g (u ∷ l))
    go Free e = from (u ∷ l) (ap (λ a. built d a g (u ∷ l)) e) all
    go Comm e = from (sort (u ∷ l)) (ap (λ a. built d a g (u ∷ l)) e) (each_sort IsVariable (u ∷ l) all)
    go AssocComm e = absurd (subst IsSimple e simple)
    go (AssocCommId o) e = absurd (subst IsSimple e simple)

module _ {d : Declarations} {given : Pairs} {first : ℕ} {t : NodeTable} {s : State} {y : Systems} {c : Choice} {next : ℕ} {plan : Plan} {bindings : Bindings} (h : IsPlanned d given first t s y c next plan bindings) where
  names_variables : (ts : Terms) → AllByRecursion IsVariable (eval_all d fvar (names_of d (problem_of given) (class_at t (class_of s)) plan ts))
  names_variables none = tt
  names_variables (more u ts) = ((plan.name (class_at t (class_of s) u), refl), names_variables ts)

  module _ (solve : CountsSolve) (combine : CombinationsSolve) where
    abbrev AddsUp : FlatTerm → Type 0
    AddsUp u = symbols (inst d (unfolds_to d bindings) u) ≡ size_in (λ x. symbols (unfolds_to d bindings x)) u

    class_adds : (k : ℕ) → IsClass d (problem_of given) (class_at t (class_of s)) k → (u : FlatTerm) → bound_as d (problem_of given) (class_at t (class_of s)) plan (plan.form k) k ≡ Some u → AddsUp u
    class_adds k is u e = go (plan.form k) (h.plan_by.forms k (class_below h k is)) e
      where
        go : (form : Form) → IsFormBy d t (class_of s) y c k form → bound_as d (problem_of given) (class_at t (class_of s)) plan form k ≡ Some u → AddsUp u
        go unbound by e = cc
        go (as_member v) by e =
            let m = by.1 in
            let ts = pack (map (term_at t.nodes) m.arguments) in
            let same = sym (over_classes_is h by.0 m.operator m.arguments m.over) ∙ ap (over_classes d (problem_of given) (class_at t (class_of s)) plan) by.2 ∙ Some-injective e in
            subst AddsUp same (size_built d (unfolds_to d bindings) (unfolding_settled d bindings) m.operator m.simple (eval_all d fvar (names_of d (problem_of given) (class_at t (class_of s)) plan ts)) (names_variables ts))
        go (as_sum f) by e =
            let sum_of = bound_operator h f k by in
            let l = members_of d (problem_of given) (class_at t (class_of s)) plan f k in
            subst AddsUp (Some-injective e)
            (size_sum d (unfolds_to d bindings) (unfolding_settled d bindings) f sum_of.associative l (members_or_identity h f k by)
            (each_member IsVariable (plan.columns f) (plan.parts f) k (λ p m some. (p.variable, refl)))
            (each_instance h (IsPiece d f) l (each_member (λ w. IsPiece d f (inst d (unfolds_to d bindings) w)) (plan.columns f) (plan.parts f) k (λ p m some. part_piece h solve combine f sum_of p m))))

    binding_adds : (b : Var × FlatTerm) → IsBinding d (problem_of given) (class_at t (class_of s)) plan b → AddsUp b.1
    binding_adds b (inl r) = class_adds r.0 r.1 b.1 r.3
    binding_adds b (inr r) = subst AddsUp (sym r.2) refl

    pub sizes_are_sums : All (λ b. symbols (unfolds_to d bindings b.0) ≡ size_in (λ x. symbols (unfolds_to d bindings x)) b.1) bindings
    sizes_are_sums = all_from (λ b. symbols (unfolds_to d bindings b.0) ≡ size_in (λ x. symbols (unfolds_to d bindings x)) b.1) bindings (λ b m.
        ap symbols (unfolding_bound d bindings h.bindings_by.triangular b m) ∙ binding_adds b (All-contains (IsBinding d (problem_of given) (class_at t (class_of s)) plan) bindings b h.bindings_by.no_other m))

pub sizes_add_up : CountsSolve → CombinationsSolve → SizesAddUp
sizes_add_up solve combine = λ d given first t s y c next plan bindings h. sizes_are_sums h solve combine
