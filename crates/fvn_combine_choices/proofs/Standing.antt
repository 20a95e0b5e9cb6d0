-- What is asked of a solved list but for its unifier: names, forms, and what sums rest on.
use Rattle.std.proofs.Common.{◌≡◌, ◌≢◌, ℕ, ◌<◌, [], length, map, get_or, sum_by, refl, sym, ap, ◌∙◌, subst, ◌⊎◌, inl, inr, arith, AllPairs, Any, Contains, slice_index}
use Rattle.std.proofs.lemmas.Bool.{cases_eq}
use Rattle.std.proofs.lemmas.List.{length-map, get_or-map}
use Rattle.std.proofs.lemmas.Option.{slice_get_within}
use Rattle.fvn_terms.specs.declared.plain.OpId.{OpId}
use Rattle.fvn_terms.specs.declared.declarations.Declarations.{Declarations}
use Rattle.fvn_terms.specs.Term.{pack}
use Rattle.fvn_terms.specs.Signature.{axioms}
use Rattle.fvn_lindio.specs.Systems.{IsMinimal, IsUnused, rows_of}
use Rattle.fvn_flat.specs.Bindings.{Bindings}
use Rattle.fvn_flat.specs.Partitions.{HasNoIdentity, IsNode}
use Rattle.fvn_flat.specs.SumSystems.{IsSumSystem}
use Rattle.fvn_flat.specs.Solving.{problem_of}
use Rattle.fvn_flat.specs.SolvedLists.{Form, unbound, as_member, as_sum, Part, Plan, component, IsClass, IsFormOf, IsNew, StandsForClass, StandsForNone, RestsOn, members_of}
use Rattle.fvn_flat.specs.declared.solver.Pairs.{Pairs}
use Rattle.fvn_combine_nodes.specs.Table.{NodeTable, term_at}
use Rattle.fvn_combine_nodes.specs.Laws.{class_at}
use Rattle.fvn_combine_nodes.specs.States.{class_of}
use Rattle.fvn_combine_nodes.specs.declared.state.State.{State}
use Rattle.fvn_combine_nodes.specs.declared.table.Node.TheVariants.{App}
use Rattle.fvn_combine_nodes.proofs.Nodes.{term_at-over}
use Rattle.fvn_combine_nodes.proofs.NodesOf.{is_node, own_class}
use Rattle.fvn_combine_nodes.proofs.Lists.{all_from}
use Rattle.fvn_combine_systems.specs.Laws.{NodeSystemsAreSumSystems}
use Rattle.fvn_combine_leaves.specs.Leaves.{IsSumOperator, Uses}
use Rattle.fvn_combine_choices.specs.Binding.{IsBound, IsConstant}
use Rattle.fvn_combine_choices.specs.Choosing.{Systems, Choice, member_count}
use Rattle.fvn_combine_choices.specs.Plans.{IsFormBy}
use Rattle.fvn_combine_choices.specs.Laws.{IsPlanned}
use Rattle.fvn_combine_choices.proofs.Columns.{sum_by_map, sum_by_same, chosen_distinct}
use Rattle.fvn_combine_choices.proofs.Members.{times_in, length_members}
use Rattle.fvn_combine_choices.proofs.Places.{sum_heads}
use Rattle.fvn_combine_choices.proofs.Using.{uses_or_unused}
use Rattle.fvn_combine_choices.proofs.Bound.{form_of_sum, bound_of_form}
use Rattle.fvn_combine_choices.proofs.Planned.{class_below, column_class, names_apart, solution_no_name, solution_not_given, bound_operator}
use Rattle.fvn_combine_choices.proofs.Parts.{HasConstant, HasNone, component_is, part_minimal, part_stands, part_uses, constant_once, constants_apart, constant_part, part_named}

module _ {d : Declarations} {given : Pairs} {first : ℕ} {t : NodeTable} {s : State} {y : Systems} {c : Choice} {next : ℕ} {plan : Plan} {bindings : Bindings} (h : IsPlanned d given first t s y c next plan bindings) where
  -- the members of a sum are as many as the choice has
  pub length_sum : (f : OpId) → IsSumOperator d t f → (k : ℕ) → length (members_of d (problem_of given) (class_at t (class_of s)) plan f k) ≡ member_count y c f k
  length_sum f sum k =
      length_members (plan.columns f) (plan.parts f) k
      ∙ sum_by_same (times_in (plan.columns f) k) (λ p. component (y.columns f) p.solution k) (λ p. component_is h f sum p k) (plan.parts f)
      ∙ sym (sum_by_map (λ v. component (y.columns f) v k) (λ p. p.solution) (plan.parts f))
      ∙ ap (sum_by (λ v. component (y.columns f) v k)) (h.plan_by.solutions f sum)

  -- a sum without members is one of an operator with an identity
  pub some_members : (f : OpId) (k : ℕ) → IsBound d t (class_of s) c.tag f k → HasNoIdentity (axioms d f) → members_of d (problem_of given) (class_at t (class_of s)) plan f k ≢ []
  some_members f k bound bare e =
      let sum = bound_operator h f k bound in
      let n = (h.possible.acceptable f sum).filled k (record { bound = bound; why = inl bare }) in
      let l = length_sum f sum k in
      let z : length (members_of d (problem_of given) (class_at t (class_of s)) plan f k) ≡ 0 = ap length e in
      omega (arith, n, l, z)

  form_is : (k : ℕ) → k < length t.nodes → (form : Form) → plan.form k ≡ form → IsFormOf d (problem_of given) (class_at t (class_of s)) plan k form
  form_is k l form e = go form (subst (IsFormBy d t (class_of s) y c k) e (h.plan_by.forms k l))
    where
      go : (form : Form) → IsFormBy d t (class_of s) y c k form → IsFormOf d (problem_of given) (class_at t (class_of s)) plan k form
      go unbound by = tt
      go (as_member u) by =
          let within = slice_get_within t.nodes by.0 (App by.1.operator by.1.arguments) by.1.over in
          record {
            node = subst (IsNode d (problem_of given)) by.2 (is_node h.well_made h.table by.0 within);
            of = ap (class_at t (class_of s)) (sym by.2) ∙ own_class h.well_made h.table (class_of s) by.0 within ∙ by.1.of;
            operator = by.1.operator;
            arguments = pack (map (term_at t.nodes) by.1.arguments);
            is = sym by.2 ∙ term_at-over t.nodes h.well_made.ordered by.0 by.1.operator by.1.arguments by.1.over;
            simple = by.1.simple;
          }
      go (as_sum f) by =
          let sum = bound_operator h f k by in
          record { heads = sum_heads h.well_made h.table f sum; associative = sum.associative; members = some_members f k by }

  module _ (f : OpId) (sum : IsSumOperator d t f) where
    -- a class that a part has, and that is bound to no sum of f, is a constant
    constant_of : (p : Part) → Contains (plan.parts f) p → (k : ℕ) → IsClass d (problem_of given) (class_at t (class_of s)) k → plan.form k ≢ as_sum f → 0 < component (plan.columns f) p.solution k → IsConstant d t (class_of s) c.tag f k
    constant_of p m k is no_sum some = record {
      used = part_uses h f sum p m k (let e = component_is h f sum p k in omega (arith, e, some));
      not_bound = λ b. no_sum (form_of_sum h.partition y c k (plan.form k) (h.plan_by.forms k (class_below h k is)) f b);
    }

    no_form : (k : ℕ) → IsConstant d t (class_of s) c.tag f k → plan.form k ≢ as_sum f
    no_form k is e = is.not_bound (bound_of_form h.partition y c k (plan.form k) (h.plan_by.forms k (class_below h k (column_class h f k is.used.column))) f e)

    stands : (p : Part) → Contains (plan.parts f) p → StandsForClass d (problem_of given) (class_at t (class_of s)) plan f p ⊎ StandsForNone d (problem_of given) (class_at t (class_of s)) plan f p
    stands p m = elim (part_stands h f sum p m) [
      | inl q ↦ inl (one q)
      | inr q ↦ inr (none q)
    ]
      where
        one : HasConstant h f sum p → StandsForClass d (problem_of given) (class_at t (class_of s)) plan f p
        one q = record {
          k = q.number;
          is_class = column_class h f q.number q.constant.used.column;
          no_sum = no_form q.number q.constant;
          one = component_is h f sum p q.number ∙ constant_once h f sum p m q.number q.constant q.some;
          alone = λ j is no_sum other. elim (cases_eq (component (plan.columns f) p.solution j) 0) [
            | inl z ↦ z
            | inr o ↦
                let some : 0 < component (plan.columns f) p.solution j = omega (arith, o) in
                let e = component_is h f sum p j in
                absurd (other (constants_apart h f sum p m j q.number (constant_of p m j is no_sum some) q.constant (omega (arith, e, some)) q.some))
          ];
          named = q.named;
        }

        none : HasNone h f sum p → StandsForNone d (problem_of given) (class_at t (class_of s)) plan f p
        none q = record {
          none = λ j is no_sum. elim (cases_eq (component (plan.columns f) p.solution j) 0) [
            | inl z ↦ z
            | inr o ↦ component_is h f sum p j ∙ q.none j (constant_of p m j is no_sum (omega (arith, o)))
          ];
          fresh = record {
            not_given = solution_not_given h f p.variable q.new;
            no_name = λ k is. solution_no_name h f p.variable q.new k (class_below h k is);
          };
        }

    solutions_apart : AllPairs (λ p q. (p.solution ≢ q.solution) × (p.variable ≢ q.variable)) (plan.parts f)
    solutions_apart i j p lt l = (
      λ e. different i j p.solution lt (let n = length-map (plan.parts f) (λ p. p.solution) in omega (arith, l, n)) (get_or-map (λ p. p.solution) (plan.parts f) i p p.solution (omega (arith, lt, l)) ∙ e ∙ sym (get_or-map (λ p. p.solution) (plan.parts f) j p p.solution l)),
      h.plan_by.distinct f sum i j p lt l,
    )
      where
        different : AllPairs ◌≢◌ (map (λ p. p.solution) (plan.parts f))
        different = subst (AllPairs ◌≢◌) (sym (h.plan_by.solutions f sum)) (chosen_distinct (c.number f) (y.basis f) (h.systems.distinct f sum))

    pub rests_on : NodeSystemsAreSumSystems → RestsOn d (problem_of given) (class_at t (class_of s)) plan f (y.system f)
    rests_on law = record {
      is_system = subst (λ l. IsSumSystem d (problem_of given) (class_at t (class_of s)) f l (y.system f)) (sym (h.plan_by.columns f sum)) (law d (problem_of given) t h.well_made h.table (class_of s) f sum.associative (y.columns f) (y.system f) (h.systems.is_system f sum));
      minimal = all_from (λ p. IsMinimal (y.system f).columns (rows_of (y.system f)) p.solution) (plan.parts f) (part_minimal h f sum);
      distinct = solutions_apart;
      standing = all_from (λ p. StandsForClass d (problem_of given) (class_at t (class_of s)) plan f p ⊎ StandsForNone d (problem_of given) (class_at t (class_of s)) plan f p) (plan.parts f) stands;
      covered = λ k is used no_sum no_identity. covers_used k is used.0 used.1 used.2 used.3 no_sum;
    }
      where
        covers_used : (k : ℕ) → IsClass d (problem_of given) (class_at t (class_of s)) k → (i : ℕ) → i < length (plan.columns f) → slice_index (plan.columns f) i ≡ k → (IsUnused (rows_of (y.system f)) i → ⊥) → plan.form k ≢ as_sum f → Any (λ p. p.variable ≡ plan.name k) (plan.parts f)
        covers_used k is i l e used no_sum =
            let same = h.plan_by.columns f sum in
            let within : i < length (y.columns f) = subst (λ l. i < length l) same l in
            let at : get_or (y.columns f) i 0 ≡ k = ap (λ l. get_or l i 0) (sym same) ∙ e in
            elim (uses_or_unused d t (class_of s) f (y.columns f) (y.system f) (h.systems.is_system f sum) sum.associative i within) [
              | inl u ↦
                  let constant : IsConstant d t (class_of s) c.tag f k = record {
                    used = subst (Uses d t (class_of s) f) at u;
                    not_bound = λ b. no_sum (form_of_sum h.partition y c k (plan.form k) (h.plan_by.forms k (class_below h k is)) f b);
                  }
                  in
                  let p = constant_part h f sum k constant in
                  (p.1.0.0, p.0, p.1.0.1, p.1.0.2, part_named h f sum p.0 p.1.0 k constant p.1.1)
              | inr z ↦ absurd (used z)
            ]

  -- a new variable stands for parts of one operator only
  pub parts_apart : (f g : OpId) (p q : Part) → f ≢ g → Contains (plan.parts f) p → Contains (plan.parts g) q → IsNew d (problem_of given) (class_at t (class_of s)) plan p.variable → p.variable ≢ q.variable
  parts_apart f g p q n m l new =
      let sum = h.plan_by.only f p m in
      elim (part_stands h f sum p m) [
        | inl r ↦ absurd (new.no_name r.number (column_class h f r.number r.constant.used.column) (sym r.named))
        | inr r ↦ h.plan_by.apart f g p q n m l r.new.above
      ]

  pub forms_are : (k : ℕ) → IsClass d (problem_of given) (class_at t (class_of s)) k → IsFormOf d (problem_of given) (class_at t (class_of s)) plan k (plan.form k)
  forms_are k is = form_is k (class_below h k is) (plan.form k) refl

  pub names_are : (k j : ℕ) → IsClass d (problem_of given) (class_at t (class_of s)) k → IsClass d (problem_of given) (class_at t (class_of s)) j → plan.name k ≡ plan.name j → k ≡ j
  names_are k j a b = names_apart h k j (class_below h k a) (class_below h j b)
