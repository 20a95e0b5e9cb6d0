-- The bindings of a plan are right for the values.
use Rattle.std.proofs.Common.{◌≡◌, ℕ, suc, ◌+◌, ◌<◌, List, [], ◌∷◌, length, map, refl, sym, ap, ◌∙◌, subst, inl, inr, arith, All, Contains, Some, slice_get}
use Rattle.std.specs.List.{AllByRecursion, AllZip}
use Rattle.std.proofs.lemmas.List.Elements.{All-head, All-tail}
use Rattle.std.proofs.lemmas.Option.{slice_get_within}
use Rattle.fvn_base.proofs.Options.{Some-injective}
use Rattle.fvn_terms.specs.declared.plain.Var.{Var}
use Rattle.fvn_terms.specs.declared.plain.OpId.{OpId}
use Rattle.fvn_terms.specs.declared.plain.SortId.{SortId}
use Rattle.fvn_terms.specs.declared.declarations.Axioms.{Axioms}
use Rattle.fvn_terms.specs.declared.declarations.Axioms.TheVariants.{Free, Comm, AssocComm, AssocCommId}
use Rattle.fvn_terms.specs.declared.declarations.Rank.{Rank}
use Rattle.fvn_terms.specs.declared.declarations.Declarations.{Declarations}
use Rattle.fvn_terms.specs.Term.{Terms, var, app, none, more, pack}
use Rattle.fvn_terms.specs.Substitution.{Substitution, apply}
use Rattle.fvn_terms.specs.Signature.{kind, declared, axioms, IsSort, HasKind, HaveKinds, IsTerm, AtOrBelow}
use Rattle.fvn_terms.specs.Unifiers.{Problem}
use Rattle.fvn_forms.specs.Flat.{FlatTerm, fvar, plain, plain_all, fpack}
use Rattle.fvn_forms.specs.InOrder.{count, SameCounts}
use Rattle.fvn_forms.specs.Canon.{parts, sum, build, canon, eval_all, inst, empty_sum}
use Rattle.fvn_terms.specs.Equality.{identity}
use Rattle.fvn_forms.specs.Settled.{Settled, IsPiece}
use Rattle.fvn_forms.specs.Good.{TakesKinds}
use Rattle.fvn_forms.specs.Ranks.{result}
use Rattle.fvn_forms.specs.LeastSort.{sort_in, least_sort, KeepsKindsOfVariables}
use Rattle.fvn_forms.proofs.Build.{HasIdentity, parts_none, sum_settled}
use Rattle.fvn_forms.proofs.Eval.{canon_settled}
use Rattle.fvn_forms.proofs.InOrder.{count_itself}
use Rattle.fvn_forms.proofs.Instances.{eval_canon}
use Rattle.fvn_forms.proofs.KindsOfSums.{sum_of_forms_of_kind}
use Rattle.fvn_forms.proofs.KindsKept.{kind_unique}
use Rattle.fvn_forms.proofs.LeastSort.{sort_lowers, sort_of_build}
use Rattle.fvn_forms.proofs.SortOrder.{AtOrBelow-trans}
use Rattle.fvn_forms.proofs.Sums.{sum_parts, sum_same_counts}
use Rattle.fvn_forms.proofs.ToCanon.{canon_of_kind}
use Rattle.fvn_flat.specs.Problems.{variables_of}
use Rattle.fvn_flat.specs.SolvedLists.{Plan, Part, Form, unbound, as_member, as_sum, component, members, IsSimple, IsBinding, bound_as, bound_to, names_of, over_classes}
use Rattle.fvn_combine_nodes.specs.Table.{NodeTable, IsOver, term_at}
use Rattle.fvn_combine_nodes.specs.States.{class_of}
use Rattle.fvn_combine_nodes.specs.Laws.{class_at}
use Rattle.fvn_combine_nodes.specs.Unifiers.{value_at}
use Rattle.fvn_combine_nodes.specs.declared.state.State.{State}
use Rattle.fvn_combine_nodes.specs.declared.table.Node.TheVariants.{App}
use Rattle.fvn_combine_nodes.proofs.Nodes.{term_at-over, arguments_within}
use Rattle.fvn_combine_leaves.specs.Leaves.{IsSumOperator, Uses}
use Rattle.fvn_combine_choices.specs.Choosing.{Systems, Choice}
use Rattle.fvn_combine_choices.specs.Plans.{IsFormBy}
use Rattle.fvn_combine_complete.specs.LaidOut.{laid_for}
use Rattle.fvn_combine_complete.proofs.ArgumentSorts.{IsArgumentSort, result_stays}
use Rattle.fvn_combine_complete.proofs.Entries.{paired, entries, members_are, spread_are, each_entry}
use Rattle.fvn_combine_nodes.proofs.Subterms.{node_kinded}
use Rattle.fvn_combine_complete.proofs.Later.{later, later_flat, value_of_name, value_of_part, value_of_variable}
use Rattle.fvn_combine_nodes.proofs.NodesOf.{node_of, variable_node, own_class}
use Rattle.fvn_combine_complete.proofs.Setting.{Setting, value_kinded, class_within, same_value, column_rank, column_within, name_kinded, name_of_kind, column_name}
use Rattle.fvn_combine_complete.proofs.Spread.{variables_in, spread, Absorbing, Stands, value_of_sum, sum_agrees, sum_below}
use Rattle.fvn_combine_complete.proofs.Standing.{as_many, entry_named, entry_pieces, entry_settled, entry_kinded, variable_kinded}
use Rattle.fvn_combine_complete.proofs.Unfolding.{env, env_keeps, IsRight}
use Rattle.fvn_combine_complete.proofs.Values.{bound_used}

module _ {d : Declarations} {problem : Problem} {t : NodeTable} {s : State} {y : Systems} {u : Substitution} {c : Choice} {first next : ℕ} {plan : Plan} (g : Setting d problem t s y u c first next plan) where
  abbrev class : ℕ → ℕ
  class = class_of s

  abbrev values : ℕ → FlatTerm
  values = value_at d u t.nodes

  abbrev Right : Var × FlatTerm → Type 0
  Right = IsRight d g.good (later g) (later_flat g)

  abbrev sorts : Var → SortId
  sorts = env d g.good (later g) (later_flat g)

  -- class k bound to a sum of f
  module _ (f : OpId) (k : ℕ) (uses : Uses d t class f k) where
    pub sum_operator : IsSumOperator d t f
    sum_operator = record { associative = uses.associative; sum = uses.row; listed = uses.listed }

    abbrev pub rank : Rank
    rank = (column_rank g f k uses).0

    pub rank_listed : Contains (declared d f).ranks rank
    rank_listed = (column_rank g f k uses).1

    abbrev Standing : Var × List FlatTerm → Type 0
    Standing = Stands d g.good (later g) (later_flat g) f uses.associative (kind d rank.result) rank rank_listed refl

    abbrev es : List (Var × List FlatTerm)
    es = entries (y.columns f) k (plan.parts f) (g.obeying.pieces f)

    standing : AllByRecursion Standing es
    standing = each_entry Standing (y.columns f) k (plan.parts f) (g.obeying.pieces f) (λ e among p. record {
      value = value_of_part g f sum_operator e among;
      some = entry_named g f sum_operator e among;
      pieces = entry_pieces g f sum_operator e among;
      settled = entry_settled g f sum_operator e among;
      kinded = entry_kinded g f sum_operator e among rank rank_listed;
      variable = variable_kinded g f sum_operator e among rank rank_listed;
    })

    -- the pieces of all members are the summands of the class's value
    spread_is : SameCounts (spread es) (parts d f (values k))
    spread_is q =
        spread_are q (y.columns f) k (plan.parts f) (g.obeying.pieces f) (as_many g f sum_operator)
        ∙ ap (λ vs. count q (laid_for (y.columns f) k vs (g.obeying.pieces f))) (g.plan_by.solutions f sum_operator)
        ∙ sym ((g.obeying.made_of f sum_operator).made k uses q)

    sum_is : sum d f (spread es) ≡ values k
    sum_is = sum_same_counts d f (spread es) (parts d f (values k)) spread_is ∙ sum_parts d f (values k) (g.go_with.are.settled k)

    -- a sum without members is f's identity
    named : variables_in es ≡ [] → HasIdentity d f
    named e = let n = parts_none d f (values k) (g.go_with.are.settled k) (no_parts (parts d f (values k)) (no_entries es e) spread_is) in (n.0, n.1)
      where
        no_entries : (l : List (Var × List FlatTerm)) → variables_in l ≡ [] → l ≡ []
        no_entries [] e = refl
        no_entries (o ∷ l) e = cc

        no_parts : (ps : List FlatTerm) → es ≡ [] → SameCounts (spread es) ps → ps ≡ []
        no_parts [] e h = refl
        no_parts (p ∷ ps) e h = absurd (let n = h p in let z = ap (λ l. count p (spread l)) e in let m = count_itself p ps in omega (arith, n, z, m))

    variables_pieces : (l : List (Var × List FlatTerm)) → AllByRecursion (IsPiece d f) (variables_in l)
    variables_pieces [] = tt
    variables_pieces (e ∷ l) = (refl, variables_pieces l)

    variables_settled : (l : List (Var × List FlatTerm)) → AllByRecursion (Settled d) (variables_in l)
    variables_settled [] = tt
    variables_settled (e ∷ l) = (tt, variables_settled l)

    kinded : (l : List (Var × List FlatTerm)) → AllByRecursion Standing l → (variables_in l ≡ [] → HasIdentity d f) → HasKind d (plain (sum d f (variables_in l))) (kind d rank.result)
    kinded [] h n = let i = n refl in subst (λ o. HasKind d (plain (empty_sum d f o)) (kind d rank.result)) (sym i.1) (g.good.fits.identity f i.0 rank i.1 rank_listed)
    kinded (e ∷ l) h n = sum_of_forms_of_kind d g.good.fits f uses.associative (kind d rank.result) rank rank_listed refl (fvar e.0) (variables_in l) (each (e ∷ l) h)
      where
        each : (l : List (Var × List FlatTerm)) → AllByRecursion Standing l → AllByRecursion (λ q. HasKind d (plain q) (kind d rank.result)) (variables_in l)
        each [] h = tt
        each (e ∷ l) h = (h.0.variable, each l h.1)

    within : k < length t.nodes
    within = column_within g f k uses

    right_sum : Right (plan.name k, sum d f (variables_in es))
    right_sum = record {
      settled = sum_settled d f uses.associative (variables_in es) (variables_pieces es) (variables_settled es) named;
      kinded = λ i. subst (HasKind d (plain (sum d f (variables_in es)))) (sym ((name_kinded g k within).1 ∙ column_name g f k uses rank rank_listed)) (kinded es standing named);
      value = value_of_sum d g.good (later g) (later_flat g) f uses.associative (kind d rank.result) rank rank_listed refl es standing named ∙ sum_is ∙ sym (value_of_name g k within);
    }

    members_sum : sum d f (members (plan.columns f) (plan.parts f) k) ≡ sum d f (variables_in es)
    members_sum = ap (λ columns. sum d f (members columns (plan.parts f) k)) (g.plan_by.columns f sum_operator) ∙ ap (sum d f) (members_are (y.columns f) k (plan.parts f) (g.obeying.pieces f) (as_many g f sum_operator))

    pub sum_right : (b : Var × FlatTerm) → b.0 ≡ plan.name k → sum d f (members (plan.columns f) (plan.parts f) k) ≡ b.1 → Right b
    sum_right b e is = subst Right (λ i. ((sym e) i, (sym members_sum ∙ is) i)) right_sum

    abbrev Entry : Type 0
    Entry = Part × List FlatTerm

    abbrev IsEntry : Entry → Type 0
    IsEntry e = Contains (paired (plan.parts f) (g.obeying.pieces f)) e

    abbrev pub bound_sum : FlatTerm
    bound_sum = sum d f (members (plan.columns f) (plan.parts f) k)

    -- its sort is told by the sorts of the parts
    pub sum_sort_is : (upper : Var → SortId) → ((e : Entry) → IsEntry e → upper e.0.variable ≡ sorts e.0.variable) → sort_in d upper bound_sum ≡ sort_in d sorts bound_sum
    sum_sort_is upper sorted =
        ap (sort_in d upper) members_sum
        ∙ sum_agrees d f sorts upper es (each_entry (λ e. upper e.0 ≡ sorts e.0) (y.columns f) k (plan.parts f) (g.obeying.pieces f) (λ e among p. sorted e among))
        ∙ ap (sort_in d sorts) (sym members_sum)

    -- the sum keeps to a sort of its value that absorbs what vanishes
    pub sum_keeps : (q : SortId) → kind d q ≡ kind d rank.result → ((e : Entry) → IsEntry e → 0 < component (y.columns f) e.0.solution k → e.1 ≡ [] → Absorbing d f q)
        → AtOrBelow d (least_sort d (values k)) q → AtOrBelow d (sort_in d sorts bound_sum) q
    sum_keeps q of absorbs below =
        subst (λ v. AtOrBelow d (sort_in d sorts v) q) (sym members_sum)
        (sum_below d g.good (later g) (later_flat g) f uses.associative (kind d rank.result) rank rank_listed refl sorts (env_keeps d g.good (later g) (later_flat g)) q (record { rank = rank; listed = rank_listed; kind_is = of }) es standing
        (each_entry (λ e. sorts e.0 ≡ sorts e.0) (y.columns f) k (plan.parts f) (g.obeying.pieces f) (λ e among p. refl))
        (each_entry (λ e. e.1 ≡ [] → Absorbing d f q) (y.columns f) k (plan.parts f) (g.obeying.pieces f) absorbs)
        (subst (λ v. AtOrBelow d (least_sort d v) q) (sym sum_is) below))

  -- class k bound to a member
  module _ (i : ℕ) (f : OpId) (ks : List ℕ) (over : IsOver t.nodes i f ks) (simple : IsSimple (axioms d f)) where
    abbrev named_args : List ℕ → Terms
    named_args [] = none
    named_args (j ∷ js) = more (var (plan.name (class j))) (named_args js)

    names_are : (js : List ℕ) → All (λ j. j < length t.nodes) js → names_of d problem (class_at t class) plan (pack (map (term_at t.nodes) js)) ≡ named_args js
    names_are [] h = refl
    names_are (j ∷ js) h =
        let P = λ (j : ℕ). j < length t.nodes in
        ap (λ n. more (var (plan.name n)) (names_of d problem (class_at t class) plan (pack (map (term_at t.nodes) js)))) (own_class g.made g.table class j (All-head P j js h))
        ∙ ap (more (var (plan.name (class j)))) (names_are js (All-tail P j js h))

    all_within : All (λ j. j < length t.nodes) ks
    all_within = arguments_within t.nodes g.made.ordered i f ks over

    within_node : i < length t.nodes
    within_node = slice_get_within t.nodes i (App f ks) over

    -- the names have the kinds of the arguments
    names_kinded : (js : List ℕ) → All (λ j. j < length t.nodes) js → (qs : List SortId) → HaveKinds d (pack (map (term_at t.nodes) js)) qs → HaveKinds d (named_args js) qs
    names_kinded [] h [] k = tt
    names_kinded [] h (q ∷ qs) k = absurd k
    names_kinded (j ∷ js) h [] k = absurd k
    names_kinded (j ∷ js) h (q ∷ qs) k =
        let P = λ (j : ℕ). j < length t.nodes in
        let l = All-head P j js h in
        let m = class_within g j l in
        let n = name_kinded g (class j) m in
        let same : (plan.name (class j)).sort ≡ q =
        kind_unique d g.good.fits (plain (values (class j))) (plan.name (class j)).sort q (name_of_kind g (class j) m) (subst (λ v. HasKind d (plain v) q) (sym (same_value g j l)) (value_kinded g j q k.0))
        in
        ((n.0, n.1 ∙ same), names_kinded js (All-tail P j js h) qs k.1)

    node_kind : IsTerm d (term_at t.nodes i)
    node_kind = node_kinded d g.good.fits problem g.kinded t g.table i within_node

    args_kinded : HasKind d (app f (pack (map (term_at t.nodes) ks))) node_kind.0
    args_kinded = subst (λ v. HasKind d v node_kind.0) (term_at-over t.nodes g.made.ordered i f ks over) node_kind.1

    term_kinded : HasKind d (app f (named_args ks)) node_kind.0
    term_kinded = record { rank = args_kinded.rank; listed = args_kinded.listed; args = names_kinded ks all_within _ args_kinded.args; result = args_kinded.result }

    -- the values of the names are those of the classes
    evaluated : (js : List ℕ) → All (λ j. j < length t.nodes) js → eval_all d (later g) (named_args js) ≡ map (λ j. values (class j)) js
    evaluated [] h = refl
    evaluated (j ∷ js) h =
        let P = λ (j : ℕ). j < length t.nodes in
        ap (λ v. v ∷ eval_all d (later g) (named_args js)) (value_of_name g (class j) (class_within g j (All-head P j js h)))
        ∙ ap (λ l. values (class j) ∷ l) (evaluated js (All-tail P j js h))

    value_is : inst d (later g) (canon d (app f (named_args ks))) ≡ values (class i)
    value_is = sym (eval_canon d (later g) (later_flat g).settled (app f (named_args ks))) ∙ ap (build d f) (evaluated ks all_within) ∙ sym (g.go_with.are.built i f ks over)

    abbrev forms : List FlatTerm
    forms = map (λ j. values (class j)) ks

    forms_settled : (js : List ℕ) → AllByRecursion (Settled d) (map (λ j. values (class j)) js)
    forms_settled [] = tt
    forms_settled (j ∷ js) = (g.go_with.are.settled (class j), forms_settled js)

    forms_kinded : (js : List ℕ) → All (λ j. j < length t.nodes) js → (qs : List SortId) → HaveKinds d (pack (map (term_at t.nodes) js)) qs → HaveKinds d (plain_all (fpack (map (λ j. values (class j)) js))) qs
    forms_kinded [] h [] k = tt
    forms_kinded [] h (q ∷ qs) k = absurd k
    forms_kinded (j ∷ js) h [] k = absurd k
    forms_kinded (j ∷ js) h (q ∷ qs) k =
        let P = λ (j : ℕ). j < length t.nodes in
        (subst (λ v. HasKind d (plain v) q) (sym (same_value g j (All-head P j js h))) (value_kinded g j q k.0), forms_kinded js (All-tail P j js h) qs k.1)

    -- no argument is without summands, since f has no identity
    forms_some : (js : List ℕ) → AllByRecursion (λ v. parts d f v ≡ [] → ⊥) (map (λ j. values (class j)) js)
    forms_some [] = tt
    forms_some (j ∷ js) = ((λ e. let n = parts_none d f (values (class j)) (g.go_with.are.settled (class j)) e in bare (axioms d f) simple n.0 n.1), forms_some js)
      where
        bare : (a : Axioms) → IsSimple a → (e : OpId) → identity a ≡ Some e → ⊥
        bare Free h e i = cc
        bare Comm h e i = cc
        bare AssocComm h e i = h
        bare (AssocCommId o) h e i = h

    variable_forms : (js : List ℕ) → eval_all d fvar (named_args js) ≡ map (λ j. fvar (plan.name (class j))) js
    variable_forms [] = refl
    variable_forms (j ∷ js) = ap (λ l. fvar (plan.name (class j)) ∷ l) (variable_forms js)

    names_settled : (js : List ℕ) → AllByRecursion (Settled d) (map (λ j. fvar (plan.name (class j))) js)
    names_settled [] = tt
    names_settled (j ∷ js) = (tt, names_settled js)

    names_plain : (js : List ℕ) → plain_all (fpack (map (λ j. fvar (plan.name (class j))) js)) ≡ named_args js
    names_plain [] = refl
    names_plain (j ∷ js) = ap (more (var (plan.name (class j)))) (names_plain js)

    abbrev named_sorts : (Var → SortId) → List ℕ → List SortId
    named_sorts upper js = map (sort_in d upper) (map (λ j. fvar (plan.name (class j))) js)

    name_sorts : (js : List ℕ) → All (λ j. j < length t.nodes) js → named_sorts sorts js ≡ map (least_sort d) (map (λ j. values (class j)) js)
    name_sorts [] h = refl
    name_sorts (j ∷ js) h =
        let P = λ (j : ℕ). j < length t.nodes in
        ap (λ q. q ∷ named_sorts sorts js) (ap (least_sort d) (value_of_name g (class j) (class_within g j (All-head P j js h))))
        ∙ ap (λ l. least_sort d (values (class j)) ∷ l) (name_sorts js (All-tail P j js h))

    sorts_kinded : (upper : Var → SortId) → KeepsKindsOfVariables d upper → (js : List ℕ) (qs : List SortId) → HaveKinds d (named_args js) qs → map (kind d) (named_sorts upper js) ≡ qs
    sorts_kinded upper keeps [] [] h = refl
    sorts_kinded upper keeps [] (q ∷ qs) h = absurd h
    sorts_kinded upper keeps (j ∷ js) [] h = absurd h
    sorts_kinded upper keeps (j ∷ js) (q ∷ qs) h =
        ap (λ z. z ∷ map (kind d) (named_sorts upper js)) (keeps (plan.name (class j)) h.0.0 ∙ h.0.1) ∙ ap (λ zs. q ∷ zs) (sorts_kinded upper keeps js qs h.1)

    names_take : (upper : Var → SortId) → KeepsKindsOfVariables d upper → TakesKinds d f (named_sorts upper ks)
    names_take upper keeps = record { rank = term_kinded.rank; listed = term_kinded.listed; kinds = sorts_kinded upper keeps ks _ term_kinded.args }

    -- the name of an argument may have another sort than its value: it is below whatever sort of the argument the value's is
    abbrev FitsAt : (Var → SortId) → ℕ → ℕ → SortId → Type 0
    FitsAt upper p j a = IsArgumentSort d g.good f simple p a → AtOrBelow d (sorts (plan.name (class j))) a → AtOrBelow d (upper (plan.name (class j))) a

    fit_all : (upper : Var → SortId) (js : List ℕ) (args : List SortId) (n : ℕ) → ((p j : ℕ) (a : SortId) → slice_get js p ≡ Some j → FitsAt upper (n + p) j a)
        → ((p : ℕ) (a : SortId) → slice_get args p ≡ Some a → IsArgumentSort d g.good f simple (n + p) a)
        → AllZip (AtOrBelow d) (named_sorts sorts js) args → AllZip (AtOrBelow d) (named_sorts upper js) args
    fit_all upper [] [] n fits are z = tt
    fit_all upper [] (a ∷ args) n fits are z = absurd z
    fit_all upper (j ∷ js) [] n fits are z = absurd z
    fit_all upper (j ∷ js) (a ∷ args) n fits are z =
        let next : (p : ℕ) → n + suc p ≡ suc n + p = λ p. omega arith in (
          fits 0 j a refl (are 0 a refl) z.0,
          fit_all upper js args (suc n) (λ p i b at. subst (λ m. FitsAt upper m i b) (next p) (fits (suc p) i b at)) (λ p b at. subst (λ m. IsArgumentSort d g.good f simple m b) (next p) (are (suc p) b at)) z.1,
        )

    own_keeps : KeepsKindsOfVariables d (λ x. x.sort)
    own_keeps x i = refl

    from_zero : (p : ℕ) → p ≡ 0 + p
    from_zero p = omega arith

    lowers_to : (upper : Var → SortId) → KeepsKindsOfVariables d upper → ((p j : ℕ) (a : SortId) → slice_get ks p ≡ Some j → FitsAt upper p j a)
        → AtOrBelow d (sort_in d upper (canon d (app f (named_args ks)))) (least_sort d (values (class i)))
    lowers_to upper keeps fits =
        let names = map (λ j. fvar (plan.name (class j))) ks in
        let low = named_sorts sorts ks in
        let high = named_sorts upper ks in
        let lower = sort_lowers d g.good upper keeps f names (names_settled ks) node_kind.0 (subst (λ ts. HasKind d (app f ts) node_kind.0) (sym (names_plain ks)) term_kinded) in
        let forms_are : HasKind d (app f (plain_all (fpack forms))) node_kind.0 = record { rank = args_kinded.rank; listed = args_kinded.listed; args = forms_kinded ks all_within _ args_kinded.args; result = args_kinded.result } in
        let exact = sort_of_build d g.good (λ x. x.sort) own_keeps f forms (forms_settled ks) (forms_some ks) node_kind.0 forms_are in
        let left = ap (λ l. sort_in d upper (build d f l)) (variable_forms ks) in
        let right = ap (result d f) (name_sorts ks all_within) ∙ sym exact ∙ ap (least_sort d) (sym (g.go_with.are.built i f ks over)) in
        let stays = result_stays d g.good f simple low high
        (names_take sorts (env_keeps d g.good (later g) (later_flat g))) (names_take upper keeps)
        (λ args are z. fit_all upper ks args 0 (λ p j a at. subst (λ m. FitsAt upper m j a) (from_zero p) (fits p j a at)) (λ p a at. subst (λ m. IsArgumentSort d g.good f simple m a) (from_zero p) (are p a at)) z) in
        subst (λ q. AtOrBelow d q (least_sort d (values (class i)))) (sym left)
        (AtOrBelow-trans d lower (subst (AtOrBelow d (result d f high)) right stays))

    right_member : Right (plan.name (class i), canon d (app f (named_args ks)))
    right_member =
        let l = class_within g i within_node in
        let n = name_kinded g (class i) l in
        let same : (plan.name (class i)).sort ≡ node_kind.0 =
        kind_unique d g.good.fits (plain (values (class i))) (plan.name (class i)).sort node_kind.0 (name_of_kind g (class i) l) (subst (λ v. HasKind d (plain v) node_kind.0) (sym (same_value g i within_node)) (value_kinded g i node_kind.0 node_kind.1))
        in
        record {
          settled = canon_settled d (app f (named_args ks));
          kinded = λ o. subst (HasKind d (plain (canon d (app f (named_args ks))))) (sym (n.1 ∙ same)) (canon_of_kind d g.good.fits (app f (named_args ks)) node_kind.0 term_kinded);
          value = value_is ∙ sym (value_of_name g (class i) l);
        }

    over_is : over_classes d problem (class_at t class) plan (term_at t.nodes i) ≡ canon d (app f (named_args ks))
    over_is = ap (over_classes d problem (class_at t class) plan) (term_at-over t.nodes g.made.ordered i f ks over) ∙ ap (λ ts. canon d (app f ts)) (names_are ks all_within)

    pub member_right : (k : ℕ) (b : Var × FlatTerm) → class i ≡ k → b.0 ≡ plan.name k → over_classes d problem (class_at t class) plan (term_at t.nodes i) ≡ b.1 → Right b
    member_right k b of e is = subst Right (λ o. ((ap plan.name of ∙ sym e) o, (sym over_is ∙ is) o)) right_member

    -- a member keeps to the least sort of its value, where the names of its arguments fit
    pub member_keeps : (upper : Var → SortId) → KeepsKindsOfVariables d upper → ((p j : ℕ) (a : SortId) → slice_get ks p ≡ Some j → FitsAt upper p j a)
        → (k : ℕ) (v : FlatTerm) → class i ≡ k → over_classes d problem (class_at t class) plan (term_at t.nodes i) ≡ v → AtOrBelow d (sort_in d upper v) (sorts (plan.name k))
    member_keeps upper keeps fits k v of is =
        let value = ap (least_sort d) (ap values of ∙ sym (value_of_name g k (subst (λ n. n < length t.nodes) of (class_within g i within_node)))) in
        subst (λ v. AtOrBelow d (sort_in d upper v) (sorts (plan.name k))) (sym over_is ∙ is)
        (subst (AtOrBelow d (sort_in d upper (canon d (app f (named_args ks))))) value (lowers_to upper keeps fits))

  -- each binding is right
  class_right : (k : ℕ) (b : Var × FlatTerm) → k < length t.nodes → b.0 ≡ plan.name k → bound_to d problem (class_at t class) plan k ≡ Some b.1 → Right b
  class_right k b l e is = go (plan.form k) (g.plan_by.forms k l) is
    where
      go : (form : Form) → IsFormBy d t class y c k form → bound_as d problem (class_at t class) plan form k ≡ Some b.1 → Right b
      go unbound h is = cc
      go (as_member v) h is =
          let at = h.1 in
          member_right h.0 at.operator at.arguments at.over at.simple k b at.of e (ap (over_classes d problem (class_at t class) plan) h.2 ∙ Some-injective is)
      go (as_sum f) h is = sum_right f k (bound_used d t g.made g.has s g.leaf g.told values g.go_with c.tag g.obeying.tags f k h) b e (Some-injective is)

  -- the class of a variable of the problem: its name has the variable's kind, and the class its value
  pub record IsOfClass (k : ℕ) (x : Var) : Type 0 where
    pub within : k < length t.nodes
    pub kinded : IsSort d x.sort → (plan.name k).sort ≡ kind d x.sort
    pub value : later g x ≡ values k

  pub name_of_class : (k : ℕ) → k < length t.nodes → IsOfClass k (plan.name k)
  name_of_class k l = record { within = l; kinded = λ i. sym (name_kinded g k l).1; value = value_of_name g k l }

  pub variable_of_class : (x : Var) → Contains (variables_of problem) x → IsOfClass (class_at t class (var x)) x
  variable_of_class x among =
      let n = variable_node g.made g.table x among in
      let i = n.number in
      let l = class_within g i n.within in
      let of : class i ≡ class_at t class (var x) = sym (own_class g.made g.table class i n.within) ∙ ap (class_at t class) n.is in
      let value : values (class i) ≡ canon d (u x) = same_value g i n.within ∙ ap (λ v. canon d (apply u v)) n.is in
      subst (λ k. IsOfClass k x) of (record {
        within = l;
        kinded = λ o. kind_unique d g.good.fits (plain (values (class i))) (plan.name (class i)).sort (kind d x.sort) (name_of_kind g (class i) l) (subst (λ v. HasKind d (plain v) (kind d x.sort)) (sym value) (canon_of_kind d g.good.fits (u x) (kind d x.sort) (g.unifier.0 x o)));
        value = value_of_variable g x among ∙ sym value;
      })

  variable_right : (b : Var × FlatTerm) → Contains (variables_of problem) b.0 → b.1 ≡ fvar (plan.name (class_at t class (var b.0))) → Right b
  variable_right b among is =
      let k = class_at t class (var b.0) in
      let h = variable_of_class b.0 among in
      let names = name_kinded g k h.within in
      record {
        settled = subst (Settled d) (sym is) tt;
        kinded = λ o. subst (λ v. HasKind d (plain v) (kind d b.0.sort)) (sym is) (names.0, names.1 ∙ h.kinded o);
        value = ap (inst d (later g)) is ∙ value_of_name g k h.within ∙ sym h.value;
      }

  pub binding_right : (b : Var × FlatTerm) → IsBinding d problem (class_at t class) plan b → Right b
  binding_right b (inl h) =
      let n = node_of g.made g.table h.1.0 h.1.1 in
      let of : class n.number ≡ h.0 = sym (own_class g.made g.table class n.number n.within) ∙ ap (class_at t class) n.is ∙ h.1.2 in
      class_right h.0 b (subst (λ k. k < length t.nodes) of (class_within g n.number n.within)) h.2 h.3
  binding_right b (inr h) = variable_right b h.0 h.2
