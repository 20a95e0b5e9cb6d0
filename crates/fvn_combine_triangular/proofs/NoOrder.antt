-- Where no rank of variables falls along the bindings of classes, no rank of classes falls along what they need.
use Rattle.std.proofs.Common.{◌≡◌, ℕ, ◌-◌, ◌<◌, List, length, slice_index_or, ap, arith, Option}
use Rattle.fvn_terms.specs.declared.plain.Var.{Var as Variable}
use Rattle.fvn_terms.specs.declared.plain.OpId.{OpId}
use Rattle.fvn_terms.specs.declared.declarations.Declarations.{Declarations}
use Rattle.fvn_lindio.specs.declared.system.Solution.{Solution}
use Rattle.fvn_flat.specs.Bindings.{Bindings}
use Rattle.fvn_flat.specs.declared.solver.Pairs.{Pairs}
use Rattle.fvn_combine_nodes.specs.Table.{NodeTable}
use Rattle.fvn_combine_nodes.specs.States.{class_of}
use Rattle.fvn_combine_nodes.specs.declared.state.State.{State}
use Rattle.fvn_combine_leaves.specs.declared.reading.Reading.{Reading}
use Rattle.fvn_combine_choices.specs.Choosing.{Falls}
use Rattle.fvn_combine_admissible.specs.Listed.{systems_of, choice_of}
use Rattle.fvn_combine_triangular.specs.declared.binders.Binder.{Binder}
use Rattle.fvn_combine_triangular.specs.declared.binders.Binder.TheVariants.{Nothing}
use Rattle.fvn_combine_triangular.specs.declared.shares.Share.{Share}
use Rattle.fvn_combine_triangular.specs.inner.Ordering.{HasNoOrder}
use Rattle.fvn_combine_triangular.specs.inner.Planning.{name_in, AreClassesBelow}
use Rattle.fvn_combine_triangular.proofs.Made.{IsMade}
use Rattle.fvn_combine_triangular.proofs.Reaching.{by_name, by_new, form_reaches}

module _ {d : Declarations} {given : Pairs} {first : ℕ} {t : NodeTable} {s : State} {r : Reading} {bases : List (List Solution)} {tags : List (Option OpId)} {numbers : List ℕ} {names : List Variable} {binders : List Binder} {all : List (List Share)} (m : IsMade d given first t s r bases tags numbers names binders all) where
  -- the class that a variable names, by its number
  abbrev named_by : Variable → ℕ
  named_by x = x.name - first

  named_is : (k : ℕ) (x : Variable) → k < length t.nodes → x ≡ name_in names k → named_by x ≡ k
  named_is k x l is =
      let n = (m.names_are.each k l).number in
      let z = ap (λ (x : Variable). x.name) is in
      omega (arith, n, z)

  pub no_rank : (classes : Bindings) → AreClassesBelow d t (class_of s) names r.sums all binders (length t.nodes) classes → HasNoOrder classes → (rank : ℕ → ℕ) → Falls d t (class_of s) (systems_of r bases) (choice_of r tags numbers) rank → ⊥
  no_rank classes c none rank falls = none (λ x. rank (named_by x)) (λ b e listed other occurs.
      let f = c.from b listed in
      let g = c.from e other in
      let mine = ap rank (named_is f.0 b.0 f.1 f.3) in
      let theirs = ap rank (named_is g.0 e.0 g.1 g.3) in
      elim (form_reaches m g.0 (slice_index_or binders g.0 Nothing) (m.binders_are.each g.0 g.1) e.1 g.4 b.0 occurs) [
        | by_name l within is needs ↦
            let down = falls g.0 l needs in
            let there = ap rank (named_is l b.0 within is) in
            omega (arith, down, there, theirs)
        | by_new fresh above ↦
            let n = (m.names_are.each f.0 f.1).number in
            let z = ap (λ (x : Variable). x.name) f.3 in
            let l = f.1 in
            absurd (omega (arith, n, z, l, above))
      ])
