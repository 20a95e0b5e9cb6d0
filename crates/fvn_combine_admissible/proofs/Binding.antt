-- Which classes are bound to a sum, by what is read and by what it means.
use Rattle.std.proofs.Common.{◌≡◌, ℕ, ◌<◌, List, length, refl, sym, ap, ◌∙◌, subst, inl, inr, Contains, Option, Some, None}
use Rattle.std.specs.Prelude.{◌↔◌}
use Rattle.fvn_terms.specs.declared.plain.OpId.{OpId}
use Rattle.fvn_terms.specs.declared.declarations.Declarations.{Declarations}
use Rattle.fvn_combine_nodes.specs.Table.{NodeTable, IsWellMade}
use Rattle.fvn_combine_nodes.specs.States.{IsClosed, class_of}
use Rattle.fvn_combine_nodes.specs.declared.state.State.{State}
use Rattle.fvn_combine_leaves.specs.Readings.{IsReading}
use Rattle.fvn_combine_leaves.specs.Users.{head_of}
use Rattle.fvn_combine_leaves.specs.declared.reading.Sums.{Sums}
use Rattle.fvn_combine_leaves.specs.declared.reading.Reading.{Reading}
use Rattle.fvn_combine_choices.specs.Binding.{IsBound, solid, alone, tagged}
use Rattle.fvn_combine_admissible.specs.Listed.{tag_in}
use Rattle.fvn_combine_admissible.specs.inner.Reads.{IsBoundUnder, IsBoundIn}
use Rattle.fvn_combine_leaves.proofs.ReadOfState.{marked_to, marked_from, sum_operator, users_differ, two_users_of, one_user, head_none, no_head, shared_from}

module _ (d : Declarations) (t : NodeTable) (made : IsWellMade t) (s : State) (closed : IsClosed d t s) (r : Reading) (reading : IsReading d t (class_of s) r) (tags : List (Option OpId)) (e : Sums) (listed : Contains r.sums e) (k : ℕ) (within : k < length t.nodes) where
  under : IsBound d t (class_of s) (tag_in tags) e.operator k → (o : Option OpId) → head_of r k ≡ o → IsBoundUnder r tags e k o
  under (solid a h) o is =
      let head : o ≡ Some e.operator = sym is ∙ (reading.heads.exact k e.operator within).1 h in
      subst (IsBoundUnder r tags e k) (sym head) refl
  under (alone u soft only) o is =
      let head : o ≡ None = sym is ∙ head_none d t made s closed r reading k within soft in
      subst (IsBoundUnder r tags e k) (sym head) (
        marked_to d t made s closed r reading e listed k u,
        inl (λ two.
            let p = users_differ d t made s closed r reading k two in
            p.2 (only p.0 p.3 ∙ sym (only p.1 p.4))),
      )
  under (tagged u shared tag) o is =
      let head : o ≡ None = sym is ∙ head_none d t made s closed r reading k within shared.soft in
      subst (IsBoundUnder r tags e k) (sym head) (marked_to d t made s closed r reading e listed k u, inr (two_users_of d t made s closed r reading k shared.first shared.second shared.different shared.uses_first shared.uses_second, tag))

  over : (o : Option OpId) → head_of r k ≡ o → IsBoundUnder r tags e k o → IsBound d t (class_of s) (tag_in tags) e.operator k
  over (Some g) is same = solid (sum_operator d t made s closed r reading e listed).associative ((reading.heads.exact k e.operator within).0 (is ∙ ap Some same))
  over None is (marked, inl none) =
      let u = marked_from d t made s closed r reading e listed k marked in
      alone u (no_head d t made s closed r reading k within is) (λ g v. one_user d t made s closed r reading k none e.operator g u v)
  over None is (marked, inr (two, tag)) =
      tagged (marked_from d t made s closed r reading e listed k marked) (shared_from d t made s closed r reading k within (is, two)) tag

  -- both say the same
  pub bound_iff : IsBoundIn r tags e k ↔ IsBound d t (class_of s) (tag_in tags) e.operator k
  bound_iff = (over (head_of r k) refl, λ b. under b (head_of r k) refl)
