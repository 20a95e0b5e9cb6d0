-- A search that ends tells its cause, and no question is open where a sum system is refused.
use Rattle.std.proofs.Common.{◌≡◌, List, [], ◌∷◌, ◌++◌, sym, ◌∙◌, ◌<◌, subst, inl, inr, Some, Option, Err, Contains}
use Rattle.std.specs.Prelude.{◌↔◌}
use Rattle.std.proofs.lemmas.List.Elements.{All-get_or, All-contains, Contains-push, Contains-append_left}
use Rattle.std.proofs.lemmas.Option.{slice_get_within, get_or_from_slice_get}
use Rattle.fvn_terms.specs.declared.plain.OpId.{OpId}
use Rattle.fvn_terms.specs.Substitution.{Substitution}
use Rattle.fvn_lindio.specs.declared.system.System.{System}
use Rattle.fvn_base.proofs.Membership.{contains_cases, contains_none}
use Rattle.fvn_combine_nodes.specs.States.{IsClosed, class_of}
use Rattle.fvn_combine_tree.specs.Trees.{AreClosed, IsPartedFrom, AreInOrder}
use Rattle.fvn_combine_nodes.specs.Unifiers.{kernel}
use Rattle.fvn_combine_nodes.proofs.Admitting.{admits_itself}
use Rattle.fvn_combine_nodes.specs.declared.state.State.{State}
use Rattle.fvn_combine_systems.specs.NodeSystems.{IsNodeSystem}
use Rattle.fvn_combine_leaves.specs.Leaves.{IsFullLeaf}
use Rattle.fvn_combine_leaves.specs.Readings.{AreSums, IsReading}
use Rattle.fvn_combine_leaves.specs.declared.reading.Reading.{Reading}
use Rattle.fvn_combine_drawing.specs.CombineCandidatesRefusals.{IsFirstRefused}
use Rattle.fvn_combine.specs.Tasks.{Combining}
use Rattle.fvn_combine.specs.Search.{Search, IsEnd, IsRefusedAt, HasNoQuestion, HasNoChoiceAt, IsAdmitted, IsCoveredAt, PartsNodesOf, AdmitsOrIsParted}
use Rattle.fvn_combine.specs.Endings.{told_of}
use Rattle.fvn_combine.specs.Advancing.{IsToCome, IsAdvanced, IsFinerAt}
use Rattle.fvn_combine.specs.declared.opened.Leaf.{Leaf}
use Rattle.fvn_combine.specs.declared.ending.Ended.{Ended}
use Rattle.fvn_combine.specs.declared.ending.Ended.TheVariants.{Basis, Size}
use Rattle.fvn_combine.proofs.Trees.{admitted_cases, admitted_one}

-- what is refused of a reading of a leaf is a system of its classes
pub refused_at : (k : Combining) (s : State) → IsFullLeaf k.declarations k.table s → (r : Reading) → IsReading k.declarations k.table (class_of s) r → (f : OpId) (system : System) → IsFirstRefused r.sums f system → IsRefusedAt k s f system
refused_at k s leaf r reading f system h =
    let e = h.entry in
    let there : AreSums k.declarations k.table (class_of s) e =
    subst (AreSums k.declarations k.table (class_of s)) (get_or_from_slice_get r.sums h.place e e h.at)
    (All-get_or (AreSums k.declarations k.table (class_of s)) r.sums h.place e (slice_get_within r.sums h.place e h.at) reading.sums) in
    record {
      leaf = leaf;
      columns = e.columns;
      is_system = subst (IsNodeSystem k.table (class_of s) f e.columns) h.is_system (subst (λ g. IsNodeSystem k.table (class_of s) g e.columns e.system) h.is_operator there.is_system);
      refused = h.refused;
    }

-- no choice is left where nothing is covered at the leaf
pub no_choice : (k : Combining) (leaf : Option Leaf) (e : Ended) → ((u : Substitution) → IsCoveredAt k leaf u → ⊥) → HasNoChoiceAt k leaf e
no_choice k leaf (Basis f system) none = none
no_choice k leaf (Size list) none = tt

-- what stands before the last state keeps apart two nodes that the last one has together
parted_before : (below : List State) (last s : State) → AreInOrder (below ++ last ∷ []) → Contains below s → IsPartedFrom s last
parted_before [] last s order c = absurd (contains_none s c)
parted_before (r ∷ below) last s order c = elim (contains_cases r below s c) [
  | inl e ↦ subst (λ x. IsPartedFrom x last) e (All-contains (IsPartedFrom r) (below ++ last ∷ []) last order.0 (Contains-push below last))
  | inr m ↦ parted_before below last s order.1 m
]

-- what the states admit is admitted by the last one, or has apart two nodes that it has together
pub coarser_first : (k : Combining) (states below : List State) (last : State) → states ≡ below ++ last ∷ [] → AreClosed k.declarations k.table states → AreInOrder states → (u : Substitution) → IsAdmitted k states u → AdmitsOrIsParted last (kernel k.declarations u k.table.nodes)
coarser_first k states below last is closed order u h = elim (admitted_cases k u below (last ∷ []) (subst (λ l. IsAdmitted k l u) is h)) [
  | inl b ↦ inr (apart b)
  | inr t ↦ inl (admitted_one k u last t)
]
  where
    all : AreClosed k.declarations k.table (below ++ last ∷ [])
    all = subst (AreClosed k.declarations k.table) is closed

    apart : IsAdmitted k below u → PartsNodesOf last (kernel k.declarations u k.table.nodes)
    apart b =
        let class = kernel k.declarations u k.table.nodes in
        let s = b.1 in
        let c : Contains below s = (b.0, b.2, b.3) in
        let own : IsClosed k.declarations k.table last = All-contains (IsClosed k.declarations k.table) (below ++ last ∷ []) last all (Contains-push below last) in
        let other : IsClosed k.declarations k.table s = All-contains (IsClosed k.declarations k.table) (below ++ last ∷ []) s all (Contains-append_left below (last ∷ []) s c) in
        let p = parted_before below last s (subst AreInOrder is order) c in
        let same = other.whole ∙ sym own.whole in
        record {
          first = p.first;
          second = p.second;
          first_within = subst (λ n. p.first < n) same p.first_within;
          second_within = subst (λ n. p.second < n) same p.second_within;
          together = p.together (class_of last) (admits_itself last own.naming own.apart);
          apart = p.apart class b.4;
        }

pub end_told : (before after : Search) (e : Ended) → IsEnd before.combining e → HasNoQuestion before.combining after.states e → HasNoChoiceAt before.combining after.leaf e → IsFinerAt before.combining (IsToCome after) e → after.ended ≡ Some e → ((u : Substitution) → IsToCome before u ↔ IsToCome after u) → IsAdvanced before after (Err (told_of e))
end_told before after (Basis f system) cause none over finer ended kept = (cause, none, over, finer, record { ended = ended; kept = kept })
end_told before after (Size list) cause none over finer ended kept = (cause, record { ended = ended; kept = kept })
