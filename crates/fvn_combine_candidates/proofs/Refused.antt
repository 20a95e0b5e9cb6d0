-- Systems that are refused at a partition.
use Rattle.std.proofs.Common.{◌≡◌, ◌≢◌, ℕ, ◌<◌, List, length, get_or, sym, ap, ◌∙◌, subst, inl, inr, Ok, Err}
use Rattle.std.specs.Prelude.{◌↔◌, Result}
use Rattle.fvn_base.specs.declared.limits.TheConstants.{MINIMAL_SOLUTIONS}
use Rattle.fvn_terms.specs.declared.plain.OpId.{OpId}
use Rattle.fvn_terms.specs.declared.declarations.Declarations.{Declarations}
use Rattle.fvn_lindio.specs.declared.system.System.{System}
use Rattle.fvn_lindio.specs.declared.system.Solution.{Solution}
use Rattle.fvn_lindio.specs.declared.system.LinFault.{LinFault}
use Rattle.fvn_lindio.specs.declared.system.LinFault.TheVariants.{TooMany, TooWide, NoMemory}
use Rattle.fvn_lindio.specs.Systems.{rows_of}
use Rattle.fvn_lindio.specs.Refusals.{IsTooMany, IsTooWide}
use Rattle.fvn_acunify.specs.Cursor.{Cursor}
use Rattle.fvn_acunify.specs.Theory.{IsRefusal}
use Rattle.fvn_acunify.specs.declared.theory.OneFault.{OneFault}
use Rattle.fvn_acunify.specs.declared.theory.OneFault.TheVariants.{Basis as Unsolved, NoMemory as NoRoom}
use Rattle.fvn_flat.specs.SumSystems.{IsSumSystem}
use Rattle.fvn_flat.specs.Solving.{IsGiven, IsRefused, IsBasisCause, problem_of}
use Rattle.fvn_flat.specs.declared.solver.Pairs.{Pairs}
use Rattle.fvn_combine_nodes.specs.Table.{NodeTable, IsWellMade, IsTableOf}
use Rattle.fvn_combine_nodes.specs.Classes.{IsNodePartition}
use Rattle.fvn_combine_nodes.specs.Laws.{class_at, NodePartitionsArePartitions}
use Rattle.fvn_combine_systems.specs.Laws.{NodeSystemsAreSumSystems}
use Rattle.fvn_combine_leaves.specs.Readings.{IsReading}
use Rattle.fvn_combine_leaves.specs.declared.reading.Sums.{Sums}
use Rattle.fvn_combine_leaves.specs.declared.reading.Reading.{Reading}
use Rattle.fvn_combine_candidates.specs.declared.opening.OpenFault.{OpenFault}
use Rattle.fvn_combine_candidates.specs.declared.opening.OpenFault.TheVariants.{Basis, NoMemory as OutOfMemory}
use Rattle.fvn_combine_candidates.specs.Refusals.{IsFirstRefused, IsOpenFault}
use Rattle.fvn_combine_candidates.specs.inner.Walking.{IsKeptBasis, AreBasesBelow, IsFaultOf}
use Rattle.fvn_combine_candidates.proofs.Entries.{read_at, listed_at}
use Rattle.fvn_combine_candidates.proofs.Systems.{operator_at, sums_at}

pub are_causes : NodePartitionsArePartitions → NodeSystemsAreSumSystems → (d : Declarations) (given : Pairs) (first : ℕ) → IsGiven d given first → (t : NodeTable) → IsWellMade t → IsTableOf d (problem_of given) t
    → (class : ℕ → ℕ) → IsNodePartition d t class → (r : Reading) → IsReading d t class r → (f : OpId) (system : System) → IsFirstRefused r.sums f system → IsBasisCause d given f system
are_causes partitions systems d given first is_given t made table class partition r reading f system h =
    let e = h.entry in
    let sums = (sums_at d t class r reading h.place e h.at).is_system in
    let op = operator_at d t class r reading e (listed_at r.sums h.place e h.at) in
    let of_nodes = systems d (problem_of given) t made table class e.operator op.associative e.columns e.system sums in
    record {
      class = class_at t class;
      partition = (partitions d given.pairs is_given.fit t made table).of_nodes class partition;
      columns = e.columns;
      is_system = subst (IsSumSystem d (problem_of given) (class_at t class) f e.columns) h.is_system (subst (λ g. IsSumSystem d (problem_of given) (class_at t class) g e.columns e.system) h.is_operator of_nodes);
      refused = h.refused;
    }

-- a refusal of the rows is one of the system
pub not_refused : (s : System) → (IsRefused s → ⊥) → (fault : LinFault) → IsRefusal s.columns (rows_of s) MINIMAL_SOLUTIONS fault → ⊥
not_refused s kept (TooMany k) h = kept (k, inl h)
not_refused s kept (TooWide k) h = kept (k, inr h)
not_refused s kept NoMemory h = h

-- a system with minimal solutions is not refused
pub kept_system : (s : System) (result : Result (List Solution) LinFault) (basis : List Solution) → result ≡ Ok basis
    → (result ≢ Err NoMemory → (k : ℕ) → (result ≡ Err (TooMany k)) ↔ IsTooMany s.columns (rows_of s) MINIMAL_SOLUTIONS k)
    → (result ≢ Err NoMemory → (k : ℕ) → (result ≡ Err (TooWide k)) ↔ IsTooWide s.columns (rows_of s) MINIMAL_SOLUTIONS k) → IsRefused s → ⊥
kept_system s result basis is many wide (k, inl h) =
    let had : result ≢ Err NoMemory = λ e. (let f : Ok basis ≡ Err NoMemory = sym is ∙ e in cc) in
    let e : Ok basis ≡ Err (TooMany k) = sym is ∙ (many had k).1 h in
    cc
kept_system s result basis is many wide (k, inr h) =
    let had : result ≢ Err NoMemory = λ e. (let f : Ok basis ≡ Err NoMemory = sym is ∙ e in cc) in
    let e : Ok basis ≡ Err (TooWide k) = sym is ∙ (wide had k).1 h in
    cc

-- the first operator without minimal solutions is the fault
pub fault_at : (sums : List Sums) (n : ℕ) (bases : List (List Solution)) (e : Sums) → n < length sums → e ≡ get_or sums n e → AreBasesBelow (λ x. IsKeptBasis x.system) sums n bases → (fault : OpenFault) → IsFaultOf e fault → IsOpenFault sums fault
fault_at sums n bases e l at h (Basis f system) of = record {
  place = n;
  entry = e;
  at = read_at sums n e l at;
  is_operator = of.0;
  is_system = of.1;
  refused = of.2;
  first = λ i x m is. (h.each i x m is).kept;
}
fault_at sums n bases e l at h OutOfMemory of = tt
