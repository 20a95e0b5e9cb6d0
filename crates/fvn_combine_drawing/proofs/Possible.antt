-- A listed choice is possible and full exactly where it leaves no alias.
use Rattle.std.proofs.Common.{◌≡◌, ℕ, List, length, Option}
use Rattle.std.specs.Prelude.{◌↔◌}
use Rattle.fvn_terms.specs.declared.plain.OpId.{OpId}
use Rattle.fvn_terms.specs.declared.declarations.Declarations.{Declarations}
use Rattle.fvn_forms.specs.Good.{IsGood}
use Rattle.fvn_lindio.specs.declared.system.Solution.{Solution}
use Rattle.fvn_flat.specs.Solving.{problem_of}
use Rattle.fvn_flat.specs.declared.solver.Pairs.{Pairs}
use Rattle.fvn_combine_nodes.specs.Table.{NodeTable, IsWellMade}
use Rattle.fvn_combine_nodes.specs.States.{class_of}
use Rattle.fvn_combine_nodes.specs.declared.state.State.{State}
use Rattle.fvn_combine_leaves.specs.Readings.{IsReading}
use Rattle.fvn_combine_leaves.specs.declared.reading.Reading.{Reading}
use Rattle.fvn_combine_choices.specs.Choosing.{IsPossible}
use Rattle.fvn_acunify_product.specs.Wheels.{IsChoice}
use Rattle.fvn_combine_triangular.specs.CombineAdmissibleListed.{tag_in, systems_of, choice_of}
use Rattle.fvn_combine_candidates.specs.CombineCompleteFull.{IsFull}
use Rattle.fvn_combine_leaves.specs.Bases.{AreBases}
use Rattle.fvn_combine_candidates.specs.Laws.{ListedChoicesArePossible}
use Rattle.fvn_combine_candidates.specs.Turning.{LeaveNoAlias, AreWithin}
use Rattle.fvn_combine_candidates.proofs.Entries.{zip_at}
use Rattle.fvn_combine_triangular.specs.Ready.{IsReady}
use Rattle.fvn_combine_drawing.specs.Choices.{IsListedChoice}

pub possible_iff : {d : Declarations} {given : Pairs} {first : ℕ} {t : NodeTable} {s : State} {r : Reading} {bases : List (List Solution)} {tags : List (Option OpId)} {numbers : List ℕ} → ListedChoicesArePossible → IsGood d → IsWellMade t → IsReady d given first t s → IsReading d t (class_of s) r → AreBases r.sums bases → length numbers ≡ length r.sums → IsListedChoice d t (class_of s) r bases tags numbers → (IsPossible d t (class_of s) (systems_of r bases) (choice_of r tags numbers) × IsFull d t (class_of s) (systems_of r bases) (choice_of r tags numbers)) ↔ LeaveNoAlias d t (class_of s) (tag_in tags) r.sums bases numbers
possible_iff {d} {given} {first} {t} {s} {r} {bases} {tags} {numbers} law good made ready reading are as_many h =
    let iff = law d good.fits (problem_of given) ready.is_given.kinds t made ready.table (class_of s) r reading bases are h.sorted h.shared h.are_shared h.options tags h.are_tags h.wheels h.are_wheels numbers as_many in
    let within : AreWithin h.wheels numbers = λ i w is. (zip_at IsChoice h.wheels numbers h.valid i w is).bounded in
    (λ p. (iff.0 (p.0, p.1, within)).1, λ free. let q = iff.1 (h.valid, free) in (q.0, q.1))
